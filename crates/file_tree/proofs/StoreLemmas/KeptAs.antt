-- What a node in the slab shares with the one that contracts see.
use Rattle.std.proofs.Common.{◌≡◌, Option, Some, None, length, refl}
use Rattle.std.specs.Prelude.{is_some}
use Rattle.file_tree.specs.declared.store.node.Node.{Node}
use Rattle.file_tree.specs.Links.{hook_held, content_held, holds_directory_node, bytes_held_in}
use Rattle.file_tree.specs.Store.Joined.{AreKeptAs, len_held}

pub hook_kept : (o p : Option Node) → AreKeptAs o p → hook_held o ≡ hook_held p
hook_kept None None h = refl
hook_kept None (Some m) h = absurd h
hook_kept (Some n) None h = absurd h
hook_kept (Some n) (Some m) h = h.hook

pub some_kept : (o p : Option Node) → AreKeptAs o p → is_some o ≡ is_some p
some_kept None None h = refl
some_kept None (Some m) h = absurd h
some_kept (Some n) None h = absurd h
some_kept (Some n) (Some m) h = refl

pub directory_kept : (o p : Option Node) → AreKeptAs o p
    → holds_directory_node (content_held o) ≡ holds_directory_node (content_held p)
directory_kept None None h = refl
directory_kept None (Some m) h = absurd h
directory_kept (Some n) None h = absurd h
directory_kept (Some n) (Some m) h = h.directory

pub len_kept : (o p : Option Node) → AreKeptAs o p → len_held o ≡ length (bytes_held_in p)
len_kept None None h = refl
len_kept None (Some m) h = absurd h
len_kept (Some n) None h = absurd h
len_kept (Some n) (Some m) h = h.size
