-- Files and descriptors of a host, kept by each change of them.
use Rattle.std.proofs.Common.{◌≡◌, ◌≢◌, ◌⊎◌, inl, inr, ℕ, ◌+◌, ◌<◌, ◌≤◌, Bool, true, false}
use Rattle.std.proofs.Common.{List, [], ◌∷◌, ◌++◌, length, Option, Some, None, refl, sym, ap, subst}
use Rattle.std.proofs.Common.{◌∙◌, arith, length-append}
use Rattle.std.specs.Prelude.{if◌then◌else◌, is_some, unwrap_or, slice_get, slice_set}
use Rattle.std.specs.Option.{option_and_then}
use Rattle.std.specs.List.{list_any}
use Rattle.std.proofs.lemmas.Bool.{cases_eq}
use Rattle.file_tree.specs.declared.node_type.NodeType.{NodeType}
use Rattle.file_tree.specs.rules.Changes.{empty, path_at, within_path, IsFree, CanLose, CanMove}
use Rattle.file_tree.specs.rules.Files.{Name, Path, File, FileNode, Files, IsFiles}
use Rattle.file_tree.specs.rules.Files.{IsNodeName, IsSmallContent, node_of, path_of, child, used}
use Rattle.file_tree.specs.rules.Files.{is_directory, holds_directory, bytes_of_node, path_behind}
use Rattle.file_tree.specs.rules.Files.{created, removed, forgotten, renamed, with_file_bytes}
use Rattle.file_tree.specs.declared.limits.TheConstants.{NODES}
use Rattle.file_tree.proofs.Seen.{some_path}
use Rattle.file_tree.proofs.Rebuilt.{same_number}
use Rattle.file_tree.proofs.KeptFiles.{AreWithin, created_files, removed_files, forgotten_files}
use Rattle.file_tree.proofs.KeptFiles.{renamed_files, rewritten_files_are}
use Rattle.wasi_calls_rules.specs.WasiStates.{Target, Stream, Node, Descriptor, IsThere}
use Rattle.wasi_calls_rules.specs.WasiStates.{IsDescriptor, IsRemoved}
use Rattle.wasi_calls_rules.specs.Small.{names, has_path, swept}
use Rattle.wasi_calls_rules.proofs.Tables.{Table, NamesNode, AreOpen, IsLike, like_open, like_names}
use Rattle.wasi_calls_rules.proofs.Tables.{closed_open, closed_names, new_open, new_names, open_in}
use Rattle.wasi_calls_rules.proofs.Tables.{open_but, named_by, is_descriptor}
use Rattle.wasi_calls_rules.proofs.NodesAfter.{node_there, path_node, no_path_has}
use Rattle.wasi_calls_rules.proofs.NodesAfter.{has_no_path, removed_path, child_path, removed_there}
use Rattle.wasi_calls_rules.proofs.NodesAfter.{removed_before, removed_own, removed_other}
use Rattle.wasi_calls_rules.proofs.NodesAfter.{rewritten_there, rewritten_removed, renamed_there}
use Rattle.wasi_calls_rules.proofs.NodesAfter.{renamed_removed, created_there, created_removed}
use Rattle.wasi_calls_rules.proofs.NodesAfter.{forgotten_other, forgotten_there, forgotten_own}
use Rattle.wasi_calls_rules.proofs.NodesAfter.{forgotten_removed}

-- what `IsWasiState` says of files and descriptors
pub record IsFileState (fs : Files) (ds : Table) (room : ℕ) : Type 0 where
  pub are : IsFiles fs
  pub within : used fs ≤ room
  pub table : AreOpen fs ds
  pub open_nodes : (k : ℕ) → IsRemoved fs k → NamesNode ds k

-- ---- descriptors alone

pub like_kept : (fs : Files) (ds : Table) (room fd : ℕ) (old new : Descriptor)
    → IsFileState fs ds room → slice_get ds fd ≡ Some (Some old) → IsLike old new
    → IsFileState fs (slice_set ds fd (Some new)) room
like_kept fs ds room fd old new s there like = record {
  are = s.are;
  within = s.within;
  table = like_open fs ds s.table fd old there new like;
  open_nodes = λ k gone. like_names fs ds s.table fd old there new like k (s.open_nodes k gone);
}

pub new_kept : (fs : Files) (ds : Table) (room n k : ℕ) (new : Descriptor) → IsFileState fs ds room
    → slice_get ds n ≡ Some None → new.target ≡ Node k → IsDescriptor fs new
    → IsFileState fs (slice_set ds n (Some new)) room
new_kept fs ds room n k new s free target is = record {
  are = s.are;
  within = s.within;
  table = new_open fs ds s.table n free new k target is;
  open_nodes = λ j gone. new_names fs ds s.table n free (Some new) j (s.open_nodes j gone);
}

-- ---- files

pub rewritten_kept : (fs : Files) (ds : Table) (room k : ℕ) (n : FileNode) (bytes : List ℕ)
    → IsFileState fs ds room → node_of fs k ≡ Some n → is_directory fs k ≡ false
    → IsSmallContent (File bytes)
    → used fs + length bytes ≤ room + length (bytes_of_node fs k)
    → IsFileState (with_file_bytes k bytes fs) ds room
rewritten_kept fs ds room k n bytes s e file small fits =
    let w = rewritten_files_are fs s.are k n e bytes room file small fits in
    record {
      are = w.are;
      within = w.within;
      table = open_in fs (with_file_bytes k bytes fs) ds s.table (rewritten_there fs k bytes);
      open_nodes = λ j gone. s.open_nodes j (rewritten_removed fs k bytes j gone);
    }

pub created_kept : (fs : Files) (ds : Table) (room d : ℕ) (name : Name) (p : Path)
    (k : NodeType) → IsFileState fs ds room → IsFree fs d name → length fs.nodes < NODES
    → path_at fs d ++ name ∷ [] ≡ p → IsFileState (created p (empty k) fs) ds room
created_kept fs ds room d name p k s free few e =
    let w = created_files fs s.are d name k free few in
    subst (λ (q : Path). IsFileState (created q (empty k) fs) ds room) e
    (record {
      are = w.are;
      within = (let a = w.within in let b = s.within in omega (arith, a, b));
      table = open_in fs (created (path_at fs d ++ name ∷ []) (empty k) fs) ds s.table
          (created_there fs (path_at fs d ++ name ∷ []) (empty k));
      open_nodes = λ j gone.
          s.open_nodes j (created_removed fs (path_at fs d ++ name ∷ []) (empty k) j gone);
    })

-- a removed node goes with the last descriptor that names it
pub swept_kept : (fs : Files) (ds : Table) (room k : ℕ) (n : FileNode) → IsFiles fs
    → used fs ≤ room → AreOpen fs ds → node_of fs k ≡ Some n
    → ((j : ℕ) → j ≢ k → IsRemoved fs j → NamesNode ds j)
    → IsFileState (swept (Node k) ds fs) ds room
swept_kept fs ds room k n are within table e others =
    by_tests (has_path fs k) (list_any (names k) ds) refl refl
  where
    hung : has_path fs k ≡ true → (j : ℕ) → IsRemoved fs j → NamesNode ds j
    hung is j gone = by_number (cases_eq j k) where
      by_number : (j ≡ k) ⊎ (j ≢ k) → NamesNode ds j
      by_number (inl same) =
          let none = no_path_has fs k (ap (path_of fs) (sym same) ∙ removed_path fs j gone) in
          absurd (let t : true ≡ false = sym is ∙ none in cc)
      by_number (inr ne) = others j ne gone

    named : list_any (names k) ds ≡ true → (j : ℕ) → IsRemoved fs j → NamesNode ds j
    named is j gone = by_number (cases_eq j k) where
      by_number : (j ≡ k) ⊎ (j ≢ k) → NamesNode ds j
      by_number (inl same) = subst (NamesNode ds) (sym same) (named_by k ds is)
      by_number (inr ne) = others j ne gone

    by_tests : (p q : Bool) → has_path fs k ≡ p → list_any (names k) ds ≡ q
        → IsFileState (if p then fs else if q then fs else forgotten k fs) ds room
    by_tests true q is also =
        record { are = are; within = within; table = table; open_nodes = hung is }
    by_tests false true is also =
        record { are = are; within = within; table = table; open_nodes = named also }
    by_tests false false is also =
        let w = forgotten_files fs are k n e (has_no_path fs k is) in
        record {
          are = w.are;
          within = (let a = w.within in omega (arith, a, within));
          table = open_but fs (forgotten k fs) k ds table also (forgotten_there fs k);
          open_nodes = λ j gone. (let r = forgotten_removed fs k j gone in others j r.0 r.1);
        }

-- a descriptor is closed
pub closed_kept : (fs : Files) (ds : Table) (room fd : ℕ) (d : Descriptor)
    → IsFileState fs ds room → slice_get ds fd ≡ Some (Some d) → fd ≢ 3
    → IsFileState (swept d.target (slice_set ds fd None) fs) (slice_set ds fd None) room
closed_kept fs ds room fd d s there other = by_target d.target refl where
  node_number : (j k : ℕ) → Node j ≡ Node k → j ≡ k
  node_number j k e = cc

  by_target : (t : Target) → d.target ≡ t
      → IsFileState (swept t (slice_set ds fd None) fs) (slice_set ds fd None) room
  by_target (Stream i) is = record {
    are = s.are;
    within = s.within;
    table = closed_open fs ds s.table fd d there other;
    open_nodes = λ k gone. closed_names fs ds s.table fd d there k
        (λ e. absurd (let t : Stream i ≡ Node k = sym is ∙ e in cc)) (s.open_nodes k gone);
  }
  by_target (Node k) is =
      let at = node_there fs k
      (subst (IsThere fs) is (is_descriptor fs ds fd d s.table there).there) in
      swept_kept fs (slice_set ds fd None) room k at.0 s.are s.within
      (closed_open fs ds s.table fd d there other) at.1
      (λ j ne gone. closed_names fs ds s.table fd d there j
      (λ e. ne (node_number j k (sym e ∙ is))) (s.open_nodes j gone))

-- a node loses its path
pub lost_kept : (fs : Files) (ds : Table) (room k : ℕ) (n : FileNode) → IsFileState fs ds room
    → node_of fs k ≡ Some n → CanLose fs k → IsFileState (swept (Node k) ds (removed k fs)) ds room
lost_kept fs ds room k n s e can =
    let w = removed_files fs s.are k n e can in
    let own = removed_own fs k n e in
    swept_kept (removed k fs) ds room k own.0 w.are
    (let a = w.within in let b = s.within in omega (arith, a, b))
    (open_in fs (removed k fs) ds s.table (removed_there fs k)) own.1
    (λ j ne gone. s.open_nodes j (removed_before fs k j ne gone))

-- ---- a node that moves

-- what has to hold of a node and the place that it goes to
pub record CanGo (fs : Files) (k : ℕ) (from : Path) (d : ℕ) (above : Path)
    (name : Name) : Type 0 where
  pub not_root : k ≢ 1
  pub path : path_of fs k ≡ Some from
  pub parent : path_of fs d ≡ Some above
  pub directory : is_directory fs d ≡ true
  pub named : IsNodeName name
  pub outside : is_some (path_behind from above) ≡ false
  pub free : child fs d name ≡ None

pub path_at_is : (fs : Files) (k : ℕ) (p : Path) → path_of fs k ≡ Some p → path_at fs k ≡ p
path_at_is fs k p e = ap (λ (o : Option Path). unwrap_or o []) e

pub can_move : (fs : Files) (k : ℕ) (from : Path) (d : ℕ) (above : Path) (name : Name)
    → CanGo fs k from d above name → CanMove fs k d name
can_move fs k from d above name g = record {
  not_root = g.not_root;
  there = ap is_some g.path;
  free = record {
    is_directory = g.directory;
    path = ap is_some g.parent;
    free = g.free;
    named = g.named;
  };
  outside = ap (λ (o : Option Path). within_path o (path_of fs d)) g.path
      ∙ ap (within_path (Some from)) g.parent ∙ g.outside;
}

pub moved_kept : (fs : Files) (ds : Table) (room k : ℕ) (from : Path) (d : ℕ) (above : Path)
    (name : Name) → IsFileState fs ds room → CanGo fs k from d above name
    → IsFileState (renamed from (above ++ name ∷ []) fs) ds room
moved_kept fs ds room k from d above name s g =
    let at = path_node fs k from g.path in
    let w = renamed_files fs s.are k at.0 at.1 d name (can_move fs k from d above name g) in
    let old = path_at_is fs k from g.path in
    let new = path_at_is fs d above g.parent in
    let within : AreWithin (renamed from (above ++ name ∷ []) fs) (used fs) =
    subst (λ (q : Path). AreWithin (renamed from (q ++ name ∷ []) fs) (used fs)) new
    (subst (λ (q : Path). AreWithin (renamed q (path_at fs d ++ name ∷ []) fs) (used fs)) old w) in
    record {
      are = within.are;
      within = (let a = within.within in let b = s.within in omega (arith, a, b));
      table = open_in fs (renamed from (above ++ name ∷ []) fs) ds s.table
          (renamed_there fs from (above ++ name ∷ []));
      open_nodes = λ j gone. s.open_nodes j (renamed_removed fs from (above ++ name ∷ []) j gone);
    }

-- ---- a node that moves over another

swept_other : (fs : Files) (ds : Table) (j i : ℕ) → i ≢ j
    → node_of (swept (Node j) ds fs) i ≡ node_of fs i
swept_other fs ds j i ne = by_tests (has_path fs j) (list_any (names j) ds) where
  by_tests : (p q : Bool)
      → node_of (if p then fs else if q then fs else forgotten j fs) i ≡ node_of fs i
  by_tests true q = refl
  by_tests false true = refl
  by_tests false false = forgotten_other fs j i ne

swept_path : (fs : Files) (ds : Table) (j : ℕ) → path_of fs j ≡ None
    → path_of (swept (Node j) ds fs) j ≡ None
swept_path fs ds j e = by_tests (has_path fs j) (list_any (names j) ds) where
  by_tests : (p q : Bool) → path_of (if p then fs else if q then fs else forgotten j fs) j ≡ None
  by_tests true q = e
  by_tests false true = e
  by_tests false false = ap (option_and_then (λ (n : FileNode). n.path)) (forgotten_own fs j)

module _ (fs : Files) (ds : Table) (j : ℕ) where
  abbrev pub cleared : Files
  cleared = swept (Node j) ds (removed j fs)

  pub cleared_other : (i : ℕ) → i ≢ j → node_of cleared i ≡ node_of fs i
  cleared_other i ne = swept_other (removed j fs) ds j i ne ∙ removed_other fs j i ne

  cleared_path : (n : FileNode) → node_of fs j ≡ Some n → path_of cleared j ≡ None
  cleared_path n e =
      let own = removed_own fs j n e in
      swept_path (removed j fs) ds j
      (ap (option_and_then (λ (n : FileNode). n.path)) own.1 ∙ own.2)

  -- where it stood nothing is
  pub free_then : (room d : ℕ) (above : Path) (name : Name) → IsFileState fs ds room
      → IsFileState cleared ds room → path_of fs d ≡ Some above → d ≢ j
      → path_of fs j ≡ Some (above ++ name ∷ []) → child cleared d name ≡ None
  free_then room d above name s after parent other own = by_child (child cleared d name) refl where
    parent_after : path_of cleared d ≡ Some above
    parent_after = ap (option_and_then (λ (n : FileNode). n.path)) (cleared_other d other) ∙ parent

    no_child : (i : ℕ) → path_of cleared i ≡ Some (above ++ name ∷ []) → (i ≡ j) ⊎ (i ≢ j) → ⊥
    no_child i path (inl same) =
        let at = path_node fs j (above ++ name ∷ []) own in
        let none = ap (path_of cleared) same ∙ cleared_path at.0 at.1 in
        absurd (let t : None ≡ Some (above ++ name ∷ []) = sym none ∙ path in cc)
    no_child i path (inr ne) =
        let before =
        sym (ap (option_and_then (λ (n : FileNode). n.path)) (cleared_other i ne)) ∙ path in
        ne (same_number fs s.are i j (above ++ name ∷ []) before own)

    by_child : (o : Option ℕ) → child cleared d name ≡ o → child cleared d name ≡ None
    by_child None is = is
    by_child (Some i) is =
        let path = child_path cleared d i name above after.are parent_after is in
        absurd (no_child i path (cases_eq i j))

  pub moved_over_kept : (room k : ℕ) (from : Path) (d : ℕ) (above : Path) (name : Name)
      → IsFileState fs ds room → IsFileState cleared ds room → k ≢ 1 → k ≢ j
      → path_of fs k ≡ Some from → path_of fs d ≡ Some above → is_directory fs d ≡ true
      → IsNodeName name → is_some (path_behind from above) ≡ false → path_of fs j
      ≡ Some (above ++ name ∷ []) → IsFileState (renamed from (above ++ name ∷ []) cleared) ds room
  moved_over_kept room k from d above name s after not_root differ path parent directory named
      outside own =
      moved_kept cleared ds room k from d above name after (record {
        not_root = not_root;
        path = ap (option_and_then (λ (n : FileNode). n.path)) (cleared_other k differ) ∙ path;
        parent = ap (option_and_then (λ (n : FileNode). n.path)) (cleared_other d other) ∙ parent;
        directory = ap holds_directory (cleared_other d other) ∙ directory;
        named = named;
        outside = outside;
        free = free_then room d above name s after parent other own;
      })
    where
      other : d ≢ j
      other same =
          let longer : above ≡ above ++ name ∷ [] =
          some_path above (above ++ name ∷ []) (sym parent ∙ ap (path_of fs) same ∙ own) in
          let size = ap (λ (p : Path). length p) longer in
          absurd (omega (arith, size, length-append above (name ∷ [])))
