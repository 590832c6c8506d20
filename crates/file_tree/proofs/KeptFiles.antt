-- What a change leaves of a file system is one: a node is made, loses its path, is forgotten or
-- moved, or a file gets other bytes.
use Rattle.std.proofs.Common.{◌≡◌, ℕ, suc, ◌+◌, ◌<◌, ◌≤◌, Bool, true, false, cond, eqb, List, []}
use Rattle.std.proofs.Common.{◌∷◌, ◌++◌, length, get_or, Some, refl, sym, ap, subst, ◌∙◌, arith}
use Rattle.std.specs.Prelude.{is_some}
use Rattle.std.proofs.lemmas.Bool.{eqb-true, eq-eqb}
use Rattle.file_tree.specs.declared.node_type.NodeType.{NodeType}
use Rattle.file_tree.specs.declared.store.node.Hook.TheVariants.{In}
use Rattle.file_tree.specs.declared.store.node.NodeContent.TheVariants as content
use Rattle.file_tree.specs.declared.store.node.Node.{Node}
use Rattle.file_tree.specs.Store.Bodies.{Joined}
use Rattle.file_tree.specs.Store.Stored.{changed}
use Rattle.file_tree.specs.rules.Changes.{empty, path_at, IsFree, CanLose, CanMove}
use Rattle.file_tree.specs.rules.Files.{Name, FileNode, Files, File, IsFiles, IsSmallContent}
use Rattle.file_tree.specs.rules.Files.{node_of, path_of, is_directory, bytes_of_node, used}
use Rattle.file_tree.specs.rules.Files.{created, removed, forgotten, renamed, with_file_bytes}
use Rattle.file_tree.specs.declared.limits.TheConstants.{NODES}
use Rattle.file_tree.specs.Links.{node_in, AreNodes, files, used_in, IsPlace}
use Rattle.file_tree.proofs.Lookups.{node_at_place, used_shown}
use Rattle.file_tree.proofs.Lists.{used_changed}
use Rattle.file_tree.proofs.Grows.{is_made}
use Rattle.file_tree.proofs.Removes.{is_lost}
use Rattle.file_tree.proofs.Forgets.{is_forgotten}
use Rattle.file_tree.proofs.Moves.{is_moved}
use Rattle.file_tree.proofs.Contents.{Rewrites, rewritten_nodes, rewritten_files, file_at, bytes_at}
use Rattle.file_tree.proofs.IsFiles.{are_files}
use Rattle.file_tree.proofs.Rebuilt.{content_kept, content_same, rebuilt, rebuilt_are, rebuilt_show}
use Rattle.file_tree.proofs.Rebuilt.{there}

-- where a node is that is found
pub place_in : (ns : List Node) (k : ℕ) (n : Node) → node_in ns k ≡ Some n
    → (i : ℕ) × IsPlace ns k i
place_in [] k n e = absurd (cc)
place_in (m ∷ ns) k n e = by_test (eqb m.number k) refl (place_in ns k n) e where
  by_test : (b : Bool) → eqb m.number k ≡ b
      → (node_in ns k ≡ Some n → (i : ℕ) × IsPlace ns k i)
      → cond b (Some m) (node_in ns k) ≡ Some n → (i : ℕ) × IsPlace (m ∷ ns) k i
  by_test true is later e = (0, eqb-true m.number k is)
  by_test false is later e =
      (let r = later e in (suc r.0, ((λ same. absurd (let t = eq-eqb m.number k same in cc)), r.1)))

-- what nodes show is a file system with as many bytes
record AreShown (fs : Files) (size : ℕ) : Type 0 where
  are : IsFiles fs
  uses : used fs ≡ size

shown : (ns : List Node) (next : ℕ) (fs : Files) → AreNodes ns next → files ns next ≡ fs
    → AreShown fs (used_in ns)
shown ns next fs are e = record {
  are = subst IsFiles e (are_files ns next are);
  uses = sym (ap used e) ∙ used_shown ns next;
}

-- files that are a file system with at most so many bytes
pub record AreWithin (fs : Files) (most : ℕ) : Type 0 where
  pub are : IsFiles fs
  pub within : used fs ≤ most

some_node : (a b : Node) → Some a ≡ Some b → a ≡ b
some_node a b e = cc

module _ (fs : Files) (are : IsFiles fs) where
  abbrev ns : List Node
  ns = rebuilt fs are

  ns_are : AreNodes ns fs.next
  ns_are = rebuilt_are fs are

  ns_show : files ns fs.next ≡ fs
  ns_show = rebuilt_show fs are

  used_kept : used_in ns ≡ used fs
  used_kept = sym (used_shown ns fs.next) ∙ ap used ns_show

  pub created_files : (d : ℕ) (name : Name) (k : NodeType) → IsFree fs d name
      → length fs.nodes < NODES
      → AreWithin (created (path_at fs d ++ name ∷ []) (empty k) fs) (used fs)
  created_files d name k free few =
      let n : Node =
      record { number = fs.next; hook = In d name; content = content_kept (empty k) } in
      let made = is_made ns fs.next d name k n fs ns_show ns_are free few refl refl
      (content_same (empty k)) in
      let s = shown (ns ++ n ∷ []) (fs.next + 1) _ made.nodes made.files_are in
      record { are = s.are; within = omega (arith, s.uses, made.used, used_kept) }

  module _ (k : ℕ) (n : FileNode) (e : node_of fs k ≡ Some n) where
    abbrev x : Node
    x = (there fs are k n e).0

    x_there : node_in ns k ≡ Some x
    x_there = (there fs are k n e).1

    abbrev at : ℕ
    at = (place_in ns k x x_there).0

    place : IsPlace ns k at
    place = (place_in ns k x x_there).1

    pub removed_files : CanLose fs k → AreWithin (removed k fs) (used fs)
    removed_files can =
        let lost = is_lost ns fs.next k at fs ns_show ns_are place can in
        let s = shown _ fs.next _ lost.nodes lost.files_are in
        record { are = s.are; within = omega (arith, s.uses, lost.used, used_kept) }

    pub forgotten_files : is_some (path_of fs k) ≡ false → AreWithin (forgotten k fs) (used fs)
    forgotten_files gone =
        let own : x ≡ get_or ns at x =
        some_node x (get_or ns at x) (sym x_there ∙ node_at_place ns k at x place) in
        let lost = is_forgotten ns fs.next k at x fs ns_show ns_are place own gone in
        let s = shown _ fs.next _ lost.nodes lost.files_are in
        record { are = s.are; within = omega (arith, s.uses, lost.used, used_kept) }

    pub renamed_files : (d : ℕ) (name : Name) → CanMove fs k d name
        → AreWithin (renamed (path_at fs k) (path_at fs d ++ name ∷ []) fs) (used fs)
    renamed_files d name can =
        let moved = is_moved ns fs.next k at d name fs ns_show ns_are place can in
        let s = shown _ fs.next _ moved.nodes moved.files_are in
        record { are = s.are; within = omega (arith, s.uses, moved.used, used_kept) }

    pub rewritten_files_are : (bytes : List ℕ) (room : ℕ) → is_directory fs k ≡ false
        → IsSmallContent (File bytes)
        → used fs + length bytes ≤ room + length (bytes_of_node fs k)
        → AreWithin (with_file_bytes k bytes fs) room
    rewritten_files_are bytes room file small fits =
        let f : Node → Node =
        λ (m : Node). record {
          number = m.number;
          hook = m.hook;
          content = content.File
              (Joined bytes);
        } in
        let r : Rewrites ns fs.next k at x f bytes = record {
          are = ns_are;
          place = place;
          there = x_there;
          file = file_at ns fs.next k x fs ns_show x_there file;
          numbers = λ m. refl;
          hooks = λ m. refl;
          content = refl;
          small = small;
        } in
        let s = shown (changed f at ns) fs.next (with_file_bytes k bytes fs)
        (rewritten_nodes ns fs.next k at x f bytes r)
        (rewritten_files ns fs.next k at x f bytes r ∙ ap (with_file_bytes k bytes) ns_show) in
        let sum = used_changed f ns k at x place x_there in
        let old = ap (λ (b : List ℕ). length b) (bytes_at ns fs.next k x fs ns_show x_there) in
        record { are = s.are; within = omega (arith, s.uses, sum, old, used_kept, fits) }
