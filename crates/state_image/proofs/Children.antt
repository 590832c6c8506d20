-- Directories have together no more entries than there are nodes.
use Rattle.std.proofs.Common.{◌≡◌, ℕ, ◌+◌, ◌≤◌, List, [], ◌∷◌, ◌++◌, length, Option}
use Rattle.std.proofs.Common.{Some, None, refl, sym, ap, ◌∙◌, arith}
use Rattle.std.specs.List.{AllByRecursion}
use Rattle.std.proofs.lemmas.List.{append_cancel_right}
use Rattle.std.proofs.lemmas.Option.{same_Some}
use Rattle.file_tree.specs.rules.Files.{Name, Path, FileNode, Entry, entry_of, entries_in, HasPath}
use Rattle.file_tree.specs.rules.Files.{HaveDistinctPaths}
use Rattle.state_image.proofs.Among.{next_entries, entry_is_of}
use Rattle.state_image.proofs.FilesWithin.{one_last}

-- how many entries the nodes of a list make under a path, and under all paths of other nodes
abbrev pub children : List FileNode → Option Path → ℕ
children ns None = 0
children ns (Some p) = length (entries_in p ns)

abbrev pub all_children : List FileNode → List FileNode → ℕ
all_children ns [] = 0
all_children ns (m ∷ ms) = children ns m.path + all_children ns ms

-- ---- one node makes one at most

abbrev one_if : Option Entry → ℕ
one_if None = 0
one_if (Some e) = 1

abbrev one_child : FileNode → Option Path → ℕ
one_child n None = 0
one_child n (Some p) = one_if (entry_of p n)

abbrev all_of_one : FileNode → List FileNode → ℕ
all_of_one n [] = 0
all_of_one n (m ∷ ms) = one_child n m.path + all_of_one n ms

same_front_path : (a b : Path) (x y : Name) → a ++ x ∷ [] ≡ b ++ y ∷ [] → a ≡ b
same_front_path a b x y e =
    append_cancel_right a b (x ∷ [])
    (e ∙ ap (λ (z : Name). b ++ z ∷ []) (sym (one_last a b x y e)))

-- not of two paths
not_both : (n : FileNode) (p q : Path) (e f : Entry) → entry_of p n ≡ Some e
    → entry_of q n ≡ Some f → p ≡ q
not_both n p q e f h k =
    let a = (entry_is_of p n e h).1 in
    let b = (entry_is_of q n f k).1 in
    same_front_path p q e.name f.name (same_Some (p ++ e.name ∷ []) (q ++ f.name ∷ []) (sym a ∙ b))

none_beside : (n : FileNode) (p : Path) (e : Entry) → entry_of p n ≡ Some e → (ms : List FileNode)
    → AllByRecursion (λ (other : FileNode). (q : Path) → HasPath (Some p) q → HasPath other.path q
    → ⊥) ms → all_of_one n ms ≡ 0
none_beside n p e is [] h = refl
none_beside n p e is (m ∷ ms) h = by m.path h.0 (none_beside n p e is ms h.1) where
  by_entry : (q : Path) (o : Option Entry) → entry_of q n ≡ o → (p ≡ q → ⊥)
      → one_child n (Some q) ≡ 0
  by_entry q None k apart = ap one_if k
  by_entry q (Some f) k apart = absurd (apart (not_both n p q e f is k))

  by : (o : Option Path) → ((q : Path) → p ≡ q → HasPath o q → ⊥) → all_of_one n ms ≡ 0
      → one_child n o + all_of_one n ms ≡ 0
  by None apart rest = omega (arith, rest)
  by (Some q) apart rest =
      (let mine = by_entry q (entry_of q n) refl (λ same. apart q same refl) in omega
      (arith, mine, rest))

one_at_most : (n : FileNode) (ms : List FileNode) → HaveDistinctPaths ms → all_of_one n ms ≤ 1
one_at_most n [] d = omega arith
one_at_most n (m ∷ ms) d = by m.path d.0 (one_at_most n ms d.1) where
  by_entry : (p : Path) (o : Option Entry) → entry_of p n ≡ o
      → AllByRecursion (λ (other : FileNode). (q : Path) → HasPath (Some p) q
      → HasPath other.path q → ⊥) ms
      → all_of_one n ms ≤ 1 → one_child n (Some p) + all_of_one n ms ≤ 1
  by_entry p None k apart rest =
      (let mine : one_child n (Some p) ≡ 0 = ap one_if k in omega (arith, mine, rest))
  by_entry p (Some e) k apart rest =
      let mine : one_child n (Some p) ≡ 1 = ap one_if k in
      omega (arith, mine, none_beside n p e k ms apart)

  by : (o : Option Path)
      → AllByRecursion (λ (other : FileNode). (q : Path) → HasPath o q → HasPath other.path q → ⊥)
      ms
      → all_of_one n ms ≤ 1 → one_child n o + all_of_one n ms ≤ 1
  by None apart rest = omega (arith, rest)
  by (Some p) apart rest = by_entry p (entry_of p n) refl apart rest

-- ---- node after node

next_children : (n : FileNode) (ns : List FileNode) (o : Option Path)
    → children (n ∷ ns) o ≡ one_child n o + children ns o
next_children n ns None = refl
next_children n ns (Some p) = by (entry_of p n) refl where
  by : (o : Option Entry) → entry_of p n ≡ o
      → length (entries_in p (n ∷ ns)) ≡ one_if (entry_of p n) + length (entries_in p ns)
  by None e = (let none : one_if (entry_of p n) ≡ 0 = ap one_if e in omega
      (arith, none, ap length (next_entries p n ns None e)))
  by (Some x) e = (let one : one_if (entry_of p n) ≡ 1 = ap one_if e in omega
      (arith, one, ap length (next_entries p n ns (Some x) e)))

split_children : (n : FileNode) (ns ms : List FileNode)
    → all_children (n ∷ ns) ms ≡ all_of_one n ms + all_children ns ms
split_children n ns [] = refl
split_children n ns (m ∷ ms) = omega (arith, next_children n ns m.path, split_children n ns ms)

no_children : (ms : List FileNode) → all_children [] ms ≡ 0
no_children [] = refl
no_children (m ∷ ms) = by m.path (no_children ms) where
  by : (o : Option Path) → all_children [] ms ≡ 0 → children [] o + all_children [] ms ≡ 0
  by None rest = omega (arith, rest)
  by (Some p) rest = omega (arith, rest)

pub few_children : (ns ms : List FileNode) → HaveDistinctPaths ms → all_children ns ms ≤ length ns
few_children [] ms d = omega (arith, no_children ms)
few_children (n ∷ ns) ms d = omega
    (arith, split_children n ns ms, one_at_most n ms d, few_children ns ms d)
