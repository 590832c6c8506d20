-- Nodes among the nodes of a file system, and entries among those of a directory.
use Rattle.std.proofs.Common.{◌≡◌, ◌⊎◌, inl, inr, ℕ, ◌+◌, ◌≤◌, Bool, true, false, cond, eqb, List}
use Rattle.std.proofs.Common.{[], ◌∷◌, ◌++◌, Option, Some, None, refl, sym, ap, subst, ◌∙◌, arith}
use Rattle.std.specs.Prelude.{find, option_map}
use Rattle.std.specs.Option.{option_and_then}
use Rattle.std.specs.List.{AllByRecursion}
use Rattle.std.proofs.lemmas.Bool.{eqb-true, eq-eqb, ne_eqb}
use Rattle.file_tree.specs.rules.Files.{Name, Path, FileNode, Entry, is_before}
use Rattle.file_tree.specs.rules.Files.{name_behind, entry_of, entries_in, inserted, sorted}
use Rattle.file_tree.specs.rules.Files.{AreRising, HasPath, HaveDistinctPaths}
use Rattle.file_tree.proofs.Order.{all_sorted}
use Rattle.file_tree.proofs.Seen.{front_name, name_is_behind}
use Rattle.file_tree.specs.Links.{with_entry}
use Rattle.file_tree.proofs.Rebuilt.{numbers_from}

-- x is in the list
abbrev pub IsAmong : {X : Type 0} → X → List X → Type 0
IsAmong x [] = ⊥
IsAmong x (y ∷ ys) = (x ≡ y) ⊎ IsAmong x ys

pub all_among : (X : Type 0) (P : X → Type 0) (xs : List X) (x : X) → AllByRecursion P xs
    → IsAmong x xs → P x
all_among X P [] x h k = absurd k
all_among X P (y ∷ xs) x h (inl e) = subst P (sym e) h.0
all_among X P (y ∷ xs) x h (inr k) = all_among X P xs x h.1 k

pub among_all : (X : Type 0) (P : X → Type 0) (xs : List X) → ((x : X) → IsAmong x xs → P x)
    → AllByRecursion P xs
among_all X P [] h = tt
among_all X P (x ∷ xs) h = (h x (inl refl), among_all X P xs (λ y k. h y (inr k)))

-- ---- nodes by their numbers

pub found_among : (k : ℕ) (ns : List FileNode) (n : FileNode)
    → find (λ (m : FileNode). eqb m.number k) ns ≡ Some n → IsAmong n ns × (n.number ≡ k)
found_among k [] n e = absurd cc
found_among k (m ∷ ns) n e = by (eqb m.number k) refl (found_among k ns n) e where
  some_is : (x y : FileNode) → Some x ≡ Some y → x ≡ y
  some_is x y e = cc

  by : (b : Bool) → eqb m.number k ≡ b
      → (find (λ (m : FileNode). eqb m.number k) ns ≡ Some n → IsAmong n ns × (n.number ≡ k))
      → cond b (Some m) (find (λ (m : FileNode). eqb m.number k) ns) ≡ Some n
      → ((n ≡ m) ⊎ IsAmong n ns) × (n.number ≡ k)
  by true is later e = (let same : n ≡ m = sym (some_is m n e) in
      (inl same, ap (λ (x : FileNode). x.number) same ∙ eqb-true m.number k is))
  by false is later e = (let r = later e in (inr r.0, r.1))

-- each node is found by its number
pub found_own : (least : ℕ) (ns : List FileNode) (next : ℕ) (n : FileNode)
    → AreRising least ns next → IsAmong n ns
    → find (λ (m : FileNode). eqb m.number n.number) ns ≡ Some n
found_own least [] next n h k = absurd k
found_own least (m ∷ ns) next n h (inl e) = rw
    (eq-eqb m.number n.number (ap (λ (x : FileNode). x.number) (sym e)))
    (ap (λ (x : FileNode). Some x) (sym e))
found_own least (m ∷ ns) next n h (inr k) =
    let above : m.number + 1 ≤ n.number = all_among FileNode
    (λ (x : FileNode). m.number + 1 ≤ x.number) ns n (numbers_from (m.number + 1) ns next h.1)
    k in
    rw (ne_eqb m.number n.number (λ e. absurd (omega (arith, above, e))))
    (found_own (m.number + 1) ns next n h.1 k)

-- one path is that of one node
pub one_path : (ns : List FileNode) (n m : FileNode) (p : Path) → HaveDistinctPaths ns
    → IsAmong n ns → IsAmong m ns → HasPath n.path p → HasPath m.path p → n ≡ m
one_path [] n m p d a b h k = absurd a
one_path (x ∷ ns) n m p d (inl a) (inl b) h k = a ∙ sym b
one_path (x ∷ ns) n m p d (inl a) (inr b) h k =
    absurd (all_among FileNode
    (λ (other : FileNode). (q : Path) → HasPath x.path q → HasPath other.path q → ⊥) ns m d.0 b
    p (subst (λ (y : FileNode). HasPath y.path p) a h) k)
one_path (x ∷ ns) n m p d (inr a) (inl b) h k =
    absurd (all_among FileNode
    (λ (other : FileNode). (q : Path) → HasPath x.path q → HasPath other.path q → ⊥) ns n d.0 a
    p (subst (λ (y : FileNode). HasPath y.path p) b k) h)
one_path (x ∷ ns) n m p d (inr a) (inr b) h k = one_path ns n m p d.1 a b h k

-- ---- entries

abbrev pub entry_with : Name → ℕ → Entry
entry_with name number = record { name = name; number = number }

pub next_entries : (p : Path) (n : FileNode) (ns : List FileNode) (o : Option Entry)
    → entry_of p n ≡ o → entries_in p (n ∷ ns) ≡ with_entry o (entries_in p ns)
next_entries p n ns None e = rw e refl
next_entries p n ns (Some x) e = rw e refl

-- a node after a path has an entry
pub has_entry : (p : Path) (name : Name) (ns : List FileNode) (n : FileNode) → IsAmong n ns
    → n.path ≡ Some (p ++ name ∷ []) → IsAmong (entry_with name n.number) (entries_in p ns)
has_entry p name [] n h is = absurd h
has_entry p name (m ∷ ns) n (inl e) is =
    subst (IsAmong (entry_with name n.number))
    (sym (next_entries p m ns (Some (entry_with name n.number)) entry_is)) (inl refl) where
      of_path : (o : Option Path) → o ≡ Some (p ++ name ∷ [])
          → option_and_then (name_behind p) o ≡ Some name
      of_path o e = ap (option_and_then (name_behind p)) e ∙ front_name p name

      entry_is : entry_of p m ≡ Some (entry_with name n.number)
      entry_is = subst (λ (x : FileNode). entry_of p x ≡ Some (entry_with name n.number)) e
          (ap (option_map (λ (x : Name). entry_with x n.number)) (of_path n.path is))
has_entry p name (m ∷ ns) n (inr h) is = by (entry_of p m) refl (has_entry p name ns n h is) where
  by : (o : Option Entry) → entry_of p m ≡ o → IsAmong (entry_with name n.number) (entries_in p ns)
      → IsAmong (entry_with name n.number) (entries_in p (m ∷ ns))
  by None e k = subst (IsAmong (entry_with name n.number)) (sym (next_entries p m ns None e)) k
  by (Some x) e k = subst (IsAmong (entry_with name n.number))
      (sym (next_entries p m ns (Some x) e)) (inr k)

-- the node that an entry is of
pub record IsEntryOf (p : Path) (ns : List FileNode) (e : Entry) : Type 0 where
  pub node : FileNode
  pub among : IsAmong node ns
  pub number : node.number ≡ e.number
  pub path : node.path ≡ Some (p ++ e.name ∷ [])

pub entry_is_of : (p : Path) (n : FileNode) (e : Entry) → entry_of p n ≡ Some e
    → (n.number ≡ e.number) × (n.path ≡ Some (p ++ e.name ∷ []))
entry_is_of p n e is = by n.path is where
  some_entry : (a b : Entry) → Some a ≡ Some b → a ≡ b
  some_entry a b e = cc

  by_name : (q : Path) (o : Option Name) → name_behind p q ≡ o
      → option_map (λ (x : Name). entry_with x n.number) o ≡ Some e
      → (n.number ≡ e.number) × (Some q ≡ Some (p ++ e.name ∷ []))
  by_name q None b is = absurd cc
  by_name q (Some name) b is =
      let same = some_entry (entry_with name n.number) e is in (
        ap (λ (x : Entry). x.number) same,
        ap (λ (x : Path). Some x)
            (name_is_behind p q name b ∙ ap (λ (x : Entry). p ++ x.name ∷ []) same),
      )

  by : (o : Option Path)
      → option_map (λ (x : Name). entry_with x n.number) (option_and_then (name_behind p) o) ≡ Some
      e → (n.number ≡ e.number) × (o ≡ Some (p ++ e.name ∷ []))
  by None is = absurd cc
  by (Some q) is = by_name q (name_behind p q) refl is

pub is_entry_of : (p : Path) (ns : List FileNode) (e : Entry) → IsAmong e (entries_in p ns)
    → IsEntryOf p ns e
is_entry_of p [] e h = absurd h
is_entry_of p (n ∷ ns) e h = by (entry_of p n) refl h (is_entry_of p ns e) where
  further : IsEntryOf p ns e → IsEntryOf p (n ∷ ns) e
  further r = record { node = r.node; among = inr r.among; number = r.number; path = r.path }

  here : (x : Entry) → entry_of p n ≡ Some x → (e ≡ x) ⊎ IsAmong e (entries_in p ns)
      → (IsAmong e (entries_in p ns) → IsEntryOf p ns e) → IsEntryOf p (n ∷ ns) e
  here x is (inl same) later =
      (let of = entry_is_of p n e (is ∙ ap (λ (y : Entry). Some y) (sym same)) in record
      { node = n; among = inl refl; number = of.0; path = of.1 })
  here x is (inr k) later = further (later k)

  by : (o : Option Entry) → entry_of p n ≡ o → IsAmong e (entries_in p (n ∷ ns))
      → (IsAmong e (entries_in p ns) → IsEntryOf p ns e) → IsEntryOf p (n ∷ ns) e
  by None is k later = further (later (subst (IsAmong e) (next_entries p n ns None is) k))
  by (Some x) is k later = here x is (subst (IsAmong e) (next_entries p n ns (Some x) is) k) later

-- ---- in order

among_inserted : (e f : Entry) (es : List Entry) → (e ≡ f) ⊎ IsAmong e es
    → IsAmong e (inserted f es)
among_inserted e f [] h = h
among_inserted e f (g ∷ es) h = by (is_before f.name g.name) h (among_inserted e f es) where
  by : (b : Bool) → (e ≡ f) ⊎ ((e ≡ g) ⊎ IsAmong e es)
      → ((e ≡ f) ⊎ IsAmong e es → IsAmong e (inserted f es))
      → IsAmong e (cond b (f ∷ g ∷ es) (g ∷ inserted f es))
  by true h later = h
  by false (inl same) later = inr (later (inl same))
  by false (inr (inl same)) later = inl same
  by false (inr (inr k)) later = inr (later (inr k))

pub among_sorted : (e : Entry) (es : List Entry) → IsAmong e es → IsAmong e (sorted es)
among_sorted e [] h = absurd h
among_sorted e (f ∷ es) (inl same) = among_inserted e f (sorted es) (inl same)
among_sorted e (f ∷ es) (inr h) = among_inserted e f (sorted es) (inr (among_sorted e es h))

pub sorted_among : (e : Entry) (es : List Entry) → IsAmong e (sorted es) → IsAmong e es
sorted_among e es h = all_among Entry (λ (f : Entry). IsAmong f es) (sorted es) e
    (all_sorted (λ (f : Entry). IsAmong f es) es
    (among_all Entry (λ (f : Entry). IsAmong f es) es (λ f k. k))) h
