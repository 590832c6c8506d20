-- Nodes without a path that are forgotten one by one, the last one first.
use Rattle.std.proofs.Common.{◌≡◌, ℕ, zero, suc, ◌+◌, ◌-◌, ◌<◌, ◌≤◌, Bool, true, false, cond}
use Rattle.std.proofs.Common.{eqb, List, [], ◌∷◌, length, Option, Some, None, refl, sym, ap, ◌∙◌}
use Rattle.std.proofs.Common.{arith, not}
use Rattle.std.specs.Prelude.{filter, find, is_some, slice_get}
use Rattle.std.specs.Option.{option_and_then, option_map}
use Rattle.std.proofs.lemmas.Bool.{eq-eqb, ne_eqb}
use Rattle.file_tree.specs.rules.Files.{FileNode, Files, AreRising, path_of, forgotten}
use Rattle.file_tree.specs.rules.Listings.{number_at}

abbrev pub is_named : FileNode → Bool
is_named n = is_some n.path

-- the nodes before a place, and those from it on that have a path
abbrev pub named_from : ℕ → List FileNode → List FileNode
named_from zero ns = filter is_named ns
named_from (suc place) [] = []
named_from (suc place) (n ∷ ns) = n ∷ named_from place ns

-- the files of these
abbrev pub files_from : ℕ → Files → Files
files_from place fs = record { nodes = named_from place fs.nodes; next = fs.next }

all_before : (ns : List FileNode) → ns ≡ named_from (length ns) ns
all_before [] = refl
all_before (n ∷ ns) = ap (λ (ms : List FileNode). n ∷ ms) (all_before ns)

same_at : (place : ℕ) (ns : List FileNode)
    → slice_get (named_from (suc place) ns) place ≡ slice_get ns place
same_at place [] = refl
same_at zero (n ∷ ns) = refl
same_at (suc place) (n ∷ ns) = same_at place ns

some_is : (m n : FileNode) → Some m ≡ Some n → m ≡ n
some_is m n e = cc

-- a node of the list has a number from the first one on
no_lower : (least : ℕ) (ns : List FileNode) (next place : ℕ) (n : FileNode)
    → AreRising least ns next → slice_get ns place ≡ Some n → least ≤ n.number
no_lower least [] next place n rising at = absurd cc
no_lower least (m ∷ ns) next zero n rising at =
    let same = ap (λ (x : FileNode). x.number) (some_is m n at) in
    omega (arith, rising.0, same)
no_lower least (m ∷ ns) next (suc place) n rising at =
    let above = no_lower (m.number + 1) ns next place n rising.1 at in
    omega (arith, rising.0, above)

-- ---- the node at the last place that is looked at

nothing_there : (place : ℕ) (ns : List FileNode) → slice_get ns place ≡ None
    → named_from (suc place) ns ≡ named_from place ns
nothing_there zero [] at = refl
nothing_there (suc place) [] at = refl
nothing_there zero (m ∷ ns) at = absurd cc
nothing_there (suc place) (m ∷ ns) at =
    ap (λ (ms : List FileNode). m ∷ ms) (nothing_there place ns at)

named_there : (place : ℕ) (ns : List FileNode) (n : FileNode) → slice_get ns place ≡ Some n
    → is_named n ≡ true → named_from (suc place) ns ≡ named_from place ns
named_there place [] n at named = absurd cc
named_there zero (m ∷ ns) n at named =
    let is : is_named m ≡ true = ap is_named (some_is m n at) ∙ named in
    sym (ap (λ (b : Bool). cond b (m ∷ filter is_named ns) (filter is_named ns)) is)
named_there (suc place) (m ∷ ns) n at named =
    ap (λ (ms : List FileNode). m ∷ ms) (named_there place ns n at named)

found_there : (least : ℕ) (ns : List FileNode) (next place : ℕ) (n : FileNode)
    → AreRising least ns next → slice_get ns place ≡ Some n
    → find (λ (m : FileNode). eqb m.number n.number) (named_from (suc place) ns) ≡ Some n
found_there least [] next place n rising at = absurd cc
found_there least (m ∷ ns) next zero n rising at =
    let rest = find (λ (x : FileNode). eqb x.number n.number) (filter is_named ns) in
    ap (λ (b : Bool). cond b (Some m) rest)
    (eq-eqb m.number n.number (ap (λ (x : FileNode). x.number) (some_is m n at))) ∙ at
found_there least (m ∷ ns) next (suc place) n rising at =
    let above = no_lower (m.number + 1) ns next place n rising.1 at in
    let rest = find (λ (x : FileNode). eqb x.number n.number) (named_from (suc place) ns) in
    ap (λ (b : Bool). cond b (Some m) rest)
    (ne_eqb m.number n.number (λ e. absurd (omega (arith, above, e))))
    ∙ found_there (m.number + 1) ns next place n rising.1 at

-- ---- it is forgotten

abbrev is_other : ℕ → FileNode → Bool
is_other k n = not (eqb n.number k)

-- those above a number stay
above_stay : (k least : ℕ) (ns : List FileNode) (next : ℕ) → k < least → AreRising least ns next
    → filter (is_other k) (filter is_named ns) ≡ filter is_named ns
above_stay k least [] next less rising = refl
above_stay k least (n ∷ ns) next less rising =
    by_path (is_named n) (above_stay k (n.number + 1) ns next (omega (
      arith,
      less,
      rising.0,
    )) rising.1)
  where
    other : is_other k n ≡ true
    other = ap not (ne_eqb n.number k (λ e. absurd (omega (arith, less, rising.0, e))))

    by_path : (b : Bool)
        → filter (is_other k) (filter is_named ns) ≡ filter is_named ns
        → filter (is_other k) (cond b (n ∷ filter is_named ns) (filter is_named ns))
        ≡ cond b (n ∷ filter is_named ns) (filter is_named ns)
    by_path true later =
        ap (λ (b : Bool). cond b (n ∷ filter (is_other k) (filter is_named ns))
        (filter (is_other k) (filter is_named ns))) other
        ∙ ap (λ (ms : List FileNode). n ∷ ms) later
    by_path false later = later

removed_there : (least : ℕ) (ns : List FileNode) (next place : ℕ) (n : FileNode)
    → AreRising least ns next → slice_get ns place ≡ Some n → is_named n ≡ false
    → filter (is_other n.number) (named_from (suc place) ns) ≡ named_from place ns
removed_there least [] next place n rising at gone = absurd cc
removed_there least (m ∷ ns) next zero n rising at gone =
    let same : m ≡ n = some_is m n at in
    let number : m.number ≡ n.number = ap (λ (x : FileNode). x.number) same in
    let rest = filter (is_other n.number) (filter is_named ns) in
    ap (λ (b : Bool). cond (not b) (m ∷ rest) rest) (eq-eqb m.number n.number number)
    ∙ above_stay n.number (m.number + 1) ns next (omega (arith, number)) rising.1
    ∙ sym (ap (λ (b : Bool). cond b (m ∷ filter is_named ns) (filter is_named ns))
    (ap is_named same ∙ gone))
removed_there least (m ∷ ns) next (suc place) n rising at gone =
    let above = no_lower (m.number + 1) ns next place n rising.1 at in
    let rest = filter (is_other n.number) (named_from (suc place) ns) in
    ap (λ (b : Bool). cond (not b) (m ∷ rest) rest)
    (ne_eqb m.number n.number (λ e. absurd (omega (arith, above, e))))
    ∙ ap (λ (ms : List FileNode). m ∷ ms)
    (removed_there (m.number + 1) ns next place n rising.1 at gone)

-- ---- files

pub begins : (fs : Files) (len : ℕ) → len ≡ length fs.nodes → fs ≡ files_from len fs
begins fs len e =
    ap (λ (ms : List FileNode). record { nodes = ms; next = fs.next })
    (all_before fs.nodes ∙ ap (λ (k : ℕ). named_from k fs.nodes) (sym e))

pub nothing_at : (fs : Files) (place : ℕ) → number_at (files_from (suc place) fs) place ≡ None
    → files_from (suc place) fs ≡ files_from place fs
nothing_at fs place none = by_node (slice_get fs.nodes place) refl where
  by_node : (o : Option FileNode) → slice_get fs.nodes place ≡ o
      → files_from (suc place) fs ≡ files_from place fs
  by_node None at = ap (λ (ms : List FileNode). record { nodes = ms; next = fs.next })
      (nothing_there place fs.nodes at)
  by_node (Some n) at = absurd (let some = ap (option_map (λ (x : FileNode). x.number))
      (same_at place fs.nodes ∙ at) in cc)

-- the node at a place, its number, and what is known of it by that
record IsAt (fs : Files) (place k : ℕ) (n : FileNode) : Type 0 where
  there : slice_get fs.nodes place ≡ Some n
  number : n.number ≡ k
  path : path_of (files_from (suc place) fs) k ≡ n.path

is_at : (fs : Files) (place k : ℕ) → AreRising 1 fs.nodes fs.next
    → number_at (files_from (suc place) fs) place ≡ Some k → (n : FileNode) × IsAt fs place k n
is_at fs place k rising at = by_node (slice_get fs.nodes place) refl where
  by_node : (o : Option FileNode) → slice_get fs.nodes place ≡ o → (n : FileNode)
      × IsAt fs place k n
  by_node None none = absurd (let no = ap (option_map (λ (x : FileNode). x.number))
      (same_at place fs.nodes ∙ none) in cc)
  by_node (Some n) is =
      let some : Some n.number ≡ Some k = sym (ap (option_map (λ (x : FileNode). x.number))
      (same_at place fs.nodes ∙ is)) ∙ at in
      let number : n.number ≡ k = cc in (
        n,
        record {
          there = is;
          number = number;
          path = sym (ap (path_of (files_from (suc place) fs)) number)
              ∙ ap (option_and_then (λ (x : FileNode). x.path))
              (found_there 1 fs.nodes fs.next place n rising is);
        },
      )

pub named_at : (fs : Files) (place k : ℕ) → AreRising 1 fs.nodes fs.next
    → number_at (files_from (suc place) fs) place ≡ Some k
    → is_some (path_of (files_from (suc place) fs) k) ≡ true
    → files_from (suc place) fs ≡ files_from place fs
named_at fs place k rising at named =
    let node = is_at fs place k rising at in
    ap (λ (ms : List FileNode). record { nodes = ms; next = fs.next })
    (named_there place fs.nodes node.0 node.1.there (sym (ap is_some node.1.path) ∙ named))

pub removed_at : (fs : Files) (place k : ℕ) → AreRising 1 fs.nodes fs.next
    → number_at (files_from (suc place) fs) place ≡ Some k
    → is_some (path_of (files_from (suc place) fs) k) ≡ false
    → forgotten k (files_from (suc place) fs) ≡ files_from place fs
removed_at fs place k rising at gone =
    let node = is_at fs place k rising at in
    ap (λ (j : ℕ). forgotten j (files_from (suc place) fs)) (sym node.1.number)
    ∙ ap (λ (ms : List FileNode). record { nodes = ms; next = fs.next })
    (removed_there 1 fs.nodes fs.next place node.0 rising node.1.there
    (sym (ap is_some node.1.path) ∙ gone))

-- ---- one step of the loop

module _ (fs now : Files) (place : ℕ) (rising : AreRising 1 fs.nodes fs.next) (some : 0 < place)
    (is : now ≡ files_from place fs) where
  before : now ≡ files_from (suc (place - 1)) fs
  before = let one_less : suc (place - 1) ≡ place = omega (arith, some) in
      is ∙ ap (λ (k : ℕ). files_from k fs) (sym one_less)

  number_before : (o : Option ℕ) → number_at now (place - 1) ≡ o
      → number_at (files_from (suc (place - 1)) fs) (place - 1) ≡ o
  number_before o at = sym (ap (λ (x : Files). number_at x (place - 1)) before) ∙ at

  path_before : (k : ℕ) (b : Bool) → is_some (path_of now k) ≡ b
      → is_some (path_of (files_from (suc (place - 1)) fs) k) ≡ b
  path_before k b has = sym (ap (λ (x : Files). is_some (path_of x k)) before) ∙ has

  pub passes_none : number_at now (place - 1) ≡ None → now ≡ files_from (place - 1) fs
  passes_none none = before ∙ nothing_at fs (place - 1) (number_before None none)

  pub passes_named : (k : ℕ) → number_at now (place - 1) ≡ Some k
      → is_some (path_of now k) ≡ true → now ≡ files_from (place - 1) fs
  passes_named k at named =
      before ∙ named_at fs (place - 1) k rising (number_before (Some k) at)
      (path_before k true named)

  pub passes_removed : (k : ℕ) (next : Files) → number_at now (place - 1) ≡ Some k
      → is_some (path_of now k) ≡ false → next ≡ forgotten k now
      → next ≡ files_from (place - 1) fs
  passes_removed k next at gone forgets =
      forgets ∙ ap (forgotten k) before
      ∙ removed_at fs (place - 1) k rising (number_before (Some k) at) (path_before k false gone)
