-- What the tests of a host's parts tell.
use Rattle.std.proofs.Common.{◌≡◌, ◌≢◌, ◌⊎◌, ℕ, zero, suc, ◌+◌, ◌<◌, ◌≤◌, Bool, true, false, cond}
use Rattle.std.proofs.Common.{eqb, List, [], ◌∷◌, length, Option, Some, None, inl, inr, refl, sym}
use Rattle.std.proofs.Common.{ap, subst, ◌∙◌, arith}
use Rattle.std.specs.Prelude.{◌||◌, is_some, find, IfSome, option_map, slice_get}
use Rattle.std.specs.List.{AllByRecursion, list_any}
use Rattle.std.specs.Option.{option_and_then}
use Rattle.std.proofs.lemmas.Bool.{cases_eq, eqb-true, eq-eqb, or_parts}
use Rattle.std.proofs.lemmas.Map.Keys.{any_passes_from_place}
use Rattle.std.proofs.lemmas.Option.{slice_get_within}
use Rattle.wasi_abi.specs.rules.Answers.{AreBytes, IsTime}
use Rattle.file_tree.specs.rules.Files.{Path, FileNode, Files, IsFiles, node_of, path_of, used}
use Rattle.file_tree.specs.rules.Listings.{number_at}
use Rattle.wasi_calls_rules.specs.WasiStates.{Descriptor, WasiState, IsDescriptor}
use Rattle.wasi_calls_rules.specs.WasiStates.{IsUnfinished, IsWasiState}
use Rattle.wasi_calls_rules.specs.Small.{is_node, names}
use Rattle.wasi_calls_rules.proofs.KeepsWasiStates.{file_state}
use Rattle.wasi_calls_rules.proofs.Tables.{Table, NamesNode, is_descriptor, named_by}
use Rattle.wasi_calls.specs.Restoring.{MayBeOpen, MayAllBeOpen, is_kept, AreRemovedNamed}
use Rattle.wasi_calls.specs.Restoring.{IsDescriptorTable}

-- ---- descriptors

module _ (fs : Files) (ds : Table) where
  -- those before a number may be open
  abbrev pub MayBeOpenBefore : ℕ → Type 0
  MayBeOpenBefore n =
      (m : ℕ) (d : Descriptor) → m < n → slice_get ds m ≡ Some (Some d) → MayBeOpen fs m d

  pub one_more_open : (n : ℕ) (o : Option Descriptor) → slice_get ds n ≡ Some o
      → IfSome o (MayBeOpen fs n) → MayBeOpenBefore n → MayBeOpenBefore (n + 1)
  one_more_open n o there own before m d less at = by_number (cases_eq m n) where
    item : (p : Option Descriptor) → Some o ≡ Some p → o ≡ p
    item p e = cc

    by_number : (m ≡ n) ⊎ (m ≢ n) → MayBeOpen fs m d
    by_number (inl same) =
        let is : o ≡ Some d = item (Some d) (sym there ∙ ap (slice_get ds) (sym same) ∙ at) in
        subst (λ (k : ℕ). MayBeOpen fs k d) (sym same)
        (subst (λ (p : Option Descriptor). IfSome p (MayBeOpen fs n)) is own)
    by_number (inr other) = before m d (omega (arith, less, other)) at

  pub all_open : (len : ℕ) → length ds ≤ len → MayBeOpenBefore len → MayAllBeOpen fs ds
  all_open len all before n d at =
      let less = slice_get_within ds n (Some d) at in
      before n d (omega (arith, all, less)) at

-- ---- nodes without a path

found_at : (ns : List FileNode) (k : ℕ) (n : FileNode)
    → find (λ (m : FileNode). eqb m.number k) ns ≡ Some n
    → (i : ℕ) × (i < length ns) × (slice_get ns i ≡ Some n) × (n.number ≡ k)
found_at [] k n e = absurd (cc)
found_at (x ∷ ns) k n e = by_test (eqb x.number k) refl e (found_at ns k n) where
  by_test : (b : Bool) → eqb x.number k ≡ b
      → cond b (Some x) (find (λ (m : FileNode). eqb m.number k) ns) ≡ Some n
      → (find (λ (m : FileNode). eqb m.number k) ns ≡ Some n
      → (i : ℕ) × (i < length ns) × (slice_get ns i ≡ Some n) × (n.number ≡ k))
      → (i : ℕ) × (i < length (x ∷ ns)) × (slice_get (x ∷ ns) i ≡ Some n) × (n.number ≡ k)
  by_test true is e later =
      let same : x ≡ n = cc in
      (zero, omega arith, e, ap (λ (m : FileNode). m.number) (sym same) ∙ eqb-true x.number k is)
  by_test false is e later =
      let r = later e in
      let less = r.1 in
      (suc r.0, omega (arith, less), r.2, r.3)

-- a node of the list is found by its number, or one before it
there_at : (ns : List FileNode) (i : ℕ) (x : FileNode) → slice_get ns i ≡ Some x
    → (m : FileNode) × (find (λ (n : FileNode). eqb n.number x.number) ns ≡ Some m)
there_at [] i x e = absurd (cc)
there_at (y ∷ ns) zero x e =
    let same : y ≡ x = cc in
    (y, rw (eq-eqb y.number x.number (ap (λ (n : FileNode). n.number) same)) refl)
there_at (y ∷ ns) (suc i) x e = by_test (eqb y.number x.number) (there_at ns i x e) where
  by_test : (b : Bool)
      → (m : FileNode) × (find (λ (n : FileNode). eqb n.number x.number) ns ≡ Some m)
      → (m : FileNode)
      × (cond b (Some y) (find (λ (n : FileNode). eqb n.number x.number) ns) ≡ Some m)
  by_test true later = (y, refl)
  by_test false later = later

named_any : (ds : Table) (k : ℕ) → NamesNode ds k → list_any (names k) ds ≡ true
named_any ds k (n, d, there, target) =
    any_passes_from_place (names k) ds n (Some d) there
    (ap (is_node k) target ∙ eq-eqb k k refl)

module _ (fs : Files) (ds : Table) where
  pub all_kept : ((i : ℕ) → i < length fs.nodes → is_kept fs ds (number_at fs i) ≡ true)
      → AreRemovedNamed fs ds
  all_kept all k (n, is, gone) =
      let f = found_at fs.nodes k n is in
      let at : number_at fs f.0 ≡ Some k =
      ap (option_map (λ (m : FileNode). m.number)) f.2 ∙ ap (λ (j : ℕ). Some j) f.3 in
      let kept : (is_some (path_of fs k) || list_any (names k) ds) ≡ true =
      sym (ap (is_kept fs ds) at) ∙ all f.0 f.1 in
      let none : path_of fs k ≡ None =
      ap (option_and_then (λ (m : FileNode). m.path)) is ∙ gone in
      named_by k ds (rw none at kept)

  no_path : (k : ℕ) (m : FileNode) → node_of fs k ≡ Some m → is_some (path_of fs k) ≡ false
      → m.path ≡ None
  no_path k m is e = by_path m.path (sym (ap has is) ∙ e) where
    has : Option FileNode → Bool
    has o = is_some (option_and_then (λ (n : FileNode). n.path) o)

    by_path : (p : Option Path) → is_some p ≡ false → p ≡ None
    by_path None e = refl
    by_path (Some p) e = absurd (cc)

  pub one_lost : (i : ℕ) → is_kept fs ds (number_at fs i) ≡ false → AreRemovedNamed fs ds → ⊥
  one_lost i lost named = by_node (slice_get fs.nodes i) refl lost where
    by_node : (o : Option FileNode) → slice_get fs.nodes i ≡ o
        → is_kept fs ds (option_map (λ (n : FileNode). n.number) o) ≡ false → ⊥
    by_node None at e = cc
    by_node (Some x) at e =
        let parts = or_parts (is_some (path_of fs x.number)) (list_any (names x.number) ds) e in
        let m = there_at fs.nodes i x at in
        let found = named x.number (m.0, m.1, no_path x.number m.0 m.1 parts.0) in
        let t : true ≡ false = sym (named_any ds x.number found) ∙ parts.1 in
        cc

-- ---- the whole host

all_of : (P : Descriptor → Type 0) (ds : Table)
    → ((n : ℕ) (d : Descriptor) → slice_get ds n ≡ Some (Some d) → P d)
    → AllByRecursion (λ (o : Option Descriptor). IfSome o P) ds
all_of P [] f = tt
all_of P (None ∷ ds) f = (tt, all_of P ds (λ n. f (suc n)))
all_of P (Some d ∷ ds) f = (f zero d refl, all_of P ds (λ n. f (suc n)))

module _ (h : WasiState) where
  pub table_of : IsWasiState h → IsDescriptorTable h.files h.descriptors
  table_of is = record {
    places = is.places;
    open_ones = λ n d at. record {
      descriptor = is_descriptor h.files h.descriptors n d (file_state h is).table at;
      stream = λ s names. is.streams n s d at names;
    };
    root = is.root;
    removed = is.open_nodes;
  }

  pub host_of : IsFiles h.files → used h.files ≤ h.room → IsDescriptorTable h.files h.descriptors
      → AreBytes h.unread → IsTime h.last_monotonic → IsUnfinished h.first
      → IsUnfinished h.second → IsWasiState h
  host_of files within table unread time first second = record {
    files = files;
    within = within;
    places = table.places;
    descriptors = all_of (IsDescriptor h.files) h.descriptors
        (λ n d at. (table.open_ones n d at).descriptor);
    streams = λ n s d at names. (table.open_ones n d at).stream s names;
    root = table.root;
    unread = unread;
    last_monotonic = time;
    first = first;
    second = second;
    open_nodes = table.removed;
  }
