-- An entry that is told of files can be hung, once those before it have been.
use Rattle.std.proofs.Common.{◌≡◌, ◌≢◌, ◌⊎◌, inl, inr, ℕ, zero, suc, ◌+◌, ◌<◌, ◌≤◌, Bool, true}
use Rattle.std.proofs.Common.{false, cond, List, [], ◌∷◌, ◌++◌, length, take, Option, Some, None}
use Rattle.std.proofs.Common.{refl, sym, ap, subst, ◌∙◌, arith}
use Rattle.std.specs.Prelude.{find, is_some, option_map, slice_get}
use Rattle.std.specs.Option.{option_and_then}
use Rattle.std.proofs.lemmas.Bool.{cases_lt}
use Rattle.std.proofs.lemmas.List.{take_all}
use Rattle.std.proofs.lemmas.Option.{same_Some}
use Rattle.file_tree.specs.rules.Files.{Name, Path, FileNode, Files, Entry, is_before, inserted}
use Rattle.file_tree.specs.rules.Files.{IsNodeName, node_of, path_of, child, entries_of}
use Rattle.file_tree.specs.rules.Listings.{number_after}
use Rattle.file_tree.specs.laws.Rebuilding.{ListsNode, entry_under}
use Rattle.file_tree.proofs.Order.{not_itself, behind_if}
use Rattle.file_tree.proofs.EntriesTell.{entries_tell_paths}
use Rattle.file_tree.proofs.EntriesDiffer.{children_are_listed, entries_differ}
use Rattle.file_tree.proofs.KeptEntries.{entries_come_in_order}
use Rattle.state_image.specs.restoring.Named.{NamedNode}
use Rattle.state_image.specs.restoring.SavedNodes.{listed_node, AreAs, IsSavedFiles, CanTake}
use Rattle.state_image.specs.restoring.Hanging.{HangsUpTo}
use Rattle.state_image.proofs.PushedItems.{front_more}
use Rattle.state_image.proofs.RestoreLemmas.SavedNodes.{one_directory, one_there, told_as}
use Rattle.state_image.proofs.RestoreLemmas.SavedNodes.{told_listed}

-- ---- fronts of lists

take_at : {X : Type 0} (i : ℕ) (xs : List X) (p : ℕ) (x : X) → slice_get (take i xs) p ≡ Some x
    → (p < i) × (slice_get xs p ≡ Some x)
take_at zero xs p x e = absurd cc
take_at (suc i) [] p x e = absurd cc
take_at (suc i) (y ∷ xs) zero x e = (omega arith, e)
take_at (suc i) (y ∷ xs) (suc p) x e =
    (let r = take_at i xs p x e in (omega (arith, r.0), r.1))

-- an entry that is put in at the end comes before none
not_after : (e : Entry) (es : List Entry) → inserted e es ≡ es ++ e ∷ []
    → find (λ (x : Entry). is_before e.name x.name) es ≡ None
not_after e [] is = refl
not_after e (f ∷ es) is = by (is_before e.name f.name) refl is (not_after e es) where
  heads : (xs ys : List Entry) → e ∷ xs ≡ f ∷ ys → e ≡ f
  heads xs ys h = cc

  tails : (xs ys : List Entry) → f ∷ xs ≡ f ∷ ys → xs ≡ ys
  tails xs ys h = cc

  by : (b : Bool) → is_before e.name f.name ≡ b
      → cond b (e ∷ f ∷ es) (f ∷ inserted e es) ≡ f ∷ (es ++ e ∷ [])
      → (inserted e es ≡ es ++ e ∷ [] → find (λ (x : Entry). is_before e.name x.name) es ≡ None)
      → cond b (Some f) (find (λ (x : Entry). is_before e.name x.name) es) ≡ None
  by true before h later =
      let same = heads (f ∷ es) (es ++ e ∷ []) h in
      absurd (not_itself e.name (behind_if e.name e.name
      (ap (λ (x : Entry). is_before e.name x.name) same ∙ before)))
  by false before h later = later (tails (inserted e es) (es ++ e ∷ []) h)

node_there : (o : Option FileNode) (p : Path)
    → option_and_then (λ (n : FileNode). n.path) o ≡ Some p
    → is_some o ≡ true
node_there None p e = absurd cc
node_there (Some n) p e = refl

-- ---- the next entry

module _ (ns : List NamedNode) (fs gs : Files) (next : ℕ) (ws : List ℕ) (at i d : ℕ) (e : Entry)
    (h : HangsUpTo ns fs ws at i) (here : slice_get ws at ≡ Some d)
    (is : slice_get (listed_node ns d) i ≡ Some e) (t : IsSavedFiles gs next ns) where
  alike : AreAs gs ns
  alike = told_as gs next ns t.told

  -- what is told of a directory that waits
  its : (j x : ℕ) → slice_get ws j ≡ Some x → listed_node ns x ≡ entries_of gs x
  its j x waits = told_listed gs next ns t.told x
      (sym (one_directory fs gs ns h.same alike x) ∙ (h.hung j x waits).0)

  is_at : slice_get (entries_of gs d) i ≡ Some e
  is_at = ap (λ (es : List Entry). slice_get es i) (sym (its at d here)) ∙ is

  lists : ListsNode gs d e.number e.name
  lists = record { place = i; is = is_at }

  there : is_some (node_of fs e.number) ≡ true
  there =
      one_there fs gs ns h.same alike e.number
      ∙ node_there (node_of gs e.number) _
      (entries_tell_paths.path gs d e.number e.name t.are lists)

  below : (e.number ≢ 1) × IsNodeName e.name
  below = entries_tell_paths.below gs d e.number e.name t.are lists

  -- what hangs in the directory is before the entry
  before : (p : ℕ) (x : Entry) → slice_get (entries_of fs d) p ≡ Some x
      → (p < i) × (slice_get (entries_of gs d) p ≡ Some x)
  before p x at_p =
      let r = take_at i (listed_node ns d) p x
      (ap (λ (es : List Entry). slice_get es p) (sym (h.begun d here)) ∙ at_p) in
      (r.0, ap (λ (es : List Entry). slice_get es p) (sym (its at d here)) ∙ r.1)

  -- it is not hung yet
  not_yet : (j x : ℕ) (name : Name) → slice_get ws j ≡ Some x → ListsNode fs x e.number name → ⊥
  not_yet j x name waits hangs = by (cases_lt j at) (cases_lt at j) where
    earlier : j < at → ⊥
    earlier lt =
        let place = ap (λ (es : List Entry). slice_get es hangs.place)
        (sym (h.done j x waits lt ∙ its j x waits)) ∙ hangs.is in
        let there = entries_tell_paths.one gs x d e.number name e.name t.are
        (record { place = hangs.place; is = place }) lists in
        let same : j ≡ at = h.once j at x waits (here ∙ ap (λ (y : ℕ). Some y) (sym there.0)) in
        absurd (omega (arith, lt, same))

    now : j ≡ at → ⊥
    now same =
        let mine : x ≡ d = same_Some x d
        (sym waits ∙ ap (λ (y : ℕ). slice_get ws y) same ∙ here) in
        let place = before hangs.place (entry_under name e.number)
        (ap (λ (y : ℕ). slice_get (entries_of fs y) hangs.place) (sym mine) ∙ hangs.is) in
        let one = entries_differ.numbers gs d hangs.place i (entry_under name e.number) e t.are
        place.1 is_at refl in
        let lt : hangs.place < i = place.0 in
        absurd (omega (arith, lt, one))

    nothing : (p : ℕ) (y : Entry) → ◌≡◌ {A = Option Entry} (slice_get [] p) (Some y) → ⊥
    nothing p y n = absurd cc

    later : at < j → ⊥
    later lt = nothing hangs.place (entry_under name e.number)
        (ap (λ (es : List Entry). slice_get es hangs.place) (sym (h.still j x waits lt))
        ∙ hangs.is)

    by : (j < at) ⊎ (at ≤ j) → (at < j) ⊎ (j ≤ at) → ⊥
    by (inl lt) other = earlier lt
    by (inr le) (inl gt) = later gt
    by (inr le) (inr ge) = now (omega (arith, le, ge))

  had : is_some (path_of fs e.number) ≡ true → ⊥
  had path =
      let up = entries_tell_paths.there fs e.number h.are below.0 path in
      let above = entries_tell_paths.above fs up.0 e.number up.1 h.are up.2 in
      let waits = h.all up.0 above.0 above.1 in
      not_yet waits.0 up.0 up.1 waits.1 up.2

  no_path : is_some (path_of fs e.number) ≡ false
  no_path = by (is_some (path_of fs e.number)) refl where
    by : (b : Bool) → is_some (path_of fs e.number) ≡ b → b ≡ false
    by true path = absurd (had path)
    by false path = refl

  free : child fs d e.name ≡ None
  free = by (child fs d e.name) refl where
    by : (o : Option ℕ) → child fs d e.name ≡ o → o ≡ None
    by None found = refl
    by (Some k) found =
        let l = children_are_listed.listed fs d k e.name h.are found in
        let place = before l.place (entry_under e.name k) l.is in
        let one = entries_differ.names gs d l.place i (entry_under e.name k) e t.are place.1
        is_at refl in
        let lt : l.place < i = place.0 in
        absurd (omega (arith, lt, one))

  last : number_after fs d e.name ≡ None
  last =
      let order = entries_come_in_order gs d i e t.are is_at
      ∙ front_more (entries_of gs d) i e is_at in
      let front : entries_of fs d ≡ take i (entries_of gs d) =
      h.begun d here ∙ ap (λ (es : List Entry). take i es) (its at d here) in
      ap (λ (es : List Entry). option_map (λ (x : Entry). x.number)
      (find (λ (x : Entry). is_before e.name x.name) es)) front
      ∙ ap (option_map (λ (x : Entry). x.number)) (not_after e (take i (entries_of gs d)) order)

  pub can_be_taken : CanTake fs d e
  can_be_taken = record {
    there = there;
    no_path = no_path;
    named = below.1;
    free = free;
    last = last;
  }

-- ---- on to the next directory, and the end

pub next_directory : (ns : List NamedNode) (fs : Files) (ws : List ℕ) (at n d : ℕ)
    → HangsUpTo ns fs ws at n → slice_get ws at ≡ Some d → length (listed_node ns d) ≤ n
    → HangsUpTo ns fs ws (at + 1) 0
next_directory ns fs ws at n d h here whole = record {
  are = h.are;
  same = h.same;
  done = done;
  begun = λ x is. h.still (at + 1) x is (omega arith);
  still = λ j x is lt. h.still j x is (omega (arith, lt));
  hung = h.hung;
  once = h.once;
  all = h.all;
} where
  now : (j x : ℕ) → slice_get ws j ≡ Some x → j ≡ at → entries_of fs x ≡ listed_node ns x
  now j x is same =
      let waits : slice_get ws at ≡ Some x = ap (λ (y : ℕ). slice_get ws y) (sym same) ∙ is in
      let mine : d ≡ x = same_Some d x (sym here ∙ waits) in
      h.begun x waits
      ∙ take_all n (listed_node ns x) (subst (λ (y : ℕ). length (listed_node ns y) ≤ n) mine whole)

  done : (j x : ℕ) → slice_get ws j ≡ Some x → j < at + 1 → entries_of fs x ≡ listed_node ns x
  done j x is lt = by (cases_lt j at) where
    by : (j < at) ⊎ (at ≤ j) → entries_of fs x ≡ listed_node ns x
    by (inl less) = h.done j x is less
    by (inr le) = now j x is (omega (arith, le, lt))
