-- Lines of a list that are printed one after another.
use Rattle.std.proofs.Common.{◌≡◌, ◌∙◌, inl, inr, refl, sym, ap, subst, ℕ, ◌+◌, ◌<◌, ◌≤◌, List, []}
use Rattle.std.proofs.Common.{◌∷◌, ◌++◌, length, take, get_or, Option, Some, None, append_assoc}
use Rattle.std.specs.Prelude.{MatchOption, count_by, Result, Ok, Err, OnOk}
use Rattle.std.specs.List.{flat_map}
use Rattle.std.specs.Io.KnownBytes.{Appends}
use Rattle.std.proofs.lemmas.Grind.{flat_map-append}
use Rattle.std.proofs.lemmas.List.{append-nil, get_or_default, take_all, take_more}
use Rattle.wasm_syntax.specs.declared.types.FunctionType.{FunctionType}
use Rattle.wasm_syntax.specs.declared.module.Import.{Import}
use Rattle.command_words.specs.Listed.{TellsImport}
use Rattle.wasm_syntax.specs.rules.Limits.{is_function}
use Rattle.wasm_decode.specs.declared.fault.DecodeFault.{DecodeFault}
use Rattle.wasm_decode.specs.declared.code_faults.CodeFault.{CodeFault}
use Rattle.wasm_decode.specs.declared.code_faults.CodeFaults.{CodeFaults}
use Rattle.wasm_decode.specs.rules.Parts.{HasCodeFaults, HasImports, LacksPart}
use Rattle.wasm_places.specs.declared.place.ModulePlace.{ModulePlace}
use Rattle.wasm_places.specs.rules.Places.{LiesAt}
use Rattle.machine.specs.rules.Offers.{imported_call}
use Rattle.machine.specs.declared.from_bytes.fault.ModuleFault.{ModuleFault}
use Rattle.command_words.specs.rules.ModuleLimits.{function_of}
use Rattle.command_words.specs.rules.Verdicts.{import_text}
use Rattle.command_words.specs.rules.Listings.{AreInTheWay, EndsList, EndsWithList, IsAllowed}
use Rattle.command_words.specs.rules.Listings.{KnowsTypes, ListsAll, ListsCode, TellsImports}
use Rattle.command_words.specs.rules.Listings.{TellsOutside, TellsUnlisted, code_line, list_end}
use Rattle.command_words.specs.rules.Listings.{end_text, import_line, refusal_words}
use Rattle.command_words.specs.rules.Printers.{PrinterState, IsPrinted}
use Rattle.command_words.proofs.LineLemmas.Printed.{prints_both, prints_nothing}

-- ---- lines

-- one line more
flat_more : {X : Type 0} (line : X → List ℕ) (xs : List X) (x : X)
    → flat_map line (xs ++ x ∷ []) ≡ flat_map line xs ++ line x
flat_more line xs x =
    flat_map-append line xs (x ∷ []) ∙ ap (λ t. flat_map line xs ++ t) (append-nil (line x))

take_one : {X : Type 0} (all : List X) (i : ℕ) (one : X) → i < length all → one ≡ get_or all i one
    → take (i + 1) all ≡ take i all ++ one ∷ []
take_one {X} all i one within is =
    take_more all i one within ∙ ap (λ (x : X). take i all ++ x ∷ []) (sym is)

pub one_more_line : {X : Type 0} (line : X → List ℕ) (all : List X) (i : ℕ) (one : X)
    (a b c : PrinterState) → i < length all → one ≡ get_or all i one
    → IsPrinted a b (flat_map line (take i all)) → IsPrinted b c (line one)
    → IsPrinted a c (flat_map line (take (i + 1) all))
one_more_line line all i one a b c within is so_far told =
    subst (IsPrinted a c)
    (sym (ap (flat_map line) (take_one all i one within is) ∙ flat_more line (take i all) one))
    (prints_both a b c (flat_map line (take i all)) (line one) so_far told)

-- the one at that place, whatever is read beyond the end
pub one_more_there : {X : Type 0} (line : X → List ℕ) (all : List X) (i : ℕ) (d : X)
    (a b c : PrinterState) → i < length all
    → IsPrinted a b (flat_map line (take i all)) → IsPrinted b c (line (get_or all i d))
    → IsPrinted a c (flat_map line (take (i + 1) all))
one_more_there line all i d a b c within so_far told =
    let one = get_or all i d in
    one_more_line line all i one a b c within (get_or_default all i d one within) so_far told

-- ---- imports that are in the way

module _ (types : Option (List FunctionType)) where
  allowed_more : (imports refused : List Import) (i : Import) → IsAllowed types i
      → AreInTheWay types imports refused → AreInTheWay types (imports ++ i ∷ []) refused
  allowed_more [] refused i is none = inl (is, none)
  allowed_more (j ∷ imports) refused i is (inl h) =
      inl (h.0, allowed_more imports refused i is h.1)
  allowed_more (j ∷ imports) refused i is (inr h) =
      inr (h.0, h.1, h.2, allowed_more imports h.1 i is h.3)

  refused_more : (imports refused : List Import) (i : Import) → (IsAllowed types i → ⊥)
      → AreInTheWay types imports refused
      → AreInTheWay types (imports ++ i ∷ []) (refused ++ i ∷ [])
  refused_more [] refused i isnt none =
      inr (isnt, [], ap (λ (xs : List Import). xs ++ i ∷ []) none, refl)
  refused_more (j ∷ imports) refused i isnt (inl h) =
      inl (h.0, refused_more imports refused i isnt h.1)
  refused_more (j ∷ imports) refused i isnt (inr h) =
      inr (
        h.0,
        h.1 ++ i ∷ [],
        ap (λ (xs : List Import). xs ++ i ∷ []) h.2,
        refused_more imports h.1 i isnt h.3,
      )

  pub tells_none : (imports : List Import) (a : PrinterState)
      → TellsImports types (take 0 imports) a a
  tells_none imports a = ([], refl, prints_nothing a a refl)

  pub tells_all : (imports : List Import) (n : ℕ) (a b : PrinterState) → length imports ≤ n
      → TellsImports types (take n imports) a b → TellsImports types imports a b
  tells_all imports n a b all told =
      subst (λ (is : List Import). TellsImports types is a b) (take_all n imports all) told

  module _ (imports : List Import) (n : ℕ) (i : Import) (a b : PrinterState)
      (within : n < length imports) (is : i ≡ get_or imports n i)
      (told : TellsImports types (take n imports) a b) where
    passes_allowed : IsAllowed types i → TellsImports types (take (n + 1) imports) a b
    passes_allowed allowed =
        subst (λ (xs : List Import). TellsImports types xs a b) (sym (take_one imports n i within
        is)) (told.0, allowed_more (take n imports) told.0 i allowed told.1, told.2)

    tells_refused : (c : PrinterState) → (IsAllowed types i → ⊥)
        → IsPrinted b c (import_line i) → TellsImports types (take (n + 1) imports) a c
    tells_refused c refused printed =
        subst (λ (xs : List Import). TellsImports types xs a c) (sym (take_one imports n i within
        is)) (
          told.0 ++ i ∷ [],
          refused_more (take n imports) told.0 i refused told.1,
          subst (IsPrinted a c) (sym (flat_more import_line told.0 i))
              (prints_both a b c (flat_map import_line told.0) (import_line i) told.2 printed),
        )

    -- one import more
    pub tells_more : (c : PrinterState) → TellsImport types i b c
        → TellsImports types (take (n + 1) imports) a c
    tells_more c (inl h) =
        subst (λ (s : PrinterState). TellsImports types (take (n + 1) imports) a s) (sym h.1)
        (passes_allowed h.0)
    tells_more c (inr h) = tells_refused c h.0 h.1

-- an import that is in the way
pub refused_told : {T E : Type 0} (r : Result T E) (types : Option (List FunctionType)) (i : Import)
    (old new : PrinterState) (what : List ℕ) → (IsAllowed types i → ⊥)
    → what ≡ refusal_words (imported_call i) → OnOk r (IsPrinted old new (import_text i what))
    → OnOk r (TellsImport types i old new)
refused_told (Ok done) types i old new what isnt is printed =
    inr (isnt, subst (λ (t : List ℕ). IsPrinted old new (import_text i t)) is printed)
refused_told (Err why) types i old new what isnt is printed = tt

-- ---- texts

-- a text that is written as another one
pub prints_as : {T E : Type 0} (r : Result T E) (old new : PrinterState) (written text : List ℕ)
    → written ≡ text → OnOk r (Appends old.contents new.contents written)
    → OnOk r (new.failed ≡ old.failed) → OnOk r (IsPrinted old new text)
prints_as (Ok done) old new written text is bytes steady =
    (subst (Appends old.contents new.contents) is bytes, steady)
prints_as (Err why) old new written text is bytes steady = tt

-- three, four and five texts from the back are those from the front
pub three_in_order : (a b c : List ℕ) → a ++ (b ++ c) ≡ a ++ b ++ c
three_in_order a b c = sym (append_assoc a b c)

pub five_in_order : (a b c d e : List ℕ) → a ++ (b ++ (c ++ (d ++ e))) ≡ a ++ b ++ c ++ d ++ e
five_in_order a b c d e =
    sym (append_assoc a b (c ++ (d ++ e)))
    ∙ sym (append_assoc (a ++ b) c (d ++ e))
    ∙ sym (append_assoc (a ++ b ++ c) d e)

-- ---- the list

module _ {T E : Type 0} where
  -- the end of the list
  pub ends_list : {X : Type 0} (r : Result T E) (IsPart : X → Type 0) (fault : DecodeFault)
      (old new : PrinterState) → LacksPart IsPart fault
      → OnOk r (IsPrinted old new (end_text fault)) → OnOk r (EndsList IsPart old new)
  ends_list (Ok done) IsPart fault old new lacks printed = (fault, lacks, printed)
  ends_list (Err why) IsPart fault old new lacks printed = tt

  pub code_ends : (r : Result T E) (bytes : List ℕ) (imported : ℕ) (old new : PrinterState)
      → OnOk r (EndsList (HasCodeFaults bytes) old new) → OnOk r (ListsCode bytes imported old new)
  code_ends (Ok done) bytes imported old new ends = inl ends
  code_ends (Err why) bytes imported old new ends = tt

  pub code_listed : (r : Result T E) (bytes : List ℕ) (imported : ℕ) (found : CodeFaults)
      (faults : List CodeFault) (old mid new : PrinterState) → faults ≡ found.faults
      → HasCodeFaults bytes found
      → IsPrinted old mid (flat_map (code_line bytes imported) faults)
      → OnOk r (IsPrinted mid new (list_end found.end)) → OnOk r (ListsCode bytes imported old new)
  code_listed (Ok done) bytes imported found faults old mid new is has first last =
      inr (
        found,
        has,
        prints_both old mid new (flat_map (code_line bytes imported) found.faults)
            (list_end found.end) (subst (λ (fs : List CodeFault).
            IsPrinted old mid (flat_map (code_line bytes imported) fs)) is first) last,
      )
  code_listed (Err why) bytes imported found faults old mid new is has first last = tt

  pub all_ends : (r : Result T E) (bytes : List ℕ) (old new : PrinterState)
      → OnOk r (EndsList (HasImports bytes) old new) → OnOk r (ListsAll bytes old new)
  all_ends (Ok done) bytes old new ends = inr ends
  all_ends (Err why) bytes old new ends = tt

  pub all_listed : (r : Result T E) (bytes : List ℕ) (types : Option (List FunctionType))
      (imports items : List Import) (n : ℕ) (old mid new : PrinterState) → items ≡ imports
      → KnowsTypes bytes types → HasImports bytes imports → TellsImports types items old mid
      → n ≡ count_by is_function items → OnOk r (ListsCode bytes n mid new)
      → OnOk r (ListsAll bytes old new)
  all_listed (Ok done) bytes types imports items n old mid new same known has first is last =
      inl (record {
        types = types;
        known = known;
        imports = items;
        imported = subst (HasImports bytes) (sym same) has;
        between = mid;
        first = first;
        then = subst (λ (k : ℕ). ListsCode bytes k mid new) is last;
      })
  all_listed (Err why) bytes types imports items n old mid new same known has first is last = tt

  pub ends_with_list : (r : Result T E) (bytes : List ℕ) (why : ModuleFault)
      (first second new : PrinterState) → TellsUnlisted bytes why first second
      → OnOk r (ListsAll bytes second new) → OnOk r (EndsWithList bytes why new)
  ends_with_list (Ok done) bytes why first second new told listed = (first, second, told, listed)
  ends_with_list (Err e) bytes why first second new told listed = tt

  -- ---- the first fault

  pub told_outside : (r : Result T E) (bytes : List ℕ) (at : ℕ) (place : Option ModulePlace)
      (Told : Type 0) (old new : PrinterState) → LiesAt bytes at place → None ≡ function_of place
      → OnOk r Told → OnOk r (TellsOutside bytes at Told old new)
  told_outside (Ok done) bytes at place Told old new lies none told = (
    place,
    lies,
    subst (λ (f : Option ℕ). MatchOption f Told (λ number. new ≡ old)) none told,
  )
  told_outside (Err e) bytes at place Told old new lies none told = tt

pub untold_inside : (bytes : List ℕ) (at number : ℕ) (place : Option ModulePlace) (Told : Type 0)
    (old : PrinterState) → LiesAt bytes at place → Some number ≡ function_of place
    → TellsOutside bytes at Told old old
untold_inside bytes at number place Told old lies inside = (
  place,
  lies,
  subst (λ (f : Option ℕ). MatchOption f Told (λ number. old ≡ old)) inside refl,
)
