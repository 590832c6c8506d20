-- Exports by their names.
use Rattle.std.proofs.Common.{◌≡◌, ◌≢◌, inl, inr, ℕ, zero, suc, ◌+◌, ◌<◌, List, [], ◌∷◌, length}
use Rattle.std.proofs.Common.{get_or, drop, refl, sym, ◌∙◌, subst}
use Rattle.std.specs.List.{AllByRecursion}
use Rattle.wasm_syntax.specs.declared.module.Export.{Export}
use Rattle.wasm_syntax.specs.declared.module.ExportItem.{ExportItem}
use Rattle.wasm_rules.specs.Validity.{HaveDistinctNames}
use Rattle.wasm_rules.specs.Linking.{Exports}
use Rattle.wasm_validate.proofs.PartLemmas.Loops.{next}

pub after_another : (e : Export) (exports : List Export) (name : List ℕ) (item : ExportItem)
    → (e.name ≡ name → ⊥) → Exports (e ∷ exports) name item → Exports exports name item
after_another e exports name item differs (inl h) = absurd (differs h.0)
after_another e exports name item differs (inr h) = h

pub among_all : (exports : List Export) (i : ℕ) (name : List ℕ) (item : ExportItem)
    → Exports (drop i exports) name item → Exports exports name item
among_all exports zero name item h = h
among_all [] (suc i) name item h = h
among_all (e ∷ exports) (suc i) name item h = inr (among_all exports i name item h)

pub distinct_rest : (exports : List Export) (i : ℕ) → HaveDistinctNames exports
    → HaveDistinctNames (drop i exports)
distinct_rest exports zero h = h
distinct_rest [] (suc i) h = tt
distinct_rest (e ∷ exports) (suc i) h = distinct_rest exports i h.1

none_named : {first name : List ℕ} (exports : List Export) (item : ExportItem)
    → AllByRecursion (λ (other : Export). first ≢ other.name) exports → first ≡ name
    → Exports exports name item → ⊥
none_named [] item h e x = x
none_named (other ∷ exports) item h e (inl x) = h.0 (e ∙ sym x.0)
none_named (other ∷ exports) item h e (inr x) =
    none_named exports item h.1 e x

one_named : (e : Export) (exports : List Export) {name : List ℕ} (item : ExportItem)
    → HaveDistinctNames (e ∷ exports) → e.name ≡ name → Exports (e ∷ exports) name item
    → e.item ≡ item
one_named e exports item d is (inl h) = h.1
one_named e exports item d is (inr h) = absurd (none_named exports item d.0 is h)

-- the export at this place has this name
pub found_there : (exports : List Export) (i : ℕ) {e : Export} {name : List ℕ} → i < length exports
    → e ≡ get_or exports i e → e.name ≡ name → Exports exports name e.item
found_there exports i {e} {name} h is same =
    let P : List Export → Type 0 = λ xs. Exports xs name e.item in
    among_all exports i name e.item (subst P (sym (next exports i e h is)) (inl (same, refl)))

pub found_only : (exports : List Export) (i : ℕ) {e : Export} {name : List ℕ} (item : ExportItem)
    → i < length exports → e ≡ get_or exports i e → e.name ≡ name → HaveDistinctNames exports
    → Exports (drop i exports) name item → e.item ≡ item
found_only exports i {e} {name} item h is same distinct x =
    let P : List Export → Type 0 = λ xs. Exports xs name item in
    let rest = next exports i e h is in
    one_named e (drop (i + 1) exports) item (subst HaveDistinctNames rest
    (distinct_rest exports i distinct)) same (subst P rest x)

pub further : (exports : List Export) (i : ℕ) {e : Export} (name : List ℕ) (item : ExportItem)
    → i < length exports → e ≡ get_or exports i e → (e.name ≡ name → ⊥)
    → Exports (drop i exports) name item → Exports (drop (i + 1) exports) name item
further exports i {e} name item h is differs x =
    let P : List Export → Type 0 = λ xs. Exports xs name item in
    after_another e (drop (i + 1) exports) name item differs (subst P (next exports i e h is) x)
