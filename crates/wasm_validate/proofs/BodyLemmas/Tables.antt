-- What is told of a table of labels that can't be performed.
use Rattle.std.proofs.Common.{◌≡◌, ◌⊎◌, inl, inr, ℕ, Bool, true, false, List, [], ◌∷◌, Option, Some}
use Rattle.std.proofs.Common.{None, refl, sym, ap, ◌∙◌, subst}
use Rattle.std.specs.Prelude.{slice_get}
use Rattle.wasm_syntax.specs.declared.types.ValueType.{ValueType}
use Rattle.wasm_syntax.specs.declared.types.ValueType.TheVariants.{I32}
use Rattle.wasm_syntax.specs.declared.instruction.Instruction.TheVariants as instr
use Rattle.wasm_syntax.specs.laws.ReadingItems.{◌>>=◌}
use Rattle.wasm_rules.specs.Types.{are_same_types}
use Rattle.wasm_rules.specs.Typing.{Context}
use Rattle.wasm_validate.specs.declared.parts.fault.ValidFault.{ValidFault}
use Rattle.wasm_validate.specs.declared.parts.fault.ValidFault.TheVariants.{Typing, Index}
use Rattle.wasm_validate.specs.laws.Checking.{Jump, Level, are_labels, arrow_of, arrow_of_some}
use Rattle.wasm_validate.specs.laws.Checking.{only}
use Rattle.wasm_validate.specs.laws.FirstFault.{fault_at, fault_of, fault_unless, labels_fault}
use Rattle.wasm_validate.specs.Body.Answers.{FailsToCheck}
use Rattle.wasm_validate.specs.Body.Tops.{top_all_taken, top_applied, top_unreached, top_taken}
use Rattle.wasm_validate.proofs.BodyLemmas.Fails.{fails_to}
use Rattle.wasm_validate.proofs.BodyLemmas.Untyped.{labels_are_typed}

-- only a label that isn't there, or of other types, is told
label_fault_is : (o : Option (List ValueType)) (test : List ValueType → Bool) (rest : ValidFault)
    → (rest ≡ Typing) ⊎ (rest ≡ Index)
    → (fault_at o (λ us. fault_unless (test us) Typing rest) ≡ Typing)
    ⊎ (fault_at o (λ us. fault_unless (test us) Typing rest) ≡ Index)
label_fault_is None test rest h = inr refl
label_fault_is (Some us) test rest h = by_test (test us)
  where
    by_test : (b : Bool) → (fault_unless b Typing rest ≡ Typing)
        ⊎ (fault_unless b Typing rest ≡ Index)
    by_test true = h
    by_test false = inl refl

labels_fault_is : (labels : List (List ValueType)) (ts : List ValueType) (ls : List ℕ)
    → (labels_fault labels ts ls ≡ Typing) ⊎ (labels_fault labels ts ls ≡ Index)
labels_fault_is labels ts [] = inl refl
labels_fault_is labels ts (l ∷ ls) =
    label_fault_is (slice_get labels l) (λ us. are_same_types us ts) (labels_fault labels ts ls)
    (labels_fault_is labels ts ls)

told : {X : Type 0} (fault : ValidFault) (o : Option X) → (fault ≡ Typing) ⊎ (fault ≡ Index)
    → o ≡ None → FailsToCheck fault fault o
told fault o (inl e) none = subst (λ (z : ValidFault). FailsToCheck z z o) (sym e) none
told fault o (inr e) none = subst (λ (z : ValidFault). FailsToCheck z z o) (sym e) none

module _ (c : Context) (labels : List (List ValueType)) (ls : List ℕ) (l : ℕ) (ts : List ValueType)
    (old : List Level) (there : slice_get labels l ≡ Some ts) where
  which_fault : fault_of c labels (instr.BrTable ls l) ≡ labels_fault labels ts ls
  which_fault = ap (λ z. fault_at z (λ ts. labels_fault labels ts ls)) there

  arrow_is : (b : Bool) → are_labels labels ts ls ≡ b
      → top_applied (arrow_of c labels (instr.BrTable ls l)) old
      ≡ top_applied (only b (Jump (I32 ∷ ts))) old
  arrow_is b e =
      ap (λ z. top_applied (arrow_of_some z
      (λ ts. only (are_labels labels ts ls) (Jump (I32 ∷ ts)))) old) there
      ∙ ap (λ z. top_applied (only z (Jump (I32 ∷ ts))) old) e

  -- a label of the table isn't the default one
  pub label_fails : (e : ValidFault) → are_labels labels ts ls ≡ false
      → e ≡ labels_fault labels ts ls
      → FailsToCheck e (fault_of c labels (instr.BrTable ls l))
      (top_applied (arrow_of c labels (instr.BrTable ls l)) old)
  label_fails e other is =
      subst (λ (z : ValidFault). FailsToCheck e z
      (top_applied (arrow_of c labels (instr.BrTable ls l)) old)) (sym which_fault)
      (subst (λ (z : ValidFault). FailsToCheck z (labels_fault labels ts ls)
      (top_applied (arrow_of c labels (instr.BrTable ls l)) old)) (sym is)
      (told (labels_fault labels ts ls) (top_applied (arrow_of c labels (instr.BrTable ls l)) old)
      (labels_fault_is labels ts ls) (arrow_is false other)))

  typing : are_labels labels ts ls ≡ true → Typing ≡ fault_of c labels (instr.BrTable ls l)
  typing same = sym (which_fault ∙ labels_are_typed labels ts ls same)

  -- the number of a label isn't there
  pub number_fails : (e : ValidFault) → are_labels labels ts ls ≡ true
      → FailsToCheck e Typing (top_taken I32 old)
      → FailsToCheck e (fault_of c labels (instr.BrTable ls l))
      (top_applied (arrow_of c labels (instr.BrTable ls l)) old)
  number_fails e same h =
      fails_to e Typing (fault_of c labels (instr.BrTable ls l)) (top_taken I32 old)
      (top_applied (arrow_of c labels (instr.BrTable ls l)) old)
      (λ none. (
        arrow_is true same
            ∙ ap (λ z. (z >>= λ levels. top_all_taken ts levels) >>= λ levels. Some
            (top_unreached levels)) none,
        typing same,
      )) h

  -- what the labels take isn't there
  pub operands_fail : (e : ValidFault) (new : List Level) → are_labels labels ts ls ≡ true
      → top_taken I32 old ≡ Some new → FailsToCheck e Typing (top_all_taken ts new)
      → FailsToCheck e (fault_of c labels (instr.BrTable ls l))
      (top_applied (arrow_of c labels (instr.BrTable ls l)) old)
  operands_fail e new same taken h =
      fails_to e Typing (fault_of c labels (instr.BrTable ls l)) (top_all_taken ts new)
      (top_applied (arrow_of c labels (instr.BrTable ls l)) old)
      (λ none. (
        arrow_is true same ∙ ap (λ z. (z >>= λ levels. top_all_taken ts levels) >>= λ levels. Some
            (top_unreached levels)) taken ∙ ap (λ z. z >>= λ levels. Some
            (top_unreached levels)) none,
        typing same,
      )) h
