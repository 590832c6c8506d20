-- The worked examples hold.
use Rattle.std.proofs.Common.{◌≡◌, List, [], ◌∷◌, ◌++◌, Some, refl, ap, ◌∙◌, subst, lit<}
use Rattle.wasm_syntax.specs.declared.types.ValueType.{ValueType}
use Rattle.wasm_syntax.specs.declared.types.ValueType.TheVariants.{I32, I64}
use Rattle.wasm_syntax.specs.declared.value.Value.{Value}
use Rattle.wasm_syntax.specs.declared.value.Value.TheVariants as value
use Rattle.wasm_syntax.specs.declared.instruction.Instruction.TheVariants as instr
use Rattle.wasm_syntax.specs.rules.Sequence.{Sequence, Stop, Plain, InIf}
use Rattle.wasm_rules.specs.Typing.{HasType}
use Rattle.wasm_rules.specs.Shapes.{type_of}
use Rattle.wasm_rules.specs.laws.Examples.{TypingExamples, bare_context, const_32, const_64, add_32}
use Rattle.wasm_rules.specs.laws.Examples.{mixed, lone_if, branch_out, choice, behind_unreachable}
use Rattle.wasm_rules.proofs.TypedShape.{value_type}

choice_typed : HasType bare_context [] choice [] (I32 ∷ [])
choice_typed = (
  [],
  I32 ∷ [],
  [],
  refl,
  (I32, lit< tt, refl, refl),
  (
    [],
    refl,
    ([], I32 ∷ [], [], refl, (I32, lit< tt, refl, refl), refl),
    ([], I32 ∷ [], [], refl, (I32, lit< tt, refl, refl), refl),
    refl,
  ),
)

unreachable_typed : HasType bare_context [] behind_unreachable [] (I32 ∷ [])
unreachable_typed =
    ([], I32 ∷ I32 ∷ [], [], refl, tt, (I32 ∷ I32 ∷ [], I32 ∷ [], [], refl, (refl, refl), refl))

branch_typed : HasType bare_context [] branch_out [] (I32 ∷ [])
branch_typed = (
  (
    [],
    I32 ∷ [],
    [],
    refl,
    (I32, lit< tt, refl, refl),
    (
      I32 ∷ [],
      I32 ∷ [],
      [],
      refl,
      (I32 ∷ [], [], refl, refl),
      (
        I32 ∷ [],
        [],
        [],
        refl,
        (I32, refl, refl),
        ([], I32 ∷ [], [], refl, (I32, lit< tt, refl, refl), refl),
      ),
    ),
  ),
  refl,
)

-- a constant leaves its own type on top
const_leaves : (v : Value) (rest : Sequence) (a b : List ValueType)
    → HasType bare_context [] (Plain (instr.Const v) rest) a b
    → HasType bare_context [] rest (type_of v ∷ a) b
const_leaves v rest a b h =
    let same : type_of v ≡ h.4.0 = value_type h.4.0 v h.4.1 in
    let below : a ≡ h.2 = h.3 ∙ ap (λ z. z ++ h.2) h.4.2 in
    let top : h.1 ++ h.2 ≡ h.4.0 ∷ h.2 = ap (λ z. z ++ h.2) h.4.3 in
    let operands : h.1 ++ h.2 ≡ type_of v ∷ a = cc in
    subst (λ z. HasType bare_context [] rest z b) operands h.5

not_mixed : (b : List ValueType) → HasType bare_context [] mixed [] b → ⊥
not_mixed b h =
    let first = const_leaves (value.I32 1) (Plain (const_64 2) (Plain add_32 Stop)) [] b h in
    let second = const_leaves (value.I64 2) (Plain add_32 Stop) (I32 ∷ []) b first in
    let operands : I64 ∷ I32 ∷ [] ≡ (I32 ∷ I32 ∷ []) ++ second.2 =
    second.3 ∙ ap (λ z. z ++ second.2) second.4.0 in
    absurd (cc)

not_dropped : (b : List ValueType) → HasType bare_context [] (Plain instr.Drop Stop) [] b → ⊥
not_dropped b h =
    let operands : [] ≡ (h.4.0 ∷ []) ++ h.2 = h.3 ∙ ap (λ z. z ++ h.2) h.4.1 in
    absurd (cc)

not_alone : (b : List ValueType) → HasType bare_context [] lone_if [] b → ⊥
not_alone b h =
    let r = const_leaves (value.I32 1) (InIf (Some I32) (Plain (const_32 2) Stop) Stop) [] b h in
    let none = r.2 in absurd (cc)

no_label : (b : List ValueType) → HasType bare_context [] (Plain (instr.Br 0) Stop) [] b → ⊥
no_label b h = let none = h.4.2 in absurd (cc)

pub typing_examples : TypingExamples
typing_examples = record {
  choice_has_type = choice_typed;
  behind_unreachable_has_type = unreachable_typed;
  branch_out_has_type = branch_typed;
  mixed_has_no_type = not_mixed;
  drop_has_no_type = not_dropped;
  lone_if_has_no_type = not_alone;
  branch_has_no_label = no_label;
}
