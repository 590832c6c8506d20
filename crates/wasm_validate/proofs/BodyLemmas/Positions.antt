-- Where a check of the opcodes before a position of a typed body comes to.
use Rattle.std.proofs.Common.{◌≡◌, ℕ, ◌+◌, ◌<◌, ◌≤◌, Bool, true, false, List, [], ◌∷◌, ◌++◌, length}
use Rattle.std.proofs.Common.{take, Option, Some, None, Ok, refl, sym, ap, ◌∙◌, subst, arith}
use Rattle.std.proofs.Common.{length-append}
use Rattle.std.specs.Prelude.{nat_le, ◌==◌, map, reverse, if◌then◌else◌}
use Rattle.std.specs.Option.{option_map}
use Rattle.std.proofs.lemmas.Bool.Decides.{nat_tests}
use Rattle.std.proofs.lemmas.List.{append-nil, take-append-le}
use Rattle.wasm_syntax.specs.declared.types.ValueType.{ValueType}
use Rattle.wasm_syntax.specs.declared.types.FunctionType.{FunctionType}
use Rattle.wasm_syntax.specs.declared.module.Code.{Code}
use Rattle.wasm_syntax.specs.declared.instruction.Instruction.TheVariants as instr
use Rattle.wasm_syntax.specs.rules.Sequence.{Stop, spelled}
use Rattle.wasm_rules.specs.Types.{gives_of, results_of}
use Rattle.wasm_rules.specs.Typing.{Context, body_context}
use Rattle.wasm_rules.specs.Shapes.{Shape, body_shape}
use Rattle.wasm_validate.specs.declared.parts.fault.ValidFault.{ValidFault}
use Rattle.wasm_validate.specs.declared.parts.fault.ValidFault.TheVariants.{Typing, Index, Limits}
use Rattle.wasm_validate.specs.declared.parts.fault.ValidFault.TheVariants.{Memory}
use Rattle.wasm_validate.specs.rules.Operands.{types_in, types_below}
use Rattle.wasm_validate.specs.laws.Checking.{Level, all_pushed, new_level, checked}
use Rattle.wasm_validate.specs.laws.Reached.{are_reached, all_operands, LevelsStandFor}
use Rattle.wasm_validate.specs.Body.Answers.{FailsToCheck, IsReached, TellsReach}
use Rattle.wasm_validate.specs.Body.Bodies.{HasBody}
use Rattle.wasm_validate.specs.Body.Known.{types_if_known}
use Rattle.wasm_validate.proofs.Algorithm.Reaching.{finds_shapes}
use Rattle.wasm_validate.proofs.BodyLemmas.KnownTypes.{all_known, turned_known}

-- ---- behind the last end, and beyond it

abbrev end_shape : Context → Shape
end_shape c = record { labels = []; operands = c.returns; rest = Stop }

shape_behind : (c : Context) (n p : ℕ) (x : Option Shape) → p ≡ n + 1
    → (if nat_le p n then x else if p == n + 1 then Some (end_shape c) else None)
    ≡ Some (end_shape c)
shape_behind c n p x e = by_order (nat_le p n) refl
  where
    by_equal : (b : Bool) → (p == n + 1) ≡ b
        → (if b then Some (end_shape c) else None) ≡ Some (end_shape c)
    by_equal true t = refl
    by_equal false t = absurd (let no : p ≡ n + 1 → ⊥ = grind (arith, nat_tests) in no e)

    by_order : (b : Bool) → nat_le p n ≡ b
        → (if b then x else if p == n + 1 then Some (end_shape c) else None) ≡ Some (end_shape c)
    by_order true t = absurd (let no : p ≤ n = grind (arith, nat_tests) in omega arith)
    by_order false t = by_equal (p == n + 1) refl

shape_beyond : (c : Context) (n p : ℕ) (x : Option Shape) → n + 1 < p
    → (if nat_le p n then x else if p == n + 1 then Some (end_shape c) else None) ≡ None
shape_beyond c n p x h = by_order (nat_le p n) refl
  where
    by_equal : (b : Bool) → (p == n + 1) ≡ b → (if b then Some (end_shape c) else None) ≡ None
    by_equal true t = absurd (let no : p ≡ n + 1 = grind (arith, nat_tests) in omega arith)
    by_equal false t = refl

    by_order : (b : Bool) → nat_le p n ≡ b
        → (if b then x else if p == n + 1 then Some (end_shape c) else None) ≡ None
    by_order true t = absurd (let no : p ≤ n = grind (arith, nat_tests) in omega arith)
    by_order false t = by_equal (p == n + 1) refl

-- ---- what is answered there

stand_leads : (levels : List Level) (o : Option Shape) → LevelsStandFor levels o
    → TellsReach (Ok (are_reached levels)) levels o
stand_leads levels None h = rw h tt
stand_leads levels (Some s) h = rw h.0 h.1

only_memory_fails : (e fault : ValidFault) (o : Option (List Level)) (levels : List Level)
    → o ≡ Some levels → FailsToCheck e fault o → e ≡ Memory
only_memory_fails Memory fault o levels h f = refl
only_memory_fails Typing Typing o levels h f = absurd (cc)
only_memory_fails Index Index o levels h f = absurd (cc)
only_memory_fails Limits Limits o levels h f = absurd (cc)
only_memory_fails e fault o levels h f = absurd f

module _ (c : Context) (signature : FunctionType) (code : Code) (r : Option ValueType)
    (is : results_of r ≡ gives_of signature) (has : HasBody c signature code) where
  abbrev in_body : Context
  in_body = body_context c signature code.locals

  abbrev start : List Level
  start = new_level r r false ∷ []

  abbrev shape : ℕ → Option Shape
  shape p = body_shape in_body has.sequence p

  count : length code.body ≡ length (spelled has.sequence) + 1
  count =
      let parts : length (spelled has.sequence ++ instr.End ∷ [])
      ≡ length (spelled has.sequence) + 1 =
      length-append (spelled has.sequence) (instr.End ∷ []) in
      ap length has.spells.is ∙ parts

  pub behind_end : (p : ℕ) (levels : List Level) → p ≡ length code.body
      → levels ≡ all_pushed (results_of r) (new_level r r false) ∷ []
      → TellsReach (Ok true) levels (shape p)
  behind_end p levels at e =
      let o : shape p ≡ Some (end_shape in_body) =
      shape_behind in_body (length (spelled has.sequence)) p _ (at ∙ count) in
      let some = map (λ (t : ValueType). Some t) in
      let operands : all_operands levels ≡ map (λ t. Some t) (gives_of signature ++ []) =
      ap all_operands e
      ∙ append-nil (map (λ t. Some t) (results_of r) ++ [])
      ∙ append-nil (map (λ t. Some t) (results_of r))
      ∙ ap (λ z. map (λ t. Some t) z) (is ∙ sym (append-nil (gives_of signature))) in
      subst (λ z. TellsReach (Ok true) levels z) (sym o) operands

  pub beyond_end : (p : ℕ) (levels : List Level) → length code.body < p
      → TellsReach (Ok false) levels (shape p)
  beyond_end p levels h =
      let n : length code.body ≡ length (spelled has.sequence) + 1 = count in
      let o : shape p ≡ None =
      shape_beyond in_body (length (spelled has.sequence)) p _ (omega arith) in
      subst (λ z. TellsReach (Ok false) levels z) (sym o) tt

  module _ (p : ℕ) (h : p < length code.body) where
    comes_there : (new : List Level) × (checked in_body (take p code.body) start ≡ Some new)
        × LevelsStandFor new (shape p)
    comes_there =
        let n : length code.body ≡ length (spelled has.sequence) + 1 = count in
        let low : p ≤ length (spelled has.sequence) = omega arith in
        let r = finds_shapes in_body has.sequence r p has.spells.nested has.typed is low in
        let front : take p code.body ≡ take p (spelled has.sequence) =
        ap (λ z. take p z) has.spells.is ∙ take-append-le p (spelled has.sequence)
        (instr.End ∷ []) low in
        (r.new, ap (λ z. checked in_body z start) front ∙ r.is, r.stands)

    pub inside : (levels : List Level) → checked in_body (take p code.body) start ≡ Some levels
        → TellsReach (Ok (are_reached levels)) levels (shape p)
    inside levels e =
        let there = comes_there in
        let is' = there.1 in
        let same : there.0 ≡ levels = cc in
        stand_leads levels (shape p) (subst (λ z. LevelsStandFor z (shape p)) same there.2)

    pub fails_inside : (e fault' : ValidFault) → FailsToCheck e fault'
        (checked in_body (take p code.body) start) → e ≡ Memory
    fails_inside e fault' f = only_memory_fails e fault'
        (checked in_body (take p code.body) start) comes_there.0 comes_there.1 f

-- ---- the types that are found

pub types_found : (levels : List Level) (o : Option Shape) → IsReached true levels o
    → types_if_known (reverse (all_operands levels)) ≡ option_map types_in o
types_found levels None h = absurd h
types_found levels (Some s) h =
    ap (λ z. types_if_known (reverse z)) h
    ∙ ap types_if_known (turned_known (s.operands ++ types_below s.labels))
    ∙ all_known (reverse (s.operands ++ types_below s.labels))
