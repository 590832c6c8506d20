-- A function is valid where its body has its type.
use Rattle.std.proofs.Common.{◌≡◌, ◌<◌, ◌≤◌, ℕ, zero, suc, List, [], ◌∷◌, length, Some, None}
use Rattle.std.proofs.Common.{Result, Ok, Err, subst, arith}
use Rattle.std.specs.Prelude.{slice_get, IfErr}
use Rattle.std.specs.List.{AllByRecursion}
use Rattle.wasm_syntax.specs.declared.types.FunctionType.{FunctionType}
use Rattle.wasm_syntax.specs.declared.module.Module.{Module}
use Rattle.wasm_syntax.specs.declared.module.Function.{Function}
use Rattle.wasm_rules.specs.Typing.{body_context}
use Rattle.wasm_rules.specs.Validity.{IsFunctionTypeValid, IsFunctionValid, module_context}
use Rattle.wasm_validate.specs.declared.parts.fault.ValidFault.{ValidFault}
use Rattle.wasm_validate.specs.rules.Answers.{Judges}
use Rattle.wasm_validate.proofs.PartLemmas.Denied.{denies_still}
use Rattle.wasm_validate.specs.rules.Faults.{AreFunctionIndicesDefined, HaveDefinedIndices}
use Rattle.wasm_validate.specs.rules.Faults.{WouldHaveBody, WouldHaveType}
use Rattle.wasm_validate.specs.Parts.Parts.{IsFaultOfFunction}
use Rattle.wasm_validate.proofs.PartLemmas.Faults.{one_as}
use Rattle.wasm_validate.specs.Body.Bodies.{HasBody, IsFaultOfBody}

-- what holds of all types holds of one
pub type_valid : (types : List FunctionType) (x : ℕ) (t : FunctionType)
    → AllByRecursion IsFunctionTypeValid types → slice_get types x ≡ Some t → length t.results ≤ 1
type_valid [] x t all e = absurd (cc)
type_valid (u ∷ types) zero t all e = let same : u ≡ t = cc in
    subst (λ (z : FunctionType). length z.results ≤ 1) same all.0
type_valid (u ∷ types) (suc x) t all e = type_valid types x t all.1 e

module _ (m : Module) (functions : List FunctionType) (f : Function) where
  pub no_type : slice_get m.types f.function_type ≡ None → IsFunctionValid m functions f → ⊥
  no_type e v = let there = v.2 in absurd (cc)

  pub many_results : (t : FunctionType) → slice_get m.types f.function_type ≡ Some t
      → AllByRecursion IsFunctionTypeValid m.types → 1 < length t.results
      → IsFunctionValid m functions f → ⊥
  many_results t e all h v = let few = type_valid m.types f.function_type t all e in
      absurd (omega arith)

  of_body : (t : FunctionType) → slice_get m.types f.function_type ≡ Some t
      → HasBody (module_context m functions) t f.code → IsFunctionValid m functions f
  of_body t e b = (t, b.sequence, e, b.spells, b.typed)

  to_body : (t : FunctionType) → slice_get m.types f.function_type ≡ Some t
      → IsFunctionValid m functions f → HasBody (module_context m functions) t f.code
  to_body t e v =
      let there = v.2 in
      let same : v.0 ≡ t = cc in
      subst (λ (z : FunctionType). HasBody (module_context m functions) z f.code) same
      (record { sequence = v.1; spells = v.3; typed = v.4 })

  pub judged : (t : FunctionType) (r : Result Unit ValidFault)
      → slice_get m.types f.function_type ≡ Some t
      → Judges r (HasBody (module_context m functions) t f.code)
      → Judges r (IsFunctionValid m functions f)
  judged t (Ok x) e b = of_body t e b
  judged t (Err x) e b = denies_still x (λ v. to_body t e v) b

  pub not_named : slice_get m.types f.function_type ≡ None
      → AreFunctionIndicesDefined m functions f → ⊥
  not_named e n = let there = n.1 in absurd (cc)

  pub too_many : (t : FunctionType) → slice_get m.types f.function_type ≡ Some t
      → AllByRecursion IsFunctionTypeValid m.types → 1 < length t.results → ⊥
  too_many t e all h = let few = type_valid m.types f.function_type t all e in absurd (omega arith)

  would_have : (t : FunctionType) → slice_get m.types f.function_type ≡ Some t
      → WouldHaveType m functions f → WouldHaveBody (module_context m functions) t f.code
  would_have t e w =
      let there = w.1 in
      let same : w.0 ≡ t = cc in
      subst (λ (z : FunctionType). WouldHaveBody (module_context m functions) z f.code) same w.2

  named_by : (t : FunctionType) → slice_get m.types f.function_type ≡ Some t
      → AreFunctionIndicesDefined m functions f
      → HaveDefinedIndices (body_context (module_context m functions) t f.code.locals) 1 f.code.body
  named_by t e n =
      let there = n.1 in
      let same : n.0 ≡ t = cc in
      subst (λ (z : FunctionType). HaveDefinedIndices
      (body_context (module_context m functions) z f.code.locals) 1 f.code.body) same n.2

  pub body_told : (t : FunctionType) (r : Result Unit ValidFault)
      → slice_get m.types f.function_type ≡ Some t
      → IfErr r (IsFaultOfBody (module_context m functions) t f.code)
      → IfErr r (IsFaultOfFunction m functions f)
  body_told t (Ok x) e h = tt
  body_told t (Err x) e h = one_as x (would_have t e) (named_by t e) (λ k. k) h
