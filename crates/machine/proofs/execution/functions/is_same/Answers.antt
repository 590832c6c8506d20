use Rattle.std.proofs.Common.{ap, sym, ◌∙◌, rules}
use Rattle.std.proofs.lemmas.Slice.Eq.{slice_eq-Decides}
use Rattle.wasm_syntax.specs.declared.types.FunctionType.{FunctionType}
use Rattle.machine.proofs.CycleLemmas.FunctionSignatures.{same_type}
use Rattle.machine.proofs.execution.functions.is_same.Goals as goal

pub returns-then-eq : goal.returns-then-eq
returns-then-eq c =
    let p = (slice_eq-Decides (λ a b. search rules) _ _ _ c.eq.ensures).0 c.if-eq.true in
    let d = slice_eq-Decides (λ a b. search rules) _ _ _ c.eq-then-eq.ensures in (
      λ e. same_type c.args.a.now c.args.b.now (sym c.as_slice.ensures
          ∙ (p ∙ c.as_slice-2.ensures)) (sym c.as_slice-then-eq.ensures
          ∙ (d.0 e ∙ c.as_slice-then-eq-2.ensures)),
      λ e. d.1 (c.as_slice-then-eq.ensures ∙ (ap (λ (t : FunctionType). t.results) e
          ∙ sym c.as_slice-then-eq-2.ensures)),
    )

pub returns-else-eq : goal.returns-else-eq
returns-else-eq c = (
  λ e. absurd (cc (e, c.if-eq.false)),
  λ e. (slice_eq-Decides (λ a b. search rules) _ _ _ c.eq.ensures).1 (c.as_slice.ensures
      ∙ (ap (λ (t : FunctionType). t.parameters) e ∙ sym c.as_slice-2.ensures)),
)
