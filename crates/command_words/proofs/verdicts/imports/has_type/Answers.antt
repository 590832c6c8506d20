use Rattle.std.proofs.Common.{◌∙◌, ap, sym, rules}
use Rattle.std.proofs.lemmas.Slice.Eq.{slice_eq-Decides}
use Rattle.wasm_syntax.specs.declared.types.FunctionType.{FunctionType}
use Rattle.machine.proofs.InstanceLemmas.Offered.{same_type}
use Rattle.command_words.proofs.verdicts.imports.has_type.Goals as goal

pub returns-then-eq : goal.returns-then-eq
returns-then-eq c =
    let t = c.args.function_type.now in
    let p = (slice_eq-Decides (λ a b. search rules) _ _ _ c.eq.ensures).0 c.if-eq.true in
    let d = slice_eq-Decides (λ a b. search rules) _ _ _ c.eq-then-eq.ensures in (
      λ e. same_type t c.args.call (sym c.as_slice.ensures
          ∙ (p ∙ c.parameters.ensures)) (sym c.as_slice-then-eq.ensures
          ∙ (d.0 e ∙ c.results.ensures)),
      λ e. d.1 (c.as_slice-then-eq.ensures ∙ (ap (λ (t : FunctionType). t.results) e
          ∙ sym c.results.ensures)),
    )
