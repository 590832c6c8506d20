use Rattle.std.proofs.Common.{sym, ap, ◌∙◌}
use Rattle.std.specs.Prelude.{slice_get}
use Rattle.wasm_validate.proofs.BodyLemmas.KnownTypes.{known_at, none_at}
use Rattle.wasm_validate.proofs.body.types.OperandTypes.get.Goals as goal

pub returns-in-Some : goal.returns-in-Some
returns-in-Some c =
    let n = c.args.number in
    known_at c.self.inside.known.now n c.in-Some.known c.self.invariant
    (sym c.operand_at.ensures ∙ c.in-Some.is)
    ∙ ap (λ z. slice_get z n) c.self.view_is

pub returns-in-None : goal.returns-in-None
returns-in-None c =
    let n = c.args.number in
    none_at c.self.inside.known.now n c.self.invariant (sym c.operand_at.ensures ∙ c.in-None.is)
    ∙ ap (λ z. slice_get z n) c.self.view_is
