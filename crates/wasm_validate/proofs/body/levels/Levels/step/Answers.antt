use Rattle.std.proofs.Common.{◌≡◌, ◌≢◌, [], refl, subst}
use Rattle.wasm_syntax.specs.declared.instruction.Instruction.{Instruction}
use Rattle.wasm_syntax.specs.declared.instruction.Instruction.TheVariants as instr
use Rattle.wasm_syntax.specs.rules.Sequence.{IsPlain}
use Rattle.wasm_validate.specs.Body.Answers.{LevelsFollow}
use Rattle.wasm_validate.proofs.BodyLemmas.Steps.{after_is}
use Rattle.wasm_validate.proofs.BodyLemmas.FaultMeanings.{fault_is}
use Rattle.wasm_validate.specs.laws.Checking.{labels_of, levels_after}
use Rattle.wasm_validate.specs.laws.FirstFault.{fault_of}
use Rattle.wasm_validate.proofs.body.levels.Levels.step.Goals as goal

pub returns-in_default : goal.returns-in_default
returns-in_default c = λ c' scope.
    subst (λ z. LevelsFollow z c.operate.result c.operate.new.self
    (levels_after c' c.args.instruction.now c.args.self.now))
    (fault_is c' c.args.instruction.now c.args.self.now some_open)
    (subst (λ z. LevelsFollow
    (fault_of c'
    (labels_of c.args.self.now) c.args.instruction.now) c.operate.result c.operate.new.self z)
    (after_is c' c.args.instruction.now c.args.self.now some_open
    (plain c.args.instruction.now refl))
    (c.operate.ensures c' scope))
  where
    some_open : c.args.self.now ≢ []
    some_open e = let yes = c.is_empty.ensures.1 e in let no = c.if-is_empty.false in absurd (cc)

    plain : (i : Instruction) → c.args.instruction.now ≡ i → IsPlain i
    plain (instr.Block t) e = c.in_default.not-Block t e
    plain (instr.Loop t) e = c.in_default.not-Loop t e
    plain (instr.If t) e = c.in_default.not-If t e
    plain instr.Else e = c.in_default.not-Else e
    plain instr.End e = c.in_default.not-End e
    plain _ e = tt
