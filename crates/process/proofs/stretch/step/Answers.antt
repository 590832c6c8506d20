use Rattle.std.proofs.Common.{sym, subst}
use Rattle.process.specs.declared.stretch.Stretch.{Stretch}
use Rattle.process.specs.Stretches.{StepsAt}
use Rattle.process.proofs.Looping.{steps_of}
use Rattle.process.proofs.stretch.step.Goals as goal

pub returns-clause-steps : goal.returns-clause-steps
returns-clause-steps c =
    let P : Stretch → Type 0 =
    λ s. StepsAt c.args.machine.now c.args.host.now c.args.call c.args.arguments.now s
    c.perform-performed.new.machine c.perform-performed.new.host in
    subst P (sym c.stretch_of.ensures)
    (steps_of c.args.machine.now c.perform-performed.new.machine c.args.host.now
    c.perform-performed.new.host c.args.call c.args.arguments.now
    c.perform-performed.ensures.released c.requires.none_waits c.perform-performed.result
    c.perform-performed.ensures.calls)
