use Rattle.state_image.proofs.RestoreLemmas.Loaded.{unfit_of}
use Rattle.state_image.proofs.RestoreLemmas.MachineRead.{none_put, start_put, no_start}
use Rattle.state_image.proofs.restoring.machine_state.load_calls.Goals as goal

pub returns-in_ok-push_start-in-Starting-clause-made :
    goal.returns-in_ok-push_start-in-Starting-clause-made
returns-in_ok-push_start-in-Starting-clause-made c =
    start_put c.args.phase c.args.machine.now c.push_start.new.self c.in-Starting.is
    c.in_ok-push_start-in-Starting.ensures.pushed

pub returns-in_err-push_start-in-Starting-clause-refused :
    goal.returns-in_err-push_start-in-Starting-clause-refused
returns-in_err-push_start-in-Starting-clause-refused c refused later come =
    no_start c.args.phase c.args.machine.now.guest c.in-Starting.is
    (c.in_err-push_start-in-Starting.ensures.none
    (unfit_of c.from_residual.result _ c.from_residual.ensures.1 refused)) later come

pub returns-in_default-clause-made : goal.returns-in_default-clause-made
returns-in_default-clause-made c =
    none_put c.args.phase c.args.machine.now c.in_default.not-Starting
