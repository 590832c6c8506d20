use Rattle.state_image.proofs.RestoreLemmas.MachineRead.{when_done, never_refused}
use Rattle.state_image.proofs.restoring.machine_state.load_globals.Goals as goal

pub returns-in_default-clause-refused : goal.returns-in_default-clause-refused
returns-in_default-clause-refused c refused x rest words is =
    c.in_default.ensures.none x rest words is

pub returns-clause-made : goal.returns-clause-made
returns-clause-made c =
    when_done c.push_globals.result c.push_globals.ensures.pushed
    (λ is. record { field = c.in-Some.words; has = c.in-Some.ensures; is = is })

pub returns-clause-refused : goal.returns-clause-refused
returns-clause-refused c refused x rest words is =
    absurd (never_refused c.push_globals.result c.push_globals.ensures.memory refused)
