use Rattle.std.proofs.Common.{ap}
use Rattle.machine.specs.declared.execution.pause.Pause.TheVariants as pause
use Rattle.machine.specs.declared.execution.pause.HostCall.{HostCall}
use Rattle.machine.specs.declared.execution.cycle.Cycle.TheVariants as cycle
use Rattle.machine.proofs.execution.machine_loop.ask.Goals as goal

pub returns-clause-asks : goal.returns-clause-asks
returns-clause-asks c = λ over arguments under words count typed.
    ap (λ (told : HostCall). cycle.Waits (record {
      why = pause.Host told;
      fuel_left = c.args.fuel;
    })) (c.call_below.ensures over arguments under words count typed)
