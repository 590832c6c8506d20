use Rattle.std.proofs.Common.{refl}
use Rattle.story_commands.proofs.SweepLemmas.Statuses.{unread_now}
use Rattle.story_commands.proofs.sweeping.telling.tell_sweep.Goals as goal

pub returns-in-Ok : goal.returns-in-Ok
returns-in-Ok g c =
    c.sweep_read-status.ensures c.args.script.now c.in-Ok.ensures.read

pub returns-in-Err : goal.returns-in-Err
returns-in-Err g c =
    let choice = c.args.choice in
    unread_now c.args.script.now c.args.wasm.now choice.sizes choice.fronts.now choice.life
    c.args.out.now c.args.out.now c.args.err.now c.report_sweep_script.new.err c.in-Err.fault
    c.report_sweep_script.result c.in-Err.ensures.fault c.report_sweep_script.ensures.words refl
