use Rattle.std.proofs.Common.{None, Some}
use Rattle.disk_commands.proofs.ClearedLemmas.{one_cleared, says_nothing}
use Rattle.disk_commands.proofs.on_disk.clearing.clear_place.Goals as goal

pub returns-in-Ok : goal.returns-in-Ok
returns-in-Ok g c =
    one_cleared (g.R.NewTrees.trees c.args.files.now) c.args.place.path.now None c.args.err.now
    c.args.err.now c.args.status c.args.status c.in-Ok.ensures.removed
    (says_nothing c.args.err.now c.args.status)

pub returns-in-Err : goal.returns-in-Err
returns-in-Err g c =
    one_cleared (g.R.NewTrees.trees c.args.files.now) c.args.place.path.now (Some c.in-Err.fault)
    c.args.err.now c.say_stays.new.err c.args.status c.say_stays.result c.in-Err.ensures.stays
    c.say_stays.ensures
