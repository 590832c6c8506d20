use Rattle.disk_commands.specs.rules.Creations.{new_disk}
use Rattle.disk_commands.proofs.SuccessorLemmas.{succeeds_none, succeeds_taken}
use Rattle.disk_commands.proofs.on_disk.succession.succeed_open.Goals as goal

pub returns-in-Ok : goal.returns-in-Ok
returns-in-Ok g c =
    let said = c.args.succession in
    let makes = c.begin_on_disk in
    succeeds_taken g.F.DiskFile.known (g.R.DiskFiles.known c.args.files.now) said.from.now
    said.new.on_device (new_disk said.new.path.now said.new.wasm.now said.new.prepared.now)
    c.args.old.now c.take_over.new.disk c.in-Ok.handover c.args.out.now makes.new.out c.args.err.now
    c.take_over.new.err makes.new.err makes.result c.in-Ok.ensures makes.ensures

pub returns-in-Err : goal.returns-in-Err
returns-in-Err g c =
    let said = c.args.succession in
    succeeds_none g.F.DiskFile.known (g.R.DiskFiles.known c.args.files.now) said.from.now
    said.new.on_device (new_disk said.new.path.now said.new.wasm.now said.new.prepared.now)
    c.args.old.now c.take_over.new.disk c.args.out.now c.args.err.now c.take_over.new.err
    c.in-Err.status c.in-Err.ensures
