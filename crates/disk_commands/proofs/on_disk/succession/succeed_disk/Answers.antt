use Rattle.disk_commands.specs.rules.Creations.{new_disk}
use Rattle.disk_commands.proofs.SuccessorLemmas.{succeeds_on_opened}
use Rattle.disk_commands.proofs.on_disk.succession.succeed_disk.Goals as goal

pub returns : goal.returns
returns g c =
    let said = c.args.succession in
    let succeeds = c.succeed_open-status in
    succeeds_on_opened g.F.DiskFile.known (g.R.DiskFiles.known c.args.files.now) said.from.now
    said.new.on_device (new_disk said.new.path.now said.new.wasm.now said.new.prepared.now)
    c.in-Ok.old succeeds.new.old c.args.out.now succeeds.new.out c.args.err.now c.open_disk.new.err
    succeeds.new.err succeeds.result c.in-Ok.ensures.opened c.close.ensures c.in-Ok.ensures.quiet
    succeeds.ensures
