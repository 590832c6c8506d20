use Rattle.std.proofs.Common.{inr, refl}
use Rattle.command_words.specs.rules.Printers.{printers}
use Rattle.disk_commands.specs.rules.ExtractedTrees.{ExtractsSeen}
use Rattle.disk_commands.proofs.FileLemmas.{does_opened, does_pictured}
use Rattle.disk_commands.proofs.on_disk.extracting.extract_file.Goals as goal

pub returns-in-Ok : goal.returns-in-Ok
returns-in-Ok g c =
    let done = c.extract_disk-status in
    does_pictured g.F.DiskFile.known (g.R.DiskFiles.known c.args.files.now) c.args.seen.path.now
    (ExtractsSeen (g.R.NewTrees.trees c.args.files.now) c.args.folder.now)
    c.args.seen.is_live c.args.out.now c.args.err.now c.picture_of.new.err
    (printers done.new.out done.new.err) done.result c.in-Ok.ensures.quiet c.in-Ok.picture
    done.new.disk c.if-seen.true c.in-Ok.ensures.pictured done.ensures

pub returns-in-Err : goal.returns-in-Err
returns-in-Err g c = rw c.if-seen.true (inr (c.in-Err.ensures.said, refl))

pub returns-in-Ok-open_to_look : goal.returns-in-Ok-open_to_look
returns-in-Ok-open_to_look g c =
    let found = c.in-Ok-open_to_look in
    let done = c.extract_disk-status-in-Ok-open_to_look in
    does_opened g.F.DiskFile.known (g.R.DiskFiles.known c.args.files.now) c.args.seen.path.now
    (ExtractsSeen (g.R.NewTrees.trees c.args.files.now) c.args.folder.now)
    c.args.seen.is_live c.args.out.now c.args.err.now c.open_to_look.new.err
    (printers done.new.out done.new.err) done.result found.ensures.quiet found.disk
    done.new.disk c.if-seen.false found.ensures.opened c.close.ensures done.ensures

pub returns-in-Err-open_to_look : goal.returns-in-Err-open_to_look
returns-in-Err-open_to_look g c =
    rw c.if-seen.false (inr (c.in-Err-open_to_look.ensures.said, refl))
