use Rattle.std.proofs.Common.{refl}
use Rattle.disk_commands.proofs.ShowingLemmas.{shows_survey, shows_fault, shows_each}
use Rattle.disk_commands.proofs.on_disk.showing.survey.Goals as goal

pub returns-in-Ok : goal.returns-in-Ok
returns-in-Ok g c =
    let old = g.D.Disk.medium c.args.disk.now in
    let new = g.D.Disk.medium c.read_survey.new.disk in
    let out = c.args.out.now in
    let out' = c.say_survey.new.out in
    let err = c.args.err.now in
    let status = c.say_survey.result in
    let shown = shows_survey old new out out' err err status c.in-Ok.survey c.in-Ok.ensures
    c.say_survey.ensures refl in
    record {
      shows = shown;
      stands = shows_each old new out out' err err status shown;
    }

pub returns-in-Err : goal.returns-in-Err
returns-in-Err g c =
    let old = g.D.Disk.medium c.args.disk.now in
    let new = g.D.Disk.medium c.read_survey.new.disk in
    let out = c.args.out.now in
    let err = c.args.err.now in
    let err' = c.say_disk_fault.new.err in
    let status = c.say_disk_fault.result in
    let shown = shows_fault old new out out err err' status c.in-Err.fault c.from.result
    c.in-Err.ensures c.from.ensures c.say_disk_fault.ensures refl in
    record {
      shows = shown;
      stands = shows_each old new out out err err' status shown;
    }
