use Rattle.std.proofs.Common.{◌≡◌, Err, refl, subst, sym}
use Rattle.process.specs.rules.Values.{ProcessValue}
use Rattle.state_image.specs.restoring.Processes.{process_behind, IsReadProcess}
use Rattle.state_image.proofs.ReadWhole.{no_progress, no_machine, no_host, no_process, read_process}
use Rattle.state_image.proofs.RestoreLemmas.Lent.{fault_of}
use Rattle.state_image.proofs.RestoreLemmas.Loops.{if_ok}
use Rattle.state_image.proofs.restoring.whole.read_process.Goals as goal

pub returns-in_default-clause-refused : goal.returns-in_default-clause-refused
returns-in_default-clause-refused c refused s w e =
    no_progress c.args.machine.guest c.args.config c.args.reader.now c.read_progress.new.reader
    c.in_default.ensures s w e

pub returns-in_err-machine-clause-refused : goal.returns-in_err-machine-clause-refused
returns-in_err-machine-clause-refused c refused s w e =
    no_machine c.args.machine c.args.config c.requires c.in_err-machine.ensures.valid
    c.in-Some.progress c.args.reader.now c.read_progress.new.reader c.in-Some.ensures s w e
    (c.in_err-machine.ensures.refused
    (fault_of c.from_residual.result _ c.from_residual.ensures.1
    refused))

pub returns-in-Err-clause-refused : goal.returns-in-Err-clause-refused
returns-in-Err-clause-refused c refused s w e =
    no_host c.args.machine c.args.config c.requires c.in_ok-machine.ensures.valid c.in-Some.progress
    c.args.reader.now c.read_progress.new.reader c.in-Some.ensures s w e c.in_ok-machine.machine
    c.restore_machine.new.reader c.in_ok-machine.ensures.made
    (c.in-Err.ensures.refused (fault_of (Err c.in-Err.fault) c.in-Err.fault refl refused))

pub returns-in-Ok-clause-read : goal.returns-in-Ok-clause-read
returns-in-Ok-clause-read c =
    let linked = c.args.machine in
    let v = process_behind c.in-Some.progress c.in_ok-machine.machine c.in-Ok.host in
    let is = read_process linked c.args.config c.requires c.in_ok-machine.ensures.valid
    c.in-Some.progress c.args.reader.now c.read_progress.new.reader c.in-Some.ensures
    c.in_ok-machine.machine c.restore_machine.new.reader c.restore_host.new.reader
    c.in-Ok.host c.in_ok-machine.ensures.made c.in_ok-machine.ensures.shows
    c.in_ok-machine.ensures.slots c.in-Ok.ensures.made in
    if_ok (λ (p : ProcessValue). p ≡ v)
    (IsReadProcess linked c.args.config c.args.reader.now c.restore_host.new.reader)
    c.put_together.result c.put_together.ensures.made
    (λ p e. subst (IsReadProcess linked c.args.config c.args.reader.now c.restore_host.new.reader)
    (sym e) is)

pub returns-in-Ok-clause-refused : goal.returns-in-Ok-clause-refused
returns-in-Ok-clause-refused c refused s w e =
    no_process c.args.machine c.args.config c.requires c.in_ok-machine.ensures.valid
    c.in-Some.progress c.args.reader.now c.read_progress.new.reader c.in-Some.ensures
    c.in_ok-machine.machine c.restore_machine.new.reader c.restore_host.new.reader c.in-Ok.host
    c.in_ok-machine.ensures.made c.in_ok-machine.ensures.shows
    c.in_ok-machine.ensures.slots c.in-Ok.ensures.made
    (c.put_together.ensures.refused refused) s w e
