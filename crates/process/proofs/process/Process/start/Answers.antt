use Rattle.process.proofs.Starting.{has_started, is_process}
use Rattle.process.proofs.process.Process.start.Goals as goal

pub invariant_of-result : goal.invariant_of-result
invariant_of-result c =
    is_process c.args.«module» c.args.config c.in_ok-machine.ensures.valid c.in_ok-machine.machine
    (rw c.pages.ensures.value at c.in_ok-machine.ensures.begun)
    c.in-Ok.host c.end_with_program-ended.new.host c.in-Ok.ensures
    c.end_with_program-ended.result c.end_with_program-ended.ensures.ends
    c.end_with_program-ended.ensures.few

pub returns-clause-started : goal.returns-clause-started
returns-clause-started c =
    has_started c.args.«module» c.args.config c.in_ok-machine.ensures.valid c.in_ok-machine.machine
    (rw c.pages.ensures.value at c.in_ok-machine.ensures.begun)
    c.in-Ok.host c.end_with_program-ended.new.host c.in-Ok.ensures
    c.end_with_program-ended.result c.end_with_program-ended.ensures.ends
    c.end_with_program-ended.ensures.host

pub returns-clause-shows : goal.returns-clause-shows
returns-clause-shows c =
    is_process c.args.«module» c.args.config c.in_ok-machine.ensures.valid c.in_ok-machine.machine
    (rw c.pages.ensures.value at c.in_ok-machine.ensures.begun)
    c.in-Ok.host c.end_with_program-ended.new.host c.in-Ok.ensures
    c.end_with_program-ended.result c.end_with_program-ended.ensures.ends
    c.end_with_program-ended.ensures.few
