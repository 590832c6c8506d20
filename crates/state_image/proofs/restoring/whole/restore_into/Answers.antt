use Rattle.std.proofs.Common.{List, ℕ, ◌∙◌, subst}
use Rattle.state_image.specs.rules.Restored.{IsRestored}
use Rattle.state_image.proofs.RestoredWhole.{may_come, restored_so, refused_so}
use Rattle.state_image.proofs.RestoreLemmas.Lent.{fault_of}
use Rattle.state_image.proofs.restoring.whole.restore_into.Goals as goal

pub returns-in_err-process-clause-refused : goal.returns-in_err-process-clause-refused
returns-in_err-process-clause-refused c refused s w e =
    c.in_err-process.ensures.refused
    (fault_of c.from_residual.result _ c.from_residual.ensures.1 refused) s w
    (c.new-reader.ensures ∙ e)

pub is_accepted-requires : goal.is_accepted-requires
is_accepted-requires c =
    let v = c.in_ok-process.process in
    may_come v.machine.guest v.ended v.machine.state.later c.in_ok-process.ensures.read.later

pub returns-then-is_accepted-clause-restored : goal.returns-then-is_accepted-clause-restored
returns-then-is_accepted-clause-restored c =
    let v = c.in_ok-process.process in
    let P : List ℕ → Type 0 = λ bytes. IsRestored c.args.machine.guest c.args.config bytes v in
    subst P c.new-reader.ensures
    (restored_so c.args.machine c.args.config c.requires c.in_ok-process.ensures.read.valid
    c.new-reader.result c.read_process.new.reader v c.in_ok-process.ensures.read
    c.is_accepted.result c.is_accepted.ensures c.if-is_accepted.true c.in_ok-process.ensures.shows)

pub returns-else-is_accepted-clause-refused : goal.returns-else-is_accepted-clause-refused
returns-else-is_accepted-clause-refused c refused s w e =
    refused_so c.args.machine c.args.config c.requires c.in_ok-process.ensures.read.valid
    c.new-reader.result c.read_process.new.reader c.in_ok-process.process
    c.in_ok-process.ensures.read c.is_accepted.result c.is_accepted.ensures c.if-is_accepted.false
    s w (c.new-reader.ensures ∙ e)
