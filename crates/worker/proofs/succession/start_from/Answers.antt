use Rattle.record_replay.proofs.Worked.{unread, unlinked}
use Rattle.worker.proofs.succession.start_from.Goals as goal

pub returns-in-Err-start_from-clause-refused : goal.returns-in-Err-start_from-clause-refused
returns-in-Err-start_from-clause-refused c =
    let linked = c.in-Err-start_from.ensures in
    rw c.from.ensures (unlinked c.args.config.pages c.args.wasm.now c.in-Ok.module
    c.in-Err-start_from.fault c.in-Ok.ensures.read linked.refused linked.only)

pub returns-in-Err-clause-refused : goal.returns-in-Err-clause-refused
returns-in-Err-clause-refused c =
    rw c.from-in-Err.ensures (unread c.args.config.pages c.args.wasm.now c.in-Err.fault
    c.in-Err.ensures.reported c.in-Err.ensures.only)
