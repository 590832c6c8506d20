use Rattle.std.proofs.Common.{sym, ◌∙◌}
use Rattle.wasi_calls.proofs.Walks.{goes_in, not_last}
use Rattle.wasi_calls.proofs.paths.walk.walk.Goals as goal

pub loop-name-preserved : goal.loop-name-preserved
loop-name-preserved c =
    let entered = c.in_ok-directory.ensures in
    goes_in c.args.host.now.host.files c.args.start c.args.names c.loop-name.directory
    c.loop-name.names c.in-Some.name.now c.next.new.self c.loop-name.invariant c.in-Some.ensures
    (sym c.is_back.ensures ∙ c.if-is_back.false)
    (not_last c.next.new.self c.if-is_empty.ensures.1)
    c.in_ok-directory.directory entered.shape.files entered.gives entered.child entered.directory
