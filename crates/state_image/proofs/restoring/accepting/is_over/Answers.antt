use Rattle.std.proofs.Common.{◌≡◌, ap, ◌∙◌, arith}
use Rattle.wasi_calls.specs.rules.Held.{HeldWasiState}
use Rattle.state_image.proofs.Accepted.{all_over}
use Rattle.state_image.proofs.restoring.accepting.is_over.Goals as goal
use Rattle.machine.proofs.LoadingLemmas.Words.{empty_iff}

pub returns-then-is_empty : goal.returns-then-is_empty
returns-then-is_empty c =
    let v = c.args.process.now in
    let count = rw c.machine-machine.ensures at c.frame_count.ensures in
    let first : c.first.result.now ≡ v.host.host.first =
    c.first.ensures ∙ ap (λ (h : HeldWasiState). h.host.first) c.host-host.ensures in
    let second : c.second.result.now ≡ v.host.host.second =
    c.second.ensures ∙ ap (λ (h : HeldWasiState). h.host.second) c.host-host.ensures in
    all_over v.machine.state.frames v.machine.state.later v.host.host.first v.host.host.second
    c.is_starting.result c.is_empty-then-is_empty.result
    (omega (arith, count, c.if-frame_count-gt0.false))
    (rw c.machine-machine.ensures at c.is_starting.ensures) c.if-is_starting.false
    ((empty_iff v.host.host.first c.is_empty.result (rw first at c.is_empty.ensures)).0
    c.if-is_empty.true)
    (empty_iff v.host.host.second c.is_empty-then-is_empty.result
    (rw second at c.is_empty-then-is_empty.ensures))
