use Rattle.machine.specs.rules.LentFrames.{lent_frame}
use Rattle.state_image.proofs.Accepted.{outermost_at}
use Rattle.state_image.proofs.restoring.accepting.is_outermost.Goals as goal

pub returns : goal.returns
returns c = λ entry has.
    let at = outermost_at (record { start = c.args.machine.now.guest.start; entry = entry })
    c.args.machine.now.state.later c.args.machine.now.state.frames (lent_frame c.frame.result)
    c.frame.ensures in
    let called = c.is_called.ensures entry has in
    (λ told. at.1 (called.0 told), λ is. called.1 (at.0 is))
