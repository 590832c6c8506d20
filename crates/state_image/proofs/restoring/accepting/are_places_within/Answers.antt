use Rattle.std.proofs.Common.{refl, arith}
use Rattle.state_image.proofs.Accepted.{all_within}
use Rattle.state_image.proofs.restoring.accepting.are_places_within.Goals as goal

pub returns : goal.returns
returns c =
    let all = all_within c.loop-index.index c.args.machine.now.state.frames
    (omega (arith, c.frame_count-index-end.ensures, c.loop-index-test.false))
    c.loop-index.invariant in
    (λ told. all, λ is. refl)
