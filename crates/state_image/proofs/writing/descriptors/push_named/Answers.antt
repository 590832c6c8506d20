use Rattle.state_image.proofs.Pushing.{pushes_on, pushes_exit}
use Rattle.state_image.proofs.writing.descriptors.push_named.Goals as goal

pub returns-in_err-push_u8 : goal.returns-in_err-push_u8
returns-in_err-push_u8 g c = pushes_exit _ _ c.from_residual.ensures.1 c.in_err-push_u8.ensures

pub returns : goal.returns
returns g c =
    pushes_on c.in_ok-push_u8.ensures
    c.push_u64.ensures
