use Rattle.state_image.proofs.Pushing.{pushes_on, pushes_exit}
use Rattle.state_image.proofs.writing.machine_state.push_place.Goals as goal

pub returns-in_err-push_u32 : goal.returns-in_err-push_u32
returns-in_err-push_u32 g c = pushes_exit _ _ c.from_residual.ensures.1 c.in_err-push_u32.ensures

pub returns-in_err-push_count : goal.returns-in_err-push_count
returns-in_err-push_count g c =
    pushes_on c.in_ok-push_u32.ensures
    (pushes_exit _ _ c.from_residual-in_err-push_count.ensures.1
    c.in_err-push_count.ensures)

pub returns : goal.returns
returns g c =
    pushes_on c.in_ok-push_u32.ensures
    (pushes_on c.in_ok-push_count.ensures
    c.push_words.ensures)
