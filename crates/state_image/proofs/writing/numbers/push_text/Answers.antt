use Rattle.state_image.proofs.Pushing.{pushes_on, pushes_exit}
use Rattle.state_image.proofs.writing.numbers.push_text.Goals as goal

pub returns-in_err-push_count : goal.returns-in_err-push_count
returns-in_err-push_count g c =
    pushes_exit c.args.text.now _ c.from_residual.ensures.1 c.in_err-push_count.ensures

pub returns : goal.returns
returns g c = pushes_on c.in_ok-push_count.ensures c.push_bytes.ensures
