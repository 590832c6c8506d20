use Rattle.std.proofs.Common.{ℕ, List, [], ◌∷◌}
use Rattle.state_image.proofs.Pushing.{pushes_on, pushes_exit, pushes_of}
use Rattle.state_image.proofs.writing.files.push_directory.Goals as goal

abbrev one : ℕ → List ℕ
one n = n ∷ []

pub returns-in_err-push_u8 : goal.returns-in_err-push_u8
returns-in_err-push_u8 g c =
    pushes_exit _ _ c.from_residual.ensures.1
    (pushes_of one c.number.ensures c.in_err-push_u8.ensures)

pub returns : goal.returns
returns g c =
    pushes_on (pushes_of one c.number.ensures c.in_ok-push_u8.ensures)
    c.push_entries.ensures
