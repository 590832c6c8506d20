use Rattle.wasi_abi.specs.rules.Layouts.{u64_bytes}
use Rattle.state_image.proofs.Pushing.{pushes_on, pushes_exit, pushes_of}
use Rattle.state_image.proofs.writing.files.push_files.Goals as goal

pub returns-in_err-push_u64 : goal.returns-in_err-push_u64
returns-in_err-push_u64 g c =
    pushes_exit _ _ c.from_residual.ensures.1
    (pushes_of u64_bytes c.next.ensures c.in_err-push_u64.ensures)

pub returns : goal.returns
returns g c =
    pushes_on (pushes_of u64_bytes c.next.ensures c.in_ok-push_u64.ensures)
    c.push_nodes.ensures
