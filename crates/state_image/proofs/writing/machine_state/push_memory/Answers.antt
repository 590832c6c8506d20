use Rattle.std.proofs.Common.{ℕ, List}
use Rattle.wasi_abi.specs.rules.Layouts.{u32_bytes}
use Rattle.state_image.proofs.Pushing.{pushes_on, pushes_exit, pushes_of}
use Rattle.state_image.proofs.writing.machine_state.push_memory.Goals as goal

pub returns-in_err-push_u32 : goal.returns-in_err-push_u32
returns-in_err-push_u32 g c =
    pushes_exit _ _ c.from_residual.ensures.1
    (pushes_of u32_bytes c.pages.ensures c.in_err-push_u32.ensures)

pub returns : goal.returns
returns g c =
    pushes_on (pushes_of u32_bytes c.pages.ensures c.in_ok-push_u32.ensures)
    (pushes_of (λ (bytes : List ℕ). bytes) c.bytes.ensures c.push_bytes.ensures)
