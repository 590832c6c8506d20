use Rattle.std.proofs.Common.{ap, ◌∙◌}
use Rattle.wasi_abi.specs.rules.Layouts.{u64_bytes}
use Rattle.wasi_calls.specs.rules.Held.{HeldWasiState}
use Rattle.state_image.proofs.Pushing.{pushes_on, pushes_exit, pushes_of}
use Rattle.state_image.proofs.writing.counts.push_counts.Goals as goal

pub returns-in_err-push_u64 : goal.returns-in_err-push_u64
returns-in_err-push_u64 g c =
    pushes_exit _ _ c.from_residual.ensures.1
    (pushes_of u64_bytes c.steps.ensures.value c.in_err-push_u64.ensures)

pub returns-in_err-push_u64-2 : goal.returns-in_err-push_u64-2
returns-in_err-push_u64-2 g c =
    pushes_on (pushes_of u64_bytes c.steps.ensures.value c.in_ok-push_u64.ensures)
    (pushes_exit _ _ c.from_residual-in_err-push_u64-2.ensures.1
    (pushes_of u64_bytes c.answers.ensures.value c.in_err-push_u64-2.ensures))

pub returns-in_err-push_u64-3 : goal.returns-in_err-push_u64-3
returns-in_err-push_u64-3 g c =
    pushes_on (pushes_of u64_bytes c.steps.ensures.value c.in_ok-push_u64.ensures)
    (pushes_on (pushes_of u64_bytes c.answers.ensures.value c.in_ok-push_u64-2.ensures)
    (pushes_exit _ _ c.from_residual-in_err-push_u64-3.ensures.1
    (pushes_of u64_bytes c.requests.ensures.value c.in_err-push_u64-3.ensures)))

pub returns-in_err-push_u64-4 : goal.returns-in_err-push_u64-4
returns-in_err-push_u64-4 g c =
    pushes_on (pushes_of u64_bytes c.steps.ensures.value c.in_ok-push_u64.ensures)
    (pushes_on (pushes_of u64_bytes c.answers.ensures.value c.in_ok-push_u64-2.ensures)
    (pushes_on (pushes_of u64_bytes c.requests.ensures.value c.in_ok-push_u64-3.ensures)
    (pushes_exit _ _ c.from_residual-in_err-push_u64-4.ensures.1
    (pushes_of u64_bytes c.lines.ensures.value c.in_err-push_u64-4.ensures))))

pub returns : goal.returns
returns g c =
    let time = c.last_monotonic.ensures
    ∙ ap (λ (h : HeldWasiState). h.host.last_monotonic) c.host.ensures in
    pushes_on (pushes_of u64_bytes c.steps.ensures.value c.in_ok-push_u64.ensures)
    (pushes_on (pushes_of u64_bytes c.answers.ensures.value c.in_ok-push_u64-2.ensures)
    (pushes_on (pushes_of u64_bytes c.requests.ensures.value c.in_ok-push_u64-3.ensures)
    (pushes_on (pushes_of u64_bytes c.lines.ensures.value c.in_ok-push_u64-4.ensures)
    (pushes_of u64_bytes time c.push_u64-5.ensures))))
