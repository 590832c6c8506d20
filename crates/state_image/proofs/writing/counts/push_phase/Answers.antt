use Rattle.std.proofs.Common.{ℕ, List, [], ◌∷◌, ap, ◌∙◌}
use Rattle.wasi_abi.specs.rules.Layouts.{u32_bytes}
use Rattle.state_image.specs.rules.ProcessImage.{ending_code, flag_of}
use Rattle.wasi_calls.specs.rules.Held.{HeldWasiState}
use Rattle.state_image.proofs.Pushing.{pushes_on, pushes_exit, pushes_of}
use Rattle.state_image.proofs.writing.counts.push_phase.Goals as goal

abbrev one : ℕ → List ℕ
one n = n ∷ []

pub returns-in_err-push_u8 : goal.returns-in_err-push_u8
returns-in_err-push_u8 g c =
    pushes_exit _ _ c.from_residual.ensures.1
    (pushes_of one c.phase_of.ensures c.in_err-push_u8.ensures)

pub returns-in_err-push_u32 : goal.returns-in_err-push_u32
returns-in_err-push_u32 g c =
    let code = c.code_of.ensures ∙ ap ending_code c.reached_end.ensures.value in
    pushes_on (pushes_of one c.phase_of.ensures c.in_ok-push_u8.ensures)
    (pushes_exit _ _ c.from_residual-in_err-push_u32.ensures.1
    (pushes_of u32_bytes code c.in_err-push_u32.ensures))

pub returns : goal.returns
returns g c =
    let code = c.code_of.ensures ∙ ap ending_code c.reached_end.ensures.value in
    let flag = c.flag_of.ensures
    ∙ ap flag_of (c.has_input_ended.ensures ∙ ap (λ (h : HeldWasiState). h.host.input_ended)
    c.host.ensures) in
    pushes_on (pushes_of one c.phase_of.ensures c.in_ok-push_u8.ensures)
    (pushes_on (pushes_of u32_bytes code c.in_ok-push_u32.ensures)
    (pushes_of one flag c.push_u8-2.ensures))
