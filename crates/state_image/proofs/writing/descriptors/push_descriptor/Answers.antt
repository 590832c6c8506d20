use Rattle.std.proofs.Common.{◌∙◌}
use Rattle.wasi_abi.specs.rules.Layouts.{u16_bytes, u64_bytes}
use Rattle.state_image.specs.rules.ProcessImage.{target_bytes}
use Rattle.state_image.proofs.Pushing.{pushes_on, pushes_exit, pushes_of}
use Rattle.state_image.proofs.writing.descriptors.push_descriptor.Goals as goal

pub returns-in_err-push_count : goal.returns-in_err-push_count
returns-in_err-push_count g c =
    pushes_exit _ _ c.from_residual.ensures.1 c.in_err-push_count.ensures

pub returns-in_err-push_target : goal.returns-in_err-push_target
returns-in_err-push_target g c =
    pushes_on c.in_ok-push_count.ensures
    (pushes_exit _ _ c.from_residual-in_err-push_target.ensures.1
    (pushes_of (λ t. target_bytes c.args.tree.now t) c.names.ensures c.in_err-push_target.ensures))

pub returns-in_err-push_u64 : goal.returns-in_err-push_u64
returns-in_err-push_u64 g c =
    pushes_on c.in_ok-push_count.ensures
    (pushes_on (pushes_of (λ t. target_bytes c.args.tree.now t) c.names.ensures
    c.in_ok-push_target.ensures)
    (pushes_exit _ _ c.from_residual-in_err-push_u64.ensures.1
    (pushes_of u64_bytes c.offset.ensures c.in_err-push_u64.ensures)))

pub returns-in_err-push_u16 : goal.returns-in_err-push_u16
returns-in_err-push_u16 g c =
    pushes_on c.in_ok-push_count.ensures
    (pushes_on (pushes_of (λ t. target_bytes c.args.tree.now t) c.names.ensures
    c.in_ok-push_target.ensures)
    (pushes_on (pushes_of u64_bytes c.offset.ensures c.in_ok-push_u64.ensures)
    (pushes_exit _ _ c.from_residual-in_err-push_u16.ensures.1
    (pushes_of u16_bytes (c.number.ensures ∙ c.flags.ensures) c.in_err-push_u16.ensures))))

pub returns-in_err-push_u64-2 : goal.returns-in_err-push_u64-2
returns-in_err-push_u64-2 g c =
    let base = c.number-2.ensures ∙ c.base.ensures in
    pushes_on c.in_ok-push_count.ensures
    (pushes_on (pushes_of (λ t. target_bytes c.args.tree.now t) c.names.ensures
    c.in_ok-push_target.ensures)
    (pushes_on (pushes_of u64_bytes c.offset.ensures c.in_ok-push_u64.ensures)
    (pushes_on (pushes_of u16_bytes (c.number.ensures ∙ c.flags.ensures) c.in_ok-push_u16.ensures)
    (pushes_exit _ _ c.from_residual-in_err-push_u64-2.ensures.1
    (pushes_of u64_bytes base c.in_err-push_u64-2.ensures)))))

pub returns : goal.returns
returns g c =
    let base = c.number-2.ensures ∙ c.base.ensures in
    let inheriting = c.number-3.ensures ∙ c.inheriting_rights.ensures in
    pushes_on c.in_ok-push_count.ensures
    (pushes_on (pushes_of (λ t. target_bytes c.args.tree.now t) c.names.ensures
    c.in_ok-push_target.ensures)
    (pushes_on (pushes_of u64_bytes c.offset.ensures c.in_ok-push_u64.ensures)
    (pushes_on (pushes_of u16_bytes (c.number.ensures ∙ c.flags.ensures) c.in_ok-push_u16.ensures)
    (pushes_on (pushes_of u64_bytes base c.in_ok-push_u64-2.ensures)
    (pushes_of u64_bytes inheriting c.push_u64-3.ensures)))))
