use Rattle.std.proofs.Common.{ap, ◌∙◌}
use Rattle.state_image.specs.rules.ProcessImage.{text_bytes}
use Rattle.wasi_calls.specs.rules.Held.{HeldWasiState}
use Rattle.state_image.proofs.Pushing.{pushes_on, pushes_exit, pushes_of}
use Rattle.state_image.proofs.writing.counts.push_streams.Goals as goal

pub returns-in_err-push_text : goal.returns-in_err-push_text
returns-in_err-push_text g c =
    let unread = c.unread_bytes.ensures
    ∙ ap (λ (h : HeldWasiState). h.host.unread) c.host-host.ensures in
    pushes_exit _ _ c.from_residual.ensures.1
    (pushes_of text_bytes unread c.in_err-push_text.ensures)

pub returns-in_err-push_text-2 : goal.returns-in_err-push_text-2
returns-in_err-push_text-2 g c =
    let unread = c.unread_bytes.ensures
    ∙ ap (λ (h : HeldWasiState). h.host.unread) c.host-host.ensures in
    let first = c.first.ensures ∙ ap (λ (h : HeldWasiState). h.host.first) c.host-host.ensures in
    pushes_on (pushes_of text_bytes unread c.in_ok-push_text.ensures)
    (pushes_exit _ _ c.from_residual-in_err-push_text-2.ensures.1
    (pushes_of text_bytes first c.in_err-push_text-2.ensures))

pub returns : goal.returns
returns g c =
    let unread = c.unread_bytes.ensures
    ∙ ap (λ (h : HeldWasiState). h.host.unread) c.host-host.ensures in
    let first = c.first.ensures ∙ ap (λ (h : HeldWasiState). h.host.first) c.host-host.ensures in
    let second = c.second.ensures ∙ ap (λ (h : HeldWasiState). h.host.second) c.host-host.ensures in
    pushes_on (pushes_of text_bytes unread c.in_ok-push_text.ensures)
    (pushes_on (pushes_of text_bytes first c.in_ok-push_text-2.ensures)
    (pushes_of text_bytes second c.push_text-3.ensures))
