use Rattle.std.proofs.Common.{◌≤◌, length, reverse, sym, ◌∙◌, arith}
use Rattle.std.proofs.lemmas.List.{length-reverse}
use Rattle.wasi_abi.specs.rules.Layouts.{u32_bytes}
use Rattle.machine.specs.rules.LentFrames.{lent_frame}
use Rattle.state_image.specs.rules.ProcessImage.{place_bytes}
use Rattle.state_image.proofs.Pushing.{pushes_exit, pushes_of}
use Rattle.state_image.proofs.PushedItems.{front_more, pushes_item, pushes_item_exit, pushes_items}
use Rattle.state_image.proofs.writing.machine_state.push_frames.Goals as goal

pub returns-in_err-push_count : goal.returns-in_err-push_count
returns-in_err-push_count g c =
    let frames = c.args.machine.now.state.frames in
    pushes_exit _ _ c.from_residual.ensures.1
    (pushes_of u32_bytes (c.frame_count-count.ensures ∙ sym (length-reverse frames))
    c.in_err-push_count.ensures)

pub loop-index-init : goal.loop-index-init
loop-index-init g c =
    let frames = c.args.machine.now.state.frames in
    pushes_of u32_bytes (c.frame_count-count.ensures ∙ sym (length-reverse frames))
    c.in_ok-push_count.ensures

pub returns-in_err-push_place : goal.returns-in_err-push_place
returns-in_err-push_place g c =
    let frames = reverse c.args.machine.now.state.frames in
    pushes_item_exit (u32_bytes (length frames)) place_bytes frames c.loop-index.index
    (lent_frame c.frame-place.result) _ (front_more frames _ _ c.frame-place.ensures)
    c.loop-index.invariant
    c.from_residual-in_err-push_place.ensures.1 c.in_err-push_place.ensures

pub loop-index-preserved : goal.loop-index-preserved
loop-index-preserved g c =
    let frames = reverse c.args.machine.now.state.frames in
    pushes_item (u32_bytes (length frames)) place_bytes frames c.loop-index.index
    (lent_frame c.frame-place.result) (front_more frames _ _ c.frame-place.ensures)
    c.loop-index.invariant
    c.in_ok-push_place.ensures

pub returns : goal.returns
returns g c =
    let frames = c.args.machine.now.state.frames in
    let all : length (reverse frames) ≤ c.loop-index.index =
    omega (arith, c.frame_count-count.ensures, length-reverse frames) in
    pushes_items (u32_bytes (length (reverse frames))) place_bytes (reverse frames)
    c.loop-index.index all c.loop-index.invariant
