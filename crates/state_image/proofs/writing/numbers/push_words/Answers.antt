use Rattle.std.proofs.Common.{length, get_or}
use Rattle.std.proofs.lemmas.List.{take_more}
use Rattle.wasi_abi.specs.rules.Layouts.{u32_bytes, u64_bytes}
use Rattle.state_image.proofs.Pushing.{pushes_exit}
use Rattle.state_image.proofs.PushedItems.{pushes_item, pushes_item_exit}
use Rattle.state_image.proofs.writing.numbers.push_words.Goals as goal

pub returns-in_err-push_count : goal.returns-in_err-push_count
returns-in_err-push_count g c =
    pushes_exit _ _ c.from_residual.ensures.1 c.in_err-push_count.ensures

pub returns-in_err-push_u64 : goal.returns-in_err-push_u64
returns-in_err-push_u64 g c =
    let words = c.args.words.now in
    let i = c.loop-word.word-index in
    pushes_item_exit (u32_bytes (length words)) u64_bytes words i (get_or words i 0) _
    (take_more words i 0 c.loop-word-test.true) c.loop-word.invariant
    c.from_residual-in_err-push_u64.ensures.1 c.in_err-push_u64.ensures

pub loop-word-preserved : goal.loop-word-preserved
loop-word-preserved g c =
    let words = c.args.words.now in
    let i = c.loop-word.word-index in
    pushes_item (u32_bytes (length words)) u64_bytes words i (get_or words i 0)
    (take_more words i 0 c.loop-word-test.true) c.loop-word.invariant c.in_ok-push_u64.ensures
