use Rattle.std.proofs.Common.{◌≡◌, ◌≤◌, ◌+◌, ◌-◌, ◌++◌, length, ap, sym, ◌∙◌, arith}
use Rattle.guest_memory.specs.rules.Bytes.{part}
use Rattle.disk_layout.specs.rules.Contents.{filled}
use Rattle.disk_layout.proofs.ContentsLemmas.{part_over, filled_laid}
use Rattle.disk_layout.proofs.contents.sector_of.Goals as goal

pub returns : goal.returns
returns c =
    let a = c.args.config.now in
    let b = c.args.wasm.now in
    let start = c.args.start in
    let x = c.part_of-first.result.now in
    let y = c.part_of-second.result.now in
    let one : x ≡ part a start 512 = c.part_of-first.ensures.value in
    let two : y ≡ part b (start - length a) (512 - length x) = c.part_of-second.ensures.value
    ∙ ap (λ n. part b n (512 - length x)) c.saturating_sub.ensures in
    let both : x ++ y ≡ part (a ++ b) start 512 =
    ap (λ l. l ++ y) one ∙ ap (λ l. part a start 512 ++ l) (two
    ∙ ap (λ l. part b (start - length a) (512 - length l)) one) ∙ sym (part_over a b start 512)
    in
    let within : length x + length y ≤ 512 = let u = c.part_of-first.ensures.within in
    let v = c.part_of-second.ensures.within in omega arith in
    filled_laid x y c.put.new.bytes c.put-2.new.bytes within c.put.ensures c.put-2.ensures
    ∙ ap (λ l. filled l) both
