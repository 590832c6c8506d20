use Rattle.std.proofs.Common.{◌≡◌, ◌+◌, ◌-◌, ◌≤◌, length, replicate, take, drop, refl, sym, ap, ◌∙◌}
use Rattle.std.proofs.Common.{arith, length-take, length-drop}
use Rattle.std.proofs.lemmas.List.{take_all}
use Rattle.std.proofs.Math.Nat.{min-le_left}
use borrow.Rule.Slice.PartMut.{post_of, same_len_mid}
use Rattle.guest_memory.proofs.Ranges.{filled_on}
use Rattle.guest_memory.proofs.memory.fill_in_parts.Goals as goal

pub loop-done-init : goal.loop-done-init
loop-done-init c = (omega arith, refl)

pub loop-done-preserved : goal.loop-done-preserved
loop-done-preserved c =
    let done = c.loop-done.done in
    let part = c.min-part.result in
    let xs = c.loop-done.bytes in
    let least = min-le_left (length xs - done) 1024 in
    let k : done + part - done ≡ part = omega arith in
    let room : done + part ≤ length xs =
    omega (arith, least, c.min-part.ensures, c.loop-done-test.true) in
    let long : length (take (done + part - done) (drop done xs)) ≡ part =
    omega (arith, room, length-take (done + part - done) (drop done xs), length-drop done xs) in
    let filled : c.fill.new.self ≡ replicate part c.args.byte =
    c.fill.ensures.after (λ y e. e) ∙ ap (λ n. replicate n c.args.byte) long in
    let same = same_len_mid done (done + part - done) xs c.fill.new.self c.fill.ensures.len in (
      omega (arith, same, room),
      filled_on xs c.fill.new.self (post_of done (done + part - done) xs) done part c.args.byte
          c.loop-done.invariant.1 filled,
    )

pub returns : goal.returns
returns c =
    let inv = c.loop-done.invariant in
    let le = inv.0 in
    let all : c.loop-done.done ≡ length c.args.bytes.now =
    omega (arith, c.loop-done-test.false, c.loop-done.auto.bytes) in
    sym (take_all c.loop-done.done c.loop-done.bytes (omega (arith, c.loop-done-test.false)))
    ∙ inv.1 ∙ ap (λ n. replicate n c.args.byte) all
