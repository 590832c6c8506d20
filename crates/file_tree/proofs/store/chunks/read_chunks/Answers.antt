use Rattle.std.proofs.Common.{◌≡◌, ◌≤◌, ◌+◌, ◌-◌, length, take, drop, refl, arith, length-drop}
use Rattle.std.proofs.Common.{length-take}
use Rattle.std.specs.List.{concat}
use Rattle.file_tree.specs.Store.Stored.{stored}
use Rattle.file_tree.proofs.StoreLemmas.Overs.{read_two}
use Rattle.file_tree.proofs.StoreLemmas.SlabChunks.{length-full}
use Rattle.file_tree.proofs.store.chunks.read_chunks.Goals as goal

pub loop-done-preserved : goal.loop-done-preserved
loop-done-preserved c =
    let h = c.loop-done.invariant in
    let r = c.read_piece-done.ensures in
    let i = c.loop-done.done in
    let n = c.read_piece-done.result in
    let into = c.loop-done.into in
    let rest = length into - i in
    let all = concat (stored c.args.chunks.now c.args.keys.now) in
    let rest_length : length (take rest (drop i into)) ≡ rest =
    omega (arith, length-take rest (drop i into), length-drop i into) in
    let most : n ≤ rest = omega (arith, r.most, rest_length) in
    let many : length (take n (drop (c.args.from + i) all)) ≡ n =
    omega (
      arith,
      length-take n (drop (c.args.from + i) all),
      length-drop (c.args.from + i) all,
      length-full c.args.chunks.now c.args.keys.now c.requires.full,
      most,
      c.loop-done.auto.into,
      c.loop-done-test.true,
      c.requires.within,
    ) in (
      omega (arith, most, c.loop-done.auto.into, c.loop-done-test.true),
      read_two into all c.read_piece-done.new.into (drop n (take rest (drop i into)))
          (drop rest (drop i into)) i n (i + n) c.args.from (c.args.from + i) refl refl
          (omega (arith, c.loop-done-test.true)) many h.1 r.bytes,
    )
