use Rattle.std.proofs.Common.{◌≤◌, ◌^◌, arith, lit<}
use Rattle.std.proofs.Math.Nat.{pow-le-pow_right}
use Rattle.std.proofs.lemmas.Bool.Decides.{nat_tests}
use Rattle.wasm_validate.proofs.body.operators.is_aligned.Goals as goal

pub returns-else-align-lt4 : goal.returns-else-align-lt4
returns-else-align-lt4 c =
    let wide : 2 ^ 4 ≤ 2 ^ c.args.align =
    pow-le-pow_right {n = 2} (lit< tt) {i = 4} {j = c.args.align} (omega arith) in
    let more : 16 ≤ 2 ^ c.args.align = wide in
    grind (arith, nat_tests)
