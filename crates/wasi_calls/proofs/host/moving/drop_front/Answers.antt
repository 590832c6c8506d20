use Rattle.std.proofs.Common.{◌≡◌, ℕ, ◌-◌, ◌+◌, List, ◌++◌, length, take, drop, ap, ◌∙◌, arith}
use Rattle.std.proofs.Common.{vec_len, take_at, length-drop}
use Rattle.std.proofs.lemmas.List.{take_all}
use Rattle.std.specs.List.{copy_within}
use Rattle.wasi_calls.proofs.host.moving.drop_front.Goals as goal

-- what is behind the first ones, once it was moved to the front
moved_front : (xs : List ℕ) (len n : ℕ) → len ≡ length xs
    → take (len - n) (copy_within xs n len 0) ≡ drop n xs
moved_front xs len n e =
    let k : ℕ = len - n in
    let size : length (drop n xs) ≡ k = omega (arith, length-drop n xs, e) in
    ap (λ (ys : List ℕ). take k (ys ++ drop (0 + k) xs))
    (take_all k (drop n xs) (omega (arith, size)))
    ∙ take_at (drop n xs) (drop (0 + k) xs) k size

pub returns : goal.returns
returns c =
    let len = c.len.ensures ∙ c.copy_within.ensures.len in
    rw (c.truncate.ensures.items, len, c.copy_within.ensures.items)
    (moved_front c.args.bytes.now.items (vec_len c.args.bytes.now) c.args.count
    c.args.bytes.now.ok.0)
