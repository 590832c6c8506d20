use Rattle.std.proofs.Common.{◌≡◌, ◌-◌, ◌++◌, ℕ, List, length, take, drop, replicate}
use Rattle.std.proofs.Common.{arith, ap, sym, ◌∙◌, length-append, length-drop}
use Rattle.std.specs.Prelude.{reverse}
use Rattle.std.proofs.lemmas.List.{length-reverse, take-append-drop}
use Rattle.machine_slots.specs.Lends.{with_from}
use Rattle.machine_slots.proofs.ZeroLemmas.{zeros_above}
use Rattle.machine_slots.proofs.slots.Slots.cover.Goals as goal

pub raise_to-requires-clause-more : goal.raise_to-requires-clause-more
raise_to-requires-clause-more c =
    let words : List ℕ = c.args.self.now in
    let above : ℕ = length words - c.args.under in
    let few = c.requires.few in let more = c.requires.more in
    let left = length-drop above words in
    let fallen = ap length (c.truncate.ensures (take above words) (drop above words)
    (omega (arith, left, few)) (sym (take-append-drop above words))) in
    omega (arith, fallen, left, few, more)

pub returns : goal.returns
returns c = λ between kept count is.
    let fallen : c.truncate.new.self ≡ kept = c.truncate.ensures between kept count is in
    let raised = c.raise_to.ensures in
    let all : c.raise_to.new.self ≡ raised.0 ++ kept =
    raised.2 ∙ ap (λ z. raised.0 ++ z) fallen in
    let low = c.requires.more in let many = raised.1 in let same = ap length fallen in
    let long : length raised.0 ≡ c.args.height - c.args.under =
    omega (arith, many, same, count, low) in
    let whole = ap length all ∙ length-append raised.0 kept in
    let lent : length c.from_mut.result.now ≡ c.args.height - c.args.under =
    ap length c.from_mut.ensures.words
    ∙ length-drop c.args.under (reverse c.raise_to.new.self)
    ∙ (let turned = length-reverse c.raise_to.new.self in
    omega (arith, turned, whole, long, count, low)) in
    let zeros : c.put_zeros.new.words ≡ replicate (c.args.height - c.args.under) 0 =
    c.put_zeros.ensures ∙ ap (λ n. replicate n 0) lent in
    ap (λ z. reverse (take (length c.raise_to.new.self)
    (with_from c.args.under z (reverse c.raise_to.new.self)))) zeros ∙ ap (λ z. reverse (take
    (length z) (with_from c.args.under (replicate (c.args.height - c.args.under) 0) (reverse z))))
    all ∙ ap (λ n. reverse (take (length (raised.0 ++ kept)) (with_from n
    (replicate (c.args.height - c.args.under) 0) (reverse (raised.0 ++ kept))))) count ∙ zeros_above
    raised.0 kept long
