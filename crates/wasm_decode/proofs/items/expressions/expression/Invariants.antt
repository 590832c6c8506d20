use Rattle.std.proofs.Common.{◌≡◌, ◌-◌, reverse}
use Rattle.wasm_syntax.specs.laws.ReadingInstructions.{expression_up_to_at}
use Rattle.wasm_syntax.specs.laws.ReadingWithin.{most_instructions, expression_within_at}
use Rattle.wasm_syntax.proofs.Grammar.Loops.{with_front}
use Rattle.wasm_decode.proofs.items.expressions.expression.Given as goal

abbrev pub invariant-loop : goal.invariant-loop
invariant-loop l =
    with_front l.items (expression_up_to_at (most_instructions - l.counter)
    (reverse l.openers.items) l.decoder) ≡ expression_within_at l.fn.decoder
