use Rattle.std.proofs.Common.{◌<◌, ◌≤◌, reverse, arith}
use Rattle.std.proofs.lemmas.Result.{err_from_is_err_and}
use Rattle.wasm_syntax.specs.laws.ReadingWithin.{most_instructions, most_instructions_is}
use Rattle.wasm_syntax.specs.laws.ReadingWithin.{expression_within_at}
use Rattle.wasm_syntax.proofs.Grammar.Loops.{expression_goes_on, expression_closes}
use Rattle.wasm_syntax.proofs.Grammar.Loops.{expression_is_misplaced, expression_fails}
use Rattle.wasm_syntax.proofs.Grammar.Loops.{expression_runs_out}
use Rattle.wasm_decode.proofs.ItemLemmas.Fails.{fails_as}
use Rattle.wasm_decode.proofs.items.expressions.expression.Goals as goal

pub returns-in_err-instruction : goal.returns-in_err-instruction
returns-in_err-instruction c =
    let p = err_from_is_err_and c.from_residual.result c.from_residual.ensures.1 in
    let lt : c.loop.counter < most_instructions =
    omega (arith, most_instructions_is, c.loop-test.true) in
    let total = expression_within_at c.args.decoder.now in
    rw (p.1, p.2) (fails_as c.in_err-instruction.field-0.0 _ total (λ h.
    expression_fails c.loop.items most_instructions c.loop.counter
    (reverse c.loop.openers.items) c.loop.decoder total lt h c.loop.invariant)
    c.in_err-instruction.ensures)

pub returns-in-Closes : goal.returns-in-Closes
returns-in-Closes c =
    let lt : c.loop.counter < most_instructions =
    omega (arith, most_instructions_is, c.loop-test.true) in
    let closes = rw c.in-Closes.is at c.in_ok-step.ensures in
    rw c.in_ok-push.ensures.pushed (expression_closes c.loop.items most_instructions c.loop.counter
    (reverse c.loop.openers.items) c.loop.decoder (expression_within_at c.args.decoder.now)
    c.in_ok-instruction.instruction c.read.new.decoder lt c.in_ok-instruction.ensures closes
    c.loop.invariant)

pub returns-in-Misplaced : goal.returns-in-Misplaced
returns-in-Misplaced c =
    let lt : c.loop.counter < most_instructions =
    omega (arith, most_instructions_is, c.loop-test.true) in
    let misplaced = rw c.in-Misplaced.is at c.in_ok-step.ensures in
    expression_is_misplaced c.loop.items most_instructions c.loop.counter
    (reverse c.loop.openers.items) c.loop.decoder (expression_within_at c.args.decoder.now)
    c.in_ok-instruction.instruction c.read.new.decoder lt c.in_ok-instruction.ensures misplaced
    c.loop.invariant

pub loop-preserved : goal.loop-preserved
loop-preserved c =
    let lt : c.loop.counter < most_instructions =
    omega (arith, most_instructions_is, c.loop-test.true) in
    let opens = rw c.in-GoesOn.is at c.in_ok-step.ensures in
    rw c.in_ok-push.ensures.pushed (expression_goes_on c.loop.items most_instructions c.loop.counter
    (reverse c.loop.openers.items) c.loop.decoder (expression_within_at c.args.decoder.now)
    c.in_ok-instruction.instruction c.read.new.decoder (reverse c.nest.new.openers.items) lt
    c.in_ok-instruction.ensures opens c.loop.invariant)

pub returns : goal.returns
returns c =
    let le : most_instructions ≤ c.loop.counter =
    omega (arith, most_instructions_is, c.loop-test.false) in
    expression_runs_out c.loop.items most_instructions c.loop.counter
    (reverse c.loop.openers.items) c.loop.decoder (expression_within_at c.args.decoder.now) le
    c.loop.invariant
