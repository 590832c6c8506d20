use Rattle.std.proofs.Common.{◌≡◌, ℕ, ◌+◌, List, None, Some, true, sym, subst, ◌∙◌, rules, arith}
use Rattle.std.specs.Prelude.{Option, IfSome}
use Rattle.std.specs.Io.{StopsAt}
use Rattle.std.specs.Io.BufRead.{take_through}
use Rattle.std.proofs.BufReadLemmas.{Consumes_through}
use Rattle.std.proofs.Transfers.{StopsAt-append}
use Rattle.std.proofs.lemmas.Result.{err_from_is_err_and}
use Rattle.command_words.proofs.LineLemmas.Refusals.{fails_reading}
use Rattle.command_words.proofs.lines.line.read_through.Goals as goal

known_line : (a : Option (List ℕ)) (line line' : List ℕ) → line' ≡ line
    → IfSome a (λ xs. line ≡ take_through 10 xs) → IfSome a (λ xs. line' ≡ take_through 10 xs)
known_line None line line' is h = tt
known_line (Some xs) line line' is h = is ∙ h

pub returns-then-is_done-clause-stops : goal.returns-then-is_done-clause-stops
returns-then-is_done-clause-stops g c =
    let step = c.in_ok-is_done.ensures.moved in
    subst (λ l. StopsAt l 10) (sym step.grows)
    (StopsAt-append _ _ _ c.loop-is_done.invariant.0 step.stops)

pub returns-then-is_done-clause-bytes : goal.returns-then-is_done-clause-bytes
returns-then-is_done-clause-bytes g c =
    let step = c.in_ok-is_done.ensures.moved in
    let done : c.in_ok-is_done.is_done ≡ true = search rules in
    let read = Consumes_through 10 _ _ _ _ _ c.loop-is_done.invariant.1 c.loop-is_done.invariant.0
    step.bytes step.stops (step.ends done) (step.last done) in
    known_line (g.R.LineReader.unread c.args.reader.now) _ _ step.grows read.0

pub returns-then-is_done-clause-rest : goal.returns-then-is_done-clause-rest
returns-then-is_done-clause-rest g c =
    let step = c.in_ok-is_done.ensures.moved in
    let done : c.in_ok-is_done.is_done ≡ true = search rules in
    (Consumes_through 10 _ _ _ _ _ c.loop-is_done.invariant.1 c.loop-is_done.invariant.0 step.bytes
    step.stops (step.ends done) (step.last done)).1

pub returns-in_err-is_done-clause-failed : goal.returns-in_err-is_done-clause-failed
returns-in_err-is_done-clause-failed g c =
    let p = err_from_is_err_and c.from_residual.result c.from_residual.ensures.1 in
    rw (p.1, p.2) (
    fails_reading c.args.limit (c.args.limit + 24) (g.R.LineReader.unread c.args.reader.now)
    (g.R.LineReader.unread c.loop-is_done.reader) c.loop-is_done.line.items
    _ _ _ c.in_err-is_done.field-0.0 (omega arith) c.loop-is_done.invariant.1
    c.loop-is_done.invariant.0 c.loop-is_done.invariant.2 c.in_err-is_done.ensures.failed
    )
