use Rattle.std.proofs.Common.{rules, arith, ◌≡◌, ◌+◌}
use Rattle.std.proofs.lemmas.Result.{err_from_is_err_and}
use Rattle.command_words.proofs.LineLemmas.Passing.{passed_nothing, behind_passed, steps_over}
use Rattle.command_words.proofs.LineLemmas.Passing.{takes_request, is_given}
use Rattle.command_words.proofs.LineLemmas.Refusals.{misses_line}
use Rattle.command_words.proofs.lines.numbered.NumberedRequests.find_next.Goals as goal

pub loop-request-init : goal.loop-request-init
loop-request-init g c = (search rules, search rules, search rules, passed_nothing _ _ _)

pub loop-request-preserved : goal.loop-request-preserved
loop-request-preserved g c =
    let r = c.in-Some.ensures in
    let line = c.in_ok-read_line.ensures in (
      search rules,
      search rules,
      search rules,
      behind_passed c.args.limit c.args.self.now.taken _ _ _ _ c.loop-request.invariant.3
          (steps_over c.args.limit c.args.self.now.taken c.read_line.new.line.items
          c.in-Some.request r.numbered r.short (search rules) _ _ line.bytes line.rest
          (omega (
            arith,
            c.number-given.ensures,
            c.if-given-wanted.false,
            c.if-given-wanted-2.false,
            c.saturating_add-wanted.ensures,
          ))),
    )

pub returns-then-given-wanted-2-clause-found : goal.returns-then-given-wanted-2-clause-found
returns-then-given-wanted-2-clause-found g c =
    let r = c.in-Some.ensures in
    let line = c.in_ok-read_line.ensures in
    let small = r.numbered.1 in
    let given = c.number-given.ensures in
    let wanted : c.saturating_add-wanted.result ≡ c.args.self.now.taken + 1 =
    omega (arith, c.saturating_add-wanted.ensures, given, small, c.if-given-wanted-2.true) in
    record {
      given = is_given c.args.limit c.args.self.now.taken
          (g.R.LineReader.unread c.args.self.now.reader) _ _ _
          c.in_ok-answer.ensures.is (
          behind_passed c.args.limit c.args.self.now.taken
          (g.R.LineReader.unread c.args.self.now.reader)
          (g.R.LineReader.unread c.loop-request.self.reader) _ _ c.loop-request.invariant.3
          (takes_request c.args.limit c.args.self.now.taken c.read_line.new.line.items
          c.in-Some.request r.numbered r.short (search rules) _ _ line.bytes line.rest
          (omega (arith, wanted, given, c.if-given-wanted-2.true))));
      fits = c.in_ok-answer.ensures.fits c.args.limit r.short (search rules);
      counted = wanted;
      few = omega (arith, wanted, small, given, c.if-given-wanted-2.true);
    }

pub returns-in_err-read_line-clause-failed : goal.returns-in_err-read_line-clause-failed
returns-in_err-read_line-clause-failed g c =
    let p = err_from_is_err_and c.from_residual.result c.from_residual.ensures.1 in
    rw (p.1, p.2) (
    misses_line c.args.limit c.args.self.now.taken (g.R.LineReader.unread c.args.self.now.reader)
    (g.R.LineReader.unread c.loop-request.self.reader) c.loop-request.invariant.3
    _ _ _ c.in_err-read_line.field-0.0 c.loop-request.invariant.1 c.in_err-read_line.ensures.failed
    )
