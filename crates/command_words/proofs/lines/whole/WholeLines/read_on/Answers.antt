use Rattle.std.proofs.Common.{◌++◌, sym, ap, ◌∙◌}
use Rattle.command_words.proofs.LineLemmas.Whole.{gives_whole, left_behind, reads_more}
use Rattle.command_words.proofs.lines.whole.WholeLines.read_on.Goals as goal

pub returns-then-branch-clause-read : goal.returns-then-branch-clause-read
returns-then-branch-clause-read g c =
    let taken = c.in_ok-take_in.ensures.taken in
    reads_more _ c.loop-count.invariant.4 c.in_ok-count.ensures.bytes.0
    (ap g.R.Read.remaining c.take_in.ensures.reader)
    (taken.rest_is ∙ ap (λ lines. lines ++ c.take_in.new.self.rest.items)
    (sym (taken.lines_are ∙ ap (λ lines. lines ++ taken.given) c.loop-count.invariant.0)))

pub returns-then-branch-clause-begun : goal.returns-then-branch-clause-begun
returns-then-branch-clause-begun g c = c.take_in.ensures.given ∙ c.loop-count.invariant.1

pub returns-then-branch-clause-leaves : goal.returns-then-branch-clause-leaves
returns-then-branch-clause-leaves g c = c.take_in.ensures.leaves ∙ c.loop-count.invariant.2

pub loop-count-preserved : goal.loop-count-preserved
loop-count-preserved g c =
    let taken = c.in_ok-take_in.ensures.taken in
    let none = taken.none c.if-branch.false in (
      taken.lines_are ∙ ap (λ lines. lines ++ taken.given) c.loop-count.invariant.0 ∙ none,
      c.take_in.ensures.given ∙ c.loop-count.invariant.1,
      c.take_in.ensures.leaves ∙ c.loop-count.invariant.2,
      (λ was. left_behind taken (taken.none c.if-branch.false)),
      reads_more _ c.loop-count.invariant.4 c.in_ok-count.ensures.bytes.0
          (ap g.R.Read.remaining c.take_in.ensures.reader)
          (taken.rest_is ∙ ap (λ lines. lines ++ c.take_in.new.self.rest.items) none),
    )

pub returns-then-branch-clause-whole : goal.returns-then-branch-clause-whole
returns-then-branch-clause-whole g c =
    λ was. gives_whole c.in_ok-take_in.ensures.taken c.loop-count.invariant.0

pub returns-then-branch-clause-ended : goal.returns-then-branch-clause-ended
returns-then-branch-clause-ended g c =
    let taken = c.in_ok-take_in.ensures.taken in
    λ none. absurd (taken.some c.if-branch.true (sym (taken.lines_are
    ∙ ap (λ lines. lines ++ taken.given) c.loop-count.invariant.0) ∙ none))
