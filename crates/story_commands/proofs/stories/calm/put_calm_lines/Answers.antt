use Rattle.command_words.proofs.PieceLemmas.{nothing_left}
use Rattle.story_commands.specs.laws.Drafts.{CannotBePutCalm, IsCalmDraft}
use Rattle.story_commands.proofs.ScriptLemmas.Calm.{calm_text}
use Rattle.story_commands.proofs.ScriptLemmas.Reading.{begun_putting, all_put, next_put, stops_at}
use Rattle.story_commands.proofs.stories.calm.put_calm_lines.Goals as goal

pub loop-rest-init : goal.loop-rest-init
loop-rest-init c = (begun_putting _ _, λ calm. calm)

pub returns-in-Some-clause-fault : goal.returns-in-Some-clause-fault
returns-in-Some-clause-fault c =
    stops_at c.args.text.now c.args.draft.now c.loop-rest.draft c.loop-rest.number
    c.loop-rest.rest.now c.cut_line.result.0.now c.cut_line.result.1.now c.loop-rest.invariant.0
    c.cut_line.ensures.line c.cut_line.ensures.shorter
    (λ text now cause. CannotBePutCalm text now cause
    × (IsCalmDraft c.args.draft.now → IsCalmDraft now)) c.in-Some.cause
    (rw c.in-Some.is at c.in_ok-cause.ensures, c.loop-rest.invariant.1)

pub loop-rest-preserved : goal.loop-rest-preserved
loop-rest-preserved c =
    let put = rw c.in_default.is at c.in_ok-cause.ensures in (
      next_put c.args.text.now c.args.draft.now c.loop-rest.draft c.loop-rest.number
          c.loop-rest.rest.now c.cut_line.result.0.now c.cut_line.result.1.now
          c.loop-rest.invariant.0 c.cut_line.ensures.line c.cut_line.ensures.shorter
          c.put_calm_or_refuse.new.draft put.0,
      λ calm. calm_text c.cut_line.result.0.now c.loop-rest.draft c.put_calm_or_refuse.new.draft
          put.0 put.1 (c.loop-rest.invariant.1 calm),
    )

pub returns-clause-put : goal.returns-clause-put
returns-clause-put c = (
  all_put c.args.text.now c.args.draft.now c.loop-rest.draft c.loop-rest.number
      c.loop-rest.rest.now c.loop-rest.invariant.0
      (nothing_left c.is_empty.result c.loop-rest.rest.now c.is_empty.ensures
      c.loop-rest-test.false),
  c.loop-rest.invariant.1,
)
