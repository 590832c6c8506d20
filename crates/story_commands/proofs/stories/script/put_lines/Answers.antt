use Rattle.command_words.proofs.PieceLemmas.{nothing_left}
use Rattle.story_commands.specs.laws.Drafts.{CannotBePut}
use Rattle.story_commands.proofs.ScriptLemmas.Reading.{begun_putting, all_put, next_put, stops_at}
use Rattle.story_commands.proofs.stories.script.put_lines.Goals as goal

pub loop-rest-init : goal.loop-rest-init
loop-rest-init c = begun_putting _ _

pub returns-in-Some-clause-fault : goal.returns-in-Some-clause-fault
returns-in-Some-clause-fault c =
    stops_at c.args.text.now c.args.draft.now c.loop-rest.draft c.loop-rest.number
    c.loop-rest.rest.now c.cut_line.result.0.now c.cut_line.result.1.now c.loop-rest.invariant
    c.cut_line.ensures.line c.cut_line.ensures.shorter CannotBePut c.in-Some.cause
    (rw c.in-Some.is at c.in_ok-cause.ensures)

pub loop-rest-preserved : goal.loop-rest-preserved
loop-rest-preserved c =
    next_put c.args.text.now c.args.draft.now c.loop-rest.draft c.loop-rest.number
    c.loop-rest.rest.now c.cut_line.result.0.now c.cut_line.result.1.now c.loop-rest.invariant
    c.cut_line.ensures.line c.cut_line.ensures.shorter c.put_or_refuse.new.draft
    (rw c.in_default.is at c.in_ok-cause.ensures)

pub returns-clause-put : goal.returns-clause-put
returns-clause-put c =
    all_put c.args.text.now c.args.draft.now c.loop-rest.draft c.loop-rest.number
    c.loop-rest.rest.now c.loop-rest.invariant
    (nothing_left c.is_empty.result c.loop-rest.rest.now c.is_empty.ensures c.loop-rest-test.false)
