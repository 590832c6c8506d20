use Rattle.std.proofs.Common.{sym, ap, ◌∙◌, subst, ◌≡◌, Some, Err, Result, List}
use Rattle.std.specs.Prelude.{IfErr}
use Rattle.std.proofs.lemmas.Result.{err_from_is_err_and}
use Rattle.worker.specs.declared.story.life.PlannedLife.{PlannedLife}
use Rattle.command_words.specs.rules.Pieces.{lines_of}
use Rattle.story_commands.specs.declared.stories.fault.ScriptFault.{ScriptFault}
use Rattle.story_commands.specs.rules.Scripts.{IsScript, IsScriptFault}
use Rattle.story_commands.specs.laws.Drafts.{put_texts, IsReadingFault}
use Rattle.story_commands.specs.declared.stories.draft.StoryDraft.{StoryDraft}
use Rattle.story_commands.proofs.ScriptLemmas.Reading.{all_is_script, fault_is}
use Rattle.story_commands.proofs.stories.script.read_script.Goals as goal

pub returns-in_err-put_lines-clause-fault : goal.returns-in_err-put_lines-clause-fault
returns-in_err-put_lines-clause-fault c =
    let lines = lines_of c.args.text.now in
    let p = err_from_is_err_and c.from_residual.result c.from_residual.ensures.1 in
    let P : Result (List PlannedLife) ScriptFault → Type 0 = λ r. IfErr r (IsScriptFault lines) in
    let given = fault_is lines c.in_err-put_lines.field-0.0
    (subst (λ d. IsReadingFault lines d c.in_err-put_lines.field-0.0) c.new_draft-draft.ensures
    c.in_err-put_lines.ensures.fault) in
    let same : c.from_residual.result ≡ Err c.in_err-put_lines.field-0.0 =
    p.1 ∙ ap (λ (e : ScriptFault). (let r : Result
    (List PlannedLife) ScriptFault = Err e in r)) p.2 in
    subst P (sym same) given

pub returns-clause-read : goal.returns-clause-read
returns-clause-read c =
    let lines = lines_of c.args.text.now in
    let put = subst (λ d. put_texts lines d ≡ Some c.put_lines.new.draft) c.new_draft-draft.ensures
    c.in_ok-put_lines.ensures.put in
    subst (IsScript lines) (sym (ap (λ (d : StoryDraft). d.lives) c.in_ok-close.ensures))
    (all_is_script lines c.put_lines.new.draft put)
