use Rattle.std.proofs.Common.{sym, ap, subst, ◌≡◌, ◌∙◌, Err, List, Result, Some}
use Rattle.std.specs.Prelude.{IfErr}
use Rattle.std.proofs.lemmas.Result.{err_from_is_err_and}
use Rattle.worker.specs.declared.story.life.PlannedLife.{PlannedLife}
use Rattle.command_words.specs.rules.Pieces.{lines_of}
use Rattle.story_commands.specs.declared.stories.draft.StoryDraft.{StoryDraft}
use Rattle.story_commands.specs.declared.stories.fault.ScriptFault.{ScriptFault}
use Rattle.story_commands.specs.rules.Sweeps.{IsCalmScript, IsCalmScriptFault}
use Rattle.story_commands.specs.laws.Drafts.{IsCalmDraft, IsCalmReadingFault, put_texts}
use Rattle.story_commands.proofs.ScriptLemmas.Calm.{calm_fault_is, calm_lives, calm_start}
use Rattle.story_commands.proofs.ScriptLemmas.Reading.{all_is_script}
use Rattle.story_commands.proofs.stories.calm.read_calm_script.Goals as goal

pub returns-in_err-put_calm_lines-clause-fault : goal.returns-in_err-put_calm_lines-clause-fault
returns-in_err-put_calm_lines-clause-fault c =
    let lines = lines_of c.args.text.now in
    let why = c.in_err-put_calm_lines.field-0.0 in
    let p = err_from_is_err_and c.from_residual.result c.from_residual.ensures.1 in
    let P : Result (List PlannedLife) ScriptFault → Type 0 =
    λ r. IfErr r (IsCalmScriptFault lines) in
    let given = calm_fault_is lines why
    (subst (λ d. IsCalmReadingFault lines d why) c.new_draft-draft.ensures
    c.in_err-put_calm_lines.ensures.fault) in
    let same : c.from_residual.result ≡ Err why =
    p.1 ∙ ap (λ (e : ScriptFault). (let r : Result
    (List PlannedLife) ScriptFault = Err e in r)) p.2 in
    subst P (sym same) given

pub returns-clause-read : goal.returns-clause-read
returns-clause-read c =
    let lines = lines_of c.args.text.now in
    let read = c.put_calm_lines.new.draft in
    let put = subst (λ d. put_texts lines d ≡ Some read) c.new_draft-draft.ensures
    c.in_ok-put_calm_lines.ensures.put.0 in
    let calm : IsCalmDraft read = c.in_ok-put_calm_lines.ensures.put.1
    (subst IsCalmDraft (sym c.new_draft-draft.ensures) calm_start) in
    subst (IsCalmScript lines) (sym (ap (λ (d : StoryDraft). d.lives) c.in_ok-close.ensures))
    (all_is_script lines read put, calm_lives read calm)
