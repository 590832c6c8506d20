use Rattle.std.proofs.Common.{List, ◌++◌, append_assoc, ap, subst, take, ◌∙◌}
use Rattle.std.specs.List.{flat_map}
use Rattle.std.proofs.lemmas.List.{take_all}
use Rattle.worker.specs.declared.story.report.LifeReport.{LifeReport}
use Rattle.record_replay.specs.declared.line_list.NumberedLine.{NumberedLine}
use Rattle.story_commands.specs.rules.Sweeps.{AreTextsOf, lines_told}
use Rattle.story_commands.proofs.SweepLemmas.Lists.{flat_more}
use Rattle.story_commands.proofs.sweeping.texts.put_told.Goals as goal

pub loop-report-preserved : goal.loop-report-preserved
loop-report-preserved c =
    let reports = c.args.reports.now in
    let i = c.loop-report.report-index in
    let texts = c.put_lines.new.texts in
    let before = flat_map lines_told (take i reports) in
    λ lines are.
    let told = subst (λ (l : List NumberedLine). AreTextsOf texts ((lines ++ before) ++ l))
    c.lines.ensures
    (c.in_ok-put_lines.ensures c.if-not-branch.false (lines ++ before)
    (c.loop-report.invariant lines are)) in
    subst (AreTextsOf texts)
    (append_assoc lines before (lines_told c.report-item.result)
    ∙ ap (λ (l : List NumberedLine). lines ++ l)
    (flat_more lines_told reports i c.report-item.result c.loop-report-test.true
    c.report-item.is)) told

pub returns : goal.returns
returns c =
    λ _ lines are. subst
    (λ (rs : List LifeReport). AreTextsOf c.loop-report.texts (lines ++ flat_map lines_told rs))
    (take_all c.loop-report.report-index c.args.reports.now c.loop-report-test.false)
    (c.loop-report.invariant lines are)
