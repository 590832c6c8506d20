use Rattle.std.proofs.Common.{List, [], subst, sym}
use Rattle.std.specs.List.{flat_map}
use Rattle.std.proofs.lemmas.Grind.{flat_map-append}
use Rattle.record_replay.specs.declared.line_list.NumberedLine.{NumberedLine}
use Rattle.story_commands.specs.rules.Sweeps.{AreTextsOf, lines_told}
use Rattle.story_commands.proofs.SweepLemmas.Texts.{no_texts}
use Rattle.story_commands.proofs.sweeping.texts.texts_of.Goals as goal

pub returns : goal.returns
returns c =
    let before = c.args.before.now in
    let reports = c.args.reports.now in
    let none = subst (λ (texts : List NumberedLine). AreTextsOf texts []) (sym c.new-texts.ensures)
    no_texts in
    subst (AreTextsOf c.put_told-2.new.texts) (sym (flat_map-append lines_told before reports))
    (c.in_ok-put_told-2.ensures c.if-not-branch-2.false (flat_map lines_told before)
    (c.in_ok-put_told.ensures c.if-not-branch.false [] none))
