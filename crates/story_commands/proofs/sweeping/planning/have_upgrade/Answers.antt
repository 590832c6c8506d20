use Rattle.std.proofs.Common.{sym, ◌∙◌}
use Rattle.std.specs.List.{list_any}
use Rattle.story_commands.specs.rules.Sweeps.{is_upgrade}
use Rattle.story_commands.proofs.SweepLemmas.Lists.{any_later, any_nowhere}
use Rattle.story_commands.proofs.sweeping.planning.have_upgrade.Goals as goal

pub loop-act-preserved : goal.loop-act-preserved
loop-act-preserved c =
    any_later is_upgrade c.args.acts.now c.loop-act.act-index _
    (list_any is_upgrade c.args.acts.now) c.loop-act-test.true
    (sym c.is_upgrade.ensures ∙ c.if-is_upgrade.false) c.loop-act.invariant

pub returns : goal.returns
returns c =
    any_nowhere is_upgrade c.args.acts.now c.loop-act.act-index
    (list_any is_upgrade c.args.acts.now) c.loop-act-test.false c.loop-act.invariant
