use Rattle.std.proofs.Common.{◌≡◌, drop}
use Rattle.std.specs.List.{list_any}
use Rattle.story_commands.specs.rules.Sweeps.{is_upgrade}
use Rattle.story_commands.proofs.sweeping.planning.have_upgrade.Given as goal

-- none of the first acts is one
abbrev pub invariant-loop-act : goal.invariant-loop-act
invariant-loop-act l = list_any is_upgrade (drop l.act-index l.acts) ≡ list_any is_upgrade l.acts
