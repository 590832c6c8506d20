use Rattle.std.proofs.Common.{List, ap, ◌++◌, ◌∙◌}
use Rattle.std.proofs.lemmas.Result.{on_ok_weaker}
use Rattle.worker.specs.declared.story.life.PlannedLife.{PlannedLife}
use Rattle.story_commands.specs.rules.Sweeps.{lives_after}
use Rattle.story_commands.proofs.sweeping.planning.push_cut.Goals as goal

pub returns : goal.returns
returns c =
    let part = c.args.part.now in
    on_ok_weaker c.push_after.result (λ e. e
    ∙ ap (λ (l : List PlannedLife). l
    ++ lives_after part.swept.now part.told.now part.before c.args.given)
    c.in_ok-push_stopped.ensures) c.push_after.ensures
