use Rattle.std.proofs.Common.{ap, sym, ◌∙◌, List, ℕ}
use Rattle.state_image.specs.restoring.Machines.{with_globals_behind}
use Rattle.state_image.proofs.RestoreLemmas.Loaded.{global_more, no_more_globals}
use Rattle.state_image.proofs.restoring.machine_state.push_globals.Goals as goal

pub loop-word-preserved : goal.loop-word-preserved
loop-word-preserved c =
    global_more c.in-Some.word c.next.new.self c.loop-word.machine c.push_global.new.self
    c.in_ok-push_global.ensures.pushed
    ∙ ap (λ (ws : List ℕ). with_globals_behind ws c.loop-word.machine) (sym c.in-Some.ensures)
    ∙ c.loop-word.invariant

pub returns-clause-pushed : goal.returns-clause-pushed
returns-clause-pushed c =
    sym (no_more_globals c.loop-word.machine)
    ∙ ap (λ (ws : List ℕ). with_globals_behind ws c.loop-word.machine) (sym c.in_default.ensures.0)
    ∙ c.loop-word.invariant
