use Rattle.std.proofs.Common.{ap, sym, ◌∙◌, List, ℕ}
use Rattle.state_image.specs.restoring.Machines.{with_slots_behind}
use Rattle.state_image.proofs.RestoreLemmas.Loaded.{slot_more, slots_over, no_more_slots}
use Rattle.state_image.proofs.restoring.machine_state.push_slots.Goals as goal

pub returns-in_err-push_slot-clause-full : goal.returns-in_err-push_slot-clause-full
returns-in_err-push_slot-clause-full c refused =
    slots_over c.in-Some.word c.next.new.self c.loop-word.words c.args.words c.args.machine.now
    c.loop-word.machine c.requires c.loop-word.invariant.0 c.loop-word.invariant.1 c.in-Some.ensures
    c.in_err-push_slot.ensures.full.1

pub loop-word-preserved : goal.loop-word-preserved
loop-word-preserved c =
    let more = slot_more c.in-Some.word c.next.new.self c.loop-word.machine c.push_slot.new.self
    c.loop-word.invariant.0 c.in_ok-push_slot.ensures.pushed.1 in (
      more.0,
      more.1 ∙ ap (λ (ws : List ℕ). with_slots_behind ws c.loop-word.machine)
          (sym c.in-Some.ensures) ∙ c.loop-word.invariant.1,
    )

pub returns-clause-pushed : goal.returns-clause-pushed
returns-clause-pushed c =
    sym (no_more_slots c.loop-word.machine)
    ∙ ap (λ (ws : List ℕ). with_slots_behind ws c.loop-word.machine) (sym c.in_default.ensures.0)
    ∙ c.loop-word.invariant.1
