use Rattle.std.proofs.Common.{◌≡◌, ℕ, suc, ◌+◌, ◌-◌, ◌≤◌, inl, inr, refl, ap, ◌∙◌, arith}
use Rattle.std.proofs.lemmas.Result.{err_from_is_err_and}
use Rattle.process.specs.rules.Values.{ProcessValue}
use Rattle.record_replay.proofs.Playing.{going_none, going_behind, spent, asks, ended}
use Rattle.record_replay.proofs.Playing.{cannot_advance, owes, owes_less, owes_in_vain}
use Rattle.record_replay.proofs.replaying.run_to_step.Goals as goal

-- the fuel, and the step that comes after it
is_fuel_left : (steps n step fuel_left : ℕ) → n ≡ steps → (n + 1 ≤ step)
    × (fuel_left ≡ step - (n + 1)) → steps + suc fuel_left ≡ step
is_fuel_left steps n step fuel_left same some =
    let few = some.0 in
    let is = some.1 in
    omega arith

pub loop-fuel_left-init : goal.loop-fuel_left-init
loop-fuel_left-init g c =
    record { going = going_none _ _ _ _ c.requires.none_waits; guest = refl }

pub returns-in_default-clause-stopped : goal.returns-in_default-clause-stopped
returns-in_default-clause-stopped g c =
    let none = c.in_default.ensures in
    let same = c.steps.ensures.value in
    going_behind _ _ _ _ _ _ c.loop-fuel_left.invariant.going (omega arith)

pub returns-in_err-advance-clause-stopped : goal.returns-in_err-advance-clause-stopped
returns-in_err-advance-clause-stopped g c =
    let p = err_from_is_err_and c.from_residual.result c.from_residual.ensures.1 in
    let fuel_left = is_fuel_left _ _ _ _ c.steps.ensures.value c.in-Some.ensures in
    rw (p.1, p.2) (cannot_advance _ _ _ _ _ _ _ _ c.loop-fuel_left.invariant.going fuel_left
    c.in_err-advance.ensures.released c.in_err-advance.field-0.0 c.in_err-advance.ensures.advances)

pub loop-fuel_left-smaller : goal.loop-fuel_left-smaller
loop-fuel_left-smaller g c =
    let fuel_left = is_fuel_left _ _ _ _ c.steps.ensures.value c.in-Some.ensures in
    let less = owes_less _ _ _ _ _ _ _ _ c.loop-fuel_left.invariant.going fuel_left
    c.in_ok-advance.ensures.released _ _ c.steps.ensures.shows
    (rw c.in-Owes.is at c.in_ok-advance.ensures.advances)
    c.in_ok-release_waiting-in-Owes.ensures.all in
    let more = less.0 in
    let few = less.1 in
    omega arith

pub loop-fuel_left-preserved : goal.loop-fuel_left-preserved
loop-fuel_left-preserved g c =
    let fuel_left = is_fuel_left _ _ _ _ c.steps.ensures.value c.in-Some.ensures in
    let all = c.in_ok-release_waiting-in-Owes.ensures.all in
    record {
      going = owes _ _ _ _ _ _ _ _ c.loop-fuel_left.invariant.going fuel_left
          c.in_ok-advance.ensures.released _ _
          (rw c.in-Owes.is at c.in_ok-advance.ensures.advances) all;
      guest = ap (λ (v : ProcessValue). v.machine.guest) all.released.is
          ∙ c.in_ok-advance.ensures.guest ∙ c.loop-fuel_left.invariant.guest;
    }

pub returns-in_err-release_waiting-in-Owes-clause-stopped :
    goal.returns-in_err-release_waiting-in-Owes-clause-stopped
returns-in_err-release_waiting-in-Owes-clause-stopped g c =
    let p = err_from_is_err_and c.from_residual-in_err-release_waiting-in-Owes.result
    c.from_residual-in_err-release_waiting-in-Owes.ensures.1 in
    let fuel_left = is_fuel_left _ _ _ _ c.steps.ensures.value c.in-Some.ensures in
    rw (p.1, p.2) (owes_in_vain _ _ _ _ _ _ _ _ c.loop-fuel_left.invariant.going fuel_left
    c.in_ok-advance.ensures.released _ _ (rw c.in-Owes.is at c.in_ok-advance.ensures.advances)
    c.in_err-release_waiting-in-Owes.ensures.some)

pub returns-in-Spent-clause-done : goal.returns-in-Spent-clause-done
returns-in-Spent-clause-done g c =
    let fuel_left = is_fuel_left _ _ _ _ c.steps.ensures.value c.in-Some.ensures in
    spent _ _ _ _ _ _ _ _ c.loop-fuel_left.invariant.going fuel_left
    c.in_ok-advance.ensures.released c.steps.ensures.shows (rw c.in-Spent.is at
    c.in_ok-advance.ensures.advances)

pub returns-in-Asks-clause-stopped : goal.returns-in-Asks-clause-stopped
returns-in-Asks-clause-stopped g c =
    let fuel_left = is_fuel_left _ _ _ _ c.steps.ensures.value c.in-Some.ensures in
    elim c.in-Asks.is [
      | inl k ↦ asks _ _ _ _ _ _ _ _ c.loop-fuel_left.invariant.going fuel_left
          c.in_ok-advance.ensures.released k.0 (rw k.1 at c.in_ok-advance.ensures.advances)
      | inr k ↦ ended _ _ _ _ _ _ _ _ c.loop-fuel_left.invariant.going fuel_left
          c.in_ok-advance.ensures.released k.0 (rw k.1 at c.in_ok-advance.ensures.advances)
    ]

pub returns-in-Spent-clause-guest : goal.returns-in-Spent-clause-guest
returns-in-Spent-clause-guest g c =
    c.in_ok-advance.ensures.guest ∙ c.loop-fuel_left.invariant.guest
