-- How what a worker does with its source and its outlet becomes events (this project's own).
use Rattle.std.specs.Prelude.{ℕ, Bool, true, false, List, [], ◌∷◌, Result, Ok, Err}
use Rattle.record_replay.specs.declared.fault.OutletFault.{OutletFault}
use Rattle.record_replay.specs.rules.Calls.{Ask, Begun, Exchange, Asks, Tells}
use Rattle.worker_store.specs.restart_theorem.Lives.{Release, Event, Told, Asked}

-- whether the outlet took the line
abbrev pub was_taken : Result (Unit {0}) OutletFault → Bool
was_taken (Ok done) = true
was_taken (Err e) = false

-- the line of a release that was begun, with its number
abbrev pub release_of : Begun → Release
release_of begun = record { number = begun.number; line = begun.line }

-- The exchanges of a call, in order, are these events. An event says besides at which step was
-- asked, and whether the answer fits: what the process says who asks.
pub data AreEvents : List Exchange → List Event → Type 0 where
  none : AreEvents [] []
  told : {begun : Begun} {exchanges : List Exchange} {events : List Event}
      → AreEvents exchanges events
      → AreEvents (Tells begun ∷ exchanges)
      (Told (release_of begun) (was_taken begun.said) ∷ events)
  asked : {ask : Ask} {steps : ℕ} {fits : Bool} {exchanges : List Exchange} {events : List Event}
      → AreEvents exchanges events
      → AreEvents (Asks ask ∷ exchanges) (Asked steps ask.question ask.said fits ∷ events)
