-- A life whose outlet has refused a line ends by that; else the outlet has taken each line.
use Rattle.std.proofs.Common.{◌≡◌, ◌⊎◌, inl, inr, ⊎_elim, ℕ, suc, ◌≤◌, Bool, true, false, List, []}
use Rattle.std.proofs.Common.{◌∷◌, length, None, refl, sym, ap, subst, arith}
use Rattle.wasm_syntax.specs.declared.module.Module.{Module}
use Rattle.wasi_abi.specs.rules.Configs.{Settings}
use Rattle.process_rules.specs.Runs.{Kept}
use Rattle.state_image.specs.rules.ProcessImage.{Saved}
use Rattle.record_replay.specs.rules.Calls.{Exchange, Asks, Tells}
use Rattle.worker_store.specs.restart_theorem.Lives.{Act, Slice, Batch, Checkpoint, Upgrade, Inputs}
use Rattle.worker_store.specs.restart_theorem.Lives.{Cause, OfOutlet, Reply, Spent, kept_by_end}
use Rattle.worker_store.specs.restart_theorem.Lives.{Waits, Over, Done, Fails, Event, Told, Asked}
use Rattle.worker_store.specs.restart_theorem.Lives.{Opened, Ended, told_in, End, Finished, Stopped}
use Rattle.worker_store.specs.restart_theorem.Lives.{Failed, Life}
use Rattle.worker_store.specs.restart_theorem.Courses.{Stage, Phase, Shut, Unheard, Open, NoneThere}
use Rattle.worker_store.specs.restart_theorem.Courses.{Broken, Closed, HasLastAsked, phase_told}
use Rattle.worker_store.specs.restart_theorem.Courses.{phase_ended, next_stage, stage_after}
use Rattle.worker_store.specs.restart_theorem.Courses.{first_taken, without_first, IsToldIn}
use Rattle.worker_store.specs.restart_theorem.Courses.{IsAskedIn, MayFail, HasFailed, HasStopped}
use Rattle.worker_store.specs.restart_theorem.Courses.{MayEnd, at_beginning}
use Rattle.worker_store.specs.restart_theorem.Promises.{Promise, as_begun, after, promised, AreKept}
use Rattle.worker_store.specs.restart_theorem.Promises.{IsKept, IsReply, IsLived}
use Rattle.worker_store.proofs.RestartLemmas.Pleas.{fails_or_open, fails_or_last}
use Rattle.worker.specs.laws.OneLife.{released_in, taken_in}
use Rattle.worker.specs.laws.Uncut.{AreTrue}

-- ---- a life that was refused a line does no more

-- the outlet has refused a line of it
abbrev IsDeaf : Phase → Type 0
IsDeaf Unheard = Unit {0}
IsDeaf (Broken OfOutlet) = Unit {0}
IsDeaf (Closed OfOutlet) = Unit {0}
IsDeaf _ = ⊥

-- it has not asked since
deaf_unasked_last : (phase : Phase) → IsDeaf phase → HasLastAsked phase → ⊥
deaf_unasked_last Shut deaf asked = deaf
deaf_unasked_last Unheard deaf asked = asked
deaf_unasked_last Open deaf asked = deaf
deaf_unasked_last (NoneThere n) deaf asked = deaf
deaf_unasked_last (Broken OfOutlet) deaf asked = asked
deaf_unasked_last (Broken other) deaf asked = absurd deaf
deaf_unasked_last (Closed cause) deaf asked = asked

deaf_untold : (phase : Phase) (acts : List Act) (step steps : ℕ) → IsDeaf phase
    → IsToldIn phase acts step steps → ⊥
deaf_untold Shut acts step steps deaf told = deaf
deaf_untold Unheard acts step steps deaf told = told.0
deaf_untold Open acts step steps deaf told = deaf
deaf_untold (NoneThere n) acts step steps deaf told = deaf
deaf_untold (Broken cause) acts step steps deaf told =
    deaf_unasked_last (Broken cause) deaf told.0
deaf_untold (Closed cause) acts step steps deaf told = told.0

deaf_unasked : (phase : Phase) (acts : List Act) (step steps : ℕ) → IsDeaf phase
    → IsAskedIn phase acts step steps → ⊥
deaf_unasked Shut acts step steps deaf asked = deaf
deaf_unasked Unheard acts step steps deaf asked = asked
deaf_unasked Open acts step steps deaf asked = deaf
deaf_unasked (NoneThere n) acts step steps deaf asked = deaf
deaf_unasked (Broken cause) acts step steps deaf asked = asked
deaf_unasked (Closed cause) acts step steps deaf asked = asked

deaf_fails : (phase : Phase) (cause : Cause) → IsDeaf phase → MayFail phase cause
    → IsDeaf (Closed cause)
deaf_fails Shut cause deaf may = absurd deaf
deaf_fails Unheard cause deaf may = absurd may
deaf_fails Open cause deaf may = absurd deaf
deaf_fails (NoneThere n) cause deaf may = absurd deaf
deaf_fails (Broken why) cause deaf may =
    subst (λ c. IsDeaf (Closed c)) (sym may) (closes why deaf)
  where
    closes : (why : Cause) → IsDeaf (Broken why) → IsDeaf (Closed why)
    closes OfOutlet deaf = tt
    closes other deaf = absurd deaf
deaf_fails (Closed why) cause deaf may = absurd may

not_deaf : (phase to : Phase) → phase ≡ to → (IsDeaf to → ⊥) → IsDeaf phase → ⊥
not_deaf phase to is none deaf = none (subst IsDeaf is deaf)

module _ (m : Module) (config : Settings) where
  deaf_ends : (kept : List Kept) (stage : Stage) (held : ℕ) (shown : Saved) (act : Act)
      (reply : Reply) → IsDeaf stage.phase → IsReply config kept stage held shown act reply
      → IsDeaf (phase_ended reply)
  deaf_ends kept stage held shown (Slice fuel) Spent deaf is =
      absurd (not_deaf stage.phase Open is.0 (λ d. d) deaf)
  deaf_ends kept stage held shown (Slice fuel) Waits deaf is =
      absurd (not_deaf stage.phase (NoneThere shown.steps) is.0 (λ d. d) deaf)
  deaf_ends kept stage held shown (Slice fuel) (Over why) deaf is =
      absurd (not_deaf stage.phase Open is.0 (λ d. d) deaf)
  deaf_ends kept stage held shown (Slice fuel) Done deaf is = absurd is
  deaf_ends kept stage held shown (Slice fuel) (Fails cause) deaf is =
      deaf_fails stage.phase cause deaf is.0
  deaf_ends kept stage held shown (Batch fuel most) Spent deaf is =
      absurd (not_deaf stage.phase Open is.0 (λ d. d) deaf)
  deaf_ends kept stage held shown (Batch fuel most) Waits deaf is =
      absurd (not_deaf stage.phase (NoneThere shown.steps) is.0 (λ d. d) deaf)
  deaf_ends kept stage held shown (Batch fuel most) (Over why) deaf is =
      absurd (not_deaf stage.phase Open is.0 (λ d. d) deaf)
  deaf_ends kept stage held shown (Batch fuel most) Done deaf is = absurd is
  deaf_ends kept stage held shown (Batch fuel most) (Fails cause) deaf is =
      ⊎_elim
      (λ (may : MayFail stage.phase cause). deaf_fails stage.phase cause deaf may)
      (λ (asked : HasLastAsked stage.phase).
      absurd (deaf_unasked_last stage.phase deaf asked))
      (fails_or_last stage.phase cause is.0)
  deaf_ends kept stage held shown Checkpoint Spent deaf is = absurd is
  deaf_ends kept stage held shown Checkpoint Waits deaf is = absurd is
  deaf_ends kept stage held shown Checkpoint (Over why) deaf is = absurd is
  deaf_ends kept stage held shown Checkpoint Done deaf is =
      absurd (not_deaf stage.phase Open is.0 (λ d. d) deaf)
  deaf_ends kept stage held shown Checkpoint (Fails cause) deaf is =
      deaf_fails stage.phase cause deaf is.0
  deaf_ends kept stage held shown Upgrade Spent deaf is = absurd is
  deaf_ends kept stage held shown Upgrade Waits deaf is = absurd is
  deaf_ends kept stage held shown Upgrade (Over why) deaf is = absurd is
  deaf_ends kept stage held shown Upgrade Done deaf is =
      absurd (not_deaf stage.phase Open is.0 (λ d. d) deaf)
  deaf_ends kept stage held shown Upgrade (Fails cause) deaf is =
      ⊎_elim
      (λ (may : MayFail stage.phase cause). deaf_fails stage.phase cause deaf may)
      (λ (opened : stage.phase ≡ Open).
      absurd (not_deaf stage.phase Open opened (λ d. d) deaf))
      (fails_or_open config kept stage cause is.0)

  deaf_next : (so_far : Promise) (stage : Stage) (e : Event) → IsDeaf stage.phase
      → IsKept m config so_far stage e → IsDeaf (next_stage stage e).phase
  deaf_next so_far stage (Told r is_taken) deaf kept =
      absurd (deaf_untold stage.phase stage.acts stage.step kept.is_line.steps deaf kept.in_time)
  deaf_next so_far stage (Asked steps question said fits) deaf kept =
      absurd (deaf_unasked stage.phase stage.acts stage.step steps deaf kept.in_time)
  deaf_next so_far stage (Opened held shown) deaf kept =
      absurd (not_deaf stage.phase Shut kept.shut (λ d. d) deaf)
  deaf_next so_far stage (Ended act reply held shown) deaf kept =
      deaf_ends (kept_by_end act shown so_far.kept) stage held shown act reply deaf kept.reply

  stays_deaf : (events : List Event) (so_far : Promise) (stage : Stage) → IsDeaf stage.phase
      → AreKept m config so_far stage events → IsDeaf (stage_after stage events).phase
  stays_deaf [] so_far stage deaf kept = deaf
  stays_deaf (e ∷ events) so_far stage deaf kept =
      stays_deaf events (after so_far e) (next_stage stage e)
      (deaf_next so_far stage e deaf kept.0) kept.1

  -- ---- all lines were taken, or a line was refused

  -- no release among these was refused
  abbrev AreHeard : List Event → Type 0
  AreHeard [] = Unit {0}
  AreHeard (Told r true ∷ events) = AreHeard events
  AreHeard (Told r false ∷ events) = ⊥
  AreHeard (Asked steps question said fits ∷ events) = AreHeard events
  AreHeard (Opened held shown ∷ events) = AreHeard events
  AreHeard (Ended act reply held shown ∷ events) = AreHeard events

  refused_is_deaf : (phase : Phase) → IsDeaf (phase_told phase false)
  refused_is_deaf Shut = tt
  refused_is_deaf Unheard = tt
  refused_is_deaf Open = tt
  refused_is_deaf (NoneThere n) = tt
  refused_is_deaf (Broken cause) = tt
  refused_is_deaf (Closed cause) = tt

  heard_or_deaf : (events : List Event) (so_far : Promise) (stage : Stage)
      → AreKept m config so_far stage events
      → AreHeard events ⊎ IsDeaf (stage_after stage events).phase
  heard_or_deaf [] so_far stage kept = inl tt
  heard_or_deaf (Told r true ∷ events) so_far stage kept =
      heard_or_deaf events (after so_far (Told r true)) (next_stage stage (Told r true)) kept.1
  heard_or_deaf (Told r false ∷ events) so_far stage kept =
      inr (stays_deaf events (after so_far (Told r false)) (next_stage stage (Told r false))
      (refused_is_deaf stage.phase) kept.1)
  heard_or_deaf (Asked steps question said fits ∷ events) so_far stage kept =
      heard_or_deaf events (after so_far (Asked steps question said fits))
      (next_stage stage (Asked steps question said fits)) kept.1
  heard_or_deaf (Opened held shown ∷ events) so_far stage kept =
      heard_or_deaf events (after so_far (Opened held shown))
      (next_stage stage (Opened held shown)) kept.1
  heard_or_deaf (Ended act reply held shown ∷ events) so_far stage kept =
      heard_or_deaf events (after so_far (Ended act reply held shown))
      (next_stage stage (Ended act reply held shown)) kept.1

  deaf_fault : (events : ℕ) (phase : Phase) (cause : Cause) → IsDeaf phase
      → HasFailed events phase cause → cause ≡ OfOutlet
  deaf_fault events (Closed OfOutlet) cause deaf failed = failed
  deaf_fault events (Closed other) cause deaf failed = absurd deaf
  deaf_fault events Unheard OfOutlet deaf failed = refl
  deaf_fault events Unheard other deaf failed = absurd failed
  deaf_fault events (Broken why) cause deaf failed = absurd failed
  deaf_fault events Shut cause deaf failed = absurd deaf
  deaf_fault events Open cause deaf failed = absurd deaf
  deaf_fault events (NoneThere n) cause deaf failed = absurd deaf

  deaf_end : (inputs : Inputs) (events calls : ℕ) (stage : Stage) (end : End)
      → inputs.stop ≡ None → IsDeaf stage.phase → MayEnd inputs events calls stage end
      → end ≡ Failed OfOutlet
  deaf_end inputs events calls stage Finished none deaf may =
      absurd (not_deaf stage.phase Open may.0 (λ d. d) deaf)
  deaf_end inputs events calls stage Stopped none deaf may =
      absurd (subst (λ stop. HasStopped stop calls) none may.1)
  deaf_end inputs events calls stage (Failed cause) none deaf may =
      ap Failed (deaf_fault events stage.phase cause deaf may.0)

  all_of_none : (takes : List Bool) → length takes ≤ 0 → AreTrue takes
  all_of_none [] few = tt
  all_of_none (b ∷ takes) few = absurd (omega arith)

  -- the first one, and the others
  first_true : (takes : List Bool) → true ≡ first_taken takes → AreTrue (without_first takes)
      → AreTrue takes
  first_true [] is others = tt
  first_true (true ∷ takes) is others = others
  first_true (false ∷ takes) is others = absurd (cc)

  fewer_takes : (takes : List Bool) (n : ℕ) → length takes ≤ suc n
      → length (without_first takes) ≤ n
  fewer_takes [] n few = omega arith
  fewer_takes (b ∷ takes) n few = omega arith

  takes_all : (events : List Event) (so_far : Promise) (stage : Stage)
      → AreKept m config so_far stage events → AreHeard events
      → length stage.takes ≤ length (told_in events) → AreTrue stage.takes
  takes_all [] so_far stage kept heard few = all_of_none stage.takes few
  takes_all (Told r true ∷ events) so_far stage kept heard few =
      first_true stage.takes kept.0.heard
      (takes_all events (after so_far (Told r true)) (next_stage stage (Told r true)) kept.1 heard
      (fewer_takes stage.takes (length (told_in events)) few))
  takes_all (Told r false ∷ events) so_far stage kept heard few = absurd heard
  takes_all (Asked steps question said fits ∷ events) so_far stage kept heard few =
      takes_all events (after so_far (Asked steps question said fits))
      (next_stage stage (Asked steps question said fits)) kept.1 heard few
  takes_all (Opened held shown ∷ events) so_far stage kept heard few =
      takes_all events (after so_far (Opened held shown)) (next_stage stage (Opened held shown))
      kept.1 heard few
  takes_all (Ended act reply held shown ∷ events) so_far stage kept heard few =
      takes_all events (after so_far (Ended act reply held shown))
      (next_stage stage (Ended act reply held shown)) kept.1 heard few

  -- The outlet has taken what it was to take, or the life ended by a line that it refused.
  pub all_heard : (so_far : Promise) (inputs : Inputs) (life : Life) → inputs.stop ≡ None
      → length inputs.takes ≤ length (told_in life.events) → IsLived m config so_far inputs life
      → AreTrue inputs.takes ⊎ (life.ends ≡ Failed OfOutlet)
  all_heard so_far inputs life none few lived =
      let first : Promise = as_begun life.begins so_far in
      ⊎_elim (λ heard. inl (takes_all life.events first
      (at_beginning life.begins inputs) lived.kept heard few))
      (λ deaf. inr (deaf_end inputs (promised first life.events).events life.calls
      (stage_after (at_beginning life.begins inputs) life.events) life.ends none deaf lived.ends))
      (heard_or_deaf life.events first (at_beginning life.begins inputs) lived.kept)

-- as many were taken or refused as were released
pub as_many : (exchanges : List Exchange)
    → length (taken_in exchanges) ≡ length (released_in exchanges)
as_many [] = refl
as_many (Asks ask ∷ exchanges) = as_many exchanges
as_many (Tells begun ∷ exchanges) = ap suc (as_many exchanges)
