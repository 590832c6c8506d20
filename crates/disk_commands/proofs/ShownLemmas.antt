-- Calls of a life, seen by where its source is.
use Rattle.std.proofs.Common.{◌≡◌, ℕ, List, [], ◌∷◌, ◌++◌, refl, ap}
use Rattle.std.specs.Prelude.{Result}
use Rattle.sector_disk.specs.rules.Medium.{Medium}
use Rattle.record_replay.specs.rules.Calls.{Giving, Taking, Ask, Exchange, Exchanges}
use Rattle.record_replay.specs.rules.Calls.{AnswersInOrder, asks_of}
use Rattle.record_replay.specs.declared.slices.now.Now.{Now}
use Rattle.worker.specs.declared.recover_fault.RecoverFault.{RecoverFault}
use Rattle.worker.specs.rules.LifeWords.{Act}
use Rattle.worker.specs.rules.OneLife.{CallsInOrder, no_more, called, call_failed}
use Rattle.worker.specs.rules.Outcomes.{outcome_after, outcome_of_act}
use Rattle.worker.specs.rules.Scenes.{Scene, scene, Surroundings, surroundings}
use Rattle.process.specs.rules.Values.{ProcessValue}
use Rattle.worker.specs.declared.fault.WorkFault.{WorkFault}
use Rattle.disk_commands.proofs.BreakLemmas.{BreaksBy}

module _ {S T O : Type 0} (state_of : S → T) (gives : Giving T) (takes : Taking O) where
  abbrev pub gives_so : Giving S
  gives_so old question said new = gives (state_of old) question said (state_of new)

  pub asked_so : (asks : List Ask) (s t : S) → AnswersInOrder gives_so s asks t
      → AnswersInOrder gives (state_of s) asks (state_of t)
  asked_so [] s t leads = ap state_of leads
  asked_so (ask ∷ asks) s t leads = (state_of leads.0, leads.1, asked_so asks leads.0 t leads.2)

  exchanged_so : (exchanges : List Exchange) (s t : S) (o p : O)
      → Exchanges gives_so takes s o exchanges t p
      → Exchanges gives takes (state_of s) o exchanges (state_of t) p
  exchanged_so exchanges s t o p h = record {
    asked = asked_so (asks_of exchanges) s t h.asked;
    released = h.released;
  }

  -- a call that has failed
  pub broken_so : (v : ProcessValue) (act : Act) (all : ℕ) (why : WorkFault) (s t : S) (o p : O)
      → BreaksBy gives_so takes v act all why s t o p
      → BreaksBy gives takes v act all why (state_of s) (state_of t) o p
  broken_so v act all why s t o p breaks guest start is =
      let b = breaks guest start is in
      record {
        front = b.front;
        answered = b.answered;
        steps = b.steps;
        begun = b.begun;
        leads = b.leads;
        between = b.between;
        told = b.told;
        back = b.back;
        asked = asked_so (asks_of (b.front ++ b.back)) s t b.asked;
        wanted = b.wanted;
        more = b.more;
        process = b.process;
        broken = b.broken;
        counted = b.counted;
      }

  module _ {D : Type 0} (medium : D → Medium) where
    abbrev pub scene_so : Scene D S O → Scene D T O
    scene_so at = scene at.worker at.disk (state_of at.source) at.outlet

    abbrev pub left_so : Surroundings D S O → Surroundings D T O
    left_so at = surroundings at.disk (state_of at.source) at.outlet

    pub calls_so : (acts : List Act) (from : Scene D S O) (undone : Result (List Act) RecoverFault)
        (last : Surroundings D S O) → CallsInOrder medium gives_so takes acts from undone last
        → CallsInOrder medium gives takes acts (scene_so from) undone (left_so last)
    calls_so acts from undone last no_more = no_more
    calls_so acts from undone last (called {acts = others} {after = mid} said call more) =
        called {after = scene_so mid} said (
          call.0,
          exchanged_so call.0 from.source mid.source from.outlet mid.outlet call.1,
          call.2,
          call.3,
        ) (calls_so others mid undone last more)
    calls_so acts from undone last (call_failed {after = after} call fails) =
        call_failed {after = scene_so after} (
          call.0,
          exchanged_so call.0 from.source after.source from.outlet after.outlet call.1,
          call.2,
          call.3,
        ) fails

    -- they say the same
    pub outcome_so : (before : Now) (acts : List Act) (from : Scene D S O)
        (undone : Result (List Act) RecoverFault) (last : Surroundings D S O)
        (calls : CallsInOrder medium gives_so takes acts from undone last)
        → outcome_after before (calls_so acts from undone last calls) ≡ outcome_after before calls
    unfolding calls_so
    outcome_so before acts from undone last no_more = refl
    outcome_so before acts from undone last
        (called {act = act} {acts = others} {after = mid} said call more) =
        outcome_so (outcome_of_act act before said) others mid undone last more
    outcome_so before acts from undone last (call_failed call fails) = refl
