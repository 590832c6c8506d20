-- The step of a call, and stretches in a loop.
use Rattle.std.proofs.Common.{◌≡◌, inr, ℕ, ◌+◌, ◌-◌, ◌<◌, ◌≤◌, List, [], Option, Some, None, refl}
use Rattle.std.proofs.Common.{sym, ap, ◌∙◌, subst, arith}
use Rattle.std.specs.Prelude.{Result, Ok, Err}
use Rattle.wasi_abi.specs.declared.call.Call.{Call}
use Rattle.wasi_calls.specs.rules.Held.{HeldWasiState}
use Rattle.machine.specs.rules.Values.{MachineValue, HoldsMemory}
use Rattle.process_rules.specs.Processes.{ProcessState, Guest}
use Rattle.process_rules.specs.Runs.{Moves}
use Rattle.process_rules.specs.Owing.{RunsQuietly, none as no_run}
use Rattle.process_rules.proofs.Quiet.{quiet_runs_join}
use Rattle.process.specs.declared.calling.Called.{Called}
use Rattle.process.specs.declared.calling.Called.TheVariants as called
use Rattle.process.specs.declared.stop.Stop.{Stop}
use Rattle.process.specs.declared.fault.ProcessFault.{ProcessFault}
use Rattle.process.specs.declared.fault.ProcessFault.TheVariants as fault
use Rattle.process.specs.declared.stretch.Stretch.{Stretch}
use Rattle.process.specs.Parts.{ShowsParts, IsRunning, HasFewLines}
use Rattle.process.specs.Callings.{PerformsCall}
use Rattle.process.specs.Stretches.{ComesBy, ComesToShown, Stretches, StepsAt, stretch_of}
use Rattle.process.proofs.Stretching.{joined, after_step}
use Rattle.process.proofs.Counting.{comes_within}

-- ---- the step of a call

module _ (old new : MachineValue) (old_held held : HeldWasiState) (c : Call) (arguments : List ℕ)
    (released : held.released ≡ old_held.released) (none_waits : old_held.host.lines ≡ []) where
  as_before : new ≡ old → held ≡ old_held → (guest : Guest) (p : ProcessState)
      → ShowsParts old old_held guest p → ShowsParts new held guest p
  as_before e f guest p shows =
      let P : MachineValue → Type 0 = λ m. ShowsParts m old_held guest p in
      let Q : HeldWasiState → Type 0 = λ h. ShowsParts new h guest p in
      subst Q (sym f) (subst P (sym e) shows)

  still_none : held ≡ old_held → held.host.lines ≡ []
  still_none f = ap (λ (h : HeldWasiState). h.host.lines) f ∙ none_waits

  pub steps_of : (r : Result Called ProcessFault)
      → PerformsCall old old_held c arguments None r new held
      → StepsAt old old_held c arguments (stretch_of r held.host.lines) new held
  steps_of (Ok (called.Performed synced ended)) calls guest p fuel shows running at some =
      let k = calls guest p shows running at in
      let l = k.0 in
      let moves : Moves guest p None l.process = record {
        running = running;
        wanted = tt;
        leads = l.leads;
      } in
      record {
        process = l.process;
        shows = l.shows;
        ended = l.ended;
        comes = after_step guest p p l.process 0 fuel no_run moves some old_held held shows.host
            l.shows.host released none_waits synced (k.1 refl) ended l.ended held.host.lines refl;
      }
  steps_of (Ok (called.Asks question)) calls guest p fuel shows running at some =
      let k = calls guest p shows running at in
      record {
        process = p;
        shows = as_before k.0 k.1 guest p shows;
        ended = running;
        comes = (record { runs = no_run; none_waits = still_none k.1 }, running, some, k.2);
      }
  steps_of (Err fault.Memory) calls guest p fuel shows running at some =
      let k = calls guest p shows running at in
      record {
        process = p;
        shows = as_before k.0 k.1 guest p shows;
        ended = running;
        comes = (
          record { runs = no_run; none_waits = still_none k.1 },
          running,
          some,
          record {
            function = at.function;
            operands = at.operands;
            waits = at.waits;
            asks = at.asks;
            ends_not = k.2;
          },
        );
      }
  steps_of (Err fault.StepsSpent) calls guest p fuel shows running at some =
      let k = calls guest p shows running at in
      record {
        process = p;
        shows = as_before k.0 k.1 guest p shows;
        ended = running;
        comes = (record { runs = no_run; none_waits = still_none k.1 }, running, some, inr k.2);
      }
  steps_of (Err fault.WrongAnswer) calls guest p fuel shows running at some =
      absurd (calls guest p shows running at)

-- ---- the loop

-- so many steps after which nothing is owed have led to a process that is shown and runs on
pub record Reached (machine : MachineValue) (held : HeldWasiState) (guest : Guest)
    (p : ProcessState) (steps : ℕ) : Type 0 where
  pub process : ProcessState
  pub runs : RunsQuietly guest p steps process
  pub shows : ShowsParts machine held guest process
  pub running : process.ended ≡ None

pub record IsOn (first : MachineValue) (first_held : HeldWasiState) (fuel : ℕ)
    (machine : MachineValue) (held : HeldWasiState) (steps : ℕ) : Type 0 where
  pub holds : HoldsMemory machine
  pub few : HasFewLines held
  pub released : held.released ≡ first_held.released
  pub guest : machine.guest ≡ first.guest
  pub none_waits : held.host.lines ≡ []
  pub runs : IsRunning machine held
  pub within : steps ≤ fuel
  pub on : (guest : Guest) (p : ProcessState) → ShowsParts first first_held guest p → p.ended ≡ None
      → Reached machine held guest p steps

pub begins : (machine : MachineValue) (held : HeldWasiState) (fuel : ℕ) → HoldsMemory machine
    → HasFewLines held → held.host.lines ≡ [] → IsRunning machine held
    → IsOn machine held fuel machine held 0
begins machine held fuel holds few none_waits runs = record {
  holds = holds;
  few = few;
  released = refl;
  guest = refl;
  none_waits = none_waits;
  runs = runs;
  within = omega arith;
  on = λ guest p shows running. record {
    process = p;
    runs = no_run;
    shows = shows;
    running = running;
  };
}

module _ (first : MachineValue) (first_held : HeldWasiState) (fuel : ℕ) (mid : MachineValue)
    (mid_held : HeldWasiState) (steps : ℕ) (is_on : IsOn first first_held fuel mid mid_held steps)
    (new : MachineValue) (held : HeldWasiState) (next : Stretch) (stretches : Stretches mid mid_held
    (fuel - steps) next new held) where
  -- the next stretch, from where the loop has come to
  onwards : (guest : Guest) (p : ProcessState) → ShowsParts first first_held guest p
      → p.ended ≡ None → ComesToShown new held guest p fuel (record {
        steps = steps + next.steps;
        ended = next.ended;
        stop = next.stop;
      })
  onwards guest p shows running =
      let here = is_on.on guest p shows running in
      let come = stretches guest here.process here.shows here.running in
      let whole = joined guest p here.process come.process steps here.runs (fuel
      - steps) next.steps held.host.lines next.stop come.comes in
      let within = is_on.within in
      let all : steps + (fuel - steps) ≡ fuel = omega (arith, within) in
      let P : ℕ → Type 0 =
      λ n. ComesBy guest p come.process n (steps + next.steps) held.host.lines next.stop in
      record {
        process = come.process;
        shows = come.shows;
        ended = come.ended;
        comes = subst P all whole;
      }

  pub steps_within : steps + next.steps ≤ fuel
  steps_within =
      let r = is_on.runs in
      let come = stretches r.guest r.process r.shows r.running in
      let within =
      comes_within r.guest r.process come.process (fuel
      - steps) next.steps held.host.lines next.stop come.comes in
      let before = is_on.within in
      omega (arith, within, before)

  pub stops_now : (s : Result Stop ProcessFault) → next.stop ≡ Some s
      → Stretches first first_held fuel (record {
        steps = steps + next.steps;
        ended = next.ended;
        stop = Some s;
      }) new held
  stops_now s e guest p shows running =
      let P : Option (Result Stop ProcessFault) → Type 0 =
      λ o. ComesToShown new held guest p fuel (record {
        steps = steps + next.steps;
        ended = next.ended;
        stop = o;
      }) in
      subst P e (onwards guest p shows running)

  module _ (goes_on : next.stop ≡ None) where
    some_more : (guest : Guest) (p : ProcessState) (s : ShowsParts mid mid_held guest p)
        (r : p.ended ≡ None)
        → ComesBy guest p (stretches guest p s r).process (fuel
        - steps) next.steps held.host.lines None
    some_more guest p s r =
        let P : Option (Result Stop ProcessFault) → Type 0 =
        λ o. ComesBy guest p (stretches guest p s r).process (fuel
        - steps) next.steps held.host.lines o in
        subst P goes_on (stretches guest p s r).comes

    pub on_again : HoldsMemory new → HasFewLines held → held.released ≡ mid_held.released
        → new.guest ≡ mid.guest → IsOn first first_held fuel new held (steps + next.steps)
    on_again holds few released same =
        let r = is_on.runs in
        let come = stretches r.guest r.process r.shows r.running in
        let more = some_more r.guest r.process r.shows r.running in
        let within = more.3 in
        let before = is_on.within in
        record {
          holds = holds;
          few = few;
          released = released ∙ is_on.released;
          guest = same ∙ is_on.guest;
          none_waits = more.0.none_waits;
          runs = record {
            guest = r.guest;
            process = come.process;
            shows = come.shows;
            running = more.1;
          };
          within = omega (arith, within, before);
          on = λ guest p shows running.
              let here = is_on.on guest p shows running in
              let there = stretches guest here.process here.shows here.running in
              let steps_on = some_more guest here.process here.shows here.running in
              record {
                process = there.process;
                runs = quiet_runs_join guest p here.process there.process steps next.steps here.runs
                    steps_on.0.runs;
                shows = there.shows;
                running = steps_on.1;
              };
        }

    pub fewer_left : fuel - (steps + next.steps) < fuel - steps
    fewer_left =
        let r = is_on.runs in
        let more = some_more r.guest r.process r.shows r.running in
        let some = more.2 in
        let within = more.3 in
        omega (arith, some, within)
