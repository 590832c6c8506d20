-- Stretches of steps, one after another.
use Rattle.std.proofs.Common.{◌≡◌, inl, inr, ℕ, suc, ◌+◌, ◌-◌, ◌<◌, ◌≤◌, Bool, true, false, List}
use Rattle.std.proofs.Common.{[], ◌∷◌, Option, Some, None, refl, sym, ap, subst, arith}
use Rattle.std.specs.Prelude.{◌↔◌, IsTrue, Result, Ok, Err}
use Rattle.std.specs.Option.{option_map}
use Rattle.wasm_syntax.specs.declared.module.Module.{Module}
use Rattle.wasm_syntax.specs.declared.value.Trap.{Trap}
use Rattle.wasm_rules.specs.Configuration.{Program, Configuration}
use Rattle.wasm_rules.specs.Steps.{stopped, IsEnded, Steps, none, more}
use Rattle.wasi_abi.specs.declared.call.Call.{Call}
use Rattle.wasi_abi.specs.rules.Calls.{parameters_of}
use Rattle.wasi_calls_rules.specs.WasiStates.{WasiState, Line}
use Rattle.wasi_calls_rules.specs.Lines.{lines_ended}
use Rattle.wasi_calls.specs.rules.Held.{HeldWasiState, ShowsWasiState, held_ended}
use Rattle.wasi_calls.specs.rules.Calls.{AreArguments}
use Rattle.machine.specs.declared.execution.pause.Pause.{Pause}
use Rattle.machine.specs.declared.execution.pause.Pause.TheVariants as pause
use Rattle.machine.specs.rules.Values.{MachineValue, ShowsIn, IsSameMachine}
use Rattle.machine.specs.rules.Runs.{Arrives, RunsFor}
use Rattle.process_rules.specs.Processes.{Exited, Trapped, ProcessState, Guest, AreCalls, over}
use Rattle.process_rules.specs.Runs.{Moves}
use Rattle.process_rules.specs.Behind.{Syncs}
use Rattle.process_rules.specs.Owing.{RunsQuietly, MovesQuietly, none as no_run, more as more_runs}
use Rattle.process_rules.specs.laws.Laws.{EndsAfter}
use Rattle.process_rules.proofs.Quiet.{quiet_runs_join, steps_are_quiet, last_step_ends, trap_ends}
use Rattle.process_rules.proofs.Quiet.{none_counted}
use Rattle.process_rules.proofs.Growing.{move_emits}
use Rattle.process.specs.declared.stop.ProcessEnd.{ProcessEnd}
use Rattle.process.specs.declared.stop.ProcessEnd.TheVariants as end
use Rattle.process.specs.declared.stop.Stop.{Stop}
use Rattle.process.specs.declared.stop.Stop.TheVariants as stop
use Rattle.process.specs.declared.fault.ProcessFault.{ProcessFault}
use Rattle.process.specs.declared.fault.ProcessFault.TheVariants as fault
use Rattle.process.specs.declared.stretch.Stretch.{Stretch}
use Rattle.process.specs.rules.Values.{ending_of}
use Rattle.process.specs.Parts.{ShowsParts, IsAtCall, WaitsAtCall}
use Rattle.process.specs.Stretches.{ComesOn, ComesBy, ComesToShown, StepsAt, stop_after}
use Rattle.process.proofs.Waiting.{at_call, are_typed}
use Rattle.process.proofs.Lines.{same_lines, other_lines}

-- ---- joining

module _ (guest : Guest) (p m q : ProcessState) (k : ℕ) (runs : RunsQuietly guest p k m)
    (fuel n : ℕ) (waiting : List Line) where
  on : ComesOn guest m q n waiting → ComesOn guest p q (k + n) waiting
  on h = record { runs = quiet_runs_join guest p m q k n runs h.runs; none_waits = h.none_waits }

  pub joined : (s : Option (Result Stop ProcessFault)) → ComesBy guest m q fuel n waiting s
      → ComesBy guest p q (k + fuel) (k + n) waiting s
  joined None h = let some = h.2 in let within = h.3 in
      (on h.0, h.1, omega (arith, some), omega (arith, within))
  joined (Some (Ok stop.Owes)) h = record {
    quiet = k + h.quiet;
    before = h.before;
    runs = quiet_runs_join guest p m h.before k h.quiet runs h.runs;
    moves = h.moves;
    owing = h.owing;
    are = (let are = h.are in omega (arith, are));
    within = (let within = h.within in omega (arith, within));
  }
  joined (Some (Ok (stop.Ended how))) h = let within = h.2 in (on h.0, h.1, omega (arith, within))
  joined (Some (Ok stop.Spent)) h = (on h.0, h.1, ap (λ z. k + z) h.2)
  joined (Some (Ok (stop.Asks question))) h = let within = h.2 in
      (on h.0, h.1, omega (arith, within), h.3)
  joined (Some (Err fault.Memory)) h = let within = h.2 in (on h.0, h.1, omega (arith, within), h.3)
  joined (Some (Err fault.StepsSpent)) h = let within = h.2 in
      (on h.0, h.1, omega (arith, within), h.3)
  joined (Some (Err fault.WrongAnswer)) h = h

-- ---- after one step

module _ (guest : Guest) (p before q : ProcessState) (k fuel : ℕ)
    (runs : RunsQuietly guest p k before) (moves : Moves guest before None q) (within : k < fuel)
    (old held : HeldWasiState) (first : ShowsWasiState old before.host)
    (last : ShowsWasiState held q.host) (released : held.released
    ≡ old.released) (none_waits : old.host.lines ≡ []) where
  quietly : (synced : Bool) → synced ≡ false → (IsTrue synced ↔ Syncs guest before)
      → [] ≡ held.host.lines → ComesOn guest p q (suc k) []
  quietly synced off syncs waits =
      let move : MovesQuietly guest before q = record {
        moves = moves;
        no_line = same_lines old held before.host q.host first last released none_waits (sym waits)
            (move_emits guest before q None moves);
        no_sync = λ s. let held_so = syncs.1 s in absurd (cc);
      } in
      let all : RunsQuietly guest p (k + 1) q =
      quiet_runs_join guest p before q k 1 runs (more_runs move no_run) in
      let P : ℕ → Type 0 = λ n. RunsQuietly guest p n q in
      let counts : k + 1 ≡ suc k = omega arith in
      record { runs = subst P counts all; none_waits = refl }

  pub after_step : (synced : Bool) → (IsTrue synced ↔ Syncs guest before)
      → (ended : Option ProcessEnd) → q.ended ≡ option_map ending_of ended → (waiting : List Line)
      → waiting ≡ held.host.lines
      → ComesBy guest p q fuel (suc k) waiting (stop_after synced waiting ended)
  after_step true syncs ended e waiting waits = record {
    quiet = k;
    before = before;
    runs = runs;
    moves = moves;
    owing = inr (syncs.0 refl);
    are = refl;
    within = within;
  }
  after_step false syncs ended e (line ∷ waiting) waits = record {
    quiet = k;
    before = before;
    runs = runs;
    moves = moves;
    owing = inl (other_lines old held before.host q.host line waiting first last released none_waits
        (sym waits));
    are = refl;
    within = within;
  }
  after_step false syncs (Some how) e [] waits =
      (quietly false refl syncs waits, e, omega (arith, within))
  after_step false syncs None e [] waits =
      (quietly false refl syncs waits, e, omega arith, omega (arith, within))

-- ---- where the machine pauses

pub fuel_left_within : (new : MachineValue) (program : Program) (d : Configuration)
    (fuel fuel_left : ℕ) (why : Pause) → RunsFor new program d fuel fuel_left why → fuel_left ≤ fuel
fuel_left_within new program d fuel fuel_left pause.Spent h = let used = h.0.used in
    omega (arith, used)
fuel_left_within new program d fuel fuel_left (pause.Host asked) h = let used = h.0.used in
    omega (arith, used)
fuel_left_within new program d fuel fuel_left pause.Returned h = let used = h.0.used in
    omega (arith, used)
fuel_left_within new program d fuel fuel_left (pause.Trapped why) h = let used = h.used in
    omega (arith, used)

-- what leads to an end is some step
some_step : (program : Program) (n : ℕ) (d e : Configuration) → Steps program n d e
    → (IsEnded d → ⊥) → IsEnded e → (k : ℕ) × (n ≡ suc k)
some_step program n d e (none {c = c}) runs ends = absurd (runs ends)
some_step program n d e (more {n = k} {c = c} {d = f} {e = g} first rest) runs ends = (k, refl)

module _ (old new : MachineValue) (held : HeldWasiState) (same : IsSameMachine old new)
    (guest : Guest) (p : ProcessState) (shows : ShowsParts old held guest p)
    (running : p.ended ≡ None) where
  calls_still : AreCalls new.guest.imports guest.calls
  calls_still = let P : Module → Type 0 = λ m. AreCalls m.imports guest.calls in
      subst P (sym same.guest) shows.calls

  -- the process after so many rules
  abbrev pub ran : Configuration → ℕ → ProcessState
  ran d n = record p { configuration = d; steps = p.steps + n }

  module _ (fuel fuel_left : ℕ) where
    pub ran_shows : (a : Arrives new guest.program p.configuration fuel fuel_left)
        → (IsEnded a.configuration → ⊥) → ShowsParts new held guest (ran a.configuration a.steps)
    ran_shows a open_yet = record {
      calls = calls_still;
      configuration = a.shows;
      host = shows.host;
      closed = λ _. open_yet;
    }

    pub ran_quietly : (a : Arrives new guest.program p.configuration fuel fuel_left)
        → (IsEnded a.configuration → ⊥) → RunsQuietly guest p a.steps (ran a.configuration a.steps)
    ran_quietly a open_yet = steps_are_quiet guest p a.steps a.configuration running a.ran open_yet

    used_up : (a : Arrives new guest.program p.configuration fuel fuel_left) → a.steps
        ≡ fuel - fuel_left
    used_up a = let used = a.used in omega (arith, used)

    -- ---- the fuel is spent
    pub spent : held.host.lines ≡ []
        → RunsFor new guest.program p.configuration fuel fuel_left pause.Spent
        → ComesToShown new held guest p fuel (record {
          steps = fuel - fuel_left;
          ended = None;
          stop = Some (Ok stop.Spent);
        })
    spent none_waits h =
        let a = h.0 in
        let open_yet : IsEnded a.configuration → ⊥ = λ e. h.1 e.returned in
        let P : ℕ → Type 0 = λ n. RunsQuietly guest p n (ran a.configuration a.steps) in
        let nothing = h.2 in
        record {
          process = ran a.configuration a.steps;
          shows = ran_shows a open_yet;
          ended = running;
          comes = (
            record {
              runs = subst P (used_up a) (ran_quietly a open_yet);
              none_waits = none_waits;
            },
            running,
            omega (arith, nothing),
          );
        }

    -- ---- a call waits
    module _ (c : Call) (arguments : List ℕ)
        (h : RunsFor new guest.program p.configuration fuel fuel_left (pause.Host (record {
          call = c;
          arguments = arguments;
        }))) where
      abbrev a : Arrives new guest.program p.configuration fuel fuel_left
      a = h.0

      asks_open : IsEnded a.configuration → ⊥
      asks_open e = let stuck = none_counted guest.program a.configuration e in let asks =
          h.1.asks in cc

      pub is_at : IsAtCall guest a.configuration c arguments
      is_at = at_call new guest calls_still a.configuration c arguments h.1

      pub call_is_typed : AreArguments (parameters_of c) arguments
      call_is_typed = are_typed new guest calls_still a.configuration c arguments h.1

      pub waits_at : WaitsAtCall new held c arguments
      waits_at = record {
        guest = guest;
        process = ran a.configuration a.steps;
        shows = ran_shows a asks_open;
        running = running;
        at = is_at;
      }

      pub stepped_on : (last : MachineValue) (last_held : HeldWasiState) (s : Stretch)
          → StepsAt new held c arguments s last last_held
          → ComesToShown last last_held guest p fuel (record {
            steps = (fuel - fuel_left) + s.steps;
            ended = s.ended;
            stop = s.stop;
          })
      stepped_on last last_held s steps =
          let m : ProcessState = ran a.configuration a.steps in
          let some = h.2 in
          let next : ComesToShown last last_held guest m fuel_left s =
          steps guest m fuel_left (ran_shows a asks_open) running is_at some in
          let whole : ComesBy guest p next.process (a.steps + fuel_left) (a.steps
          + s.steps) last_held.host.lines s.stop =
          joined guest p m next.process a.steps (ran_quietly a asks_open) fuel_left s.steps
          last_held.host.lines s.stop next.comes in
          let P : ℕ → Type 0 =
          λ n. ComesBy guest p next.process n (a.steps + s.steps) last_held.host.lines s.stop in
          let Q : ℕ → Type 0 =
          λ n. ComesBy guest p next.process fuel (n + s.steps) last_held.host.lines s.stop in
          record {
            process = next.process;
            shows = next.shows;
            ended = next.ended;
            comes = subst Q (used_up a) (subst P a.used whole);
          }

    -- ---- the process ends
    ended_so : (last : HeldWasiState) → last ≡ held_ended held → held.host.lines ≡ []
        → (last_shows : ShowsWasiState last (lines_ended p.host))
        → (k : ℕ) (q : ProcessState) (how : ProcessEnd) → k < fuel
        → EndsAfter guest p k q → q.host ≡ lines_ended p.host → q.ended ≡ Some (ending_of how)
        → ShowsIn new guest.program q.configuration → (steps : ℕ) → suc k ≡ steps
        → ComesToShown new last guest p fuel (record {
          steps = steps;
          ended = Some how;
          stop = stop_after false last.host.lines (Some how);
        })
    ended_so last is none_waits last_shows k q how within ends host over_so configuration steps
        counts =
        let P : WasiState → Type 0 = λ g. ShowsWasiState held g in
        let Q : WasiState → Type 0 = λ g. ShowsWasiState last g in
        let shows_last = subst Q (sym host) last_shows in
        let released : last.released ≡ held.released = ap (λ (v : HeldWasiState). v.released) is in
        let no_sync = ends.no_sync in
        let comes : ComesBy guest p q fuel (suc k) last.host.lines (stop_after false last.host.lines
        (Some how)) =
        after_step guest p ends.before q k fuel ends.runs ends.moves within held last
        (subst P (sym ends.same_host) shows.host) shows_last released none_waits
        false (λ t. absurd (cc), λ s. absurd (no_sync s)) (Some how) over_so last.host.lines refl in
        let R : ℕ → Type 0 =
        λ n. ComesBy guest p q fuel n last.host.lines (stop_after false last.host.lines
        (Some how)) in
        record {
          process = q;
          shows = record {
            calls = calls_still;
            configuration = configuration;
            host = shows_last;
            closed = λ e. absurd (let f = over_so in cc);
          };
          ended = over_so;
          comes = subst R counts comes;
        }

    pub returned : (last : HeldWasiState) → last ≡ held_ended held → held.host.lines ≡ []
        → ShowsWasiState last (lines_ended p.host)
        → RunsFor new guest.program p.configuration fuel fuel_left pause.Returned
        → ComesToShown new last guest p fuel (record {
          steps = fuel - fuel_left;
          ended = Some (end.Exited 0);
          stop = stop_after false last.host.lines (Some (end.Exited 0));
        })
    returned last is none_waits last_shows h =
        let a = h.0 in
        let some = some_step guest.program a.steps p.configuration a.configuration a.ran
        (shows.closed running) h.1 in
        let k : ℕ = some.0 in
        let is_some : a.steps ≡ suc k = some.1 in
        let used = a.used in
        let P : ℕ → Type 0 = λ n. Steps guest.program n p.configuration a.configuration in
        ended_so last is none_waits last_shows k (over (Exited 0) (ran a.configuration (suc k)))
        (end.Exited 0) (omega (arith, used, is_some))
        (last_step_ends guest p k a.configuration running (subst P is_some a.ran) h.1) refl refl
        a.shows (fuel - fuel_left) (omega (arith, used, is_some))

    pub trapped : (last : HeldWasiState) → last ≡ held_ended held → held.host.lines ≡ []
        → ShowsWasiState last (lines_ended p.host) → (why : Trap)
        → RunsFor new guest.program p.configuration fuel fuel_left (pause.Trapped why)
        → ComesToShown new last guest p fuel (record {
          steps = fuel - fuel_left;
          ended = Some (end.Trapped why);
          stop = stop_after false last.host.lines (Some (end.Trapped why));
        })
    trapped last is none_waits last_shows why h =
        let used = h.used in
        ended_so last is none_waits last_shows h.steps
        (over (Trapped why) (ran (stopped h.configuration) (suc h.steps))) (end.Trapped why)
        (omega (arith, used))
        (trap_ends guest p h.steps h.configuration why running h.ran h.traps) refl refl h.shows
        (fuel - fuel_left) (omega (arith, used))
