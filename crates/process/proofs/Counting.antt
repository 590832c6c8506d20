-- What stretches of steps count, and what a process then shows.
use Rattle.std.proofs.Common.{◌≡◌, inl, inr, ℕ, suc, ◌+◌, ◌<◌, ◌≤◌, ◌^◌, Bool, true, false, List}
use Rattle.std.proofs.Common.{[], Option, Some, None, refl, sym, ap, ◌∙◌, subst, arith}
use Rattle.std.specs.Prelude.{Result, Ok, Err}
use Rattle.wasi_abi.specs.declared.answer.Answer.{Answer}
use Rattle.wasi_abi.specs.declared.version.Version.{Version}
use Rattle.wasi_abi.specs.rules.Versions.{widenings}
use Rattle.wasi_calls_rules.specs.WasiStates.{Line, WasiState}
use Rattle.wasi_calls.specs.rules.Held.{HeldWasiState, ShowsWasiState}
use Rattle.machine.specs.rules.Values.{MachineValue}
use Rattle.process_rules.specs.Processes.{ProcessState, Guest}
use Rattle.process_rules.specs.Runs.{Next, On, Over, Wants, Nowhere, next_of, taken, request_taken}
use Rattle.process_rules.specs.Runs.{stepped, LeadsTo, Moves}
use Rattle.process_rules.specs.Owing.{RunsQuietly, none, more}
use Rattle.process_rules.proofs.Counted.{closed_answers, closed_requests}
use Rattle.process_rules.proofs.Growing.{move_counts}
use Rattle.process_rules.proofs.ReachedStates.{move_version}
use Rattle.process.specs.declared.stop.ProcessEnd.{ProcessEnd}
use Rattle.process.specs.declared.stop.Stop.{Stop}
use Rattle.process.specs.declared.stop.Stop.TheVariants as stop
use Rattle.process.specs.declared.fault.ProcessFault.{ProcessFault}
use Rattle.process.specs.declared.fault.ProcessFault.TheVariants as fault
use Rattle.process.specs.rules.Values.{ProcessValue, ShowsProcess, IsProcess, process_of}
use Rattle.process.specs.rules.Values.{waiting_in}
use Rattle.process.specs.Parts.{ShowsParts, HasFewLines}
use Rattle.process.specs.rules.Stops.{ComesQuietly, EndsFor, told}
use Rattle.process.specs.Stretches.{Owes, ComesOn, ComesBy, ComesToShown}

-- ---- what steps count

-- so many steps later, with no answer
pub record Counted (p q : ProcessState) (n : ℕ) : Type 0 where
  pub steps : q.steps ≡ p.steps + n
  pub answers : q.answers ≡ p.answers
  pub requests : q.requests ≡ p.requests
  pub version : q.host.version ≡ p.host.version

leads_answers : (guest : Guest) (next : Next) (given : Option Answer) (p q : ProcessState)
    → LeadsTo guest next given p q → q.answers ≡ p.answers + taken given
leads_answers guest (On c h) given p q to =
    ap (λ (z : ProcessState). z.answers) to.2
    ∙ closed_answers to.0.thread to.0.later (stepped given to.0 h p)
leads_answers guest (Over why c h) given p q to = ap (λ (z : ProcessState). z.answers) to
leads_answers guest (Wants question) given p q to = absurd to
leads_answers guest Nowhere given p q to = absurd to

leads_requests : (guest : Guest) (next : Next) (given : Option Answer) (p q : ProcessState)
    → LeadsTo guest next given p q → q.requests ≡ p.requests + request_taken given
leads_requests guest (On c h) given p q to =
    ap (λ (z : ProcessState). z.requests) to.2
    ∙ closed_requests to.0.thread to.0.later (stepped given to.0 h p)
leads_requests guest (Over why c h) given p q to = ap (λ (z : ProcessState). z.requests) to
leads_requests guest (Wants question) given p q to = absurd to
leads_requests guest Nowhere given p q to = absurd to

-- one step later, with an answer or without
pub record CountedBy (given : Option Answer) (p q : ProcessState) : Type 0 where
  pub steps : q.steps ≡ p.steps + 1
  pub answers : q.answers ≡ p.answers + taken given
  pub requests : q.requests ≡ p.requests + request_taken given

pub counted_by : (guest : Guest) (given : Option Answer) (p q : ProcessState)
    → Moves guest p given q → CountedBy given p q
counted_by guest given p q moves = record {
  steps = move_counts guest p q given moves;
  answers = leads_answers guest (next_of guest p given) given p q moves.leads;
  requests = leads_requests guest (next_of guest p given) given p q moves.leads;
}

move_counted : (guest : Guest) (p q : ProcessState) → Moves guest p None q → Counted p q 1
move_counted guest p q moves =
    let by = counted_by guest None p q moves in
    let answers = by.answers in
    let requests = by.requests in
    record {
      steps = by.steps;
      answers = omega (arith, answers);
      requests = omega (arith, requests);
      version = move_version guest p q None moves;
    }

counted_on : (p m q : ProcessState) (n k : ℕ) → Counted p m n → Counted m q k → Counted p q (n + k)
counted_on p m q n k a b =
    let x = a.steps in
    let y = b.steps in
    record {
      steps = omega (arith, x, y);
      answers = b.answers ∙ a.answers;
      requests = b.requests ∙ a.requests;
      version = b.version ∙ a.version;
    }

runs_counted : (guest : Guest) (p q : ProcessState) (n : ℕ) → RunsQuietly guest p n q
    → Counted p q n
runs_counted guest p q n (none {p = p'}) = record {
  steps = omega arith;
  answers = refl;
  requests = refl;
  version = refl;
}
runs_counted guest p q n (more {n = k} {p = p'} {q = m} {r = q'} move rest) =
    let all = counted_on p' m q 1 k (move_counted guest p' m move.moves)
    (runs_counted guest m q k rest) in
    let e : 1 + k ≡ suc k = omega arith in
    let P : ℕ → Type 0 = λ n. Counted p' q n in
    subst P e all

module _ (guest : Guest) (p q : ProcessState) (fuel n : ℕ) (waiting : List Line) where
  owes_counted : Owes guest p q fuel n → Counted p q n
  owes_counted h =
      let are = h.are in
      let all = counted_on p h.before q h.quiet 1 (runs_counted guest p h.before h.quiet h.runs)
      (move_counted guest h.before q h.moves) in
      let e : h.quiet + 1 ≡ n = omega (arith, are) in
      let P : ℕ → Type 0 = λ n. Counted p q n in
      subst P e all

  pub comes_counted : (s : Result Stop ProcessFault) → ComesBy guest p q fuel n waiting (Some s)
      → Counted p q n
  comes_counted (Ok stop.Owes) h = owes_counted h
  comes_counted (Ok (stop.Ended how)) h = runs_counted guest p q n h.0.runs
  comes_counted (Ok stop.Spent) h = runs_counted guest p q n h.0.runs
  comes_counted (Ok (stop.Asks question)) h = runs_counted guest p q n h.0.runs
  comes_counted (Err fault.Memory) h = runs_counted guest p q n h.0.runs
  comes_counted (Err fault.StepsSpent) h = runs_counted guest p q n h.0.runs
  comes_counted (Err fault.WrongAnswer) h = absurd h

  pub comes_within : (s : Option (Result Stop ProcessFault)) → ComesBy guest p q fuel n waiting s
      → n ≤ fuel
  comes_within None h = h.3
  comes_within (Some (Ok stop.Owes)) h = let are = h.are in let within = h.within in
      omega (arith, are, within)
  comes_within (Some (Ok (stop.Ended how))) h = h.2
  comes_within (Some (Ok stop.Spent)) h = let e = h.2 in omega (arith, e)
  comes_within (Some (Ok (stop.Asks question))) h = let e = h.2 in omega (arith, e)
  comes_within (Some (Err fault.Memory)) h = let e = h.2 in omega (arith, e)
  comes_within (Some (Err fault.StepsSpent)) h = let e = h.2 in omega (arith, e)
  comes_within (Some (Err fault.WrongAnswer)) h = absurd h

-- ---- what the process then shows

-- where the process that is shown has kept its version, so has the host that shows it
pub shown_version : (old held : HeldWasiState) (p q : ProcessState) → ShowsWasiState old p.host
    → ShowsWasiState held q.host → q.host.version ≡ p.host.version
    → held.host.version ≡ old.host.version
shown_version old held p q a b same =
    let version : WasiState → Version = λ h. h.version in
    sym (ap version b.is) ∙ same ∙ ap version a.is

pub parts_of : (v : ProcessValue) (guest : Guest) (p : ProcessState) → ShowsProcess v guest p
    → ShowsParts v.machine v.host guest p
parts_of v guest p s = record {
  calls = s.calls;
  configuration = s.configuration;
  host = s.host;
  closed = s.closed;
}

module _ (old : ProcessValue) (machine : MachineValue) (held : HeldWasiState) (guest : Guest)
    (p : ProcessState) (shows : ShowsProcess old guest p) (fuel n : ℕ) (ended : Option ProcessEnd)
    (s : Result Stop ProcessFault)
    (come : ComesToShown machine held guest p fuel (record {
      steps = n;
      ended = ended;
      stop = Some s;
    })) where
  abbrev pub after : ProcessValue
  after = process_of machine held (old.steps + n) old.answers old.requests ended

  pub shows_after : ShowsProcess after guest come.process
  shows_after =
      let counted = comes_counted guest p come.process fuel n held.host.lines s come.comes in
      let k = come.shows in
      record {
        calls = k.calls;
        configuration = k.configuration;
        host = k.host;
        steps = (let a = counted.steps in let b = shows.steps in omega (arith, a, b));
        answers = shows.answers ∙ sym counted.answers;
        requests = shows.requests ∙ sym counted.requests;
        ended = sym come.ended;
        closed = k.closed;
      }

  pub same_version : held.host.version ≡ old.host.host.version
  same_version =
      let counted = comes_counted guest p come.process fuel n held.host.lines s come.comes in
      shown_version old.host held p come.process shows.host come.shows.host counted.version

  -- its numbers can still be counted
  pub is_process_after : old.steps + fuel < 2 ^ 63
      → old.answers ≤ old.steps + widenings old.host.host.version → old.requests ≤ old.answers
      → HasFewLines held → IsProcess after
  is_process_after counted few_answers few_requests few_lines =
      let within = comes_within guest p come.process fuel n held.host.lines (Some s) come.comes in
      let same = ap widenings same_version in
      record {
        guest = guest;
        process = come.process;
        shows = shows_after;
        few_steps = omega (arith, within, counted);
        few_answers = omega (arith, few_answers, same);
        few_requests = few_requests;
        few_lines = few_lines;
      }

  abbrev quiet : ComesOn guest p come.process n held.host.lines → ComesQuietly after guest p
  quiet h = record {
    steps = n;
    process = come.process;
    runs = h.runs;
    shows = shows_after;
    none_waits = h.none_waits;
  }

  module _ (none_waits : waiting_in old ≡ []) (most : ℕ) (within : fuel ≤ most) where
    pub ends_for : (is_cut : Bool)
        → (is_cut ≡ true → (fuel < most) × (suc (old.steps + fuel) ≡ 2 ^ 63))
        → (is_cut ≡ false → fuel ≡ most) → (r : Result Stop ProcessFault) → r ≡ s
        → ComesBy guest p come.process fuel n held.host.lines (Some r)
        → EndsFor old after guest p most (told r is_cut)
    ends_for is_cut cut whole (Ok stop.Owes) e h =
        inr (
          none_waits,
          record {
            steps = h.quiet;
            before = h.before;
            process = come.process;
            runs = h.runs;
            moves = h.moves;
            owing = h.owing;
            shows = shows_after;
          },
          (let w = h.within in omega (arith, w, within)),
        )
    ends_for is_cut cut whole (Ok (stop.Ended how)) e h =
        (none_waits, quiet h.0, (let w = h.2 in omega (arith, w, within)), h.1)
    ends_for true cut whole (Ok stop.Spent) e h =
        let c = cut refl in
        let less = c.0 in
        let last = c.1 in
        let spent = h.2 in
        let counts =
        (comes_counted guest p come.process fuel n held.host.lines (Ok stop.Spent) h).steps in
        let steps = shows.steps in (
          none_waits,
          quiet h.0,
          omega (arith, less, spent),
          h.1,
          inl (omega (arith, counts, steps, spent, last)),
        )
    ends_for false cut whole (Ok stop.Spent) e h = (none_waits, quiet h.0, h.2 ∙ whole refl, h.1)
    ends_for is_cut cut whole (Ok (stop.Asks question)) e h =
        (none_waits, quiet h.0, (let w = h.2 in omega (arith, w, within)), h.1, h.3)
    ends_for is_cut cut whole (Err fault.Memory) e h =
        (none_waits, quiet h.0, (let w = h.2 in omega (arith, w, within)), h.1, h.3)
    ends_for is_cut cut whole (Err fault.StepsSpent) e h =
        (none_waits, quiet h.0, (let w = h.2 in omega (arith, w, within)), h.1, h.3)
    ends_for is_cut cut whole (Err fault.WrongAnswer) e h = absurd h
