-- How a slice ends, in order or by a fault, and that it does.
use Rattle.std.proofs.Common.{◌≡◌, ℕ, suc, ◌+◌, ◌-◌, ◌*◌, ◌<◌, ◌≤◌, List, [], ◌∷◌, ◌++◌, length}
use Rattle.std.proofs.Common.{Option, Some, None, Ok, Err, refl, sym, ◌∙◌, ap, subst, inl, inr}
use Rattle.std.proofs.Common.{arith}
use Rattle.std.specs.Prelude.{Bool, true, false, Result, ◌≢◌}
use Rattle.std.proofs.lemmas.List.{append-nil}
use Rattle.wasi_abi.specs.declared.answer.Question.{Question}
use Rattle.wasi_abi.specs.declared.answer.Question.TheVariants as question
use Rattle.wasi_abi.specs.declared.answer.Answer.{Answer}
use Rattle.wasi_abi.specs.rules.Versions.{text_limit}
use Rattle.wasi_calls_rules.specs.WasiStates.{Line}
use Rattle.process_rules.specs.Processes.{ProcessState, Guest}
use Rattle.process_rules.specs.Runs.{Wants, next_of}
use Rattle.process_rules.proofs.Growing.{move_counts}
use Rattle.record_replay.specs.declared.fault.SourceFault.{SourceFault}
use Rattle.record_replay.specs.rules.Calls.{Giving, Taking, Ask, Begun, Exchange, Asks, Exchanges}
use Rattle.record_replay.specs.rules.Calls.{last_refused, ports}
use Rattle.process.specs.declared.fault.ProcessFault.{ProcessFault}
use Rattle.process.specs.declared.fault.ProcessFault.TheVariants as stop
use Rattle.process.specs.declared.stop.ProcessEnd.{ProcessEnd}
use Rattle.process.specs.declared.stop.Stop.TheVariants as stops
use Rattle.process.specs.rules.Values.{ProcessValue, ShowsProcess, IsProcess, waiting_in}
use Rattle.process.specs.rules.Stops.{ComesQuietly, TakesAnswer, AdvancesProcess, GivesAnswer}
use Rattle.record_replay.specs.declared.slices.now.Now.TheVariants as ends
use Rattle.record_replay.specs.declared.slices.fault.SliceFault.{SliceFault}
use Rattle.record_replay.specs.declared.slices.fault.SliceFault.TheVariants as fault
use Rattle.record_replay.specs.declared.slices.fault.Refusal.TheVariants as refusal
use Rattle.record_replay.specs.rules.Slices.{handed_by, SliceLeadsTo, LeadsToQuestion, AreWanted}
use Rattle.record_replay.specs.rules.Slices.{Slices}
use Rattle.record_replay.specs.rules.Faults.{IsBadAnswer, LeadsUpTo, Fails, IsCause, SlicesInVain}
use Rattle.record_replay.specs.rules.Refusals.{slice_fault}
use Rattle.record_replay.specs.Turns.{working, failing, taken_by, AnswersBy, AsksOnce}
use Rattle.record_replay.specs.rules.Waiting.{first_waiting, ReleasesAll, ReleasesSome}
use Rattle.record_replay.proofs.Emitted.{released_count}
use Rattle.record_replay.proofs.OnTheWay.{quiet_runs, owing_runs}
use Rattle.record_replay.proofs.Joining.{tells, wanted_ask, asked_leads}
use Rattle.record_replay.proofs.Going.{Goes, goes_none, leads, advance_on, owing_last}
use Rattle.record_replay.proofs.Going.{leads_to_question, asked_more, answer_on, told_wanted}
use Rattle.record_replay.proofs.Going.{told_more, release_on}

-- whether a line waits
abbrev pub waits : List Line → ℕ
waits [] = 0
waits (line ∷ lines) = 1

few_wait : (lines : List Line) → waits lines ≤ 1
few_wait [] = omega arith
few_wait (line ∷ lines) = omega arith

one_waits : (lines : List Line) → lines ≢ [] → waits lines ≡ 1
one_waits [] some = absurd (some refl)
one_waits (line ∷ lines) some = refl

-- what is left: twice the fuel, and one more while a line waits
abbrev pub measure : ℕ → ℕ → ProcessValue → ℕ
measure fuel first v = 2 * (fuel - (v.steps - first)) + waits (waiting_in v)

module _ {S O : Type 0} (gives : Giving S) (takes : Taking O) where
  -- what holds between two turns
  pub record Turning (old now : ProcessValue) (fuel first : ℕ) (source source' : S)
      (outlet outlet' : O) : Type 0 where
    pub goes : (guest : Guest) (p : ProcessState) → ShowsProcess old guest p
        → Goes gives takes old now fuel guest p source source' outlet outlet'
    pub some : IsProcess old
    pub first_is : first ≡ old.steps

  pub turning_none : (v : ProcessValue) (fuel first : ℕ) (s : S) (o : O) → waiting_in v ≡ []
      → IsProcess v → first ≡ v.steps → Turning v v fuel first s s o o
  turning_none v fuel first s o empty is_process same = record {
    goes = λ guest p shows. goes_none gives takes v fuel guest p s o empty shows;
    some = is_process;
    first_is = same;
  }

  pub turning_counts : (old now : ProcessValue) (fuel first : ℕ) (s t : S) (o q : O)
      → Turning old now fuel first s t o q → (first ≤ now.steps) × (now.steps - first ≤ fuel)
  turning_counts old now fuel first s t o q turning =
      let g = turning.goes turning.some.guest turning.some.process turning.some.shows in
      let counted = g.counted in
      let within = g.within in
      let same = turning.first_is in
      (omega arith, omega arith)

  -- the answer that is wanted is asked for
  pub record Questioning (old now : ProcessValue) (fuel first : ℕ) (source source' : S)
      (outlet outlet' : O) (question : Question) : Type 0 where
    pub turning : Turning old now fuel first source source' outlet outlet'
    pub running : (guest : Guest) (p : ProcessState) (shows : ShowsProcess old guest p)
        → (turning.goes guest p shows).process.ended ≡ None
    pub wants : (guest : Guest) (p : ProcessState) (shows : ShowsProcess old guest p)
        → next_of guest (turning.goes guest p shows).process None ≡ Wants question
    pub less : (guest : Guest) (p : ProcessState) (shows : ShowsProcess old guest p)
        → (turning.goes guest p shows).steps < fuel
    pub empty : waiting_in now ≡ []

  module _ (old now new : ProcessValue) (fuel first fuel_left : ℕ) (s t : S) (o q : O)
      (turning : Turning old now fuel first s t o q)
      (fuel_left_is : fuel_left ≡ fuel - (now.steps - first)) (same : new.host.released
      ≡ now.host.released) where
    abbrev at : (guest : Guest) (p : ProcessState) → ShowsProcess old guest p
        → Goes gives takes old now fuel guest p s t o q
    at guest p shows = turning.goes guest p shows

    room : (guest : Guest) (p : ProcessState) (shows : ShowsProcess old guest p)
        → (at guest p shows).steps + fuel_left ≡ fuel
    room guest p shows =
        let g = at guest p shows in
        let counted = g.counted in
        let within = g.within in
        let first_is = turning.first_is in
        omega arith

    -- steps after which nothing is owed
    abbrev quietly : (guest : Guest) (p : ProcessState) (shows : ShowsProcess old guest p)
        (come : ComesQuietly new guest (at guest p shows).process) → waiting_in now ≡ []
        → come.steps ≤ fuel_left
        → Goes gives takes old new fuel guest p s t o q
    quietly guest p shows come empty few =
        let whole = room guest p shows in
        advance_on gives takes old now new fuel guest p s t o q
        (at guest p shows) come.process come.steps
        (quiet_runs new guest (at guest p shows).process come) come.shows empty same (λ some.
        absurd (some come.none_waits)) (omega arith)

    -- ---- the ends

    abbrev one_guest : Guest
    one_guest = turning.some.guest

    abbrev one_process : ProcessState
    one_process = turning.some.process

    abbrev one_stop : Goes gives takes old now fuel one_guest one_process s t o q
    one_stop = at one_guest one_process turning.some.shows

    pub spent : AdvancesProcess now fuel_left (Ok stops.Spent) new
        → Slices gives takes (working old) fuel ends.Spent (working new) (ports s o) (ports t q)
    unfolding advance_on
    spent advances = record {
      had_not_failed = refl;
      has_not_failed = refl;
      none_waits = (advances one_guest one_stop.process one_stop.shows).1.none_waits;
      shown = λ guest p shows.
          let stop = advances guest (at guest p shows).process (at guest p shows).shows in
          let come = stop.1 in
          let whole = room guest p shows in
          let all = stop.2 in
          let few : come.steps ≤ fuel_left = omega arith in
          let g = quietly guest p shows come stop.0 few in (
            record {
              exchanges = g.exchanges;
              exchanged = g.exchanged;
              wanted = g.wanted;
              steps = g.steps;
              process = g.process;
              leads = leads gives takes old new new fuel guest p s t o q g come.none_waits;
              shows = g.shows;
            },
            (omega arith, stop.3, g.answered),
          );
    }

    pub over : (how : ProcessEnd) → AdvancesProcess now fuel_left (Ok (stops.Ended how)) new
        → Slices gives takes (working old) fuel (ends.Ended how) (working new) (ports s o)
        (ports t q)
    unfolding advance_on
    over how advances = record {
      had_not_failed = refl;
      has_not_failed = refl;
      none_waits = (advances one_guest one_stop.process one_stop.shows).1.none_waits;
      shown = λ guest p shows.
          let stop = advances guest (at guest p shows).process (at guest p shows).shows in
          let come = stop.1 in
          let g = quietly guest p shows come stop.0 stop.2 in (
            record {
              exchanges = g.exchanges;
              exchanged = g.exchanged;
              wanted = g.wanted;
              steps = g.steps;
              process = g.process;
              leads = leads gives takes old new new fuel guest p s t o q g come.none_waits;
              shows = g.shows;
            },
            (g.within, stop.3, g.answered),
          );
    }

    -- ---- what is owed

    pub owes : AdvancesProcess now fuel_left (Ok stops.Owes) new
        → Turning old new fuel first s t o q
    owes advances = record {
      goes = λ guest p shows.
          let g = at guest p shows in
          let whole = room guest p shows in
          elim (advances guest g.process g.shows) [
            | inl k ↦ subst (λ z. Goes gives takes old z fuel guest p s t o q) (sym k.1) g
            | inr k ↦
                let less = k.2 in
                let few : g.steps + (k.1.steps + 1) ≤ fuel = omega arith in
                advance_on gives takes old now new fuel guest p s t o q g k.1.process (k.1.steps
                + 1) (owing_runs new guest g.process k.1) k.1.shows k.0 same (λ some.
                owing_last gives takes old now new fuel guest p s t o q g k.1 k.0 same) few
          ];
      some = turning.some;
      first_is = turning.first_is;
    }

    -- less is left after what was owed is released
    pub owes_less : AdvancesProcess now fuel_left (Ok stops.Owes) new → (after : ProcessValue)
        → waiting_in after ≡ [] → after.steps ≡ new.steps
        → measure fuel first after < measure fuel first now
    unfolding advance_on
    owes_less advances after empty same_steps =
        let g = one_stop in
        let none : waits (waiting_in after) ≡ 0 = ap waits empty in
        let whole = room one_guest one_process turning.some.shows in
        let counted = g.counted in
        let first_is = turning.first_is in
        elim (advances one_guest g.process g.shows) [
          | inl k ↦
              let one : waits (waiting_in now) ≡ 1 = one_waits (waiting_in now) k.0 in
              let still : new.steps ≡ now.steps = ap (λ (z : ProcessValue). z.steps) k.1 in
              let there : after.steps ≡ now.steps = same_steps ∙ still in
              let fuels : fuel - (after.steps - first) ≡ fuel - (now.steps - first) =
              ap (λ z. fuel - (z - first)) there in
              omega arith
          | inr k ↦
              let less = k.2 in
              let few : g.steps + (k.1.steps + 1) ≤ fuel = omega arith in
              let on = advance_on gives takes old now new fuel one_guest one_process s t o q g
              k.1.process (k.1.steps + 1) (owing_runs new one_guest g.process k.1) k.1.shows k.0
              same (λ some.
              owing_last gives takes old now new fuel one_guest one_process s t o q g k.1 k.0
              same) few in
              let more : new.steps ≡ old.steps + (g.steps + (k.1.steps + 1)) = on.counted in
              omega arith
        ]

    -- ---- what is asked

    pub asks : (question : Question) → AdvancesProcess now fuel_left (Ok (stops.Asks question)) new
        → Questioning old new fuel first s t o q question
    unfolding advance_on
    asks question advances = record {
      turning = record {
        goes = λ guest p shows.
            let g = at guest p shows in
            let stop = advances guest g.process g.shows in
            let less = stop.2 in
            let few : stop.1.steps ≤ fuel_left = omega arith in
            quietly guest p shows stop.1 stop.0 few;
        some = turning.some;
        first_is = turning.first_is;
      };
      running = λ guest p shows.
          (advances guest (at guest p shows).process (at guest p shows).shows).3;
      wants = λ guest p shows.
          (advances guest (at guest p shows).process (at guest p shows).shows).4;
      less = λ guest p shows.
          let stop = advances guest (at guest p shows).process (at guest p shows).shows in
          let whole = room guest p shows in
          let less = stop.2 in
          omega arith;
      empty = (advances one_guest one_stop.process one_stop.shows).1.none_waits;
    }

    -- no step is taken back
    pub asks_counts : (question : Question) → AdvancesProcess now fuel_left
        (Ok (stops.Asks question)) new → now.steps ≤ new.steps
    unfolding advance_on
    asks_counts question advances =
        let g = one_stop in
        let stop = advances one_guest g.process g.shows in
        let less = stop.2 in
        let few : stop.1.steps ≤ fuel_left = omega arith in
        let on = quietly one_guest one_process turning.some.shows stop.1 stop.0 few in
        let more : new.steps ≡ old.steps + (g.steps + stop.1.steps) = on.counted in
        let counted = g.counted in
        omega arith

    -- ---- where no step could be taken

    pub cannot_advance : (why : ProcessFault) → AdvancesProcess now fuel_left (Err why) new
        → SlicesInVain gives takes (working old) fuel (slice_fault why) (failing new) (ports s o)
        (ports t q)
    unfolding advance_on
    cannot_advance stop.WrongAnswer advances = (
      refl,
      refl,
      λ guest p shows.
          absurd (advances guest (at guest p shows).process (at guest p shows).shows),
    )
    cannot_advance stop.Memory advances = (
      refl,
      refl,
      λ guest p shows.
          let stop = advances guest (at guest p shows).process (at guest p shows).shows in
          let come = stop.1 in
          let whole = room guest p shows in
          let less = stop.2 in
          let few : come.steps ≤ fuel_left = omega arith in
          let g = quietly guest p shows come stop.0 few in (
            record {
              exchanges = g.exchanges;
              exchanged = g.exchanged;
              wanted = g.wanted;
              steps = g.steps;
              process = g.process;
              shows = g.shows;
            },
            (
              omega arith,
              stop.3,
              stop.4,
              None,
              record {
                front = g.exchanges;
                question = question.Realtime;
                is = sym (append-nil g.exchanges);
                leads = leads gives takes old new new fuel guest p s t o q g come.none_waits;
                answered = g.answered;
              },
            ),
          ),
    )
    cannot_advance stop.StepsSpent advances = (
      refl,
      refl,
      λ guest p shows.
          let stop = advances guest (at guest p shows).process (at guest p shows).shows in
          let come = stop.1 in
          let whole = room guest p shows in
          let less = stop.2 in
          let few : come.steps ≤ fuel_left = omega arith in
          let g = quietly guest p shows come stop.0 few in (
            record {
              exchanges = g.exchanges;
              exchanged = g.exchanged;
              wanted = g.wanted;
              steps = g.steps;
              process = g.process;
              shows = g.shows;
            },
            (
              omega arith,
              stop.3,
              None,
              record {
                front = g.exchanges;
                question = question.Realtime;
                is = sym (append-nil g.exchanges);
                leads = leads gives takes old new new fuel guest p s t o q g come.none_waits;
                answered = g.answered;
              },
              stop.4,
            ),
          ),
    )

  -- ---- lines that wait

  not_empty : (told : List Line) (line : Line) (others : List Line) → told ++ (line ∷ others) ≡ []
      → ⊥
  not_empty [] line others e = absurd (cc)
  not_empty (first ∷ told) line others e = absurd (cc)

  pub released_all : (old now new : ProcessValue) (fuel first : ℕ) (s t : S) (o q r : O)
      → Turning old now fuel first s t o q → ReleasesAll takes now new q r
      → Turning old new fuel first s t o r
  released_all old now new fuel first s t o q r turning all = record {
    goes = λ guest p shows. release_on gives takes old now new fuel guest p s t o q
        (turning.goes guest p shows) r all;
    some = turning.some;
    first_is = turning.first_is;
  }

  pub released_some : (old now new : ProcessValue) (fuel first : ℕ) (s t : S) (o q r : O)
      → Turning old now fuel first s t o q → ReleasesSome takes now new q r
      → SlicesInVain gives takes (working old) fuel fault.Outlet (failing new) (ports s o)
      (ports t r)
  released_some old now new fuel first s t o q r turning some = (
    refl,
    refl,
    λ guest p shows.
        let g = turning.goes guest p shows in
        let last = g.last (λ none. not_empty some.told some.line some.others (sym some.waiting
        ∙ none)) in
        let count = released_count now.host g.process.host last.before.host.lines [] g.shows.host
        last.emitted in
        let number : first_waiting now ≡ suc (length last.before.host.lines) = omega arith in
        let begun : List Begun = last_refused (first_waiting now) some.told some.line in (
          record {
            exchanges = g.exchanges ++ tells begun;
            exchanged = told_more gives takes old now new fuel guest p s t o q g begun r
                some.refused;
            wanted = told_wanted gives takes old now new fuel guest p s t o q g begun;
            steps = g.steps;
            process = g.process;
            shows = subst (λ z. ShowsProcess z guest g.process) (sym some.same) g.shows;
          },
          (
            g.within,
            record {
              front = g.exchanges;
              told = some.told;
              line = some.line;
              others = some.others;
              last = record {
                before = last.before;
                given = last.given;
                steps = last.steps;
                counted = last.counted;
                leads = last.leads;
                moves = last.moves;
                emitted = last.emitted ∙ ap (λ z. last.before.host.lines ++ z) some.waiting;
              };
              is = ap (λ z. g.exchanges ++ tells (last_refused z some.told some.line)) number;
            },
          ),
        ),
  )

  -- ---- answers

  module _ (old mid new : ProcessValue) (fuel first : ℕ) (s t u : S) (o q : O) (question : Question)
      (questioning : Questioning old mid fuel first s t o q question) where
    abbrev so_far : (guest : Guest) (p : ProcessState) → ShowsProcess old guest p
        → Goes gives takes old mid fuel guest p s t o q
    so_far guest p shows = questioning.turning.goes guest p shows

    wanted_now : (guest : Guest) (p : ProcessState) (shows : ShowsProcess old guest p)
        → LeadsToQuestion guest p (so_far guest p shows).exchanges question
    wanted_now guest p shows =
        leads_to_question gives takes old mid mid fuel guest p s t o q (so_far guest p shows)
        question questioning.empty (questioning.running guest p shows)
        (questioning.wants guest p shows)

    leads_now : (guest : Guest) (p : ProcessState) (shows : ShowsProcess old guest p)
        → SliceLeadsTo guest p (so_far guest p shows).exchanges (so_far guest p shows).steps
        (so_far guest p shows).process
    leads_now guest p shows =
        leads gives takes old mid mid fuel guest p s t o q (so_far guest p shows) questioning.empty

    -- ---- no answer

    module _ (said : Result (Option Answer) SourceFault) (asked : gives t question said u) where
      abbrev this_ask : Ask
      this_ask = record { question = question; said = said }

      -- the calls with this question
      abbrev asked_calls : (guest : Guest) (p : ProcessState) → ShowsProcess old guest p
          → List Exchange
      asked_calls guest p shows = (so_far guest p shows).exchanges ++ (Asks this_ask ∷ [])

      asked_exchanged : (guest : Guest) (p : ProcessState) (shows : ShowsProcess old guest p)
          → Exchanges gives takes s o (asked_calls guest p shows) u q
      asked_exchanged guest p shows =
          asked_more gives takes old mid mid fuel guest p s t o q
          (so_far guest p shows) u this_ask asked

      asked_wanted : (guest : Guest) (p : ProcessState) (shows : ShowsProcess old guest p)
          → AreWanted guest p (asked_calls guest p shows)
      asked_wanted guest p shows =
          wanted_ask guest p (so_far guest p shows).exchanges this_ask (so_far guest p shows).wanted
          (wanted_now guest p shows)

      shown_still : new ≡ mid
          → (guest : Guest) (p : ProcessState) (shows : ShowsProcess old guest p)
          → ShowsProcess new guest (so_far guest p shows).process
      shown_still same guest p shows =
          subst (λ z. ShowsProcess z guest (so_far guest p shows).process) (sym same)
          (so_far guest p shows).shows

      -- the process is where it stood, and the call has failed for this
      stops_here : (why : SliceFault) → new ≡ mid
          → ((guest : Guest) (p : ProcessState) (shows : ShowsProcess old guest p)
          → IsCause guest p fuel (asked_calls guest p shows) (so_far guest p shows).steps
          (so_far guest p shows).process why)
          → (guest : Guest) (p : ProcessState) → ShowsProcess old guest p
          → (fails : Fails gives takes (working old) (failing new) guest p (ports s o)
          (ports u q))
          × IsCause guest p fuel fails.exchanges fails.steps fails.process why
      stops_here why same cause guest p shows = (
        record {
          exchanges = asked_calls guest p shows;
          exchanged = asked_exchanged guest p shows;
          wanted = asked_wanted guest p shows;
          steps = (so_far guest p shows).steps;
          process = (so_far guest p shows).process;
          shows = shown_still same guest p shows;
        },
        cause guest p shows,
      )

      -- up to an answer that the process has not taken
      up_to : (a : Answer) → said ≡ Ok (Some a)
          → (guest : Guest) (p : ProcessState) (shows : ShowsProcess old guest p)
          → LeadsUpTo guest p (asked_calls guest p shows) (so_far guest p shows).steps
          (so_far guest p shows).process (Some a)
      up_to a is guest p shows = record {
        front = (so_far guest p shows).exchanges;
        question = question;
        is = ap (λ (z : Result (Option Answer) SourceFault). (so_far guest p shows).exchanges
            ++ (Asks (record { question = question; said = z }) ∷ [])) is;
        leads = leads_now guest p shows;
        answered = (so_far guest p shows).answered;
      }

      bad_answer : (guest : Guest) (p : ProcessState) (shows : ShowsProcess old guest p)
          → IsBadAnswer (text_limit (so_far guest p shows).process.host.version) question said
          → IsCause guest p fuel (asked_calls guest p shows) (so_far guest p shows).steps
          (so_far guest p shows).process fault.Source
      bad_answer guest p shows bad = (
        questioning.less guest p shows,
        record {
          front = (so_far guest p shows).exchanges;
          ask = this_ask;
          is = refl;
          leads = leads_now guest p shows;
          bad = bad;
        },
      )

      waits_for : new ≡ mid → said ≡ Ok None
          → Slices gives takes (working old) fuel ends.Waiting (working new) (ports s o)
          (ports u q)
      waits_for same is = record {
        had_not_failed = refl;
        has_not_failed = refl;
        none_waits = ap waiting_in same ∙ questioning.empty;
        shown = λ guest p shows. (
          record {
            exchanges = asked_calls guest p shows;
            exchanged = asked_exchanged guest p shows;
            wanted = asked_wanted guest p shows;
            steps = (so_far guest p shows).steps;
            process = (so_far guest p shows).process;
            leads = asked_leads guest p (so_far guest p shows).process
                (so_far guest p shows).exchanges (so_far guest p shows).steps this_ask
                (ap handed_by is) (leads_now guest p shows);
            shows = shown_still same guest p shows;
          },
          (
            questioning.less guest p shows,
            questioning.running guest p shows,
            question,
            questioning.wants guest p shows,
            (
              (so_far guest p shows).exchanges,
              ap (λ (z : Result (Option Answer) SourceFault). (so_far guest p shows).exchanges
                  ++ (Asks (record { question = question; said = z }) ∷ [])) is,
            ),
          ),
        );
      }

    not_taken : (given : Result (Unit {0}) ProcessFault)
        → ◌≡◌ {A = Result Bool SliceFault} (Ok false) (taken_by given) → ⊥
    not_taken (Ok done) e = absurd (cc)
    not_taken (Err why) e = absurd (cc)

    waiting_by : (said : Result (Option Answer) SourceFault) → AnswersBy mid said (Ok false) new
        → (new ≡ mid) × (said ≡ Ok None)
    waiting_by (Err e) answers = absurd (let no_fault = answers.0 in cc)
    waiting_by (Ok None) answers = (answers.1, refl)
    waiting_by (Ok (Some a)) answers = absurd (not_taken answers.0 answers.2)

    -- the process is as it was
    pub stays_waiting : AsksOnce gives question mid (Ok false) new t u → new ≡ mid
    stays_waiting once = (waiting_by once.said once.answers).0

    pub waiting : AsksOnce gives question mid (Ok false) new t u
        → Slices gives takes (working old) fuel ends.Waiting (working new) (ports s o)
        (ports u q)
    waiting once = let by = waiting_by once.said once.answers in
        waits_for once.said once.asked by.0 by.1

    -- ---- an answer that is taken

    record IsGiven (said : Result (Option Answer) SourceFault) : Type 0 where
      pub answer : Answer
      pub is : said ≡ Ok (Some answer)
      pub takes_it : (guest : Guest) (p : ProcessState) → ShowsProcess mid guest p
          → TakesAnswer new guest p answer

    given_so : (a : Answer) (given : Result (Unit {0}) ProcessFault) → GivesAnswer mid a given new
        → ◌≡◌ {A = Result Bool SliceFault} (Ok true) (taken_by given) → IsGiven (Ok (Some a))
    given_so a (Ok done) h e = record {
      answer = a;
      is = refl;
      takes_it = λ guest p shows. (h guest p shows).1;
    }
    given_so a (Err why) h e = absurd (cc)

    given_by : (said : Result (Option Answer) SourceFault) → AnswersBy mid said (Ok true) new
        → IsGiven said
    given_by (Err e) answers = absurd (let no_fault = answers.0 in cc)
    given_by (Ok None) answers = absurd (let no_none = answers.0 in cc)
    given_by (Ok (Some a)) answers = given_so a answers.0 answers.1 answers.2

    pub given : AsksOnce gives question mid (Ok true) new t u → new.host.released
        ≡ mid.host.released → Turning old new fuel first s u o q
    given once same =
        let by = given_by once.said once.answers in
        let asked : gives t question (Ok (Some by.answer)) u =
        subst (λ z. gives t question z u) by.is once.asked in
        record {
          goes = λ guest p shows.
              let g = so_far guest p shows in
              let to = by.takes_it guest g.process g.shows in
              let less = questioning.less guest p shows in
              answer_on gives takes old mid new fuel guest p s t o q g u question
              by.answer to.process asked questioning.empty (wanted_now guest p shows)
              to.moves to.shows same (omega arith);
          some = questioning.turning.some;
          first_is = questioning.turning.first_is;
        }

    pub given_less : AsksOnce gives question mid (Ok true) new t u → (v : ProcessValue)
        → v.steps ≤ mid.steps → measure fuel first new < measure fuel first v
    given_less once v before =
        let by = given_by once.said once.answers in
        let shows = questioning.turning.some.shows in
        let guest = questioning.turning.some.guest in
        let p = questioning.turning.some.process in
        let g = so_far guest p shows in
        let to = by.takes_it guest g.process g.shows in
        let one = move_counts guest g.process to.process (Some by.answer) to.moves in
        let less = questioning.less guest p shows in
        let counted = g.counted in
        let shown = g.shows.steps in
        let shown_new = to.shows.steps in
        let first_is = questioning.turning.first_is in
        let few = few_wait (waiting_in new) in
        omega arith

    -- ---- no answer that can be taken

    abbrev one_shown : ShowsProcess mid questioning.turning.some.guest
        (so_far questioning.turning.some.guest questioning.turning.some.process
        questioning.turning.some.shows).process
    one_shown = (so_far questioning.turning.some.guest questioning.turning.some.process
        questioning.turning.some.shows).shows

    refused_by : (a : Answer) (why : ProcessFault) → gives t question (Ok (Some a)) u
        → GivesAnswer mid a (Err why) new
        → SlicesInVain gives takes (working old) fuel (slice_fault why) (failing new) (ports s o)
        (ports u q)
    refused_by a stop.WrongAnswer asked h = (
      refl,
      refl,
      stops_here (Ok (Some a)) asked fault.Source (h _ _ one_shown).0
          (λ guest p shows. bad_answer (Ok (Some a)) asked guest p shows
          (λ fits. (h guest (so_far guest p shows).process (so_far guest p shows).shows).1
          questioning.empty (questioning.running guest p shows) (
            question,
            questioning.wants guest p shows,
            fits,
          ))),
    )
    refused_by a stop.Memory asked h = (
      refl,
      refl,
      stops_here (Ok (Some a)) asked fault.Memory (h _ _ one_shown).0
          (λ guest p shows.
          let no_room = h guest (so_far guest p shows).process (so_far guest p shows).shows in (
            questioning.less guest p shows,
            no_room.2,
            no_room.3,
            Some a,
            up_to (Ok (Some a)) asked a refl guest p shows,
          )),
    )
    refused_by a stop.StepsSpent asked h = (
      refl,
      refl,
      stops_here (Ok (Some a)) asked (fault.Refused refusal.StepsSpent) (h _ _ one_shown).0
          (λ guest p shows.
          let beyond = h guest (so_far guest p shows).process (so_far guest p shows).shows in (
            questioning.less guest p shows,
            beyond.2,
            Some a,
            up_to (Ok (Some a)) asked a refl guest p shows,
            beyond.3,
          )),
    )

    given_vainly : (a : Answer) (why : SliceFault) (given : Result (Unit {0}) ProcessFault)
        → gives t question (Ok (Some a)) u → GivesAnswer mid a given new
        → ◌≡◌ {A = Result Bool SliceFault} (Err why) (taken_by given)
        → SlicesInVain gives takes (working old) fuel why (failing new) (ports s o) (ports u q)
    given_vainly a why (Ok done) asked h e = absurd (cc)
    given_vainly a why (Err stopped) asked h e =
        let same : slice_fault stopped ≡ why = cc in
        let P : SliceFault → Type 0 =
        λ z. SlicesInVain gives takes (working old) fuel z (failing new) (ports s o) (ports u q)
        in subst P same (refused_by a stopped asked h)

    vainly_by : (said : Result (Option Answer) SourceFault) (why : SliceFault)
        → gives t question said u → AnswersBy mid said (Err why) new
        → SlicesInVain gives takes (working old) fuel why (failing new) (ports s o) (ports u q)
    vainly_by (Err e) why asked answers =
        let is = answers.0 in
        let same : fault.Source ≡ why = cc in
        let P : SliceFault → Type 0 =
        λ z. SlicesInVain gives takes (working old) fuel z (failing new) (ports s o) (ports u q)
        in subst P same (
          refl,
          refl,
          stops_here (Err e) asked fault.Source answers.1 (λ guest p shows.
              bad_answer (Err e) asked guest p shows tt),
        )
    vainly_by (Ok None) why asked answers = absurd (let no_none = answers.0 in cc)
    vainly_by (Ok (Some a)) why asked answers =
        given_vainly a why answers.0 asked answers.1 answers.2

    pub vainly : (why : SliceFault) → AsksOnce gives question mid (Err why) new t u
        → SlicesInVain gives takes (working old) fuel why (failing new) (ports s o) (ports u q)
    vainly why once = vainly_by once.said why once.asked once.answers
