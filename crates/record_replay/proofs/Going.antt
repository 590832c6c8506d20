-- What a slice has done so far, and what one more turn adds.
use Rattle.std.proofs.Common.{◌≡◌, ℕ, suc, ◌+◌, ◌≤◌, List, [], ◌∷◌, ◌++◌, length, Some, None, Ok}
use Rattle.std.proofs.Common.{refl, sym, ◌∙◌, ap, subst, arith, append_assoc}
use Rattle.std.specs.Prelude.{◌≢◌}
use Rattle.std.proofs.lemmas.List.{append-nil}
use Rattle.wasi_abi.specs.declared.answer.Question.{Question}
use Rattle.wasi_abi.specs.declared.answer.Question.TheVariants as question
use Rattle.wasi_abi.specs.declared.answer.Answer.{Answer}
use Rattle.wasi_calls_rules.specs.WasiStates.{Line}
use Rattle.process_rules.specs.Processes.{ProcessState, Guest}
use Rattle.process_rules.specs.Runs.{Wants, next_of, Moves, Kept, Given, Runs, none, take}
use Rattle.process_rules.proofs.Quiet.{runs_join, quiet_runs_are_runs}
use Rattle.process_rules.proofs.Growing.{runs_count, runs_emit}
use Rattle.record_replay.specs.rules.Calls.{Giving, Taking, Ask, Begun, Exchange, Asks, Exchanges}
use Rattle.record_replay.specs.rules.Calls.{Releases, AnswersInOrder, asks_of, releases_of}
use Rattle.record_replay.specs.rules.Calls.{all_taken}
use Rattle.record_replay.proofs.Following.{exchanges_join, releases_of-append, lines_in_order}
use Rattle.process.specs.rules.Values.{ProcessValue, ShowsProcess, waiting_in}
use Rattle.process.specs.rules.Stops.{ComesOwing}
use Rattle.record_replay.specs.rules.Slices.{handed, SliceLeadsTo, AreAnswered, LeadsToQuestion}
use Rattle.record_replay.specs.rules.Slices.{AreWanted}
use Rattle.record_replay.specs.rules.Faults.{EmitsLast}
use Rattle.record_replay.specs.rules.Waiting.{first_waiting, ReleasesAll}
use Rattle.record_replay.proofs.Emitted.{lines_on, released_count, released_none}
use Rattle.record_replay.proofs.OnTheWay.{owing_runs}
use Rattle.record_replay.proofs.Joining.{handed_of_both, none_answered, answered_join}
use Rattle.record_replay.proofs.Joining.{answered_tells, tells, tells_ask_nothing}
use Rattle.record_replay.proofs.Joining.{releases_of_tells, none_wanted, wanted_ask, wanted_tells}

-- ---- so far

module _ {S O : Type 0} (gives : Giving S) (takes : Taking O) where
  -- From what was shown first the calls so far lead to what is shown now, in so many of the steps
  -- that may be taken. All lines that don't wait were released.
  pub record Goes (old now : ProcessValue) (fuel : ℕ) (guest : Guest) (p : ProcessState)
      (source source' : S) (outlet outlet' : O) : Type 0 where
    pub exchanges : List Exchange
    pub exchanged : Exchanges gives takes source outlet exchanges source' outlet'
    pub wanted : AreWanted guest p exchanges
    pub answered : AreAnswered exchanges
    pub steps : ℕ
    pub process : ProcessState
    pub runs : Runs guest p (handed (asks_of exchanges)) steps process
    pub lines : List Line
    pub emitted : process.host.lines ≡ p.host.lines ++ (lines ++ waiting_in now)
    pub released : releases_of exchanges ≡ all_taken (suc (length p.host.lines)) lines
    pub last : waiting_in now ≢ [] → EmitsLast guest p exchanges steps process (waiting_in now)
    pub shows : ShowsProcess now guest process
    pub counted : now.steps ≡ old.steps + steps
    pub within : steps ≤ fuel

  pub goes_none : (v : ProcessValue) (fuel : ℕ) (guest : Guest) (p : ProcessState) (s : S) (o : O)
      → waiting_in v ≡ [] → ShowsProcess v guest p → Goes v v fuel guest p s s o o
  goes_none v fuel guest p s o empty shows = record {
    exchanges = [];
    exchanged = record { asked = refl; released = refl };
    wanted = none_wanted guest p;
    answered = none_answered;
    steps = 0;
    process = p;
    runs = none;
    lines = [];
    emitted = sym (ap (λ z. p.host.lines ++ z) empty ∙ append-nil p.host.lines);
    released = refl;
    last = λ some. absurd (some empty);
    shows = shows;
    counted = omega arith;
    within = omega arith;
  }

  module _ (old now new : ProcessValue) (fuel : ℕ) (guest : Guest) (p : ProcessState) (s t : S)
      (o q : O) (g : Goes old now fuel guest p s t o q) where
    -- where no line waits, all that was emitted is released
    pub leads : waiting_in now ≡ [] → SliceLeadsTo guest p g.exchanges g.steps g.process
    leads empty = record {
      runs = g.runs;
      lines = g.lines;
      emitted = g.emitted ∙ ap (λ z. p.host.lines ++ (g.lines ++ z)) empty
          ∙ ap (λ z. p.host.lines ++ z) (append-nil g.lines);
      released = g.released;
    }

    -- so many steps more, which take these answers
    module _ (r : ProcessState) (kept : List Kept) (k : ℕ) (runs : Runs guest g.process kept k r)
        (shows : ShowsProcess new guest r) (empty : waiting_in now ≡ [])
        (same : new.host.released ≡ now.host.released) where
      pub emitted_now : r.host.lines ≡ g.process.host.lines ++ waiting_in new
      emitted_now =
          lines_on now.host new.host g.process.host r.host g.shows.host shows.host
          (runs_emit guest g.process r kept k runs) empty same

      pub more_emitted : r.host.lines ≡ p.host.lines ++ (g.lines ++ waiting_in new)
      unfolding leads
      more_emitted =
          let all = (leads empty).emitted in
          emitted_now ∙ ap (λ z. z ++ waiting_in new) all
          ∙ append_assoc p.host.lines g.lines (waiting_in new)

      pub more_counted : new.steps ≡ old.steps + (g.steps + k)
      more_counted =
          let a = runs_count guest g.process r kept k runs in
          let b = shows.steps in
          let d = g.shows.steps in
          let e = g.counted in
          omega arith

    -- steps without answers
    unfoldable pub advance_on : (r : ProcessState) (k : ℕ) → Runs guest g.process [] k r
        → ShowsProcess new guest r → waiting_in now ≡ [] → new.host.released ≡ now.host.released
        → (waiting_in new ≢ [] → EmitsLast guest p g.exchanges (g.steps + k) r (waiting_in new))
        → g.steps + k ≤ fuel → Goes old new fuel guest p s t o q
    advance_on r k runs shows empty same last few = record {
      exchanges = g.exchanges;
      exchanged = g.exchanged;
      wanted = g.wanted;
      answered = g.answered;
      steps = g.steps + k;
      process = r;
      runs = subst (λ z. Runs guest p z (g.steps + k) r) (append-nil (handed (asks_of g.exchanges)))
          (runs_join guest p g.process r (handed (asks_of g.exchanges)) [] g.steps k g.runs runs);
      lines = g.lines;
      emitted = more_emitted r [] k runs shows empty same;
      released = g.released;
      last = last;
      shows = shows;
      counted = more_counted r [] k runs shows empty same;
      within = few;
    }

    -- the step after which something is owed has emitted what waits
    pub owing_last : (come : ComesOwing new guest g.process) → waiting_in now ≡ []
        → new.host.released ≡ now.host.released
        → EmitsLast guest p g.exchanges (g.steps + (come.steps + 1)) come.process (waiting_in new)
    owing_last come empty same =
        let quiet = quiet_runs_are_runs guest g.process come.before come.steps come.runs in
        let up_to = leads empty in
        record {
          before = come.before;
          given = None;
          steps = g.steps + come.steps;
          counted = omega arith;
          leads = record {
            front = g.exchanges;
            question = question.Realtime;
            is = sym (append-nil g.exchanges);
            leads = record {
              runs =
                  subst (λ z. Runs guest p z (g.steps + come.steps) come.before)
                  (append-nil (handed (asks_of g.exchanges)))
                  (runs_join guest p g.process come.before (handed (asks_of g.exchanges)) [] g.steps
                  come.steps g.runs quiet.0);
              lines = up_to.lines;
              emitted = quiet.1 ∙ up_to.emitted;
              released = up_to.released;
            };
            answered = g.answered;
          };
          moves = come.moves;
          emitted =
              emitted_now come.process [] (come.steps + 1) (owing_runs new guest g.process come)
              come.shows empty same
              ∙ ap (λ z. z ++ waiting_in new) (sym quiet.1);
        }

    -- what was asked for is the process's question
    pub leads_to_question : (question : Question) → waiting_in now ≡ [] → g.process.ended ≡ None
        → next_of guest g.process None ≡ Wants question → LeadsToQuestion guest p
        g.exchanges question
    leads_to_question question empty running wants = record {
      steps = g.steps;
      process = g.process;
      leads = leads empty;
      running = running;
      wants = wants;
      answered = g.answered;
    }

    -- one more question
    module _ (u : S) (ask : Ask) (asked : gives t ask.question ask.said u) where
      asked_alone : Exchanges gives takes t q (Asks ask ∷ []) u q
      asked_alone = record { asked = (u, asked, refl); released = refl }

      pub asked_more : Exchanges gives takes s o (g.exchanges ++ (Asks ask ∷ [])) u q
      asked_more =
          exchanges_join gives takes s u t o q q g.exchanges (Asks ask ∷ []) g.exchanged asked_alone

      pub released_same : releases_of (g.exchanges ++ (Asks ask ∷ []))
          ≡ all_taken (suc (length p.host.lines)) g.lines
      released_same = releases_of-append g.exchanges (Asks ask ∷ [])
          ∙ append-nil (releases_of g.exchanges) ∙ g.released

    -- an answer that the process has taken
    unfoldable pub answer_on : (u : S) (question : Question) (a : Answer) (r : ProcessState)
        → gives t question (Ok (Some a)) u → waiting_in now ≡ []
        → LeadsToQuestion guest p g.exchanges question → Moves guest g.process (Some a) r
        → ShowsProcess new guest r → new.host.released ≡ now.host.released → g.steps + 1 ≤ fuel
        → Goes old new fuel guest p s u o q
    answer_on u question a r asked empty led moves shows same few =
        let ask : Ask = record { question = question; said = Ok (Some a) } in
        let one : Runs guest g.process (Given a ∷ []) 1 r = take moves none in
        let joined =
        runs_join guest p g.process r (handed (asks_of g.exchanges)) (Given a
        ∷ []) g.steps 1 g.runs one in
        record {
          exchanges = g.exchanges ++ (Asks ask ∷ []);
          exchanged = asked_more u ask asked;
          wanted = wanted_ask guest p g.exchanges ask g.wanted led;
          answered = answered_join g.exchanges (Asks ask
              ∷ []) g.answered (record { all = ((a, refl), tt) });
          steps = g.steps + 1;
          process = r;
          runs = subst (λ z. Runs guest p z (g.steps + 1) r)
              (sym (handed_of_both g.exchanges (Asks ask ∷ []))) joined;
          lines = g.lines;
          emitted = more_emitted r (Given a ∷ []) 1 one shows empty same;
          released = released_same u ask asked;
          last = λ some. record {
            before = g.process;
            given = Some a;
            steps = g.steps;
            counted = omega arith;
            leads = record {
              front = g.exchanges;
              question = question;
              is = refl;
              leads = leads empty;
              answered = g.answered;
            };
            moves = moves;
            emitted = emitted_now r (Given a ∷ []) 1 one shows empty same;
          };
          shows = shows;
          counted = more_counted r (Given a ∷ []) 1 one shows empty same;
          within = few;
        }

    -- how many lines were released until now
    pub told_count : now.host.released ≡ length p.host.lines + length g.lines
    told_count = released_count now.host g.process.host p.host.lines g.lines g.shows.host g.emitted

    -- releases of some lines
    module _ (begun : List Begun) where
      pub told_releases : releases_of (g.exchanges ++ tells begun)
          ≡ all_taken (suc (length p.host.lines)) g.lines ++ begun
      told_releases =
          releases_of-append g.exchanges (tells begun)
          ∙ ap (λ z. z ++ releases_of (tells begun)) g.released
          ∙ ap (λ z. all_taken (suc (length p.host.lines)) g.lines ++ z) (releases_of_tells begun)

      pub told_wanted : AreWanted guest p (g.exchanges ++ tells begun)
      told_wanted = wanted_tells guest p g.exchanges begun g.wanted

      pub told_answered : AreAnswered (g.exchanges ++ tells begun)
      told_answered = answered_join g.exchanges (tells begun) g.answered (answered_tells begun)

      pub told_runs : Runs guest p (handed (asks_of (g.exchanges ++ tells begun))) g.steps g.process
      told_runs =
          let nothing : handed (asks_of (tells begun)) ≡ [] = ap handed (tells_ask_nothing begun) in
          let same : handed (asks_of (g.exchanges ++ tells begun)) ≡ handed (asks_of g.exchanges) =
          handed_of_both g.exchanges (tells begun)
          ∙ ap (λ z. handed (asks_of g.exchanges) ++ z) nothing
          ∙ append-nil (handed (asks_of g.exchanges)) in
          subst (λ z. Runs guest p z g.steps g.process) (sym same) g.runs

      pub told_more : (outlet : O) → Releases takes q begun outlet
          → Exchanges gives takes s o (g.exchanges ++ tells begun) t outlet
      told_more outlet told =
          let alone : Exchanges gives takes t q (tells begun) t outlet = record {
            asked = subst (λ z. AnswersInOrder gives t z t) (sym (tells_ask_nothing begun)) refl;
            released = subst (λ z. Releases takes q z outlet) (sym (releases_of_tells begun)) told;
          } in
          exchanges_join gives takes s t t o outlet q g.exchanges (tells begun) g.exchanged alone

    -- the lines that waited were released
    pub release_on : (outlet : O) → ReleasesAll takes now new q outlet
        → Goes old new fuel guest p s t o outlet
    release_on outlet all =
        let waited : List Line = waiting_in now in
        let begun : List Begun = all_taken (first_waiting now) waited in
        let number : first_waiting now ≡ suc (length p.host.lines) + length g.lines =
        (let count = told_count in omega arith) in
        let none_left : waiting_in new ≡ [] = released_none takes now new q outlet all in
        let same_steps : new.steps ≡ now.steps = ap (λ (z : ProcessValue). z.steps) all.released.is
        in
        let count = g.counted in
        record {
          exchanges = g.exchanges ++ tells begun;
          exchanged = told_more begun outlet all.told;
          wanted = told_wanted begun;
          answered = told_answered begun;
          steps = g.steps;
          process = g.process;
          runs = told_runs begun;
          lines = g.lines ++ waited;
          emitted =
              g.emitted ∙ ap (λ z. p.host.lines ++ z) (sym (append-nil (g.lines ++ waited)))
              ∙ ap (λ z. p.host.lines ++ ((g.lines ++ waited) ++ z)) (sym none_left);
          released =
              told_releases begun
              ∙ ap (λ z. all_taken (suc (length p.host.lines)) g.lines
              ++ all_taken z waited) number
              ∙ sym (lines_in_order (suc (length p.host.lines)) g.lines waited);
          last = λ some. absurd (some none_left);
          shows = all.released.shows guest g.process g.shows;
          counted = omega arith;
          within = g.within;
        }
