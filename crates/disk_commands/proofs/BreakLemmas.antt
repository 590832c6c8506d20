-- Where slices and batches lead, and where one or the checkpoint after it has failed.
use Rattle.std.proofs.Common.{◌≡◌, inl, inr, ℕ, ◌+◌, Bool, true, false, List, [], ◌∷◌, ◌++◌, None}
use Rattle.std.proofs.Common.{Err, refl, sym, ap, subst, arith, append_assoc, append-nil}
use Rattle.std.specs.Prelude.{Result, replicate}
use Rattle.std.proofs.lemmas.List.{replicate_more}
use Rattle.wasi_abi.specs.declared.answer.Question.TheVariants as questions
use Rattle.process_rules.specs.Processes.{ProcessState, Guest}
use Rattle.process_rules.specs.Runs.{none}
use Rattle.process.specs.rules.Values.{ProcessValue, ShowsProcess}
use Rattle.record_replay.specs.rules.Calls.{Giving, Taking, Asked, Released, AnswersInOrder}
use Rattle.record_replay.specs.rules.Calls.{Releases, asks_of, releases_of, ports}
use Rattle.record_replay.proofs.Following.{exchanges_join, leads_join as calls_join}
use Rattle.record_replay.proofs.Following.{asks_of-append, releases_of-append}
use Rattle.record_replay.specs.declared.slices.fault.SliceFault.TheVariants as slice
use Rattle.record_replay.specs.declared.slices.now.Now.{Now}
use Rattle.record_replay.specs.declared.slices.now.Now.TheVariants as now
use Rattle.record_replay.specs.rules.Slices.{SliceLeadsTo, AreWanted, Slices}
use Rattle.record_replay.specs.rules.Faults.{LeadsUpTo}
use Rattle.record_replay.proofs.Joining.{answered_join, leads_join, none_answered, none_wanted}
use Rattle.record_replay.proofs.Joining.{wanted_join}
use Rattle.worker.specs.declared.fault.WorkFault.{WorkFault}
use Rattle.worker.specs.declared.fault.WorkFault.TheVariants as work
use Rattle.worker.specs.rules.DurableValues.{DurableValue, without_disk}
use Rattle.worker.specs.rules.Batches.{BatchFails, HasUntakenAnswer, ToldUpTo}
use Rattle.worker.specs.rules.DurableFailures.{SlicesOnDiskInVain, IsDiskCause}
use Rattle.worker.specs.rules.LifeWords.{Act, Slice, Batch, Checkpoint, fuel_of}
use Rattle.disk_commands.specs.rules.BrokenLives.{steps_among, in_act, in_checkpoint, SlicesLead}
use Rattle.disk_commands.specs.rules.BrokenLives.{BreaksOff, BreaksInSlice, process_scene}
use Rattle.disk_commands.specs.rules.Paces.{round_of}
use Rattle.disk_commands.proofs.ToldLemmas.{told_as_taken}

-- ---- the steps of acts

pub steps_both : (xs ys : List Act) → steps_among (xs ++ ys) ≡ steps_among xs + steps_among ys
steps_both [] ys = omega arith
steps_both (act ∷ acts) ys =
    let e : steps_among (acts ++ ys) ≡ steps_among acts + steps_among ys = steps_both acts ys in
    let all : fuel_of act + steps_among (acts ++ ys)
    ≡ (fuel_of act + steps_among acts) + steps_among ys = omega (arith, e) in all

-- one act more
pub act_more : (act : Act) (n : ℕ) → steps_among (replicate (n + 1) act)
    ≡ steps_among (replicate n act) + fuel_of act
act_more act n =
    let both : steps_among (replicate n act ++ (act ∷ []))
    ≡ steps_among (replicate n act) + (fuel_of act + 0) =
    steps_both (replicate n act) (act ∷ []) in
    let same : steps_among (replicate (n + 1) act) ≡ steps_among (replicate n act ++ (act ∷ [])) =
    ap (λ z. steps_among z) (sym (replicate_more n act)) in
    omega (arith, both, same)

-- a checkpoint after them takes none
pub round_steps : (act : Act) (n : ℕ)
    → steps_among (round_of act n) ≡ steps_among (replicate n act)
round_steps act n =
    let both : steps_among (round_of act n) ≡ steps_among (replicate n act) + (0 + 0) =
    steps_both (replicate n act) (Checkpoint ∷ []) in
    omega (arith, both)

-- ---- nothing yet

leads_nowhere : (guest : Guest) (p : ProcessState) → SliceLeadsTo guest p [] 0 p
leads_nowhere guest p = record {
  runs = none;
  lines = [];
  emitted = sym (append-nil p.host.lines);
  released = refl;
}

up_to_nowhere : (guest : Guest) (p : ProcessState) → LeadsUpTo guest p [] 0 p None
up_to_nowhere guest p = record {
  front = [];
  question = questions.Request;
  is = refl;
  leads = leads_nowhere guest p;
  answered = none_answered;
}

fails_nowhere : (fuel : ℕ) (guest : Guest) (p : ProcessState)
    → IsDiskCause guest p fuel [] 0 p (work.Work slice.Failed)
fails_nowhere fuel guest p = (omega arith, inl (inr (up_to_nowhere guest p)))

module _ {S O : Type 0} (gives : Giving S) (takes : Taking O) where
  pub lead_nowhere : (v : ProcessValue) (s : S) (o : O) (guest : Guest) (p : ProcessState)
      → ShowsProcess v guest p
      → SlicesLead gives takes (process_scene guest p s o) (ports s o) 0 v
  lead_nowhere v s o guest p is = record {
    exchanges = [];
    exchanged = record { asked = refl; released = refl };
    wanted = none_wanted guest p;
    answered = none_answered;
    process = p;
    leads = leads_nowhere guest p;
    shows = is;
  }

  -- calls have failed so, whichever process the worker showed
  abbrev pub BreaksBy : ProcessValue → Act → ℕ → WorkFault → S → S → O → O → Type 0
  BreaksBy old act all why s t o p = (guest : Guest) (start : ProcessState)
      → ShowsProcess old guest start
      → BreaksOff gives takes (process_scene guest start s o) (ports t p) act all why

  -- ---- a slice

  module _ (fuel : ℕ) (s t : S) (o p : O) where
    -- one whose fuel is spent
    pub lead_by_slice : (w w' : DurableValue)
        → Slices gives takes (without_disk w) fuel now.Spent (without_disk w') (ports s o)
        (ports t p)
        → (guest : Guest) (start : ProcessState) → ShowsProcess w.process guest start
        → SlicesLead gives takes (process_scene guest start s o) (ports t p) fuel w'.process
    lead_by_slice w w' slices guest start is =
        let works = slices.shown guest start is in
        record {
          exchanges = works.0.exchanges;
          exchanged = works.0.exchanged;
          wanted = works.0.wanted;
          answered = works.1.2;
          process = works.0.process;
          leads = subst (λ n. SliceLeadsTo guest start works.0.exchanges n works.0.process)
              works.1.0 works.0.leads;
          shows = works.0.shows;
        }

    -- where it is the slice that has failed
    abbrev pub BreaksInBy : ProcessValue → WorkFault → Type 0
    BreaksInBy old why = (guest : Guest) (start : ProcessState) → ShowsProcess old guest start
        → BreaksInSlice gives takes (process_scene guest start s o) (ports t p) fuel fuel why

    -- one that fails
    breaks_in_slice : (old new : ProcessValue) (why : WorkFault)
        → SlicesOnDiskInVain gives takes old fuel why new (ports s o) (ports t p) → BreaksInBy
        old why
    breaks_in_slice old new why vain guest start is =
        let fails = vain guest start is in
        record {
          broken = record {
            front = [];
            answered = none_answered;
            steps = 0;
            begun = start;
            leads = leads_nowhere guest start;
            between = o;
            told = refl;
            back = fails.0.exchanges;
            asked = fails.0.exchanged.asked;
            wanted = fails.0.wanted;
            more = fails.0.steps;
            process = fails.0.process;
            broken = in_act fails.1 fails.0.exchanged.released;
            counted = omega arith;
          };
          cause = fails.1;
        }

    -- a batch that fails
    breaks_in_batch : (most : ℕ) (old new : ProcessValue) (why : WorkFault)
        → BatchFails gives takes old fuel why new (ports s o) (ports t p)
        → BreaksBy old (Batch fuel most) fuel why s t o p
    breaks_in_batch most old new why vain guest start is =
        let batch = vain guest start is in
        let fails = batch.1 in
        let released = told_as_taken guest start fails.exchanges fails.steps fails.process fuel why
        batch.3 batch.0 fails.exchanged.released in
        record {
          front = [];
          answered = none_answered;
          steps = 0;
          begun = start;
          leads = leads_nowhere guest start;
          between = o;
          told = refl;
          back = fails.exchanges;
          asked = fails.exchanged.asked;
          wanted = fails.wanted;
          more = fails.steps;
          process = fails.process;
          broken = in_act batch.3 (subst (λ z. ToldUpTo takes
              (HasUntakenAnswer guest start fails.exchanges fails.steps fails.process) why z o p)
              released batch.2);
          counted = omega arith;
        }

  -- a checkpoint that fails after an act that doesn't
  module _ (act : Act) (s t : S) (o p : O) where
    pub breaks_in_checkpoint : (w w' : DurableValue) (said : Now) (why : WorkFault)
        → Slices gives takes (without_disk w) (fuel_of act) said (without_disk w') (ports s o)
        (ports t p)
        → BreaksBy w.process act (fuel_of act) why s t o p
    breaks_in_checkpoint w w' said why slices guest start is =
        let works = slices.shown guest start is in
        record {
          front = [];
          answered = none_answered;
          steps = 0;
          begun = start;
          leads = leads_nowhere guest start;
          between = o;
          told = refl;
          back = works.0.exchanges;
          asked = works.0.exchanged.asked;
          wanted = works.0.wanted;
          more = works.0.steps;
          process = works.0.process;
          broken = in_checkpoint said works.0.leads works.1 works.0.exchanged.released;
          counted = omega arith;
        }

  -- a worker that had failed does nothing
  breaks_failed : (fuel : ℕ) (s : S) (o : O) (old : ProcessValue)
      → BreaksInBy fuel s s o o old (work.Work slice.Failed)
  breaks_failed fuel s o old guest start is = record {
    broken = record {
      front = [];
      answered = none_answered;
      steps = 0;
      begun = start;
      leads = leads_nowhere guest start;
      between = o;
      told = refl;
      back = [];
      asked = refl;
      wanted = none_wanted guest start;
      more = 0;
      process = start;
      broken = in_act (fails_nowhere fuel guest start) refl;
      counted = omega arith;
    };
    cause = fails_nowhere fuel guest start;
  }

  batch_failed_before : (fuel most : ℕ) (s : S) (o : O) (old : ProcessValue)
      → BreaksBy old (Batch fuel most) fuel (work.Work slice.Failed) s s o o
  batch_failed_before fuel most s o old guest start is = record {
    front = [];
    answered = none_answered;
    steps = 0;
    begun = start;
    leads = leads_nowhere guest start;
    between = o;
    told = refl;
    back = [];
    asked = refl;
    wanted = none_wanted guest start;
    more = 0;
    process = start;
    broken = in_act (fails_nowhere fuel guest start) ([], [], refl, refl);
    counted = omega arith;
  }

  pub same_fault : (a b : WorkFault) → ◌≡◌ {A = Result Now WorkFault} (Err a) (Err b) → a ≡ b
  same_fault a b e = cc

  module _ (fuel : ℕ) (s t : S) (o p : O) (old new : ProcessValue) (why : WorkFault) where
    -- a slice that fails, of a worker that had failed or not
    pub slice_breaks_in : (has_failed : Bool)
        → (has_failed ≡ false → SlicesOnDiskInVain gives takes old fuel why new (ports s o)
        (ports t p))
        → (has_failed ≡ true
        → ◌≡◌ {A = Result Now WorkFault} (Err why) (Err (work.Work slice.Failed)))
        → (has_failed ≡ true → t ≡ s) → (has_failed ≡ true → p ≡ o)
        → BreaksInBy fuel s t o p old why
    slice_breaks_in false vain failed steady silent =
        breaks_in_slice fuel s t o p old new why (vain refl)
    slice_breaks_in true vain failed steady silent =
        subst (λ z. BreaksInBy fuel s t o p old z)
        (sym (same_fault why (work.Work slice.Failed) (failed refl)))
        (subst (λ z. BreaksInBy fuel s z o p old (work.Work slice.Failed)) (sym (steady refl))
        (subst (λ z. BreaksInBy fuel s s o z old (work.Work slice.Failed)) (sym (silent refl))
        (breaks_failed fuel s o old)))

    pub slice_breaks_off : (has_failed : Bool)
        → (has_failed ≡ false → SlicesOnDiskInVain gives takes old fuel why new (ports s o)
        (ports t p))
        → (has_failed ≡ true
        → ◌≡◌ {A = Result Now WorkFault} (Err why) (Err (work.Work slice.Failed)))
        → (has_failed ≡ true → t ≡ s) → (has_failed ≡ true → p ≡ o)
        → BreaksBy old (Slice fuel) fuel why s t o p
    slice_breaks_off has_failed vain failed steady silent guest start is =
        let breaks = slice_breaks_in has_failed vain failed steady silent guest start is in
        breaks.broken

    -- so it is of a batch
    module _ (most : ℕ) where
      abbrev Breaks : S → O → WorkFault → Type 0
      Breaks t p why = BreaksBy old (Batch fuel most) fuel why s t o p

      pub batch_breaks_off : (has_failed : Bool)
          → (has_failed ≡ false → BatchFails gives takes old fuel why new (ports s o)
          (ports t p))
          → (has_failed ≡ true
          → ◌≡◌ {A = Result Now WorkFault} (Err why) (Err (work.Work slice.Failed)))
          → (has_failed ≡ true → t ≡ s) → (has_failed ≡ true → p ≡ o) → Breaks t p why
      batch_breaks_off false vain failed steady silent =
          breaks_in_batch fuel s t o p most old new why (vain refl)
      batch_breaks_off true vain failed steady silent =
          subst (Breaks t p) (sym (same_fault why (work.Work slice.Failed) (failed refl)))
          (subst (λ z. Breaks z p (work.Work slice.Failed)) (sym (steady refl))
          (subst (λ z. Breaks s z (work.Work slice.Failed)) (sym (silent refl))
          (batch_failed_before fuel most s o old)))

  -- ---- slices, and what comes behind them

  module _ (guest : Guest) (start : ProcessState) (s u t : S) (o q p : O) (n : ℕ)
      (mid : ProcessValue)
      (first : SlicesLead gives takes (process_scene guest start s o) (ports u q) n mid) where
    pub lead_join : (m : ℕ) (new : ProcessValue)
        → SlicesLead gives takes (process_scene guest first.process u q) (ports t p) m new
        → SlicesLead gives takes (process_scene guest start s o) (ports t p) (n + m) new
    lead_join m new second = record {
      exchanges = first.exchanges ++ second.exchanges;
      exchanged = exchanges_join gives takes s t u o p q first.exchanges second.exchanges
          first.exchanged second.exchanged;
      wanted = wanted_join guest start first.process first.exchanges second.exchanges n
          first.wanted first.leads first.answered second.wanted;
      answered = answered_join first.exchanges second.exchanges first.answered second.answered;
      process = second.process;
      leads = leads_join guest start first.process second.process first.exchanges
          second.exchanges n m first.leads second.leads;
      shows = second.shows;
    }

    pub breaks_join : (act : Act) (all : ℕ) (why : WorkFault)
        → BreaksOff gives takes (process_scene guest first.process u q) (ports t p) act all why
        → BreaksOff gives takes (process_scene guest start s o) (ports t p) act (n + all) why
    breaks_join act all why second =
        let counted = second.counted in
        let same = sym (append_assoc first.exchanges second.front second.back) in
        record {
          front = first.exchanges ++ second.front;
          answered = answered_join first.exchanges second.front first.answered second.answered;
          steps = n + second.steps;
          begun = second.begun;
          leads = leads_join guest start first.process second.begun first.exchanges second.front n
              second.steps first.leads second.leads;
          between = second.between;
          told = subst (λ z. Releases takes o z second.between)
              (sym (releases_of-append first.exchanges second.front))
              (calls_join (Released takes) o second.between q (releases_of first.exchanges)
              (releases_of second.front) first.exchanged.released second.told);
          back = second.back;
          asked = subst (λ z. AnswersInOrder gives s (asks_of z) t) same
              (subst (λ z. AnswersInOrder gives s z t)
              (sym (asks_of-append first.exchanges (second.front ++ second.back)))
              (calls_join (Asked gives) s t u (asks_of first.exchanges)
              (asks_of (second.front ++ second.back)) first.exchanged.asked second.asked));
          wanted = subst (λ z. AreWanted guest start z) same
              (wanted_join guest start first.process first.exchanges
              (second.front ++ second.back) n first.wanted first.leads first.answered
              second.wanted);
          more = second.more;
          process = second.process;
          broken = second.broken;
          counted = omega (arith, counted);
        }

    -- so it is where the slice itself has failed
    pub breaks_in_join : (fuel all : ℕ) (why : WorkFault)
        → BreaksInSlice gives takes (process_scene guest first.process u q) (ports t p) fuel all why
        → BreaksInSlice gives takes (process_scene guest start s o) (ports t p) fuel (n + all) why
    unfolding breaks_join
    breaks_in_join fuel all why second = record {
      broken = breaks_join (Slice fuel) all why second.broken;
      cause = second.cause;
    }
