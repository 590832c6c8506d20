-- Slices, batches and checkpoints of an open worker, one after another.
use Rattle.std.proofs.Common.{◌≡◌, inl, ℕ, ◌+◌, ◌-◌, ◌^◌, ◌<◌, ◌≤◌, List, [], ◌∷◌, ◌++◌, Ok, Err}
use Rattle.std.proofs.Common.{refl, sym, ap, ◌∙◌, subst, arith, append_assoc, append-nil, false}
use Rattle.std.specs.Prelude.{Result, IfOk, IfErr, replicate}
use Rattle.std.proofs.lemmas.List.{replicate_more}
use Rattle.std.proofs.lemmas.Result.{IfErr-weaker}
use mathlib.Core.Path.{subst_refl, path_j}
use Rattle.sector_disk.specs.rules.Medium.{Medium}
use Rattle.disk_layout.specs.rules.Places.{total_sectors}
use Rattle.record_replay.specs.rules.Calls.{Giving, Taking, asks_of, ports}
use Rattle.process_rules.proofs.Growing.{runs_count}
use Rattle.process.specs.rules.Values.{IsProcess}
use Rattle.record_replay.specs.declared.slices.now.Now.{Now}
use Rattle.record_replay.specs.declared.slices.now.Now.TheVariants as now
use Rattle.record_replay.specs.rules.Workers.{WorkerValue}
use Rattle.record_replay.specs.rules.Slices.{handed, Slices}
use Rattle.worker.specs.declared.fault.WorkFault.{WorkFault}
use Rattle.worker.specs.declared.recover_fault.RecoverFault.{RecoverFault}
use Rattle.worker.specs.declared.recover_fault.RecoverFault.TheVariants as recover
use Rattle.worker.specs.rules.DurableValues.{DurableValue, without_disk}
use Rattle.worker.specs.rules.DurableCalls.{ActCarries, Answered, CallKeeps}
use Rattle.worker.specs.rules.LifeWords.{Act, Checkpoint, fuel_of}
use Rattle.worker.specs.rules.Outlets.{TakesEach, HeedsOutlet, SaysOutletFault}
use Rattle.worker.proofs.OutletLemmas.{none_told, takes_both, heeds_on}
use Rattle.worker.specs.rules.OneLife.{CallsInOrder, FailsBy, no_more, called, call_failed}
use Rattle.worker.specs.rules.Outcomes.{outcome_after, outcome_of_act}
use Rattle.disk_commands.specs.rules.BrokenLives.{BreaksOff, BreaksOffFrom, SlicesLead, steps_among}
use Rattle.disk_commands.specs.rules.BrokenLives.{process_scene}
use Rattle.disk_commands.specs.rules.Hearings.{AsksUnless, MayRefuse}
use Rattle.disk_commands.specs.rules.Paces.{round_of, IsPaced, last, more}
use Rattle.worker.specs.rules.Scenes.{Scene, scene, ports_of, Surroundings, surroundings}
use Rattle.worker.specs.rules.Scenes.{surroundings_of}
use Rattle.disk_commands.specs.Livings.{undone_after, steps_left, ActsLead, HasDoneOnce}
use Rattle.disk_commands.specs.Livings.{HasFailedOnce, IsRested, IsRound, IsBrokenRound}
use Rattle.disk_commands.specs.Livings.{LivesAtPace, SlicesLeadOn}
use Rattle.disk_commands.proofs.BreakLemmas.{steps_both, act_more, round_steps, lead_nowhere}
use Rattle.disk_commands.proofs.BreakLemmas.{lead_by_slice, lead_join, breaks_in_checkpoint}
use Rattle.disk_commands.proofs.BreakLemmas.{breaks_join}
use Rattle.disk_commands.proofs.HearingLemmas.{nothing_asked, asked_on, asked_so_far}
use Rattle.disk_commands.proofs.TakingLemmas.{IsOutletsCall, saving_is_other}

-- a slice whose fuel is spent leaves fewer steps that can be counted
fewer_left : {S O : Type 0} (gives : Giving S) (takes : Taking O) (old new : WorkerValue)
    (fuel : ℕ) (s t : S) (o p : O)
    → IsProcess old.process → 0 < fuel → Slices gives takes old fuel now.Spent new (ports s o)
    (ports t p)
    → 2 ^ 63 - new.process.steps < 2 ^ 63 - old.process.steps
fewer_left gives takes old new fuel s t o p is some slices =
    let works = slices.shown is.guest is.process is.shows in
    let spent : works.0.steps ≡ fuel = works.1.0 in
    let before : old.process.steps ≡ is.process.steps = is.shows.steps in
    let after : new.process.steps ≡ works.0.process.steps = works.0.shows.steps in
    let count : works.0.process.steps ≡ is.process.steps + works.0.steps =
    runs_count is.guest is.process works.0.process (handed (asks_of works.0.exchanges))
    works.0.steps works.0.leads.runs in
    let few : old.process.steps < 2 ^ 63 = is.few_steps in
    fewer (2 ^ 63) old.process.steps new.process.steps few (omega arith)
  where
    fewer : (n a b : ℕ) → a < n → a < b → n - b < n - a
    fewer n a b h k = omega arith

-- one more of the same, in front of the rest
pub turned : {X : Type 0} (n : ℕ) (x : X) (rest : List X)
    → replicate n x ++ (x ∷ rest) ≡ replicate (n + 1) x ++ rest
turned n x rest = sym (append_assoc (replicate n x) (x ∷ []) rest)
    ∙ ap (λ z. z ++ rest) (replicate_more n x)

-- what is made of a value stays, where the value is one of equal types
pub carried_over : {A B : Type 0} (P : A → Type 0) (made : (a : A) → P a → B) (a b : A)
    (same : a ≡ b) (value : P a) → made b (subst P same value) ≡ made a value
carried_over P made a b same value =
    path_j (λ c e. made c (subst P e value) ≡ made a value)
    (ap (λ v. made a v) (subst_refl P value)) same

module _ {D S O : Type 0} (medium : D → Medium) (gives : Giving S) (takes : Taking O) where
  -- ---- calls one after another

  pub no_acts_lead : (here : Scene D S O) → ActsLead medium gives takes [] here now.Spent here
  no_acts_lead here = record {
    behind = λ rest undone last done. done;
    says = λ rest undone last done. refl;
  }

  module _ (from : Scene D S O) (undone : Result (List Act) RecoverFault)
      (end : Surroundings D S O) (acts acts' : List Act) (same : acts ≡ acts') where
    -- the calls of equal acts
    pub called_as : CallsInOrder medium gives takes acts from undone end
        → CallsInOrder medium gives takes acts' from undone end
    called_as done = subst (λ z. CallsInOrder medium gives takes z from undone end) same done

    -- they say the same
    pub says_as : (before : Now) (done : CallsInOrder medium gives takes acts from undone end)
        → outcome_after before (called_as done) ≡ outcome_after before done
    unfolding called_as
    says_as before done =
        carried_over (λ z. CallsInOrder medium gives takes z from undone end)
        (λ z calls. outcome_after before calls) acts acts' same done

  module _ (acts : List Act) (from : Scene D S O) (said : Now) (to : Scene D S O)
      (leads : ActsLead medium gives takes acts from said to) where
    -- where nothing follows
    pub leads_out : CallsInOrder medium gives takes acts from (Ok []) (surroundings_of to)
    leads_out = called_as from (Ok []) (surroundings_of to) (acts ++ []) acts (append-nil acts)
        (leads.behind [] (Ok []) (surroundings_of to) no_more)

    pub says_out : outcome_after now.Spent leads_out ≡ said
    unfolding leads_out
    says_out =
        says_as from (Ok []) (surroundings_of to) (acts ++ []) acts (append-nil acts) now.Spent
        (leads.behind [] (Ok []) (surroundings_of to) no_more)
        ∙ leads.says [] (Ok []) (surroundings_of to) no_more

  -- a call, and one that fails, whatever was to be done after it
  module _ (act : Act) (w w' : DurableValue) (disk disk' : D) (source source' : S)
      (outlet outlet' : O) where
    pub call_leads : (said : Answered act)
        → CallKeeps medium gives takes act (scene w disk source outlet) (Ok said)
        (scene w' disk' source' outlet')
        → ActsLead medium gives takes (act ∷ []) (scene w disk source outlet)
        (outcome_of_act act now.Spent said) (scene w' disk' source' outlet')
    call_leads said keeps = record {
      behind = λ rest undone end done.
          called {after = scene w' disk' source' outlet'} said keeps done;
      says = λ rest undone end done. refl;
    }

    pub call_fails : (why : WorkFault)
        → CallKeeps medium gives takes act (scene w disk source outlet) (Err why)
        (scene w' disk' source' outlet')
        → FailsBy act w why w' (medium disk) (medium disk')
        → (rest : List Act) → CallsInOrder medium gives takes (act ∷ rest)
        (scene w disk source outlet) (Err (recover.Worker why)) (surroundings disk' source' outlet')
    call_fails why keeps fails rest =
        call_failed {after = scene w' disk' source' outlet'} keeps fails

  module _ (act : Act) (n : ℕ) (from here : Scene D S O)
      (leads : ActsLead medium gives takes (replicate n act) from now.Spent here) where
    -- one more
    pub acts_lead : (said : Now) (to : Scene D S O)
        → ActsLead medium gives takes (act ∷ []) here said to
        → ActsLead medium gives takes (replicate (n + 1) act) from said to
    acts_lead said to one = record {
      behind = λ rest undone end done.
          called_as from undone end (replicate n act ++ (act ∷ rest))
          (replicate (n + 1) act ++ rest) (turned n act rest)
          (leads.behind (act ∷ rest) undone end (one.behind rest undone end done));
      says = λ rest undone end done.
          says_as from undone end (replicate n act ++ (act ∷ rest))
          (replicate (n + 1) act ++ rest) (turned n act rest) now.Spent
          (leads.behind (act ∷ rest) undone end (one.behind rest undone end done))
          ∙ leads.says (act ∷ rest) undone end (one.behind rest undone end done)
          ∙ one.says rest undone end done;
    }

    -- one that fails, in a round
    act_breaks : (why : WorkFault) (end : Surroundings D S O)
        → ((rest : List Act) → CallsInOrder medium gives takes (act ∷ rest) here
        (Err (recover.Worker why)) end)
        → CallsInOrder medium gives takes (round_of act (n + 1)) from (Err (recover.Worker why)) end
    act_breaks why end fails =
        subst (λ z. CallsInOrder medium gives takes z from (Err (recover.Worker why)) end)
        (turned n act (Checkpoint ∷ []))
        (leads.behind (act ∷ Checkpoint ∷ []) (Err (recover.Worker why)) end
        (fails (Checkpoint ∷ [])))

  module _ (act : Act) (every n : ℕ) (from : Scene D S O) (w w' : DurableValue) (disk disk' : D)
      (source : S) (outlet : O) (said : Now)
      (leads : ActsLead medium gives takes (replicate n act) from said
      (scene w disk source outlet)) where
    -- a checkpoint after so many of them
    rest_keeps : (result : Result (Unit {0}) WorkFault)
        → ActCarries Checkpoint [] w result w' (medium disk) (medium disk')
        → CallKeeps medium gives takes Checkpoint (scene w disk source outlet) result
        (scene w' disk' source outlet)
    rest_keeps result carries = ([], record { asked = refl; released = refl }, carries, refl)

    round_leads : ActCarries Checkpoint [] w (Ok tt) w' (medium disk) (medium disk')
        → ActsLead medium gives takes (round_of act n) from said (scene w' disk' source outlet)
    round_leads carries = record {
      behind = λ rest undone end done.
          called_as from undone end (replicate n act ++ (Checkpoint ∷ rest))
          (round_of act n ++ rest)
          (sym (append_assoc (replicate n act) (Checkpoint ∷ []) rest))
          (leads.behind (Checkpoint ∷ rest) undone end
          (called {after = scene w' disk' source outlet} tt (rest_keeps (Ok tt) carries) done));
      says = λ rest undone end done.
          says_as from undone end (replicate n act ++ (Checkpoint ∷ rest))
          (round_of act n ++ rest)
          (sym (append_assoc (replicate n act) (Checkpoint ∷ []) rest)) now.Spent
          (leads.behind (Checkpoint ∷ rest) undone end
          (called {after = scene w' disk' source outlet} tt (rest_keeps (Ok tt) carries) done))
          ∙ leads.says (Checkpoint ∷ rest) undone end
          (called {after = scene w' disk' source outlet} tt (rest_keeps (Ok tt) carries) done);
    }

    rested : (some : 1 ≤ n) (within : n ≤ every) (heard : AsksUnless gives ⊥ from.source source)
        (taken : TakesEach takes from.outlet outlet)
        (lead : said ≡ now.Spent → SlicesLeadOn gives takes from
        (steps_among (replicate n act)) (scene w disk source outlet))
        (result : Result Now WorkFault) → (said ≡ now.Spent → n ≡ every)
        → IsRested said result w w' (medium disk) (medium disk')
        → IfOk result (λ why. IsRound medium gives takes act every from why
        (scene w' disk' source outlet))
    rested some within heard taken lead (Ok told) whole rests = record {
      count = n;
      some = some;
      within = within;
      whole = λ spent. whole (sym rests.0 ∙ spent);
      heard = heard;
      taken = taken;
      leads = subst (λ z. ActsLead medium gives takes (round_of act n) from z
          (scene w' disk' source outlet)) (sym rests.0) (round_leads rests.1);
      spent = λ spent guest p is.
          subst (λ v. SlicesLead gives takes (process_scene guest p from.source from.outlet)
          (ports source outlet) (steps_among (round_of act n)) v) (sym rests.2)
          (subst (λ k. SlicesLead gives takes (process_scene guest p from.source from.outlet)
          (ports source outlet) k w.process) (sym (round_steps act n))
          (lead (sym rests.0 ∙ spent) guest p is));
    }
    rested some within heard taken lead (Err fault) whole rests = tt

    broken : (some : 1 ≤ n) (within : n ≤ every) (heard : AsksUnless gives ⊥ from.source source)
        (taken : TakesEach takes from.outlet outlet)
        (breaks : (why : WorkFault) → BreaksOffFrom gives takes act
        (steps_among (round_of act n)) from why source outlet)
        (result : Result Now WorkFault)
        → IsRested said result w w' (medium disk) (medium disk')
        → IfErr result (λ why. IsBrokenRound medium gives takes act every from why
        (surroundings disk' source outlet))
    broken some within heard taken breaks (Ok told) rests = tt
    broken some within heard taken breaks (Err fault) rests =
        let fails = rests.1 in
        record {
          count = n;
          some = some;
          within = within;
          heard = asked_so_far gives (MayRefuse act (Err (recover.Worker fault))) from.source source
              heard;
          heeded = inl (taken, saving_is_other w (medium disk) (medium disk') fault fails.cause);
          done = leads.behind (Checkpoint ∷ []) (Err (recover.Worker fault))
              (surroundings disk' source outlet)
              (call_failed {after = scene w' disk' source outlet} (rest_keeps (Err fault) rests.0)
              fails);
          broken = breaks fault;
        }

  -- So many of these acts were done in a round from there on, each of which has spent its fuel. No
  -- question was refused, and no line.
  pub record IsWithin (act : Act) (every n : ℕ) (from here : Scene D S O) : Type 0 where
    pub fewer : n < every
    pub heard : AsksUnless gives ⊥ from.source here.source
    pub taken : TakesEach takes from.outlet here.outlet
    pub leads : ActsLead medium gives takes (replicate n act) from now.Spent here
    pub lead : SlicesLeadOn gives takes from (steps_among (replicate n act)) here
    pub steps : steps_left here.worker ≤ steps_left from.worker
    pub room : total_sectors here.worker.store.geometry ≤ (medium here.disk).sectors

  pub none_taken : (act : Act) (every : ℕ) (here : Scene D S O) → 0 < every
      → total_sectors here.worker.store.geometry ≤ (medium here.disk).sectors
      → IsWithin act every 0 here here
  none_taken act every here some room = record {
    fewer = some;
    heard = nothing_asked gives here.source;
    taken = none_told takes here.outlet;
    leads = no_acts_lead here;
    lead = λ guest p is. lead_nowhere gives takes here.worker.process here.source here.outlet guest
        p is;
    steps = omega arith;
    room = room;
  }

  -- a slice whose fuel is spent leaves fewer steps
  pub slice_fewer : (w w' : DurableValue) (fuel : ℕ) (said : Now) (s t : S) (o p : O)
      → (w.has_failed ≡ false → IsProcess w.process) → 0 < fuel
      → Slices gives takes (without_disk w) fuel said (without_disk w') (ports s o) (ports t p)
      → said ≡ now.Spent → steps_left w' < steps_left w
  slice_fewer w w' fuel said s t o p shows some slices spent =
      fewer_left gives takes (without_disk w) (without_disk w') fuel s t o p
      (shows slices.had_not_failed) some
      (subst (λ z. Slices gives takes (without_disk w) fuel z (without_disk w') (ports s o)
      (ports t p)) spent slices)

  -- so does one act, whatever it has answered
  pub once_fewer : (act : Act) (from to : Scene D S O) (result : Result Now WorkFault)
      → 0 < fuel_of act
      → IfOk result (λ said. HasDoneOnce medium gives takes act from said to)
      → IfOk result (λ said. said ≡ now.Spent → steps_left to.worker < steps_left from.worker)
  once_fewer act from to (Ok said) some done =
      slice_fewer from.worker to.worker (fuel_of act) said from.source to.source from.outlet
      to.outlet done.shows some done.slices
  once_fewer act from to (Err why) some done = tt

  module _ (act : Act) (every n : ℕ) (from here : Scene D S O)
      (so_far : IsWithin act every n from here) where
    -- whatever is asked after them
    heard_on : (Refused : Type 0) (source' : S) → AsksUnless gives Refused here.source source'
        → AsksUnless gives Refused from.source source'
    heard_on Refused source' heard =
        asked_on gives Refused from.source here.source source' so_far.heard heard

    -- one more, which has failed, or a checkpoint after it
    breaks_more : (why : WorkFault) (source' : S) (outlet' : O)
        → BreaksOffFrom gives takes act (fuel_of act) here why source' outlet'
        → BreaksOffFrom gives takes act (steps_among (round_of act (n + 1))) from why source'
        outlet'
    breaks_more why source' outlet' breaks guest p is =
        let first = so_far.lead guest p is in
        subst (λ k. BreaksOff gives takes (process_scene guest p from.source from.outlet)
        (ports source' outlet') act k why) (sym (round_steps act (n + 1) ∙ act_more act n))
        (breaks_join gives takes guest p from.source here.source source' from.outlet here.outlet
        outlet' (steps_among (replicate n act)) here.worker.process first act (fuel_of act) why
        (breaks guest first.process first.shows))

    -- one more that is done
    module _ (said : Now) (to : Scene D S O)
        (done : HasDoneOnce medium gives takes act here said to) where
      -- what is told after those so far
      taken_on : TakesEach takes from.outlet to.outlet
      taken_on = takes_both takes from.outlet here.outlet to.outlet so_far.taken done.taken

      lead_more : said ≡ now.Spent
          → SlicesLeadOn gives takes from (steps_among (replicate (n + 1) act)) to
      lead_more spent guest p is =
          let first = so_far.lead guest p is in
          subst (λ k. SlicesLead gives takes (process_scene guest p from.source from.outlet)
          (ports_of to) k to.worker.process) (sym (act_more act n))
          (lead_join gives takes guest p from.source here.source to.source from.outlet here.outlet
          to.outlet (steps_among (replicate n act)) here.worker.process first (fuel_of act)
          to.worker.process
          (lead_by_slice gives takes (fuel_of act) here.source to.source here.outlet to.outlet
          here.worker to.worker
          (subst (λ z. Slices gives takes (without_disk here.worker) (fuel_of act) z
          (without_disk to.worker) (ports_of here) (ports_of to)) spent done.slices)
          guest first.process first.shows))

      -- after which others come
      pub within_more : said ≡ now.Spent → n + 1 < every
          → steps_left to.worker < steps_left here.worker → IsWithin act every (n + 1) from to
      within_more spent few fewer =
          let before = so_far.steps in
          record {
            fewer = few;
            heard = heard_on ⊥ to.source done.heard;
            taken = taken_on;
            leads = subst (λ z. ActsLead medium gives takes (replicate (n + 1) act) from z to) spent
                (acts_lead act n from here so_far.leads said to done.leads);
            lead = lead_more spent;
            steps = omega (arith, before, fewer);
            room = done.room;
          }

    module _ (most : ℕ) (is_most : every ≡ most) where
      some : 1 ≤ n + 1
      some = omega arith

      within : n + 1 ≤ most
      within = let few = so_far.fewer in omega (arith, few, is_most)

      -- one that fails
      pub within_breaks : (why : WorkFault) (end : Surroundings D S O)
          → HasFailedOnce medium gives takes act here why end
          → IsBrokenRound medium gives takes act most from why end
      within_breaks why end failed = record {
        count = n + 1;
        some = some;
        within = within;
        heard = heard_on (MayRefuse act (Err (recover.Worker why))) end.source failed.heard;
        heeded = heeds_on takes (IsOutletsCall why) from.outlet here.outlet end.outlet so_far.taken
            failed.heeded;
        done = act_breaks act n from here so_far.leads why end failed.done;
        broken = breaks_more why end.source end.outlet failed.broken;
      }

      -- the last one, and a checkpoint
      module _ (said : Now) (w' : DurableValue) (disk' : D) (source' : S) (outlet' : O)
          (done : HasDoneOnce medium gives takes act here said (scene w' disk' source' outlet'))
          (result : Result Now WorkFault) (w'' : DurableValue) (disk'' : D)
          (rests : IsRested said result w' w'' (medium disk') (medium disk'')) where
        abbrev reached : Scene D S O
        reached = scene w' disk' source' outlet'

        pub within_rests : (said ≡ now.Spent → n + 1 ≡ every)
            → IfOk result (λ why. IsRound medium gives takes act most from why
            (scene w'' disk'' source' outlet'))
        within_rests whole =
            rested act most (n + 1) from w' w'' disk' disk'' source' outlet' said
            (acts_lead act n from here so_far.leads said reached done.leads) some within
            (heard_on ⊥ source' done.heard) (taken_on said reached done)
            (lead_more said reached done) result (λ e. whole e ∙ is_most) rests

        pub within_broken : IfErr result (λ why. IsBrokenRound medium gives takes act most from why
            (surroundings disk'' source' outlet'))
        within_broken =
            broken act most (n + 1) from w' w'' disk' disk'' source' outlet' said
            (acts_lead act n from here so_far.leads said reached done.leads) some within
            (heard_on ⊥ source' done.heard) (taken_on said reached done)
            (λ why. breaks_more why source' outlet'
            (breaks_in_checkpoint gives takes act here.source source' here.outlet outlet'
            here.worker w' said why done.slices)) result rests

        pub within_fewer : (said ≡ now.Spent → steps_left w' < steps_left here.worker)
            → IfOk result (λ why. why ≡ now.Spent → steps_left w'' < steps_left from.worker)
        within_fewer fewer = ends result rests
          where
            ends : (result : Result Now WorkFault)
                → IsRested said result w' w'' (medium disk') (medium disk'')
                → IfOk result (λ why. why ≡ now.Spent → steps_left w'' < steps_left from.worker)
            ends (Ok told) r = λ spent.
                let last : steps_left w' < steps_left here.worker = fewer (sym r.0 ∙ spent) in
                let before = so_far.steps in
                let same : steps_left w'' ≡ steps_left w' = ap (λ p. 2 ^ 63 - p.steps) r.2 in
                omega (arith, last, before, same)
            ends (Err fault) r = tt

  -- ---- rounds one after another

  -- Some rounds were done: whatever is done from here on at this pace, is done at this pace from
  -- there on.
  pub record SoFar (act : Act) (every : ℕ) (from here : Scene D S O) : Type 0 where
    pub room : total_sectors here.worker.store.geometry ≤ (medium here.disk).sectors
    pub heard : AsksUnless gives ⊥ from.source here.source
    pub taken : TakesEach takes from.outlet here.outlet
    pub on : (rest : List Act) (result : Result Now WorkFault) (end : Surroundings D S O)
        → IsPaced act every rest
        → AsksUnless gives (MayRefuse act (undone_after result)) from.source end.source
        → HeedsOutlet takes (SaysOutletFault (undone_after result)) from.outlet end.outlet
        → (done : CallsInOrder medium gives takes rest here (undone_after result) end)
        → IfOk result (λ told. outcome_after now.Spent done ≡ told)
        → IfErr result (λ why. BreaksOffFrom gives takes act (steps_among rest) here why end.source
        end.outlet)
        → LivesAtPace medium gives takes act every from result end

  module _ (act : Act) (every : ℕ) (from here : Scene D S O)
      (so_far : SoFar act every from here) where
    -- what is done after a round whose fuel is spent
    module _ (there : Scene D S O) (r : IsRound medium gives takes act every here now.Spent there)
        (rest : List Act) (result : Result Now WorkFault) (end : Surroundings D S O)
        (done : CallsInOrder medium gives takes rest there (undone_after result) end) where
      is_whole : round_of act r.count ++ rest ≡ round_of act every ++ rest
      is_whole = ap (λ n. round_of act n ++ rest) (r.whole refl)

      then_done : CallsInOrder medium gives takes (round_of act every ++ rest) here
          (undone_after result) end
      then_done = called_as here (undone_after result) end (round_of act r.count ++ rest)
          (round_of act every ++ rest) is_whole
          (r.leads.behind rest (undone_after result) end done)

      then_says : IfOk result (λ told. outcome_after now.Spent done ≡ told)
          → IfOk result (λ told. outcome_after now.Spent then_done ≡ told)
      unfolding then_done
      then_says says =
          subst (λ z. IfOk result (λ told. z ≡ told))
          (sym (says_as here (undone_after result) end (round_of act r.count ++ rest)
          (round_of act every ++ rest) is_whole now.Spent
          (r.leads.behind rest (undone_after result) end done)
          ∙ r.leads.says rest (undone_after result) end done)) says

      abbrev Breaks : List Act → Scene D S O → WorkFault → Type 0
      Breaks acts at why =
          BreaksOffFrom gives takes act (steps_among acts) at why end.source end.outlet

      all_steps : steps_among (round_of act r.count) + steps_among rest
          ≡ steps_among (round_of act every ++ rest)
      all_steps = ap (λ n. steps_among (round_of act n) + steps_among rest) (r.whole refl)
          ∙ sym (steps_both (round_of act every) rest)

      then_breaks : (why : WorkFault) → Breaks rest there why
          → Breaks (round_of act every ++ rest) here why
      then_breaks why breaks guest p is =
          let first = r.spent refl guest p is in
          subst (λ k. BreaksOff gives takes (process_scene guest p here.source here.outlet)
          (ports end.source end.outlet) act k why) all_steps
          (breaks_join gives takes guest p here.source there.source end.source here.outlet
          there.outlet end.outlet (steps_among (round_of act r.count)) there.worker.process first
          act (steps_among rest) why (breaks guest first.process first.shows))

      then_broken : IfErr result (λ why. Breaks rest there why)
          → IfErr result (λ why. Breaks (round_of act every ++ rest) here why)
      then_broken broken =
          IfErr-weaker result (λ why. Breaks rest there why)
          (λ why. Breaks (round_of act every ++ rest) here why) then_breaks broken

    pub round_more : (there : Scene D S O)
        → total_sectors there.worker.store.geometry ≤ (medium there.disk).sectors
        → IsRound medium gives takes act every here now.Spent there → SoFar act every from there
    round_more there room r = record {
      room = room;
      heard = asked_on gives ⊥ from.source here.source there.source so_far.heard r.heard;
      taken = takes_both takes from.outlet here.outlet there.outlet so_far.taken r.taken;
      on = λ rest result end paced heard heeded done says broken.
          so_far.on (round_of act every ++ rest) result end (more rest paced) heard heeded
          (then_done there r rest result end done) (then_says there r rest result end done says)
          (then_broken there r rest result end done broken);
    }

    pub round_last : (why : Now) (there : Scene D S O)
        → IsRound medium gives takes act every here why there
        → LivesAtPace medium gives takes act every from (Ok why) (surroundings_of there)
    round_last why there r =
        so_far.on (round_of act r.count) (Ok why) (surroundings_of there)
        (last r.count r.some r.within)
        (asked_so_far gives (MayRefuse act (Ok [])) from.source there.source
        (asked_on gives ⊥ from.source here.source there.source so_far.heard r.heard))
        (inl (
          takes_both takes from.outlet here.outlet there.outlet so_far.taken r.taken,
          λ told.
              told,
        )) (leads_out (round_of act r.count) here why there r.leads)
        (says_out (round_of act r.count) here why there r.leads) tt

    pub round_broken : (why : WorkFault) (end : Surroundings D S O)
        → IsBrokenRound medium gives takes act every here why end
        → LivesAtPace medium gives takes act every from (Err why) end
    round_broken why end r =
        so_far.on (round_of act r.count) (Err why) end (last r.count r.some r.within)
        (asked_on gives (MayRefuse act (Err (recover.Worker why))) from.source here.source
        end.source so_far.heard r.heard)
        (heeds_on takes (IsOutletsCall why) from.outlet here.outlet end.outlet so_far.taken
        r.heeded) r.done tt r.broken
