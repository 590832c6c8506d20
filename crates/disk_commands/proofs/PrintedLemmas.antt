-- Where a call has failed when no line waits, each line was told.
use Rattle.std.proofs.Common.{◌≡◌, ℕ, ◌+◌, List, [], ◌∷◌, ◌++◌, Some, None, refl, sym, ap, ◌∙◌}
use Rattle.std.proofs.Common.{subst, append_assoc, append-nil}
use Rattle.std.specs.Prelude.{Option, suc, length}
use Rattle.wasi_abi.specs.declared.answer.Answer.{Answer}
use Rattle.wasi_abi.specs.declared.answer.Question.{Question}
use Rattle.process_rules.specs.Processes.{ProcessState, Guest}
use Rattle.record_replay.specs.rules.Calls.{Taking, Exchange, Asks, Released, Releases}
use Rattle.record_replay.specs.rules.Calls.{releases_of, all_taken, ports}
use Rattle.record_replay.proofs.Following.{leads_join as calls_join, releases_of-append}
use Rattle.record_replay.specs.declared.slices.fault.SliceFault.TheVariants as slice
use Rattle.record_replay.specs.declared.slices.fault.Refusal.TheVariants as refusal
use Rattle.record_replay.specs.rules.Slices.{SliceLeadsTo}
use Rattle.record_replay.specs.rules.Faults.{LeadsUpTo, StopsAtAnswer, last_answer}
use Rattle.record_replay.proofs.Joining.{leads_join}
use Rattle.worker.specs.declared.fault.WorkFault.{WorkFault}
use Rattle.worker.specs.declared.fault.WorkFault.TheVariants as work
use Rattle.worker.specs.rules.Batches.{HasUntakenAnswer, ToldUpTo, IsBatchCause}
use Rattle.worker.specs.rules.DurableFailures.{IsDiskCause}
use Rattle.worker.specs.rules.LifeWords.{Act, Slice, Batch, Checkpoint, Upgrade}
use Rattle.command_words.specs.Lines.Answers.{SourceState}
use Rattle.disk_commands.specs.rules.BrokenLives.{IsBrokenAt, in_act, in_checkpoint, BreaksOff}
use Rattle.disk_commands.specs.rules.BrokenLives.{LeavesNoLine, TellsItsLines, stretch}
use Rattle.disk_commands.specs.rules.BrokenLives.{process_scene}
use Rattle.disk_commands.specs.rules.ServedOnDisk.{handing}

-- The calls but for the last ones, which tell no line, lead there.
record AllTold (guest : Guest) (p : ProcessState) (exchanges : List Exchange) (q : ProcessState)
    : Type 0 where
  front : List Exchange
  last : List Exchange
  is : exchanges ≡ front ++ last
  untold : releases_of last ≡ []
  steps : ℕ
  leads : SliceLeadsTo guest p front steps q

pub asks_only : (question : Question) (given : Option Answer)
    → releases_of (last_answer question given) ≡ []
asks_only question None = refl
asks_only question (Some a) = refl

module _ (guest : Guest) (p : ProcessState) (exchanges : List Exchange) (steps : ℕ)
    (q : ProcessState) where
  told_up_to : (given : Option Answer) → LeadsUpTo guest p exchanges steps q given
      → AllTold guest p exchanges q
  told_up_to given h = record {
    front = h.front;
    last = last_answer h.question given;
    is = h.is;
    untold = asks_only h.question given;
    steps = steps;
    leads = h.leads;
  }

  source_told : StopsAtAnswer guest p exchanges steps q → AllTold guest p exchanges q
  source_told h = record {
    front = h.front;
    last = Asks h.ask ∷ [];
    is = h.is;
    untold = refl;
    steps = steps;
    leads = h.leads;
  }

  -- a slice that has failed so
  slice_told : (fuel : ℕ) (why : WorkFault) → LeavesNoLine (Slice fuel) why
      → IsDiskCause guest p fuel exchanges steps q why → AllTold guest p exchanges q
  slice_told fuel (work.Work slice.Source) none h = source_told h.1
  slice_told fuel (work.Work slice.Memory) none h = told_up_to h.3 h.4
  slice_told fuel (work.Work (slice.Refused refusal.StepsSpent)) none h = told_up_to h.2 h.3
  slice_told fuel (work.Work (slice.Refused (refusal.Module why))) none h = absurd h
  slice_told fuel (work.Work slice.Outlet) none h = absurd none
  slice_told fuel (work.Work slice.Failed) none h = absurd none
  slice_told fuel (work.Disk why) none h = absurd none
  slice_told fuel (work.Store why) none h =
      told_up_to None (none.1 guest p fuel exchanges steps q h).4
  slice_told fuel (work.Upgrade why) none h = absurd none

  -- a batch that has failed so
  batch_told : (fuel most : ℕ) (why : WorkFault) → LeavesNoLine (Batch fuel most) why
      → IsBatchCause guest p fuel exchanges steps q why → AllTold guest p exchanges q
  batch_told fuel most (work.Work slice.Source) none h = source_told h.1
  batch_told fuel most (work.Work slice.Memory) none h = absurd none
  batch_told fuel most (work.Work (slice.Refused why)) none h = absurd none
  batch_told fuel most (work.Work slice.Outlet) none h = absurd none
  batch_told fuel most (work.Work slice.Failed) none h = absurd none
  batch_told fuel most (work.Disk why) none h = absurd none
  batch_told fuel most (work.Store why) none h = absurd none.0
  batch_told fuel most (work.Upgrade why) none h = absurd none

module _ {O : Type 0} (takes : Taking O) (guest : Guest) (p : ProcessState)
    (exchanges : List Exchange) (steps : ℕ) (q : ProcessState) (outlet outlet' : O) where
  told_before : (act : Act) (why : WorkFault) → LeavesNoLine act why
      → IsBrokenAt takes guest p act (stretch exchanges steps q) why outlet outlet'
      → AllTold guest p exchanges q
  told_before act why none (in_checkpoint said leads answers released) = record {
    front = exchanges;
    last = [];
    is = sym (append-nil exchanges);
    untold = refl;
    steps = steps;
    leads = leads;
  }
  told_before (Slice fuel) why none (in_act cause told) =
      slice_told guest p exchanges steps q fuel why none cause
  told_before (Batch fuel most) why none (in_act cause told) =
      batch_told guest p exchanges steps q fuel most why none cause
  told_before Checkpoint why none (in_act cause told) = absurd cause
  told_before Upgrade why none (in_act cause told) = absurd cause

  -- what it has released was released whole
  batch_released : (fuel most : ℕ) (untaken : Type 0) (why : WorkFault)
      → LeavesNoLine (Batch fuel most) why
      → ToldUpTo takes untaken why (releases_of exchanges) outlet outlet'
      → Releases takes outlet (releases_of exchanges) outlet'
  batch_released fuel most untaken (work.Work slice.Source) none told = told
  batch_released fuel most untaken (work.Work slice.Memory) none told = absurd none
  batch_released fuel most untaken (work.Work (slice.Refused why)) none told = absurd none
  batch_released fuel most untaken (work.Work slice.Outlet) none told = absurd none
  batch_released fuel most untaken (work.Work slice.Failed) none told = absurd none
  batch_released fuel most untaken (work.Disk why) none told = absurd none
  batch_released fuel most untaken (work.Store why) none told = absurd none.0
  batch_released fuel most untaken (work.Upgrade why) none told = absurd none

  all_released : (act : Act) (why : WorkFault) → LeavesNoLine act why
      → IsBrokenAt takes guest p act (stretch exchanges steps q) why outlet outlet'
      → Releases takes outlet (releases_of exchanges) outlet'
  all_released act why none (in_checkpoint said leads answers released) = released
  all_released (Slice fuel) why none (in_act cause told) = told
  all_released (Batch fuel most) why none (in_act cause told) =
      batch_released fuel most (HasUntakenAnswer guest p exchanges steps q) why none told
  all_released Checkpoint why none (in_act cause told) = absurd cause
  all_released Upgrade why none (in_act cause told) = absurd cause

module _ (guest : Guest) (p : ProcessState) where
  -- slices before it told all as well
  told_on : (front back : List Exchange) (n : ℕ) (mid q : ProcessState)
      → SliceLeadsTo guest p front n mid → AllTold guest mid back q
      → AllTold guest p (front ++ back) q
  told_on front back n mid q leads told = record {
    front = front ++ told.front;
    last = told.last;
    is = ap (λ z. front ++ z) told.is ∙ sym (append_assoc front told.front told.last);
    untold = told.untold;
    steps = n + told.steps;
    leads = leads_join guest p mid q front told.front n told.steps leads told.leads;
  }

  module _ {O : Type 0} (takes : Taking O) where
    told_lines : (exchanges : List Exchange) (q : ProcessState) (outlet outlet' : O)
        → AllTold guest p exchanges q → Releases takes outlet (releases_of exchanges) outlet'
        → TellsItsLines takes p q outlet outlet'
    told_lines exchanges q outlet outlet' told released =
        let all : releases_of exchanges ≡ all_taken (suc (length p.host.lines)) told.leads.lines =
        ap releases_of told.is ∙ releases_of-append told.front told.last
        ∙ ap (λ z. releases_of told.front ++ z) told.untold ∙ append-nil (releases_of told.front)
        ∙ told.leads.released in
        record {
          lines = told.leads.lines;
          written = told.leads.emitted;
          told = subst (λ z. Releases takes outlet z outlet') all released;
        }

    -- each line was told that was written until a call failed
    pub lines_told : (source source' : SourceState) (outlet outlet' : O) (act : Act) (all : ℕ)
        (why : WorkFault) → LeavesNoLine act why
        → (b : BreaksOff handing takes (process_scene guest p source outlet)
        (ports source' outlet') act all why)
        → TellsItsLines takes p b.process outlet outlet'
    lines_told source source' outlet outlet' act all why none b =
        told_lines (b.front ++ b.back) b.process outlet outlet'
        (told_on b.front b.back b.steps b.begun b.process b.leads
        (told_before takes guest b.begun b.back b.more b.process b.between outlet' act why none
        b.broken))
        (subst (λ z. Releases takes outlet z outlet') (sym (releases_of-append b.front b.back))
        (calls_join (Released takes) outlet outlet' b.between (releases_of b.front)
        (releases_of b.back) b.told
        (all_released takes guest b.begun b.back b.more b.process b.between outlet' act why none
        b.broken)))
