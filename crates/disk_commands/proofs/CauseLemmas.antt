-- From what a run on a disk does to the cause of its exit status.
use Rattle.std.proofs.Common.{◌≡◌, ◌⊎◌, inl, inr, ⊎_elim, ℕ, ◌+◌, ◌<◌, ◌≤◌, Bool, true, List, []}
use Rattle.std.proofs.Common.{◌∷◌, length, Some, Ok, Err, refl, sym, ap, ◌∙◌, subst, arith}
use Rattle.std.specs.Prelude.{Result, false, if◌then◌else◌}
use Rattle.std.specs.List.{AllByRecursion}
use Rattle.wasi_abi.specs.declared.answer.Question.{Question}
use Rattle.wasi_abi.specs.declared.answer.Question.TheVariants as questions
use Rattle.sector_disk.specs.rules.Medium.{Medium}
use Rattle.sector_disk.specs.declared.fault.DiskFault.TheVariants as disk
use Rattle.record_replay.specs.declared.fault.ReplayFault.TheVariants as replay
use Rattle.record_replay.specs.rules.Calls.{Taking, Ask, AnswersInOrder}
use Rattle.record_replay.specs.declared.slices.fault.SliceFault.TheVariants as slice
use Rattle.record_replay.specs.rules.Slices.{handed}
use Rattle.worker.specs.declared.fault.WorkFault.{WorkFault}
use Rattle.worker.specs.declared.fault.WorkFault.TheVariants as work
use Rattle.worker.specs.declared.recover_fault.RecoverFault.{RecoverFault}
use Rattle.worker.specs.declared.recover_fault.RecoverFault.TheVariants as recover
use Rattle.worker.specs.rules.LifeWords.{Act}
use Rattle.worker.specs.rules.Outlets.{IsOutletFault}
use Rattle.worker.specs.rules.RecoverFaults.{wants_memory}
use Rattle.command_words.specs.declared.lines.fault.LineFault.{LineFault}
use Rattle.command_words.specs.declared.lines.fault.LineFault.TheVariants as line
use Rattle.command_words.specs.Lines.Answers.{SourceState, HandsNext, HandsAnswer, IsRefusedFor}
use Rattle.command_words.specs.rules.Outside.{requests_in, words_of}
use Rattle.command_words.specs.rules.Printers.{PrinterState, IsSaid}
use Rattle.command_words.specs.rules.Requests.{BeginsWithOther, BeginsWithLater, BeginsWithNumber}
use Rattle.command_words.specs.declared.status.Status.{Status}
use Rattle.command_words.specs.declared.status.Status.TheVariants as exit
use Rattle.command_words.proofs.LineLemmas.Passing.{up_to_map}
use Rattle.disk_commands.specs.declared.on_disk.fault.OnDiskFault.{OnDiskFault}
use Rattle.disk_commands.specs.declared.on_disk.fault.OnDiskFault.TheVariants as is_told
use Rattle.disk_commands.specs.rules.DiskStatuses.{IsReportedOnDisk, opening_fault, status_on_disk}
use Rattle.disk_commands.specs.rules.DiskStatuses.{status_of_call}
use Rattle.disk_commands.specs.rules.Hearings.{WasHeard, AsksUnless, IsOfSource, MayRefuse}
use Rattle.disk_commands.specs.rules.ServedOnDisk.{RunStart, RunEnd, act_given, source_behind}
use Rattle.disk_commands.specs.rules.ServedOnDisk.{handing, LivesOnDisk, HasBrokenOff, ServesOnDisk}
use Rattle.disk_commands.specs.rules.ServedOnDisk.{over, broken, unopened as is_unopened}
use Rattle.disk_commands.specs.rules.BrokenLives.{LeavesNoLine, steps_among}
use Rattle.disk_commands.specs.laws.DiskCauses.{IsRefusedAmong, HasRefused, MeetsBadLineAt}
use Rattle.disk_commands.specs.laws.DiskCauses.{LacksAnswerAt, LacksMemoryAt, IsStuck, IsFailing}
use Rattle.disk_commands.specs.laws.DiskCauses.{IsWanting, IsAtItsEnd, IsUnanswering}
use Rattle.disk_commands.specs.laws.DiskCauses.{HasToldItsLines, IsOverOnDisk, FailsOnDisk, opening}
use Rattle.disk_commands.specs.laws.DiskCauses.{calling, AsksInVain, SaysOnDisk, StatusesHaveCauses}
use Rattle.disk_commands.proofs.HearingLemmas.{none_refused}
use Rattle.disk_commands.proofs.PaceLemmas.{one_or_several}
use Rattle.disk_commands.proofs.PrintedLemmas.{lines_told}
use Rattle.disk_commands.proofs.RefusalLemmas.{refusals_have_reasons}

-- ---- what a line's fault comes to

module _ (old : SourceState) (asks : List Ask) (failed' : Bool) where
  abbrev IsFor : Question → LineFault → Type 0
  IsFor question why = IsRefusedFor question old (old.place + words_of (handed asks))
      (requests_in (handed asks)) failed' why

  lacks_read : (question : Question) → IsRefusedAmong asks question → IsFor question line.Read
      → LacksAnswerAt old asks failed'
  lacks_read questions.Request r h = inl (r, h)
  lacks_read questions.Realtime r h = absurd h.0
  lacks_read questions.Monotonic r h = absurd h.0
  lacks_read (questions.Random n) r h = absurd h.0

  lacks_clock : (question : Question) → IsRefusedAmong asks question → IsFor question line.Clock
      → LacksAnswerAt old asks failed'
  lacks_clock questions.Request r h = absurd h
  lacks_clock questions.Realtime r h = inr (inl (inl r, h.0))
  lacks_clock questions.Monotonic r h = inr (inl (inr r, h.0))
  lacks_clock (questions.Random n) r h = absurd h.0

  lacks_words : (question : Question) → IsRefusedAmong asks question → IsFor question line.Words
      → LacksAnswerAt old asks failed'
  lacks_words questions.Request r h = absurd h
  lacks_words questions.Realtime r h = absurd h.0
  lacks_words questions.Monotonic r h = absurd h.0
  lacks_words (questions.Random n) r h = inr (inr (n, r, h.0))

  -- the next line of a reader can't be taken
  abbrev IsBad : List ℕ → Type 0
  IsBad rest = BeginsWithOther old.limit rest
      ⊎ BeginsWithLater old.limit (old.taken + length (requests_in (handed asks))) rest

  meets_other : (question : Question) → IsRefusedAmong asks question → IsFor question line.Form
      → MeetsBadLineAt old asks failed'
  meets_other questions.Request r h = (
    r,
    up_to_map old.limit old.taken old.unread (requests_in (handed asks))
        (BeginsWithOther old.limit) IsBad (λ rest is. inl is) h.0,
    h.1,
  )
  meets_other questions.Realtime r h = absurd h.0
  meets_other questions.Monotonic r h = absurd h.0
  meets_other (questions.Random n) r h = absurd h.0

  meets_later : (number wanted : ℕ) (question : Question) → IsRefusedAmong asks question
      → IsFor question (line.Number number wanted) → MeetsBadLineAt old asks failed'
  meets_later number wanted questions.Request r h =
      let next = h.0 in
      let beyond = h.1 in
      let later : (old.taken + length (requests_in (handed asks))) + 1 < number =
      omega (arith, next, beyond) in (
        r,
        up_to_map old.limit old.taken old.unread (requests_in (handed asks))
            (BeginsWithNumber old.limit number) IsBad (λ rest is. inr (number, later, is)) h.2,
        h.3,
      )
  meets_later number wanted questions.Realtime r h = absurd h.0
  meets_later number wanted questions.Monotonic r h = absurd h.0
  meets_later number wanted (questions.Random n) r h = absurd h.0

-- ---- what is read off a life

-- where no question was refused, no read of the reader has failed
heard_steadily : (asks : List Ask) (s t : SourceState) → AllByRecursion WasHeard asks
    → AnswersInOrder handing s asks t → t.failed ≡ s.failed
heard_steadily [] s t all leads = ap (λ (z : SourceState). z.failed) leads
heard_steadily (ask ∷ asks) s t all leads =
    let u = leads.0 in
    let hands : HandsAnswer ask.question s all.0.0 u =
    subst (λ r. HandsNext ask.question s r u) all.0.1 leads.1 in
    heard_steadily asks u t all.1 leads.2 ∙ hands.steady

steady_unless : (Refused : Type 0) (s t : SourceState) → AsksUnless handing Refused s t
    → (Refused → ⊥) → t.failed ≡ s.failed
steady_unless Refused s t heard unrefused = by_heard heard.heard
  where
    by_heard : AllByRecursion WasHeard heard.asks ⊎ Refused → t.failed ≡ s.failed
    by_heard (inl all) = heard_steadily heard.asks s t all heard.led
    by_heard (inr refused) = absurd (unrefused refused)

module _ {D O : Type 0} (medium : D → Medium) (takes : Taking O) where
  module _ (before : RunStart D O) (after : RunEnd D O) where
    abbrev Fails : (RecoverFault → Type 0) → (WorkFault → Type 0) → Type 0
    Fails IsOfOpening IsOfCall = FailsOnDisk medium takes before after IsOfOpening IsOfCall

    -- memory that was refused to a call
    abbrev IsOfMemory : WorkFault → Type 0
    IsOfMemory why = why ≡ work.Work slice.Memory

    -- a line of a call that the outlet refused
    abbrev IsOfOutlet : WorkFault → Type 0
    IsOfOutlet why = why ≡ work.Work slice.Outlet

    -- a life that was ended by this error
    abbrev LifeUpTo : SourceState → WorkFault → Type 0
    LifeUpTo source' why = LivesOnDisk medium takes (Err (recover.Worker why)) before after source'

    -- each line was told, where none waits
    each_told : (why : WorkFault) (source' : SourceState) (lives : LifeUpTo source' why)
        → HasBrokenOff lives why → LeavesNoLine (act_given before.given) why
        → HasToldItsLines lives why
    each_told why source' lives breaks none guest p is = (
      breaks guest p is,
      lines_told guest p takes (source_behind before.given lives.worker) source' lives.retold
          after.outlet (act_given before.given) (steps_among lives.acts) why none
          (breaks guest p is),
    )

    abbrev Asks : (SourceState → List Ask → Bool → Type 0) → Type 0
    Asks Holds = AsksInVain medium takes before after Holds

    -- so it is where a call of it has failed
    abbrev BrokenLife : SourceState → WorkFault → Type 0
    BrokenLife source' why = (lives : LifeUpTo source' why) × HasBrokenOff lives why

    -- a question was refused for this
    vain : (source' : SourceState) (why : LineFault)
        (lives : LifeUpTo source' (work.Work slice.Source))
        → HasBrokenOff lives (work.Work slice.Source)
        → source'.failed ≡ after.failed → source'.fault ≡ Some why
        → Asks (λ old asks failed. HasRefused old asks failed why)
    vain source' why lives breaks heeded is = record {
      source' = source';
      lives = lives;
      told = each_told (work.Work slice.Source) source' lives breaks tt;
      heeded = heeded;
      asks = lives.heard.asks;
      led = lives.heard.led;
      behind =
          subst (λ f. HasRefused (source_behind before.given lives.worker) lives.heard.asks f why)
          heeded (refusals_have_reasons lives.heard.asks (source_behind before.given lives.worker)
          source' why lives.heard.led refl is);
    }

    -- what follows from it
    in_vain : (P Q : SourceState → List Ask → Bool → Type 0)
        → ((old : SourceState) (asks : List Ask) → P old asks after.failed
        → Q old asks after.failed) → Asks P → Asks Q
    in_vain P Q f asks = record {
      source' = asks.source';
      lives = asks.lives;
      told = asks.told;
      heeded = asks.heeded;
      asks = asks.asks;
      led = asks.led;
      behind = f (source_behind before.given asks.lives.worker) asks.asks asks.behind;
    }

    -- ---- statuses

    abbrev Says : Status → Type 0
    Says status = SaysOnDisk medium takes before after status

    abbrev IsSteady : Type 0
    IsSteady = after.failed ≡ before.given.failed

    -- no read of the reader has failed, or a batch has found its journal full behind it
    abbrev IsSteadyOrFull : Type 0
    IsSteadyOrFull = IsSteady ⊎ (2 ≤ before.given.batch)

    zero : IsOverOnDisk medium takes before after → IsSteady → Says exit.Done
    zero h steady = record {
      over = λ e. h;
      stuck = λ e. absurd cc;
      unanswered = λ e. absurd cc;
      starved = λ e. absurd cc;
      bad_line = λ e. absurd cc;
      unprinted = λ e. absurd cc;
      heeded = inl steady;
      known = ((λ e. cc), λ e. cc);
    }

    three : Fails IsStuck IsAtItsEnd → IsSteadyOrFull → Says exit.Refused
    three h steady = record {
      over = λ e. absurd cc;
      stuck = λ e. h;
      unanswered = λ e. absurd cc;
      starved = λ e. absurd cc;
      bad_line = λ e. absurd cc;
      unprinted = λ e. absurd cc;
      heeded = ⊎_elim (λ same. inl same) (λ several. inr (inr (inr (inr (refl, several)))))
          steady;
      known = ((λ e. cc), λ e. cc);
    }

    four : Fails IsFailing IsUnanswering ⊎ Asks LacksAnswerAt → Says exit.IoError
    four h = record {
      over = λ e. absurd cc;
      stuck = λ e. absurd cc;
      unanswered = λ e. h;
      starved = λ e. absurd cc;
      bad_line = λ e. absurd cc;
      unprinted = λ e. absurd cc;
      heeded = inr (inl refl);
      known = ((λ e. cc), λ e. cc);
    }

    five : Fails IsWanting IsOfMemory ⊎ Asks LacksMemoryAt → Says exit.OutOfMemory
    five h = record {
      over = λ e. absurd cc;
      stuck = λ e. absurd cc;
      unanswered = λ e. absurd cc;
      starved = λ e. h;
      bad_line = λ e. absurd cc;
      unprinted = λ e. absurd cc;
      heeded = inr (inr (inl refl));
      known = ((λ e. cc), λ e. cc);
    }

    six : Asks MeetsBadLineAt → IsSteady → Says exit.BadLine
    six h steady = record {
      over = λ e. absurd cc;
      stuck = λ e. absurd cc;
      unanswered = λ e. absurd cc;
      starved = λ e. absurd cc;
      bad_line = λ e. h;
      unprinted = λ e. absurd cc;
      heeded = inl steady;
      known = ((λ e. cc), λ e. cc);
    }

    seven : Fails IsOutletFault IsOfOutlet ⊎ (after.err.failed ≡ true) → Says exit.Unwritten
    seven h = record {
      over = λ e. absurd cc;
      stuck = λ e. absurd cc;
      unanswered = λ e. absurd cc;
      starved = λ e. absurd cc;
      bad_line = λ e. absurd cc;
      unprinted = λ e. h;
      heeded = inr (inr (inr (inl refl)));
      known = ((λ e. cc), λ e. cc);
    }

    -- what is on the disk is refused, or a layer wants memory
    refused_or : (why : RecoverFault) → (want : Bool) → wants_memory why ≡ want
        → (wants_memory why ≡ true → Fails IsWanting IsOfMemory)
        → (wants_memory why ≡ false → Fails IsStuck IsAtItsEnd) → IsSteady
        → Says (if want then exit.OutOfMemory else exit.Refused)
    refused_or why true is wants refuses steady = five (inl (wants is))
    refused_or why false is wants refuses steady = three (refuses is) (inl steady)

    -- a fault of the recovery
    by_opening : (why : RecoverFault)
        → ((IsOfOpening : RecoverFault → Type 0) (IsOfCall : WorkFault → Type 0)
        → IsOfOpening why → Fails IsOfOpening IsOfCall) → IsSteady
        → Says (status_on_disk (opening_fault why))
    by_opening (recover.Replay replay.Diverged) f steady =
        three (f IsStuck IsAtItsEnd tt) (inl steady)
    by_opening (recover.Replay replay.Memory) f steady =
        five (inl (f IsWanting IsOfMemory refl))
    by_opening (recover.Replay replay.Outlet) f steady =
        seven (inl (f IsOutletFault IsOfOutlet tt))
    by_opening (recover.Worker (work.Store why)) f steady =
        three (f IsStuck IsAtItsEnd tt) (inl steady)
    by_opening (recover.Worker (work.Upgrade why)) f steady =
        three (f IsStuck IsAtItsEnd tt) (inl steady)
    by_opening (recover.Worker (work.Disk disk.Memory)) f steady =
        five (inl (f IsWanting IsOfMemory tt))
    by_opening (recover.Worker (work.Disk disk.Range)) f steady =
        four (inl (f IsFailing IsUnanswering tt))
    by_opening (recover.Worker (work.Disk disk.Io)) f steady =
        four (inl (f IsFailing IsUnanswering tt))
    by_opening (recover.Worker (work.Disk disk.Cut)) f steady =
        four (inl (f IsFailing IsUnanswering tt))
    by_opening (recover.Worker (work.Work slice.Source)) f steady =
        four (inl (f IsFailing IsUnanswering tt))
    by_opening (recover.Worker (work.Work slice.Failed)) f steady =
        four (inl (f IsFailing IsUnanswering tt))
    by_opening (recover.Worker (work.Work slice.Memory)) f steady =
        five (inl (f IsWanting IsOfMemory refl))
    by_opening (recover.Worker (work.Work slice.Outlet)) f steady =
        seven (inl (f IsOutletFault IsOfOutlet tt))
    by_opening (recover.Worker (work.Work (slice.Refused why))) f steady =
        three (f IsStuck IsAtItsEnd tt) (inl steady)
    by_opening (recover.Layout why) f steady =
        refused_or (recover.Layout why) (wants_memory (recover.Layout why)) refl
        (λ is. f IsWanting IsOfMemory is) (λ is. f IsStuck IsAtItsEnd is) steady
    by_opening (recover.Module why) f steady =
        refused_or (recover.Module why) (wants_memory (recover.Module why)) refl
        (λ is. f IsWanting IsOfMemory is) (λ is. f IsStuck IsAtItsEnd is) steady
    by_opening (recover.Snapshot why) f steady =
        refused_or (recover.Snapshot why) (wants_memory (recover.Snapshot why)) refl
        (λ is. f IsWanting IsOfMemory is) (λ is. f IsStuck IsAtItsEnd is) steady
    by_opening (recover.ProcessImage why) f steady =
        refused_or (recover.ProcessImage why) (wants_memory (recover.ProcessImage why)) refl
        (λ is. f IsWanting IsOfMemory is) (λ is. f IsStuck IsAtItsEnd is) steady
    by_opening (recover.Journal why) f steady =
        refused_or (recover.Journal why) (wants_memory (recover.Journal why)) refl
        (λ is. f IsWanting IsOfMemory is) (λ is. f IsStuck IsAtItsEnd is) steady

    same_call : (a b : WorkFault) → ◌≡◌ {A = Result (List Act) RecoverFault}
        (Err (recover.Worker a)) (Err (recover.Worker b)) → a ≡ b
    same_call a b is = cc

    -- an error that isn't the source's
    other_call : (why : WorkFault) → (why ≡ work.Work slice.Source → ⊥)
        → IsOfSource (Err (recover.Worker why)) → ⊥
    other_call why other source = other (same_call why (work.Work slice.Source) source)

    -- one of a call
    by_calling : (why : WorkFault)
        → ((IsOfOpening : RecoverFault → Type 0) (IsOfCall : WorkFault → Type 0)
        → IsOfCall why → Fails IsOfOpening IsOfCall)
        → ((MayRefuse (act_given before.given) (Err (recover.Worker why)) → ⊥) → IsSteady)
        → Says (status_of_call why)
    by_calling (work.Store why) f steady =
        three (f IsStuck IsAtItsEnd tt)
        (⊎_elim (λ one. inl (steady (λ may. other_call (work.Store why) (λ e. absurd (cc))
        (subst (λ act. MayRefuse act (Err (recover.Worker (work.Store why)))) one may))))
        (λ several. inr several) (one_or_several before.given.fuel before.given.batch))
    by_calling (work.Upgrade why) f steady =
        three (f IsStuck IsAtItsEnd tt)
        (inl (steady (none_refused (act_given before.given)
        (Err (recover.Worker (work.Upgrade why)))
        (other_call (work.Upgrade why) (λ e. absurd (cc))) (λ telling. telling))))
    by_calling (work.Disk why) f steady = four (inl (f IsFailing IsUnanswering tt))
    by_calling (work.Work slice.Source) f steady = four (inl (f IsFailing IsUnanswering tt))
    by_calling (work.Work slice.Failed) f steady = four (inl (f IsFailing IsUnanswering tt))
    by_calling (work.Work slice.Memory) f steady = five (inl (f IsWanting IsOfMemory refl))
    by_calling (work.Work slice.Outlet) f steady = seven (inl (f IsOutletFault IsOfOutlet refl))
    by_calling (work.Work (slice.Refused why)) f steady =
        three (f IsStuck IsAtItsEnd tt)
        (inl (steady (none_refused (act_given before.given)
        (Err (recover.Worker (work.Work (slice.Refused why))))
        (other_call (work.Work (slice.Refused why)) (λ e. absurd (cc))) (λ telling. telling))))

    -- one of a request line
    by_line : (why : LineFault) → Asks (λ old asked failed. HasRefused old asked failed why)
        → Says (status_on_disk (is_told.Line why))
    by_line line.Read asks =
        four (inr (in_vain (λ old asked failed. HasRefused old asked failed line.Read)
        LacksAnswerAt
        (λ old asked r. lacks_read old asked after.failed r.question r.asked r.reason) asks))
    by_line line.Clock asks =
        four (inr (in_vain (λ old asked failed. HasRefused old asked failed line.Clock)
        LacksAnswerAt
        (λ old asked r. lacks_clock old asked after.failed r.question r.asked r.reason) asks))
    by_line line.Words asks =
        four (inr (in_vain (λ old asked failed. HasRefused old asked failed line.Words)
        LacksAnswerAt
        (λ old asked r. lacks_words old asked after.failed r.question r.asked r.reason) asks))
    by_line line.Memory asks = five (inr asks)
    by_line line.Form asks =
        let bad = in_vain (λ old asked failed. HasRefused old asked failed line.Form)
        MeetsBadLineAt
        (λ old asked r. meets_other old asked after.failed r.question r.asked r.reason) asks
        in six bad bad.behind.2
    by_line (line.Number number wanted) asks =
        let bad =
        in_vain (λ old asked failed. HasRefused old asked failed (line.Number number wanted))
        MeetsBadLineAt
        (λ old asked r.
        meets_later old asked after.failed number wanted r.question r.asked r.reason) asks
        in six bad bad.behind.2

    -- that is said, or nothing can be
    said_as : (between : PrinterState) (status told : Status) → IsSaid told between status after.err
        → Says told → Says status
    said_as between status told (inl said) says = subst Says (sym said.0) says
    said_as between status told (inr unsaid) says =
        subst Says (sym unsaid.0) (seven (inr unsaid.1))

    by_told : (why : WorkFault) (told : OnDiskFault) (source' : SourceState)
        (lives : LifeUpTo source' why) → HasBrokenOff lives why → source'.failed ≡ after.failed
        → IsReportedOnDisk why source'.fault told → Says (status_on_disk told)
    by_told why told source' lives breaks heeded (inl e) =
        subst (λ t. Says (status_on_disk t)) (sym e.0)
        (by_calling why (λ IsOfOpening IsOfCall is.
        calling why source' lives (each_told why source' lives breaks) e.1 heeded is)
        (λ other. sym heeded
        ∙ steady_unless (MayRefuse (act_given before.given) (Err (recover.Worker why)))
        (source_behind before.given lives.worker) source' lives.heard other))
    by_told why told source' lives breaks heeded (inr e) =
        let both : BrokenLife source' (work.Work slice.Source) =
        subst (BrokenLife source') e.1 (lives, breaks) in
        subst (λ t. Says (status_on_disk t)) (sym e.3)
        (by_line e.0 (vain source' e.0 both.0 both.1 heeded e.2))

    says_why : (status : Status) → ServesOnDisk medium takes before after status → Says status
    says_why status (is_unopened why run heeded said) =
        said_as before.err status (status_on_disk (opening_fault why)) said
        (by_opening why (λ IsOfOpening IsOfCall is. opening why run heeded is) heeded)
    says_why status (over now source' between last done reads lives outcome heeded tells bytes
        of_disk (inl said)) =
        subst Says (sym said.0) (zero (record {
          now = now;
          source' = source';
          between = between;
          done = done;
          last = last;
          reads = reads;
          lives = lives;
          outcome = outcome;
          heeded = heeded;
          told = tells;
          bytes = bytes;
          of_disk = of_disk;
          printed = said.1;
        }) (sym heeded ∙ steady_unless (MayRefuse (act_given before.given) (Ok []))
        (source_behind before.given lives.worker) source' lives.heard
        (none_refused (act_given before.given) (Ok []) (λ source. absurd (cc))
        (λ telling. telling))))
    says_why status (over now source' between last done reads lives outcome heeded tells bytes
        of_disk (inr unsaid)) =
        subst Says (sym unsaid.0) (seven (inr unsaid.1))
    says_why status (broken why told source' between lives breaks heeded is tells said) =
        said_as between status (status_on_disk told) said
        (by_told why told source' lives breaks heeded is)

  pub statuses_have_causes : StatusesHaveCauses medium takes
  statuses_have_causes before after status serves = says_why before after status serves
