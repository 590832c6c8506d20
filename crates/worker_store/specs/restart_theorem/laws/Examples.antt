-- Two lives of a worker that tells each request again, and what is promised after each sort of
-- event. The power is cut after the first line was told, and before its record of the steps after
-- it.
use Rattle.std.specs.Prelude.{◌≡◌, ℕ, true, false, List, [], ◌∷◌, codes, Some, None, Ok}
use Rattle.wasi_abi.specs.declared.version.Version.TheVariants.{One, Two}
use Rattle.wasi_abi.specs.declared.answer.Question.TheVariants as question
use Rattle.wasi_abi.specs.declared.answer.Answer.{Answer}
use Rattle.wasi_abi.specs.declared.answer.Answer.TheVariants as answer
use Rattle.wasi_calls_rules.specs.declared.output_stream.OutputStream.TheVariants.{Stdout}
use Rattle.process_rules.specs.Processes.{Exited}
use Rattle.process_rules.specs.Runs.{Given, Wider}
use Rattle.state_image.specs.rules.ProcessImage.{Saved}
use Rattle.wasi_abi.specs.rules.Configs.{Settings}
use Rattle.worker_store.specs.restart_theorem.Lives.{Slice, Batch, Checkpoint, Upgrade, Inputs}
use Rattle.worker_store.specs.restart_theorem.Lives.{Release, OfDisk, OfMemory, OfOutlet, Over}
use Rattle.worker_store.specs.restart_theorem.Lives.{Waits, OfSource, Reply, Spent, Done, Fails}
use Rattle.worker_store.specs.restart_theorem.Lives.{Event, Told, Asked, Opened, Ended, Recovers}
use Rattle.worker_store.specs.restart_theorem.Lives.{Creates, Finished, Stopped, Failed, Life}
use Rattle.worker_store.specs.restart_theorem.Lives.{kept_after, kept_answers, told_lines}
use Rattle.worker_store.specs.restart_theorem.Courses.{Phase, Stage, Shut, Unheard, Open, NoneThere}
use Rattle.worker_store.specs.restart_theorem.Courses.{Broken, Closed, at_first, at_beginning}
use Rattle.worker_store.specs.restart_theorem.Courses.{stage_after, IsToldIn, IsAskedIn, MayEnd}
use Rattle.worker_store.specs.restart_theorem.Promises.{Promise, nothing_yet, promised, IsReply}

-- ---- events

-- what a process shows that has come to so many steps and lines; the rest counts for nothing here
abbrev pub saved_at : ℕ → ℕ → Saved
saved_at steps lines = record {
  version = One;
  machine = record { frames = []; globals = []; memory = []; later = [] };
  files = record { nodes = []; next = 2 };
  descriptors = [];
  unread = [];
  input_ended = false;
  last_monotonic = 0;
  first = [];
  second = [];
  steps = steps;
  answers = 0;
  requests = 0;
  lines = lines;
  ended = None;
}

abbrev pub hello_line : Release
hello_line = record { number = 1; line = record { stream = Stdout; text = codes "hello" } }

-- a process of five steps asks for a request, and this is the answer
abbrev pub hands_over : Answer → Event
hands_over a = Asked 5 question.Request (Ok (Some a)) true

abbrev pub hello_request : Event
hello_request = hands_over (answer.Request (codes "hello"))

abbrev pub first_life : Life
first_life = record {
  begins = Creates;
  events = Opened 0 (saved_at 0 0) ∷ hello_request ∷ Told hello_line true
      ∷ Ended (Slice 20) Spent 1 (saved_at 20 1) ∷ [];
  calls = 9;
  ends = Finished;
}

abbrev pub second_life : Life
second_life = record {
  begins = Recovers;
  events = Opened 1 (saved_at 6 0) ∷ Told hello_line true
      ∷ Ended (Slice 14) Spent 1 (saved_at 20 1) ∷ [];
  calls = 9;
  ends = Finished;
}

-- the answers that are left where a life opens without its last one
abbrev pub lost_life : Life
lost_life = record second_life { events = Opened 0 (saved_at 5 0) ∷ [] }

-- three answers were handed in, of which the next life has taken two
abbrev pub shortened : List Event
shortened = hands_over (answer.Realtime 7) ∷ hands_over (answer.Realtime 8)
    ∷ hands_over (answer.Realtime 9) ∷ Opened 2 (saved_at 5 0) ∷ []

-- an upgrade ends with a process of version 2, after 20 steps
abbrev pub upgrade_ended : Reply → Event
upgrade_ended reply = Ended Upgrade reply 2 (record (saved_at 20 1) { version = Two; answers = 2 })

pub record LivesExamples : Type 0 where
  pub kept : kept_answers (first_life ∷ second_life ∷ [])
      ≡ Given (answer.Request (codes "hello")) ∷ []
  pub told : told_lines (first_life ∷ second_life ∷ []) ≡ hello_line ∷ hello_line ∷ []
  pub lost : kept_answers (first_life ∷ lost_life ∷ []) ≡ []
  pub first_two : kept_after [] shortened
      ≡ Given (answer.Realtime 7) ∷ Given (answer.Realtime 8) ∷ []
  -- an answer that doesn't fit isn't kept, and none and a fault are nothing to keep
  pub misfit : kept_after [] (Asked 5 question.Request (Ok (Some (answer.Realtime 7)))
      false ∷ []) ≡ []
  pub none_there : kept_after [] (Asked 5 question.Request (Ok None) true ∷ []) ≡ []
  -- What is kept where an upgrade ends: that the process was widened which it shows, once, also
  -- where the upgrade has failed. A process that stays in version 1 was not.
  pub widened : kept_after [] (hello_request ∷ upgrade_ended Done ∷ [])
      ≡ Given (answer.Request (codes "hello")) ∷ Wider 20 ∷ []
  pub widened_once : kept_after [] (hello_request ∷ upgrade_ended Done ∷ upgrade_ended Done ∷ [])
      ≡ Given (answer.Request (codes "hello")) ∷ Wider 20 ∷ []
  pub widened_in_vain : kept_after [] (hello_request ∷ upgrade_ended (Fails OfDisk) ∷ [])
      ≡ Given (answer.Request (codes "hello")) ∷ Wider 20 ∷ []
  pub not_widened : kept_after [] (hello_request
      ∷ Ended Upgrade (Fails OfDisk) 1 (saved_at 20 1) ∷ [])
      ≡ Given (answer.Request (codes "hello")) ∷ []
  -- nor does a checkpoint widen it
  pub saved_alone : kept_after [] (hello_request
      ∷ Ended Checkpoint Done 2 (record (saved_at 20 1) { version = Two }) ∷ [])
      ≡ Given (answer.Request (codes "hello")) ∷ []
  pub narrow_again : kept_after [] (hello_request ∷ upgrade_ended (Fails OfDisk)
      ∷ Opened 1 (saved_at 6 0) ∷ []) ≡ Given (answer.Request (codes "hello")) ∷ []

-- ---- promises

abbrev pub promised_to : List Event → Promise
promised_to events = promised nothing_yet events

-- an opening, and the request handed in
abbrev pub once_asked : List Event → List Event
once_asked later = Opened 0 (saved_at 0 0) ∷ hello_request ∷ later

-- what is promised once the request was taken: so many answers, steps and lines for good, and the
-- step of the last sync
abbrev pub promise_of : ℕ → ℕ → ℕ → ℕ → ℕ → Promise
promise_of answers steps passed synced events = record nothing_yet {
  kept = Given (answer.Request (codes "hello")) ∷ [];
  answers = answers;
  steps = steps;
  passed = passed;
  synced = synced;
  has_opened = true;
  events = events;
}

-- A call that answers Ok has brought back the guest's syncs of all its steps, else of all but the
-- last. Only a checkpoint that is done holds answers, steps and lines for good, and so does an
-- opening. What a later life has not taken again is not synced in it.
pub record PromiseExamples : Type 0 where
  pub after_a_question : promised_to (once_asked []) ≡ promise_of 0 0 0 5 2
  pub after_a_slice : promised_to (once_asked (Ended (Slice 20) Spent 1 (saved_at 20 1) ∷ []))
      ≡ promise_of 0 0 0 20 3
  pub after_a_failed_slice : promised_to
      (once_asked (Ended (Slice 20) (Fails OfDisk) 1 (saved_at 20 1) ∷ []))
      ≡ promise_of 0 0 0 19 3
  pub after_a_failed_checkpoint : promised_to
      (once_asked (Ended Checkpoint (Fails OfDisk) 1 (saved_at 20 1) ∷ []))
      ≡ promise_of 0 0 0 19 3
  pub after_a_checkpoint : promised_to
      (once_asked (Ended Checkpoint Done 1 (saved_at 20 1) ∷ [])) ≡ promise_of 1 20 1 20 3
  -- an upgrade that is done holds as much as a checkpoint, and the widening
  pub after_an_upgrade : promised_to (once_asked (upgrade_ended Done ∷ []))
      ≡ record (promise_of 2 20 1 20 3) {
        kept = Given (answer.Request (codes "hello")) ∷ Wider 20 ∷ [];
      }
  pub after_a_failed_upgrade : promised_to (once_asked (upgrade_ended (Fails OfDisk) ∷ []))
      ≡ record (promise_of 0 0 0 19 3) {
        kept = Given (answer.Request (codes "hello")) ∷ Wider 20 ∷ [];
      }
  pub after_another_slice : promised_to
      (once_asked (Ended Checkpoint Done 1 (saved_at 20 1)
      ∷ Ended (Slice 10) Spent 1 (saved_at 30 2) ∷ [])) ≡ promise_of 1 20 1 30 4
  pub after_opening : promised_to
      (once_asked (Ended (Slice 20) Spent 1 (saved_at 20 1) ∷ Opened 1 (saved_at 6 0) ∷ []))
      ≡ promise_of 1 6 0 6 4
  pub after_opening_further : promised_to
      (once_asked (Ended Checkpoint Done 1 (saved_at 20 1) ∷ Opened 1 (saved_at 25 1) ∷ []))
      ≡ promise_of 1 25 1 25 4
  -- a call that fails in its first step has not undone a sync, nor an opening what is for good
  pub after_no_step : promised_to
      (once_asked (Opened 1 (saved_at 6 0) ∷ Ended (Slice 9) (Fails OfDisk) 1 (saved_at 6 0) ∷ []))
      ≡ promise_of 1 6 0 6 4
  pub after_less : (promised_to (once_asked
      (Ended Checkpoint Done 1 (saved_at 20 1) ∷ Opened 0 (saved_at 6 0) ∷ []))).answers ≡ 1
  pub after_fewer_steps : (promised_to (once_asked
      (Ended Checkpoint Done 1 (saved_at 20 1) ∷ Opened 1 (saved_at 6 0) ∷ []))).steps ≡ 20
  pub after_fewer_lines : (promised_to (once_asked
      (Ended Checkpoint Done 1 (saved_at 20 1) ∷ Opened 1 (saved_at 6 0) ∷ []))).passed ≡ 1
  -- a line that was begun counts, whoever took it
  pub after_telling : promised_to (once_asked (Told hello_line true ∷ []))
      ≡ record (promise_of 0 0 0 5 3) { begun = 1; heard = 1 }
  pub after_a_refusal : promised_to (once_asked (Told hello_line false ∷ []))
      ≡ record (promise_of 0 0 0 5 3) { begun = 1 }

-- ---- where a life is

-- one slice of 20 steps; the source has one answer, and the outlet refuses the second line
abbrev pub some_inputs : Inputs
some_inputs = record {
  says = Ok (Some (answer.Realtime 7)) ∷ [];
  takes = true ∷ false ∷ [];
  acts = Slice 20 ∷ [];
  stop = Some 8;
  fails = None;
}

abbrev pub stage_behind : List Event → Stage
stage_behind events = stage_after (at_first some_inputs) events

-- a life of these inputs, in this phase
abbrev pub in_phase : Phase → Stage
in_phase phase = record (at_first some_inputs) { phase = phase }

pub record CourseExamples : Type 0 where
  pub at_first_shut : (stage_behind []).phase ≡ Shut
  pub refused_in_a_recovery : (stage_behind (Told hello_line false ∷ [])).phase ≡ Unheard
  pub opened : stage_behind (Opened 0 (saved_at 3 2) ∷ [])
      ≡ record (at_first some_inputs) { phase = Open; step = 3; line = Some 2 }
  pub none_there : (stage_behind
      (Opened 0 (saved_at 0 0) ∷ Asked 5 question.Request (Ok None) true ∷ [])).phase ≡ NoneThere 5
  pub refused : (stage_behind (Opened 0 (saved_at 0 0) ∷ Told hello_line false ∷ [])).phase
      ≡ Broken OfOutlet
  pub failed : (stage_behind (Opened 0 (saved_at 0 0)
      ∷ Ended (Slice 20) (Fails OfDisk) 0 (saved_at 4 0) ∷ [])).phase ≡ Closed OfDisk
  pub used_up : stage_behind (Opened 0 (saved_at 0 0) ∷ Told hello_line true
      ∷ hands_over (answer.Realtime 7) ∷ Ended (Slice 20) Spent 1 (saved_at 20 1) ∷ [])
      ≡ record {
        phase = Open;
        says = [];
        takes = false ∷ [];
        acts = [];
        step = 20;
        line = Some 1;
        is_abreast = true;
      }
  -- lines of a slice from step 3 on, with fuel for 20 steps, and questions of it
  pub told_within : IsToldIn Open (Slice 20 ∷ []) 3 23
  pub told_beyond : IsToldIn Open (Slice 20 ∷ []) 3 24 → ⊥
  pub told_before : IsToldIn Open (Slice 20 ∷ []) 3 2 → ⊥
  pub told_by_a_checkpoint : IsToldIn Open (Checkpoint ∷ []) 3 3 → ⊥
  pub told_by_an_upgrade : IsToldIn Open (Upgrade ∷ []) 3 3 → ⊥
  pub asked_within : IsAskedIn Open (Slice 20 ∷ []) 3 22
  pub asked_without_fuel : IsAskedIn Open (Slice 20 ∷ []) 3 23 → ⊥
  -- a life is abreast once it has asked, or ended
  pub abreast_at_a_question : (stage_behind
      (Opened 0 (saved_at 0 0) ∷ Asked 5 question.Request (Ok None) true ∷ [])).is_abreast ≡ true
  pub abreast_at_the_end : (stage_behind (Opened 0 (saved_at 0 0)
      ∷ Ended (Slice 20) (Over (Exited 7)) 0 (saved_at 8 1) ∷ [])).is_abreast ≡ true
  pub not_abreast_after_a_slice : (stage_behind (Opened 0 (saved_at 0 0)
      ∷ Ended (Slice 20) Spent 0 (saved_at 20 0) ∷ [])).is_abreast ≡ false
  -- where a recovery opens it isn't, but where the process has ended; a created life always is
  pub not_abreast_when_recovered : (stage_behind (Opened 1 (saved_at 6 0) ∷ [])).is_abreast
      ≡ false
  pub abreast_when_recovered_at_the_end : (stage_behind
      (Opened 0 (record (saved_at 8 1) { ended = Some (Exited 7) }) ∷ [])).is_abreast ≡ true
  pub abreast_when_created : (stage_after (at_beginning Creates some_inputs)
      (Opened 0 (saved_at 0 0) ∷ [])).is_abreast ≡ true
  -- how lives end, whose stop was to come at their eighth call of the disk
  pub stopped : MayEnd some_inputs 0 8 (at_first some_inputs) Stopped
  pub stopped_too_early : MayEnd some_inputs 0 7 (at_first some_inputs) Stopped → ⊥
  pub failed_too_late : MayEnd some_inputs 0 8 (at_first some_inputs) (Failed OfMemory) → ⊥
  pub failed_by_no_fault : MayEnd some_inputs 0 7 (at_first some_inputs) (Failed OfDisk) → ⊥
  pub failed_by_memory : MayEnd some_inputs 0 7 (at_first some_inputs) (Failed OfMemory)
  pub shut_by_a_source : MayEnd some_inputs 0 7 (at_first some_inputs) (Failed OfSource) → ⊥
  pub shut_by_nothing : MayEnd some_inputs 0 7 (at_first some_inputs) Finished → ⊥
  -- a life that has failed says why
  pub unheard : MayEnd some_inputs 0 7 (in_phase Unheard) (Failed OfOutlet)
  pub unheard_told_as_memory : MayEnd some_inputs 0 7 (in_phase Unheard) (Failed OfMemory) → ⊥
  pub closed : MayEnd some_inputs 0 7 (in_phase (Closed OfMemory)) (Failed OfMemory)
  pub closed_told_as_a_disk : MayEnd some_inputs 0 7 (in_phase (Closed OfMemory)) (Failed OfDisk)
      → ⊥
  -- a call in which the power is cut has seen a fault of the disk, if it answers at all
  pub cut_in_a_call : MayEnd some_inputs 0 8 (in_phase Open) Stopped
  pub cut_told_as_memory : MayEnd some_inputs 0 8 (in_phase (Closed OfMemory)) Stopped → ⊥

-- ---- what a call says

-- a call that began at step 0 has told the lines up to this one
abbrev pub in_call : Phase → ℕ → Stage
in_call phase line = record (in_phase phase) { line = Some line }

-- what a process shows that has exited
abbrev pub exited_at : ℕ → ℕ → Saved
exited_at steps lines = record (saved_at steps lines) { ended = Some (Exited 7) }

-- What calls may say, and what they may not. No answer is kept here.
pub record ReplyExamples (config : Settings) : Type 0 where
  pub spent : IsReply config [] (in_call Open 1) 0 (saved_at 20 1) (Slice 20) Spent
  pub spent_too_early : IsReply config [] (in_call Open 1) 0 (saved_at 19 1) (Slice 20) Spent → ⊥
  pub spent_with_a_line_untold : IsReply config [] (in_call Open 0) 0 (saved_at 20 1) (Slice 20)
      Spent → ⊥
  pub waits : IsReply config [] (in_call (NoneThere 5) 1) 0 (saved_at 5 1) (Slice 20) Waits
  pub waits_unasked : IsReply config [] (in_call Open 1) 0 (saved_at 5 1) (Slice 20) Waits → ⊥
  pub batch_waits : IsReply config [] (in_call (NoneThere 5) 1) 0 (saved_at 5 1) (Batch 20 9) Waits
  pub batch_waits_with_a_line_untold : IsReply config [] (in_call (NoneThere 5) 0) 0 (saved_at 5 1)
      (Batch 20 9) Waits → ⊥
  pub over : IsReply config [] (in_call Open 1) 0 (exited_at 8 1) (Slice 20) (Over (Exited 7))
  pub over_while_it_runs : IsReply config [] (in_call Open 1) 0 (saved_at 8 1) (Slice 20)
      (Over (Exited 7)) → ⊥
  pub saved : IsReply config [] (in_call Open 1) 0 (saved_at 0 1) Checkpoint Done
  pub saved_a_step_on : IsReply config [] (in_call Open 1) 0 (saved_at 1 1) Checkpoint Done → ⊥
  pub slice_that_is_done : IsReply config [] (in_call Open 1) 0 (saved_at 20 1) (Slice 20) Done → ⊥
  pub disk_fails : IsReply config [] (in_call Open 1) 0 (saved_at 3 1) (Slice 20) (Fails OfDisk)
  pub outlet_refuses : IsReply config [] (in_call (Broken OfOutlet) 1) 0 (saved_at 3 1) (Slice 20)
      (Fails OfOutlet)
  pub outlet_blamed : IsReply config [] (in_call Open 1) 0 (saved_at 3 1) (Slice 20)
      (Fails OfOutlet) → ⊥
  pub refusal_told_as_memory : IsReply config [] (in_call (Broken OfOutlet) 1) 0 (saved_at 3 1)
      (Slice 20) (Fails OfMemory) → ⊥
