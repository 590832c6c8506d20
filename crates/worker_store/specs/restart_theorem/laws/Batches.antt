-- Batches that nobody wants, of which the restart theorem does not hold, and honest ones, of which
-- it does.
use Rattle.std.specs.Prelude.{◌≡◌, ◌≢◌, ◌≤◌, ◌<◌, ℕ, ◌+◌, Bool, true, List, [], ◌∷◌, length}
use Rattle.std.specs.Prelude.{Some, None, Ok, Err}
use Rattle.wasm_syntax.specs.declared.module.Module.{Module}
use Rattle.wasm_rules.specs.Validity.{IsValid}
use Rattle.wasi_abi.specs.declared.answer.Question.{Question}
use Rattle.wasi_abi.specs.declared.answer.Answer.{Answer}
use Rattle.wasi_abi.specs.declared.version.Version.TheVariants.{One, Two}
use Rattle.wasi_abi.specs.rules.Configs.{Settings}
use Rattle.process_rules.specs.Processes.{ProcessState}
use Rattle.process_rules.specs.Runs.{Given, version_after, Reaches}
use Rattle.process_rules.specs.Behind.{AnswersBehindSync}
use Rattle.record_replay.specs.declared.fault.SourceFault.{SourceFault}
use Rattle.state_image.specs.rules.ProcessImage.{Saved}
use Rattle.worker_store.specs.restart_theorem.Lives.{Act, Slice, Batch, SourceSaid, Inputs, Release}
use Rattle.worker_store.specs.restart_theorem.Lives.{Cause, OfDisk, OfSource, OfOutlet, Reply}
use Rattle.worker_store.specs.restart_theorem.Lives.{Spent, Waits, Fails, Event, Told, Asked}
use Rattle.worker_store.specs.restart_theorem.Lives.{Opened, Ended, End, Finished, Stopped, Failed}
use Rattle.worker_store.specs.restart_theorem.Lives.{Life}
use Rattle.worker_store.specs.restart_theorem.Courses.{Stage, Open, NoneThere, Broken, HasLastAsked}
use Rattle.worker_store.specs.restart_theorem.Courses.{phase_ended}
use Rattle.worker_store.specs.restart_theorem.Promises.{Promise, IsKept, GoesOn}
use Rattle.worker_store.specs.restart_theorem.laws.Refused.{in_peace, created_life, recovered_life}
use Rattle.worker_store.specs.restart_theorem.laws.Refused.{IsOfUpgrades}
use Rattle.worker_store.specs.restart_theorem.laws.Honest.{Teller, line_one, line_two}
use Rattle.worker_store.specs.restart_theorem.laws.Honest.{both_requests, asked_first, asked_second}
use Rattle.worker_store.specs.restart_theorem.laws.Honest.{replaying_life, nothing_to_do}

-- ---- events

-- Whatever was promised and wherever a life is, these events are refused. Each field's name says
-- what goes wrong.
pub record RefusedBatches (m : Module) (config : Settings) (so_far : Promise) (stage : Stage)
    : Type 0 where
  -- it asks while as many lines wait as never may
  pub holds_too_many : (fuel most last steps : ℕ) (acts : List Act) (p : ProcessState)
      (question : Question) (said : SourceSaid) (fits : Bool) → IsValid m
      → stage.acts ≡ Batch fuel most ∷ acts → stage.line ≡ Some last
      → Reaches m config so_far.kept steps p → 1 ≤ most → last + most ≤ length p.host.lines
      → IsKept m config so_far stage (Asked steps question said fits) → ⊥
  -- it ends by Ok while a line waits, or an answer wasn't taken
  pub leaves_a_line_untold : (fuel most last held : ℕ) (reply : Reply) (shown : Saved)
      → phase_ended reply ≡ Open → stage.line ≡ Some last → last < shown.lines
      → IsKept m config so_far stage (Ended (Batch fuel most) reply held shown) → ⊥
  pub leaves_an_answer_behind : (fuel most held : ℕ) (reply : Reply) (shown : Saved)
      → phase_ended reply ≡ Open → held < length so_far.kept
      → IsKept m config so_far stage (Ended (Batch fuel most) reply held shown) → ⊥
  -- it tells a line after one that the outlet has refused
  pub tells_behind_a_refusal : (r : Release) (is_taken : Bool) → stage.phase ≡ Broken OfOutlet
      → IsKept m config so_far stage (Told r is_taken) → ⊥
  -- a slice tells a line after its last question, as only a batch may
  pub slice_tells_late : (fuel : ℕ) (acts : List Act) (r : Release) (is_taken : Bool)
      → stage.acts ≡ Slice fuel ∷ acts → HasLastAsked stage.phase
      → IsKept m config so_far stage (Told r is_taken) → ⊥
  -- it asks after its last question
  pub asks_behind_the_last : (steps : ℕ) (question : Question) (said : SourceSaid) (fits : Bool)
      → HasLastAsked stage.phase
      → IsKept m config so_far stage (Asked steps question said fits) → ⊥
  -- it says that there is no answer, and has not asked
  pub waits_unasked : (fuel most held : ℕ) (shown : Saved) → stage.phase ≡ Open
      → IsKept m config so_far stage (Ended (Batch fuel most) Waits held shown) → ⊥
  -- it says Spent and takes no step
  pub idle : (fuel most held : ℕ) (shown : Saved) → 0 < fuel → shown.steps ≡ stage.step
      → IsKept m config so_far stage (Ended (Batch fuel most) Spent held shown) → ⊥
  -- it shows version 2, which was not kept
  pub widens : (fuel most held : ℕ) (reply : Reply) (shown : Saved)
      → version_after so_far.kept ≡ One → shown.version ≡ Two
      → IsKept m config so_far stage (Ended (Batch fuel most) reply held shown) → ⊥
  -- it fails as an upgrade does
  pub pleads_as_an_upgrade : (fuel most held : ℕ) (cause : Cause) (shown : Saved)
      → stage.phase ≡ Open → IsOfUpgrades cause
      → IsKept m config so_far stage (Ended (Batch fuel most) (Fails cause) held shown) → ⊥
  -- where the source has none, only the disk can still fail it; where the source has failed it,
  -- that or the disk
  pub pleads_without_an_answer : (fuel most steps held : ℕ) (cause : Cause) (shown : Saved)
      → stage.phase ≡ NoneThere steps → cause ≢ OfDisk
      → IsKept m config so_far stage (Ended (Batch fuel most) (Fails cause) held shown) → ⊥
  pub pleads_beside_the_source : (fuel most held : ℕ) (cause : Cause) (shown : Saved)
      → stage.phase ≡ Broken OfSource → cause ≢ OfDisk → cause ≢ OfSource
      → IsKept m config so_far stage (Ended (Batch fuel most) (Fails cause) held shown) → ⊥

-- ---- lives

-- Whole lives with batches that nobody wants.
pub record RefusedBatchLives (m : Module) (config : Settings) : Type 0 where
  -- a batch asks behind a guest sync, and the answer before that sync is lost
  pub lost_behind_sync : (i j : Inputs) (answer : Answer) (question another : Question)
      (steps later k calls more : ℕ) (fits : Bool) (ends others : End) (first second : Saved)
      (rest : List Event)
      → k ≤ later → AnswersBehindSync m config (Given answer ∷ []) k 1
      → GoesOn m config (i ∷ j ∷ [])
      (created_life (Opened 0 first ∷ Asked steps question (Ok (Some answer)) true
      ∷ Asked later another (Ok None) fits ∷ []) calls ends
      ∷ recovered_life (Opened 0 second ∷ rest) more others ∷ []) → ⊥
  -- two lines wait, and the second one is told without the first
  pub tells_the_second_first : (inputs : Inputs) (steps calls : ℕ) (question : Question)
      (said : SourceSaid) (fits : Bool) (ends : End) (first : Saved) (r : Release)
      (is_taken : Bool) (rest : List Event) → first.lines + 1 < r.number
      → GoesOn m config (inputs ∷ []) (created_life
      (Opened 0 first ∷ Asked steps question said fits ∷ Told r is_taken ∷ rest) calls ends
      ∷ []) → ⊥

-- ---- honest ones

-- Such a module makes no sync behind its first answer before it asks for the second.
pub record SyncsNothing {m : Module} {config : Settings} (t : Teller m config) : Type 0 where
  pub none : (k a : ℕ) → k ≤ 27
      → AnswersBehindSync m config (Given t.hello ∷ Given t.world ∷ []) k a → a ≡ 0

module _ {m : Module} {config : Settings} (t : Teller m config) where
  -- a batch of 42 steps asks for both requests before it tells a line
  abbrev pub both_asked : List Event → List Event
  both_asked more = Opened 0 t.fresh.saved ∷ asked_first t ∷ asked_second t ∷ more

  -- then it tells both lines, behind one barrier
  abbrev pub batch_life : Life
  batch_life = created_life (both_asked (Told (line_one t) true ∷ Told (line_two t) true
      ∷ Ended (Batch 42 2) Spent 2 t.later.saved ∷ [])) 40 Finished

  -- the power is cut in that barrier
  abbrev pub cut_batch : Life
  cut_batch = created_life (both_asked []) 35 Stopped

  -- which has left no answer, or one
  abbrev pub fresh_life : Life
  fresh_life = recovered_life (Opened 0 t.fresh.saved ∷ []) 30 Finished

  abbrev pub answered_life : Life
  answered_life = recovered_life (Opened 1 t.answered.saved ∷ []) 30 Finished

  -- a batch that asks for the second request while a line waits, to which the source says this
  abbrev pub asking_twice : SourceSaid → List Event → List Event
  asking_twice said more =
      Opened 0 t.fresh.saved ∷ asked_first t ∷ Asked 27 t.question said true ∷ more

  -- it has none, and the line is told then
  abbrev pub waiting_batch : Life
  waiting_batch = created_life (asking_twice (Ok None) (Told (line_one t) true
      ∷ Ended (Batch 42 2) Waits 1 t.asking.saved ∷ [])) 40 Finished

  -- or it fails
  abbrev pub failing_batch : SourceFault → Life
  failing_batch fault = created_life (asking_twice (Err fault) (Told (line_one t) true
      ∷ Ended (Batch 42 2) (Fails OfSource) 1 t.asking.saved ∷ [])) 40 (Failed OfSource)

  -- or the power is cut in the barrier before that line
  abbrev pub cut_behind : Life
  cut_behind = created_life (asking_twice (Ok None)
      (Ended (Batch 42 2) (Fails OfDisk) 1 t.asking.saved ∷ [])) 38 Stopped

  -- what the source says, and one batch in which a line may wait
  abbrev pub batch_42 : List SourceSaid → Inputs
  batch_42 says = in_peace says (Batch 42 2 ∷ [])

  abbrev pub first_request : List SourceSaid
  first_request = Ok (Some t.hello) ∷ []

  pub record HonestBatches : Type 0 where
    -- two questions, then two lines
    pub both_told : GoesOn m config (batch_42 (both_requests t) ∷ nothing_to_do t ∷ [])
        (batch_life ∷ replaying_life t ∷ [])
    -- a cut in the barrier, which leaves no answer, or one, or both
    pub none_left : SyncsNothing t
        → GoesOn m config (record (batch_42 (both_requests t)) { stop = Some 35 }
        ∷ nothing_to_do t ∷ []) (cut_batch ∷ fresh_life ∷ [])
    pub one_left : SyncsNothing t
        → GoesOn m config (record (batch_42 (both_requests t)) { stop = Some 35 }
        ∷ nothing_to_do t ∷ []) (cut_batch ∷ answered_life ∷ [])
    pub both_left : GoesOn m config (record (batch_42 (both_requests t)) { stop = Some 35 }
        ∷ nothing_to_do t ∷ []) (cut_batch ∷ replaying_life t ∷ [])
    -- a line that waits where the source has none, where it fails, and where the power is cut then
    pub none_there : GoesOn m config (batch_42 first_request ∷ []) (waiting_batch ∷ [])
    pub source_fails : (fault : SourceFault)
        → GoesOn m config (batch_42 (Ok (Some t.hello) ∷ Err fault ∷ []) ∷ [])
        (failing_batch fault ∷ [])
    pub cut_then : GoesOn m config (record (batch_42 first_request) { stop = Some 38 }
        ∷ nothing_to_do t ∷ []) (cut_behind ∷ answered_life ∷ [])
