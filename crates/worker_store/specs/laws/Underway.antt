-- A worker in the middle of an act that takes steps, as events of a life: its steps, its lines and
-- its questions.
use Rattle.std.specs.Prelude.{◌≡◌, ℕ, ◌+◌, ◌≤◌, ◌<◌, Bool, true, false, List, [], ◌∷◌}
use Rattle.std.specs.Prelude.{length, take, Some, None, Ok, Err, slice_get}
use Rattle.wasm_syntax.specs.declared.module.Module.{Module}
use Rattle.wasi_abi.specs.declared.answer.Question.{Question}
use Rattle.wasi_abi.specs.declared.answer.Answer.{Answer}
use Rattle.wasi_abi.specs.rules.Configs.{Settings}
use Rattle.wasi_abi.specs.rules.Versions.{text_limit}
use Rattle.wasi_calls_rules.specs.WasiStates.{Line}
use Rattle.process_rules.specs.Processes.{ProcessState, Guest, IsStart}
use Rattle.process_rules.specs.Runs.{Runs, Moves, Wants, next_of}
use Rattle.record_replay.specs.declared.fault.SourceFault.{SourceFault}
use Rattle.worker_store.specs.restart_theorem.Lives.{Act, SourceSaid, Release, Told, Asked}
use Rattle.worker_store.specs.restart_theorem.Lives.{OfSource, OfAnswer, OfOutlet}
use Rattle.worker_store.specs.restart_theorem.Courses.{Stage, Phase, Open, NoneThere, Broken}
use Rattle.worker_store.specs.restart_theorem.Courses.{next_stage, first_said, first_taken}
use Rattle.worker_store.specs.restart_theorem.Courses.{phase_asked, HasLastAsked, IsInBatch}
use Rattle.worker_store.specs.restart_theorem.Promises.{Promise, after, IsTelling, IsInquiring}
use Rattle.worker_store.specs.restart_theorem.Promises.{IsFitting, IsOneOf, fuel_of}
use Rattle.worker_store.specs.laws.Acts.{TakesSteps, most_held}

-- where a call stands once something from outside has failed it: how many of the kept answers its
-- process has taken, that process, and the phase of the life
pub record Standstill : Type 0 where
  pub held : ℕ
  pub process : ProcessState
  pub phase : Phase

-- of these
abbrev pub standstill : ℕ → ProcessState → Phase → Standstill
standstill held process phase = record { held = held; process = process; phase = phase }

module _ (m : Module) (config : Settings) (guest : Guest) where
  -- The module's process has taken the first so many of the kept answers. The act has come to its
  -- step.
  pub record IsInItsSlice (promise : Promise) (stage : Stage) (act : Act) (held : ℕ)
      (p : ProcessState) : Type 0 where
    pub acts : List Act
    pub slice : stage.acts ≡ act ∷ acts
    pub takes_steps : TakesSteps act
    pub within : held ≤ length promise.kept
    pub start : ProcessState
    pub begins : IsStart m config guest start
    pub runs : Runs guest start (take held promise.kept) p.steps p
    pub begun : stage.step ≤ p.steps
    pub in_time : p.steps ≤ stage.step + fuel_of act

  -- It has taken all of them, and so many of its lines were told.
  pub record IsUnderWay (promise : Promise) (stage : Stage) (act : Act) (told : ℕ)
      (p : ProcessState) : Type 0 where
    pub in_slice : IsInItsSlice promise stage act (length promise.kept) p
    pub is_open : stage.phase ≡ Open
    pub line : stage.line ≡ Some told
    pub emitted : told ≤ length p.host.lines
    pub heard : told ≤ promise.heard
    pub passed : promise.passed ≤ told

  -- The last question of a batch has ended it. So many of its lines were told, and others may wait.
  pub record HasLinesLeft (promise : Promise) (stage : Stage) (act : Act) (told : ℕ)
      (p : ProcessState) : Type 0 where
    pub in_slice : IsInItsSlice promise stage act (length promise.kept) p
    pub batch : IsInBatch stage.acts
    pub asked : HasLastAsked stage.phase
    pub line : stage.line ≡ Some told
    pub emitted : told ≤ length p.host.lines
    pub heard : told ≤ promise.heard
    pub passed : promise.passed ≤ told

  -- Something from outside has failed the call, and the process is where it was. It has emitted
  -- each line that was told.
  pub record IsBroken (promise : Promise) (stage : Stage) (act : Act) (at : Standstill)
      : Type 0 where
    pub in_slice : IsInItsSlice promise stage act at.held at.process
    pub is : stage.phase ≡ at.phase
    pub told : IsOneOf stage.line (length at.process.host.lines)

  -- ---- steps

  -- Steps without answers go on in the act.
  abbrev pub StepsGoOn : Type 0
  StepsGoOn =
      (promise : Promise) (stage : Stage) (act : Act) (told n : ℕ) (p q : ProcessState)
      → IsUnderWay promise stage act told p → Runs guest p [] n q
      → p.steps + n ≤ stage.step + fuel_of act → IsUnderWay promise stage act told q

  -- ---- lines

  -- The next line that was not told is told, whether the outlet takes it or not.
  abbrev pub LinesAreTold : Type 0
  LinesAreTold =
      (promise : Promise) (stage : Stage) (act : Act) (told : ℕ) (p : ProcessState) (line : Line)
      → IsUnderWay promise stage act told p → slice_get p.host.lines told ≡ Some line
      → IsTelling m config promise stage (record { number = told + 1; line = line })
      (first_taken stage.takes)

  -- After one that was taken the act goes on.
  abbrev pub TakenLinesGoOn : Type 0
  TakenLinesGoOn =
      (promise : Promise) (stage : Stage) (act : Act) (told : ℕ) (p : ProcessState) (line : Line)
      → IsUnderWay promise stage act told p → slice_get p.host.lines told ≡ Some line
      → (let r : Release = record { number = told + 1; line = line } in
      IsUnderWay (after promise (Told r true)) (next_stage stage (Told r true)) act (told + 1) p)

  -- One of them that was refused fails it.
  abbrev pub RefusedLinesBreak : Type 0
  RefusedLinesBreak =
      (promise : Promise) (stage : Stage) (act : Act) (told : ℕ) (p : ProcessState) (r : Release)
      → IsUnderWay promise stage act told p → r.number ≤ length p.host.lines
      → IsBroken (after promise (Told r false)) (next_stage stage (Told r false)) act
      (standstill (length promise.kept) p (Broken OfOutlet))

  -- ---- questions

  -- What a process asks for is a question, whatever is said to it. So many of its lines were told,
  -- and no more wait than may in this act.
  pub record IsAtQuestion (promise : Promise) (stage : Stage) (act : Act) (p : ProcessState)
      (question : Question) : Type 0 where
    pub told : ℕ
    pub way : IsUnderWay promise stage act told p
    pub few : length p.host.lines ≤ told + most_held act
    pub running : p.ended ≡ None
    pub wants : next_of guest p None ≡ Wants question
    pub room : p.steps < stage.step + fuel_of act

  -- It keeps what was promised, whatever is said to it.
  abbrev pub QuestionsAreAsked : Type 0
  QuestionsAreAsked =
      (promise : Promise) (stage : Stage) (act : Act) (p : ProcessState) (question : Question)
      (fits : Bool) → IsAtQuestion promise stage act p question
      → IsFitting (text_limit p.host.version) question (first_said stage.says) fits
      → IsInquiring m config promise stage (record {
        steps = p.steps;
        question = question;
        said = first_said stage.says;
        fits = fits;
      })

  -- A question, and where it leads: to this promise and this stage.
  abbrev pub promise_asked : Promise → ProcessState → Question → SourceSaid → Bool → Promise
  promise_asked promise p question said fits = after promise (Asked p.steps question said fits)

  abbrev pub stage_asked : Stage → ProcessState → Question → SourceSaid → Bool → Stage
  stage_asked stage p question said fits = next_stage stage (Asked p.steps question said fits)

  -- An answer that fits, and that the process takes, goes on.
  abbrev pub AnswersGoOn : Type 0
  AnswersGoOn =
      (promise : Promise) (stage : Stage) (act : Act) (p q : ProcessState) (question : Question)
      (a : Answer) → (asks : IsAtQuestion promise stage act p question) → Moves guest p (Some a) q
      → IsUnderWay (promise_asked promise p question (Ok (Some a)) true)
      (stage_asked stage p question (Ok (Some a)) true) act asks.told q

  -- One that fits, and that the process has not taken yet, is kept all the same.
  abbrev pub AnswersAreKept : Type 0
  AnswersAreKept =
      (promise : Promise) (stage : Stage) (act : Act) (p : ProcessState) (question : Question)
      (a : Answer) → IsAtQuestion promise stage act p question
      → IsBroken (promise_asked promise p question (Ok (Some a)) true)
      (stage_asked stage p question (Ok (Some a)) true) act
      (standstill (length promise.kept) p Open)

  -- After any other the process is where it was: one that doesn't fit, none, or a fault.
  pub record OthersBreak (promise : Promise) (stage : Stage) (act : Act) (p : ProcessState)
      (question : Question) : Type 0 where
    pub misfit : (a : Answer)
        → IsBroken (promise_asked promise p question (Ok (Some a)) false)
        (stage_asked stage p question (Ok (Some a)) false) act
        (standstill (length promise.kept) p (Broken OfAnswer))
    pub none_there : (fits : Bool) → IsBroken (promise_asked promise p question (Ok None) fits)
        (stage_asked stage p question (Ok None) fits) act
        (standstill (length promise.kept) p (NoneThere p.steps))
    pub fault : (e : SourceFault) (fits : Bool)
        → IsBroken (promise_asked promise p question (Err e) fits)
        (stage_asked stage p question (Err e) fits) act
        (standstill (length promise.kept) p (Broken OfSource))

  abbrev pub OtherAnswersBreak : Type 0
  OtherAnswersBreak =
      (promise : Promise) (stage : Stage) (act : Act) (p : ProcessState) (question : Question)
      → IsAtQuestion promise stage act p question → OthersBreak promise stage act p question

  -- In a batch, lines that wait are still to be told after a question that ends it.
  abbrev pub LinesAreLeft : Type 0
  LinesAreLeft =
      (promise : Promise) (stage : Stage) (act : Act) (p : ProcessState) (question : Question)
      (said : SourceSaid) (fits : Bool) → (asks : IsAtQuestion promise stage act p question)
      → IsInBatch stage.acts → HasLastAsked (phase_asked p.steps said fits)
      → HasLinesLeft (promise_asked promise p question said fits)
      (stage_asked stage p question said fits) act asks.told p

  -- So its process is where it was.
  abbrev pub LeftIsBroken : Type 0
  LeftIsBroken =
      (promise : Promise) (stage : Stage) (act : Act) (told : ℕ) (p : ProcessState)
      → HasLinesLeft promise stage act told p
      → IsBroken promise stage act (standstill (length promise.kept) p stage.phase)
