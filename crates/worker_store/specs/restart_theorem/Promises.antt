-- What is promised over lives: the restart theorem in the subject's words (this project's own).
use Rattle.std.specs.Prelude.{◌≡◌, ◌≢◌, ◌⊎◌, ℕ, ◌+◌, ◌-◌, ◌≤◌, ◌<◌, max, Bool, true, false}
use Rattle.std.specs.Prelude.{List, [], ◌∷◌, ◌++◌, length, take, drop, Option, Some, None, Ok}
use Rattle.wasm_syntax.specs.declared.module.Module.{Module}
use Rattle.wasm_syntax.specs.declared.types.FunctionType.{FunctionType}
use Rattle.wasm_rules.specs.Validity.{module_context, AreFunctionTypes}
use Rattle.wasi_abi.specs.declared.numbers.TheConstants.{NUMBERS_END}
use Rattle.wasi_abi.specs.declared.answer.Question.{Question}
use Rattle.wasi_abi.specs.declared.answer.Answer.{Answer}
use Rattle.wasi_abi.specs.rules.Answers.{Fits}
use Rattle.wasi_abi.specs.rules.Configs.{Settings}
use Rattle.wasi_abi.specs.declared.version.Version.TheVariants.{One, Two}
use Rattle.wasi_abi.specs.rules.Versions.{text_limit}
use Rattle.wasm_rules.specs.Configuration.{Configuration}
use Rattle.wasi_calls_rules.specs.WasiStates.{WasiState}
use Rattle.process_rules.specs.Processes.{ProcessState, HasLineNumbers}
use Rattle.process_rules.specs.Runs.{Kept, Given, On, Wants, next_of, version_after, Reaches}
use Rattle.process_rules.specs.Behind.{IsNarrowTo, AnswersBehindLine, AnswersBehindSync, IsLine}
use Rattle.disk_layout.specs.rules.Journal.{TakesRecords}
use Rattle.state_image.specs.rules.ProcessImage.{Saved, SavedShowsProcess}
use Rattle.worker_store.specs.restart_theorem.Lives.{Act, Slice, Batch, Checkpoint, Upgrade}
use Rattle.worker_store.specs.restart_theorem.Lives.{SourceSaid, Inputs, Release, Cause, OfJournal}
use Rattle.worker_store.specs.restart_theorem.Lives.{OfLines, OfBounds, Reply, Spent, Waits, Over}
use Rattle.worker_store.specs.restart_theorem.Lives.{Done, Fails, Event, Told, Asked, Opened, Ended}
use Rattle.worker_store.specs.restart_theorem.Lives.{Beginning, Recovers, Creates, Life}
use Rattle.worker_store.specs.restart_theorem.Lives.{kept_of_said, kept_by_end}
use Rattle.worker_store.specs.restart_theorem.Courses.{Stage, Shut, Open, NoneThere, at_beginning}
use Rattle.worker_store.specs.restart_theorem.Courses.{next_stage, stage_after, first_said}
use Rattle.worker_store.specs.restart_theorem.Courses.{first_taken, IsToldIn, IsAskedIn, ComesAfter}
use Rattle.worker_store.specs.restart_theorem.Courses.{IsLast, IsNextAct, AreToldBy, MayFail}
use Rattle.worker_store.specs.restart_theorem.Courses.{MayFailBatch, MayEnd}

-- ---- the promise

-- what has been promised so far
pub record Promise : Type 0 where
  -- the answers kept
  pub kept : List Kept
  -- how many of them, and how many steps, each later life has at least
  pub answers : ℕ
  pub steps : ℕ
  -- no line up to this one is told again
  pub passed : ℕ
  -- the last line whose release was begun, and the last one that an outlet took
  pub begun : ℕ
  pub heard : ℕ
  -- the guest's syncs up to this step have returned
  pub synced : ℕ
  -- whether a creation was begun, and whether a life has opened
  pub was_created : Bool
  pub has_opened : Bool
  -- how much has happened
  pub events : ℕ

-- before the first life
abbrev pub nothing_yet : Promise
nothing_yet = record {
  kept = [];
  answers = 0;
  steps = 0;
  passed = 0;
  begun = 0;
  heard = 0;
  synced = 0;
  was_created = false;
  has_opened = false;
  events = 0;
}

-- Up to which step the guest's syncs have returned: all steps where a call has said so, else all
-- but the last.
abbrev pub synced_by : Reply → ℕ → ℕ
synced_by (Fails cause) steps = steps - 1
synced_by _ steps = steps

-- how much of this count a call makes sure of for good: a checkpoint or an upgrade that is done all
-- of it
abbrev pub saved_by : Act → Reply → ℕ → ℕ
saved_by Checkpoint Done count = count
saved_by Upgrade Done count = count
saved_by _ reply count = 0

-- the number of a line that the outlet took
abbrev pub heard_by : Bool → ℕ → ℕ
heard_by true number = number
heard_by false number = 0

-- What is promised after an event. A life that opens is where it opened. What an earlier one
-- did beyond that is undone, the guest's syncs there included. Their answers are among those that
-- every later life opens with. A process that asks has all its syncs after it.
abbrev pub after : Promise → Event → Promise
after so_far (Told r is_taken) = record so_far {
  begun = max r.number so_far.begun;
  heard = max (heard_by is_taken r.number) so_far.heard;
  events = so_far.events + 1;
}
after so_far (Asked steps question said fits) = record so_far {
  kept = so_far.kept ++ kept_of_said said fits;
  synced = max steps so_far.synced;
  events = so_far.events + 1;
}
after so_far (Opened held shown) = record so_far {
  kept = take held so_far.kept;
  answers = max held so_far.answers;
  steps = max shown.steps so_far.steps;
  passed = max shown.lines so_far.passed;
  synced = shown.steps;
  has_opened = true;
  events = so_far.events + 1;
}
after so_far (Ended act reply held shown) = record so_far {
  kept = kept_by_end act shown so_far.kept;
  answers = max (saved_by act reply held) so_far.answers;
  steps = max (saved_by act reply shown.steps) so_far.steps;
  passed = max (saved_by act reply shown.lines) so_far.passed;
  synced = max (synced_by reply shown.steps) so_far.synced;
  events = so_far.events + 1;
}

-- what is promised after these events
abbrev pub promised : Promise → List Event → Promise
promised so_far [] = so_far
promised so_far (e ∷ events) = promised (after so_far e) events

-- whether a creation was begun, where a life begins so
abbrev pub created_by : Beginning → Bool → Bool
created_by Creates was_created = true
created_by Recovers was_created = was_created

-- what is promised as a life begins
abbrev pub as_begun : Beginning → Promise → Promise
as_begun begins so_far = record so_far { was_created = created_by begins so_far.was_created }

-- what is promised after a life, which counts also where nothing happens in it
abbrev pub promised_by : Promise → Life → Promise
promised_by so_far life = record (promised (as_begun life.begins so_far) life.events) {
  events = (promised (as_begun life.begins so_far) life.events).events + 1;
}

-- ---- what each event keeps

-- After so many steps on these answers, all of them, the module has come to this process. It is
-- shown whole: memory, globals, frames, files, descriptors, unfinished lines and counts.
pub record IsAt (m : Module) (config : Settings) (kept : List Kept) (steps : ℕ) (saved : Saved)
    : Type 0 where
  pub process : ProcessState
  pub reached : Reaches m config kept steps process
  pub functions : List FunctionType
  pub function_types : AreFunctionTypes m functions
  pub table : List (Option ℕ)
  pub shown : SavedShowsProcess (module_context m functions) reached.guest.program table saved
      process

-- A line that is told is the line of its number on the kept answers, and this call has come to it.
-- In a life numbers follow one another. Over lives none is left out that no outlet has taken, and
-- none is told again after which something was saved.
pub record IsTelling (m : Module) (config : Settings) (so_far : Promise) (stage : Stage)
    (r : Release) (is_taken : Bool) : Type 0 where
  -- no line number has two texts
  pub is_line : IsLine m config so_far.kept r.number r.line
  -- no line is told ahead of the call that makes it
  pub in_time : IsToldIn stage.phase stage.acts stage.step is_line.steps
  -- in a life none is left out, and none is told twice
  pub follows : ComesAfter stage.line r.number
  -- over all lives no number is skipped
  pub none_skipped : r.number ≤ so_far.heard + 1
  -- what was saved for good is told no more
  pub not_passed : so_far.passed < r.number
  -- an outlet that refuses a line is heard
  pub heard : is_taken ≡ first_taken stage.takes

-- what is said of an answer is so
abbrev pub IsFitting : ℕ → Question → SourceSaid → Bool → Type 0
IsFitting limit question (Ok (Some a)) true = Fits limit question a
IsFitting limit question (Ok (Some a)) false = Fits limit question a → ⊥
IsFitting limit question _ fits = Unit {0}

-- a question of a process of so many steps, and what the source says to it
pub record Inquiry : Type 0 where
  pub steps : ℕ
  pub question : Question
  pub said : SourceSaid
  pub fits : Bool

-- The process that all kept answers lead to asks for this. Each of its lines was told; in a batch
-- fewer than `most` may wait. The source says what it was to say next.
pub record IsInquiring (m : Module) (config : Settings) (so_far : Promise) (stage : Stage)
    (inquiry : Inquiry) : Type 0 where
  -- no answer is lost or taken twice: this is the process of all that are kept
  pub process : ProcessState
  pub reached : Reaches m config so_far.kept inquiry.steps process
  -- a process that has ended asks nothing
  pub running : process.ended ≡ None
  -- no question but its own is asked
  pub wants : next_of reached.guest process None ≡ Wants inquiry.question
  -- no question is asked ahead of its call
  pub in_time : IsAskedIn stage.phase stage.acts stage.step inquiry.steps
  -- its lines come before the answer to its next question
  pub all_told : AreToldBy stage.acts stage.line (length process.host.lines)
  -- what is said of an answer is so
  pub fitting : IsFitting (text_limit process.host.version) inquiry.question
      inquiry.said inquiry.fits
  -- no answer is made up
  pub heard : inquiry.said ≡ first_said stage.says

-- A prefix of so many kept answers, with a process of so many steps, holds all that was promised.
-- It has as many answers and steps, and has not run past a widening that is kept next. It has the
-- answers behind each line whose release was begun, and those behind each sync of the guest that
-- returned.
pub record HoldsAll (m : Module) (config : Settings) (kept : List Kept) (so_far : Promise)
    (held steps : ℕ) : Type 0 where
  -- nothing is added to the kept answers
  pub within : held ≤ length kept
  -- an upgrade stays
  pub up_to : IsNarrowTo (drop held kept) steps
  -- what was saved, or opened with, stays
  pub answers : so_far.answers ≤ held
  pub steps_held : so_far.steps ≤ steps
  -- the answers behind a line that was begun stay, and so does its text
  pub lines : (i : ℕ) → i ≤ so_far.begun
      → (a : ℕ) × (a ≤ held) × AnswersBehindLine m config kept i a
  -- the answers before a guest's sync that has returned stay
  pub syncs : (k a : ℕ) → k ≤ so_far.synced → AnswersBehindSync m config kept k a → a ≤ held

-- The last of these answers is taken by the last of so many steps: the process that the others lead
-- to wants it.
pub record TakesLast (m : Module) (config : Settings) (kept : List Kept) (steps : ℕ)
    : Type 0 where
  pub others : List Kept
  pub last : Answer
  pub are : kept ≡ others ++ Given last ∷ []
  pub before : ℕ
  pub next : steps ≡ before + 1
  pub process : ProcessState
  pub reached : Reaches m config others before process
  pub question : Question
  pub wants : next_of reached.guest process None ≡ Wants question

-- A life opens only where a creation was begun, by it or before it. It opens exactly where a prefix
-- of the kept answers leads that holds all that was promised. An outlet has taken every line up to
-- there, and this recovery has told none beyond it. One that has told a line stands right after the
-- step that took its last answer. One that has told none may also stand where it was saved.
pub record IsOpening (m : Module) (config : Settings) (so_far : Promise) (stage : Stage) (held : ℕ)
    (shown : Saved) : Type 0 where
  -- a life opens once
  pub shut : stage.phase ≡ Shut
  -- no worker comes of nothing
  pub created : so_far.was_created ≡ true
  -- the process that is shown is that of a prefix of the answers, whole
  pub at : IsAt m config (take held so_far.kept) shown.steps shown
  -- nothing is lost that was promised
  pub holds : HoldsAll m config so_far.kept so_far held shown.steps
  -- over all lives no line is skipped
  pub all_heard : shown.lines ≤ so_far.heard
  -- a recovery tells no line beyond where it opens
  pub none_beyond : IsLast stage.line shown.lines
  -- it takes no step further than its last answer leads
  pub no_further : (stage.line ≡ None) ⊎ TakesLast m config (take held so_far.kept) shown.steps

-- ---- ends of calls

-- all kept answers were taken, and each line was told, once in this life and none beyond
pub record IsCaughtUp (kept : List Kept) (stage : Stage) (held : ℕ) (shown : Saved) : Type 0 where
  -- no answer waits
  pub all_taken : held ≡ length kept
  -- no line waits, and none was told beyond
  pub all_told : stage.line ≡ Some shown.lines

-- The last line that was told, if there is one, is among the first so many.
abbrev pub IsOneOf : Option ℕ → ℕ → Type 0
IsOneOf None lines = Unit {0}
IsOneOf (Some last) lines = last ≤ lines

-- how many steps an act may take
abbrev pub fuel_of : Act → ℕ
fuel_of (Slice fuel) = fuel
fuel_of (Batch fuel most) = fuel
fuel_of Checkpoint = 0
fuel_of Upgrade = 0

-- Why an act may fail. An upgrade, and nothing else, may also say that the journal can't take each
-- record of version 2. Or it may say of a worker of version 1 that lines beyond it may have been
-- told: in a life that began by a recovery, until it has asked, or the process has ended.
abbrev pub MayPlead : Settings → List Kept → Stage → Act → Cause → Type 0
MayPlead config kept stage Upgrade OfJournal =
    (stage.phase ≡ Open) × (TakesRecords Two config.journal → ⊥)
MayPlead config kept stage Upgrade OfLines =
    (stage.phase ≡ Open) × (version_after kept ≡ One) × (stage.is_abreast ≡ false)
MayPlead config kept stage (Batch fuel most) cause = MayFailBatch stage.phase cause
MayPlead config kept stage act cause = MayFail stage.phase cause

-- A slice says that its steps are taken after exactly its fuel. It says that an answer isn't there
-- where the source has just said so, and that the process has ended where it has. So does a batch,
-- in which no line waits then. A checkpoint takes no step, and nor does an upgrade, which shows
-- version 2 where it is done. An error has a cause, and the process then has emitted each line that
-- was told. These are the answers kept in the end.
abbrev pub IsReply : Settings → List Kept → Stage → ℕ → Saved → Act → Reply → Type 0
IsReply config kept stage held shown (Slice fuel) Spent =
    (stage.phase ≡ Open) × (shown.steps ≡ stage.step + fuel) × (shown.ended ≡ None)
    × IsCaughtUp kept stage held shown
IsReply config kept stage held shown (Slice fuel) Waits =
    (stage.phase ≡ NoneThere shown.steps) × (shown.steps < stage.step + fuel)
    × (shown.ended ≡ None) × IsCaughtUp kept stage held shown
IsReply config kept stage held shown (Slice fuel) (Over why) =
    (stage.phase ≡ Open) × (shown.steps ≤ stage.step + fuel) × (shown.ended ≡ Some why)
    × IsCaughtUp kept stage held shown
IsReply config kept stage held shown (Batch fuel most) Spent =
    (stage.phase ≡ Open) × (shown.steps ≡ stage.step + fuel) × (shown.ended ≡ None)
    × IsCaughtUp kept stage held shown
IsReply config kept stage held shown (Batch fuel most) Waits =
    (stage.phase ≡ NoneThere shown.steps) × (shown.steps < stage.step + fuel)
    × (shown.ended ≡ None) × IsCaughtUp kept stage held shown
IsReply config kept stage held shown (Batch fuel most) (Over why) =
    (stage.phase ≡ Open) × (shown.steps ≤ stage.step + fuel) × (shown.ended ≡ Some why)
    × IsCaughtUp kept stage held shown
IsReply config kept stage held shown Checkpoint Done =
    (stage.phase ≡ Open) × (shown.steps ≡ stage.step) × IsCaughtUp kept stage held shown
IsReply config kept stage held shown Upgrade Done =
    (stage.phase ≡ Open) × (shown.steps ≡ stage.step) × (shown.version ≡ Two)
    × IsCaughtUp kept stage held shown
IsReply config kept stage held shown act (Fails cause) =
    MayPlead config kept stage act cause × (shown.steps ≤ stage.step + fuel_of act)
    × IsOneOf stage.line shown.lines
IsReply config kept stage held shown _ _ = ⊥

-- the next step of this process leads to a host whose lines have no numbers below their end
pub record HasLastLines {m : Module} {config : Settings} {kept : List Kept} {steps : ℕ}
    {saved : Saved} (at : IsAt m config kept steps saved) : Type 0 where
  pub given : Option Answer
  pub configuration : Configuration
  pub host : WasiState
  pub leads : next_of at.reached.guest at.process given ≡ On configuration host
  pub no_numbers : HasLineNumbers host → ⊥

-- Where a call says that a number is at its end, it is that of the next step, or of its lines. Or
-- so much has happened that it may be that of a generation.
abbrev pub IsAtBound : {m : Module} {config : Settings} {kept : List Kept} {steps : ℕ}
    {saved : Saved} → Promise → IsAt m config kept steps saved → Reply → Type 0
IsAtBound so_far at (Fails OfBounds) = (NUMBERS_END ≤ at.process.steps + 1)
    ⊎ (NUMBERS_END ≤ so_far.events + 1) ⊎ HasLastLines at
IsAtBound so_far at _ = Unit {0}

-- What has to be so where a call widens the process that it shows. No line beyond it was ever told,
-- and no guest sync beyond it has returned: later lives may not come to them again. The journal
-- takes each record of version 2.
pub record MayWiden (config : Settings) (so_far : Promise) (shown : Saved) : Type 0 where
  pub lines : so_far.begun ≤ shown.lines
  pub syncs : so_far.synced ≤ shown.steps
  pub room : TakesRecords Two config.journal

-- a call that ends
pub record CallEnd : Type 0 where
  pub act : Act
  pub reply : Reply
  pub held : ℕ
  pub shown : Saved

-- what is kept once it has ended
abbrev pub kept_then : Promise → CallEnd → List Kept
kept_then so_far end = kept_by_end end.act end.shown so_far.kept

-- The next act ends with a process that a prefix of the answers leads to that are kept then, and
-- takes no step back. It has widened that process only where it may.
pub record IsEnding (m : Module) (config : Settings) (so_far : Promise) (stage : Stage)
    (end : CallEnd) : Type 0 where
  -- calls come in the order in which they were wanted
  pub is_next : IsNextAct end.act stage.acts
  -- no answer is made up
  pub within : end.held ≤ length (kept_then so_far end)
  -- the process that is shown is that of a prefix of the answers, whole
  pub at : IsAt m config (take end.held (kept_then so_far end)) end.shown.steps end.shown
  -- no step is taken back
  pub onward : stage.step ≤ end.shown.steps
  -- what the call says is so
  pub reply : IsReply config (kept_then so_far end) stage end.held end.shown end.act end.reply
  -- a number is said to be at its end only where it is
  pub bound : IsAtBound so_far at end.reply
  -- an upgrade comes only where no later life can fall behind it
  pub widens : kept_then so_far end ≢ so_far.kept → MayWiden config so_far end.shown

-- ---- lives

-- an event keeps what was promised before it, where a life is so
abbrev pub IsKept : Module → Settings → Promise → Stage → Event → Type 0
IsKept m config so_far stage (Told r is_taken) = IsTelling m config so_far stage r is_taken
IsKept m config so_far stage (Asked steps question said fits) = IsInquiring m config so_far stage
    (record { steps = steps; question = question; said = said; fits = fits })
IsKept m config so_far stage (Opened held shown) = IsOpening m config so_far stage held shown
IsKept m config so_far stage (Ended act reply held shown) = IsEnding m config so_far stage
    (record { act = act; reply = reply; held = held; shown = shown })

-- every event of a life keeps what was promised before it
abbrev pub AreKept : Module → Settings → Promise → Stage → List Event → Type 0
AreKept m config so_far stage [] = Unit {0}
AreKept m config so_far stage (e ∷ events) = IsKept m config so_far stage e
    × AreKept m config (after so_far e) (next_stage stage e) events

-- what a creation opens has taken nothing yet, and told nothing
abbrev pub OpensAnew : List Event → Type 0
OpensAnew [] = Unit {0}
OpensAnew (Opened held shown ∷ events) = (held ≡ 0) × (shown.steps ≡ 0)
OpensAnew (e ∷ events) = ⊥

-- A life, with what was put into it, keeps what was promised before it. What has opened isn't
-- created again.
pub record IsLived (m : Module) (config : Settings) (so_far : Promise) (inputs : Inputs)
    (life : Life) : Type 0 where
  -- each event keeps what was promised
  pub kept : AreKept m config (as_begun life.begins so_far) (at_beginning life.begins inputs)
      life.events
  -- a life ends only for a cause
  pub ends : MayEnd inputs (promised (as_begun life.begins so_far) life.events).events life.calls
      (stage_after (at_beginning life.begins inputs) life.events) life.ends
  -- a worker is created once
  pub begins : life.begins ≡ Creates → (so_far.has_opened ≡ false) × OpensAnew life.events

-- Lives, one for each that was put in, keep what was promised so far.
abbrev pub GoOn : Module → Settings → Promise → List Inputs → List Life → Type 0
GoOn m config so_far [] [] = Unit {0}
GoOn m config so_far (inputs ∷ others) (life ∷ lives) = IsLived m config so_far inputs life
    × GoOn m config (promised_by so_far life) others lives
GoOn m config so_far [] (life ∷ lives) = ⊥
GoOn m config so_far (inputs ∷ others) [] = ⊥

-- The restart theorem of a list of lives, and of what was put into each. Restart after restart, the
-- worker goes on as one that was never stopped.
abbrev pub GoesOn : Module → Settings → List Inputs → List Life → Type 0
GoesOn m config inputs lives = GoOn m config nothing_yet inputs lives
