-- Workers that nobody wants: of their lives the restart theorem does not hold.
use Rattle.std.specs.Prelude.{◌≡◌, ◌≢◌, ◌≤◌, ◌<◌, ℕ, ◌+◌, Bool, true, false, List, [], ◌∷◌}
use Rattle.std.specs.Prelude.{◌++◌, length, Some, None, Ok}
use Rattle.wasm_syntax.specs.declared.module.Module.{Module}
use Rattle.wasm_rules.specs.Validity.{IsValid}
use Rattle.wasi_abi.specs.declared.answer.Question.{Question}
use Rattle.wasi_abi.specs.declared.answer.Question.TheVariants as question
use Rattle.wasi_abi.specs.declared.answer.Answer.{Answer}
use Rattle.wasi_abi.specs.declared.answer.Answer.TheVariants as answer
use Rattle.wasi_abi.specs.declared.version.Version.TheVariants.{One, Two}
use Rattle.wasi_abi.specs.rules.Answers.{IsRequestText}
use Rattle.wasi_abi.specs.rules.Configs.{Settings}
use Rattle.wasi_calls_rules.specs.WasiStates.{Line}
use Rattle.wasi_calls_rules.specs.declared.output_stream.OutputStream.TheVariants.{Stdout}
use Rattle.process_rules.specs.Processes.{Ending, ProcessState}
use Rattle.process_rules.specs.Runs.{Given, version_after, Reaches}
use Rattle.process_rules.specs.Behind.{AnswersBehindSync}
use Rattle.state_image.specs.rules.ProcessImage.{Saved}
use Rattle.worker_store.specs.restart_theorem.Lives.{Act, Slice, Checkpoint, Upgrade, SourceSaid}
use Rattle.worker_store.specs.restart_theorem.Lives.{Inputs, Release, Cause, OfJournal, OfLines}
use Rattle.worker_store.specs.restart_theorem.Lives.{OfDisk, OfSource, OfAnswer, OfOutlet, OfMemory}
use Rattle.worker_store.specs.restart_theorem.Lives.{Reply, Spent, Waits, Done, Fails, Event, Told}
use Rattle.worker_store.specs.restart_theorem.Lives.{Asked, Opened, Ended, Beginning, Recovers}
use Rattle.worker_store.specs.restart_theorem.Lives.{Creates, End, Stopped, Failed, Life}
use Rattle.worker_store.specs.restart_theorem.Lives.{kept_by_end}
use Rattle.worker_store.specs.restart_theorem.Courses.{Stage, Shut, Open, Closed}
use Rattle.worker_store.specs.restart_theorem.Promises.{Promise, nothing_yet, as_begun, fuel_of}
use Rattle.worker_store.specs.restart_theorem.Promises.{IsKept, IsLived, GoesOn}

-- ---- words

-- nothing is put in the way of a life: no stop, no fault of the disk, and an outlet that takes all
abbrev pub in_peace : List SourceSaid → List Act → Inputs
in_peace says acts = record { says = says; takes = []; acts = acts; stop = None; fails = None }

abbrev pub created_life : List Event → ℕ → End → Life
created_life events calls ends =
    record { begins = Creates; events = events; calls = calls; ends = ends }

abbrev pub recovered_life : List Event → ℕ → End → Life
recovered_life events calls ends =
    record { begins = Recovers; events = events; calls = calls; ends = ends }

-- before the first life has opened, which begins by a creation
abbrev pub creation_begun : Promise
creation_begun = as_begun Creates nothing_yet

-- the line 1 with this text on stdout
abbrev pub first_line : List ℕ → Release
first_line text = record { number = 1; line = record { stream = Stdout; text = text } }

-- errors that come from the outside of a worker, and not from its disk or memory
pub data IsFromOutside : Cause → Type 0 where
  source : IsFromOutside OfSource
  misfit : IsFromOutside OfAnswer
  outlet : IsFromOutside OfOutlet

-- errors that an upgrade alone may answer
pub data IsOfUpgrades : Cause → Type 0 where
  journal : IsOfUpgrades OfJournal
  lines : IsOfUpgrades OfLines

-- ---- events

-- Whatever was promised and wherever a life is, these events are refused. Each field's name
-- says what goes wrong.
pub record RefusedEvents (m : Module) (config : Settings) (so_far : Promise) (stage : Stage)
    : Type 0 where
  pub asks_before_it_opens : (steps : ℕ) (question : Question) (said : SourceSaid) (fits : Bool)
      → stage.phase ≡ Shut → IsKept m config so_far stage (Asked steps question said fits) → ⊥
  pub opens_twice : (held : ℕ) (shown : Saved) → stage.phase ≡ Open
      → IsKept m config so_far stage (Opened held shown) → ⊥
  pub opens_uncreated : (held : ℕ) (shown : Saved) → so_far.was_created ≡ false
      → IsKept m config so_far stage (Opened held shown) → ⊥
  pub goes_on_after_an_error : (cause : Cause) (e : Event) → stage.phase ≡ Closed cause
      → IsKept m config so_far stage e → ⊥
  pub opens_with_more_than_was_kept : (held : ℕ) (shown : Saved) → length so_far.kept < held
      → IsKept m config so_far stage (Opened held shown) → ⊥
  pub loses_an_answer : (held : ℕ) (shown : Saved) → held < so_far.answers
      → IsKept m config so_far stage (Opened held shown) → ⊥
  pub loses_a_step : (held : ℕ) (shown : Saved) → shown.steps < so_far.steps
      → IsKept m config so_far stage (Opened held shown) → ⊥
  pub opens_behind_an_unheard_line : (held : ℕ) (shown : Saved) → so_far.heard < shown.lines
      → IsKept m config so_far stage (Opened held shown) → ⊥
  pub told_lines_beyond_its_opening : (last held : ℕ) (shown : Saved)
      → stage.line ≡ Some last → shown.lines < last
      → IsKept m config so_far stage (Opened held shown) → ⊥
  pub tells_line_zero : (line : Line) (is_taken : Bool)
      → IsKept m config so_far stage (Told (record { number = 0; line = line }) is_taken) → ⊥
  pub tells_a_line_twice : (r : Release) (is_taken : Bool) → stage.line ≡ Some r.number
      → IsKept m config so_far stage (Told r is_taken) → ⊥
  pub skips_a_line : (r : Release) (is_taken : Bool) → so_far.heard + 1 < r.number
      → IsKept m config so_far stage (Told r is_taken) → ⊥
  pub tells_a_saved_line : (r : Release) (is_taken : Bool) → r.number ≤ so_far.passed
      → IsKept m config so_far stage (Told r is_taken) → ⊥
  pub ends_with_more_than_is_kept : (act : Act) (reply : Reply) (held : ℕ) (shown : Saved)
      → length (kept_by_end act shown so_far.kept) < held
      → IsKept m config so_far stage (Ended act reply held shown) → ⊥
  pub takes_back_a_step : (act : Act) (reply : Reply) (held : ℕ) (shown : Saved)
      → shown.steps < stage.step
      → IsKept m config so_far stage (Ended act reply held shown) → ⊥
  pub runs_past_its_fuel : (act : Act) (reply : Reply) (held : ℕ) (shown : Saved)
      → stage.step + fuel_of act < shown.steps
      → IsKept m config so_far stage (Ended act reply held shown) → ⊥
  pub ends_before_its_lines : (act : Act) (cause : Cause) (last held : ℕ) (shown : Saved)
      → stage.line ≡ Some last → shown.lines < last
      → IsKept m config so_far stage (Ended act (Fails cause) held shown) → ⊥
  pub leaves_an_answer_behind : (fuel held : ℕ) (shown : Saved) → held < length so_far.kept
      → IsKept m config so_far stage (Ended (Slice fuel) Spent held shown) → ⊥
  pub leaves_a_line_untold : (fuel last held : ℕ) (shown : Saved)
      → stage.line ≡ Some last → last < shown.lines
      → IsKept m config so_far stage (Ended (Slice fuel) Spent held shown) → ⊥
  pub fails_without_a_cause : (act : Act) (cause : Cause) (held : ℕ) (shown : Saved)
      → stage.phase ≡ Open → IsFromOutside cause
      → IsKept m config so_far stage (Ended act (Fails cause) held shown) → ⊥

-- Upgrades that nobody wants, and what else may not be of version 2.
pub record RefusedUpgrades (m : Module) (config : Settings) (so_far : Promise) (stage : Stage)
    : Type 0 where
  -- one that is done, and shows version 1, or has left an answer behind
  pub stays_in_version_1 : (held : ℕ) (shown : Saved) → shown.version ≡ One
      → IsKept m config so_far stage (Ended Upgrade Done held shown) → ⊥
  pub leaves_an_answer : (held : ℕ) (shown : Saved) → held < length so_far.kept
      → IsKept m config so_far stage (Ended Upgrade Done held shown) → ⊥
  -- one that takes a step, tells a line or asks
  pub takes_a_step : (reply : Reply) (held : ℕ) (shown : Saved) → stage.step < shown.steps
      → IsKept m config so_far stage (Ended Upgrade reply held shown) → ⊥
  pub tells_a_line : (acts : List Act) (r : Release) (is_taken : Bool) → stage.phase ≡ Open
      → stage.acts ≡ Upgrade ∷ acts → IsKept m config so_far stage (Told r is_taken) → ⊥
  pub asks : (acts : List Act) (steps : ℕ) (question : Question) (said : SourceSaid) (fits : Bool)
      → stage.phase ≡ Open → stage.acts ≡ Upgrade ∷ acts
      → IsKept m config so_far stage (Asked steps question said fits) → ⊥
  -- one that widens the process before a line that was told, or before a sync that has returned
  pub widens_before_a_line : (reply : Reply) (held : ℕ) (shown : Saved)
      → version_after so_far.kept ≡ One → shown.version ≡ Two → shown.lines < so_far.begun
      → IsKept m config so_far stage (Ended Upgrade reply held shown) → ⊥
  pub widens_before_a_sync : (reply : Reply) (held : ℕ) (shown : Saved)
      → version_after so_far.kept ≡ One → shown.version ≡ Two → shown.steps < so_far.synced
      → IsKept m config so_far stage (Ended Upgrade reply held shown) → ⊥
  -- one that widens it over a journal of 132 sectors
  pub widens_with_132_sectors : (reply : Reply) (held : ℕ) (shown : Saved)
      → version_after so_far.kept ≡ One → shown.version ≡ Two → config.journal ≤ 132
      → IsKept m config so_far stage (Ended Upgrade reply held shown) → ⊥
  -- one that widens it a second time
  pub widens_twice : (reply : Reply) (held : ℕ) (shown : Saved)
      → version_after so_far.kept ≡ Two → length so_far.kept < held
      → IsKept m config so_far stage (Ended Upgrade reply held shown) → ⊥
  -- one that says that 133 sectors are too few for version 2
  pub pleads_133_sectors : (held : ℕ) (shown : Saved) → 133 ≤ config.journal
      → IsKept m config so_far stage (Ended Upgrade (Fails OfJournal) held shown) → ⊥
  -- one that speaks of lines beyond it where there are none, or of a worker of version 2
  pub pleads_lines_abreast : (held : ℕ) (shown : Saved) → stage.is_abreast ≡ true
      → IsKept m config so_far stage (Ended Upgrade (Fails OfLines) held shown) → ⊥
  pub pleads_lines_in_version_2 : (held : ℕ) (shown : Saved) → version_after so_far.kept ≡ Two
      → IsKept m config so_far stage (Ended Upgrade (Fails OfLines) held shown) → ⊥
  -- a slice or a checkpoint that fails as an upgrade does
  pub slice_pleads : (fuel : ℕ) (cause : Cause) (held : ℕ) (shown : Saved) → stage.phase ≡ Open
      → IsOfUpgrades cause
      → IsKept m config so_far stage (Ended (Slice fuel) (Fails cause) held shown) → ⊥
  pub checkpoint_pleads : (cause : Cause) (held : ℕ) (shown : Saved) → stage.phase ≡ Open
      → IsOfUpgrades cause
      → IsKept m config so_far stage (Ended Checkpoint (Fails cause) held shown) → ⊥
  -- an opening, a slice or a checkpoint that shows version 2, which was not kept
  pub opening_widens : (held : ℕ) (shown : Saved) → version_after so_far.kept ≡ One
      → shown.version ≡ Two → IsKept m config so_far stage (Opened held shown) → ⊥
  pub slice_widens : (fuel : ℕ) (reply : Reply) (held : ℕ) (shown : Saved)
      → version_after so_far.kept ≡ One → shown.version ≡ Two
      → IsKept m config so_far stage (Ended (Slice fuel) reply held shown) → ⊥
  pub checkpoint_widens : (reply : Reply) (held : ℕ) (shown : Saved)
      → version_after so_far.kept ≡ One → shown.version ≡ Two
      → IsKept m config so_far stage (Ended Checkpoint reply held shown) → ⊥
  -- a question in version 2 that refuses a text within its limit
  pub refuses_a_long_text : (steps : ℕ) (text : List ℕ) → version_after so_far.kept ≡ Two
      → IsRequestText 65536 text → IsKept m config so_far stage
      (Asked steps question.Request (Ok (Some (answer.Request text))) false) → ⊥

-- ---- lives

-- Whole lives of workers that nobody wants.
pub record RefusedWorkers (m : Module) (config : Settings) : Type 0 where
  -- a life in whose way nothing was put, and that doesn't open: it can only have wanted memory
  pub shut : (says : List SourceSaid) (acts : List Act) (begins : Beginning) (calls : ℕ)
      (ends : End)
      → GoesOn m config (in_peace says acts ∷ [])
      (record { begins = begins; events = []; calls = calls; ends = ends } ∷ [])
      → ends ≡ Failed OfMemory
  -- one that pleads a fault of the disk, or a stop, where there was none
  pub pleads_the_disk : (says : List SourceSaid) (acts : List Act) (life : Life)
      → life.ends ≡ Failed OfDisk → GoesOn m config (in_peace says acts ∷ []) (life ∷ []) → ⊥
  pub pleads_a_stop : (says : List SourceSaid) (acts : List Act) (life : Life)
      → life.ends ≡ Stopped → GoesOn m config (in_peace says acts ∷ []) (life ∷ []) → ⊥
  -- a report without a life
  pub silent : (inputs : Inputs) → GoesOn m config (inputs ∷ []) [] → ⊥
  -- a slice that says Spent and takes no step
  pub idle : (inputs : Inputs) (fuel calls : ℕ) (ends : End) (first last : Saved) → 0 < fuel
      → last.steps ≡ first.steps
      → GoesOn m config (inputs ∷ []) (created_life
      (Opened 0 first ∷ Ended (Slice fuel) Spent 0 last ∷ []) calls ends ∷ []) → ⊥
  -- one that says there is no answer, and has not asked
  pub unasked : (inputs : Inputs) (fuel calls : ℕ) (ends : End) (first last : Saved)
      → GoesOn m config (inputs ∷ []) (created_life
      (Opened 0 first ∷ Ended (Slice fuel) Waits 0 last ∷ []) calls ends ∷ []) → ⊥
  -- one that has asked, and says that an answer isn't there which was
  pub deaf : (answer : Answer) (says : List SourceSaid) (acts : List Act) (steps calls : ℕ)
      (question : Question) (events : List Event) (ends : End) (first : Saved)
      → GoesOn m config (in_peace (Ok (Some answer) ∷ says) acts ∷ []) (created_life
      (Opened 0 first ∷ Asked steps question (Ok None) true ∷ events) calls ends ∷ []) → ⊥
  -- acts left undone without a cause
  pub undone : (act : Act) (acts : List Act) (says : List SourceSaid) (calls : ℕ) (ends : End)
      (first : Saved)
      → GoesOn m config (in_peace says (act ∷ acts) ∷ [])
      (created_life (Opened 0 first ∷ []) calls ends ∷ []) → ⊥
  -- anything after an error
  pub goes_on : (inputs : Inputs) (act : Act) (cause : Cause) (held calls : ℕ) (e : Event)
      (events : List Event) (ends : End) (first last : Saved)
      → GoesOn m config (inputs ∷ []) (created_life
      (Opened 0 first ∷ Ended act (Fails cause) held last ∷ e ∷ events) calls ends ∷ []) → ⊥
  -- an opening with other memory or files, at the same moment
  pub other_process : (i j : Inputs) (calls more : ℕ) (ends others : End) (first second : Saved)
      (rest : List Event) → IsValid m → first.steps ≡ 0 → second.steps ≡ 0
      → GoesOn m config (i ∷ j ∷ []) (created_life (Opened 0 first ∷ []) calls ends
      ∷ recovered_life (Opened 0 second ∷ rest) more others ∷ [])
      → (second.machine.memory ≡ first.machine.memory) × (second.files ≡ first.files)
      × (second.descriptors ≡ first.descriptors)
  -- a question of a slice while a line waits
  pub asks_early : (inputs : Inputs) (fuel : ℕ) (acts : List Act) (p : ProcessState)
      (steps calls : ℕ) (question : Question) (said : SourceSaid) (fits : Bool)
      (events : List Event) (ends : End) (first : Saved) → inputs.acts ≡ Slice fuel ∷ acts
      → IsValid m → Reaches m config [] steps p → first.lines < length p.host.lines
      → GoesOn m config (inputs ∷ []) (created_life
      (Opened 0 first ∷ Asked steps question said fits ∷ events) calls ends ∷ []) → ⊥
  -- a line that is told twice, with two texts, in two lives
  pub two_texts : (i j : Inputs) (calls more : ℕ) (ends others : End) (first : Saved)
      (text other : List ℕ) (rest : List Event) → IsValid m → text ≢ other
      → GoesOn m config (i ∷ j ∷ [])
      (created_life (Opened 0 first ∷ Told (first_line text) true ∷ []) calls ends
      ∷ recovered_life (Told (first_line other) true ∷ rest) more others ∷ []) → ⊥
  -- a number that is skipped
  pub skips : (inputs : Inputs) (calls : ℕ) (ends : End) (first : Saved) (line : Line)
      (events : List Event)
      → GoesOn m config (inputs ∷ []) (created_life
      (Opened 0 first ∷ Told (record { number = 2; line = line }) true ∷ events) calls ends
      ∷ []) → ⊥
  -- a life that opens behind a line that the outlet refused
  pub unheard : (i j : Inputs) (calls more held : ℕ) (ends others : End) (first second : Saved)
      (text : List ℕ) (rest : List Event) → 1 ≤ second.lines
      → GoesOn m config (i ∷ j ∷ [])
      (created_life (Opened 0 first ∷ Told (first_line text) false ∷ []) calls ends
      ∷ recovered_life (Opened held second ∷ rest) more others ∷ []) → ⊥
  -- an answer that is lost behind a guest sync that returned
  pub lost_behind_sync : (i j : Inputs) (answer : Answer) (question : Question)
      (fuel steps k calls more : ℕ) (ends others : End) (first last second : Saved)
      (rest : List Event)
      → k ≤ last.steps → AnswersBehindSync m config (Given answer ∷ []) k 1
      → GoesOn m config (i ∷ j ∷ [])
      (created_life (Opened 0 first ∷ Asked steps question (Ok (Some answer)) true
      ∷ Ended (Slice fuel) Spent 1 last ∷ []) calls ends
      ∷ recovered_life (Opened 0 second ∷ rest) more others ∷ []) → ⊥
  -- a checkpoint that holds nothing
  pub empty_checkpoint : (i j : Inputs) (held less calls more : ℕ) (ends others : End)
      (first last second : Saved) (rest : List Event) → less < held
      → GoesOn m config (i ∷ j ∷ [])
      (created_life (Opened 0 first ∷ Ended Checkpoint Done held last ∷ []) calls ends
      ∷ recovered_life (Opened less second ∷ rest) more others ∷ []) → ⊥
  -- one that makes no restart shorter: the lines before it are told again
  pub useless_checkpoint : (i j : Inputs) (held calls more : ℕ) (ends others : End)
      (first last : Saved) (text : List ℕ) (is_taken : Bool) (rest : List Event) → 1 ≤ last.lines
      → GoesOn m config (i ∷ j ∷ [])
      (created_life (Opened 0 first ∷ Ended Checkpoint Done held last ∷ []) calls ends
      ∷ recovered_life (Told (first_line text) is_taken ∷ rest) more others ∷ []) → ⊥
  -- one that is recovered where nothing was ever created
  pub recovered_from_nothing : (inputs : Inputs) (held calls : ℕ) (ends : End) (shown : Saved)
      (rest : List Event)
      → GoesOn m config (inputs ∷ [])
      (recovered_life (Opened held shown ∷ rest) calls ends ∷ []) → ⊥
  -- a worker that is created again
  pub created_again : (i j : Inputs) (calls more : ℕ) (ends others : End) (first second : Saved)
      → GoesOn m config (i ∷ j ∷ []) (created_life (Opened 0 first ∷ []) calls ends
      ∷ created_life (Opened 0 second ∷ []) more others ∷ []) → ⊥
  -- one that has taken something, or told something, when it is created
  pub created_late : (inputs : Inputs) (held calls : ℕ) (ends : End) (shown : Saved)
      (rest : List Event) → 0 < held
      → GoesOn m config (inputs ∷ [])
      (created_life (Opened held shown ∷ rest) calls ends ∷ []) → ⊥
  pub tells_when_it_is_created : (inputs : Inputs) (r : Release) (is_taken : Bool) (calls : ℕ)
      (ends : End) (rest : List Event)
      → GoesOn m config (inputs ∷ [])
      (created_life (Told r is_taken ∷ rest) calls ends ∷ []) → ⊥
  -- one that runs on beyond its last answer while it recovers, and tells the line that comes there
  pub runs_on : (i j : Inputs) (answer : Answer) (question : Question) (steps calls more : ℕ)
      (ends others : End) (first second : Saved) (r : Release) (is_taken : Bool)
      (rest : List Event) → IsValid m → steps + 1 < second.steps
      → GoesOn m config (i ∷ j ∷ [])
      (created_life (Opened 0 first ∷ Asked steps question (Ok (Some answer)) true ∷ []) calls
      ends ∷ recovered_life (Told r is_taken ∷ Opened 1 second ∷ rest) more others ∷ []) → ⊥

-- Whole lives with upgrades that nobody wants.
pub record RefusedUpgraders (m : Module) (config : Settings) : Type 0 where
  -- one that was done, after which a life opens in version 1
  pub keeps_nothing : (i j : Inputs) (held less calls more : ℕ) (ends others : End)
      (first last second : Saved) (rest : List Event) → second.version ≡ One
      → GoesOn m config (i ∷ j ∷ [])
      (created_life (Opened 0 first ∷ Ended Upgrade Done held last ∷ []) calls ends
      ∷ recovered_life (Opened less second ∷ rest) more others ∷ []) → ⊥
  -- one that was done twice, and counts two widenings
  pub widens_twice : (inputs : Inputs) (held calls : ℕ) (ends : End) (first second third : Saved)
      (rest : List Event)
      → GoesOn m config (inputs ∷ []) (created_life (Opened 0 first ∷ Ended Upgrade Done held second
      ∷ Ended Upgrade Done 2 third ∷ rest) calls ends ∷ []) → ⊥
  -- one of a worker whose line another life has told already: in version 2 that line might have
  -- another text
  pub changes_a_line : (i j : Inputs) (calls more held : ℕ) (ends others : End)
      (first second third : Saved) (r : Release) (is_taken : Bool) (rest : List Event)
      → third.lines < r.number
      → GoesOn m config (i ∷ j ∷ [])
      (created_life (Opened 0 first ∷ Told r is_taken ∷ []) calls ends
      ∷ recovered_life (Opened 0 second ∷ Ended Upgrade Done held third ∷ rest) more others
      ∷ []) → ⊥
  -- one that speaks of lines beyond it, where the life has asked
  pub pleads_after_a_question : (inputs : Inputs) (steps fuel held late calls : ℕ)
      (question : Question) (said : SourceSaid) (fits : Bool) (ends : End)
      (first second third : Saved) (rest : List Event)
      → GoesOn m config (inputs ∷ []) (created_life (Opened 0 first ∷ Asked steps question said fits
      ∷ Ended (Slice fuel) Waits held second ∷ Ended Upgrade (Fails OfLines) late third ∷ rest)
      calls ends ∷ []) → ⊥
  -- one that does so in a life that began by a creation, whatever has happened in it
  pub created_worker_is_never_upgraded : (so_far : Promise) (inputs : Inputs)
      (before rest : List Event) (held calls : ℕ) (ends : End) (shown : Saved)
      → IsLived m config so_far inputs (created_life
      (before ++ Ended Upgrade (Fails OfLines) held shown ∷ rest) calls ends) → ⊥
  -- or in one that opened with a process that has ended
  pub ended_worker_is_never_upgraded : (so_far : Promise) (inputs : Inputs) (begins : Beginning)
      (told before rest : List Event) (held late calls : ℕ) (ends : End) (why : Ending)
      (first shown : Saved) → first.ended ≡ Some why
      → IsLived m config so_far inputs (record {
        begins = begins;
        events = told ++ Opened held first ∷ (before
            ++ Ended Upgrade (Fails OfLines) late shown ∷ rest);
        calls = calls;
        ends = ends;
      }) → ⊥
  -- a worker that is created in version 2
  pub created_wide : (inputs : Inputs) (held calls : ℕ) (ends : End) (shown : Saved)
      (rest : List Event) → shown.version ≡ Two
      → GoesOn m config (inputs ∷ [])
      (created_life (Opened held shown ∷ rest) calls ends ∷ []) → ⊥
