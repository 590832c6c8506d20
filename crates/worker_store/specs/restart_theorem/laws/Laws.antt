-- Laws of the promises.
use Rattle.std.specs.Prelude.{◌≡◌, ℕ, ◌<◌, ◌≤◌, List, [], ◌∷◌, ◌++◌}
use Rattle.wasm_syntax.specs.declared.module.Module.{Module}
use Rattle.wasm_rules.specs.Validity.{IsValid}
use Rattle.wasi_abi.specs.rules.Configs.{Settings}
use Rattle.process_rules.specs.Behind.{AnswersBehindSync}
use Rattle.state_image.specs.rules.ProcessImage.{Saved}
use Rattle.worker_store.specs.restart_theorem.Lives.{Act, Checkpoint, Inputs, Release, Reply, Done}
use Rattle.worker_store.specs.restart_theorem.Lives.{Fails, Event, Told, Asked, Opened, Ended, Life}
use Rattle.worker_store.specs.restart_theorem.Lives.{events_of, kept_after, kept_answers}
use Rattle.worker_store.specs.restart_theorem.Lives.{told_lines}
use Rattle.worker_store.specs.restart_theorem.Courses.{Stage, stage_after}
use Rattle.worker_store.specs.restart_theorem.Promises.{Promise, nothing_yet, promised, AreKept}
use Rattle.worker_store.specs.restart_theorem.Promises.{GoesOn}

-- each of these releases that has the number of this one is the same line
abbrev pub HasOneText : List Release → Release → Type 0
HasOneText [] r = Unit {0}
HasOneText (other ∷ told) r = (other.number ≡ r.number → other.line ≡ r.line) × HasOneText told r

-- of these releases each two with one number are the same line
abbrev pub HaveOneText : List Release → Type 0
HaveOneText [] = Unit {0}
HaveOneText (r ∷ told) = HasOneText told r × HaveOneText told

-- the answers that a promise speaks of are the kept ones
abbrev pub PromisesAreOfKept : Type 0
PromisesAreOfKept = (lives : List Life)
    → (promised nothing_yet (events_of lives)).kept ≡ kept_answers lives

-- Where the restart theorem holds of a valid module, no number has two texts, in one life or in
-- two. (Of one that isn't, two functions may be exported as `_start`, and begin two processes.)
abbrev pub NoNumberHasTwoTexts : Type 0
NoNumberHasTwoTexts = (m : Module) (config : Settings) (inputs : List Inputs) (lives : List Life)
    → IsValid m → GoesOn m config inputs lives → HaveOneText (told_lines lives)

-- Calls, one after another: what each keeps they keep together.
abbrev pub CallsJoin : Type 0
CallsJoin =
    (m : Module) (config : Settings) (so_far : Promise) (stage : Stage) (first then : List Event)
    → AreKept m config so_far stage first
    → AreKept m config (promised so_far first) (stage_after stage first) then
    → AreKept m config so_far stage (first ++ then)
    × (promised so_far (first ++ then) ≡ promised (promised so_far first) then)
    × (stage_after stage (first ++ then) ≡ stage_after (stage_after stage first) then)

-- ---- what is for good

-- each life that opens here has taken so many answers and steps at least
abbrev pub OpenWith : ℕ → ℕ → List Event → Type 0
OpenWith a n [] = Unit {0}
OpenWith a n (Told r is_taken ∷ events) = OpenWith a n events
OpenWith a n (Asked steps question said fits ∷ events) = OpenWith a n events
OpenWith a n (Opened held shown ∷ events) =
    (a ≤ held) × (n ≤ shown.steps) × OpenWith a n events
OpenWith a n (Ended act reply held shown ∷ events) = OpenWith a n events

-- what a life has opened with, each later one opens with
abbrev pub OpeningsAreForGood : Type 0
OpeningsAreForGood =
    (m : Module) (config : Settings) (inputs : List Inputs) (lives : List Life)
    (earlier later : List Event) (held : ℕ) (shown : Saved) → GoesOn m config inputs lives
    → events_of lives ≡ earlier ++ Opened held shown ∷ later → OpenWith held shown.steps later

-- so it is with what a process had taken when a checkpoint of it was done
abbrev pub CheckpointsAreForGood : Type 0
CheckpointsAreForGood =
    (m : Module) (config : Settings) (inputs : List Inputs) (lives : List Life)
    (earlier later : List Event) (held : ℕ) (shown : Saved) → GoesOn m config inputs lives
    → events_of lives ≡ earlier ++ Ended Checkpoint Done held shown ∷ later
    → OpenWith held shown.steps later

-- step k has returned where a call ends: each one where it answers Ok, else each but the last
abbrev pub HasReturned : Reply → ℕ → ℕ → Type 0
HasReturned (Fails cause) k steps = k < steps
HasReturned _ k steps = k ≤ steps

-- so it is with the answers behind a guest sync that has returned
abbrev pub SyncsAreForGood : Type 0
SyncsAreForGood =
    (m : Module) (config : Settings) (inputs : List Inputs) (lives : List Life)
    (earlier later : List Event) (act : Act) (reply : Reply) (held : ℕ) (shown : Saved)
    (k a : ℕ) → GoesOn m config inputs lives
    → events_of lives ≡ earlier ++ Ended act reply held shown ∷ later
    → HasReturned reply k shown.steps
    → AnswersBehindSync m config (kept_after [] earlier) k a → OpenWith a 0 later

-- each line that is told here has a greater number
abbrev pub TellBeyond : ℕ → List Event → Type 0
TellBeyond n [] = Unit {0}
TellBeyond n (Told r is_taken ∷ events) = (n < r.number) × TellBeyond n events
TellBeyond n (Asked steps question said fits ∷ events) = TellBeyond n events
TellBeyond n (Opened held shown ∷ events) = TellBeyond n events
TellBeyond n (Ended act reply held shown ∷ events) = TellBeyond n events

-- the lines that a life has opened with are told no more
abbrev pub OpenedLinesAreToldNoMore : Type 0
OpenedLinesAreToldNoMore =
    (m : Module) (config : Settings) (inputs : List Inputs) (lives : List Life)
    (earlier later : List Event) (held : ℕ) (shown : Saved) → GoesOn m config inputs lives
    → events_of lives ≡ earlier ++ Opened held shown ∷ later → TellBeyond shown.lines later

-- nor are those of a process of which a checkpoint was done
abbrev pub SavedLinesAreToldNoMore : Type 0
SavedLinesAreToldNoMore =
    (m : Module) (config : Settings) (inputs : List Inputs) (lives : List Life)
    (earlier later : List Event) (held : ℕ) (shown : Saved) → GoesOn m config inputs lives
    → events_of lives ≡ earlier ++ Ended Checkpoint Done held shown ∷ later
    → TellBeyond shown.lines later
