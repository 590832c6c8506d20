-- What events make of a promise that a worker's disk holds.
use Rattle.std.specs.Prelude.{◌≡◌, ℕ, ◌+◌, ◌-◌, ◌≤◌, Bool, true, List, [], ◌∷◌, ◌++◌, length, None}
use Rattle.std.specs.Prelude.{Some, Ok, Option}
use Rattle.wasm_syntax.specs.declared.module.Module.{Module}
use Rattle.wasm_rules.specs.Validity.{IsValid}
use Rattle.wasi_abi.specs.declared.answer.Question.{Question}
use Rattle.wasi_abi.specs.declared.answer.Answer.{Answer}
use Rattle.wasi_abi.specs.rules.Configs.{Settings}
use Rattle.process_rules.specs.Processes.{ProcessState, Guest}
use Rattle.process_rules.specs.Runs.{Kept, Given, Wants, next_of, Moves, Runs, Reaches}
use Rattle.process_rules.specs.Owing.{RunsQuietly}
use Rattle.state_image.specs.rules.ProcessImage.{Saved}
use Rattle.sector_disk.specs.rules.Medium.{Medium}
use Rattle.disk_layout.specs.rules.Journal.{Record}
use Rattle.journal.specs.rules.State.{JournalState}
use Rattle.worker_store.specs.restart_theorem.Lives.{Act, Reply, Release, SourceSaid, Told, Asked}
use Rattle.worker_store.specs.restart_theorem.Lives.{Ended, kept_of_said, kept_by_end}
use Rattle.worker_store.specs.restart_theorem.Promises.{Promise, after, saved_by, synced_by}
use Rattle.worker_store.specs.rules.Savepoints.{Savepoint, IsJournaled}
use Rattle.worker_store.specs.rules.Carried.{count_at, IsCarried, AreOnRecord, SyncsAreHeld}
use Rattle.worker_store.specs.laws.Acts.{MayBeKept, keeping_more}

-- ---- syncs of the guest

-- Where all kept answers are on the disk, those behind any sync are held.
abbrev pub AllSyncsAreHeld : Type 0
AllSyncsAreHeld =
    (m : Module) (config : Settings) (promise : Promise) (point : Savepoint m config)
    (records : List Record) (steps : ℕ) → AreOnRecord promise point records
    → SyncsAreHeld m config promise.kept (count_at point records) steps

-- Steps after which nothing is owed add no sync.
abbrev pub QuietSyncsAreHeld : Type 0
QuietSyncsAreHeld =
    (m : Module) (config : Settings) (kept : List Kept) (held n : ℕ) (p q : ProcessState)
    → IsValid m → (reached : Reaches m config kept p.steps p) → RunsQuietly reached.guest p n q
    → SyncsAreHeld m config kept held p.steps → SyncsAreHeld m config kept held q.steps

-- A step changes nothing of the syncs before it.
abbrev pub MovedSyncsAreHeld : Type 0
MovedSyncsAreHeld =
    (m : Module) (config : Settings) (kept : List Kept) (held : ℕ) (guest : Guest)
    (p q : ProcessState) (given : Option Answer) → Moves guest p given q
    → SyncsAreHeld m config kept held p.steps → SyncsAreHeld m config kept held (q.steps - 1)

-- Nor does the step that takes an answer add one. The answer is kept from the question on.
abbrev pub AnsweredSyncsAreHeld : Type 0
AnsweredSyncsAreHeld =
    (m : Module) (config : Settings) (kept : List Kept) (held : ℕ) (p : ProcessState)
    (question : Question) (a : Answer) → IsValid m → (reached : Reaches m config kept p.steps p)
    → next_of reached.guest p None ≡ Wants question
    → SyncsAreHeld m config kept held p.steps
    → SyncsAreHeld m config (kept ++ Given a ∷ []) held (p.steps + 1)

-- ---- events

-- Where all kept answers are on the disk, any line may be told of what they lead to.
abbrev pub ToldCarries : {D : Type 0} → (D → Medium) → Type 0
ToldCarries {D} medium =
    (m : Module) (config : Settings) (promise : Promise) (point : Savepoint m config)
    (journal : JournalState) (records pending : List Record) (last now p : ProcessState) (n : ℕ)
    (r : Release) (is_taken : Bool) (disk : D)
    → IsCarried promise point journal records pending last now (medium disk)
    → AreOnRecord promise point records → Reaches m config promise.kept n p
    → r.number ≤ length p.host.lines
    → IsCarried (after promise (Told r is_taken)) point journal records pending last now
    (medium disk)

-- A process of so many steps may ask, and what the source then says is kept, where no sync up to
-- there needs an answer that isn't on the disk.
abbrev pub AskedCarries : {D : Type 0} → (D → Medium) → Type 0
AskedCarries {D} medium =
    (m : Module) (config : Settings) (promise : Promise) (point : Savepoint m config)
    (journal : JournalState) (records pending : List Record) (last now : ProcessState) (steps : ℕ)
    (question : Question) (said : SourceSaid) (fits : Bool) (disk : D)
    → IsCarried promise point journal records pending last now (medium disk)
    → promise.synced ≤ steps
    → SyncsAreHeld m config (promise.kept ++ kept_of_said said fits) (count_at point records) steps
    → IsCarried (after promise (Asked steps question said fits)) point journal records
    pending last now (medium disk)

-- More may be kept after what all kept answers lead to, where all syncs that returned are after
-- that. It may widen the process there, where that has emitted all lines that were begun.
abbrev pub MoreCarries : {D : Type 0} → (D → Medium) → Type 0
MoreCarries {D} medium =
    (m : Module) (config : Settings) (promise : Promise) (point : Savepoint m config)
    (journal : JournalState) (records pending : List Record) (last now p : ProcessState) (n : ℕ)
    (more : List Kept) (disk : D)
    → IsCarried promise point journal records pending last now (medium disk) → IsValid m
    → Reaches m config promise.kept n p → promise.synced ≤ n → now.steps ≤ n
    → MayBeKept more p.steps (length p.host.lines) promise.begun
    → IsCarried (keeping_more promise more) point journal records pending last now (medium disk)

-- A call may end that saves nothing, a slice or what failed, and keeps none besides. No sync that
-- it says has returned may need such an answer.
abbrev pub EndedCarries : {D : Type 0} → (D → Medium) → Type 0
EndedCarries {D} medium =
    (m : Module) (config : Settings) (promise : Promise) (point : Savepoint m config)
    (journal : JournalState) (records pending : List Record) (last now : ProcessState) (act : Act)
    (reply : Reply) (held : ℕ) (shown : Saved) (disk : D)
    → IsCarried promise point journal records pending last now (medium disk)
    → kept_by_end act shown promise.kept ≡ promise.kept
    → ((count : ℕ) → saved_by act reply count ≡ 0)
    → SyncsAreHeld m config promise.kept (count_at point records) (synced_by reply shown.steps)
    → IsCarried (after promise (Ended act reply held shown)) point journal records pending last now
    (medium disk)

-- ---- records

-- The last of the kept answers is appended.
abbrev pub AppendCarries : {D : Type 0} → (D → Medium) → Type 0
AppendCarries {D} medium =
    (m : Module) (config : Settings) (promise : Promise) (point : Savepoint m config)
    (before later : JournalState) (records pending : List Record) (r : Record)
    (last now next : ProcessState) (disk : D)
    → IsCarried promise point before records pending last now (medium disk)
    → AreOnRecord promise point (records ++ (pending ++ r ∷ []))
    → IsJournaled point later records (pending ++ r ∷ []) last next (medium disk)
    → IsCarried promise point later records (pending ++ r ∷ []) last next (medium disk)

-- It is on record then, where all others were before the question.
abbrev pub AnswerIsOnRecord : Type 0
AnswerIsOnRecord =
    (m : Module) (config : Settings) (promise : Promise) (point : Savepoint m config)
    (records pending : List Record) (steps n : ℕ) (question : Question) (a : Answer)
    → AreOnRecord promise point (records ++ pending)
    → AreOnRecord (after promise (Asked steps question (Ok (Some a)) true)) point
    (records ++ (pending ++ record { step = n; answer = a } ∷ []))

-- All kept answers lead to what the last process on record comes to without another one.
abbrev pub CarriedIsReached : {D : Type 0} → (D → Medium) → Type 0
CarriedIsReached {D} medium =
    (m : Module) (config : Settings) (promise : Promise) (point : Savepoint m config)
    (journal : JournalState) (records pending : List Record) (last now p : ProcessState) (n : ℕ)
    (disk : D) → IsCarried promise point journal records pending last now (medium disk)
    → AreOnRecord promise point (records ++ pending) → Runs point.reached.guest now [] n p
    → (reached : Reaches m config promise.kept p.steps p)
    × (reached.guest ≡ point.reached.guest)
