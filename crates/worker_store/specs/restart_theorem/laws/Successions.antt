-- Laws of workers that go on from what another one has left.
use Rattle.std.specs.Prelude.{◌≡◌, ℕ, ◌+◌, ◌<◌, ◌≤◌, Bool, List, ◌++◌, length}
use Rattle.std.specs.List.{AllByRecursion}
use Rattle.wasm_syntax.specs.declared.module.Module.{Module}
use Rattle.wasm_rules.specs.Validity.{IsValid}
use Rattle.wasi_abi.specs.declared.version.Version.{Version}
use Rattle.wasi_abi.specs.rules.Configs.{Settings}
use Rattle.process_rules.specs.Processes.{ProcessState}
use Rattle.process_rules.specs.Origins.{Origin}
use Rattle.process_rules.specs.Runs.{Kept, first_kept, answers_in}
use Rattle.sector_disk.specs.rules.DiskImage.{DiskImage}
use Rattle.sector_disk.specs.rules.Medium.{Medium}
use Rattle.state_image.specs.rules.ProcessImage.{Saved}
use Rattle.worker_store.specs.restart_theorem.Lives.{Inputs, Release, Told, Opened, Life, Creates}
use Rattle.worker_store.specs.restart_theorem.Lives.{kept_answers, told_lines}
use Rattle.worker_store.specs.restart_theorem.Courses.{Stage}
use Rattle.worker_store.specs.restart_theorem.Promises.{Promise, IsKept, IsLived, GoOn}
use Rattle.worker_store.specs.restart_theorem.Holds.{KeepsPromise, KeepsBounds}
use Rattle.worker_store.specs.restart_theorem.Between.{AreLivedOn}
use Rattle.worker_store.specs.restart_theorem.Successions.{promised_by_all, IsLeft, promised_from}
use Rattle.worker_store.specs.restart_theorem.Successions.{SuccessorGoesOn, SucceedNone}
use Rattle.worker_store.specs.restart_theorem.Successions.{LeaveNoneOut}
use Rattle.worker_store.specs.restart_theorem.Successions.{IsOneHistory, AreSuccessive}
use Rattle.worker_store.specs.restart_theorem.laws.Laws.{HaveOneText}

-- ---- one worker

-- From the contracts of calls. Lives that do what the calls are proved to do, one after another on
-- a disk on which a successor was created, go on from there.
abbrev pub SuccessorsGoOn : {D : Type 0} → (D → Medium) → Type 0
SuccessorsGoOn {D} medium =
    (m : Module) (config : Settings) (v : Version) (o : Origin) (inputs : List Inputs)
    (lives : List Life) (disk : D) → KeepsPromise m config (promised_from v o) (medium disk)
    → KeepsBounds 1 (medium disk)
    → AreLivedOn medium m config (promised_from v o) inputs lives disk
    → SuccessorGoesOn v o m config inputs lives

-- what a successor goes on from stays the first of its answers, and no other is of that kind
abbrev pub OriginsStay : Type 0
OriginsStay =
    (m : Module) (config : Settings) (v : Version) (o : Origin) (inputs : List Inputs)
    (lives : List Life) → SuccessorGoesOn v o m config inputs lives
    → (rest : List Kept)
    × ((promised_by_all (promised_from v o) lives).kept ≡ first_kept v o ++ rest)
    × SucceedNone rest

-- Of a worker that was created without one no kept answer is of that kind.
abbrev pub PlainSucceedNone : Type 0
PlainSucceedNone = (lives : List Life) → SucceedNone (kept_answers lives)

-- ---- two workers, and more

-- What a worker and its successor told is one history, whatever was promised of the first one.
abbrev pub Succession : Type 0
Succession =
    (m next : Module) (config settings : Settings) (so_far : Promise) (v : Version) (o : Origin)
    (disk : DiskImage) (p : ProcessState) (inputs more : List Inputs) (lives later : List Life)
    → IsValid m → IsValid next → GoOn m config so_far inputs lives
    → IsLeft m config (promised_by_all so_far lives) disk p → o.lines ≡ p.host.lines
    → SuccessorGoesOn v o next settings more later
    → IsOneHistory so_far (promised_by_all so_far lives) (length p.host.lines)
    (told_lines lives) (told_lines later)

-- So, however often code is changed, no number has two texts and none is left out. None of them is
-- one that was passed before the first of these workers.
pub record IsWholeHistory (so_far : Promise) (told : List Release) : Type 0 where
  pub one_text : HaveOneText told
  pub none_left_out : LeaveNoneOut so_far.heard told
  pub beyond : AllByRecursion (λ (r : Release). so_far.passed < r.number) told

abbrev pub SuccessiveTellAll : Type 0
SuccessiveTellAll =
    (so_far : Promise) (told : List Release) → AreSuccessive so_far told
    → IsWholeHistory so_far told

-- ---- what is refused

-- Events that are none of a successor, wherever a life is, as long as it has taken nothing. What it
-- shows at the step from which it goes on is what was left.
pub record RefusedSuccessors (m : Module) (config : Settings) (v : Version) (o : Origin)
    (stage : Stage) : Type 0 where
  -- it tells a line again, or leaves one out
  pub tells_a_line_again : (r : Release) (is_taken : Bool) → r.number ≤ length o.lines
      → IsKept m config (promised_from v o) stage (Told r is_taken) → ⊥
  pub leaves_a_line_out : (r : Release) (is_taken : Bool) → length o.lines + 1 < r.number
      → IsKept m config (promised_from v o) stage (Told r is_taken) → ⊥
  -- it opens as a fresh worker, or with fewer steps or lines
  pub begins_anew : (shown : Saved)
      → IsKept m config (promised_from v o) stage (Opened 0 shown) → ⊥
  pub takes_back_a_step : (held : ℕ) (shown : Saved) → shown.steps < o.steps
      → IsKept m config (promised_from v o) stage (Opened held shown) → ⊥
  pub takes_back_a_line : (held : ℕ) (shown : Saved) → shown.lines < length o.lines
      → IsKept m config (promised_from v o) stage (Opened held shown) → ⊥
  -- it opens in another version
  pub changes_its_version : (held : ℕ) (shown : Saved)
      → IsKept m config (promised_from v o) stage (Opened held shown) → shown.version ≡ v
  -- it opens there with other files, counts or time
  pub shows_what_was_left : (held : ℕ) (shown : Saved) → shown.steps ≡ o.steps
      → IsKept m config (promised_from v o) stage (Opened held shown)
      → (shown.files ≡ o.files) × (shown.lines ≡ length o.lines)
      × (shown.answers ≡ answers_in (first_kept v o)) × (shown.requests ≡ o.requests)
      × (shown.last_monotonic ≡ o.last_monotonic)
  -- a life creates it again
  pub is_created_again : (inputs : Inputs) (life : Life) → life.begins ≡ Creates
      → IsLived m config (promised_from v o) inputs life → ⊥
