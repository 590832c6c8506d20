-- Workers that go on from what another one has left, with other code (this project's own).
use Rattle.std.specs.Prelude.{◌≡◌, ◌≢◌, ◌⊎◌, ℕ, ◌+◌, ◌<◌, ◌≤◌, true, List, [], ◌∷◌, ◌++◌, length}
use Rattle.std.specs.Prelude.{None}
use Rattle.std.specs.List.{AllByRecursion}
use Rattle.wasm_syntax.specs.declared.module.Module.{Module}
use Rattle.wasm_rules.specs.Validity.{IsValid}
use Rattle.wasi_abi.specs.declared.answer.Question.TheVariants as question
use Rattle.wasi_abi.specs.declared.version.Version.{Version}
use Rattle.wasi_abi.specs.rules.Configs.{Settings}
use Rattle.process_rules.specs.Processes.{ProcessState, Guest}
use Rattle.process_rules.specs.Origins.{Origin}
use Rattle.process_rules.specs.Runs.{Kept, Succeeds, first_kept, Wants, next_of}
use Rattle.sector_disk.specs.rules.DiskImage.{DiskImage}
use Rattle.worker_store.specs.restart_theorem.Lives.{Inputs, Release, Life, told_lines}
use Rattle.worker_store.specs.restart_theorem.Promises.{Promise, promised_by, GoOn}
use Rattle.worker_store.specs.restart_theorem.Holds.{HoldsPromise}
use Rattle.worker_store.specs.restart_theorem.laws.Laws.{HaveOneText}

-- ---- what a worker leaves

-- what is promised after these lives
abbrev pub promised_by_all : Promise → List Life → Promise
promised_by_all so_far [] = so_far
promised_by_all so_far (life ∷ lives) = promised_by_all (promised_by so_far life) lives

-- a process that has ended, or waits for a request
abbrev pub IsAtRest : Guest → ProcessState → Type 0
IsAtRest guest p = (p.ended ≢ None) ⊎ (next_of guest p None ≡ Wants question.Request)

-- The image holds all that was promised, by its snapshot alone: this process, at rest.
pub record IsLeft (m : Module) (config : Settings) (promise : Promise) (disk : DiskImage)
    (p : ProcessState) : Type 0 where
  pub holds : HoldsPromise m config promise promise disk
  pub no_records : holds.stands.records ≡ []
  pub at_rest : IsAtRest holds.stands.reached.guest holds.stands.process
  pub is : p ≡ holds.stands.process

-- ---- what is promised of the next one

-- What is promised of a worker of this version that goes on from there, once it was created. It has
-- taken all that it goes on from, and those lines were told, heard and passed. So it can't be
-- created by a life, nor tell one of them again.
abbrev pub promised_from : Version → Origin → Promise
promised_from v o = record {
  kept = first_kept v o;
  answers = length (first_kept v o);
  steps = o.steps;
  passed = length o.lines;
  begun = length o.lines;
  heard = length o.lines;
  synced = o.steps;
  was_created = true;
  has_opened = true;
  events = 1;
}

-- The restart theorem of a worker that goes on from there.
abbrev pub SuccessorGoesOn : Version → Origin → Module → Settings → List Inputs → List Life
    → Type 0
SuccessorGoesOn v o m config inputs lives = GoOn m config (promised_from v o) inputs lives

-- none of these is what a process goes on from
abbrev pub SucceedNone : List Kept → Type 0
SucceedNone [] = Unit {0}
SucceedNone (Succeeds o ∷ kept) = ⊥
SucceedNone (k ∷ kept) = SucceedNone kept

-- ---- what is told together

-- one of these has this number
abbrev pub HasNumber : ℕ → List Release → Type 0
HasNumber n [] = ⊥
HasNumber n (r ∷ told) = (r.number ≡ n) ⊎ HasNumber n told

-- the first one, if there is one, has this number
abbrev pub IsFirstNumber : ℕ → List Release → Type 0
IsFirstNumber n [] = Unit {0}
IsFirstNumber n (r ∷ told) = r.number ≡ n

-- Beyond the first so many lines none is left out before one that was told.
abbrev pub LeaveNoneOut : ℕ → List Release → Type 0
LeaveNoneOut heard told =
    (i k : ℕ) → heard < i → i ≤ k → HasNumber k told → HasNumber i told

-- What two workers told is one history. `so_far` was promised of the first one as its lives began,
-- and `left` after them. The second one goes on from the first n lines.
pub record IsOneHistory (so_far left : Promise) (n : ℕ) (told later : List Release) : Type 0 where
  -- no line is taken back, and an outlet has taken each that is left
  pub onward : so_far.passed ≤ n
  pub heard : n ≤ left.heard
  -- the first worker has told each of them, and none beyond
  pub all_told : (i : ℕ) → so_far.heard < i → i ≤ n → HasNumber i told
  pub within : AllByRecursion (λ (r : Release). r.number ≤ n) told
  -- the second one begins with the next line, and never comes back to those
  pub next : IsFirstNumber (n + 1) later
  pub beyond : AllByRecursion (λ (r : Release). n < r.number) later
  -- together they leave none out, and no number has two texts
  pub none_left_out : LeaveNoneOut so_far.heard (told ++ later)
  pub one_text : HaveOneText (told ++ later)

-- Workers, one after another, from what was promised so far, with all lines that they told. Each
-- goes on from the lines that the one before it has left.
pub data AreSuccessive : Promise → List Release → Type 0 where
  alone : {so_far : Promise} (m : Module) (config : Settings) (inputs : List Inputs)
      (lives : List Life) → IsValid m → GoOn m config so_far inputs lives
      → AreSuccessive so_far (told_lines lives)
  followed : {so_far : Promise} {later : List Release} (m : Module) (config : Settings)
      (inputs : List Inputs) (lives : List Life) (disk : DiskImage) (p : ProcessState)
      (v : Version) (o : Origin) → IsValid m → GoOn m config so_far inputs lives
      → IsLeft m config (promised_by_all so_far lives) disk p → o.lines ≡ p.host.lines
      → AreSuccessive (promised_from v o) later
      → AreSuccessive so_far (told_lines lives ++ later)
