-- Laws of images.
use Rattle.std.specs.Prelude.{◌≡◌, ℕ, ◌+◌, ◌*◌, ◌<◌, ◌≤◌, ◌^◌, List, length, Option}
use Rattle.std.specs.List.{AllByRecursion}
use Rattle.wasm_syntax.specs.declared.types.FunctionType.{FunctionType}
use Rattle.wasm_syntax.specs.declared.module.Module.{Module}
use Rattle.guest_memory.specs.rules.Bytes.{IsByte}
use Rattle.wasm_rules.specs.Acceptance.{IsAccepted}
use Rattle.wasm_rules.specs.Validity.{AreFunctionTypes, module_context}
use Rattle.wasi_abi.specs.rules.Configs.{Settings}
use Rattle.wasi_calls_rules.specs.laws.Laws.{IsOfBytes}
use Rattle.process_rules.specs.Processes.{ProcessState, Guest, HasLineNumbers, host_of}
use Rattle.process_rules.specs.Runs.{Kept, Reaches}
use Rattle.machine.specs.rules.Offers.{offer}
use Rattle.process.specs.rules.Values.{ProcessValue, ShowsProcess, IsProcess}
use Rattle.state_image.specs.rules.ProcessImage.{Saved, SavedShowsProcess, process_image}
use Rattle.state_image.specs.rules.Restored.{IsRestored}
use Rattle.state_image.specs.rules.Saving.{saved_of}
use Rattle.state_image.specs.rules.WellTyped.{IsWellTyped}

-- The image of a well-typed process is that of no other one.
abbrev pub ProcessImagesAreDistinct : Type 0
ProcessImagesAreDistinct =
    (m : Module) (config : Settings) (s t : Saved)
    → IsWellTyped m config s → IsWellTyped m config t → process_image s ≡ process_image t → s ≡ t

-- The image of a well-typed process has a mebibyte at most, and what memory and files may have.
abbrev pub ProcessImagesHaveRoom : Type 0
ProcessImagesHaveRoom =
    (m : Module) (config : Settings) (s : Saved) → IsWellTyped m config s
    → length (process_image s) ≤ 1048576 + 65536 * (config.pages + config.files)

-- It is of bytes.
abbrev pub ProcessImagesAreBytes : Type 0
ProcessImagesAreBytes =
    (m : Module) (config : Settings) (s : Saved) → IsWellTyped m config s
    → AllByRecursion IsByte (process_image s)

-- What is saved of a process shows every process of the rules that it shows, in the program of its
-- module. (It shows the lines that wait by their number alone.)
abbrev pub SavesWhatIsShown : Type 0
SavesWhatIsShown =
    (v : ProcessValue) (guest : Guest) (p : ProcessState) → ShowsProcess v guest p
    → (functions : List FunctionType) × AreFunctionTypes v.machine.guest functions
    × SavedShowsProcess (module_context v.machine.guest functions) guest.program v.machine.table
    (saved_of v) p

-- Every process is well typed that an accepted module reaches under a configuration of bytes, as
-- long as its steps and lines can be numbered.
abbrev pub ReachedIsWellTyped : Type 0
ReachedIsWellTyped =
    (bytes : List ℕ) (m : Module) (config : Settings) (functions : List FunctionType)
    (kept : List Kept) (n : ℕ) (p : ProcessState) (table : List (Option ℕ)) (s : Saved)
    → IsAccepted offer config.pages bytes m → config.pages ≤ 2 ^ 16 → IsOfBytes (host_of config)
    → (reached : Reaches m config kept n p) → n < 2 ^ 63 → HasLineNumbers p.host
    → AreFunctionTypes m functions
    → SavedShowsProcess (module_context m functions) reached.guest.program table s p
    → IsWellTyped m config s

-- So is what is saved of the code's process, where that shows what its module has reached.
abbrev pub SavedIsWellTyped : Type 0
SavedIsWellTyped =
    (bytes : List ℕ) (m : Module) (config : Settings) (kept : List Kept) (n : ℕ)
    (v : ProcessValue) (p : ProcessState)
    → IsAccepted offer config.pages bytes m → config.pages ≤ 2 ^ 16 → IsOfBytes (host_of config)
    → (reached : Reaches m config kept n p) → v.machine.guest ≡ m → IsProcess v
    → ShowsProcess v reached.guest p → IsWellTyped m config (saved_of v)

-- Take the image of a process that an accepted module has reached. A process that was made again of
-- it has what was saved of that one, and shows it, with the texts of all its lines.
abbrev pub RestoredShowsReached : Type 0
RestoredShowsReached =
    (bytes : List ℕ) (m : Module) (config : Settings) (functions : List FunctionType)
    (kept : List Kept) (n : ℕ) (p : ProcessState) (table : List (Option ℕ)) (s : Saved)
    (v : ProcessValue)
    → IsAccepted offer config.pages bytes m → config.pages ≤ 2 ^ 16 → IsOfBytes (host_of config)
    → (reached : Reaches m config kept n p) → n < 2 ^ 63 → HasLineNumbers p.host
    → AreFunctionTypes m functions
    → SavedShowsProcess (module_context m functions) reached.guest.program table s p
    → IsRestored m config (process_image s) v
    → (saved_of v ≡ s) × ShowsProcess v reached.guest p
