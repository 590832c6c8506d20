-- What is told of a module that isn't accepted, beside its fault (this project's own).
use Rattle.std.specs.Prelude.{◌≡◌, ◌⊎◌, ℕ, ◌<◌, List, [], ◌∷◌, ◌++◌, codes, Some, nat_le}
use Rattle.std.specs.Prelude.{if◌then◌else◌, slice_get, true}
use Rattle.std.specs.Fmt.{decimal}
use Rattle.wasm_syntax.specs.declared.types.FunctionType.{FunctionType}
use Rattle.wasm_syntax.specs.declared.types.MemoryType.{MemoryType}
use Rattle.wasm_syntax.specs.declared.module.Import.{Import}
use Rattle.wasm_syntax.specs.declared.module.ImportItem.TheVariants as import
use Rattle.wasm_syntax.specs.declared.module.Module.{Module}
use Rattle.wasm_syntax.specs.rules.Modules.{IsModule}
use Rattle.wasm_decode.specs.declared.fault.DecodeFault.{DecodeFault}
use Rattle.wasm_decode.specs.declared.fault.DecodeFault.TheVariants as decode
use Rattle.wasi_abi.specs.declared.call.Call.{Call}
use Rattle.wasi_abi.specs.rules.Calls.{call_type_of}
use Rattle.machine.specs.declared.instance.fault.LinkFault.{LinkFault}
use Rattle.machine.specs.declared.instance.fault.LinkFault.TheVariants as link
use Rattle.machine.specs.rules.Offers.{imported_call}
use Rattle.machine.specs.declared.from_bytes.fault.ModuleFault.{ModuleFault}
use Rattle.machine.specs.declared.from_bytes.fault.ModuleFault.TheVariants.{Decode, Valid, Link}
use Rattle.command_words.specs.rules.Floats.{TellsOfFloat}
use Rattle.command_words.specs.rules.Printers.{PrinterState, IsPrinted}

-- ---- imports

-- an import is a function with the type of the call that it names
pub record IsImportOffered (types : List FunctionType) (i : Import) : Type 0 where
  pub call : Call
  pub index : ℕ
  pub names : imported_call i ≡ Some call
  pub is_function : i.item ≡ import.Function index
  pub has_type : slice_get types index ≡ Some (call_type_of call)

-- all imports before this one are offered, and this one isn't
pub record IsFirstRefused (m : Module) (i : Import) : Type 0 where
  pub place : ℕ
  pub is : slice_get m.imports place ≡ Some i
  pub offered : (k : ℕ) (other : Import) → k < place → slice_get m.imports k ≡ Some other
      → IsImportOffered m.types other
  pub refused : IsImportOffered m.types i → ⊥

-- its names, and what is wrong with it
abbrev pub import_text : Import → List ℕ → List ℕ
import_text i what = codes "import " ++ i.module_name ++ codes "." ++ i.name ++ what

-- That is printed of the first import that isn't offered, if there is one.
abbrev pub TellsOfImport : Module → List ℕ → PrinterState → PrinterState → Type 0
TellsOfImport m what old new = (new ≡ old)
    ⊎ ((i : Import) × IsFirstRefused m i × IsPrinted old new (import_text i what))

-- ---- pages

-- how many pages the first of these memories begins with
abbrev pub pages_of_first : List MemoryType → ℕ
pages_of_first [] = 0
pages_of_first (memory ∷ memories) = memory.limits.minimum

-- how many pages the memory of a module begins with
abbrev pub first_pages : Module → ℕ
first_pages m = pages_of_first m.memories

-- how many there are, and the option that allows them
abbrev pub pages_text : ℕ → List ℕ
pages_text n = codes "begins with " ++ decimal n
    ++ (if nat_le n 256 then codes " pages: --pages " ++ decimal n ++ codes "\n"
    else codes " pages, and a worker has at most 256\n")

-- ---- all that is told

-- what is told of a module that can't be linked
abbrev pub TellsOfLink : Module → LinkFault → PrinterState → PrinterState → Type 0
TellsOfLink m link.UnknownImport old new =
    TellsOfImport m (codes " isn't one of the 31 calls\n") old new
TellsOfLink m link.ImportType old new =
    TellsOfImport m (codes " has another type than this call\n") old new
TellsOfLink m link.TooManyPages old new = IsPrinted old new (pages_text (first_pages m))
TellsOfLink m _ old new = new ≡ old

-- What is told of bytes that spell no module: where their floats are. The limit that they pass is
-- told with the verdict.
abbrev pub TellsOfBytes : List ℕ → DecodeFault → PrinterState → PrinterState → Type 0
TellsOfBytes bytes (decode.Float at) old new = TellsOfFloat bytes at old new
TellsOfBytes bytes _ old new = new ≡ old

-- What is told of a module that isn't accepted: of one that can't be linked, unless there is no
-- memory to look at it once more.
abbrev pub TellsMore : List ℕ → ModuleFault → PrinterState → PrinterState → Type 0
TellsMore bytes (Link fault) old new =
    (new ≡ old) ⊎ ((m : Module) × IsModule bytes m × TellsOfLink m fault old new)
TellsMore bytes (Decode fault) old new = TellsOfBytes bytes fault old new
TellsMore bytes (Valid fault) old new = new ≡ old

-- that is told last
abbrev pub EndsWithMore : List ℕ → ModuleFault → PrinterState → Type 0
EndsWithMore bytes why new = (mid : PrinterState) × TellsMore bytes why mid new

-- That is told last, unless a write has failed.
abbrev pub SaysMore : List ℕ → ModuleFault → PrinterState → Type 0
SaysMore bytes why new = EndsWithMore bytes why new ⊎ (new.failed ≡ true)
