-- What a fault says.
use Rattle.std.specs.Prelude.{◌≡◌, ◌⊎◌, ℕ, List, [], ◌∷◌, Some, None}
use Rattle.wasm_syntax.specs.declared.types.FunctionType.{FunctionType}
use Rattle.wasm_syntax.specs.declared.module.Module.{Module}
use Rattle.wasm_syntax.specs.declared.module.Import.{Import}
use Rattle.wasm_rules.specs.Validity.{memories_of}
use Rattle.wasm_rules.specs.Linking.{IsItemOffered, IsOffered, HasExportedMemory, FitsPages}
use Rattle.wasm_rules.specs.Linking.{IsLinkable}
use Rattle.machine.specs.declared.instance.fault.LinkFault.{LinkFault}
use Rattle.machine.specs.declared.instance.fault.LinkFault.TheVariants.{NoStart, NoMemory}
use Rattle.machine.specs.declared.instance.fault.LinkFault.TheVariants.{UnknownImport, ImportType}
use Rattle.machine.specs.declared.instance.fault.LinkFault.TheVariants.{InitRange, TooManyPages}
use Rattle.machine.specs.declared.instance.fault.LinkFault.TheVariants.{Memory}
use Rattle.machine.specs.rules.Offers.{offer}
use Rattle.machine.specs.rules.Initial.{CanStart, AreImportsOffered, CanBegin}

-- The host offers nothing under the import's name, or a function of another type.
abbrev pub IsImportRefused : List FunctionType → Import → LinkFault → Type 0
IsImportRefused types i UnknownImport = offer i.module_name i.name ≡ None
IsImportRefused types i ImportType = (signature : FunctionType)
    × (offer i.module_name i.name ≡ Some signature) × (IsItemOffered (Some signature)
    types i.item → ⊥)
IsImportRefused types i _ = ⊥

-- the first import that isn't offered is refused for this
abbrev pub AreImportsRefused : List FunctionType → List Import → LinkFault → Type 0
AreImportsRefused types [] fault = ⊥
AreImportsRefused types (i ∷ imports) fault = IsImportRefused types i fault
    ⊎ (IsOffered offer types i × AreImportsRefused types imports fault)

-- A fault names the first thing that isn't there. Where memory is wanted, all else is there.
abbrev pub IsRefused : ℕ → Module → LinkFault → Type 0
IsRefused pages m NoStart = CanStart m → ⊥
IsRefused pages m NoMemory = CanStart m × (HasExportedMemory m → ⊥)
IsRefused pages m UnknownImport = CanStart m × HasExportedMemory m
    × AreImportsRefused m.types m.imports UnknownImport
IsRefused pages m ImportType = CanStart m × HasExportedMemory m
    × AreImportsRefused m.types m.imports ImportType
IsRefused pages m InitRange = CanStart m × HasExportedMemory m × AreImportsOffered m × (CanBegin m
    → ⊥)
IsRefused pages m TooManyPages = CanStart m × HasExportedMemory m × AreImportsOffered m × CanBegin m
    × (FitsPages (memories_of m) pages → ⊥)
IsRefused pages m Memory = IsLinkable offer pages m

-- any fault but out of memory says that P doesn't hold
abbrev pub LinkDenies : Type 0 → LinkFault → Type 0
LinkDenies P Memory = Unit {0}
LinkDenies P NoStart = P → ⊥
LinkDenies P NoMemory = P → ⊥
LinkDenies P UnknownImport = P → ⊥
LinkDenies P ImportType = P → ⊥
LinkDenies P InitRange = P → ⊥
LinkDenies P TooManyPages = P → ⊥
