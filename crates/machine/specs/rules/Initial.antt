-- What a module has to begin with.
use Rattle.std.specs.Prelude.{◌≡◌, ℕ, List, Option, Some}
use Rattle.std.specs.List.{AllByRecursion}
use Rattle.wasm_syntax.specs.declared.value.Value.{Value}
use Rattle.wasm_syntax.specs.declared.module.Module.{Module}
use Rattle.wasm_syntax.specs.declared.module.Global.{Global}
use Rattle.wasm_syntax.specs.declared.module.Element.{Element}
use Rattle.wasm_syntax.specs.declared.module.Data.{Data}
use Rattle.wasm_rules.specs.Configuration.{Store}
use Rattle.wasm_rules.specs.Instantiation.{AreInitial, filled_table, filled_memory, IsInitialStore}
use Rattle.wasm_rules.specs.Validity.{memories_of}
use Rattle.wasm_rules.specs.Linking.{IsOffered, HasEntry, HasExportedMemory, FitsPages}
use Rattle.machine.specs.rules.Offers.{offer}

-- some function is its entry
abbrev pub CanStart : Module → Type 0
CanStart m = (entry : ℕ) × HasEntry m entry

-- the host offers every import
abbrev pub AreImportsOffered : Module → Type 0
AreImportsOffered m = AllByRecursion (IsOffered offer m.types) m.imports

-- every segment is inside, so that there is a store to begin with
abbrev pub CanBegin : Module → Type 0
CanBegin m = (store : Store) × IsInitialStore m store

-- what has to be there before memory is taken
pub record IsPrepared (pages : ℕ) (m : Module) (entry : ℕ) : Type 0 where
  pub has_entry : HasEntry m entry
  pub has_memory : HasExportedMemory m
  pub offered : AreImportsOffered m
  pub begins : CanBegin m
  pub fits : FitsPages (memories_of m) pages

-- the globals have initial values, with which these elements fill this table
abbrev pub CanFillTable : List Global → List Element → List (Option ℕ) → Type 0
CanFillTable globals elements table =
    (values : List Value) × (filled : List (Option ℕ)) × AreInitial globals values
    × (filled_table values elements table ≡ Some filled)

-- the table that these elements leave
abbrev pub FillsTable : List Global → List Element → List (Option ℕ) → List (Option ℕ) → Type 0
FillsTable globals elements old new =
    (values : List Value) (filled : List (Option ℕ)) → AreInitial globals values
    → filled_table values elements old ≡ Some filled → new ≡ filled

-- the data segments lie inside this memory, with the first values of these globals
abbrev pub CanFillMemory : List Global → List Data → List ℕ → Type 0
CanFillMemory globals segments memory =
    (values : List Value) × (filled : List ℕ) × AreInitial globals values
    × (filled_memory values segments memory ≡ Some filled)

-- the new memory is the old one with the data segments put in
abbrev pub FillsMemory : List Global → List Data → List ℕ → List ℕ → Type 0
FillsMemory globals segments old new =
    (values : List Value) (filled : List ℕ) → AreInitial globals values
    → filled_memory values segments old ≡ Some filled → new ≡ filled
