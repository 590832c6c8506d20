-- When a module has a store to begin with, and what a linked instance is.
use Rattle.std.proofs.Common.{◌≡◌, ◌≢◌, ◌⊎◌, inl, inr, ◌↔◌, ℕ, Bool, true, false, IsTrue, List, []}
use Rattle.std.proofs.Common.{◌∷◌, ◌++◌, Option, Some, refl, sym, ap, ◌∙◌, subst}
use Rattle.std.specs.Prelude.{IsSome, is_some}
use Rattle.wasm_syntax.specs.declared.types.TableType.{TableType}
use Rattle.wasm_syntax.specs.declared.types.MemoryType.{MemoryType}
use Rattle.wasm_syntax.specs.declared.value.Value.{Value}
use Rattle.wasm_syntax.specs.declared.types.FunctionType.{FunctionType}
use Rattle.wasm_syntax.specs.declared.module.Import.{Import}
use Rattle.wasm_syntax.specs.declared.module.Module.{Module}
use Rattle.wasm_rules.specs.Validity.{IsValid, tables_of, memories_of}
use Rattle.wasm_rules.specs.Configuration.{Store}
use Rattle.wasm_rules.specs.Instantiation.{AreInitial, filled_table, filled_memory, empty_table}
use Rattle.wasm_rules.specs.Instantiation.{empty_memory, most_pages_of, IsInitialStore}
use Rattle.wasm_rules.specs.Linking.{HasExportedMemory, IsLinkable}
use Rattle.wasm_validate.proofs.PartLemmas.Lookups.{is_false}
use Rattle.machine.specs.declared.instance.fault.LinkFault.{LinkFault}
use Rattle.machine.specs.declared.instance.fault.LinkFault.TheVariants.{NoStart, NoMemory}
use Rattle.machine.specs.declared.instance.fault.LinkFault.TheVariants.{UnknownImport, ImportType}
use Rattle.machine.specs.declared.instance.fault.LinkFault.TheVariants.{InitRange, TooManyPages}
use Rattle.machine.specs.declared.instance.fault.LinkFault.TheVariants.{Memory}
use Rattle.machine.specs.declared.instance.instance.Instance.{Instance}
use Rattle.machine.specs.rules.Offers.{offer, AreImportedCalls}
use Rattle.machine.specs.rules.Initial.{CanStart, AreImportsOffered, CanBegin, CanFillTable}
use Rattle.machine.specs.rules.Initial.{FillsTable, CanFillMemory, FillsMemory, IsPrepared}
use Rattle.machine.specs.rules.Refusals.{IsImportRefused, AreImportsRefused, IsRefused, LinkDenies}
use Rattle.machine.specs.rules.Instances.{store_of, IsLinked}
use Rattle.machine.proofs.InstanceLemmas.Offered.{no_globals, no_tables, no_memories}
use Rattle.machine.proofs.InstanceLemmas.Offered.{not_all_offered}
use Rattle.machine.proofs.InstanceLemmas.Constant.{initial_values}
use Rattle.machine.proofs.InstanceLemmas.Filled.{some_of}
use Rattle.wasm_rules.proofs.OneStore.{initial_once, store_from}

-- ---- a module whose imports are offered imports functions alone

pub own_tables : (m : Module) → AreImportsOffered m → tables_of m ≡ m.tables
own_tables m h = ap (λ ts. ts ++ m.tables) (no_tables m.types m.imports h)

pub own_memories : (m : Module) → AreImportsOffered m → memories_of m ≡ m.memories
own_memories m h = ap (λ ts. ts ++ m.memories) (no_memories m.types m.imports h)

-- ---- the store to begin with

pub fills_table : {m : Module} → AreImportsOffered m → {store : Store} → IsInitialStore m store
    → filled_table store.globals m.elements (empty_table m.tables) ≡ Some store.table
fills_table {m} h {store} is = let P : List TableType
    → Type 0 = λ ts. filled_table store.globals m.elements (empty_table ts) ≡ Some store.table in
    subst P (own_tables m h) is.table

pub fills_memory : {m : Module} → AreImportsOffered m → {store : Store} → IsInitialStore m store
    → filled_memory store.globals m.data_segments (empty_memory m.memories) ≡ Some store.memory
fills_memory {m} h {store} is = let P : List MemoryType
    → Type 0 = λ ts. filled_memory store.globals m.data_segments (empty_memory ts)
    ≡ Some store.memory in subst P (own_memories m h) is.memory

pub can_fill_table : (m : Module) → AreImportsOffered m → CanBegin m
    → CanFillTable m.globals m.elements (empty_table m.tables)
can_fill_table m h begins =
    (begins.0.globals, begins.0.table, begins.1.globals, fills_table h begins.1)

pub can_fill_memory : (m : Module) → AreImportsOffered m → CanBegin m
    → CanFillMemory m.globals m.data_segments (empty_memory m.memories)
can_fill_memory m h begins =
    (begins.0.globals, begins.0.memory, begins.1.globals, fills_memory h begins.1)

-- all segments are inside, whatever values the globals have
abbrev pub FillsAll : Module → List Value → Type 0
FillsAll m values = IsSome (filled_table values m.elements (empty_table m.tables))
    × IsSome (filled_memory values m.data_segments (empty_memory m.memories))

pub begins_filled : {m : Module} → IsValid m → AreImportsOffered m
    → ((values : List Value) → AreInitial m.globals values → FillsAll m values) → CanBegin m
begins_filled {m} v h fills =
    let globals = initial_values m m.globals (no_globals m.types m.imports h) v.globals in
    let all = fills globals.0 globals.1 in
    let table = some_of _ all.0 in
    let memory = some_of _ all.1 in
    let T : List TableType → Type 0 = λ ts. filled_table globals.0 m.elements (empty_table ts)
    ≡ Some table.0 in
    let M : List MemoryType → Type 0 =
    λ ts. filled_memory globals.0 m.data_segments (empty_memory ts) ≡ Some memory.0 in (
      record { memory = memory.0; globals = globals.0; table = table.0 },
      record {
        globals = globals.1;
        table = subst T (sym (own_tables m h)) table.1;
        memory = subst M (sym (own_memories m h)) memory.1;
      },
    )

pub filled_begins : (m : Module) → AreImportsOffered m → CanBegin m → (values : List Value)
    → AreInitial m.globals values → FillsAll m values
filled_begins m h begins values initial =
    let P : List Value → Type 0 = FillsAll m in
    subst P (initial_once m.globals begins.0.globals values begins.1.globals initial) (
      ap is_some (fills_table h begins.1),
      ap is_some (fills_memory h begins.1),
    )

pub begins_by : {m : Module} → IsValid m → AreImportsOffered m → {inside : Bool}
    (data_inside : Bool)
    → ((values : List Value) → AreInitial m.globals values → IsTrue inside
    ↔ IsSome (filled_table values m.elements (empty_table m.tables)))
    → ((values : List Value) → AreInitial m.globals values → IsTrue data_inside
    ↔ IsSome (filled_memory values m.data_segments (empty_memory m.memories))) → inside ≡ true
    → IsTrue data_inside ↔ CanBegin m
begins_by {m} v h data_inside table memory e = (
  λ t. begins_filled v h (λ values initial. (
    (table values initial).0 e,
    (memory values initial).0 t,
  )),
  λ begins.
      let globals = begins.0.globals in
      (memory globals begins.1.globals).1 (filled_begins m h begins globals begins.1.globals).1,
)

pub begins_nowhere : (m : Module) → AreImportsOffered m → {inside : Bool}
    → ((values : List Value) → AreInitial m.globals values → IsTrue inside
    ↔ IsSome (filled_table values m.elements (empty_table m.tables))) → inside ≡ false
    → IsTrue inside ↔ CanBegin m
begins_nowhere m h table e = (
  λ t. absurd (is_false (sym e ∙ t)),
  λ begins.
      let globals = begins.0.globals in
      (table globals begins.1.globals).1 (filled_begins m h begins globals begins.1.globals).0,
)

-- ---- refusals

-- only two faults refuse imports
refused_for : (types : List FunctionType) (i : Import) (e : LinkFault) → IsImportRefused types i e
    → (e ≡ UnknownImport) ⊎ (e ≡ ImportType)
refused_for types i UnknownImport h = inl refl
refused_for types i ImportType h = inr refl
refused_for types i _ h = absurd h

import_fault : (types : List FunctionType) (imports : List Import) (e : LinkFault)
    → AreImportsRefused types imports e → (e ≡ UnknownImport) ⊎ (e ≡ ImportType)
import_fault types [] e h = absurd h
import_fault types (i ∷ imports) e (inl h) = refused_for types i e h
import_fault types (i ∷ imports) e (inr h) = import_fault types imports e h.1

pub imports_refused : (pages : ℕ) {m : Module} (e : LinkFault) → CanStart m → HasExportedMemory m
    → AreImportsRefused m.types m.imports e → IsRefused pages m e × (e ≢ Memory)
imports_refused pages {m} e s memory r = by_fault (import_fault m.types m.imports e r)
  where
    by_fault : (e ≡ UnknownImport) ⊎ (e ≡ ImportType) → IsRefused pages m e × (e ≢ Memory)
    by_fault (inl is) =
        let P : LinkFault → Type 0 = λ e. AreImportsRefused m.types m.imports e in
        let Q : LinkFault → Type 0 = λ e. IsRefused pages m e × (e ≢ Memory) in
        subst Q (sym is) ((s, memory, subst P is r), λ f. cc)
    by_fault (inr is) =
        let P : LinkFault → Type 0 = λ e. AreImportsRefused m.types m.imports e in
        let Q : LinkFault → Type 0 = λ e. IsRefused pages m e × (e ≢ Memory) in
        subst Q (sym is) ((s, memory, subst P is r), λ f. cc)

pub denied : (pages : ℕ) (m : Module) (e : LinkFault) → IsRefused pages m e
    → LinkDenies (IsLinkable offer pages m) e
denied pages m NoStart r = λ l. r (l.entry, l.has_entry)
denied pages m NoMemory r = λ l. r.1 l.has_memory
denied pages m UnknownImport r = λ l. not_all_offered m.types m.imports UnknownImport r.2 l.imports
denied pages m ImportType r = λ l. not_all_offered m.types m.imports ImportType r.2 l.imports
denied pages m InitRange r = λ l. r.3 (l.store, l.segments)
denied pages m TooManyPages r = λ l. r.4 l.fits
denied pages m Memory r = tt

-- where all is there that memory isn't needed for, the module can be linked
pub could_be_linked : {pages : ℕ} {m : Module} {entry : ℕ} → IsPrepared pages m entry
    → IsLinkable offer pages m
could_be_linked {entry} p = record {
  entry = entry;
  store = p.begins.0;
  has_entry = p.has_entry;
  has_memory = p.has_memory;
  imports = p.offered;
  segments = p.begins.1;
  fits = p.fits;
}

-- ---- instances

same_store : {memory bytes : List ℕ} {globals values : List Value} {table entries : List (Option ℕ)}
    → memory ≡ bytes → globals ≡ values → table ≡ entries
    → store_from memory globals table ≡ store_from bytes values entries
same_store m g t = rw (m, g, t) refl

pub linked_by : {pages : ℕ} {m : Module} (i : Instance) → i.«module» ≡ m
    → IsPrepared pages m i.entry → AreInitial m.globals i.globals.items
    → FillsTable m.globals m.elements (empty_table m.tables) i.table.items
    → FillsMemory m.globals m.data_segments (empty_memory m.memories) i.memory.bytes
    → i.memory.limit ≡ most_pages_of m.memories pages → AreImportedCalls m.imports i.calls.items
    → IsLinked pages m i
linked_by {pages} {m} i same p globals table memory limit calls =
    let s = p.begins.0 in
    let is = p.begins.1 in
    let g = initial_once m.globals s.globals i.globals.items is.globals globals in
    let t = table s.globals s.table is.globals (fills_table p.offered is) in
    let b = memory s.globals s.memory is.globals (fills_memory p.offered is) in
    record {
      same = same;
      linkable = record {
        entry = i.entry;
        store = store_of i;
        has_entry = p.has_entry;
        has_memory = p.has_memory;
        imports = p.offered;
        segments = subst (IsInitialStore m) (same_store (sym b) g (sym t)) is;
        fits = p.fits;
      };
      entry = refl;
      store = refl;
      limit = limit ∙ ap (λ ts. most_pages_of ts pages) (sym (own_memories m p.offered));
      calls = calls;
    }
