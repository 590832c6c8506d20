-- The limits of imported tables and memories, import by import.
use Rattle.std.proofs.Common.{◌≡◌, ◌↔◌, Bool, false, IsTrue, List, [], ◌∷◌, ◌++◌}
use Rattle.std.specs.List.{AllByRecursion}
use Rattle.wasm_syntax.specs.declared.types.TableType.{TableType}
use Rattle.wasm_syntax.specs.declared.types.MemoryType.{MemoryType}
use Rattle.wasm_syntax.specs.declared.module.Import.{Import}
use Rattle.wasm_syntax.specs.declared.module.ImportItem.{ImportItem}
use Rattle.wasm_syntax.specs.declared.module.ImportItem.TheVariants as import
use Rattle.wasm_rules.specs.Types.{imported_tables, imported_memories, with_table_type}
use Rattle.wasm_rules.specs.Types.{with_memory_type}
use Rattle.wasm_rules.specs.Validity.{IsTableTypeValid, IsMemoryTypeValid}
use Rattle.wasm_validate.specs.Parts.Parts.{IsImportedTableValid, IsImportedMemoryValid}
use Rattle.guest_memory.proofs.Lists.{all_both as all_append}

pub all_left : {X : Type 0} (P : X → Type 0) (xs ys : List X) → AllByRecursion P (xs ++ ys)
    → AllByRecursion P xs
all_left P [] ys h = tt
all_left P (x ∷ xs) ys h = (h.0, all_left P xs ys h.1)

pub all_right : {X : Type 0} (P : X → Type 0) (xs ys : List X) → AllByRecursion P (xs ++ ys)
    → AllByRecursion P ys
all_right P [] ys h = h
all_right P (x ∷ xs) ys h = all_right P xs ys h.1

-- ---- tables

abbrev pub IsTableImportValid : Import → Type 0
IsTableImportValid i = IsImportedTableValid i.item

with_valid_table : (item : ImportItem) (ts : List TableType) → IsImportedTableValid item
    → AllByRecursion IsTableTypeValid ts → AllByRecursion IsTableTypeValid (with_table_type item ts)
with_valid_table (import.Table t) ts h k = (h, k)
with_valid_table _ ts h k = k

of_valid_table : (item : ImportItem) (ts : List TableType)
    → AllByRecursion IsTableTypeValid (with_table_type item ts) → IsImportedTableValid item
    × AllByRecursion IsTableTypeValid ts
of_valid_table (import.Table t) ts h = h
of_valid_table _ ts h = (tt, h)

pub tables_from_imports : (imports : List Import) → AllByRecursion IsTableImportValid imports
    → AllByRecursion IsTableTypeValid (imported_tables imports)
tables_from_imports [] h = tt
tables_from_imports (i ∷ imports) h =
    with_valid_table i.item (imported_tables imports) h.0 (tables_from_imports imports h.1)

pub imports_from_tables : (imports : List Import)
    → AllByRecursion IsTableTypeValid (imported_tables imports)
    → AllByRecursion IsTableImportValid imports
imports_from_tables [] h = tt
imports_from_tables (i ∷ imports) h = let w = of_valid_table i.item (imported_tables imports) h in
    (w.0, imports_from_tables imports w.1)

-- ---- memories

abbrev pub IsMemoryImportValid : Import → Type 0
IsMemoryImportValid i = IsImportedMemoryValid i.item

with_valid_memory : (item : ImportItem) (ts : List MemoryType) → IsImportedMemoryValid item
    → AllByRecursion IsMemoryTypeValid ts
    → AllByRecursion IsMemoryTypeValid (with_memory_type item ts)
with_valid_memory (import.Memory t) ts h k = (h, k)
with_valid_memory _ ts h k = k

of_valid_memory : (item : ImportItem) (ts : List MemoryType)
    → AllByRecursion IsMemoryTypeValid (with_memory_type item ts) → IsImportedMemoryValid item
    × AllByRecursion IsMemoryTypeValid ts
of_valid_memory (import.Memory t) ts h = h
of_valid_memory _ ts h = (tt, h)

pub memories_from_imports : (imports : List Import) → AllByRecursion IsMemoryImportValid imports
    → AllByRecursion IsMemoryTypeValid (imported_memories imports)
memories_from_imports [] h = tt
memories_from_imports (i ∷ imports) h =
    with_valid_memory i.item (imported_memories imports) h.0 (memories_from_imports imports h.1)

pub imports_from_memories : (imports : List Import)
    → AllByRecursion IsMemoryTypeValid (imported_memories imports)
    → AllByRecursion IsMemoryImportValid imports
imports_from_memories [] h = tt
imports_from_memories (i ∷ imports) h = let w = of_valid_memory i.item (imported_memories imports) h
    in (w.0, imports_from_memories imports w.1)

-- ---- with the module's own

pub tables_by_own : (imports : List Import) (own : List TableType) (b : Bool)
    → AllByRecursion IsTableImportValid imports → IsTrue b ↔ AllByRecursion IsTableTypeValid own
    → IsTrue b ↔ AllByRecursion IsTableTypeValid (imported_tables imports ++ own)
tables_by_own imports own b h k = (
  λ t. all_append IsTableTypeValid (imported_tables imports) own (tables_from_imports imports h)
      (k.0 t),
  λ all. k.1 (all_right IsTableTypeValid (imported_tables imports) own all),
)

pub memories_by_own : (imports : List Import) (own : List MemoryType) (b : Bool)
    → AllByRecursion IsMemoryImportValid imports → IsTrue b ↔ AllByRecursion IsMemoryTypeValid own
    → IsTrue b ↔ AllByRecursion IsMemoryTypeValid (imported_memories imports ++ own)
memories_by_own imports own b h k = (
  λ t. all_append IsMemoryTypeValid (imported_memories imports) own
      (memories_from_imports imports h) (k.0 t),
  λ all. k.1 (all_right IsMemoryTypeValid (imported_memories imports) own all),
)

pub no_tables : (imports : List Import) (own : List TableType) (b : Bool) → IsTrue b
    ↔ AllByRecursion IsTableImportValid imports → b ≡ false → IsTrue b
    ↔ AllByRecursion IsTableTypeValid (imported_tables imports ++ own)
no_tables imports own b h e = (
  λ t. absurd (cc),
  λ all. h.1 (imports_from_tables imports
      (all_left IsTableTypeValid (imported_tables imports) own all)),
)

pub no_memories : (imports : List Import) (own : List MemoryType) (b : Bool) → IsTrue b
    ↔ AllByRecursion IsMemoryImportValid imports → b ≡ false → IsTrue b
    ↔ AllByRecursion IsMemoryTypeValid (imported_memories imports ++ own)
no_memories imports own b h e = (
  λ t. absurd (cc),
  λ all. h.1 (imports_from_memories imports
      (all_left IsMemoryTypeValid (imported_memories imports) own all)),
)
