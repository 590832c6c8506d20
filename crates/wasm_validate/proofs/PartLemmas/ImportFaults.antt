-- The first import that isn't valid, and why no module with it is valid.
use Rattle.std.proofs.Common.{◌≡◌, ◌⊎◌, ℕ, suc, ◌+◌, ◌≤◌, Bool, true, false, List, [], ◌∷◌, ◌++◌}
use Rattle.std.proofs.Common.{length, inl, inr, refl, sym, subst, map, arith, Result, Ok, Err}
use Rattle.std.specs.Prelude.{IfErr}
use Rattle.std.specs.List.{AllByRecursion}
use Rattle.std.proofs.lemmas.List.{length-append}
use Rattle.std.proofs.lemmas.Option.{slice_get_within}
use Rattle.wasm_syntax.specs.declared.types.FunctionType.{FunctionType}
use Rattle.wasm_syntax.specs.declared.types.TableType.{TableType}
use Rattle.wasm_syntax.specs.declared.types.MemoryType.{MemoryType}
use Rattle.wasm_syntax.specs.declared.module.Module.{Module}
use Rattle.wasm_syntax.specs.declared.module.Import.{Import}
use Rattle.wasm_syntax.specs.declared.module.ImportItem.{ImportItem}
use Rattle.wasm_syntax.specs.declared.module.ImportItem.TheVariants as import
use Rattle.wasm_rules.specs.Types.{imported_functions, imported_tables, imported_memories}
use Rattle.wasm_rules.specs.Types.{with_function_index, with_table_type, with_memory_type}
use Rattle.wasm_syntax.specs.rules.Modules.{function_type_of}
use Rattle.wasm_rules.specs.Validity.{AreTypesAt, IsTableTypeValid, IsMemoryTypeValid}
use Rattle.wasm_rules.specs.Validity.{IsValid, memories_of, tables_of}
use Rattle.wasm_validate.specs.declared.parts.imports.Before.{Before}
use Rattle.wasm_validate.specs.declared.parts.fault.ValidFault.{ValidFault}
use Rattle.wasm_validate.specs.declared.parts.fault.ValidFault.TheVariants.{Index, Limits, Memory}
use Rattle.wasm_validate.specs.rules.Answers.{Denies}
use Rattle.wasm_validate.specs.rules.Faults.{HasFault}
use Rattle.wasm_validate.specs.Parts.Parts.{IsFirstImportFault, IsImportItemValid}
use Rattle.wasm_validate.specs.Parts.Parts.{import_fault, nothing_before, with_import}
use Rattle.wasm_validate.proofs.PartLemmas.Imported.{all_left}

-- ---- what the first fault says of all

-- as many as were there before
abbrev count : Bool → ℕ
count true = 1
count false = 0

-- a function has no type, or a limit of what is imported doesn't hold
abbrev Says : List FunctionType → ValidFault → Before → List ℕ → List TableType → List MemoryType
    → Type 0
Says types e before indices tables memories =
    ((e ≡ Index) × ((functions : List FunctionType) → AreTypesAt types indices functions → ⊥))
    ⊎ ((e ≡ Limits) × (AllByRecursion IsTableTypeValid tables
    → AllByRecursion IsMemoryTypeValid memories → count before.table + length tables ≤ 1
    → count before.memory + length memories ≤ 1 → ⊥))

first_one : (b : Bool) (n : ℕ) → count b + suc n ≤ 1 → b ≡ false
first_one true n h = absurd (omega arith)
first_one false n h = refl

then_none : (b : Bool) (n : ℕ) → count b + suc n ≤ 1 → count true + n ≤ 1
then_none true n h = absurd (omega arith)
then_none false n h = omega arith

module _ (types : List FunctionType) (own : List ℕ) (e : ValidFault) where
  here : (item : ImportItem) (before : Before) (indices : List ℕ) (ts : List TableType)
      (ms : List MemoryType) → (IsImportItemValid types before item → ⊥) → e ≡ import_fault item
      → Says types e before (with_function_index item indices ++ own) (with_table_type item ts)
      (with_memory_type item ms)
  here (import.Function x) before indices ts ms r is =
      inl (is, λ functions are. by_types functions are)
    where
      by_types : (functions : List FunctionType)
          → AreTypesAt types (x ∷ (indices ++ own)) functions → ⊥
      by_types [] are = are
      by_types (f ∷ fs) are = r (slice_get_within types x f are.0)
  here (import.Table t) before indices ts ms r is =
      inr (
        is,
        λ tables memories one_table one_memory. r
            (tables.0, first_one before.table (length ts) one_table),
      )
  here (import.Memory t) before indices ts ms r is =
      inr (
        is,
        λ tables memories one_table one_memory. r
            (memories.0, first_one before.memory (length ms) one_memory),
      )
  here (import.Global t) before indices ts ms r is = absurd (r tt)

  further : (item : ImportItem) (before : Before) (indices : List ℕ) (ts : List TableType)
      (ms : List MemoryType) → Says types e (with_import before item) (indices ++ own) ts ms
      → Says types e before (with_function_index item indices ++ own) (with_table_type item ts)
      (with_memory_type item ms)
  further (import.Function x) before indices ts ms (inl h) =
      inl (h.0, λ functions are. by_types functions are)
    where
      by_types : (functions : List FunctionType)
          → AreTypesAt types (x ∷ (indices ++ own)) functions → ⊥
      by_types [] are = are
      by_types (f ∷ fs) are = h.1 fs are.1
  further (import.Function x) before indices ts ms (inr h) = inr h
  further (import.Table t) before indices ts ms (inl h) = inl h
  further (import.Table t) before indices ts ms (inr h) =
      inr (
        h.0,
        λ tables memories one_table one_memory. h.1 tables.1 memories
            (then_none before.table (length ts) one_table) one_memory,
      )
  further (import.Memory t) before indices ts ms (inl h) = inl h
  further (import.Memory t) before indices ts ms (inr h) =
      inr (
        h.0,
        λ tables memories one_table one_memory. h.1 tables memories.1 one_table
            (then_none before.memory (length ms) one_memory),
      )
  further (import.Global t) before indices ts ms h = h

  says : (before : Before) (imports : List Import) → IsFirstImportFault types before imports e
      → Says types e before (imported_functions imports ++ own) (imported_tables imports)
      (imported_memories imports)
  says before [] first = absurd first
  says before (i ∷ imports) (inl h) =
      here i.item before (imported_functions imports) (imported_tables imports)
      (imported_memories imports) h.0 h.1
  says before (i ∷ imports) (inr h) =
      further i.item before (imported_functions imports) (imported_tables imports)
      (imported_memories imports) (says (with_import before i.item) imports h.1)

-- ---- modules

some_first : {X : Type 0} (xs ys : List X) → length (xs ++ ys) ≤ 1 → count false + length xs ≤ 1
some_first xs ys h = let e = length-append xs ys in omega arith

denied : {P : Type 0} (e : ValidFault) → (P → ⊥) → Denies e P
denied Memory h = tt
denied _ h = h

module _ (m : Module) where
  abbrev own : List ℕ
  own = map function_type_of m.functions

  -- a limit of what is imported doesn't hold, so one of the module doesn't
  imports_limited : AllByRecursion IsTableTypeValid (tables_of m)
      → AllByRecursion IsMemoryTypeValid (memories_of m) → length (tables_of m) ≤ 1
      → length (memories_of m) ≤ 1
      → (AllByRecursion IsTableTypeValid (imported_tables m.imports)
      → AllByRecursion IsMemoryTypeValid (imported_memories m.imports)
      → count false + length (imported_tables m.imports) ≤ 1
      → count false + length (imported_memories m.imports) ≤ 1 → ⊥) → ⊥
  imports_limited tables memories one_table one_memory h =
      h (all_left IsTableTypeValid (imported_tables m.imports) m.tables tables)
      (all_left IsMemoryTypeValid (imported_memories m.imports) m.memories memories)
      (some_first (imported_tables m.imports) m.tables one_table)
      (some_first (imported_memories m.imports) m.memories one_memory)

  imports_invalid : (e : ValidFault) → IsFirstImportFault m.types nothing_before m.imports e
      → IsValid m → ⊥
  imports_invalid e first v = by_fault (says m.types own e nothing_before m.imports first)
    where
      by_fault : Says m.types e nothing_before (imported_functions m.imports ++ own)
          (imported_tables m.imports) (imported_memories m.imports) → ⊥
      by_fault (inl h) = h.1 v.functions v.function_types
      by_fault (inr h) = imports_limited v.tables v.memories v.one_table v.one_memory h.1

  pub imports_denied : (r : Result Unit ValidFault)
      → IfErr r (IsFirstImportFault m.types nothing_before m.imports)
      → IfErr r (λ e. Denies e (IsValid m))
  imports_denied (Ok done) first = tt
  imports_denied (Err e) first = denied e (λ v. imports_invalid e first v)

  imports_fault : (e : ValidFault) → IsFirstImportFault m.types nothing_before m.imports e
      → HasFault m e
  imports_fault e first = by_fault (says m.types own e nothing_before m.imports first)
    where
      by_fault : Says m.types e nothing_before (imported_functions m.imports ++ own)
          (imported_tables m.imports) (imported_memories m.imports) → HasFault m e
      by_fault (inl h) =
          let F : ValidFault → Type 0 = HasFault m in subst F (sym h.0)
          (λ functions are n. h.1 functions are)
      by_fault (inr h) =
          let F : ValidFault → Type 0 = HasFault m in subst F (sym h.0)
          (λ k. imports_limited k.tables k.memories k.one_table k.one_memory h.1)

  pub imports_told : (r : Result Unit ValidFault)
      → IfErr r (IsFirstImportFault m.types nothing_before m.imports) → IfErr r (HasFault m)
  imports_told (Ok done) h = tt
  imports_told (Err e) h = imports_fault e h
