-- How a module begins (Core Specification 1.0, section 4.5.4): its program, and the configuration
-- before the first counted step.
use Rattle.std.specs.Prelude.{◌≡◌, ℕ, ◌+◌, ◌*◌, min, nat_le, List, [], ◌∷◌, ◌++◌, length, replicate}
use Rattle.std.specs.Prelude.{map, take, drop, Option, Some, None, slice_get, if◌then◌else◌}
use Rattle.std.specs.Option.{option_and_then, option_map_or}
use Rattle.wasm_syntax.specs.declared.types.TableType.{TableType}
use Rattle.wasm_syntax.specs.declared.types.MemoryType.{MemoryType}
use Rattle.wasm_syntax.specs.declared.value.Value.{Value}
use Rattle.wasm_syntax.specs.declared.value.Value.TheVariants as value
use Rattle.wasm_syntax.specs.declared.instruction.Instruction.{Instruction}
use Rattle.wasm_syntax.specs.declared.instruction.Instruction.TheVariants as instr
use Rattle.wasm_syntax.specs.declared.module.Module.{Module}
use Rattle.wasm_syntax.specs.declared.module.Function.{Function}
use Rattle.wasm_syntax.specs.declared.module.Global.{Global}
use Rattle.wasm_syntax.specs.declared.module.Element.{Element}
use Rattle.wasm_syntax.specs.declared.module.Data.{Data}
use Rattle.wasm_syntax.specs.rules.Sequence.{Spells}
use Rattle.guest_memory.specs.rules.Bytes.{page_size, with_part}
use Rattle.wasm_rules.specs.Types.{imported_functions}
use Rattle.wasm_rules.specs.Validity.{tables_of, memories_of}
use Rattle.wasm_rules.specs.Configuration.{Callee, Imported, Own, Program, Store, Configuration}
use Rattle.wasm_rules.specs.Steps.{ReducesTo}

-- ---- the program

-- imported functions are the host's, and the module's own have the sequences that their bodies
-- spell
abbrev pub AreCallees : Module → List ℕ → List Function → List Callee → Type 0
AreCallees m (x ∷ imported) own (Imported signature ∷ callees) = (slice_get m.types x
    ≡ Some signature) × AreCallees m imported own callees
AreCallees m [] (f ∷ own) (Own signature declared body ∷ callees) =
    (slice_get m.types f.function_type ≡ Some signature) × (declared ≡ f.code.locals)
    × Spells f.code.body body × AreCallees m [] own callees
AreCallees m [] [] [] = Unit {0}
AreCallees m _ _ _ = ⊥

-- the minimum
abbrev pub least_pages_of : List MemoryType → ℕ
least_pages_of [] = 0
least_pages_of (t ∷ memories) = t.limits.minimum

-- a maximum, where there is one, and the configured limit
abbrev pub most_pages_of : List MemoryType → ℕ → ℕ
most_pages_of [] pages = 0
most_pages_of (t ∷ memories) pages = option_map_or (λ most. min most pages) t.limits.maximum pages

-- the program of a module: its types, functions and pages
pub record IsProgram (m : Module) (pages : ℕ) (program : Program) : Type 0 where
  pub types : program.types ≡ m.types
  pub functions : AreCallees m (imported_functions m.imports) m.functions program.functions
  pub least_pages : program.least_pages ≡ least_pages_of (memories_of m)
  pub most_pages : program.most_pages ≡ most_pages_of (memories_of m) pages

-- ---- the store

-- the value of a constant expression, where the globals have these values
abbrev pub constant_of : List Value → List Instruction → Option Value
constant_of globals (instr.Const v ∷ rest) = Some v
constant_of globals (instr.GlobalGet x ∷ rest) = slice_get globals x
constant_of globals _ = None

-- the globals' initial values. No global is imported
abbrev pub AreInitial : List Global → List Value → Type 0
AreInitial [] [] = Unit {0}
AreInitial (g ∷ globals) (v ∷ values) = (constant_of [] g.initial ≡ Some v)
    × AreInitial globals values
AreInitial [] (v ∷ values) = ⊥
AreInitial (g ∷ globals) [] = ⊥

-- where a segment begins
abbrev pub offset_of : List Value → List Instruction → Option ℕ
offset_of globals expression = option_and_then number_in (constant_of globals expression)
  where
    number_in : Value → Option ℕ
    number_in (value.I32 n) = Some n
    number_in (value.I64 n) = None

-- these entries in the table from a place on, if they are inside
abbrev pub with_entries : List (Option ℕ) → List ℕ → ℕ → Option (List (Option ℕ))
with_entries table functions from =
    if nat_le (from + length functions) (length table)
    then Some (take from table ++ (map Some functions ++ drop (from + length functions) table))
    else None

-- memory with a data segment put in, where it lies inside
abbrev pub with_segment : List ℕ → List ℕ → ℕ → Option (List ℕ)
with_segment memory bytes from =
    if nat_le (from + length bytes) (length memory) then Some (with_part memory from bytes)
    else None

-- the table after all elements, and memory after all data, in their order, if each of them is
-- inside
abbrev pub filled_table : List Value → List Element → List (Option ℕ) → Option (List (Option ℕ))
filled_table globals [] table = Some table
filled_table globals (e ∷ elements) table =
    option_and_then (λ table'. filled_table globals elements table')
    (option_and_then (λ from. with_entries table e.functions from) (offset_of globals e.offset))

-- memory with all data segments put in, in order
abbrev pub filled_memory : List Value → List Data → List ℕ → Option (List ℕ)
filled_memory globals [] memory = Some memory
filled_memory globals (d ∷ segments) memory =
    option_and_then (λ memory'. filled_memory globals segments memory')
    (option_and_then (λ from. with_segment memory d.bytes from) (offset_of globals d.offset))

-- at first a table has its minimum of empty entries, and a memory its minimum of pages of zeros
abbrev pub empty_table : List TableType → List (Option ℕ)
empty_table [] = []
empty_table (t ∷ tables) = replicate t.limits.minimum None

-- the zeros of the first memory
abbrev pub empty_memory : List MemoryType → List ℕ
empty_memory [] = []
empty_memory (t ∷ memories) = replicate (t.limits.minimum * page_size) 0

-- the store with which a module begins
pub record IsInitialStore (m : Module) (store : Store) : Type 0 where
  pub globals : AreInitial m.globals store.globals
  pub table : filled_table store.globals m.elements (empty_table (tables_of m)) ≡ Some store.table
  pub memory : filled_memory store.globals m.data_segments (empty_memory (memories_of m))
      ≡ Some store.memory

-- ---- the start

-- what the host calls, in order
abbrev pub calls_of : Option ℕ → ℕ → List ℕ
calls_of None entry = entry ∷ []
calls_of (Some start) entry = start ∷ entry ∷ []

-- the module, under so many pages and with this function as `_start`, begins here, reduced
pub record Begins (m : Module) (pages entry : ℕ) (program : Program) (c : Configuration) :
    Type 0 where
  pub is_program : IsProgram m pages program
  pub store : Store
  pub is_store : IsInitialStore m store
  pub reduces : ReducesTo program (record {
    store = store;
    thread = [];
    later = calls_of m.start entry;
  }) c
