-- The types of values and of operators, and what the parts of a module have for types (Core
-- Specification 1.0, sections 2.5.1, 3.3.1 and 3.3.4, and appendix A.5).
-- Operand types and operands are listed from the top of the stack down.
use Rattle.std.specs.Prelude.{ℕ, ◌<◌, ◌^◌, Bool, true, false, ◌&&◌, List, [], ◌∷◌, Option, Some}
use Rattle.std.specs.Prelude.{None, reverse}
use Rattle.std.specs.Int.{Width, w8, w16, w32, w64}
use Rattle.wasm_syntax.specs.declared.types.ValueType.{ValueType}
use Rattle.wasm_syntax.specs.declared.types.ValueType.TheVariants.{I32, I64}
use Rattle.wasm_syntax.specs.declared.types.FunctionType.{FunctionType}
use Rattle.wasm_syntax.specs.declared.types.TableType.{TableType}
use Rattle.wasm_syntax.specs.declared.types.MemoryType.{MemoryType}
use Rattle.wasm_syntax.specs.declared.types.GlobalType.{GlobalType}
use Rattle.wasm_syntax.specs.declared.value.Value.{Value}
use Rattle.wasm_syntax.specs.declared.value.Value.TheVariants as value
use Rattle.wasm_syntax.specs.declared.operator.Conversion.{Conversion}
use Rattle.wasm_syntax.specs.declared.operator.Conversion.TheVariants.{I32WrapI64, I64ExtendI32S}
use Rattle.wasm_syntax.specs.declared.operator.Conversion.TheVariants.{I64ExtendI32U, I32Extend8S}
use Rattle.wasm_syntax.specs.declared.operator.Conversion.TheVariants.{I32Extend16S, I64Extend8S}
use Rattle.wasm_syntax.specs.declared.operator.Conversion.TheVariants.{I64Extend16S, I64Extend32S}
use Rattle.wasm_syntax.specs.declared.operator.LoadOperator.{LoadOperator}
use Rattle.wasm_syntax.specs.declared.operator.LoadOperator.TheVariants as load
use Rattle.wasm_syntax.specs.declared.operator.StoreOperator.{StoreOperator}
use Rattle.wasm_syntax.specs.declared.operator.StoreOperator.TheVariants as store
use Rattle.wasm_syntax.specs.declared.module.Import.{Import}
use Rattle.wasm_syntax.specs.declared.module.ImportItem.{ImportItem}
use Rattle.wasm_syntax.specs.declared.module.ImportItem.TheVariants as import
use Rattle.wasm_syntax.specs.declared.module.Global.{Global}

-- ---- values

-- the width of a value type
abbrev pub width_of : ValueType → Width
width_of I32 = w32
width_of I64 = w64

-- the value of a type with this number
abbrev pub value_of : ValueType → ℕ → Value
value_of I32 n = value.I32 n
value_of I64 n = value.I64 n

-- the number of a value
abbrev pub number_in : Value → ℕ
number_in (value.I32 n) = n
number_in (value.I64 n) = n

-- the value is one of this type
abbrev pub IsOf : ValueType → Value → Type 0
IsOf I32 (value.I32 n) = n < 2 ^ 32
IsOf I64 (value.I64 n) = n < 2 ^ 64
IsOf I32 (value.I64 n) = ⊥
IsOf I64 (value.I32 n) = ⊥

-- the values are of these types, one by one
abbrev pub AreOf : List ValueType → List Value → Type 0
AreOf [] [] = Unit {0}
AreOf (t ∷ types) (v ∷ values) = IsOf t v × AreOf types values
AreOf [] (v ∷ values) = ⊥
AreOf (t ∷ types) [] = ⊥

-- ---- operators

-- the type of a conversion's operand
abbrev pub conversion_takes : Conversion → ValueType
conversion_takes I32WrapI64 = I64
conversion_takes I64ExtendI32S = I32
conversion_takes I64ExtendI32U = I32
conversion_takes I32Extend8S = I32
conversion_takes I32Extend16S = I32
conversion_takes I64Extend8S = I64
conversion_takes I64Extend16S = I64
conversion_takes I64Extend32S = I64

-- the type of a conversion's result
abbrev pub conversion_gives : Conversion → ValueType
conversion_gives I32WrapI64 = I32
conversion_gives I64ExtendI32S = I64
conversion_gives I64ExtendI32U = I64
conversion_gives I32Extend8S = I32
conversion_gives I32Extend16S = I32
conversion_gives I64Extend8S = I64
conversion_gives I64Extend16S = I64
conversion_gives I64Extend32S = I64

-- the type that a load gives
abbrev pub loaded_type : LoadOperator → ValueType
loaded_type load.I32 = I32
loaded_type load.I64 = I64
loaded_type load.I32Bits8S = I32
loaded_type load.I32Bits8U = I32
loaded_type load.I32Bits16S = I32
loaded_type load.I32Bits16U = I32
loaded_type load.I64Bits8S = I64
loaded_type load.I64Bits8U = I64
loaded_type load.I64Bits16S = I64
loaded_type load.I64Bits16U = I64
loaded_type load.I64Bits32S = I64
loaded_type load.I64Bits32U = I64

-- how many bits a load reads
abbrev pub loaded_width : LoadOperator → Width
loaded_width load.I32 = w32
loaded_width load.I64 = w64
loaded_width load.I32Bits8S = w8
loaded_width load.I32Bits8U = w8
loaded_width load.I32Bits16S = w16
loaded_width load.I32Bits16U = w16
loaded_width load.I64Bits8S = w8
loaded_width load.I64Bits8U = w8
loaded_width load.I64Bits16S = w16
loaded_width load.I64Bits16U = w16
loaded_width load.I64Bits32S = w32
loaded_width load.I64Bits32U = w32

-- whether a load extends what it reads with its sign
abbrev pub extends_sign : LoadOperator → Bool
extends_sign load.I32Bits8S = true
extends_sign load.I32Bits16S = true
extends_sign load.I64Bits8S = true
extends_sign load.I64Bits16S = true
extends_sign load.I64Bits32S = true
extends_sign _ = false

-- the type that a store takes
abbrev pub stored_type : StoreOperator → ValueType
stored_type store.I32 = I32
stored_type store.I64 = I64
stored_type store.I32Bits8 = I32
stored_type store.I32Bits16 = I32
stored_type store.I64Bits8 = I64
stored_type store.I64Bits16 = I64
stored_type store.I64Bits32 = I64

-- how many bits a store writes
abbrev pub stored_width : StoreOperator → Width
stored_width store.I32 = w32
stored_width store.I64 = w64
stored_width store.I32Bits8 = w8
stored_width store.I32Bits16 = w16
stored_width store.I64Bits8 = w8
stored_width store.I64Bits16 = w16
stored_width store.I64Bits32 = w32

-- how many bytes have so many bits
abbrev pub bytes_in : Width → ℕ
bytes_in w8 = 1
bytes_in w16 = 2
bytes_in w32 = 4
bytes_in w64 = 8
bytes_in _ = 16

-- ---- functions and blocks

-- what a function of this type takes, the last argument on top, and what it gives
abbrev pub takes_of : FunctionType → List ValueType
takes_of f = reverse f.parameters

-- the types of a function's results, from the top of the stack down
abbrev pub gives_of : FunctionType → List ValueType
gives_of f = reverse f.results

-- what a block gives
abbrev pub results_of : Option ValueType → List ValueType
results_of None = []
results_of (Some t) = t ∷ []

-- two value types are the same
abbrev pub is_same_type : ValueType → ValueType → Bool
is_same_type I32 I32 = true
is_same_type I64 I64 = true
is_same_type I32 I64 = false
is_same_type I64 I32 = false

-- two lists of value types are the same
abbrev pub are_same_types : List ValueType → List ValueType → Bool
are_same_types [] [] = true
are_same_types (t ∷ types) (u ∷ others) = is_same_type t u && are_same_types types others
are_same_types [] (u ∷ others) = false
are_same_types (t ∷ types) [] = false

-- two function types are the same
abbrev pub is_same_function_type : FunctionType → FunctionType → Bool
is_same_function_type f g = are_same_types f.parameters g.parameters
    && are_same_types f.results g.results

-- ---- imports, in their order (2.5.1: imported ones come first in each index space)

-- the indices of the functions' types, and the types of the others
abbrev pub with_function_index : ImportItem → List ℕ → List ℕ
with_function_index (import.Function t) others = t ∷ others
with_function_index _ others = others

-- the type indices of imported functions
abbrev pub imported_functions : List Import → List ℕ
imported_functions [] = []
imported_functions (i ∷ imports) = with_function_index i.item (imported_functions imports)

-- a table's type in front of others
abbrev pub with_table_type : ImportItem → List TableType → List TableType
with_table_type (import.Table t) others = t ∷ others
with_table_type _ others = others

-- the types of imported tables
abbrev pub imported_tables : List Import → List TableType
imported_tables [] = []
imported_tables (i ∷ imports) = with_table_type i.item (imported_tables imports)

-- a memory's type in front of others
abbrev pub with_memory_type : ImportItem → List MemoryType → List MemoryType
with_memory_type (import.Memory t) others = t ∷ others
with_memory_type _ others = others

-- the types of imported memories
abbrev pub imported_memories : List Import → List MemoryType
imported_memories [] = []
imported_memories (i ∷ imports) = with_memory_type i.item (imported_memories imports)

-- a global's type in front of others
abbrev pub with_global_type : ImportItem → List GlobalType → List GlobalType
with_global_type (import.Global t) others = t ∷ others
with_global_type _ others = others

-- the types of imported globals
abbrev pub imported_globals : List Import → List GlobalType
imported_globals [] = []
imported_globals (i ∷ imports) = with_global_type i.item (imported_globals imports)

-- the type of a global
abbrev pub global_type_of : Global → GlobalType
global_type_of g = g.global_type

-- the value type of a global's type
abbrev pub value_type_of : GlobalType → ValueType
value_type_of g = g.value_type
