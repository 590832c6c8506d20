-- Modules as bytes, each beside the value that it is: one line of bytes for each section.
use Rattle.std.specs.Prelude.{ℕ, ◌-◌, ◌^◌, List, [], ◌∷◌, ◌++◌, None, codes}
use Rattle.wasm_syntax.specs.declared.types.ValueType.{ValueType}
use Rattle.wasm_syntax.specs.declared.types.ValueType.TheVariants.{I32, I64}
use Rattle.wasm_syntax.specs.declared.value.Value.TheVariants as value
use Rattle.wasm_syntax.specs.declared.operator.Conversion.TheVariants.{I32Extend8S}
use Rattle.wasm_syntax.specs.declared.operator.LoadOperator.TheVariants as load
use Rattle.wasm_syntax.specs.declared.operator.StoreOperator.TheVariants as store
use Rattle.wasm_syntax.specs.declared.types.FunctionType.{FunctionType}
use Rattle.wasm_syntax.specs.declared.types.MemoryType.{MemoryType}
use Rattle.wasm_syntax.specs.declared.instruction.Instruction.{Instruction}
use Rattle.wasm_syntax.specs.declared.instruction.Instruction.TheVariants as instr
use Rattle.wasm_syntax.specs.declared.module.Module.{Module}
use Rattle.wasm_syntax.specs.declared.module.Import.{Import}
use Rattle.wasm_syntax.specs.declared.module.ImportItem.TheVariants as import
use Rattle.wasm_syntax.specs.declared.module.Export.{Export}
use Rattle.wasm_syntax.specs.declared.module.ExportItem.TheVariants as export
use Rattle.wasm_syntax.specs.rules.Modules.{preamble}

-- ---- words of the values

abbrev pub i32_const : ℕ → Instruction
i32_const n = instr.Const (value.I32 n)

abbrev pub no_type : FunctionType
no_type = record { parameters = []; results = [] }

-- the type of `fd_read` and `fd_write`
abbrev pub transfer_type : FunctionType
transfer_type = record { parameters = I32 ∷ I32 ∷ I32 ∷ I32 ∷ []; results = I32 ∷ [] }

-- the type of `proc_exit`
abbrev pub exit_type : FunctionType
exit_type = record { parameters = I32 ∷ []; results = [] }

-- one page at first
abbrev pub one_page : MemoryType
one_page = record { limits = record { minimum = 1; maximum = None } }

abbrev pub wasi_function : List ℕ → ℕ → Import
wasi_function name function_type = record {
  module_name = codes "wasi_snapshot_preview1";
  name = name;
  item = import.Function function_type;
}

abbrev pub exports_from : ℕ → List Export
exports_from function = record {
  name = codes "_start";
  item = export.Function function;
} ∷ record {
  name = codes "memory";
  item = export.Memory 0;
} ∷ []

-- ---- nothing but the header

abbrev pub empty_module : Module
empty_module = record {
  types = [];
  imports = [];
  functions = [];
  tables = [];
  memories = [];
  globals = [];
  exports = [];
  start = None;
  elements = [];
  data_segments = [];
}

-- ---- a `_start` that does nothing, in 50 bytes

abbrev pub idle_types : List ℕ
idle_types = 0x01 ∷ 0x04 ∷ 0x01 ∷ 0x60 ∷ 0x00 ∷ 0x00 ∷ []

abbrev pub idle_functions : List ℕ
idle_functions = 0x03 ∷ 0x02 ∷ 0x01 ∷ 0x00 ∷ []

abbrev pub idle_memories : List ℕ
idle_memories = 0x05 ∷ 0x03 ∷ 0x01 ∷ 0x00 ∷ 0x01 ∷ []

abbrev pub idle_exports : List ℕ
idle_exports = 0x07 ∷ 0x13 ∷ 0x02 ∷ 0x06 ∷ 0x5f ∷ 0x73 ∷ 0x74 ∷ 0x61 ∷ 0x72 ∷ 0x74 ∷ 0x00 ∷ 0x00
    ∷ 0x06 ∷ 0x6d ∷ 0x65 ∷ 0x6d ∷ 0x6f ∷ 0x72 ∷ 0x79 ∷ 0x02 ∷ 0x00 ∷ []

abbrev pub idle_codes : List ℕ
idle_codes = 0x0a ∷ 0x04 ∷ 0x01 ∷ 0x02 ∷ 0x00 ∷ 0x0b ∷ []

-- the sections after the one of types
abbrev pub idle_behind_types : List ℕ
idle_behind_types = idle_functions ++ idle_memories ++ idle_exports ++ idle_codes

abbrev pub idle_bytes : List ℕ
idle_bytes = preamble ++ idle_types ++ idle_behind_types

abbrev pub idle_with_code : List ValueType → List Instruction → Module
idle_with_code locals body = record {
  types = no_type ∷ [];
  imports = [];
  functions = record { function_type = 0; code = record { locals = locals; body = body } } ∷ [];
  tables = [];
  memories = one_page ∷ [];
  globals = [];
  exports = exports_from 0;
  start = None;
  elements = [];
  data_segments = [];
}

abbrev pub idle : Module
idle = idle_with_code [] (instr.End ∷ [])

-- the same with other bytes for the section of types
abbrev pub idle_with_types : List ℕ → List ℕ
idle_with_types types = preamble ++ types ++ idle_behind_types

-- the same with other bytes for the section of code
abbrev pub idle_with_codes : List ℕ → List ℕ
idle_with_codes code_section = preamble ++ idle_types ++ idle_functions ++ idle_memories
    ++ idle_exports ++ code_section

-- the size 4 of the section of types in five bytes
abbrev pub long_size_types : List ℕ
long_size_types = 0x01 ∷ 0x84 ∷ 0x80 ∷ 0x80 ∷ 0x80 ∷ 0x00 ∷ 0x01 ∷ 0x60 ∷ 0x00 ∷ 0x00 ∷ []

-- in six bytes, one more than 32 bits take
abbrev pub six_byte_size_types : List ℕ
six_byte_size_types = 0x01 ∷ 0x84 ∷ 0x80 ∷ 0x80 ∷ 0x80 ∷ 0x80 ∷ 0x00 ∷ 0x01 ∷ 0x60 ∷ 0x00 ∷ 0x00
    ∷ []

-- in five bytes, the last with a bit that 32 bits do not have
abbrev pub unused_bit_types : List ℕ
unused_bit_types = 0x01 ∷ 0x84 ∷ 0x80 ∷ 0x80 ∷ 0x80 ∷ 0x10 ∷ 0x01 ∷ 0x60 ∷ 0x00 ∷ 0x00 ∷ []

-- a size that ends inside the section
abbrev pub short_size_types : List ℕ
short_size_types = 0x01 ∷ 0x03 ∷ 0x01 ∷ 0x60 ∷ 0x00 ∷ 0x00 ∷ []

-- a section of types that holds a byte more than its vector
abbrev pub spare_byte_types : List ℕ
spare_byte_types = 0x01 ∷ 0x05 ∷ 0x01 ∷ 0x60 ∷ 0x00 ∷ 0x00 ∷ 0x00 ∷ []

-- a custom section that holds its name, `a`, alone
abbrev pub custom_section : List ℕ
custom_section = 0x00 ∷ 0x02 ∷ 0x01 ∷ 0x61 ∷ []

-- a custom section that ends inside its name
abbrev pub nameless_section : List ℕ
nameless_section = 0x00 ∷ 0x02 ∷ 0x02 ∷ 0x61 ∷ []

-- an id that no section has
abbrev pub unknown_section : List ℕ
unknown_section = 0x0c ∷ 0x01 ∷ 0x00 ∷ []

-- two runs of locals, two of i32 and one of i64, and an empty body
abbrev pub local_codes : List ℕ
local_codes = 0x0a ∷ 0x08 ∷ 0x01 ∷ 0x06 ∷ 0x02 ∷ 0x02 ∷ 0x7f ∷ 0x01 ∷ 0x7e ∷ 0x0b ∷ []

-- a body with a local of the float type `7d`
abbrev pub float_local_codes : List ℕ
float_local_codes = 0x0a ∷ 0x06 ∷ 0x01 ∷ 0x04 ∷ 0x01 ∷ 0x01 ∷ 0x7d ∷ 0x0b ∷ []

-- a body with the float opcode `43`
abbrev pub float_constant_codes : List ℕ
float_constant_codes = 0x0a ∷ 0x0a ∷ 0x01 ∷ 0x08 ∷ 0x00 ∷ 0x43 ∷ 0x00 ∷ 0x00 ∷ 0x00 ∷ 0x00 ∷ 0x1a
    ∷ 0x0b ∷ []

-- `i32.const -2147483648 drop i64.const -1 drop end`
abbrev pub constant_codes : List ℕ
constant_codes = 0x0a ∷ 0x0e ∷ 0x01 ∷ 0x0c ∷ 0x00 ∷ 0x41 ∷ 0x80 ∷ 0x80 ∷ 0x80 ∷ 0x80 ∷ 0x78 ∷ 0x1a
    ∷ 0x42 ∷ 0x7f ∷ 0x1a ∷ 0x0b ∷ []

-- `i32.const 2147483648 drop end`: an i32 has no such number
abbrev pub positive_overflow_codes : List ℕ
positive_overflow_codes = 0x0a ∷ 0x0b ∷ 0x01 ∷ 0x09 ∷ 0x00 ∷ 0x41 ∷ 0x80 ∷ 0x80 ∷ 0x80 ∷ 0x80 ∷ 0x08
    ∷ 0x1a ∷ 0x0b ∷ []

-- `i32.const 1 if nop else nop end end`
abbrev pub if_else_codes : List ℕ
if_else_codes = 0x0a ∷ 0x0c ∷ 0x01 ∷ 0x0a ∷ 0x00 ∷ 0x41 ∷ 0x01 ∷ 0x04 ∷ 0x40 ∷ 0x01 ∷ 0x05 ∷ 0x01
    ∷ 0x0b ∷ 0x0b ∷ []

-- `else end`
abbrev pub lone_else_codes : List ℕ
lone_else_codes = 0x0a ∷ 0x05 ∷ 0x01 ∷ 0x03 ∷ 0x00 ∷ 0x05 ∷ 0x0b ∷ []

-- `block else end end`
abbrev pub block_else_codes : List ℕ
block_else_codes = 0x0a ∷ 0x08 ∷ 0x01 ∷ 0x06 ∷ 0x00 ∷ 0x02 ∷ 0x40 ∷ 0x05 ∷ 0x0b ∷ 0x0b ∷ []

-- `i32.const 1 if else else end end`
abbrev pub second_else_codes : List ℕ
second_else_codes = 0x0a ∷ 0x0b ∷ 0x01 ∷ 0x09 ∷ 0x00 ∷ 0x41 ∷ 0x01 ∷ 0x04 ∷ 0x40 ∷ 0x05 ∷ 0x05
    ∷ 0x0b ∷ 0x0b ∷ []

-- `block nop end`, which leaves the body open
abbrev pub open_codes : List ℕ
open_codes = 0x0a ∷ 0x07 ∷ 0x01 ∷ 0x05 ∷ 0x00 ∷ 0x02 ∷ 0x40 ∷ 0x01 ∷ 0x0b ∷ []

-- `end end`, which goes on after the body
abbrev pub early_end_codes : List ℕ
early_end_codes = 0x0a ∷ 0x05 ∷ 0x01 ∷ 0x03 ∷ 0x00 ∷ 0x0b ∷ 0x0b ∷ []

-- `i32.const 128 i32.extend8_s drop end`
abbrev pub extension_codes : List ℕ
extension_codes = 0x0a ∷ 0x09 ∷ 0x01 ∷ 0x07 ∷ 0x00 ∷ 0x41 ∷ 0x80 ∷ 0x01 ∷ 0xc0 ∷ 0x1a ∷ 0x0b ∷ []

-- `i32.const 0` three times, then `memory.copy end`, with a long spelling of its number 10
abbrev pub copy_codes : List ℕ
copy_codes = 0x0a ∷ 0x10 ∷ 0x01 ∷ 0x0e ∷ 0x00 ∷ 0x41 ∷ 0x00 ∷ 0x41 ∷ 0x00 ∷ 0x41 ∷ 0x00 ∷ 0xfc
    ∷ 0x8a ∷ 0x80 ∷ 0x00 ∷ 0x00 ∷ 0x00 ∷ 0x0b ∷ []

-- the same with `memory.fill`
abbrev pub fill_codes : List ℕ
fill_codes = 0x0a ∷ 0x0d ∷ 0x01 ∷ 0x0b ∷ 0x00 ∷ 0x41 ∷ 0x00 ∷ 0x41 ∷ 0x00 ∷ 0x41 ∷ 0x00 ∷ 0xfc
    ∷ 0x0b ∷ 0x00 ∷ 0x0b ∷ []

-- the same with the number 8, which is that of no instruction here
abbrev pub init_codes : List ℕ
init_codes = 0x0a ∷ 0x0e ∷ 0x01 ∷ 0x0c ∷ 0x00 ∷ 0x41 ∷ 0x00 ∷ 0x41 ∷ 0x00 ∷ 0x41 ∷ 0x00 ∷ 0xfc
    ∷ 0x08 ∷ 0x00 ∷ 0x00 ∷ 0x0b ∷ []

abbrev pub three_locals : List ValueType
three_locals = I32 ∷ I32 ∷ I64 ∷ []

abbrev pub constant_body : List Instruction
constant_body = i32_const (2 ^ 31) ∷ instr.Drop ∷ instr.Const (value.I64 (2 ^ 64 - 1)) ∷ instr.Drop
    ∷ instr.End ∷ []

abbrev pub if_else_body : List Instruction
if_else_body = i32_const 1 ∷ instr.If None ∷ instr.Nop ∷ instr.Else ∷ instr.Nop ∷ instr.End
    ∷ instr.End ∷ []

abbrev pub extension_body : List Instruction
extension_body = i32_const 128 ∷ instr.Convert I32Extend8S ∷ instr.Drop ∷ instr.End ∷ []

-- an instruction after three zeros
abbrev pub behind_zeros : Instruction → List Instruction
behind_zeros i = i32_const 0 ∷ i32_const 0 ∷ i32_const 0 ∷ i ∷ instr.End ∷ []

-- ---- a module that writes `hi` and a newline and exits with 7, in 168 bytes

abbrev pub hello_types : List ℕ
hello_types = 0x01 ∷ 0x10 ∷ 0x03 ∷ 0x60 ∷ 0x00 ∷ 0x00 ∷ 0x60 ∷ 0x04 ∷ 0x7f ∷ 0x7f ∷ 0x7f ∷ 0x7f
    ∷ 0x01 ∷ 0x7f ∷ 0x60 ∷ 0x01 ∷ 0x7f ∷ 0x00 ∷ []

abbrev pub hello_imports : List ℕ
hello_imports = 0x02 ∷ 0x46 ∷ 0x02 ∷ 0x16 ∷ 0x77 ∷ 0x61 ∷ 0x73 ∷ 0x69 ∷ 0x5f ∷ 0x73 ∷ 0x6e ∷ 0x61
    ∷ 0x70 ∷ 0x73 ∷ 0x68 ∷ 0x6f ∷ 0x74 ∷ 0x5f ∷ 0x70 ∷ 0x72 ∷ 0x65 ∷ 0x76 ∷ 0x69 ∷ 0x65 ∷ 0x77
    ∷ 0x31 ∷ 0x08 ∷ 0x66 ∷ 0x64 ∷ 0x5f ∷ 0x77 ∷ 0x72 ∷ 0x69 ∷ 0x74 ∷ 0x65 ∷ 0x00 ∷ 0x01 ∷ 0x16
    ∷ 0x77 ∷ 0x61 ∷ 0x73 ∷ 0x69 ∷ 0x5f ∷ 0x73 ∷ 0x6e ∷ 0x61 ∷ 0x70 ∷ 0x73 ∷ 0x68 ∷ 0x6f ∷ 0x74
    ∷ 0x5f ∷ 0x70 ∷ 0x72 ∷ 0x65 ∷ 0x76 ∷ 0x69 ∷ 0x65 ∷ 0x77 ∷ 0x31 ∷ 0x09 ∷ 0x70 ∷ 0x72 ∷ 0x6f
    ∷ 0x63 ∷ 0x5f ∷ 0x65 ∷ 0x78 ∷ 0x69 ∷ 0x74 ∷ 0x00 ∷ 0x02 ∷ []

abbrev pub hello_functions : List ℕ
hello_functions = 0x03 ∷ 0x02 ∷ 0x01 ∷ 0x00 ∷ []

abbrev pub hello_memories : List ℕ
hello_memories = 0x05 ∷ 0x03 ∷ 0x01 ∷ 0x00 ∷ 0x01 ∷ []

abbrev pub hello_exports : List ℕ
hello_exports = 0x07 ∷ 0x13 ∷ 0x02 ∷ 0x06 ∷ 0x5f ∷ 0x73 ∷ 0x74 ∷ 0x61 ∷ 0x72 ∷ 0x74 ∷ 0x00 ∷ 0x02
    ∷ 0x06 ∷ 0x6d ∷ 0x65 ∷ 0x6d ∷ 0x6f ∷ 0x72 ∷ 0x79 ∷ 0x02 ∷ 0x00 ∷ []

abbrev pub hello_codes : List ℕ
hello_codes = 0x0a ∷ 0x13 ∷ 0x01 ∷ 0x11 ∷ 0x00 ∷ 0x41 ∷ 0x01 ∷ 0x41 ∷ 0x00 ∷ 0x41 ∷ 0x01 ∷ 0x41
    ∷ 0x10 ∷ 0x10 ∷ 0x00 ∷ 0x1a ∷ 0x41 ∷ 0x07 ∷ 0x10 ∷ 0x01 ∷ 0x0b ∷ []

abbrev pub hello_data : List ℕ
hello_data = 0x0b ∷ 0x11 ∷ 0x01 ∷ 0x00 ∷ 0x41 ∷ 0x00 ∷ 0x0b ∷ 0x0b ∷ 0x08 ∷ 0x00 ∷ 0x00 ∷ 0x00
    ∷ 0x03 ∷ 0x00 ∷ 0x00 ∷ 0x00 ∷ 0x68 ∷ 0x69 ∷ 0x0a ∷ []

abbrev pub hello_bytes : List ℕ
hello_bytes = preamble ++ hello_types ++ hello_imports ++ hello_functions ++ hello_memories
    ++ hello_exports ++ hello_codes ++ hello_data

abbrev pub hello_body : List Instruction
hello_body =
    i32_const 1 ∷ i32_const 0 ∷ i32_const 1 ∷ i32_const 16 ∷ instr.Call 0 ∷ instr.Drop
    ∷ i32_const 7 ∷ instr.Call 1
    ∷ instr.End ∷ []

abbrev pub hello : Module
hello = record {
  types = no_type ∷ transfer_type ∷ exit_type ∷ [];
  imports = wasi_function (codes "fd_write") 1 ∷ wasi_function (codes "proc_exit") 2 ∷ [];
  functions = record { function_type = 0; code = record { locals = []; body = hello_body } } ∷ [];
  tables = [];
  memories = one_page ∷ [];
  globals = [];
  exports = exports_from 2;
  start = None;
  elements = [];
  data_segments = record {
    memory = 0;
    offset = i32_const 0 ∷ instr.End ∷ [];
    bytes = 8 ∷ 0 ∷ 0 ∷ 0 ∷ 3 ∷ 0 ∷ 0 ∷ 0 ∷ 104 ∷ 105 ∷ 10 ∷ [];
  } ∷ [];
}

-- ---- a module that writes what it reads, until there is nothing to read, in 193 bytes

abbrev pub echo_types : List ℕ
echo_types = 0x01 ∷ 0x0c ∷ 0x02 ∷ 0x60 ∷ 0x00 ∷ 0x00 ∷ 0x60 ∷ 0x04 ∷ 0x7f ∷ 0x7f ∷ 0x7f ∷ 0x7f
    ∷ 0x01 ∷ 0x7f ∷ []

abbrev pub echo_imports : List ℕ
echo_imports = 0x02 ∷ 0x44 ∷ 0x02 ∷ 0x16 ∷ 0x77 ∷ 0x61 ∷ 0x73 ∷ 0x69 ∷ 0x5f ∷ 0x73 ∷ 0x6e ∷ 0x61
    ∷ 0x70 ∷ 0x73 ∷ 0x68 ∷ 0x6f ∷ 0x74 ∷ 0x5f ∷ 0x70 ∷ 0x72 ∷ 0x65 ∷ 0x76 ∷ 0x69 ∷ 0x65 ∷ 0x77
    ∷ 0x31 ∷ 0x07 ∷ 0x66 ∷ 0x64 ∷ 0x5f ∷ 0x72 ∷ 0x65 ∷ 0x61 ∷ 0x64 ∷ 0x00 ∷ 0x01 ∷ 0x16 ∷ 0x77
    ∷ 0x61 ∷ 0x73 ∷ 0x69 ∷ 0x5f ∷ 0x73 ∷ 0x6e ∷ 0x61 ∷ 0x70 ∷ 0x73 ∷ 0x68 ∷ 0x6f ∷ 0x74 ∷ 0x5f
    ∷ 0x70 ∷ 0x72 ∷ 0x65 ∷ 0x76 ∷ 0x69 ∷ 0x65 ∷ 0x77 ∷ 0x31 ∷ 0x08 ∷ 0x66 ∷ 0x64 ∷ 0x5f ∷ 0x77
    ∷ 0x72 ∷ 0x69 ∷ 0x74 ∷ 0x65 ∷ 0x00 ∷ 0x01 ∷ []

abbrev pub echo_functions : List ℕ
echo_functions = 0x03 ∷ 0x02 ∷ 0x01 ∷ 0x00 ∷ []

abbrev pub echo_memories : List ℕ
echo_memories = 0x05 ∷ 0x03 ∷ 0x01 ∷ 0x00 ∷ 0x01 ∷ []

abbrev pub echo_exports : List ℕ
echo_exports = 0x07 ∷ 0x13 ∷ 0x02 ∷ 0x06 ∷ 0x5f ∷ 0x73 ∷ 0x74 ∷ 0x61 ∷ 0x72 ∷ 0x74 ∷ 0x00 ∷ 0x02
    ∷ 0x06 ∷ 0x6d ∷ 0x65 ∷ 0x6d ∷ 0x6f ∷ 0x72 ∷ 0x79 ∷ 0x02 ∷ 0x00 ∷ []

abbrev pub echo_codes : List ℕ
echo_codes = 0x0a ∷ 0x31 ∷ 0x01 ∷ 0x2f ∷ 0x00 ∷ 0x03 ∷ 0x40 ∷ 0x41 ∷ 0x00 ∷ 0x41 ∷ 0x00 ∷ 0x41
    ∷ 0x01 ∷ 0x41 ∷ 0x10 ∷ 0x10 ∷ 0x00 ∷ 0x1a ∷ 0x41 ∷ 0x10 ∷ 0x28 ∷ 0x02 ∷ 0x00 ∷ 0x45 ∷ 0x0d
    ∷ 0x01 ∷ 0x41 ∷ 0x0c ∷ 0x41 ∷ 0x10 ∷ 0x28 ∷ 0x02 ∷ 0x00 ∷ 0x36 ∷ 0x02 ∷ 0x00 ∷ 0x41 ∷ 0x01
    ∷ 0x41 ∷ 0x08 ∷ 0x41 ∷ 0x01 ∷ 0x41 ∷ 0x14 ∷ 0x10 ∷ 0x01 ∷ 0x1a ∷ 0x0c ∷ 0x00 ∷ 0x0b ∷ 0x0b ∷ []

abbrev pub echo_data : List ℕ
echo_data = 0x0b ∷ 0x12 ∷ 0x01 ∷ 0x00 ∷ 0x41 ∷ 0x00 ∷ 0x0b ∷ 0x0c ∷ 0x40 ∷ 0x00 ∷ 0x00 ∷ 0x00 ∷ 0x00
    ∷ 0x10 ∷ 0x00 ∷ 0x00 ∷ 0x40 ∷ 0x00 ∷ 0x00 ∷ 0x00 ∷ []

abbrev pub echo_bytes : List ℕ
echo_bytes = preamble ++ echo_types ++ echo_imports ++ echo_functions ++ echo_memories
    ++ echo_exports ++ echo_codes ++ echo_data

abbrev pub echo_body : List Instruction
echo_body =
    instr.Loop None
    ∷ i32_const 0 ∷ i32_const 0 ∷ i32_const 1 ∷ i32_const 16 ∷ instr.Call 0 ∷ instr.Drop
    ∷ i32_const 16 ∷ instr.Load load.I32 (record { align = 2; offset = 0 }) ∷ instr.Eqz I32
    ∷ instr.BrIf 1
    ∷ i32_const 12 ∷ i32_const 16 ∷ instr.Load load.I32 (record { align = 2; offset = 0 })
    ∷ instr.Store store.I32 (record { align = 2; offset = 0 })
    ∷ i32_const 1 ∷ i32_const 8 ∷ i32_const 1 ∷ i32_const 20 ∷ instr.Call 1 ∷ instr.Drop
    ∷ instr.Br 0 ∷ instr.End ∷ instr.End ∷ []

abbrev pub echo : Module
echo = record {
  types = no_type ∷ transfer_type ∷ [];
  imports = wasi_function (codes "fd_read") 1 ∷ wasi_function (codes "fd_write") 1 ∷ [];
  functions = record { function_type = 0; code = record { locals = []; body = echo_body } } ∷ [];
  tables = [];
  memories = one_page ∷ [];
  globals = [];
  exports = exports_from 2;
  start = None;
  elements = [];
  data_segments = record {
    memory = 0;
    offset = i32_const 0 ∷ instr.End ∷ [];
    bytes = 64 ∷ 0 ∷ 0 ∷ 0 ∷ 0 ∷ 16 ∷ 0 ∷ 0 ∷ 64 ∷ 0 ∷ 0 ∷ 0 ∷ [];
  } ∷ [];
}
