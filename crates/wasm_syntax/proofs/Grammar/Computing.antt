-- One name to unfold where a proof reads bytes by computing.
use Rattle.std.specs.Str.{is_utf8, chars}
use lib.Utf8.{encode}
use Rattle.wasm_syntax.specs.laws.ReadingItems.{fixed_at, unsigned_at, last_signed, signed_at}
use Rattle.wasm_syntax.specs.laws.ReadingItems.{items_at, vector_at, bytes_at, name_at, sized_at}
use Rattle.wasm_syntax.specs.laws.ReadingItems.{function_type_at, limits_at, table_type_at}
use Rattle.wasm_syntax.specs.laws.ReadingItems.{memory_type_at, global_type_at}
use Rattle.wasm_syntax.specs.laws.ReadingInstructions.{memory_argument_at, prefixed_at, higher_at}
use Rattle.wasm_syntax.specs.laws.ReadingInstructions.{behind_opcode, instruction_at}
use Rattle.wasm_syntax.specs.laws.ReadingInstructions.{expression_up_to_at, expression_at}
use Rattle.wasm_syntax.specs.laws.ReadingModules.{import_item_at, import_at, global_at}
use Rattle.wasm_syntax.specs.laws.ReadingModules.{export_item_at, export_at, start_at, element_at}
use Rattle.wasm_syntax.specs.laws.ReadingModules.{data_at, run_at, code_at, section_at}
use Rattle.wasm_syntax.specs.laws.ReadingModules.{next_section_at, sections_up_to, contents_at}
use Rattle.wasm_syntax.specs.laws.ReadingModules.{module_at}

unfoldable pub reading : Unit {0}
unfolding is_utf8 chars encode fixed_at unsigned_at last_signed signed_at items_at vector_at
    bytes_at name_at sized_at function_type_at limits_at table_type_at memory_type_at global_type_at
    memory_argument_at prefixed_at higher_at behind_opcode instruction_at expression_up_to_at
    expression_at import_item_at import_at global_at export_item_at export_at start_at element_at
    data_at run_at code_at section_at next_section_at sections_up_to contents_at module_at
reading = tt
