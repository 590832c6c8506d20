-- Laws of the binary grammar.
use Rattle.std.specs.Prelude.{◌≡◌, ◌≢◌, ℕ, ◌<◌, List, [], ◌∷◌, ◌++◌, take, length}
use Rattle.wasm_syntax.specs.declared.instruction.Instruction.TheVariants as instr
use Rattle.wasm_syntax.specs.declared.module.Module.{Module}
use Rattle.wasm_syntax.specs.rules.Modules.{IsModule, preamble}
use Rattle.wasm_syntax.specs.laws.Examples.{empty_module, idle_types, idle_functions, idle_memories}
use Rattle.wasm_syntax.specs.laws.Examples.{idle_exports, idle_codes, idle_behind_types, idle_bytes}
use Rattle.wasm_syntax.specs.laws.Examples.{idle, idle_with_code, idle_with_types, idle_with_codes}
use Rattle.wasm_syntax.specs.laws.Examples.{long_size_types, six_byte_size_types, unused_bit_types}
use Rattle.wasm_syntax.specs.laws.Examples.{short_size_types, spare_byte_types, custom_section}
use Rattle.wasm_syntax.specs.laws.Examples.{nameless_section, unknown_section, local_codes}
use Rattle.wasm_syntax.specs.laws.Examples.{three_locals, float_local_codes, float_constant_codes}
use Rattle.wasm_syntax.specs.laws.Examples.{constant_codes, constant_body, positive_overflow_codes}
use Rattle.wasm_syntax.specs.laws.Examples.{if_else_codes, if_else_body, lone_else_codes}
use Rattle.wasm_syntax.specs.laws.Examples.{block_else_codes, second_else_codes, open_codes}
use Rattle.wasm_syntax.specs.laws.Examples.{early_end_codes, hello_bytes, hello, echo_bytes, echo}
use Rattle.wasm_syntax.specs.laws.Examples.{extension_codes, copy_codes, fill_codes, init_codes}
use Rattle.wasm_syntax.specs.laws.Examples.{extension_body, behind_zeros}

abbrev pub BytesSpellAtMostOneModule : Type 0
BytesSpellAtMostOneModule = (bytes : List ℕ) (m : Module) (n : Module) → IsModule bytes m
    → IsModule bytes n → m ≡ n

-- no module is spelled by these bytes
abbrev pub SpellNothing : List ℕ → Type 0
SpellNothing bytes = (m : Module) → IsModule bytes m → ⊥

-- a module's bytes, other spellings of it, and bytes that are none
pub record SpellingsOfIdle : Type 0 where
  pub size : length idle_bytes ≡ 50
  pub itself : IsModule idle_bytes idle
  pub long_size : IsModule (idle_with_types long_size_types) idle
  pub six_byte_size : SpellNothing (idle_with_types six_byte_size_types)
  pub unused_bit : SpellNothing (idle_with_types unused_bit_types)
  pub short_size : SpellNothing (idle_with_types short_size_types)
  pub spare_byte : SpellNothing (idle_with_types spare_byte_types)

-- sections once at most, in rising id, and custom ones anywhere
pub record SpellingsOfSections : Type 0 where
  pub none : IsModule preamble empty_module
  pub twice : SpellNothing (preamble ++ idle_types ++ idle_types ++ idle_behind_types)
  pub falling : SpellNothing (preamble ++ idle_functions ++ idle_types ++ idle_memories
      ++ idle_exports ++ idle_codes)
  pub custom_first : IsModule (preamble ++ custom_section ++ idle_types ++ idle_behind_types) idle
  pub custom_between_and_last : IsModule (preamble ++ idle_types ++ custom_section
      ++ idle_behind_types ++ custom_section) idle
  pub nameless : SpellNothing (idle_bytes ++ nameless_section)
  pub unknown : SpellNothing (idle_bytes ++ unknown_section)
  pub no_code : SpellNothing (preamble ++ idle_types ++ idle_functions)

-- bodies: nothing of floats, an `else` only in an `if`, and one `end` that closes them
pub record SpellingsOfBodies : Type 0 where
  pub locals : IsModule (idle_with_codes local_codes) (idle_with_code three_locals (instr.End ∷ []))
  pub float_local : SpellNothing (idle_with_codes float_local_codes)
  pub float_constant : SpellNothing (idle_with_codes float_constant_codes)
  pub constant : IsModule (idle_with_codes constant_codes) (idle_with_code [] constant_body)
  pub positive_overflow : SpellNothing (idle_with_codes positive_overflow_codes)
  pub if_else : IsModule (idle_with_codes if_else_codes) (idle_with_code [] if_else_body)
  pub lone_else : SpellNothing (idle_with_codes lone_else_codes)
  pub block_else : SpellNothing (idle_with_codes block_else_codes)
  pub second_else : SpellNothing (idle_with_codes second_else_codes)
  pub open_body : SpellNothing (idle_with_codes open_codes)
  pub early_end : SpellNothing (idle_with_codes early_end_codes)
  pub extension : IsModule (idle_with_codes extension_codes) (idle_with_code [] extension_body)
  pub copy : IsModule (idle_with_codes copy_codes) (idle_with_code [] (behind_zeros
      instr.MemoryCopy))
  pub fill : IsModule (idle_with_codes fill_codes) (idle_with_code [] (behind_zeros
      instr.MemoryFill))
  pub init : SpellNothing (idle_with_codes init_codes)

-- Of the fronts of a module's bytes, the header alone and the header with the types are modules
-- too, and no others.
abbrev pub FrontsSpellNothing : Type 0
FrontsSpellNothing = (n : ℕ) → n < 50 → n ≢ 8 → n ≢ 14 → SpellNothing (take n idle_bytes)

pub record GrammarExamples : Type 0 where
  pub idle_is : SpellingsOfIdle
  pub sections : SpellingsOfSections
  pub bodies : SpellingsOfBodies
  pub fronts : FrontsSpellNothing
  pub hello_size : length hello_bytes ≡ 168
  pub hello_is : IsModule hello_bytes hello
  pub echo_size : length echo_bytes ≡ 193
  pub echo_is : IsModule echo_bytes echo
