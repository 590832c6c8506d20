-- The worked examples, by reading their bytes.
use Rattle.std.proofs.Common.{◌≡◌, ℕ, List, [], ◌∷◌, ◌++◌, None, refl, sym, ◌∙◌}
use Rattle.wasm_syntax.specs.declared.instruction.Instruction.TheVariants as instr
use Rattle.wasm_syntax.specs.rules.Modules.{IsModule, preamble}
use Rattle.wasm_syntax.specs.laws.ReadingModules.{module_at}
use Rattle.wasm_syntax.specs.laws.Examples.{empty_module, idle_types, idle_functions, idle_memories}
use Rattle.wasm_syntax.specs.laws.Examples.{idle_exports, idle_codes, idle_behind_types, idle_bytes}
use Rattle.wasm_syntax.specs.laws.Examples.{idle, idle_with_code, idle_with_types, idle_with_codes}
use Rattle.wasm_syntax.specs.laws.Examples.{long_size_types, six_byte_size_types, unused_bit_types}
use Rattle.wasm_syntax.specs.laws.Examples.{short_size_types, spare_byte_types, custom_section}
use Rattle.wasm_syntax.specs.laws.Examples.{nameless_section, unknown_section, local_codes}
use Rattle.wasm_syntax.specs.laws.Examples.{three_locals, float_local_codes, float_constant_codes}
use Rattle.wasm_syntax.specs.laws.Examples.{constant_codes, constant_body, positive_overflow_codes}
use Rattle.wasm_syntax.specs.laws.Examples.{if_else_codes, if_else_body, lone_else_codes}
use Rattle.wasm_syntax.specs.laws.Examples.{block_else_codes, second_else_codes, open_codes}
use Rattle.wasm_syntax.specs.laws.Examples.{early_end_codes, hello_bytes, hello, echo_bytes, echo}
use Rattle.wasm_syntax.specs.laws.Examples.{extension_codes, copy_codes, fill_codes, init_codes}
use Rattle.wasm_syntax.specs.laws.Examples.{extension_body, behind_zeros}
use Rattle.wasm_syntax.specs.laws.Laws.{SpellNothing, SpellingsOfIdle, SpellingsOfSections}
use Rattle.wasm_syntax.specs.laws.Laws.{SpellingsOfBodies}
use Rattle.wasm_syntax.proofs.Grammar.Computing.{reading}
use Rattle.wasm_syntax.proofs.Grammar.Exact.{just}
use Rattle.wasm_syntax.proofs.Grammar.Whole.{module_sound, module_complete}

-- where nothing is read nothing is spelled
pub unread : (bytes : List ℕ) → module_at bytes ≡ None → SpellNothing bytes
unread bytes e m is = absurd (let t : None ≡ just m = sym e ∙ module_complete bytes m is in cc)

pub idle_spelled : SpellingsOfIdle
unfolding reading
idle_spelled = record {
  size = refl;
  itself = module_sound idle_bytes idle refl;
  long_size = module_sound (idle_with_types long_size_types) idle refl;
  six_byte_size = unread (idle_with_types six_byte_size_types) refl;
  unused_bit = unread (idle_with_types unused_bit_types) refl;
  short_size = unread (idle_with_types short_size_types) refl;
  spare_byte = unread (idle_with_types spare_byte_types) refl;
}

pub sections_spelled : SpellingsOfSections
unfolding reading
sections_spelled = record {
  none = module_sound preamble empty_module refl;
  twice = unread (preamble ++ idle_types ++ idle_types ++ idle_behind_types) refl;
  falling = unread (preamble ++ idle_functions ++ idle_types ++ idle_memories ++ idle_exports
      ++ idle_codes) refl;
  custom_first =
      module_sound (preamble ++ custom_section ++ idle_types ++ idle_behind_types) idle refl;
  custom_between_and_last =
      module_sound (preamble ++ idle_types ++ custom_section ++ idle_behind_types
      ++ custom_section) idle refl;
  nameless = unread (idle_bytes ++ nameless_section) refl;
  unknown = unread (idle_bytes ++ unknown_section) refl;
  no_code = unread (preamble ++ idle_types ++ idle_functions) refl;
}

pub bodies_spelled : SpellingsOfBodies
unfolding reading
bodies_spelled = record {
  locals = module_sound (idle_with_codes local_codes) (idle_with_code three_locals (instr.End
      ∷ [])) refl;
  float_local = unread (idle_with_codes float_local_codes) refl;
  float_constant = unread (idle_with_codes float_constant_codes) refl;
  constant = module_sound (idle_with_codes constant_codes) (idle_with_code [] constant_body) refl;
  positive_overflow = unread (idle_with_codes positive_overflow_codes) refl;
  if_else = module_sound (idle_with_codes if_else_codes) (idle_with_code [] if_else_body) refl;
  lone_else = unread (idle_with_codes lone_else_codes) refl;
  block_else = unread (idle_with_codes block_else_codes) refl;
  second_else = unread (idle_with_codes second_else_codes) refl;
  open_body = unread (idle_with_codes open_codes) refl;
  early_end = unread (idle_with_codes early_end_codes) refl;
  extension =
      module_sound (idle_with_codes extension_codes) (idle_with_code [] extension_body) refl;
  copy = module_sound (idle_with_codes copy_codes) (idle_with_code [] (behind_zeros
      instr.MemoryCopy)) refl;
  fill = module_sound (idle_with_codes fill_codes) (idle_with_code [] (behind_zeros
      instr.MemoryFill)) refl;
  init = unread (idle_with_codes init_codes) refl;
}

pub hello_spelled : IsModule hello_bytes hello
unfolding reading
hello_spelled = module_sound hello_bytes hello refl

pub echo_spelled : IsModule echo_bytes echo
unfolding reading
echo_spelled = module_sound echo_bytes echo refl
