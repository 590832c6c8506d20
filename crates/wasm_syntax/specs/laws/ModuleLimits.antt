-- The limits on modules, as numbers.
use Rattle.std.specs.Prelude.{◌≡◌}
use Rattle.wasm_syntax.specs.declared.limits.TheConstants.{MODULE_BYTES, FUNCTIONS, INSTRUCTIONS}
use Rattle.wasm_syntax.specs.declared.limits.TheConstants.{PARAMETERS, LOCALS, TABLE_ENTRIES}
use Rattle.wasm_syntax.specs.declared.limits.TheConstants.{GLOBALS}

pub record ModuleLimitNumbers : Type 0 where
  -- 2 MiB
  pub module_bytes : MODULE_BYTES ≡ 2097152
  pub functions : FUNCTIONS ≡ 4096
  -- of one expression
  pub opcodes : INSTRUCTIONS ≡ 4096
  -- of one type
  pub parameters : PARAMETERS ≡ 256
  -- declared by one body
  pub locals : LOCALS ≡ 256
  pub table_entries : TABLE_ENTRIES ≡ 4096
  pub globals : GLOBALS ≡ 1024
