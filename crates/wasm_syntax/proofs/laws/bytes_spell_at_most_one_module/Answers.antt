-- Bytes are read as one module at most, and what they spell is read.
use Rattle.std.proofs.Common.{sym, ◌∙◌}
use Rattle.wasm_syntax.proofs.Grammar.Exact.{some_is}
use Rattle.wasm_syntax.proofs.Grammar.Whole.{module_complete}
use Rattle.wasm_syntax.proofs.laws.bytes_spell_at_most_one_module.Goals as goal

pub returns : goal.returns
returns c = λ bytes m n is_m is_n. some_is m n (sym (module_complete bytes m is_m)
    ∙ module_complete bytes n is_n)
