-- Each example is read by computing.
use Rattle.std.proofs.Common.{refl}
use Rattle.wasm_syntax.proofs.Grammar.Worked.{idle_spelled, sections_spelled, bodies_spelled}
use Rattle.wasm_syntax.proofs.Grammar.Worked.{hello_spelled, echo_spelled}
use Rattle.wasm_syntax.proofs.Grammar.Fronts.{fronts_spell_nothing}
use Rattle.wasm_syntax.proofs.laws.worked_examples.Goals as goal

pub returns : goal.returns
returns c = record {
  idle_is = idle_spelled;
  sections = sections_spelled;
  bodies = bodies_spelled;
  fronts = fronts_spell_nothing;
  hello_size = refl;
  hello_is = hello_spelled;
  echo_size = refl;
  echo_is = echo_spelled;
}
