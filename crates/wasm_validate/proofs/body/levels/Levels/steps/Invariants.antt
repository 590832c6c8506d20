use Rattle.std.proofs.Common.{◌≡◌, drop}
use Rattle.wasm_rules.specs.Typing.{Context as Typing}
use Rattle.wasm_validate.specs.laws.Checking.{checked}
use Rattle.wasm_validate.specs.laws.FirstFault.{fault_in}
use Rattle.wasm_validate.specs.Body.Scopes.{IsScopeOf}
use Rattle.wasm_validate.proofs.body.levels.Levels.steps.Given as goal

abbrev pub invariant-loop-instruction : goal.invariant-loop-instruction
invariant-loop-instruction l = record {
  levels : (c : Typing) → IsScopeOf c l.scope
      → checked c l.body l.initial.self ≡ checked c (drop l.instruction-index l.body) l.self;
  fault : (c : Typing) → IsScopeOf c l.scope
      → fault_in c l.body l.initial.self ≡ fault_in c (drop l.instruction-index l.body) l.self;
}
