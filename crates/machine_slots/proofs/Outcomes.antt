-- What comes of an effect that may trap.
use Rattle.std.proofs.Common.{ℕ, Result, Ok, Err}
use Rattle.wasm_syntax.specs.declared.value.Trap.{Trap}
use Rattle.wasm_syntax.specs.declared.instruction.Instruction.{Instruction}
use Rattle.wasm_rules.specs.Effects.{IsEffect}
use Rattle.machine_slots.specs.Frames.{Cells, Operates}
use Rattle.machine_slots.specs.Outcomes.{outcome_of, HasEffect}

pub comes : (i : Instruction) (base : ℕ) (before : Cells) (r : Result (Unit {0}) Trap)
    (after : Cells) → IsEffect i → Operates i base before r after
    → HasEffect i base before (outcome_of r) after
comes i base before (Ok done) after is h = (is, h)
comes i base before (Err why) after is h = (is, h)
