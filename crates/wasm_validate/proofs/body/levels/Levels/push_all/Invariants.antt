use Rattle.std.proofs.Common.{◌≡◌, reverse, take}
use Rattle.wasm_validate.specs.Body.Tops.{top_all_pushed}
use Rattle.wasm_validate.proofs.body.levels.Levels.push_all.Given as goal

abbrev pub invariant-loop-value_type : goal.invariant-loop-value_type
invariant-loop-value_type l =
    l.self ≡ top_all_pushed (reverse (take l.value_type-index l.types)) l.initial.self
