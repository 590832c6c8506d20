use Rattle.std.proofs.Common.{◌≡◌, reverse, length, drop}
use Rattle.wasm_validate.specs.Body.Tops.{top_all_taken}
use Rattle.wasm_validate.proofs.body.levels.Levels.expect_all.Given as goal

abbrev pub invariant-loop-value_type : goal.invariant-loop-value_type
invariant-loop-value_type l =
    top_all_taken (reverse l.types) l.initial.self
    ≡ top_all_taken (drop (length l.yielded) (reverse l.types)) l.self
