use Rattle.std.proofs.Common.{◌≡◌, [], drop}
use Rattle.wasm_decode.specs.Contents.{functions_onto_at}
use Rattle.wasm_decode.proofs.codes.entries.Given as goal

abbrev pub invariant-loop-function_type : goal.invariant-loop-function_type
invariant-loop-function_type l =
    functions_onto_at (drop l.function_type-index l.types) l.functions l.decoder
    ≡ functions_onto_at l.fn.types [] l.fn.decoder
