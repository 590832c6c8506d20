use Rattle.std.proofs.Common.{◌≡◌, eqb, length, true, refl, arith}
use Rattle.std.proofs.lemmas.Bool.{eq-eqb}
use Rattle.wasm_decode.specs.Contents.{contents_read}
use Rattle.wasm_decode.proofs.contents.contents.Goals as goal

pub returns : goal.returns
unfolding contents_read
returns c =
    let same : eqb (length c.in_ok-functions.functions)
    (length c.in_ok-function_types.function_types) ≡ true = eq-eqb _ _ (omega arith) in
    rw (
      c.in_ok-types.ensures,
      c.in_ok-imports.ensures,
      c.in_ok-function_types.ensures,
      c.in_ok-tables.ensures,
      c.in_ok-memories.ensures,
      c.in_ok-globals.ensures,
      c.in_ok-exports.ensures,
      c.in_ok-start.ensures,
      c.in_ok-elements.ensures,
      c.in_ok-functions.ensures,
      c.in_ok-data_segments.ensures,
      same,
    ) refl
