-- Steps of an expression.
use Rattle.std.specs.Prelude.{◌≡◌, List}
use Rattle.wasm_decode.specs.declared.items.step.BodyStep.{BodyStep}
use Rattle.wasm_decode.specs.declared.items.step.BodyStep.TheVariants as step
use Rattle.wasm_syntax.specs.declared.opener.Opener.{Opener}
use Rattle.wasm_syntax.specs.laws.ReadingInstructions.{Nesting, Open, Closed, Misplaced}

-- what a step says of what is open after the instruction
abbrev pub Nests : BodyStep → List Opener → Nesting → Type 0
Nests step.GoesOn openers n = n ≡ Open openers
Nests step.Closes openers n = n ≡ Closed
Nests step.Misplaced openers n = n ≡ Misplaced
