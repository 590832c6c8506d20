-- What making the table of a function's body looks up, and when the table is right.
use Rattle.std.specs.List.{AllByRecursion}
use Rattle.wasm_syntax.specs.declared.types.FunctionType.{FunctionType}
use Rattle.wasm_syntax.specs.declared.module.Code.{Code}
use Rattle.wasm_rules.specs.Typing.{Context as Typing, body_context}
use Rattle.wasm_rules.specs.laws.Laws.{GivesOneAtMost}
use Rattle.wasm_validate.specs.declared.parts.context.ModuleContext.{ModuleContext}
use Rattle.wasm_validate.specs.Parts.Contexts.{IsContextOf}
use Rattle.wasm_validate.specs.Body.Bodies.{HasBody}
use Rattle.machine_jumps.specs.Tables.{Table, IsTable}

-- Functions of all types in the context give one value at most, as in each valid module.
pub record GivesOnes (code : ModuleContext) : Type 0 where
  pub c : Typing
  pub is : IsContextOf c code
  pub types : AllByRecursion GivesOneAtMost c.types

-- The table is right about the sequence that the body spells, if the body has its function's type.
abbrev pub IsTableOf : Typing → FunctionType → Code → Table → Type 0
IsTableOf c signature code table = (has : HasBody c signature code)
    → IsTable (body_context c signature code.locals) has.sequence table
