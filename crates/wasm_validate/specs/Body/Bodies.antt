-- Bodies that have their function's type.
use Rattle.std.specs.Prelude.{[], ◌∷◌}
use Rattle.std.specs.List.{AllByRecursion}
use Rattle.wasm_syntax.specs.declared.types.FunctionType.{FunctionType}
use Rattle.wasm_syntax.specs.declared.module.Code.{Code}
use Rattle.wasm_syntax.specs.rules.Sequence.{Sequence, Spells}
use Rattle.wasm_rules.specs.Types.{gives_of}
use Rattle.wasm_rules.specs.Typing.{Context, HasType, body_context}
use Rattle.wasm_validate.specs.declared.parts.fault.ValidFault.{ValidFault}
use Rattle.wasm_validate.specs.rules.Answers.{DeniesOne}
use Rattle.wasm_validate.specs.rules.Faults.{IsAligned, HaveDefinedIndices, WouldHaveBody}

-- what a fault says of a body: it would have no type, an index of it names nothing, or an access is
-- misaligned
abbrev pub IsFaultOfBody : Context → FunctionType → Code → ValidFault → Type 0
IsFaultOfBody c signature code e =
    DeniesOne e (WouldHaveBody c signature code)
    (HaveDefinedIndices (body_context c signature code.locals) 1 code.body)
    (AllByRecursion IsAligned code.body)

-- The body spells a sequence that gives, from nothing on, what the function gives; a branch out of
-- it all gives that too (3.4.1).
pub record HasBody (c : Context) (signature : FunctionType) (code : Code) : Type 0 where
  pub sequence : Sequence
  pub spells : Spells code.body sequence
  pub typed : HasType (body_context c signature code.locals) (gives_of signature
      ∷ []) sequence [] (gives_of signature)
