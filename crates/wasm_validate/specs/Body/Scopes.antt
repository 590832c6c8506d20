-- What a scope of the code stands for.
use Rattle.std.specs.Prelude.{◌≡◌, ◌++◌, reverse, Option, Some, None, Result, Ok, Err}
use Rattle.wasm_rules.specs.Typing.{Context as Typing}
use Rattle.wasm_validate.specs.declared.parts.fault.ValidFault.{ValidFault}
use Rattle.wasm_validate.specs.declared.parts.fault.ValidFault.TheVariants.{Index}
use Rattle.wasm_validate.specs.Parts.Contexts.{IsContextOf}
use Rattle.wasm_validate.specs.declared.body.scope.Scope.{Scope}

-- what typing looks up is what the code looks up
pub record IsScopeOf (c : Typing) (code : Scope) : Type 0 where
  pub context : IsContextOf c code.context.now
  pub locals : c.locals ≡ code.parameters.now ++ code.declared.now
  pub returns : c.returns ≡ reverse code.returns.now

-- it is found, or there is nothing, which is `Index`
abbrev pub LooksUp : {X : Type 0} → Result X ValidFault → Option X → Type 0
LooksUp (Ok x) o = o ≡ Some x
LooksUp (Err e) o = (e ≡ Index) × (o ≡ None)
