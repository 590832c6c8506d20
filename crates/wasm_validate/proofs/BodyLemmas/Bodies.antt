-- The check of a whole body.
use Rattle.std.proofs.Common.{◌≡◌, inl, inr, false, [], ◌∷◌, ◌++◌, Option, Some, refl, sym, ap, ◌∙◌}
use Rattle.std.proofs.Common.{subst}
use Rattle.wasm_syntax.specs.declared.types.ValueType.{ValueType}
use Rattle.wasm_syntax.specs.declared.types.FunctionType.{FunctionType}
use Rattle.wasm_syntax.specs.declared.module.Code.{Code}
use Rattle.wasm_syntax.specs.declared.instruction.Instruction.TheVariants as instr
use Rattle.wasm_syntax.specs.rules.Sequence.{spelled}
use Rattle.wasm_rules.specs.Types.{gives_of, results_of}
use Rattle.wasm_rules.specs.Typing.{Context, HasType, body_context}
use Rattle.wasm_validate.specs.Body.Bodies.{HasBody}
use Rattle.wasm_validate.specs.laws.Checking.{new_level, checked}
use Rattle.wasm_validate.specs.laws.Remaining.{Closes, Ends, Remains}
use Rattle.wasm_validate.proofs.Algorithm.Sound.{sound, opened_fits as no_operands}
use Rattle.wasm_validate.proofs.Algorithm.Complete.{complete}

module _ (c : Context) (signature : FunctionType) (code : Code) (r : Option ValueType)
    (is : results_of r ≡ gives_of signature) where
  of_remains : Remains (body_context c signature code.locals) [] (new_level r r false
      ∷ []) code.body → HasBody c signature code
  of_remains (types, f, ends) = by_closes ends.closes
    where
      by_closes : Closes (body_context c signature code.locals) (results_of r ∷ []) false r (λ next.
          Remains (body_context c signature code.locals) (results_of r) [] next) ends.rest code.body
          → HasBody c signature code
      by_closes (inr h) = let no = h.first in absurd (cc)
      by_closes (inl h) = record {
        sequence = ends.rest;
        spells = record {
          is = h.is ∙ ap (λ z. spelled ends.rest ++ (instr.End ∷ z)) h.follows;
          nested = ends.nested;
        };
        typed = subst (λ z. HasType (body_context c signature code.locals) (z
            ∷ []) ends.rest [] z) is (subst (λ z. HasType (body_context c signature
            code.locals) (results_of r ∷ []) ends.rest z (results_of r))
            (no_operands types f) ends.typed);
      }

  pub body_sound : checked (body_context c signature code.locals) code.body
      (new_level r r false ∷ []) ≡ Some [] → HasBody c signature code
  body_sound e =
      of_remains (sound (body_context c signature code.locals) code.body
      (new_level r r false ∷ []) e)

  pub body_complete : HasBody c signature code
      → checked (body_context c signature code.locals) code.body (new_level r r false
      ∷ []) ≡ Some []
  body_complete h =
      let ends : Ends (body_context c signature code.locals) (results_of r ∷ []) false r (λ next.
      Remains (body_context c signature code.locals) (results_of r) [] next) [] code.body =
      record {
        rest = h.sequence;
        nested = h.spells.nested;
        typed = subst (λ z. HasType (body_context c signature code.locals) (z ∷ []) h.sequence [] z)
            (sym is) h.typed;
        closes = inl (record { next = []; is = h.spells.is; may = refl; follows = refl });
      } in
      complete (body_context c signature code.locals) code.body (new_level r r false
      ∷ []) ([], tt, ends)
