use Rattle.std.proofs.Common.{◌≡◌, ℕ, List, [], ◌∷◌, length, IsTrue, refl, sym, ◌∙◌, arith}
use Rattle.std.specs.Prelude.{nat_eq}
use Rattle.std.proofs.lemmas.Bool.Decides.{nat_tests}
use Rattle.wasm_validate.specs.declared.body.levels.Control.{Control}
use Rattle.wasm_validate.specs.laws.Checking.{Known}
use Rattle.wasm_validate.specs.Body.Views.{levels_of}
use Rattle.wasm_validate.proofs.body.levels.Levels.is_empty.Goals as goal

none_there : (n : ℕ) (controls : List Control) (operands : List Known) → n ≡ length controls
    → IsTrue (nat_eq n 0) → levels_of controls operands ≡ []
none_there n [] operands is e = refl
none_there n (k ∷ controls) operands is e = let zero : n ≡ 0 = grind (arith, nat_tests) in
    absurd (omega arith)

is_none : (n : ℕ) (controls : List Control) (operands : List Known) → n ≡ length controls
    → levels_of controls operands ≡ [] → IsTrue (nat_eq n 0)
is_none n [] operands is e = let zero : n ≡ 0 = omega arith in rw zero refl
is_none n (k ∷ controls) operands is e = absurd (cc)

pub returns : goal.returns
returns c = (
  λ e. sym c.self.view_is
      ∙ none_there c.len.result c.self.inside.controls c.self.inside.operands c.len.ensures e,
  λ e. is_none c.len.result c.self.inside.controls c.self.inside.operands c.len.ensures
      (c.self.view_is ∙ e),
)
