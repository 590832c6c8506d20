use Rattle.std.proofs.Common.{◌≡◌, ◌<◌, ◌+◌, ℕ, List, [], ◌∷◌, length, take, get_or, Some, refl}
use Rattle.std.proofs.Common.{sym, ap, ◌∙◌}
use Rattle.std.specs.Prelude.{reverse}
use Rattle.std.proofs.lemmas.List.{take_more, take_all, reverse-append}
use Rattle.wasm_syntax.specs.declared.types.ValueType.{ValueType}
use Rattle.wasm_syntax.specs.declared.types.ValueType.TheVariants.{I32}
use Rattle.wasm_validate.specs.laws.Checking.{Level}
use Rattle.wasm_validate.specs.Body.Tops.{top_pushed, top_all_pushed}
use Rattle.wasm_validate.proofs.body.levels.Levels.push_all.Goals as goal

none_pushed : (levels : List Level) → levels ≡ top_all_pushed [] levels
none_pushed [] = refl
none_pushed (l ∷ levels) = refl

one_pushed : (t : ValueType) (ts : List ValueType) (levels : List Level)
    → top_pushed (Some t) (top_all_pushed ts levels) ≡ top_all_pushed (t ∷ ts) levels
one_pushed t ts [] = refl
one_pushed t ts (l ∷ levels) = refl

pub loop-value_type-init : goal.loop-value_type-init
loop-value_type-init c = none_pushed c.args.self.now

pushed_in_turn : (types : List ValueType) (n : ℕ) → n < length types
    → get_or types n I32 ∷ reverse (take n types) ≡ reverse (take (n + 1) types)
pushed_in_turn types n h =
    sym (ap reverse (take_more types n I32 h)
    ∙ reverse-append (take n types) (get_or types n I32 ∷ []))

pub loop-value_type-preserved : goal.loop-value_type-preserved
loop-value_type-preserved c =
    let n = c.loop-value_type.value_type-index in
    let t = get_or c.args.types.now n I32 in
    c.in_ok-push.ensures.pushed
    ∙ ap (λ z. top_pushed (Some t) z) c.loop-value_type.invariant
    ∙ one_pushed t (reverse (take n c.args.types.now)) c.args.self.now
    ∙ ap (λ z. top_all_pushed z c.args.self.now)
    (pushed_in_turn c.args.types.now n c.loop-value_type-test.true)

pub returns-clause-pushed : goal.returns-clause-pushed
returns-clause-pushed c =
    c.loop-value_type.invariant
    ∙ ap (λ z. top_all_pushed (reverse z) c.args.self.now)
    (take_all c.loop-value_type.value_type-index c.args.types.now c.loop-value_type-test.false)
