use Rattle.std.proofs.Common.{◌≡◌, ◌<◌, ◌+◌, ℕ, List, [], ◌∷◌, ◌++◌, length, drop, get_or, sym, ap}
use Rattle.std.proofs.Common.{◌∙◌, arith}
use Rattle.std.specs.Prelude.{reverse}
use Rattle.std.proofs.lemmas.Result.{err_from_is_err_and}
use Rattle.std.proofs.lemmas.List.{at_drop_more, at_drop_all, length_push}
use Rattle.std.proofs.lemmas.Iterator.Adapters.{YieldsList-from_rev_slice}
use Rattle.std.proofs.lemmas.Iterator.Consumers.{YieldsList-turn, YieldsList-end}
use Rattle.wasm_syntax.specs.declared.types.ValueType.{ValueType}
use Rattle.wasm_syntax.specs.laws.ReadingItems.{◌>>=◌}
use Rattle.wasm_validate.specs.declared.parts.fault.ValidFault.TheVariants.{Typing}
use Rattle.wasm_validate.specs.laws.Checking.{Level}
use Rattle.wasm_validate.specs.Body.Tops.{top_taken, top_all_taken}
use Rattle.wasm_validate.proofs.BodyLemmas.Fails.{fails_as}
use Rattle.wasm_validate.proofs.body.levels.Levels.expect_all.Goals as goal

-- the next of these types is t
next_taken : (types : List ValueType) (n : ℕ) (t : ValueType) (levels : List Level)
    → n < length types → t ≡ get_or types n t
    → top_all_taken (drop n types) levels ≡ (top_taken t levels
    >>= λ levels'. top_all_taken (drop (n + 1) types) levels')
next_taken types n t levels h is =
    at_drop_more (λ ts. top_all_taken ts levels) types n t h
    ∙ ap (λ z. top_all_taken (z ∷ drop (n + 1) types) levels) (sym is)

pub loop-value_type-preserved : goal.loop-value_type-preserved
loop-value_type-preserved c =
    let turn = YieldsList-turn (YieldsList-from_rev_slice c.args.types.now cc)
    c.loop-value_type.yielded _ c.loop-value_type.yielded_by _ _ c.in-Some.value_type
    c.in-Some.is c.next.ensures.steps in
    let types = reverse c.args.types.now in
    let n = length c.loop-value_type.yielded in
    let count : length (c.loop-value_type.yielded ++ c.in-Some.value_type ∷ []) ≡ n + 1 =
    length_push c.loop-value_type.yielded c.in-Some.value_type in
    c.loop-value_type.invariant
    ∙ next_taken types n c.in-Some.value_type.now c.loop-value_type.self turn.0 turn.1
    ∙ ap (λ z. z >>= λ levels'. top_all_taken (drop (n + 1) types) levels') c.in_ok-expect.ensures
    ∙ ap (λ z. top_all_taken (drop z types) c.expect.new.self) (sym count)

pub returns-in_err-expect : goal.returns-in_err-expect
returns-in_err-expect c =
    let turn = YieldsList-turn (YieldsList-from_rev_slice c.args.types.now cc)
    c.loop-value_type.yielded _ c.loop-value_type.yielded_by _ _ c.in-Some.value_type
    c.in-Some.is c.next.ensures.steps in
    let p = err_from_is_err_and c.from_residual.result c.from_residual.ensures.1 in
    let types = reverse c.args.types.now in
    let n = length c.loop-value_type.yielded in
    rw (p.1, p.2)
    (fails_as c.in_err-expect.field-0.0 Typing
    (top_taken c.in-Some.value_type.now c.loop-value_type.self)
    (top_all_taken types c.args.self.now)
    (λ none. c.loop-value_type.invariant
    ∙ next_taken types n c.in-Some.value_type.now c.loop-value_type.self turn.0 turn.1
    ∙ ap (λ z. z >>= λ levels'. top_all_taken (drop (n + 1) types) levels') none)
    c.in_err-expect.ensures)

pub returns : goal.returns
returns c =
    let end = YieldsList-end (YieldsList-from_rev_slice c.args.types.now cc)
    c.loop-value_type.yielded _ c.loop-value_type.yielded_by _ _ c.in-None.is
    c.next.ensures.steps in
    let types = reverse c.args.types.now in
    c.loop-value_type.invariant
    ∙ at_drop_all (λ ts. top_all_taken ts c.loop-value_type.self) types
    (length c.loop-value_type.yielded) (omega (arith, end.1))
