use Rattle.std.proofs.Common.{◌≡◌, ◌<◌, ◌+◌, ℕ, List, ◌∷◌, length, drop, get_or, sym, ap, ◌∙◌}
use Rattle.std.proofs.lemmas.List.{at_drop_more, at_drop_all}
use Rattle.std.proofs.lemmas.Result.{err_from_is_err_and}
use Rattle.wasm_syntax.specs.declared.instruction.Instruction.{Instruction}
use Rattle.wasm_syntax.specs.laws.ReadingItems.{◌>>=◌}
use Rattle.wasm_rules.specs.Typing.{Context as Typing}
use Rattle.wasm_validate.specs.laws.Checking.{Level, levels_after, checked}
use Rattle.wasm_validate.specs.laws.FirstFault.{fault_from, fault_in, opcode_fault}
use Rattle.wasm_validate.proofs.BodyLemmas.Fails.{fails_to}
use Rattle.wasm_validate.proofs.body.levels.Levels.steps.Goals as goal

next_checked : (c : Typing) (body : List Instruction) (n : ℕ) (i : Instruction)
    (levels : List Level) → n < length body → i ≡ get_or body n i
    → checked c (drop n body) levels ≡ (levels_after c i levels
    >>= λ levels'. checked c (drop (n + 1) body) levels')
next_checked c body n i levels h is =
    at_drop_more (λ z. checked c z levels) body n i h
    ∙ ap (λ z. checked c (z ∷ drop (n + 1) body) levels) (sym is)

next_fault : (c : Typing) (body : List Instruction) (n : ℕ) (i : Instruction) (levels : List Level)
    → n < length body → i ≡ get_or body n i
    → fault_in c (drop n body) levels
    ≡ fault_from (opcode_fault c i levels) (levels_after c i levels)
    (λ levels'. fault_in c (drop (n + 1) body) levels')
next_fault c body n i levels h is =
    at_drop_more (λ z. fault_in c z levels) body n i h
    ∙ ap (λ z. fault_in c (z ∷ drop (n + 1) body) levels) (sym is)

pub returns-in_err-step : goal.returns-in_err-step
returns-in_err-step c = λ c' scope.
    let p = err_from_is_err_and c.from_residual.result c.from_residual.ensures.1 in
    let n = c.loop-instruction.instruction-index in
    let i = c.instruction-item.result in
    let levels = c.loop-instruction.self in
    let body = c.args.body.now in
    rw (p.1, p.2)
    (fails_to c.in_err-step.field-0.0 (opcode_fault c' i levels) (fault_in c' body c.args.self.now)
    (levels_after c' i levels) (checked c' body c.args.self.now)
    (λ none. (
      c.loop-instruction.invariant.levels c' scope
          ∙ next_checked c' body n i levels c.loop-instruction-test.true c.instruction-item.is
          ∙ ap (λ z. z >>= λ levels'. checked c' (drop (n + 1) body) levels') none,
      sym (c.loop-instruction.invariant.fault c' scope
          ∙ next_fault c' body n i levels c.loop-instruction-test.true c.instruction-item.is
          ∙ ap (λ z. fault_from (opcode_fault c' i levels) z
          (λ levels'. fault_in c' (drop (n + 1) body) levels')) none),
    ))
    (c.in_err-step.ensures c' scope))

pub loop-instruction-preserved : goal.loop-instruction-preserved
loop-instruction-preserved c =
    let n = c.loop-instruction.instruction-index in
    let i = c.instruction-item.result in
    let levels = c.loop-instruction.self in
    let body = c.args.body.now in
    record {
      levels = λ c' scope.
          c.loop-instruction.invariant.levels c' scope
          ∙ next_checked c' body n i levels c.loop-instruction-test.true c.instruction-item.is
          ∙ ap (λ z. z >>= λ levels'. checked c' (drop (n + 1) body) levels')
          (c.in_ok-step.ensures c' scope);
      fault = λ c' scope.
          c.loop-instruction.invariant.fault c' scope
          ∙ next_fault c' body n i levels c.loop-instruction-test.true c.instruction-item.is
          ∙ ap (λ z. fault_from (opcode_fault c' i levels) z
          (λ levels'. fault_in c' (drop (n + 1) body) levels')) (c.in_ok-step.ensures c' scope);
    }

pub returns : goal.returns
returns c = λ c' scope.
    c.loop-instruction.invariant.levels c' scope
    ∙ at_drop_all
    (λ z. checked c' z c.loop-instruction.self) c.args.body.now c.loop-instruction.instruction-index
    c.loop-instruction-test.false
