use Rattle.std.proofs.Common.{get_or, refl}
use Rattle.wasm_rules.specs.Typed.{IsEntry}
use Rattle.wasm_validate.proofs.PartLemmas.Lookups.{is_false}
use Rattle.wasm_validate.proofs.PartLemmas.Loops.{passes, passed, of_all}
use Rattle.machine.proofs.LoadingLemmas.Words.{any_default}
use Rattle.machine.proofs.loading.limits.are_entries.Goals as goal

pub returns-then-not-is_entry : goal.returns-then-not-is_entry
returns-then-not-is_entry c = λ functions program looks. (
  λ t. absurd (is_false t),
  λ all.
      let later = c.args.later.now in
      let i = c.loop-function.function-index in
      let yes = (c.is_entry.ensures functions program looks).1
      (of_all (IsEntry program) later i (get_or later i 0) c.loop-function-test.true
      (any_default later i c.loop-function-test.true) all) in
      let none = c.if-not-is_entry.true in
      cc,
)

pub loop-function-preserved : goal.loop-function-preserved
loop-function-preserved c = λ functions program looks.
    let later = c.args.later.now in
    let i = c.loop-function.function-index in
    passes (IsEntry program) later i (get_or later i 0) c.loop-function-test.true
    (any_default later i c.loop-function-test.true)
    ((c.is_entry.ensures functions program looks).0 c.if-not-is_entry.false)
    (c.loop-function.invariant functions program looks)

pub returns : goal.returns
returns c = λ functions program looks.
    let all = passed (IsEntry program) c.args.later.now c.loop-function.function-index
    c.loop-function-test.false (c.loop-function.invariant functions program looks) in
    (λ _. all, λ _. refl)
