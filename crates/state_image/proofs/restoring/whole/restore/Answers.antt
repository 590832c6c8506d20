use Rattle.std.proofs.Common.{ℕ, subst, sym}
use Rattle.wasm_syntax.specs.declared.module.Module.{Module}
use Rattle.wasm_rules.specs.Linking.{IsLinkable}
use Rattle.machine.specs.rules.Offers.{offer}
use Rattle.machine.specs.rules.Runs.{HasBegun}
use Rattle.state_image.specs.rules.Restored.{IsRestored}
use Rattle.state_image.specs.rules.WellTyped.{IsWellTyped}
use Rattle.state_image.proofs.LinkedFirst.{not_linked}
use Rattle.state_image.proofs.RestoreLemmas.Loops.{if_ok}
use Rattle.state_image.proofs.restoring.whole.restore.Goals as goal

pub returns-in_err-machine-clause-refused : goal.returns-in_err-machine-clause-refused
returns-in_err-machine-clause-refused c refused linkable s w e =
    let P : ℕ → Type 0 = λ n. IsLinkable offer n c.args.«module» in
    not_linked (P c.pages.result) c.from_residual.result _ c.from_residual.ensures.1 refused
    c.in_err-machine.ensures.only (subst P (sym c.pages.ensures.value) linkable)

pub restore_into-requires : goal.restore_into-requires
restore_into-requires c =
    let v = c.in_ok-machine.machine in
    let begun = c.in_ok-machine.ensures.begun in
    let P : ℕ → Type 0 = λ n. HasBegun n c.args.«module» v in
    let Q : Module → Type 0 = λ z. HasBegun c.args.config.pages z v in
    subst Q (sym begun.guest) (subst P c.pages.ensures.value begun)

pub returns-clause-restored : goal.returns-clause-restored
returns-clause-restored c =
    let same = c.in_ok-machine.ensures.begun.guest in
    if_ok (IsRestored c.in_ok-machine.machine.guest c.args.config c.args.bytes.now)
    (IsRestored c.args.«module» c.args.config c.args.bytes.now) c.restore_into.result
    c.restore_into.ensures.restored
    (λ p is. let P : Module → Type 0 = λ z. IsRestored z c.args.config c.args.bytes.now p in
    subst P same is)

pub returns-clause-refused : goal.returns-clause-refused
returns-clause-refused c refused linkable s w e =
    let P : Module → Type 0 = λ z. IsWellTyped z c.args.config s in
    c.restore_into.ensures.refused refused s
    (subst P (sym c.in_ok-machine.ensures.begun.guest) w) e
