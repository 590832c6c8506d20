use Rattle.std.proofs.Common.{◌≡◌, ℕ, ◌≤◌, sym, subst}
use Rattle.wasm_syntax.specs.declared.module.Module.{Module}
use Rattle.wasi_abi.specs.rules.Configs.{Settings}
use Rattle.file_tree.specs.rules.Files.{used}
use Rattle.process.specs.rules.Legacies.{LegacyValue}
use Rattle.process.specs.rules.Values.{ProcessValue, HasStarted}
use Rattle.process.proofs.Successions.{opened, has_room, narrow, is_narrow_process}
use Rattle.process.proofs.process.Process.go_on_from.Goals as goal

-- what is required of the process and of what was left holds of what is inside them
begun : {m : Module} {config : Settings} {old self : ProcessValue} → old ≡ self
    → HasStarted m config self → HasStarted m config old
begun {m} {config} same started = subst (HasStarted m config) (sym same) started

fits : {most : ℕ} {left legacy : LegacyValue} → left ≡ legacy → used legacy.files ≤ most
    → used left.files ≤ most
fits {most} same room = subst (λ (l : LegacyValue). used l.files ≤ most) (sym same) room

pub go_on_from-requires-clause-opened : goal.go_on_from-requires-clause-opened
go_on_from-requires-clause-opened c =
    opened c.requires.module_is c.requires.config _ (begun c.self.view_is c.requires.started) _
    c.legacy.invariant (fits c.legacy.view_is c.requires.room)

pub go_on_from-requires-clause-room : goal.go_on_from-requires-clause-room
go_on_from-requires-clause-room c =
    has_room c.requires.module_is c.requires.config _ (begun c.self.view_is c.requires.started) _
    c.legacy.invariant (fits c.legacy.view_is c.requires.room)

pub invariant_of-self : goal.invariant_of-self
invariant_of-self c =
    rw c.go_on_from.ensures (is_narrow_process c.requires.module_is c.requires.config _
    (begun c.self.view_is c.requires.started) _ c.legacy.invariant
    (fits c.legacy.view_is c.requires.room))

pub widen-requires : goal.widen-requires
widen-requires c =
    rw c.go_on_from.ensures (narrow c.requires.module_is c.requires.config _
    (begun c.self.view_is c.requires.started) _ c.legacy.invariant
    (fits c.legacy.view_is c.requires.room))

pub invariant_of-self-else-eq : goal.invariant_of-self-else-eq
invariant_of-self-else-eq c =
    rw c.go_on_from.ensures (is_narrow_process c.requires.module_is c.requires.config _
    (begun c.self.view_is c.requires.started) _ c.legacy.invariant
    (fits c.legacy.view_is c.requires.room))
