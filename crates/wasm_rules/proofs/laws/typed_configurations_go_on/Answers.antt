use Rattle.wasm_rules.proofs.Soundness.AdministrativeSound.{never_stuck_holds, administrative_typed}
use Rattle.wasm_rules.proofs.Soundness.AdministrativeSound.{answers_typed, steps_typed}
use Rattle.wasm_rules.proofs.laws.typed_configurations_go_on.Goals as goal

pub returns-clause-never_stuck : goal.returns-clause-never_stuck
returns-clause-never_stuck c = never_stuck_holds

pub returns-clause-administrative_typed : goal.returns-clause-administrative_typed
returns-clause-administrative_typed c = administrative_typed

pub returns-clause-answers_typed : goal.returns-clause-answers_typed
returns-clause-answers_typed c = answers_typed

pub returns-clause-steps_typed : goal.returns-clause-steps_typed
returns-clause-steps_typed c = steps_typed
