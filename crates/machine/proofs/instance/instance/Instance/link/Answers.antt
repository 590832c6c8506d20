use Rattle.std.proofs.Common.{subst}
use Rattle.wasm_syntax.specs.declared.module.Module.{Module}
use Rattle.machine.specs.rules.Instances.{IsLinked}
use Rattle.machine.specs.rules.Refusals.{IsRefused}
use Rattle.machine.specs.Linked.{instance_of}
use Rattle.machine.proofs.InstanceLemmas.Begun.{denied}
use Rattle.machine.proofs.instance.instance.Instance.link.Goals as goal

pub returns-in-Ok-clause-linked : goal.returns-in-Ok-clause-linked
returns-in-Ok-clause-linked c =
    let b = c.in-Ok.beginning in
    let P : Module → Type 0 = λ m. IsLinked c.args.pages m (instance_of m b) in
    subst P c.module-2.ensures.same c.in-Ok.ensures.linked

pub returns-in-Err-clause-refused : goal.returns-in-Err-clause-refused
returns-in-Err-clause-refused c =
    let P : Module → Type 0 = λ m. IsRefused c.args.pages m c.in-Err.fault in
    subst P c.module-2.ensures.same c.in-Err.ensures.refused

pub returns-in-Err-clause-only : goal.returns-in-Err-clause-only
returns-in-Err-clause-only c =
    let P : Module → Type 0 = λ m. IsRefused c.args.pages m c.in-Err.fault in
    denied c.args.pages c.args.module c.in-Err.fault
    (subst P c.module-2.ensures.same c.in-Err.ensures.refused)
