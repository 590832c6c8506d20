-- A module that is linked before its process is restored.
use Rattle.std.proofs.Common.{◌≡◌, ◌∙◌, sym}
use Rattle.std.specs.Prelude.{Result, Ok, Err}
use Rattle.std.specs.Result.{IsErrAnd}
use Rattle.machine.specs.declared.instance.fault.LinkFault.{LinkFault}
use Rattle.machine.specs.declared.instance.fault.LinkFault.TheVariants as link
use Rattle.machine.specs.rules.Refusals.{LinkDenies}
use Rattle.state_image.specs.declared.restoring.fault.RestoreFault.{RestoreFault}
use Rattle.state_image.specs.declared.restoring.fault.RestoreFault.TheVariants as fault
use Rattle.state_image.specs.restoring.Processes.{fault_of_link}

-- a fault of linking that is told as no image denies that the module can be linked
denies : (P : Type 0) (f : LinkFault) → fault_of_link f ≡ fault.NotAnImage → LinkDenies P f → P → ⊥
denies P link.Memory e h p = absurd cc
denies P _ e h p = h p

pub not_linked : {X : Type 0} (P : Type 0) (r : Result X RestoreFault) (f : LinkFault)
    → IsErrAnd r (λ y. y ≡ fault_of_link f) → r ≡ Err fault.NotAnImage → LinkDenies P f → P → ⊥
not_linked P (Ok x) f is e h p = absurd cc
not_linked P (Err y) f is e h p =
    let same : y ≡ fault_of_link f = is in
    let it : y ≡ fault.NotAnImage = cc in
    denies P f (sym same ∙ it) h p
