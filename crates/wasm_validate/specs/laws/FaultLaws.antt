-- Faults and validity.
use Rattle.std.specs.Prelude.{◌≡◌}
use Rattle.wasm_syntax.specs.declared.module.Module.{Module}
use Rattle.wasm_rules.specs.Validity.{IsValid}
use Rattle.wasm_validate.specs.declared.parts.fault.ValidFault.{ValidFault}
use Rattle.wasm_validate.specs.declared.parts.fault.ValidFault.TheVariants.{Memory}
use Rattle.wasm_validate.specs.rules.Faults.{HasFault}

-- A valid module has a fault of no sort. Want of memory is none of the module.
abbrev pub ValidHasNoFault : Type 0
ValidHasNoFault = (m : Module) → IsValid m → (fault : ValidFault) → HasFault m fault
    → fault ≡ Memory
