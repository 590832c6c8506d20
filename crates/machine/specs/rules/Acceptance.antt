-- Modules that the front end accepts.
use Rattle.std.specs.Prelude.{◌≢◌, ℕ, List, Bool, true, false, Option, None}
use Rattle.wasm_syntax.specs.declared.module.Module.{Module}
use Rattle.wasm_decode.specs.declared.fault.DecodeFault.TheVariants as decode
use Rattle.wasm_decode.specs.declared.items.limit.PassedLimit.{PassedLimit}
use Rattle.wasm_decode.specs.rules.Faults.{passed_of, place_of}
use Rattle.wasm_validate.specs.declared.parts.fault.ValidFault.{ValidFault}
use Rattle.wasm_validate.specs.declared.parts.fault.ValidFault.TheVariants as valid
use Rattle.machine.specs.declared.instance.fault.LinkFault.TheVariants as link
use Rattle.wasm_syntax.specs.rules.Modules.{IsModule}
use Rattle.wasm_syntax.specs.rules.Limits.{IsWithinLimits, HasNoModule}
use Rattle.wasm_rules.specs.Validity.{IsValid}
use Rattle.wasm_rules.specs.Acceptance.{IsAccepted}
use Rattle.wasm_validate.specs.rules.Answers.{Denies as DeniesValid}
use Rattle.wasm_validate.specs.rules.Faults.{HasFault}
use Rattle.machine.specs.rules.Refusals.{IsRefused}
use Rattle.machine.specs.rules.Offers.{offer}
use Rattle.machine.specs.rules.Values.{MachineValue}
use Rattle.machine.specs.rules.Runs.{HasBegun}
use Rattle.machine.specs.declared.from_bytes.fault.ModuleFault.{ModuleFault}
use Rattle.machine.specs.declared.from_bytes.fault.ModuleFault.TheVariants.{Decode, Valid, Link}

-- the machine is of the accepted module that these bytes spell, and has begun
pub record Accepts (pages : ℕ) (bytes : List ℕ) (machine : MachineValue) : Type 0 where
  pub spelled : Module
  pub accepted : IsAccepted offer pages bytes spelled
  pub begun : HasBegun pages spelled machine

-- the bytes spell this module, within the limits, and it is valid
pub record IsRead (bytes : List ℕ) (m : Module) : Type 0 where
  pub spelled : IsModule bytes m
  pub limits : IsWithinLimits bytes m
  pub valid : IsValid m

-- no module that is spelled by these bytes, within the limits, is valid
abbrev pub HasNoValidModule : List ℕ → Type 0
HasNoValidModule bytes = (m : Module) → IsRead bytes m → ⊥

-- these bytes spell an accepted module
abbrev pub HasAcceptedModule : ℕ → List ℕ → Type 0
HasAcceptedModule pages bytes = (m : Module) × IsAccepted offer pages bytes m

-- no module that is spelled by these bytes is accepted
abbrev pub HasNoAcceptedModule : ℕ → List ℕ → Type 0
HasNoAcceptedModule pages bytes = (m : Module) → IsAccepted offer pages bytes m → ⊥

-- a fault other than out of memory says P
abbrev pub ModuleFaultDenies : ModuleFault → Type 0 → Type 0
ModuleFaultDenies (Decode decode.Memory) P = Unit {0}
ModuleFaultDenies (Valid valid.Memory) P = Unit {0}
ModuleFaultDenies (Link link.Memory) P = Unit {0}
ModuleFaultDenies _ P = P

-- a module that isn't valid is told with a fault of a kind that it has
abbrev pub IsInvalid : Module → ValidFault → Type 0
IsInvalid m fault = DeniesValid fault (IsValid m) × HasFault m fault

-- Which of the first two steps refuses, and what it says: no module is spelled; or one is, which
-- isn't valid.
abbrev pub IsReportedOfReading : List ℕ → ModuleFault → Type 0
IsReportedOfReading bytes (Decode fault) = fault ≢ decode.Memory → HasNoModule bytes
IsReportedOfReading bytes (Valid fault) = (m : Module) × IsModule bytes m × IsWithinLimits bytes m
    × IsInvalid m fault
IsReportedOfReading bytes (Link fault) = ⊥

-- Which step refuses, and what it says: no module is spelled; or one is, which isn't valid; or it
-- is valid, and this is the first thing that it wants for linking. Want of memory says only what
-- the steps before found.
abbrev pub IsReported : ℕ → List ℕ → ModuleFault → Type 0
IsReported pages bytes (Decode fault) = fault ≢ decode.Memory → HasNoModule bytes
IsReported pages bytes (Valid fault) = (m : Module) × IsModule bytes m × IsWithinLimits bytes m
    × IsInvalid m fault
IsReported pages bytes (Link fault) = (m : Module) × IsModule bytes m × IsWithinLimits bytes m
    × IsValid m × IsRefused pages m fault

-- the host had no room
abbrev pub is_want : ModuleFault → Bool
is_want (Decode decode.Memory) = true
is_want (Valid valid.Memory) = true
is_want (Link link.Memory) = true
is_want _ = false

-- where in the bytes the fault is, for those of the decoder that say it
abbrev pub place_in : ModuleFault → Option ℕ
place_in (Decode fault) = place_of fault
place_in (Valid fault) = None
place_in (Link fault) = None

-- the limit of modules that the bytes pass, and where, for the one fault that says so
abbrev pub passed_in : ModuleFault → Option PassedLimit
passed_in (Decode fault) = passed_of fault
passed_in (Valid fault) = None
passed_in (Link fault) = None
