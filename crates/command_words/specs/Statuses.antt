-- The verdict of check, and its status.
use Rattle.std.specs.Prelude.{◌≡◌, ℕ, List, Result, Ok, Err, if◌then◌else◌}
use Rattle.wasm_syntax.specs.declared.module.Module.{Module}
use Rattle.wasm_rules.specs.Acceptance.{IsAccepted}
use Rattle.machine.specs.declared.from_bytes.fault.ModuleFault.{ModuleFault}
use Rattle.machine.specs.rules.Acceptance.{HasNoAcceptedModule, ModuleFaultDenies, is_want}
use Rattle.machine.specs.rules.Offers.{offer}
use Rattle.command_words.specs.rules.Verdicts.{first_pages}
use Rattle.command_words.specs.declared.status.Status.{Status}
use Rattle.command_words.specs.declared.status.Status.TheVariants as exit

-- The bytes spell an accepted module, whose memory begins with so many pages, or none for the fault
-- to be told. Want of memory says nothing of them.
abbrev pub IsRight : ℕ → List ℕ → Result ℕ ModuleFault → Type 0
IsRight pages bytes (Ok first) =
    (m : Module) × IsAccepted offer pages bytes m × (first ≡ first_pages m)
IsRight pages bytes (Err fault) = ModuleFaultDenies fault (HasNoAcceptedModule pages bytes)

-- the exit status of a verdict whose line is printed
abbrev pub status_by : Result ℕ ModuleFault → Status
status_by (Ok first) = exit.Done
status_by (Err fault) = if is_want fault then exit.OutOfMemory else exit.Refused
