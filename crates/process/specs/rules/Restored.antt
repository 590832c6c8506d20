-- A process that is put together from its parts.
use Rattle.std.specs.Prelude.{ℕ}
use Rattle.wasm_rules.specs.Linking.{IsLinkable}
use Rattle.machine.specs.rules.Offers.{offer}
use Rattle.machine.specs.rules.Values.{MachineValue}
use Rattle.process.specs.declared.restoring.ProcessParts.{ProcessParts}
use Rattle.process.specs.rules.Values.{ProcessValue, process_of}

-- what is seen of these parts
abbrev pub process_from : ProcessParts → ProcessValue
process_from p = process_of p.machine p.host p.steps p.answers p.requests p.ended

-- its module can be linked, under some number of pages
abbrev pub HasLinkableGuest : MachineValue → Type 0
HasLinkableGuest v = (pages : ℕ) × IsLinkable offer pages v.guest
