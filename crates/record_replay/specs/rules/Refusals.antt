-- What a worker says where a step of its making or running fails.
use Rattle.std.specs.Prelude.{Bool, true, false}
use Rattle.process.specs.declared.fault.ProcessFault.{ProcessFault}
use Rattle.process.specs.declared.fault.ProcessFault.TheVariants as stop
use Rattle.machine.specs.declared.from_bytes.fault.ModuleFault.{ModuleFault}
use Rattle.machine.specs.rules.Acceptance.{is_want}
use Rattle.record_replay.specs.declared.slices.fault.SliceFault.{SliceFault}
use Rattle.record_replay.specs.declared.slices.fault.SliceFault.TheVariants as fault
use Rattle.record_replay.specs.declared.slices.fault.Refusal.TheVariants as refusal

-- where its process can't do a step
abbrev pub slice_fault : ProcessFault → SliceFault
slice_fault stop.WrongAnswer = fault.Source
slice_fault stop.Memory = fault.Memory
slice_fault stop.StepsSpent = fault.Refused refusal.StepsSpent

-- where the module isn't accepted, or the host has no room
abbrev pub refusal_by : Bool → ModuleFault → SliceFault
refusal_by true why = fault.Memory
refusal_by false why = fault.Refused (refusal.Module why)

-- out of memory is told as that, each other fault of a module as a refusal
abbrev pub refusal_of : ModuleFault → SliceFault
refusal_of why = refusal_by (is_want why) why
