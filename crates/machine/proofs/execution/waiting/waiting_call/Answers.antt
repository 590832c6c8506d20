use Rattle.machine.proofs.CycleLemmas.WaitingCalls.{none_without_frames, own_running, none_behind}
use Rattle.machine.proofs.CycleLemmas.WaitingCalls.{at_opcode, none_at_other}
use Rattle.machine.proofs.execution.waiting.waiting_call.Goals as goal

pub returns-then-is_empty : goal.returns-then-is_empty
returns-then-is_empty c = λ functions program d stands.
    none_without_frames stands (c.is_empty.ensures.0 c.if-is_empty.true)

pub opcodes_of-requires : goal.opcodes_of-requires
opcodes_of-requires c =
    let r = c.requires in
    own_running r.stands c.top-frame.ensures

pub returns-in_default : goal.returns-in_default
returns-in_default c = λ functions program d stands.
    none_behind stands c.top-frame.ensures c.opcodes_of.ensures c.in_default.ensures.lookup.3

pub waiting_direct-requires-clause-here : goal.waiting_direct-requires-clause-here
waiting_direct-requires-clause-here c =
    let r = c.requires in
    at_opcode r.stands c.top-frame.ensures c.opcodes_of.ensures c.in-Some.ensures.lookup.3.0
    c.in-Some.ensures.lookup.1 c.in-Call.is

pub waiting_indirect-requires-clause-here : goal.waiting_indirect-requires-clause-here
waiting_indirect-requires-clause-here c =
    let r = c.requires in
    at_opcode r.stands c.top-frame.ensures c.opcodes_of.ensures c.in-Some.ensures.lookup.3.0
    c.in-Some.ensures.lookup.1 c.in-CallIndirect.is

pub returns-in_default-instruction : goal.returns-in_default-instruction
returns-in_default-instruction c = λ functions program d stands.
    none_at_other stands c.top-frame.ensures c.opcodes_of.ensures c.in-Some.ensures.lookup.3.0
    c.in-Some.ensures.lookup.1 c.in_default-instruction.not-Call
    c.in_default-instruction.not-CallIndirect
