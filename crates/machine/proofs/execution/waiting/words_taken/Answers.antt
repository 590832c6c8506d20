use Rattle.std.proofs.Common.{◌+◌, Some, ap, ◌∙◌, arith}
use Rattle.std.proofs.lemmas.Option.{slice_get_within}
use Rattle.machine.proofs.CycleLemmas.AtCalls.{few_there, room_of, within_there, no_other}
use Rattle.machine.proofs.CycleLemmas.AtCalls.{direct_there, indirect_there, read_there}
use Rattle.machine.proofs.CycleLemmas.AtCalls.{signature_read, takes_direct, takes_indirect}
use Rattle.machine.proofs.execution.waiting.words_taken.Goals as goal

pub offset_bounds-opcodes_of-frame : goal.offset_bounds-opcodes_of-frame
offset_bounds-opcodes_of-frame c =
    let few = few_there c.args.code.now c.args.state.now c.top-frame.ensures c.requires in omega
    (arith, few)

pub bounds-opcodes_of-frame : goal.bounds-opcodes_of-frame
bounds-opcodes_of-frame c =
    within_there c.args.code.now c.args.state.now c.top-frame.ensures c.requires
    c.opcodes_of.ensures

pub bounds-as_slice-function : goal.bounds-as_slice-function
bounds-as_slice-function c =
    let t = direct_there c.args.code.now c.args.state.now c.top-frame.ensures c.requires
    c.opcodes_of.ensures c.index-opcodes_of-frame.is c.in-Call.is in
    (signature_read c.args.code.now c.in-Call.function t.signature t.has_signature
    c.as_slice.ensures.value).0

pub parameters_in-requires : goal.parameters_in-requires
parameters_in-requires c =
    let t = direct_there c.args.code.now c.args.state.now c.top-frame.ensures c.requires
    c.opcodes_of.ensures c.index-opcodes_of-frame.is c.in-Call.is in
    slice_get_within _ _ t.signature (signature_read c.args.code.now c.in-Call.function t.signature
    t.has_signature c.as_slice.ensures.value).1

pub parameters_in-requires-in-CallIndirect : goal.parameters_in-requires-in-CallIndirect
parameters_in-requires-in-CallIndirect c =
    let t = indirect_there c.args.code.now c.args.state.now c.top-frame.ensures c.requires
    c.opcodes_of.ensures c.index-opcodes_of-frame.is c.in-CallIndirect.is in
    slice_get_within _ _ t.signature t.signature_is

pub overflow_add-result : goal.overflow_add-result
overflow_add-result c =
    let t = indirect_there c.args.code.now c.args.state.now c.top-frame.ensures c.requires
    c.opcodes_of.ensures c.index-opcodes_of-frame.is c.in-CallIndirect.is in
    let count = c.parameters_in-in-CallIndirect.ensures t.signature t.signature_is in
    let enough = t.enough in
    let room = room_of c.requires in
    omega (arith, count, enough, room)

pub unreachable-requires : goal.unreachable-requires
unreachable-requires c =
    no_other c.args.code.now c.args.state.now c.top-frame.ensures c.requires c.opcodes_of.ensures
    c.index-opcodes_of-frame.is c.in_default.not-Call c.in_default.not-CallIndirect

pub returns-in-Call : goal.returns-in-Call
returns-in-Call c =
    let at = read_there c.args.code.now c.args.state.now c.top-frame.ensures c.requires
    c.opcodes_of.ensures c.index-opcodes_of-frame.is in
    takes_direct c.args.code.now c.args.state.now c.top-frame.ensures c.parameters_in.result
    (at ∙ ap Some c.in-Call.is) (λ signature has.
    c.parameters_in.ensures signature (signature_read c.args.code.now c.in-Call.function signature
    has c.as_slice.ensures.value).1)

pub returns-in-CallIndirect : goal.returns-in-CallIndirect
returns-in-CallIndirect c =
    let at = read_there c.args.code.now c.args.state.now c.top-frame.ensures c.requires
    c.opcodes_of.ensures c.index-opcodes_of-frame.is in
    takes_indirect c.args.code.now c.args.state.now c.top-frame.ensures _
    (at ∙ ap Some c.in-CallIndirect.is) (λ signature is. ap (λ n. n + 1)
    (c.parameters_in-in-CallIndirect.ensures signature is))
