use Rattle.std.proofs.Common.{arith}
use Rattle.machine.proofs.CycleLemmas.AtCalls.{few_there, room_of}
use Rattle.machine.specs.rules.Answers.{call_results}
use Rattle.machine.proofs.HostingLemmas.Answered.{asking_of, enough_there, is_answered}
use Rattle.machine.proofs.hosting.answering.answer.Goals as goal

pub replace-requires-clause-enough : goal.replace-requires-clause-enough
replace-requires-clause-enough c =
    enough_there c.words_taken-taken.result c.words_taken-taken.ensures (asking_of c.requires)

pub replace-requires-clause-room : goal.replace-requires-clause-room
replace-requires-clause-room c =
    room_of (asking_of c.requires)

pub overflow_add-frame : goal.overflow_add-frame
overflow_add-frame c =
    let few = few_there c.args.code.now c.args.state.now c.top-frame.ensures (asking_of c.requires)
    in
    omega (arith, few)

pub returns : goal.returns
returns c =
    is_answered c.args.code.now c.args.state.now (call_results c.args.given)
    c.words_taken-taken.result c.set_position.new.self c.replace.new.slots
    c.words_taken-taken.ensures c.top-frame.ensures c.replace.ensures
    c.set_position.ensures.position
