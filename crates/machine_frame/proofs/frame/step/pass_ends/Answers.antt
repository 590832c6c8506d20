use Rattle.std.proofs.Common.{Some, ap, ◌∙◌}
use Rattle.std.proofs.lemmas.Option.{slice_get_past}
use Rattle.machine_frame.proofs.FrameLemmas.Ends.{passing_starts, all_exited, reduced_there}
use Rattle.machine_frame.proofs.FrameLemmas.Ends.{behind_there, end_exited, part_exited, part_jumps}
use Rattle.machine_frame.proofs.FrameLemmas.Reading.{read_at}
use Rattle.machine_frame.proofs.frame.step.pass_ends.Goals as goal
use Rattle.machine_frame.proofs.frame.step.pass_ends.Goals.{in-End, in-Else}

pub loop-init : goal.loop-init
loop-init c =
    λ a d words globals memory routine runs.
    passing_starts a c.args.opcodes.now c.args.table.now d words globals memory routine runs

pub jump_at-next-requires : goal.jump_at-next-requires
jump_at-next-requires c =
    let r = c.requires in
    let at = read_at c.args.opcodes.now c.loop.next c.in-Some.ensures.lookup.3.0
    c.in-Some.ensures.lookup.1 in
    part_jumps r.around c.args.opcodes.now c.args.table.now r.configuration r.words r.globals
    r.memory r.routine (c.loop.invariant r.around r.configuration r.words r.globals r.memory
    r.routine r.runs) (at ∙ ap Some c.in-Else.is)

pub returns-in_default-opcode : goal.returns-in_default-opcode
returns-in_default-opcode c = λ a d words globals memory routine runs.
    let at = read_at c.args.opcodes.now c.loop.next c.in-Some.ensures.lookup.3.0
    c.in-Some.ensures.lookup.1 in
    reduced_there a c.args.opcodes.now c.args.table.now d words globals memory routine
    (c.loop.invariant a d words globals memory routine runs) at c.in_default-opcode.not-End
    c.in_default-opcode.not-Else

pub loop-preserved : goal.loop-preserved
loop-preserved c =
    let at = read_at c.args.opcodes.now c.loop.next c.in-Some.ensures.lookup.3.0
    c.in-Some.ensures.lookup.1 in
    elim c.match-opcode.branch [
      | in-End w ↦ λ a d words globals memory routine runs.
          rw w.next-is (end_exited a c.args.opcodes.now c.args.table.now d words globals memory
          routine (c.loop.invariant a d words globals memory routine runs)
          (at ∙ ap Some w.in-End.is))
      | in-Else w ↦ λ a d words globals memory routine runs.
          rw w.next-is (part_exited a c.args.opcodes.now c.args.table.now d words globals memory
          routine (c.loop.invariant a d words globals memory routine runs)
          (at ∙ ap Some w.in-Else.is) w.jump_at-next.ensures)
    ]

pub returns : goal.returns
returns c = λ a d words globals memory routine runs.
    all_exited a c.args.opcodes.now c.args.table.now d words globals memory routine
    (c.loop.invariant a d words globals memory routine runs) c.loop-test.false

pub returns-in_default : goal.returns-in_default
returns-in_default c = λ a d words globals memory routine runs.
    behind_there a c.args.opcodes.now c.args.table.now d words globals memory routine
    (c.loop.invariant a d words globals memory routine runs) (slice_get_past c.args.opcodes.now
    c.loop.next c.in_default.ensures.lookup.3)
