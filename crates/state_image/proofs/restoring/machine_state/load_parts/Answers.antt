use Rattle.machine.specs.rules.Values.{least_of}
use Rattle.state_image.proofs.RestoreLemmas.Lent.{fault_of}
use Rattle.state_image.proofs.RestoreLemmas.MachineRead.{machine_read, when_done, no_calls}
use Rattle.state_image.proofs.RestoreLemmas.MachineRead.{no_globals, no_frames, no_bytes}
use Rattle.state_image.proofs.RestoreLemmas.MachineRead.{still_no_frames, still_least, still_most}
use Rattle.state_image.proofs.restoring.machine_state.load_parts.Goals as goal

pub returns-in_err-load_calls-clause-refused : goal.returns-in_err-load_calls-clause-refused
returns-in_err-load_calls-clause-refused c refused v rest read few shows =
    no_calls c.args.phase c.args.machine.now v c.args.reader.now rest read
    (c.in_err-load_calls.ensures.refused
    (fault_of c.from_residual.result _ c.from_residual.ensures.1 refused))

pub returns-in_err-load_globals-clause-refused : goal.returns-in_err-load_globals-clause-refused
returns-in_err-load_globals-clause-refused c refused v rest read few shows =
    no_globals c.args.phase c.args.machine.now v c.args.reader.now rest read
    (c.in_err-load_globals.ensures.refused (fault_of c.from_residual-in_err-load_globals.result _
    c.from_residual-in_err-load_globals.ensures.1 refused))

pub returns-in_err-load_frames-clause-refused : goal.returns-in_err-load_frames-clause-refused
returns-in_err-load_frames-clause-refused c refused v rest read few shows =
    let globals = c.in_ok-load_globals.ensures.made in
    no_frames c.args.phase c.args.machine.now v c.args.reader.now rest read
    c.load_globals.new.machine.state.frames globals.field c.load_globals.new.reader
    (still_no_frames c.args.phase c.args.machine.now c.load_calls.new.machine c.requires
    c.in_ok-load_calls.ensures.made c.load_globals.new.machine c.args.reader.now
    c.load_globals.new.reader globals) globals.has
    (c.in_err-load_frames.ensures.refused (fault_of c.from_residual-in_err-load_frames.result _
    c.from_residual-in_err-load_frames.ensures.1 refused)) few shows

pub returns-clause-made : goal.returns-clause-made
returns-clause-made c =
    when_done c.load_memory.result c.load_memory.ensures.made (λ memory.
    machine_read c.args.phase c.args.machine.now c.load_calls.new.machine c.requires
    c.in_ok-load_calls.ensures.made c.load_globals.new.machine c.load_frames.new.machine
    c.load_memory.new.machine c.args.reader.now c.load_globals.new.reader c.load_frames.new.reader
    c.load_memory.new.reader c.in_ok-load_globals.ensures.made c.in_ok-load_frames.ensures.made
    memory)

pub returns-clause-refused : goal.returns-clause-refused
returns-clause-refused c refused v rest read few shows =
    let globals = c.in_ok-load_globals.ensures.made in
    let frames = c.in_ok-load_frames.ensures.made in
    no_bytes c.args.phase c.args.machine.now v c.args.reader.now rest read
    (least_of c.load_frames.new.machine.guest) c.load_frames.new.machine.most_pages globals.field
    c.load_globals.new.reader c.load_frames.new.reader frames.field
    (still_least c.args.phase c.args.machine.now c.load_calls.new.machine c.requires
    c.in_ok-load_calls.ensures.made c.load_globals.new.machine c.load_frames.new.machine
    c.args.reader.now c.load_globals.new.reader c.load_frames.new.reader globals frames)
    (still_most c.args.phase c.args.machine.now c.load_calls.new.machine c.requires
    c.in_ok-load_calls.ensures.made c.load_globals.new.machine c.load_frames.new.machine
    c.args.reader.now c.load_globals.new.reader c.load_frames.new.reader globals frames)
    globals.has frames.has (c.load_memory.ensures.refused refused) shows
