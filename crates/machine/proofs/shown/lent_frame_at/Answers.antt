use Rattle.machine_frame.proofs.Threads.Placing.{placed}
use Rattle.machine.proofs.shown.lent_frame_at.Goals as goal

pub words_between-requires-clause-order : goal.words_between-requires-clause-order
words_between-requires-clause-order c =
    let p = placed c.args.frames.now c.args.slots.now c.args.index c.requires.stacked
    c.get-frame.ensures in
    rw c.end_of_slots-end.ensures p.begins

pub words_between-requires-clause-inside : goal.words_between-requires-clause-inside
words_between-requires-clause-inside c =
    let p = placed c.args.frames.now c.args.slots.now c.args.index c.requires.stacked
    c.get-frame.ensures in
    rw c.end_of_slots-end.ensures p.ends

pub returns : goal.returns
returns c =
    let p = placed c.args.frames.now c.args.slots.now c.args.index c.requires.stacked
    c.get-frame.ensures in
    rw (c.words_between.ensures, c.end_of_slots-end.ensures) p.shown
