use Rattle.std.proofs.Common.{◌≡◌, ◌-◌, ap, length, take, drop, sym, arith}
use Rattle.std.proofs.lemmas.List.{length-drop, take-append-drop}
use Rattle.machine.proofs.hosting.answering.replace.Goals as goal

pub push-requires : goal.push-requires
push-requires c =
    let under = drop c.args.taken c.args.slots.now in
    let enough = c.requires.enough in
    let room = c.requires.room in
    let count = c.len.ensures.len in
    let height : c.len.result - c.args.taken ≡ length (drop c.args.taken c.args.slots.now) =
    simp length-drop (omega (arith, count)) in
    let slots_left = c.truncate.ensures (take c.args.taken c.args.slots.now) under height
    (sym (take-append-drop c.args.taken c.args.slots.now)) in
    omega (arith, ap length slots_left, height, count, room)
