use Rattle.wasi_calls_rules.proofs.FirstWasiStates.{of_files_left}
use Rattle.wasi_calls.specs.rules.Held.{held_host_of}
use Rattle.wasi_calls.proofs.host.WasiState.go_on_from.Goals as goal

pub invariant_of-self : goal.invariant_of-self
invariant_of-self c =
    let i = c.self.inside in
    let old = held_host_of i.config i.version i.tree i.descriptors.items i.unread.items
    i.input_ended i.last_monotonic i.streams in
    let opened = (rw (← c.self.view_is) at c.requires.opened) in
    let room = (rw (← c.self.view_is) at c.requires.room) in
    rw c.count_from.ensures (of_files_left old.host c.args.tree old.host.lines
    c.args.last_monotonic c.self.invariant opened c.len-nodes.ensures.shape c.requires.named room
    c.has_64_bits.ensures)
