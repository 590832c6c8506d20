use Rattle.wasi_calls_rules.proofs.KeepsWasiStates.{moved_host}
use Rattle.wasi_calls.specs.rules.Held.{held_host_of}
use Rattle.wasi_calls.proofs.host.WasiState.move_to.Goals as goal

pub invariant_of-self : goal.invariant_of-self
invariant_of-self c =
    let s = c.self.inside in
    let held = held_host_of s.config s.version s.tree s.descriptors.items s.unread.items
    s.input_ended s.last_monotonic s.streams in
    let there = (rw (← c.self.view_is) at c.known_descriptor.ensures) in
    rw c.at_offset-moved.ensures
    (moved_host held.host c.args.fd c.args.offset c.known_descriptor.result.now c.self.invariant
    there
    c.requires.small)
