use Rattle.wasi_abi.specs.rules.Numbers.{descriptor_flags_number}
use Rattle.wasi_calls.specs.rules.Held.{held_host_of}
use Rattle.wasi_calls.proofs.Descriptors.{flagged_host}
use Rattle.wasi_calls.proofs.host.WasiState.set_flags.Goals as goal

pub invariant_of-self : goal.invariant_of-self
invariant_of-self c =
    let s = c.self.inside in
    let held = held_host_of s.config s.version s.tree s.descriptors.items s.unread.items
    s.input_ended s.last_monotonic s.streams in
    let there = (rw (← c.self.view_is) at c.known_descriptor.ensures) in
    rw c.with_flags-changed.ensures (flagged_host held.host c.args.fd
    (descriptor_flags_number c.args.flags) c.known_descriptor.result.now c.self.invariant there
    c.requires.few)
