use Rattle.std.proofs.Common.{arith}
use Rattle.wasi_calls.specs.rules.Held.{held_host_of}
use Rattle.wasi_calls.proofs.Openings.{free_within, opened_host}
use Rattle.wasi_calls.proofs.host.WasiState.open.Goals as goal

pub index_mut-requires : goal.index_mut-requires
index_mut-requires c =
    let s = c.self.inside in
    let held = held_host_of s.config s.version s.tree s.descriptors.items s.unread.items
    s.input_ended s.last_monotonic s.streams in
    let within = free_within held.host c.args.number
    (rw (← c.self.view_is) at c.requires.free) in
    omega (arith, within, s.descriptors.ok.0)

pub invariant_of-self : goal.invariant_of-self
invariant_of-self c =
    let s = c.self.inside in
    let held = held_host_of s.config s.version s.tree s.descriptors.items s.unread.items
    s.input_ended s.last_monotonic s.streams in
    opened_host held.host c.args.number c.args.descriptor c.self.invariant
    (rw (← c.self.view_is) at c.requires.free) c.requires.node
    (rw (← c.self.view_is) at c.requires.is)
