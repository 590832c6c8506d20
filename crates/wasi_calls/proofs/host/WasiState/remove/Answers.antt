use Rattle.wasi_calls.specs.rules.Held.{held_host_of}
use Rattle.wasi_calls.proofs.Entries.{can_lose, lost_host}
use Rattle.wasi_calls.proofs.host.WasiState.remove.Goals as goal

pub remove-requires : goal.remove-requires
remove-requires c =
    let s = c.self.inside in
    let held = held_host_of s.config s.version s.tree s.descriptors.items s.unread.items
    s.input_ended s.last_monotonic s.streams in
    let there = (rw (← c.self.view_is) at c.requires.there) in
    can_lose held.host there.0 c.args.node there.1 c.self.invariant there.2
    (rw (← c.self.view_is) at c.requires.empty)

pub invariant_of-self : goal.invariant_of-self
invariant_of-self c =
    let s = c.self.inside in
    let held = held_host_of s.config s.version s.tree s.descriptors.items s.unread.items
    s.input_ended s.last_monotonic s.streams in
    let there = (rw (← c.self.view_is) at c.requires.there) in
    rw (c.sweep.ensures, c.remove.ensures, c.deref.ensures.value)
    (lost_host held.host there.0 c.args.node there.1 c.self.invariant there.2
    (rw (← c.self.view_is) at c.requires.empty))
