use Rattle.wasi_calls.specs.rules.Held.{held_host_of}
use Rattle.wasi_calls.proofs.Entries.{made_or_same}
use Rattle.wasi_calls.proofs.host.WasiState.create.Goals as goal

pub invariant_of-self : goal.invariant_of-self
invariant_of-self c =
    let s = c.self.inside in
    let held = held_host_of s.config s.version s.tree s.descriptors.items s.unread.items
    s.input_ended s.last_monotonic s.streams in
    made_or_same c.create.result held.host c.create.new.self c.args.directory c.args.name.now
    c.args.node_type c.self.invariant (rw (← c.self.view_is) at c.requires.free)
    (rw (← c.self.view_is) at c.requires.room) c.create.ensures.created c.create.ensures.unchanged
