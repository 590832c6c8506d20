use Rattle.wasi_calls.specs.rules.Held.{held_host_of}
use Rattle.wasi_calls.proofs.Renamings.{moved_host}
use Rattle.wasi_calls.proofs.host.WasiState.rename.Goals as goal

pub invariant_of-self : goal.invariant_of-self
invariant_of-self c =
    let s = c.self.inside in
    let held = held_host_of s.config s.version s.tree s.descriptors.items s.unread.items
    s.input_ended s.last_monotonic s.streams in
    rw c.rename.ensures
    (moved_host held.host c.args.node c.args.directory c.args.name c.self.invariant
    (rw (← c.self.view_is) at c.requires))
