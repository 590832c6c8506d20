use Rattle.wasi_calls.specs.rules.Held.{held_host_of}
use Rattle.wasi_calls.proofs.Files.{resized_host}
use Rattle.wasi_calls.proofs.host.WasiState.resize.Goals as goal

pub invariant_of-self-2 : goal.invariant_of-self-2
invariant_of-self-2 c =
    let s = c.self.inside in
    let held = held_host_of s.config s.version s.tree s.descriptors.items s.unread.items
    s.input_ended s.last_monotonic s.streams in
    rw c.in_ok-resize.ensures.resized
    (resized_host held.host c.args.node c.args.size c.self.invariant
    (rw (← c.self.view_is) at c.requires.there) (rw (← c.self.view_is) at c.requires.file)
    c.requires.limit (rw (← c.self.view_is) at c.requires.room))
