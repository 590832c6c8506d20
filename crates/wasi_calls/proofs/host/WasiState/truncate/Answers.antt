use Rattle.std.proofs.Common.{[], arith}
use Rattle.wasi_calls.specs.rules.Held.{held_host_of}
use Rattle.wasi_calls_rules.proofs.NodesAfter.{rewritten_there}
use Rattle.wasi_calls.proofs.Files.{resized_host}
use Rattle.wasi_calls.proofs.host.WasiState.truncate.Goals as goal

pub invariant_of-self-2 : goal.invariant_of-self-2
invariant_of-self-2 c =
    let s = c.self.inside in
    let held = held_host_of s.config s.version s.tree s.descriptors.items s.unread.items
    s.input_ended s.last_monotonic s.streams in
    let within = c.self.invariant.within in
    rw c.in_ok-resize.ensures.resized
    (resized_host held.host c.args.node 0 c.self.invariant
    (rw (← c.self.view_is) at c.requires.there) (rw (← c.self.view_is) at c.requires.file)
    (omega arith) (omega (arith, within)))

pub returns-clause-there : goal.returns-clause-there
returns-clause-there c =
    rw c.in_ok-resize.ensures.resized
    (rewritten_there c.self.inside.tree c.args.node [] c.args.node
    (rw (← c.self.view_is) at c.requires.there))
