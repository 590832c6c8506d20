use Rattle.wasi_calls.specs.rules.Held.{held_host_of}
use Rattle.wasi_calls.proofs.Emitted.{released_shows}
use Rattle.wasi_calls.proofs.host.WasiState.release.Goals as goal

pub returns-clause-shown : goal.returns-clause-shown
returns-clause-shown c =
    let i = c.self.inside in
    let old = held_host_of i.config i.version i.tree i.descriptors.items
    i.unread.items i.input_ended i.last_monotonic i.streams in
    let there = (rw (← c.self.view_is) at c.requires.there) in
    λ h s. rw c.release.ensures (released_shows c.args.count old h there
    (rw (← c.self.view_is) at s))
