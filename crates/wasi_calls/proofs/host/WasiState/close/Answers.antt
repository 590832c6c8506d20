use Rattle.std.specs.Prelude.{None, slice_set}
use Rattle.wasi_calls_rules.proofs.KeepsWasiStates.{file_state, with_file_state}
use Rattle.wasi_calls_rules.proofs.FileState.{closed_kept}
use Rattle.wasi_calls.specs.rules.Held.{held_host_of}
use Rattle.wasi_calls.proofs.host.WasiState.close.Goals as goal

pub invariant_of-self : goal.invariant_of-self
invariant_of-self c =
    let s = c.self.inside in
    let held = held_host_of s.config s.version s.tree s.descriptors.items s.unread.items
    s.input_ended s.last_monotonic s.streams in
    let h = held.host in
    let d = c.known_descriptor.result.now in
    let there = (rw (← c.self.view_is) at c.known_descriptor.ensures) in
    let stood = closed_kept h.files h.descriptors h.room c.args.fd d
    (file_state h c.self.invariant) there c.requires.not_root in
    rw (c.sweep.ensures, c.names-names.ensures, c.deref.ensures.value)
    (with_file_state h _ (slice_set h.descriptors c.args.fd None) c.self.invariant stood)
