use Rattle.std.proofs.Common.{◌≡◌}
use Rattle.wasi_abi.specs.rules.Answers.{AreBytes}
use Rattle.wasi_calls_rules.specs.Checks.{gathered}
use Rattle.wasi_calls_rules.proofs.CallRuleChanges.{gathered_bytes}
use Rattle.wasi_calls.specs.rules.Outputs.{output_written}
use Rattle.wasi_calls.specs.rules.Held.{held_host_of}
use Rattle.wasi_calls.proofs.WasiStates.{with_lines, written_short}
use Rattle.wasi_calls.proofs.host.WasiState.write.Goals as goal

pub invariant_of-self-2 : goal.invariant_of-self-2
invariant_of-self-2 c =
    let s = c.self.inside in
    let old = (held_host_of s.config s.version s.tree s.descriptors.items
    s.unread.items s.input_ended s.last_monotonic s.streams).host in
    let m = c.args.memory.now.bytes in
    let bytes = gathered m c.args.buffers.now in
    let is : c.write.new.self ≡ output_written c.args.stream bytes s.streams =
    c.in_ok-write.ensures.written in
    let low : AreBytes m = rw c.bytes.ensures at c.are_bytes.ensures in
    let short = written_short c.args.stream bytes s.streams
    (gathered_bytes m c.args.buffers.now low) c.self.invariant.first c.self.invariant.second in
    with_lines old c.write.new.self.first c.write.new.self.second c.write.new.self.waiting
    c.self.invariant (rw is short.0) (rw is short.1)
