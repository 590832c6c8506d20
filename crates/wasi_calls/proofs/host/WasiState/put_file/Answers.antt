use Rattle.std.proofs.Common.{◌+◌, ◌≤◌, length, arith}
use Rattle.file_tree.specs.rules.Bytes.{written}
use Rattle.file_tree.specs.rules.Files.{bytes_of_node}
use Rattle.file_tree.proofs.Sizes.{length-written, small_written}
use Rattle.wasi_abi.specs.rules.Answers.{AreBytes}
use Rattle.wasi_calls_rules.specs.Checks.{gathered}
use Rattle.wasi_calls_rules.proofs.KeepsWasiStates.{small_file}
use Rattle.wasi_calls_rules.proofs.CallRuleChanges.{gathered_bytes}
use Rattle.wasi_calls.specs.rules.Held.{held_host_of}
use Rattle.wasi_calls.proofs.Files.{rewritten_host}
use Rattle.wasi_calls.proofs.Fronts.{length_gathered}
use Rattle.wasi_calls.proofs.WrittenFiles.{own_bytes}
use Rattle.wasi_calls.proofs.host.WasiState.put_file.Goals as goal

pub put_pieces-requires-clause-own : goal.put_pieces-requires-clause-own
put_pieces-requires-clause-own c =
    own_bytes c.self.inside.tree c.args.node c.self.invariant.files
    (rw (← c.self.view_is) at c.requires.file)

pub put_pieces-requires-clause-small : goal.put_pieces-requires-clause-small
put_pieces-requires-clause-small c =
    (small_file c.self.inside.tree c.args.node c.self.invariant.files).0

pub invariant_of-self : goal.invariant_of-self
invariant_of-self c =
    let s = c.self.inside in
    let h = (held_host_of s.config s.version s.tree s.descriptors.items s.unread.items
    s.input_ended s.last_monotonic s.streams).host in
    let m = c.args.memory.now.bytes in
    let old = bytes_of_node s.tree c.args.node in
    let bytes = gathered m c.args.buffers.now in
    let low : AreBytes m = rw c.bytes.ensures at c.are_bytes.ensures in
    let small = small_file s.tree c.args.node c.self.invariant.files in
    let len = length_gathered m c.args.buffers.now c.requires.inside in
    let within : c.args.from + length bytes ≤ length old =
    omega (arith, len, (rw (← c.self.view_is) at c.requires.within)) in
    let made = small_written old c.args.from bytes small (gathered_bytes m c.args.buffers.now low)
    (omega (arith, within, small.0)) in
    let size = length-written old c.args.from bytes in
    let used = c.self.invariant.within in
    rw c.put_pieces.ensures
    (rewritten_host h c.args.node (written old c.args.from bytes) c.self.invariant
    (rw (← c.self.view_is) at c.requires.there) (rw (← c.self.view_is) at c.requires.file)
    made.0 made.1 (omega (arith, size, within, used)))
