use Rattle.file_tree.specs.rules.Files.{bytes_of_node}
use Rattle.wasi_calls_rules.proofs.KeepsWasiStates.{small_file, read_offset}
use Rattle.wasi_calls.specs.Moves.{total_len}
use Rattle.wasi_calls.proofs.host.WasiState.read_file.Goals as goal

pub read_pieces-requires-clause-small : goal.read_pieces-requires-clause-small
read_pieces-requires-clause-small c =
    (small_file c.self.inside.tree c.args.node c.self.invariant.files).0

pub returns-clause-end : goal.returns-clause-end
returns-clause-end c = λ low.
    rw c.read_pieces.ensures.count
    (read_offset (bytes_of_node c.self.inside.tree c.args.node) c.args.from
    (total_len c.args.buffers.now)
    (small_file c.self.inside.tree c.args.node c.self.invariant.files).0 low)
