use Rattle.std.proofs.Common.{◌*◌, take, Ok}
use Rattle.file_tree.specs.rules.Files.{bytes_of_node}
use Rattle.state_image.specs.rules.Sinks.{Pushes}
use Rattle.state_image.proofs.writing.files.push_chunks.Given as goal

abbrev pub invariant-loop-index : goal.invariant-loop-index
invariant-loop-index g l =
    Pushes g.S.Sink.takes l.fn.sink (take (l.index * 4096) (bytes_of_node l.fn.tree l.fn.number))
    (Ok tt) l.sink
