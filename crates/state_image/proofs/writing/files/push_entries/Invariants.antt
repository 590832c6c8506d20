use Rattle.std.proofs.Common.{◌++◌, length, take, Ok}
use Rattle.std.specs.List.{flat_map}
use Rattle.wasi_abi.specs.rules.Layouts.{u32_bytes}
use Rattle.file_tree.specs.rules.Files.{entries_of}
use Rattle.state_image.specs.rules.ProcessImage.{entry_bytes}
use Rattle.state_image.specs.rules.Sinks.{Pushes}
use Rattle.state_image.proofs.writing.files.push_entries.Given as goal

abbrev pub invariant-loop-place : goal.invariant-loop-place
invariant-loop-place g l =
    let entries = entries_of l.fn.tree l.fn.directory in
    Pushes g.S.Sink.takes l.fn.sink
    (u32_bytes (length entries) ++ flat_map entry_bytes (take l.place entries)) (Ok tt) l.sink
