use Rattle.std.proofs.Common.{◌++◌, length, take, Ok}
use Rattle.std.specs.List.{flat_map}
use Rattle.wasi_abi.specs.rules.Layouts.{u32_bytes}
use Rattle.state_image.specs.rules.ProcessImage.{node_bytes}
use Rattle.state_image.specs.rules.Sinks.{Pushes}
use Rattle.state_image.proofs.writing.files.push_nodes.Given as goal

abbrev pub invariant-loop-place : goal.invariant-loop-place
invariant-loop-place g l =
    let fs = l.fn.tree in
    Pushes g.S.Sink.takes l.fn.sink
    (u32_bytes (length fs.nodes) ++ flat_map (node_bytes fs) (take l.place fs.nodes)) (Ok tt)
    l.sink
