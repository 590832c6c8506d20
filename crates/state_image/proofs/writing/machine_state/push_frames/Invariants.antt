use Rattle.std.proofs.Common.{◌++◌, length, reverse, take, Ok}
use Rattle.std.specs.List.{flat_map}
use Rattle.wasi_abi.specs.rules.Layouts.{u32_bytes}
use Rattle.state_image.specs.rules.ProcessImage.{place_bytes}
use Rattle.state_image.specs.rules.Sinks.{Pushes}
use Rattle.state_image.proofs.writing.machine_state.push_frames.Given as goal

abbrev pub invariant-loop-index : goal.invariant-loop-index
invariant-loop-index g l =
    let frames = reverse l.fn.machine.state.frames in
    Pushes g.S.Sink.takes l.fn.sink
    (u32_bytes (length frames) ++ flat_map place_bytes (take l.index frames)) (Ok tt) l.sink
