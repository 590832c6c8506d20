use Rattle.std.proofs.Common.{◌++◌, length, take, Ok}
use Rattle.std.specs.List.{flat_map}
use Rattle.wasi_abi.specs.rules.Layouts.{u32_bytes}
use Rattle.state_image.specs.rules.ProcessImage.{open_from, descriptor_bytes}
use Rattle.state_image.specs.rules.Sinks.{Pushes}
use Rattle.state_image.proofs.writing.descriptors.push_descriptors.Given as goal

abbrev pub invariant-loop-number : goal.invariant-loop-number
invariant-loop-number g l =
    let h = l.fn.host.host in
    Pushes g.S.Sink.takes l.fn.sink
    (u32_bytes (length (open_from 0 h.descriptors))
    ++ flat_map (descriptor_bytes h.files) (open_from 0 (take l.number h.descriptors))) (Ok tt)
    l.sink
