use Rattle.std.proofs.Common.{◌++◌, length, take, Ok}
use Rattle.std.specs.List.{flat_map}
use Rattle.wasi_abi.specs.rules.Layouts.{u32_bytes, u64_bytes}
use Rattle.state_image.specs.rules.Sinks.{Pushes}
use Rattle.state_image.proofs.writing.numbers.push_words.Given as goal

abbrev pub invariant-loop-word : goal.invariant-loop-word
invariant-loop-word g l =
    Pushes g.S.Sink.takes l.fn.sink (u32_bytes (length l.words) ++ flat_map u64_bytes (take
    l.word-index l.words)) (Ok tt) l.sink
