use Rattle.std.specs.Option.{option_map}
use Rattle.state_image.proofs.TextReads.{counted_pages}
use Rattle.state_image.proofs.reading.machine_state.read_memory.Goals as goal

pub returns : goal.returns
returns c =
    counted_pages c.in_ok-pages.pages c.args.reader.now c.u32.new.self c.bytes.new.self
    (option_map (λ memory. memory.now) c.bytes.result) c.in_ok-pages.ensures c.bytes.ensures
