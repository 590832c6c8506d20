use Rattle.std.specs.Option.{option_map}
use Rattle.state_image.proofs.TextReads.{counted_text}
use Rattle.state_image.proofs.reading.cursor.ProcessImageReader.long_text.Goals as goal

pub returns : goal.returns
returns c =
    counted_text 8 c.in_ok-length.length c.args.self.now c.u64.new.self c.bytes.new.self
    (option_map (λ text. text.now) c.bytes.result) c.in_ok-length.ensures c.bytes.ensures
