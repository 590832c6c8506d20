use Rattle.std.specs.Option.{option_map}
use Rattle.state_image.proofs.TextReads.{counted_text}
use Rattle.state_image.proofs.reading.cursor.ProcessImageReader.text.Goals as goal

pub returns : goal.returns
returns c =
    counted_text 4 c.in_ok-length.length c.args.self.now c.u32.new.self c.bytes.new.self
    (option_map (λ text. text.now) c.bytes.result) c.in_ok-length.ensures c.bytes.ensures
