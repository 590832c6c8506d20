use Rattle.std.proofs.Common.{sym, subst}
use Rattle.std.specs.Option.{option_map}
use Rattle.wasi_abi.specs.rules.Layouts.{u16_bytes}
use Rattle.state_image.specs.rules.Ranges.{IsIn}
use Rattle.state_image.specs.rules.Reading.{HasField}
use Rattle.state_image.proofs.TextReads.{counted_text}
use Rattle.state_image.proofs.reading.cursor.ProcessImageReader.short_text.Goals as goal

pub returns : goal.returns
returns c =
    counted_text 2 c.from.result c.args.self.now c.u16.new.self c.bytes.new.self
    (option_map (λ text. text.now) c.bytes.result)
    (subst (λ k. HasField u16_bytes (IsIn 2) k c.args.self.now c.u16.new.self)
    (sym c.from.ensures) c.in_ok-length.ensures) c.bytes.ensures
