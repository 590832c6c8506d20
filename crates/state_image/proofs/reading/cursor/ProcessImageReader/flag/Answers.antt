use Rattle.std.proofs.Common.{arith}
use Rattle.state_image.proofs.TextReads.{no_flag}
use Rattle.state_image.proofs.reading.cursor.ProcessImageReader.flag.Goals as goal

pub returns-in_default : goal.returns-in_default
returns-in_default c =
    no_flag c.in_ok-u8.field-0 c.in_ok-u8.ensures (λ e. absurd (omega (arith, e)))
    (λ e. absurd (omega (arith, e)))
