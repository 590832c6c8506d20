use Rattle.state_image.proofs.PartReads.{no_first, no_second, after_unread, after_first}
use Rattle.state_image.proofs.reading.progress.read_streams.Goals as goal

pub returns-in_err-first : goal.returns-in_err-first
returns-in_err-first c =
    rw c.from_residual-in_err-first.ensures
    (after_unread c.in_ok-unread.ensures (no_first c.in_err-first.ensures))

pub returns-in_err-second : goal.returns-in_err-second
returns-in_err-second c =
    rw c.from_residual-in_err-second.ensures
    (after_unread c.in_ok-unread.ensures (after_first c.in_ok-first.ensures
    (no_second c.in_err-second.ensures)))
