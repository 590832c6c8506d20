use Rattle.std.proofs.Common.{◌≡◌, ◌≢◌, ◌≤◌, All, vec_items}
use Rattle.std.specs.Io.KnownBytes.{Consumes}
use Rattle.command_words.proofs.lines.line.read_through.Given as goal

abbrev pub invariant-loop-is_done : goal.invariant-loop-is_done
invariant-loop-is_done g l = All (λ x. x ≢ 10) (vec_items l.line)
    × Consumes (g.R.LineReader.unread l.fn.reader) (g.R.LineReader.unread l.reader)
    (vec_items l.line)
    × (g.R.LineReader.has_failed l.reader ≡ g.R.LineReader.has_failed l.fn.reader)
    × (g.R.LineReader.pieces_left l.reader ≤ g.R.LineReader.pieces_left l.fn.reader)

abbrev pub decreases-loop-is_done : goal.decreases-loop-is_done
decreases-loop-is_done g l = g.R.LineReader.pieces_left l.reader
