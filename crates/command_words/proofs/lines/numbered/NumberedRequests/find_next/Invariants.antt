use Rattle.std.proofs.Common.{◌≡◌, [], Some}
use Rattle.command_words.specs.rules.Requests.{GiveUpTo}
use Rattle.command_words.proofs.lines.numbered.NumberedRequests.find_next.Given as goal

-- taken requests alone were read so far
abbrev pub invariant-loop-request : goal.invariant-loop-request
invariant-loop-request g l = (l.self.taken ≡ l.fn.self.taken)
    × (g.R.LineReader.has_failed l.self.reader ≡ g.R.LineReader.has_failed l.fn.self.reader)
    × (l.self.version ≡ l.fn.self.version)
    × GiveUpTo l.fn.limit l.fn.self.taken (g.R.LineReader.unread l.fn.self.reader) []
    (λ rest. g.R.LineReader.unread l.self.reader ≡ Some rest)

abbrev pub decreases-loop-request : goal.decreases-loop-request
decreases-loop-request g l = g.R.LineReader.pieces_left l.self.reader
