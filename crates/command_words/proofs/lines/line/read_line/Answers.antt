use Rattle.std.proofs.Common.{[], rules}
use Rattle.std.proofs.BufReadLemmas.{IsAtEnd-of_take_through}
use Rattle.command_words.proofs.LineLemmas.Refusals.{some_bytes}
use Rattle.command_words.proofs.lines.line.read_line.Goals as goal

pub returns-clause-end : goal.returns-clause-end
returns-clause-end g c = λ none. IsAtEnd-of_take_through 10
    (g.R.LineReader.unread c.args.reader.now) [] c.read_through.new.line.items
    c.in_ok-read_through.ensures.bytes (search rules)

pub returns-clause-some : goal.returns-clause-some
returns-clause-some g c = λ there. some_bytes (g.R.LineReader.unread c.args.reader.now)
    c.read_through.new.line.items c.in_ok-read_through.ensures.bytes (search rules)
