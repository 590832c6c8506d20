use Rattle.std.proofs.Common.{rules}
use Rattle.command_words.proofs.LineLemmas.Fitting.{is_free}
use Rattle.command_words.proofs.lines.line.cut_newline.Goals as goal

pub returns-else-eq-clause-one_line : goal.returns-else-eq-clause-one_line
returns-else-eq-clause-one_line c = is_free c.args.line.now.items (search rules)
