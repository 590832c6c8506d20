use Rattle.command_words.proofs.VerdictLemmas.{AreOfferedBefore}
use Rattle.command_words.proofs.verdicts.imports.first_refused.Given as goal

abbrev pub invariant-loop-import : goal.invariant-loop-import
invariant-loop-import l = AreOfferedBefore l.module.types l.module.imports l.import-index
