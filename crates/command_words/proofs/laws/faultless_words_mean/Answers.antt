use Rattle.command_words.proofs.WordLemmas.Lines.{faultless_words_mean}
use Rattle.command_words.proofs.laws.faultless_words_mean.Goals as goal

pub returns : goal.returns
returns c = faultless_words_mean
