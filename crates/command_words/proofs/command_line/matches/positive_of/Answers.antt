use Rattle.std.specs.Str.Parse.{ParsesUnsigned, ExplainsUnsignedError, HasUnsignedDigitsIfOk}
use Rattle.clap.specs.Words.{found_of}
use Rattle.command_words.proofs.WordLemmas.Meets.{number_is_read}
use Rattle.command_words.proofs.command_line.matches.positive_of.Goals as goal

pub returns : goal.returns
returns c =
    number_is_read 1 _ (λ text r. ParsesUnsigned 64 10 text r × ExplainsUnsignedError 10 text r
    × HasUnsignedDigitsIfOk text r) (found_of c.args.matches.now) c.args.name.now c.get_one.result
    (λ text r g. g.0) c.get_one.ensures.none c.get_one.ensures.value c.requires
