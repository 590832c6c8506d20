use Rattle.std.proofs.Common.{ap, ◌∙◌}
use Rattle.std.specs.Option.{unwrap_or}
use Rattle.std.specs.Str.Parse.{ParsesUnsigned, ExplainsUnsignedError, HasUnsignedDigitsIfOk}
use Rattle.clap.specs.Words.{found_of, rows_of}
use Rattle.command_words.proofs.WordLemmas.Meets.{number_is_read, number_or_is}
use Rattle.command_words.proofs.command_line.matches.number_or_else.Goals as goal

pub returns : goal.returns
returns c =
    let read = number_is_read 0 _ (λ text r. ParsesUnsigned 64 10 text r
    × ExplainsUnsignedError 10 text r × HasUnsignedDigitsIfOk text r)
    (found_of c.args.matches.now) c.args.name.now c.get_one.result (λ text r g. g.0)
    c.get_one.ensures.none c.get_one.ensures.value c.requires in
    c.unwrap_or.ensures ∙ ap (λ given. unwrap_or given c.args.other) read
    ∙ number_or_is c.args.name.now c.args.other (rows_of (found_of c.args.matches.now))
