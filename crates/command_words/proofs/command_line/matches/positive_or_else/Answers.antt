use Rattle.std.proofs.Common.{◌≡◌, ap, ◌∙◌, arith}
use Rattle.std.specs.Option.{unwrap_or}
use Rattle.std.specs.Str.Parse.{ParsesUnsigned, ExplainsUnsignedError, HasUnsignedDigitsIfOk}
use Rattle.clap.specs.Words.{found_of, rows_of}
use Rattle.command_words.specs.rules.Commands.{number_or}
use Rattle.command_words.proofs.WordLemmas.Meets.{number_is_positive, number_is_read, number_or_is}
use Rattle.command_words.proofs.command_line.matches.positive_or_else.Goals as goal

pub unreachable-requires : goal.unreachable-requires
unreachable-requires c =
    let read = number_is_read 1 _ (λ text r. ParsesUnsigned 64 10 text r
    × ExplainsUnsignedError 10 text r × HasUnsignedDigitsIfOk text r)
    (found_of c.args.matches.now) c.args.name.now c.get_one.result (λ text r g. g.0)
    c.get_one.ensures.none c.get_one.ensures.value c.requires.from_one in
    let same : c.unwrap_or-given.result
    ≡ number_or c.args.name.now c.args.other (rows_of (found_of c.args.matches.now)) =
    c.unwrap_or-given.ensures ∙ ap (λ given. unwrap_or given c.args.other) read
    ∙ number_or_is c.args.name.now c.args.other (rows_of (found_of c.args.matches.now)) in
    let positive = number_is_positive c.args.name.now c.args.other
    (rows_of (found_of c.args.matches.now)) c.requires.from_one c.requires.positive in
    absurd (omega (arith, same, positive, c.in_default.ensures))

pub returns : goal.returns
returns c =
    let read = number_is_read 1 _ (λ text r. ParsesUnsigned 64 10 text r
    × ExplainsUnsignedError 10 text r × HasUnsignedDigitsIfOk text r)
    (found_of c.args.matches.now) c.args.name.now c.get_one.result (λ text r g. g.0)
    c.get_one.ensures.none c.get_one.ensures.value c.requires.from_one in
    c.in-Some.ensures ∙ c.unwrap_or-given.ensures
    ∙ ap (λ given. unwrap_or given c.args.other) read
    ∙ number_or_is c.args.name.now c.args.other (rows_of (found_of c.args.matches.now))
