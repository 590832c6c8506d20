use Rattle.std.proofs.Common.{rules}
use Rattle.std.proofs.lemmas.List.{take_rest}
use Rattle.command_words.proofs.SeparatorLemmas.{split_none, split_first}
use Rattle.command_words.proofs.pieces.split_once.Goals as goal

pub returns-in-Some : goal.returns-in-Some
returns-in-Some c =
    let found = split_first c.args.separator c.args.bytes.now c.in-Some.i (search rules)
    (search rules) (search rules) in
    record { before = rw found; after = rw (found, take_rest) }

pub returns-in-None : goal.returns-in-None
returns-in-None c =
    let none = split_none c.args.separator c.args.bytes.now (search rules) in
    record { before = rw none; after = rw none }
