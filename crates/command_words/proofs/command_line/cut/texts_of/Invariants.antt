use Rattle.std.proofs.Common.{◌≡◌, map, take}
use Rattle.command_words.specs.rules.Texts.{texts_in}
use Rattle.command_words.proofs.command_line.cut.texts_of.Given as goal

-- the first words were taken
abbrev pub invariant-loop-word : goal.invariant-loop-word
invariant-loop-word g l =
    texts_in l.texts.items ≡ map g.S.AsStr.text (take l.word-index l.words)
