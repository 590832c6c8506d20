use Rattle.std.proofs.Common.{◌≡◌, ◌++◌, take}
use Rattle.command_words.specs.rules.Texts.{texts_in}
use Rattle.command_words.proofs.configuring.push_texts.Given as goal

-- the first texts were copied
abbrev pub invariant-loop-text : goal.invariant-loop-text
invariant-loop-text l = l.list ≡ l.fn.list ++ texts_in (take l.text-index l.texts)
