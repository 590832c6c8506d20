use Rattle.std.proofs.Common.{None, Some, ap, ◌∙◌}
use Rattle.std.proofs.lemmas.Result.{IfOk-weaker}
use Rattle.clap.specs.Words.{found_of}
use Rattle.command_words.specs.rules.Texts.{texts_in}
use Rattle.command_words.proofs.WordLemmas.Meets.{entries_are_read}
use Rattle.command_words.proofs.command_line.matches.environment_of.Goals as goal

pub returns-in-Some : goal.returns-in-Some
returns-in-Some c = IfOk-weaker c.from_slice.result _ _ (λ texts is. ap texts_in is
    ∙ entries_are_read (found_of c.args.matches.now) (Some (texts_in c.in-Some.entries.now))
    c.in-Some.ensures) c.from_slice.ensures.items

pub returns-in-None : goal.returns-in-None
returns-in-None c = ap texts_in c.new.ensures.items
    ∙ entries_are_read (found_of c.args.matches.now) None c.in-None.ensures
