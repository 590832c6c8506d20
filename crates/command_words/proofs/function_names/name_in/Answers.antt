use Rattle.command_words.proofs.FloatLemmas.{named_in}
use Rattle.command_words.proofs.function_names.name_in.Goals as goal

pub returns-in-Some : goal.returns-in-Some
returns-in-Some c =
    rw c.in-Some.is (named_in c.in-Some.module.now c.args.function c.name_of_function.result
    c.name_of_function.ensures)
