use Rattle.command_words.proofs.EntryLemmas.{says_equals}
use Rattle.command_words.proofs.entries.has_equals.Goals as goal

pub returns : goal.returns
returns c = says_equals c.args.text.now c.contains.result c.contains.ensures.value
