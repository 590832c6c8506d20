use Rattle.story_commands.proofs.ScriptLemmas.ReadBack.{answers_are_read_back}
use Rattle.story_commands.proofs.laws.answers_are_read_back.Goals as goal

pub returns : goal.returns
returns c = answers_are_read_back
