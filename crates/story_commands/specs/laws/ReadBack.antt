-- What a script says of an answer is read as that answer (this project's own).
use Rattle.std.specs.Prelude.{◌≡◌, Some, ⊤}
use Rattle.wasi_abi.specs.declared.answer.Answer.{Answer}
use Rattle.wasi_abi.specs.declared.answer.Answer.TheVariants as answer
use Rattle.wasi_abi.specs.rules.Answers.{AreBytes, IsTime}
use Rattle.command_words.specs.rules.Records.{answer_words}
use Rattle.story_commands.specs.declared.stories.line.ScriptLine.TheVariants as said
use Rattle.story_commands.specs.rules.Scripts.{said_by}

-- a time has 64 bits, and random bytes are bytes
abbrev pub IsSayable : Answer → Type 0
IsSayable (answer.Realtime n) = IsTime n
IsSayable (answer.Monotonic n) = IsTime n
IsSayable (answer.Random bytes) = AreBytes bytes
IsSayable other = ⊤

-- so it is with each such answer
abbrev pub AnswersAreReadBack : Type 0
AnswersAreReadBack =
    (a : Answer) → IsSayable a → said_by (answer_words a) ≡ Some (said.Answer a)
