-- Which answers a worker on a disk is given in a life: those of its reader's lines, in order, and
-- the times and random bytes of the outside (this project's own).
use Rattle.std.specs.Prelude.{◌≡◌, ◌+◌, ⊤, List, [], ◌∷◌, ◌++◌, length, None, Ok}
use Rattle.wasi_abi.specs.declared.answer.Question.{Question}
use Rattle.wasi_abi.specs.declared.answer.Question.TheVariants as questions
use Rattle.process_rules.specs.Runs.{Kept}
use Rattle.record_replay.specs.rules.Calls.{Ask, AnswersInOrder}
use Rattle.record_replay.specs.rules.Slices.{handed}
use Rattle.command_words.specs.Lines.Answers.{SourceState}
use Rattle.command_words.specs.rules.Outside.{ComeFrom, requests_in, words_of}
use Rattle.command_words.specs.rules.Requests.{GiveUpTo}
use Rattle.disk_commands.specs.rules.ServedOnDisk.{handing}

-- A source that stood here has given these answers, and is there. The requests among them are
-- those that its lines spell after the requests it had taken, in order and none left out. The
-- others are times and the next random bytes of its stream. Both are counted.
pub record AreOfLines (old : SourceState) (kept : List Kept) (new : SourceState) : Type 0 where
  pub requests : GiveUpTo old.limit old.taken old.unread (requests_in kept) (λ _. ⊤)
  pub others : ComeFrom old.outside old.stream old.place kept
  pub taken : new.taken ≡ old.taken + length (requests_in kept)
  pub drawn : new.place ≡ old.place + words_of kept

-- Whatever a source of the program was asked, all its answers are such.
abbrev pub AnswersComeFromTheLines : Type 0
AnswersComeFromTheLines = (asks : List Ask) (source source' : SourceState)
    → AnswersInOrder handing source asks source' → AreOfLines source (handed asks) source'

-- Whatever it was asked: a question to which there was no answer yet was one for a request. The
-- lines had come to their end after the requests that were answered before it.
abbrev pub NoneIsLeftAtTheEnd : Type 0
NoneIsLeftAtTheEnd = (front back : List Ask) (question : Question) (source source' : SourceState)
    → AnswersInOrder handing source
    (front ++ (record { question = question; said = Ok None } ∷ back)) source'
    → (question ≡ questions.Request)
    × GiveUpTo source.limit source.taken source.unread (requests_in (handed front))
    (λ rest. rest ≡ [])
