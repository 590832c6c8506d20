-- What a source hands over.
use Rattle.std.specs.Prelude.{◌≡◌, ℕ, ◌+◌, ◌<◌, ◌≤◌, ◌^◌, ⊤, Bool, List, [], ◌∷◌, length, Option}
use Rattle.std.specs.Prelude.{Some, None, Result, Ok, Err}
use Rattle.std.specs.Option.{IsSomeAnd}
use Rattle.wasi_abi.specs.declared.answer.Answer.{Answer}
use Rattle.wasi_abi.specs.declared.answer.Question.{Question}
use Rattle.wasi_abi.specs.declared.answer.Question.TheVariants as questions
use Rattle.wasi_abi.specs.rules.Answers.{Fits}
use Rattle.process_rules.specs.Runs.{Kept, Given}
use Rattle.record_replay.specs.declared.fault.SourceFault.{SourceFault}
use Rattle.command_words.specs.declared.lines.fault.LineFault.{LineFault}
use Rattle.command_words.specs.declared.lines.fault.LineFault.TheVariants as fault
use Rattle.command_words.specs.declared.lines.outside.Outside.{Outside}
use Rattle.command_words.specs.rules.Requests.{GiveUpTo, BeginsWithOther, BeginsWithNumber}
use Rattle.command_words.specs.rules.Outside.{ComesFrom, request_in, words_in}
use Rattle.command_words.specs.rules.Seeds.{words_for}
use Rattle.command_words.specs.Lines.Reads.{AreSome, IsFaultOfReading}

-- The answer is that of the next request, which is taken. Its text has so many bytes at most.
pub record IsNext (limit taken : ℕ) (old : Option (List ℕ)) (a : Answer) (taken' : ℕ)
    (new : Option (List ℕ)) : Type 0 where
  pub given : GiveUpTo limit taken old (Given a ∷ []) (λ rest. new ≡ Some rest)
  pub fits : Fits limit questions.Request a
  pub counted : taken' ≡ taken + 1
  pub few : taken' < 2 ^ 63

-- the next request, or none where the lines have come to their end
abbrev pub FindsNext : ℕ → ℕ → Option (List ℕ) → Option Answer → ℕ → Option (List ℕ) → Type 0
FindsNext limit taken old (Some a) taken' new = IsNext limit taken old a taken' new
FindsNext limit taken old None taken' new = (taken' ≡ taken)
    × GiveUpTo limit taken old [] (λ rest. (rest ≡ []) × (new ≡ Some rest))

-- Why no answer comes after these answers. The next line is of a later request than the wanted one;
-- or it is no request line; the reader has failed; or memory is wanting.
abbrev pub MissesNext : ℕ → ℕ → Option (List ℕ) → List Kept → Bool → Bool → LineFault → Type 0
MissesNext limit before lines kept failed failed' (fault.Number given wanted) =
    (wanted ≡ before + length kept + 1) × (wanted < given)
    × GiveUpTo limit before lines kept (BeginsWithNumber limit given) × (failed' ≡ failed)
MissesNext limit before lines kept failed failed' why =
    IsFaultOfReading (GiveUpTo limit before lines kept (BeginsWithOther limit))
    (GiveUpTo limit before lines kept AreSome) failed failed' why

-- ---- all that is asked for

-- Where a source is: how many bytes the text of a request may have, which stream of the seed it
-- takes words of, how many requests and how many words it took, the bytes that are still to come,
-- whether a read of them has failed, and why it refuses, if it does.
pub record SourceState : Type 0 where
  pub outside : Outside
  pub limit : ℕ
  pub stream : ℕ
  pub taken : ℕ
  pub place : ℕ
  pub unread : Option (List ℕ)
  pub failed : Bool
  pub fault : Option LineFault

abbrev pub source_state : Outside → ℕ → ℕ → ℕ → ℕ → Option (List ℕ) → Bool → Option LineFault
    → SourceState
source_state outside limit stream taken place unread failed fault = record {
  outside = outside;
  limit = limit;
  stream = stream;
  taken = taken;
  place = place;
  unread = unread;
  failed = failed;
  fault = fault;
}

-- the machine's clock can't be read, and no time is fixed
abbrev pub IsClockless : Outside → LineFault → Type 0
IsClockless outside fault.Clock = outside.clock ≡ None
IsClockless outside why = ⊥

-- there is no room for so many bytes, or their words can't be counted
abbrev pub IsWordless : ℕ → ℕ → LineFault → Type 0
IsWordless place n fault.Memory = ⊤
IsWordless place n fault.Words = 2 ^ 64 ≤ place + words_for n
IsWordless place n why = ⊥

-- Why a question is refused by a source that was there, and has given these requests since, and
-- words up to this place: the next request isn't to be had, or there is no clock, or there are no
-- random bytes.
abbrev pub IsRefusedFor : Question → SourceState → (place : ℕ) → List Kept → Bool → LineFault
    → Type 0
IsRefusedFor questions.Request old place requests failed' why =
    MissesNext old.limit old.taken old.unread requests old.failed failed' why
IsRefusedFor questions.Realtime old place requests failed' why =
    IsClockless old.outside why × (failed' ≡ old.failed)
IsRefusedFor questions.Monotonic old place requests failed' why =
    IsClockless old.outside why × (failed' ≡ old.failed)
IsRefusedFor (questions.Random n) old place requests failed' why =
    IsWordless place n why × (failed' ≡ old.failed)

-- why one that is there refuses
abbrev pub IsRefusedAt : Question → SourceState → Bool → LineFault → Type 0
IsRefusedAt question old failed' why = IsRefusedFor question old old.place [] failed' why

-- the first fault stays, and where there was none there is one now
abbrev pub LeavesFault : Question → SourceState → SourceState → Option LineFault → Type 0
LeavesFault question old new (Some first) = (new.fault ≡ Some first) × (new.failed ≡ old.failed)
LeavesFault question old new None = IsSomeAnd new.fault (IsRefusedAt question old new.failed)

-- An answer that no request line gives. It fits, and takes its words of the seed.
pub record TakesOther (question : Question) (old : SourceState) (a : Answer) (new : SourceState)
    : Type 0 where
  pub comes : ComesFrom old.outside old.stream old.place a
  pub other : request_in a ≡ []
  pub fits : (limit : ℕ) → Fits limit question a
  pub place : new.place ≡ old.place + words_in a
  pub taken : new.taken ≡ old.taken
  pub unread : new.unread ≡ old.unread

-- Requests are answered one by one, in the order of their numbers. There is always an answer to
-- another question.
abbrev pub Finds : Question → SourceState → Option Answer → SourceState → Type 0
Finds questions.Request old found new =
    (new.place ≡ old.place) × FindsNext old.limit old.taken old.unread found new.taken new.unread
Finds question old (Some a) new = TakesOther question old a new
Finds question old None new = ⊥

pub record HandsAnswer (question : Question) (old : SourceState) (answered : Option Answer)
    (new : SourceState) : Type 0 where
  pub same : new.outside ≡ old.outside
  pub same_limit : new.limit ≡ old.limit
  pub same_stream : new.stream ≡ old.stream
  pub unfailed : old.fault ≡ None
  pub unspoilt : new.fault ≡ None
  pub steady : new.failed ≡ old.failed
  pub finds : Finds question old answered new

-- A refusal takes nothing, and leaves its fault. Then all is refused.
abbrev pub HandsNext : Question → SourceState → Result (Option Answer) SourceFault
    → SourceState → Type 0
HandsNext question old (Ok answered) new = HandsAnswer question old answered new
HandsNext question old (Err e) new = (new.outside ≡ old.outside) × (new.stream ≡ old.stream)
    × (new.taken ≡ old.taken) × (new.place ≡ old.place) × (new.limit ≡ old.limit)
    × LeavesFault question old new old.fault
