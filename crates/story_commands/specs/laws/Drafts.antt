-- Lives that are read line by line.
use Rattle.std.specs.Prelude.{◌≡◌, ℕ, ◌≤◌, ◌-◌, ◌==◌, Bool, true, false, List, [], ◌∷◌, ◌++◌}
use Rattle.std.specs.Prelude.{length, take, if◌then◌else◌, Option, Some, None, is_none, option_map}
use Rattle.std.specs.Prelude.{option_and_then, slice_get}
use Rattle.std.specs.List.{All}
use Rattle.worker.specs.declared.story.life.PlannedLife.{PlannedLife}
use Rattle.story_commands.specs.declared.stories.draft.StoryDraft.{StoryDraft}
use Rattle.story_commands.specs.declared.stories.line.ScriptLine.{ScriptLine}
use Rattle.story_commands.specs.declared.stories.line.ScriptLine.TheVariants as said
use Rattle.story_commands.specs.declared.stories.fault.LineCause.{LineCause}
use Rattle.story_commands.specs.declared.stories.fault.ScriptFault.{ScriptFault}
use Rattle.story_commands.specs.declared.stories.fault.ScriptFault.TheVariants as fault
use Rattle.story_commands.specs.rules.Scripts.{line_cause, said_by, second_cause}
use Rattle.story_commands.specs.rules.Sweeps.{IsCalm, swept_cause}

-- a life into which nothing is put
abbrev pub empty_life : PlannedLife
empty_life = record {
  answers = [];
  acts = [];
  stop = None;
  fail = None;
  refuse = None;
  tears = [];
}

-- no life is begun
abbrev pub draft_start : StoryDraft
draft_start = record { lives = []; life = empty_life; is_begun = false }

-- the lives so far, the one that is begun last
abbrev pub lives_so_far : StoryDraft → List PlannedLife
lives_so_far draft = if draft.is_begun then draft.lives ++ draft.life ∷ [] else draft.lives

-- no life is begun after those so far
abbrev pub ended : StoryDraft → StoryDraft
ended draft = record { lives = lives_so_far draft; life = empty_life; is_begun = false }

-- nothing befalls the lives so far
pub record IsCalmDraft (draft : StoryDraft) : Type 0 where
  pub lives : All IsCalm draft.lives
  pub life : IsCalm draft.life

-- a life with one line more, if that may be there
abbrev pub put_in : ScriptLine → PlannedLife → Option PlannedLife
put_in said.Life life = None
put_in (said.Answer answer) life =
    Some (record life { answers = life.answers ++ answer ∷ [] })
put_in (said.Act act) life = Some (record life { acts = life.acts ++ act ∷ [] })
put_in (said.Stop point) life =
    if is_none life.stop then Some (record life { stop = Some point }) else None
put_in (said.Fail point) life =
    if is_none life.fail then Some (record life { fail = Some point }) else None
put_in (said.Refuse number) life =
    if is_none life.refuse then Some (record life { refuse = Some number }) else None
put_in (said.Tears fronts) life =
    if length life.tears == 0 then Some (record life { tears = fronts }) else None

-- the draft with another last life
abbrev pub with_life : StoryDraft → PlannedLife → StoryDraft
with_life draft life = record draft { life = life }

-- a draft with one line more that isn't `life`
abbrev pub put_behind : ScriptLine → StoryDraft → Option StoryDraft
put_behind line draft =
    if draft.is_begun then option_map (with_life draft) (put_in line draft.life) else None

-- a draft with one line more, if that may be there
abbrev pub put_line : ScriptLine → StoryDraft → Option StoryDraft
put_line said.Life draft =
    Some (record { lives = lives_so_far draft; life = empty_life; is_begun = true })
put_line (said.Answer answer) draft = put_behind (said.Answer answer) draft
put_line (said.Act act) draft = put_behind (said.Act act) draft
put_line (said.Stop point) draft = put_behind (said.Stop point) draft
put_line (said.Fail point) draft = put_behind (said.Fail point) draft
put_line (said.Refuse number) draft = put_behind (said.Refuse number) draft
put_line (said.Tears fronts) draft = put_behind (said.Tears fronts) draft

-- what a line's text puts after a draft
abbrev pub put_text : List ℕ → StoryDraft → Option StoryDraft
put_text text draft = option_and_then (λ line. put_line line draft) (said_by text)

-- whether it was put, and what came of it
abbrev pub Comes : {A : Type 0} → Bool → Option A → A → Type 0
Comes true made new = made ≡ Some new
Comes false made new = made ≡ None

-- what these texts put after a draft, one after another
unfoldable pub put_texts : List (List ℕ) → StoryDraft → Option StoryDraft
put_texts [] draft = Some draft
put_texts (text ∷ texts) draft = option_and_then (put_texts texts) (put_text text draft)

-- The first line that is refused, with the draft so far, and why.
pub record StopsReading (Refuses : List ℕ → StoryDraft → LineCause → Type 0)
    (texts : List (List ℕ)) (draft : StoryDraft) (number : ℕ) (why : LineCause) : Type 0 where
  pub from_one : 1 ≤ number
  pub inside : number ≤ length texts
  pub now : StoryDraft
  pub before : put_texts (take (number - 1) texts) draft ≡ Some now
  pub text : List ℕ
  pub text_is : slice_get texts (number - 1) ≡ Some text
  pub put_is : put_texts (take number texts) draft ≡ put_text text now
  pub refuses : Refuses text now why

-- it can't be put, and why
abbrev pub CannotBePut : List ℕ → StoryDraft → LineCause → Type 0
CannotBePut text draft why =
    (put_text text draft ≡ None) × (why ≡ line_cause second_cause draft.is_begun text)

-- whether a line was put, and what came of it, or why it was refused
abbrev pub ComesOrRefuses : List ℕ → Option LineCause → StoryDraft → StoryDraft → Type 0
ComesOrRefuses text None old new = put_text text old ≡ Some new
ComesOrRefuses text (Some why) old new = CannotBePut text old why

-- where it can be put, something befalls the last life then
abbrev pub CannotStayCalm : List ℕ → StoryDraft → Type 0
CannotStayCalm text draft =
    (next : StoryDraft) → put_text text draft ≡ Some next → IsCalm next.life → ⊥

-- whether a line was put and nothing befalls the last life then, and what came of it
abbrev pub ComesCalm : Bool → List ℕ → StoryDraft → StoryDraft → Type 0
ComesCalm true text old new = (put_text text old ≡ Some new) × IsCalm new.life
ComesCalm false text old new = CannotStayCalm text old

-- it can't be put so, and why
abbrev pub CannotBePutCalm : List ℕ → StoryDraft → LineCause → Type 0
CannotBePutCalm text draft why =
    CannotStayCalm text draft × (why ≡ line_cause swept_cause draft.is_begun text)

-- the same, or why it was refused
abbrev pub ComesCalmOrRefuses : List ℕ → Option LineCause → StoryDraft → StoryDraft → Type 0
ComesCalmOrRefuses text None old new = (put_text text old ≡ Some new) × IsCalm new.life
ComesCalmOrRefuses text (Some why) old new = CannotBePutCalm text old why

-- a fault names the first line that is refused, or is out of memory
abbrev pub IsReadingFault : List (List ℕ) → StoryDraft → ScriptFault → Type 0
IsReadingFault texts draft (fault.Line number why) =
    StopsReading CannotBePut texts draft number why
IsReadingFault texts draft fault.Memory = Unit {0}

-- the same of lives that nothing befalls
abbrev pub IsCalmReadingFault : List (List ℕ) → StoryDraft → ScriptFault → Type 0
IsCalmReadingFault texts draft (fault.Line number why) = StopsReading
    (λ text now cause. CannotBePutCalm text now cause × (IsCalmDraft draft → IsCalmDraft now))
    texts draft number why
IsCalmReadingFault texts draft fault.Memory = Unit {0}
