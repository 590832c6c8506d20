-- Line after line of a text.
use Rattle.std.proofs.Common.{◌≡◌, ℕ, zero, suc, ◌+◌, ◌-◌, ◌<◌, ◌≤◌, Bool, true, false, List, []}
use Rattle.std.proofs.Common.{◌∷◌, ◌++◌, length, drop, take, Some, None, refl, sym, ap, ◌∙◌, subst}
use Rattle.std.proofs.Common.{arith, append-nil, take-append-drop, true≢false}
use Rattle.std.specs.Prelude.{Option, if◌then◌else◌, option_and_then, option_map, slice_get}
use Rattle.std.specs.Prelude.{unwrap_or}
use Rattle.std.proofs.lemmas.Option.{none-some}
use Rattle.worker.specs.declared.story.life.PlannedLife.{PlannedLife}
use Rattle.command_words.specs.rules.Pieces.{lines_of}
use Rattle.command_words.proofs.PieceLemmas.{one_more, none_lined}
use Rattle.story_commands.specs.declared.stories.draft.StoryDraft.{StoryDraft}
use Rattle.story_commands.specs.declared.stories.line.ScriptLine.{ScriptLine}
use Rattle.story_commands.specs.declared.stories.line.ScriptLine.TheVariants as said
use Rattle.story_commands.specs.rules.Scripts.{IsScript, IsFaultAt, IsScriptFault, has_a_life}
use Rattle.story_commands.specs.rules.Scripts.{line_cause, said_by, second_cause}
use Rattle.story_commands.specs.declared.stories.fault.LineCause.{LineCause}
use Rattle.story_commands.specs.declared.stories.fault.ScriptFault.{ScriptFault}
use Rattle.story_commands.specs.declared.stories.fault.ScriptFault.TheVariants as fault
use Rattle.story_commands.specs.laws.Drafts.{CannotBePut, Comes, StopsReading, put_in, put_line}
use Rattle.story_commands.specs.laws.Drafts.{put_text, put_texts, with_life}
use Rattle.story_commands.specs.laws.Drafts.{IsReadingFault, draft_start, lives_so_far}
use Rattle.story_commands.proofs.ScriptLemmas.Lives.{read_is_script, script_is_read}
use Rattle.story_commands.proofs.ScriptLemmas.Full.{full_said}

none_put : (draft : StoryDraft) → put_texts [] draft ≡ Some draft
unfolding put_texts
none_put draft = refl

-- one text after others
put_behind : (texts : List (List ℕ)) (text : List ℕ) (draft : StoryDraft)
    → put_texts (texts ++ text ∷ []) draft
    ≡ option_and_then (put_text text) (put_texts texts draft)
unfolding put_texts
put_behind [] text draft = by (put_text text draft)
  where
    by : (o : Option StoryDraft) → option_and_then (put_texts []) o ≡ o
    by None = refl
    by (Some d) = refl
put_behind (t ∷ texts) text draft = by (put_text t draft) (λ d. put_behind texts text d)
  where
    by : (o : Option StoryDraft) → ((d : StoryDraft) → put_texts (texts ++ text ∷ []) d
        ≡ option_and_then (put_text text) (put_texts texts d))
        → option_and_then (put_texts (texts ++ text ∷ [])) o
        ≡ option_and_then (put_text text) (option_and_then (put_texts texts) o)
    by None h = refl
    by (Some d) h = h d

-- so many lines were put, and the text that is left has the others
pub record HasPut (text : List ℕ) (from : StoryDraft) (number : ℕ) (rest : List ℕ)
    (now : StoryDraft) : Type 0 where
  pub within : number + length rest ≤ length text
  pub put : put_texts (take number (lines_of text)) from ≡ Some now
  pub lines_left : drop number (lines_of text) ≡ lines_of rest

pub begun_putting : (text : List ℕ) (from : StoryDraft) → HasPut text from 0 text from
begun_putting text from = record {
  within = omega arith;
  put = none_put from;
  lines_left = refl;
}

-- all lines were put
pub all_put : (text : List ℕ) (from now : StoryDraft) (number : ℕ) (rest : List ℕ)
    → HasPut text from number rest now → rest ≡ [] → put_texts (lines_of text) from ≡ Some now
all_put text from now number rest has none =
    let nothing = has.lines_left ∙ ap lines_of none ∙ none_lined in
    ap (λ l. put_texts l from) (sym (take-append-drop number (lines_of text))
    ∙ ap (λ l. take number (lines_of text) ++ l) nothing ∙ append-nil (take number (lines_of text)))
    ∙ has.put

-- the first of the lines that are left
line_at : (n : ℕ) (lines : List (List ℕ)) (line : List ℕ) (more : List (List ℕ))
    → drop n lines ≡ line ∷ more → slice_get lines n ≡ Some line
line_at zero [] line more e = cc e
line_at zero (x ∷ xs) line more e = let a : x ≡ line = cc e in ap Some a
line_at (suc n) [] line more e = cc e
line_at (suc n) (x ∷ xs) line more e = line_at n xs line more e

module _ (text : List ℕ) (from now : StoryDraft) (number : ℕ) (rest line behind : List ℕ)
    (has : HasPut text from number rest now) (cut : lines_of rest ≡ line ∷ lines_of behind)
    (shorter : length behind < length rest) where
  one : (take (number + 1) (lines_of text) ≡ take number (lines_of text) ++ line ∷ [])
      × (drop (number + 1) (lines_of text) ≡ lines_of behind) × (number < length (lines_of text))
  one = one_more number (lines_of text) line (lines_of behind) (has.lines_left ∙ cut)

  comes : put_texts (take (number + 1) (lines_of text)) from ≡ put_text line now
  comes = ap (λ l. put_texts l from) one.0
      ∙ put_behind (take number (lines_of text)) line from
      ∙ ap (option_and_then (put_text line)) has.put

  pub next_put : (next : StoryDraft) → put_text line now ≡ Some next
      → HasPut text from (number + 1) behind next
  next_put next is = record {
    within = (let w = has.within in omega (arith, w, shorter));
    put = comes ∙ is;
    lines_left = one.1;
  }

  -- a line that is refused
  pub stops_at : (Refuses : List ℕ → StoryDraft → LineCause → Type 0) (why : LineCause)
      → Refuses line now why → StopsReading Refuses (lines_of text) from (number + 1) why
  stops_at Refuses why refuses =
      let back : number ≡ number + 1 - 1 = omega arith in
      record {
        from_one = omega arith;
        inside = (let less = one.2 in omega (arith, less));
        now = now;
        before = subst (λ n. put_texts (take n (lines_of text)) from ≡ Some now) back has.put;
        text = line;
        text_is =
            subst (λ n. slice_get (lines_of text) n ≡ Some line) back
            (line_at number (lines_of text) line (lines_of behind) (has.lines_left ∙ cut));
        put_is = comes;
        refuses = refuses;
      }

-- what was read is what the rules say

pub all_is_script : (texts : List (List ℕ)) (draft : StoryDraft)
    → put_texts texts draft_start ≡ Some draft → IsScript texts (lives_so_far draft)
all_is_script = read_is_script full_said

-- ---- whether a life is begun

begins_behind : (draft next : StoryDraft) (b : Bool) → draft.is_begun ≡ b
    → (made : Option PlannedLife)
    → (if b then option_map (with_life draft) made else None) ≡ Some next
    → next.is_begun ≡ true
begins_behind draft next true is (Some life) e =
    ap (λ (o : Option StoryDraft). (unwrap_or o draft).is_begun) (sym e) ∙ is
begins_behind draft next true is None e = cc e
begins_behind draft next false is made e = cc e

-- so it is behind each line
line_begins : (line : ScriptLine) (draft next : StoryDraft) → put_line line draft ≡ Some next
    → next.is_begun ≡ true
line_begins said.Life draft next e =
    ap (λ (o : Option StoryDraft). (unwrap_or o draft).is_begun) (sym e)
line_begins (said.Answer answer) draft next e =
    begins_behind draft next draft.is_begun refl (put_in (said.Answer answer) draft.life) e
line_begins (said.Act act) draft next e =
    begins_behind draft next draft.is_begun refl (put_in (said.Act act) draft.life) e
line_begins (said.Stop point) draft next e =
    begins_behind draft next draft.is_begun refl (put_in (said.Stop point) draft.life) e
line_begins (said.Fail point) draft next e =
    begins_behind draft next draft.is_begun refl (put_in (said.Fail point) draft.life) e
line_begins (said.Refuse number) draft next e =
    begins_behind draft next draft.is_begun refl (put_in (said.Refuse number) draft.life) e
line_begins (said.Tears fronts) draft next e =
    begins_behind draft next draft.is_begun refl (put_in (said.Tears fronts) draft.life) e

pub text_begins : (text : List ℕ) (draft next : StoryDraft) → put_text text draft ≡ Some next
    → next.is_begun ≡ true
text_begins text draft next e = by (said_by text) e
  where
    by : (o : Option ScriptLine) → option_and_then (λ line. put_line line draft) o ≡ Some next
        → next.is_begun ≡ true
    by None e = cc e
    by (Some line) e = line_begins line draft next e

-- where no life is begun there is none
abbrev IsBegunWithLives : StoryDraft → Type 0
IsBegunWithLives draft = draft.is_begun ≡ false → draft.lives ≡ []

begun_with_lives : (texts : List (List ℕ)) (from to : StoryDraft)
    → put_texts texts from ≡ Some to → IsBegunWithLives from → IsBegunWithLives to
unfolding put_texts
begun_with_lives [] from to e is =
    subst IsBegunWithLives (ap (λ (o : Option StoryDraft). unwrap_or o from) e) is
begun_with_lives (text ∷ texts) from to e is =
    by (put_text text from) refl e (λ d. begun_with_lives texts d to)
  where
    by : (o : Option StoryDraft) → put_text text from ≡ o
        → option_and_then (put_texts texts) o ≡ Some to
        → ((d : StoryDraft) → put_texts texts d ≡ Some to → IsBegunWithLives d
        → IsBegunWithLives to) → IsBegunWithLives to
    by None put e more = cc e
    by (Some d) put e more =
        more d e (λ no. absurd (true≢false (sym (text_begins text from d put) ∙ no)))

some_life : (lives : List PlannedLife) (life : PlannedLife) → true ≡ has_a_life (lives ++ life ∷ [])
some_life [] life = refl
some_life (first ∷ lives) life = refl

pub begun_is : (texts : List (List ℕ)) (draft : StoryDraft)
    → put_texts texts draft_start ≡ Some draft → draft.is_begun ≡ has_a_life (lives_so_far draft)
begun_is texts draft e = by draft.is_begun refl
  where
    by : (b : Bool) → draft.is_begun ≡ b
        → b ≡ has_a_life (if b then draft.lives ++ draft.life ∷ [] else draft.lives)
    by true is = some_life draft.lives draft.life
    by false is = ap has_a_life (sym (begun_with_lives texts draft_start draft e (λ _. refl) is))

-- ---- faults

pub stop_is_fault : (texts : List (List ℕ)) (number : ℕ) (why : LineCause)
    → StopsReading CannotBePut texts draft_start number why → IsFaultAt texts number why
stop_is_fault texts number why stops = record {
  from_one = stops.from_one;
  inside = stops.inside;
  lives = lives_so_far stops.now;
  before = all_is_script (take (number - 1) texts) stops.now stops.before;
  none_spelled = λ more is.
      let read = script_is_read full_said (take number texts) more is in
      absurd (none-some _ (sym (stops.put_is ∙ stops.refuses.0) ∙ read.1));
  text = stops.text;
  text_is = stops.text_is;
  why_is = stops.refuses.1 ∙ ap (λ b. line_cause second_cause b stops.text)
      (begun_is (take (number - 1) texts) stops.now stops.before);
}

pub came : {A : Type 0} (is_put : Bool) (made : Option A) (new : A) → is_put ≡ true
    → Comes is_put made new → made ≡ Some new
came true made new e h = h
came false made new e h = cc e

pub came_none : {A : Type 0} (is_put : Bool) (made : Option A) (new : A) → is_put ≡ false
    → Comes is_put made new → made ≡ None
came_none true made new e h = cc e
came_none false made new e h = h

pub fault_is : (texts : List (List ℕ)) (why : ScriptFault)
    → IsReadingFault texts draft_start why → IsScriptFault texts why
fault_is texts (fault.Line number why) h = stop_is_fault texts number why h
fault_is texts fault.Memory h = tt
