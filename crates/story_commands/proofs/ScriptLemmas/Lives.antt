-- The lives of a script, and what reading it line by line gives.
use Rattle.std.proofs.Common.{◌≡◌, ℕ, true, List, [], ◌∷◌, ◌++◌, map, Some, None, refl, sym, ap}
use Rattle.std.proofs.Common.{◌∙◌, subst, append-nil, append_assoc}
use Rattle.std.specs.Prelude.{Option, option_map, option_and_then, unwrap_or}
use Rattle.worker.specs.declared.story.life.PlannedLife.{PlannedLife}
use Rattle.story_commands.specs.declared.stories.draft.StoryDraft.{StoryDraft}
use Rattle.story_commands.specs.declared.stories.line.ScriptLine.{ScriptLine}
use Rattle.story_commands.specs.declared.stories.line.ScriptLine.TheVariants as said
use Rattle.story_commands.specs.rules.Scripts.{said_by, SpellsLife, AreLivesOf, IsScript}
use Rattle.story_commands.specs.laws.Drafts.{empty_life, draft_start, lives_so_far, put_in}
use Rattle.story_commands.specs.laws.Drafts.{put_line, put_texts, with_life}
use Rattle.story_commands.proofs.ScriptLemmas.Drafts.{IsFull, AreFull, IsOnto, put_all_in, step_on}
use Rattle.story_commands.proofs.ScriptLemmas.Drafts.{none_said, onto, put_one, puts_all}

abbrev pub begun : List PlannedLife → PlannedLife → StoryDraft
begun lives life = record { lives = lives; life = life; is_begun = true }

abbrev pub put_all : List ScriptLine → StoryDraft → Option StoryDraft
put_all [] draft = Some draft
put_all (line ∷ lines) draft = option_and_then (put_all lines) (put_line line draft)

-- lines fall into what goes on with a life and the lives after it
pub record GoesOnWith (lines : List ScriptLine) (before : List PlannedLife) (start : PlannedLife)
    (draft : StoryDraft) : Type 0 where
  pub own : List ScriptLine
  pub rest : List ScriptLine
  pub life : PlannedLife
  pub lives : List PlannedLife
  pub whole : lines ≡ own ++ rest
  pub onto : IsOnto start own life
  pub more : AreLivesOf rest lives
  pub closes : lives_so_far draft ≡ before ++ life ∷ lives

nothing_onto : (start : PlannedLife) → IsOnto start [] start
nothing_onto start = onto refl (none_said _) (none_said _) (none_said _) (none_said _)
    (none_said _) (none_said _)

life_of_empty : (own : List ScriptLine) (life : PlannedLife) → IsOnto empty_life own life
    → SpellsLife own life
life_of_empty own life is = record {
  one_life = is.one_life;
  answers = is.answers;
  acts = is.acts;
  stop = is.stop;
  fail = is.fail;
  refuse = is.refuse;
  tears = is.tears;
}

empty_onto : (own : List ScriptLine) (life : PlannedLife) → SpellsLife own life
    → IsOnto empty_life own life
empty_onto own life is =
    onto is.one_life is.answers is.acts is.stop is.fail is.refuse is.tears

-- a line of the life that was begun
one_on : (line : ScriptLine) (lines : List ScriptLine) (before : List PlannedLife)
    (start : PlannedLife) (draft : StoryDraft)
    → IsFull line
    → ((mid : PlannedLife) → put_all lines (begun before mid) ≡ Some draft
    → GoesOnWith lines before mid draft)
    → (made : Option PlannedLife) → put_in line start ≡ made
    → option_and_then (put_all lines) (option_map (with_life
    (begun before start)) made) ≡ Some draft
    → GoesOnWith (line ∷ lines) before start draft
one_on line lines before start draft full next None is e = cc e
one_on line lines before start draft full next (Some mid) is e =
    let g = next mid e in
    record {
      own = line ∷ g.own;
      rest = g.rest;
      life = g.life;
      lives = g.lives;
      whole = ap (λ l. line ∷ l) g.whole;
      onto = step_on start mid g.life line g.own (put_one line start mid full is) g.onto;
      more = g.more;
      closes = g.closes;
    }

goes_on : (lines : List ScriptLine) (before : List PlannedLife) (start : PlannedLife)
    (draft : StoryDraft)
    → AreFull lines → put_all lines (begun before start) ≡ Some draft
    → GoesOnWith lines before start draft
goes_on [] before start draft full e = record {
  own = [];
  rest = [];
  life = start;
  lives = [];
  whole = refl;
  onto = nothing_onto start;
  more = refl;
  closes = ap lives_so_far (sym (ap (λ o. unwrap_or o draft_start) e));
}
goes_on (said.Life ∷ lines) before start draft full e =
    let g = goes_on lines (before ++ start ∷ []) empty_life draft full.1 e in
    record {
      own = [];
      rest = said.Life ∷ lines;
      life = start;
      lives = g.life ∷ g.lives;
      whole = refl;
      onto = nothing_onto start;
      more = (
        g.own,
        g.rest,
        ap
            (λ l. said.Life ∷ l) g.whole,
        life_of_empty g.own g.life g.onto,
        g.more,
      );
      closes = g.closes ∙ append_assoc before (start ∷ []) (g.life ∷ g.lives);
    }
goes_on (said.Answer answer ∷ lines) before start draft full e =
    one_on (said.Answer answer) lines before start draft full.0
    (λ mid. goes_on lines before mid draft full.1) (put_in (said.Answer answer) start) refl e
goes_on (said.Act act ∷ lines) before start draft full e =
    one_on (said.Act act) lines before start draft full.0
    (λ mid. goes_on lines before mid draft full.1) (put_in (said.Act act) start) refl e
goes_on (said.Stop point ∷ lines) before start draft full e =
    one_on (said.Stop point) lines before start draft full.0
    (λ mid. goes_on lines before mid draft full.1) (put_in (said.Stop point) start) refl e
goes_on (said.Fail point ∷ lines) before start draft full e =
    one_on (said.Fail point) lines before start draft full.0
    (λ mid. goes_on lines before mid draft full.1) (put_in (said.Fail point) start) refl e
goes_on (said.Refuse number ∷ lines) before start draft full e =
    one_on (said.Refuse number) lines before start draft full.0
    (λ mid. goes_on lines before mid draft full.1) (put_in (said.Refuse number) start) refl e
goes_on (said.Tears fronts ∷ lines) before start draft full e =
    one_on (said.Tears fronts) lines before start draft full.0
    (λ mid. goes_on lines before mid draft full.1) (put_in (said.Tears fronts) start) refl e

-- what was read from the start is lives
pub read_lives : (lines : List ScriptLine) (draft : StoryDraft) → AreFull lines
    → put_all lines draft_start ≡ Some draft → AreLivesOf lines (lives_so_far draft)
read_lives [] draft full e =
    subst (λ d. AreLivesOf [] (lives_so_far d)) (ap (λ o. unwrap_or o draft_start) e) refl
read_lives (said.Life ∷ lines) draft full e =
    let g = goes_on lines [] empty_life draft full.1 e in
    subst (AreLivesOf (said.Life ∷ lines)) (sym g.closes)
    (g.own, g.rest, ap (λ l. said.Life ∷ l) g.whole, life_of_empty g.own g.life g.onto, g.more)
read_lives (said.Answer answer ∷ lines) draft full e = cc e
read_lives (said.Act act ∷ lines) draft full e = cc e
read_lives (said.Stop point ∷ lines) draft full e = cc e
read_lives (said.Fail point ∷ lines) draft full e = cc e
read_lives (said.Refuse number ∷ lines) draft full e = cc e
read_lives (said.Tears fronts ∷ lines) draft full e = cc e

-- ---- and back: lives can be read

-- a line of the life that was begun, put
own_one : (line : ScriptLine) (own rest : List ScriptLine) (before : List PlannedLife)
    (start life : PlannedLife)
    → ((mid : PlannedLife) → put_all_in own mid ≡ Some life
    → put_all (own ++ rest) (begun before mid) ≡ put_all rest (begun before life))
    → (made : Option PlannedLife) → option_and_then (put_all_in own) made ≡ Some life
    → option_and_then (put_all (own ++ rest)) (option_map (with_life (begun before start)) made)
    ≡ put_all rest (begun before life)
own_one line own rest before start life next None e = cc e
own_one line own rest before start life next (Some mid) e = next mid e

own_put : (own rest : List ScriptLine) (before : List PlannedLife) (start life : PlannedLife)
    → put_all_in own start ≡ Some life
    → put_all (own ++ rest) (begun before start) ≡ put_all rest (begun before life)
own_put [] rest before start life e =
    ap (λ l. put_all rest (begun before l)) (ap (λ o. unwrap_or o start) e)
own_put (said.Life ∷ own) rest before start life e = cc e
own_put (said.Answer answer ∷ own) rest before start life e =
    own_one (said.Answer answer) own rest before start life
    (λ mid. own_put own rest before mid life) (put_in (said.Answer answer) start) e
own_put (said.Act act ∷ own) rest before start life e =
    own_one (said.Act act) own rest before start life
    (λ mid. own_put own rest before mid life) (put_in (said.Act act) start) e
own_put (said.Stop point ∷ own) rest before start life e =
    own_one (said.Stop point) own rest before start life
    (λ mid. own_put own rest before mid life) (put_in (said.Stop point) start) e
own_put (said.Fail point ∷ own) rest before start life e =
    own_one (said.Fail point) own rest before start life
    (λ mid. own_put own rest before mid life) (put_in (said.Fail point) start) e
own_put (said.Refuse number ∷ own) rest before start life e =
    own_one (said.Refuse number) own rest before start life
    (λ mid. own_put own rest before mid life) (put_in (said.Refuse number) start) e
own_put (said.Tears fronts ∷ own) rest before start life e =
    own_one (said.Tears fronts) own rest before start life
    (λ mid. own_put own rest before mid life) (put_in (said.Tears fronts) start) e

full_front : (own rest : List ScriptLine) → AreFull (own ++ rest) → AreFull own × AreFull rest
full_front [] rest full = (tt, full)
full_front (line ∷ own) rest full = let f = full_front own rest full.1 in ((full.0, f.0), f.1)

-- what lines of lives put behind a draft
abbrev PutBehind : List ScriptLine → StoryDraft → List PlannedLife → Type 0
PutBehind lines from lives = (draft : StoryDraft) × (put_all lines from ≡ Some draft)
    × (lives_so_far draft ≡ lives_so_far from ++ lives)

lives_put : (lives : List PlannedLife) (lines : List ScriptLine) (draft : StoryDraft)
    → AreFull lines → AreLivesOf lines lives → PutBehind lines draft lives
lives_put [] lines draft full is =
    (draft, ap (λ l. put_all l draft) is, sym (append-nil (lives_so_far draft)))
lives_put (life ∷ lives) lines draft full is =
    let own = is.0 in
    let rest = is.1 in
    let whole = is.2 in
    let f = full_front own rest ((subst AreFull whole full).1) in
    let later = lives_put lives rest (begun (lives_so_far draft) life) f.1 is.4 in (
      later.0,
      ap (λ l. put_all l draft) whole
          ∙ own_put own rest (lives_so_far draft) empty_life life
          (puts_all own empty_life life f.0 (empty_onto own life is.3)) ∙ later.1,
      later.2 ∙ append_assoc (lives_so_far draft) (life ∷ []) lives,
    )

-- ---- texts

abbrev pub IsFullOption : Option ScriptLine → Type 0
IsFullOption None = Unit {0}
IsFullOption (Some line) = IsFull line

-- what each text says is full
abbrev pub SayFull : Type 0
SayFull = (text : List ℕ) → IsFullOption (said_by text)

are_full : SayFull → (texts : List (List ℕ)) (lines : List ScriptLine)
    → map said_by texts ≡ map Some lines → AreFull lines
are_full full [] [] e = tt
are_full full [] (line ∷ lines) e = cc e
are_full full (text ∷ texts) [] e = cc e
are_full full (text ∷ texts) (line ∷ lines) e =
    let head : said_by text ≡ Some line = cc e in
    let tail : map said_by texts ≡ map Some lines = cc e in
    (subst IsFullOption head (full text), are_full full texts lines tail)

texts_put : (texts : List (List ℕ)) (lines : List ScriptLine) (draft : StoryDraft)
    → map said_by texts ≡ map Some lines → put_texts texts draft ≡ put_all lines draft
unfolding put_texts
texts_put [] [] draft e = refl
texts_put [] (line ∷ lines) draft e = cc e
texts_put (text ∷ texts) [] draft e = cc e
texts_put (text ∷ texts) (line ∷ lines) draft e =
    let head : said_by text ≡ Some line = cc e in
    let tail : map said_by texts ≡ map Some lines = cc e in
    ap (λ o. option_and_then (put_texts texts) (option_and_then (λ l. put_line l draft) o)) head
    ∙ on (put_line line draft) (λ d. texts_put texts lines d tail)
  where
    on : (o : Option StoryDraft) → ((d : StoryDraft) → put_texts texts d ≡ put_all lines d)
        → option_and_then (put_texts texts) o ≡ option_and_then (put_all lines) o
    on None h = refl
    on (Some d) h = h d

-- what was put was said
were_said : (texts : List (List ℕ)) (from to : StoryDraft) → put_texts texts from ≡ Some to
    → (lines : List ScriptLine) × (map said_by texts ≡ map Some lines)
unfolding put_texts
were_said [] from to e = ([], refl)
were_said (text ∷ texts) from to e = by (said_by text) refl e (λ d. were_said texts d to)
  where
    next : (line : ScriptLine) → said_by text ≡ Some line → (o : Option StoryDraft)
        → option_and_then (put_texts texts) o ≡ Some to
        → ((d : StoryDraft) → put_texts texts d ≡ Some to
        → (lines : List ScriptLine) × (map said_by texts ≡ map Some lines))
        → (lines : List ScriptLine) × (map said_by (text ∷ texts) ≡ map Some lines)
    next line is None e more = cc e
    next line is (Some d) e more =
        let m = more d e in (
          line ∷ m.0,
          ap (λ l. l ∷ map said_by texts) is
              ∙ ap (λ l. Some line ∷ l) m.1,
        )

    by : (o : Option ScriptLine) → said_by text ≡ o
        → option_and_then (put_texts texts) (option_and_then (λ l. put_line l from) o) ≡ Some to
        → ((d : StoryDraft) → put_texts texts d ≡ Some to
        → (lines : List ScriptLine) × (map said_by texts ≡ map Some lines))
        → (lines : List ScriptLine) × (map said_by (text ∷ texts) ≡ map Some lines)
    by None is e more = cc e
    by (Some line) is e more = next line is (put_line line from) e more

-- what was read is a script
pub read_is_script : SayFull → (texts : List (List ℕ)) (draft : StoryDraft)
    → put_texts texts draft_start ≡ Some draft → IsScript texts (lives_so_far draft)
read_is_script full texts draft e =
    let s = were_said texts draft_start draft e in (
      s.0,
      s.1,
      read_lives s.0 draft (are_full full texts s.0 s.1)
          (sym (texts_put texts s.0 draft_start s.1) ∙ e),
    )

-- a script can be read, and its lives are what is read
pub script_is_read : SayFull → (texts : List (List ℕ)) (lives : List PlannedLife)
    → IsScript texts lives → (draft : StoryDraft) × (put_texts texts draft_start ≡ Some draft)
    × (lives_so_far draft ≡ lives)
script_is_read full texts lives is =
    let put = lives_put lives is.0 draft_start (are_full full texts is.0 is.1) is.2 in
    (put.0, texts_put texts is.0 draft_start is.1 ∙ put.1, put.2)
