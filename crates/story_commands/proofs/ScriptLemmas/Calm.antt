-- Lives that nothing befalls, line by line.
use Rattle.std.proofs.Common.{◌≡◌, ℕ, ◌-◌, Bool, true, false, List, [], ◌∷◌, ◌++◌, Some, None, refl}
use Rattle.std.proofs.Common.{ap, subst, sym, take, ◌∙◌}
use Rattle.std.specs.Prelude.{Option, option_map, option_and_then, unwrap_or, if◌then◌else◌}
use Rattle.std.specs.List.{All}
use Rattle.std.proofs.lemmas.List.Elements.{All-nil, All-pop, All-push}
use Rattle.worker.specs.declared.story.life.PlannedLife.{PlannedLife}
use Rattle.story_commands.specs.declared.stories.draft.StoryDraft.{StoryDraft}
use Rattle.story_commands.specs.declared.stories.line.ScriptLine.{ScriptLine}
use Rattle.story_commands.specs.declared.stories.line.ScriptLine.TheVariants as said
use Rattle.story_commands.specs.declared.stories.fault.LineCause.{LineCause}
use Rattle.story_commands.specs.declared.stories.fault.ScriptFault.{ScriptFault}
use Rattle.story_commands.specs.declared.stories.fault.ScriptFault.TheVariants as fault
use Rattle.story_commands.specs.rules.Scripts.{IsFaultIn, line_cause, said_by}
use Rattle.story_commands.specs.rules.Sweeps.{IsCalm, IsCalmScript, IsCalmScriptFault, swept_cause}
use Rattle.story_commands.specs.laws.Drafts.{CannotBePutCalm, CannotStayCalm, ComesCalm}
use Rattle.story_commands.specs.laws.Drafts.{IsCalmDraft, IsCalmReadingFault, StopsReading}
use Rattle.story_commands.specs.laws.Drafts.{draft_start, lives_so_far, put_behind}
use Rattle.story_commands.specs.laws.Drafts.{put_in, put_line, put_text, with_life}
use Rattle.story_commands.proofs.ScriptLemmas.Full.{full_said}
use Rattle.story_commands.proofs.ScriptLemmas.Lives.{script_is_read}
use Rattle.story_commands.proofs.ScriptLemmas.Reading.{all_is_script, begun_is, text_begins}

-- all lives so far are calm
pub calm_lives : (draft : StoryDraft) → IsCalmDraft draft → All IsCalm (lives_so_far draft)
calm_lives draft calm = by draft.is_begun
  where
    by : (b : Bool) → All IsCalm (if b then draft.lives ++ draft.life ∷ [] else draft.lives)
    by true = All-push IsCalm draft.lives draft.life calm.lives calm.life
    by false = calm.lives

pub calm_start : IsCalmDraft draft_start
calm_start = record {
  lives = All-nil IsCalm;
  life = record { stop = refl; fail = refl; refuse = refl; tears = refl };
}

-- the lives before the last one stay
lives_stay : (draft new : StoryDraft) (b : Bool) (made : Option PlannedLife)
    → (if b then option_map (with_life draft) made else None) ≡ Some new → new.lives ≡ draft.lives
lives_stay draft new true (Some life) e =
    ap (λ (o : Option StoryDraft). (unwrap_or o draft).lives) (sym e)
lives_stay draft new true None e = cc e
lives_stay draft new false made e = cc e

calm_behind : (line : ScriptLine) (draft new : StoryDraft) → put_behind line draft ≡ Some new
    → All IsCalm draft.lives → All IsCalm new.lives
calm_behind line draft new e calm =
    subst (All IsCalm) (sym (lives_stay draft new draft.is_begun (put_in line draft.life) e)) calm

calm_line : (line : ScriptLine) (draft new : StoryDraft) → put_line line draft ≡ Some new
    → IsCalmDraft draft → All IsCalm new.lives
calm_line said.Life draft new e calm =
    subst (λ (d : StoryDraft). All IsCalm d.lives)
    (ap (λ (o : Option StoryDraft). unwrap_or o draft) e) (calm_lives draft calm)
calm_line (said.Answer answer) draft new e calm =
    calm_behind (said.Answer answer) draft new e calm.lives
calm_line (said.Act act) draft new e calm = calm_behind (said.Act act) draft new e calm.lives
calm_line (said.Stop point) draft new e calm =
    calm_behind (said.Stop point) draft new e calm.lives
calm_line (said.Fail point) draft new e calm =
    calm_behind (said.Fail point) draft new e calm.lives
calm_line (said.Refuse number) draft new e calm =
    calm_behind (said.Refuse number) draft new e calm.lives
calm_line (said.Tears fronts) draft new e calm =
    calm_behind (said.Tears fronts) draft new e calm.lives

-- one line more, after which nothing befalls the last life
pub calm_text : (text : List ℕ) (draft new : StoryDraft) → put_text text draft ≡ Some new
    → IsCalm new.life → IsCalmDraft draft → IsCalmDraft new
calm_text text draft new e last calm = record { lives = by (said_by text) e; life = last }
  where
    by : (o : Option ScriptLine) → option_and_then (λ line. put_line line draft) o ≡ Some new
        → All IsCalm new.lives
    by None e = cc e
    by (Some line) e = calm_line line draft new e calm

-- nothing befalls the last of them
last_calm : (draft : StoryDraft) → draft.is_begun ≡ true → All IsCalm (lives_so_far draft)
    → IsCalm draft.life
last_calm draft begun calm =
    (All-pop IsCalm (draft.lives ++ draft.life ∷ []) draft.lives (Some draft.life) refl
    (subst (λ (b : Bool). All IsCalm (if b then draft.lives ++ draft.life ∷ [] else draft.lives))
    begun calm)).1

calm_stop_is_fault : (texts : List (List ℕ)) (number : ℕ) (why : LineCause)
    → StopsReading (λ text now cause. CannotBePutCalm text now cause
    × (IsCalmDraft draft_start → IsCalmDraft now)) texts draft_start number why
    → IsFaultIn IsCalmScript swept_cause texts number why
calm_stop_is_fault texts number why stops = record {
  from_one = stops.from_one;
  inside = stops.inside;
  lives = lives_so_far stops.now;
  before = (
    all_is_script (take (number - 1) texts) stops.now stops.before,
    calm_lives stops.now (stops.refuses.1 calm_start),
  );
  none_spelled = λ more is.
      let read = script_is_read full_said (take number texts) more is.0 in
      let put : put_text stops.text stops.now ≡ Some read.0 = sym stops.put_is ∙ read.1 in
      stops.refuses.0.0 read.0 put (last_calm read.0
      (text_begins stops.text stops.now read.0 put) (subst (All IsCalm) (sym read.2) is.1));
  text = stops.text;
  text_is = stops.text_is;
  why_is = stops.refuses.0.1 ∙ ap (λ b. line_cause swept_cause b stops.text)
      (begun_is (take (number - 1) texts) stops.now stops.before);
}

pub calm_fault_is : (texts : List (List ℕ)) (why : ScriptFault)
    → IsCalmReadingFault texts draft_start why → IsCalmScriptFault texts why
calm_fault_is texts (fault.Line number why) h = calm_stop_is_fault texts number why h
calm_fault_is texts fault.Memory h = tt

-- where a line was put, and nothing befalls the last life then
pub came_calm : (is_put : Bool) (text : List ℕ) (old new : StoryDraft) → is_put ≡ true
    → ComesCalm is_put text old new → (put_text text old ≡ Some new) × IsCalm new.life
came_calm true text old new e h = h
came_calm false text old new e h = cc e

pub came_uncalm : (is_put : Bool) (text : List ℕ) (old new : StoryDraft) → is_put ≡ false
    → ComesCalm is_put text old new → CannotStayCalm text old
came_uncalm true text old new e h = cc e
came_uncalm false text old new e h = h
