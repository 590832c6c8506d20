-- Lives that are read line by line, and the lives of a script.
use Rattle.std.proofs.Common.{◌≡◌, ℕ, ◌==◌, List, [], ◌∷◌, ◌++◌, length, Some, None, refl, sym, ap}
use Rattle.std.proofs.Common.{◌∙◌, subst, arith, append_assoc, append-nil}
use Rattle.std.specs.Prelude.{Option, if◌then◌else◌, option_and_then, is_none, unwrap_or}
use Rattle.std.proofs.lemmas.Bool.{cond-false, ne_eqb}
use Rattle.std.proofs.lemmas.Option.{none-some}
use Rattle.std.specs.List.{flat_map}
use Rattle.std.specs.Option.{option_to_list}
use Rattle.wasi_abi.specs.declared.answer.Answer.{Answer}
use Rattle.sector_disk.specs.declared.fault_point.FaultPoint.{FaultPoint}
use Rattle.worker.specs.declared.story.life.PlannedAct.{PlannedAct}
use Rattle.worker.specs.declared.story.life.PlannedLife.{PlannedLife}
use Rattle.story_commands.specs.declared.stories.line.ScriptLine.{ScriptLine}
use Rattle.story_commands.specs.declared.stories.line.ScriptLine.TheVariants as said
use Rattle.story_commands.specs.rules.Scripts.{life_said, answer_said, act_said, stop_said}
use Rattle.story_commands.specs.rules.Scripts.{fail_said, refusal_said, tears_said, at_most_one}
use Rattle.story_commands.specs.laws.Drafts.{put_in}

-- the lines say at least one number of tears, where they say any
abbrev pub IsFull : ScriptLine → Type 0
IsFull (said.Tears []) = ⊥
IsFull _ = Unit {0}

abbrev pub AreFull : List ScriptLine → Type 0
AreFull [] = Unit {0}
AreFull (line ∷ lines) = IsFull line × AreFull lines

-- all lines put into one life
abbrev pub put_all_in : List ScriptLine → PlannedLife → Option PlannedLife
put_all_in [] life = Some life
put_all_in (line ∷ lines) life = option_and_then (put_all_in lines) (put_in line life)

-- a life after another state of it: what these lines say is after what was there
pub record IsOnto (start : PlannedLife) (lines : List ScriptLine)
    (life : PlannedLife) : Type 0 where
  pub one_life : flat_map life_said lines ≡ []
  pub answers : life.answers ≡ start.answers ++ flat_map answer_said lines
  pub acts : life.acts ≡ start.acts ++ flat_map act_said lines
  pub stop : option_to_list life.stop ≡ option_to_list start.stop ++ flat_map stop_said lines
  pub fail : option_to_list life.fail ≡ option_to_list start.fail ++ flat_map fail_said lines
  pub refuse : option_to_list life.refuse
      ≡ option_to_list start.refuse ++ flat_map refusal_said lines
  pub tears : at_most_one life.tears ≡ at_most_one start.tears ++ flat_map tears_said lines

-- so it is by these equations, in order
pub onto : {start : PlannedLife} {lines : List ScriptLine} {life : PlannedLife}
    → flat_map life_said lines ≡ [] → life.answers ≡ start.answers ++ flat_map answer_said lines
    → life.acts ≡ start.acts ++ flat_map act_said lines
    → option_to_list life.stop ≡ option_to_list start.stop ++ flat_map stop_said lines
    → option_to_list life.fail ≡ option_to_list start.fail ++ flat_map fail_said lines
    → option_to_list life.refuse ≡ option_to_list start.refuse ++ flat_map refusal_said lines
    → at_most_one life.tears ≡ at_most_one start.tears ++ flat_map tears_said lines
    → IsOnto start lines life
onto one answers acts stop fail refuse tears = record {
  one_life = one;
  answers = answers;
  acts = acts;
  stop = stop;
  fail = fail;
  refuse = refuse;
  tears = tears;
}

-- nothing is said
pub none_said : {A : Type 0} (xs : List A) → xs ≡ xs ++ []
none_said xs = sym (append-nil xs)

abbrev with_stop : PlannedLife → FaultPoint → PlannedLife
with_stop life point = record life { stop = Some point }

abbrev with_fail : PlannedLife → FaultPoint → PlannedLife
with_fail life point = record life { fail = Some point }

abbrev with_refusal : PlannedLife → ℕ → PlannedLife
with_refusal life number = record life { refuse = Some number }

abbrev with_tears : PlannedLife → List ℕ → PlannedLife
with_tears life fronts = record life { tears = fronts }

-- one line more in front
pub step_on : (start mid life : PlannedLife) (line : ScriptLine) (lines : List ScriptLine)
    → IsOnto start (line ∷ []) mid → IsOnto mid lines life → IsOnto start (line ∷ lines) life
step_on start mid life line lines one more = record {
  one_life = ap (λ l. l ++ flat_map life_said lines) (sym (append-nil (life_said line))
      ∙ one.one_life)
      ∙ more.one_life;
  answers = more.answers ∙ ap (λ l. l ++ flat_map answer_said lines) (one.answers
      ∙ ap (λ l. start.answers ++ l) (append-nil (answer_said line)))
      ∙ append_assoc start.answers (answer_said line) (flat_map answer_said lines);
  acts = more.acts ∙ ap (λ l. l ++ flat_map act_said lines) (one.acts
      ∙ ap (λ l. start.acts ++ l) (append-nil (act_said line)))
      ∙ append_assoc start.acts (act_said line) (flat_map act_said lines);
  stop = more.stop ∙ ap (λ l. l ++ flat_map stop_said lines) (one.stop
      ∙ ap (λ l. option_to_list start.stop ++ l) (append-nil (stop_said line)))
      ∙ append_assoc (option_to_list start.stop) (stop_said line) (flat_map stop_said lines);
  fail = more.fail ∙ ap (λ l. l ++ flat_map fail_said lines) (one.fail
      ∙ ap (λ l. option_to_list start.fail ++ l) (append-nil (fail_said line)))
      ∙ append_assoc (option_to_list start.fail) (fail_said line) (flat_map fail_said lines);
  refuse = more.refuse ∙ ap (λ l. l ++ flat_map refusal_said lines) (one.refuse
      ∙ ap (λ l. option_to_list start.refuse ++ l) (append-nil (refusal_said line)))
      ∙ append_assoc (option_to_list start.refuse) (refusal_said line)
      (flat_map refusal_said lines);
  tears = more.tears ∙ ap (λ l. l ++ flat_map tears_said lines) (one.tears
      ∙ ap (λ l. at_most_one start.tears ++ l) (append-nil (tears_said line)))
      ∙ append_assoc (at_most_one start.tears) (tears_said line) (flat_map tears_said lines);
}

-- what is put into a life only where nothing was
put_option : {A : Type 0} (o : Option A) (life mid : PlannedLife)
    → (if is_none o then Some life else None) ≡ Some mid → (o ≡ None) × (life ≡ mid)
put_option None life mid e = (refl, ap (λ m. unwrap_or m life) e)
put_option (Some p) life mid e = cc e

-- what one line puts into a life
pub put_one : (line : ScriptLine) (start mid : PlannedLife) → IsFull line
    → put_in line start ≡ Some mid → IsOnto start (line ∷ []) mid
put_one said.Life start mid full e = cc e
put_one (said.Answer answer) start mid full e =
    subst (IsOnto start (said.Answer answer ∷ [])) (ap (λ o. unwrap_or o start) e) (onto refl
    refl (none_said _) (none_said _) (none_said _) (none_said _) (none_said _))
put_one (said.Act act) start mid full e =
    subst (IsOnto start (said.Act act ∷ [])) (ap (λ o. unwrap_or o start) e) (onto refl
    (none_said _) refl (none_said _) (none_said _) (none_said _) (none_said _))
put_one (said.Stop point) start mid full e =
    let put = put_option start.stop (with_stop start point) mid e in
    subst (IsOnto start (said.Stop point ∷ [])) put.1 (onto refl (none_said _) (none_said _)
    (sym (ap (λ o. option_to_list o ++ point ∷ []) put.0)) (none_said _) (none_said _)
    (none_said _))
put_one (said.Fail point) start mid full e =
    let put = put_option start.fail (with_fail start point) mid e in
    subst (IsOnto start (said.Fail point ∷ [])) put.1 (onto refl (none_said _) (none_said _)
    (none_said _) (sym (ap (λ o. option_to_list o ++ point ∷ []) put.0)) (none_said _)
    (none_said _))
put_one (said.Refuse number) start mid full e =
    let put = put_option start.refuse (with_refusal start number) mid e in
    subst (IsOnto start (said.Refuse number ∷ [])) put.1 (onto refl (none_said _) (none_said _)
    (none_said _) (none_said _) (sym (ap (λ o. option_to_list o ++ number ∷ []) put.0))
    (none_said _))
put_one (said.Tears []) start mid full e = absurd full
put_one (said.Tears (f ∷ fs)) start mid full e = by start.tears refl e
  where
    by : (ts : List ℕ) → start.tears ≡ ts
        → (if length ts == 0 then Some (with_tears start (f ∷ fs)) else None) ≡ Some mid
        → IsOnto start (said.Tears (f ∷ fs) ∷ []) mid
    by [] n e =
        subst (IsOnto start (said.Tears (f ∷ fs) ∷ [])) (ap (λ o. unwrap_or o start) e)
        (onto refl (none_said _) (none_said _) (none_said _) (none_said _) (none_said _)
        (sym (ap (λ o. at_most_one o ++ (f ∷ fs) ∷ []) n)))
    by (t ∷ ts) n e =
        absurd (none-some _ (sym (cond-false _ _ _ (ne_eqb (length (t ∷ ts)) 0 (λ z. omega
        (arith, z)))) ∙ e))

-- ---- and back: what is in a life can be put

one_at_most : {A : Type 0} (o : Option A) (a b : A) (l : List A) → option_to_list o ≡ a ∷ b ∷ l → ⊥
one_at_most None a b l e = cc e
one_at_most (Some x) a b l e = let n = ap length e in omega (arith, n)

-- where all are kept, none was there before one that was put
was_none : {A : Type 0} (o kept : Option A) (x : A) (l : List A)
    → option_to_list kept ≡ option_to_list o ++ x ∷ l → o ≡ None
was_none None kept x l e = refl
was_none (Some p) kept x l e = absurd (one_at_most kept p x l e)

one_list : (o a b : List ℕ) (l : List (List ℕ)) → at_most_one o ≡ a ∷ b ∷ l → ⊥
one_list [] a b l e = cc e
one_list (x ∷ xs) a b l e = let n = ap length e in omega (arith, n)

same_option : {A : Type 0} (a b : Option A) → option_to_list a ≡ option_to_list b → a ≡ b
same_option None None e = refl
same_option None (Some y) e = cc e
same_option (Some x) None e = cc e
same_option (Some x) (Some y) e = cc e

same_list : (a b : List ℕ) → at_most_one a ≡ at_most_one b → a ≡ b
same_list [] [] e = refl
same_list [] (y ∷ ys) e = cc e
same_list (x ∷ xs) [] e = cc e
same_list (x ∷ xs) (y ∷ ys) e = cc e

-- the same life with these answers, or with these acts
abbrev with_answers : PlannedLife → List Answer → PlannedLife
with_answers life answers = record life { answers = answers }

abbrev with_acts : PlannedLife → List PlannedAct → PlannedLife
with_acts life acts = record life { acts = acts }

same_life : (a b : PlannedLife) → a.answers ≡ b.answers → a.acts ≡ b.acts → a.stop ≡ b.stop
    → a.fail ≡ b.fail → a.refuse ≡ b.refuse → a.tears ≡ b.tears → a ≡ b
same_life a b p q r s t u =
    ap (λ x. record a { answers = x }) p
    ∙ ap (λ x. record a { answers = b.answers; acts = x }) q
    ∙ ap (λ x. record a { answers = b.answers; acts = b.acts; stop = x }) r
    ∙ ap (λ x. record b { fail = x; refuse = a.refuse; tears = a.tears }) s
    ∙ ap (λ x. record b { refuse = x; tears = a.tears }) t
    ∙ ap (λ x. record b { tears = x }) u

pub puts_all : (lines : List ScriptLine) (start life : PlannedLife) → AreFull lines
    → IsOnto start lines life → put_all_in lines start ≡ Some life
puts_all [] start life full is = ap Some (same_life start life (sym (is.answers
    ∙ append-nil start.answers))
    (sym (is.acts ∙ append-nil start.acts))
    (same_option _ _ (sym (is.stop ∙ append-nil (option_to_list start.stop))))
    (same_option _ _ (sym (is.fail ∙ append-nil (option_to_list start.fail))))
    (same_option _ _ (sym (is.refuse ∙ append-nil (option_to_list start.refuse))))
    (same_list _ _ (sym (is.tears ∙ append-nil (at_most_one start.tears)))))
puts_all (said.Life ∷ lines) start life full is = let e = is.one_life in cc e
puts_all (said.Answer answer ∷ lines) start life full is =
    puts_all lines (with_answers start (start.answers ++ answer ∷ [])) life full.1 (onto is.one_life
    (is.answers ∙ sym (append_assoc start.answers (answer ∷ []) (flat_map answer_said lines)))
    is.acts is.stop is.fail is.refuse is.tears)
puts_all (said.Act act ∷ lines) start life full is =
    puts_all lines (with_acts start (start.acts ++ act ∷ [])) life full.1 (onto is.one_life
    is.answers (is.acts ∙ sym (append_assoc start.acts (act ∷ []) (flat_map act_said lines)))
    is.stop is.fail is.refuse is.tears)
puts_all (said.Stop point ∷ lines) start life full is =
    let none = was_none start.stop life.stop point (flat_map stop_said lines) is.stop in
    ap (λ o. option_and_then (put_all_in lines)
    (if is_none o then Some (with_stop start point) else None)) none
    ∙ puts_all lines (with_stop start point) life full.1 (onto is.one_life is.answers is.acts
    (is.stop ∙ ap (λ o. option_to_list o ++ point ∷ flat_map stop_said lines) none) is.fail
    is.refuse is.tears)
puts_all (said.Fail point ∷ lines) start life full is =
    let none = was_none start.fail life.fail point (flat_map fail_said lines) is.fail in
    ap (λ o. option_and_then (put_all_in lines)
    (if is_none o then Some (with_fail start point) else None)) none
    ∙ puts_all lines (with_fail start point) life full.1 (onto is.one_life is.answers is.acts
    is.stop (is.fail ∙ ap (λ o. option_to_list o ++ point ∷ flat_map fail_said lines) none)
    is.refuse is.tears)
puts_all (said.Refuse number ∷ lines) start life full is =
    let none = was_none start.refuse life.refuse number (flat_map refusal_said lines) is.refuse in
    ap (λ o. option_and_then (put_all_in lines)
    (if is_none o then Some (with_refusal start number) else None)) none
    ∙ puts_all lines (with_refusal start number) life full.1 (onto is.one_life is.answers is.acts
    is.stop is.fail
    (is.refuse ∙ ap (λ o. option_to_list o ++ number ∷ flat_map refusal_said lines) none) is.tears)
puts_all (said.Tears [] ∷ lines) start life full is = absurd full.0
puts_all (said.Tears (f ∷ fs) ∷ lines) start life full is =
    by start.tears refl (puts_all lines (with_tears start (f ∷ fs)) life full.1)
  where
    by : (ts : List ℕ) → start.tears ≡ ts
        → (IsOnto (with_tears start (f ∷ fs)) lines life
        → put_all_in lines (with_tears start (f ∷ fs)) ≡ Some life)
        → option_and_then (put_all_in lines) (put_in (said.Tears (f ∷ fs)) start) ≡ Some life
    by [] n given =
        ap (λ ts. option_and_then (put_all_in lines)
        (if length ts == 0 then Some (with_tears start (f ∷ fs)) else None)) n
        ∙ given (onto is.one_life is.answers is.acts is.stop is.fail is.refuse
        (is.tears ∙ ap (λ o. at_most_one o ++ (f ∷ fs) ∷ flat_map tears_said lines) n))
    by (t ∷ ts) n given = absurd (one_list life.tears (t ∷ ts) (f ∷ fs) (flat_map tears_said lines)
        (is.tears ∙ ap (λ o. at_most_one o ++ (f ∷ fs) ∷ flat_map tears_said lines) n))
