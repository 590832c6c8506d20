-- The examples of workers that go on from what another one has left.
use Rattle.std.proofs.Common.{◌≡◌, ◌≢◌, inl, inr, ⊎_elim, ℕ, ◌<◌, ◌≤◌, List, [], ◌∷◌}
use Rattle.std.proofs.Common.{◌++◌, None, refl, sym, ap, ◌∙◌, arith}
use Rattle.std.proofs.lemmas.Bool.{cases_lt}
use Rattle.wasi_abi.specs.declared.answer.Question.TheVariants as question
use Rattle.wasi_calls_rules.specs.WasiStates.{Line}
use Rattle.process_rules.specs.Processes.{ProcessState, Guest}
use Rattle.process_rules.specs.Runs.{Next, Wants, Nowhere, next_of}
use Rattle.worker_store.specs.restart_theorem.Successions.{IsAtRest, HasNumber, LeaveNoneOut}
use Rattle.worker_store.specs.restart_theorem.laws.SuccessionExamples.{letter_line, two_lines}
use Rattle.worker_store.specs.restart_theorem.laws.SuccessionExamples.{SuccessionExamples}
use Rattle.worker_store.specs.restart_theorem.laws.SuccessionExamples.{RestExamples}
use Rattle.worker_store.specs.restart_theorem.laws.SuccessionExamples.{HistoryExamples}

pub succession_examples : SuccessionExamples
succession_examples = record {
  promised_in_one = refl;
  promised_in_two = refl;
  through_lives = refl;
  none_succeeds = tt;
  one_succeeds = λ h. h;
}

-- ---- at rest

not_at_rest : (guest : Guest) (p : ProcessState) (next : Next) → p.ended ≡ None
    → next_of guest p None ≡ next → (Wants question.Request ≡ next → ⊥) → IsAtRest guest p → ⊥
not_at_rest guest p next running is other rest =
    ⊎_elim
    (λ (over : p.ended ≢ None). over running)
    (λ (waits : next_of guest p None ≡ Wants question.Request). other (sym waits ∙ is))
    rest

pub rest_examples : (guest : Guest) (p : ProcessState) → RestExamples guest p
rest_examples guest p = record {
  over = λ is. inl (λ none. cc);
  waits_for_a_request = λ is. inr is;
  waits_for_a_time = λ running is rest.
      not_at_rest guest p (Wants question.Realtime) running is (λ e. cc) rest;
  goes_nowhere = λ running is rest. not_at_rest guest p Nowhere running is (λ e. cc) rest;
}

-- ---- histories

-- lines 1 and 2 are these
among_two : (k : ℕ) → HasNumber k two_lines → k ≤ 2
among_two k (inl e) = omega (arith, e)
among_two k (inr (inl e)) = omega (arith, e)
among_two k (inr (inr (inl e))) = omega (arith, e)
among_two k (inr (inr (inr none))) = absurd none

two_there : (i : ℕ) → 0 < i → i ≤ 2 → HasNumber i two_lines
two_there i late few =
    ⊎_elim
    (λ (beyond : 1 < i). inr (inr (inl (omega (arith, beyond, few)))))
    (λ (within : i ≤ 1). inl (omega (arith, within, late)))
    (cases_lt 1 i)

all_of_two : LeaveNoneOut 0 two_lines
all_of_two i k late few there =
    let most = among_two k there in
    two_there i late (omega (arith, few, most))

-- so are lines 1 to 3
among_three : (k : ℕ) → HasNumber k (two_lines ++ letter_line 3 ∷ []) → k ≤ 3
among_three k (inl e) = omega (arith, e)
among_three k (inr (inl e)) = omega (arith, e)
among_three k (inr (inr (inl e))) = omega (arith, e)
among_three k (inr (inr (inr (inl e)))) = omega (arith, e)
among_three k (inr (inr (inr (inr none)))) = absurd none

all_of_three : LeaveNoneOut 0 (two_lines ++ letter_line 3 ∷ [])
all_of_three i k late few there =
    let most = among_three k there in
    ⊎_elim
    (λ (beyond : 2 < i). inr (inr (inr (inl (omega (arith, beyond, few, most))))))
    (λ (within : i ≤ 2).
    ⊎_elim
    (λ (second : 1 < i). inr (inr (inl (omega (arith, second, within)))))
    (λ (first : i ≤ 1). inl (omega (arith, first, late)))
    (cases_lt 1 i))
    (cases_lt 2 i)

no_three : HasNumber 3 two_lines → ⊥
no_three there = let most = among_two 3 there in omega (arith, most)

no_two : HasNumber 2 (letter_line 1 ∷ letter_line 3 ∷ []) → ⊥
no_two (inl e) = omega (arith, e)
no_two (inr (inl e)) = omega (arith, e)
no_two (inr (inr none)) = none

no_four : HasNumber 4 (two_lines ++ letter_line 3 ∷ letter_line 5 ∷ []) → ⊥
no_four (inl e) = omega (arith, e)
no_four (inr (inl e)) = omega (arith, e)
no_four (inr (inr (inl e))) = omega (arith, e)
no_four (inr (inr (inr (inl e)))) = omega (arith, e)
no_four (inr (inr (inr (inr (inl e))))) = omega (arith, e)
no_four (inr (inr (inr (inr (inr none))))) = none

second_alone : LeaveNoneOut 1 (letter_line 2 ∷ [])
second_alone i k late few (inl e) = inl (omega (arith, late, few, e))
second_alone i k late few (inr none) = absurd none

abbrev first_code : List ℕ → ℕ
first_code [] = 0
first_code (c ∷ codes) = c

pub history_examples : HistoryExamples
history_examples = record {
  has_its_numbers = inr (inr (inl refl));
  has_no_other = no_three;
  first_number = refl;
  other_first_number = λ h. (let odd : 4 ≡ 3 = h in omega (arith, odd));
  leaves_none_out = all_of_two;
  leaves_one_out = λ h. no_two (h 2 3 (omega arith) (omega arith) (inr (inl refl)));
  one_before_them = second_alone;
  goes_on = record {
    onward = omega arith;
    heard = omega arith;
    all_told = two_there;
    within = (omega arith, (omega arith, (omega arith, tt)));
    next = refl;
    beyond = (omega arith, tt);
    none_left_out = all_of_three;
    one_text = (
      ((λ e. refl), ((λ e. refl), ((λ e. refl), tt))),
      (((λ e. refl), ((λ e. refl), tt)), (((λ e. refl), tt), (tt, tt))),
    );
  };
  says_nothing = record {
    onward = omega arith;
    heard = omega arith;
    all_told = two_there;
    within = (omega arith, (omega arith, (omega arith, tt)));
    next = tt;
    beyond = tt;
    none_left_out = all_of_two;
    one_text = (((λ e. refl), ((λ e. refl), tt)), (((λ e. refl), tt), (tt, tt)));
  };
  tells_again = λ h. (let odd : 2 ≡ 3 = h.next in omega (arith, odd));
  comes_back = λ h. (let beyond : 2 < 1 = h.beyond.1.0 in omega (arith, beyond));
  skips_a_line = λ h. (let odd : 4 ≡ 3 = h.next in omega (arith, odd));
  skips_one_later = λ h. no_four (h.none_left_out 4 5 (omega arith) (omega arith)
      (inr (inr (inr (inr (inl refl))))));
  was_ahead = λ h. (let within : 2 ≤ 1 = h.within.1.1.0 in omega (arith, within));
  was_behind = λ h. no_three (h.all_told 3 (omega arith) (omega arith));
  was_unheard = λ h. (let heard : 2 ≤ 1 = h.heard in omega (arith, heard));
  takes_lines_back = λ h. (let onward : 3 ≤ 2 = h.onward in omega (arith, onward));
  changes_a_line = λ h.
      (let same = ap (λ (l : Line). first_code l.text) (h.one_text.0.0 refl) in
      letters_differ same);
}
  where
    letters_differ : ◌≡◌ {A = ℕ} 98 97 → ⊥
    letters_differ e = omega (arith, e)
