-- The examples of lives and promises hold.
use Rattle.std.proofs.Common.{◌≡◌, ◌≤◌, ◌<◌, ℕ, zero, suc, Option, None, Some, refl, subst, arith}
use Rattle.wasi_abi.specs.rules.Configs.{Settings}
use Rattle.worker_store.specs.restart_theorem.laws.Examples.{CourseExamples, ReplyExamples}

abbrev IsNumberZero : Option ℕ → Type 0
IsNumberZero None = ⊥
IsNumberZero (Some zero) = Unit {0}
IsNumberZero (Some (suc n)) = ⊥

pub course_examples : CourseExamples
course_examples = record {
  at_first_shut = refl;
  refused_in_a_recovery = refl;
  opened = refl;
  none_there = refl;
  refused = refl;
  failed = refl;
  used_up = refl;
  told_within = (omega arith, omega arith);
  told_beyond = λ h. (let late : 24 ≤ 23 = h.1 in omega (arith, late));
  told_before = λ h. (let early : 3 ≤ 2 = h.0 in omega (arith, early));
  told_by_a_checkpoint = λ h. h;
  told_by_an_upgrade = λ h. h;
  abreast_at_a_question = refl;
  abreast_at_the_end = refl;
  not_abreast_after_a_slice = refl;
  not_abreast_when_recovered = refl;
  abreast_when_recovered_at_the_end = refl;
  abreast_when_created = refl;
  asked_within = ((omega arith, omega arith), (omega arith, omega arith));
  asked_without_fuel = λ h. (let late : 24 ≤ 23 = h.1.1 in omega (arith, late));
  stopped = (tt, omega arith);
  stopped_too_early = λ h. (let early : 8 ≤ 7 = h.1 in omega (arith, early));
  failed_too_late = λ h. (let late : 8 < 8 = h.2 in omega (arith, late));
  failed_by_no_fault = λ h. h.1;
  failed_by_memory = (tt, tt, omega arith);
  shut_by_a_source = λ h. h.0;
  shut_by_nothing = λ h. (let e = h.0 in cc);
  unheard = (tt, tt, omega arith);
  unheard_told_as_memory = λ h. h.0;
  closed = (refl, tt, omega arith);
  closed_told_as_a_disk = λ h. (let e = h.0 in cc);
  cut_in_a_call = (tt, omega arith);
  cut_told_as_memory = λ h. (let e = h.0 in cc);
}

pub reply_examples : (config : Settings) → ReplyExamples config
reply_examples config = record {
  spent = (refl, refl, refl, record { all_taken = refl; all_told = refl });
  spent_too_early = λ h. (let odd : 19 ≡ 20 = h.1 in omega (arith, odd));
  spent_with_a_line_untold = λ h. subst IsNumberZero h.3.all_told tt;
  waits = (refl, omega arith, refl, record { all_taken = refl; all_told = refl });
  waits_unasked = λ h. (let e = h.0 in cc);
  batch_waits = (refl, omega arith, refl, record { all_taken = refl; all_told = refl });
  batch_waits_with_a_line_untold = λ h. subst IsNumberZero h.3.all_told tt;
  over = (refl, omega arith, refl, record { all_taken = refl; all_told = refl });
  over_while_it_runs = λ h. (let e = h.2 in cc);
  saved = (refl, refl, record { all_taken = refl; all_told = refl });
  saved_a_step_on = λ h. (let odd : 1 ≡ 0 = h.1 in omega (arith, odd));
  slice_that_is_done = λ h. h;
  disk_fails = (tt, omega arith, omega arith);
  outlet_refuses = (refl, omega arith, omega arith);
  outlet_blamed = λ h. h.0;
  refusal_told_as_memory = λ h. (let e = h.0 in cc);
}
