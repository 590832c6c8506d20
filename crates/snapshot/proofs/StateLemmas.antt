-- Worked examples of what a `Snapshots` is in the middle of.
use Rattle.std.proofs.Common.{refl, arith}
use Rattle.snapshot.specs.laws.Examples.{StateExamples}

pub state_examples : StateExamples
state_examples = record {
  idle = refl;
  idle_has_not_failed = refl;
  failed = refl;
  failed_is_not_idle = refl;
  begun = λ w. refl;
  begun_has_not_failed = λ w. refl;
  bytes = λ w h. (let s = h.0 in let f = h.1 in omega (arith, s, f));
  none_filled = λ w h. (let s = h.0 in let f = h.1 in omega (arith, s, f));
  one_filled = λ w h. (let s = h.0 in let f = h.1 in omega (arith, s, f));
  two_filled = λ w h. (let s = h.0 in let f = h.1 in omega (arith, s, f));
  room = λ w h. (let s = h.0 in let f = h.1 in omega (arith, s, f));
  no_room = λ w h few. (let s = h.0 in let f = h.1 in omega (arith, s, f, few));
  nothing_to_end = λ none. none;
  read_too_big = λ geometry image h big. big;
}
