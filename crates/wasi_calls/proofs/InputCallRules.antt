-- What the rules say of input, once it is known whether a line is there to read.
use Rattle.std.proofs.Common.{◌≡◌, ℕ, [], refl, ap, ◌∙◌}
use Rattle.std.specs.Prelude.{Bool, true, false, if◌then◌else◌, Some, None, Result, Ok, Err}
use Rattle.std.specs.Prelude.{IsOk, is_ok}
use Rattle.wasi_abi.specs.declared.answer.Question.{Question}
use Rattle.wasi_abi.specs.declared.answer.Question.TheVariants as question
use Rattle.wasi_abi.specs.declared.answer.Answer.{Answer}
use Rattle.wasi_abi.specs.declared.answer.Answer.TheVariants as answer
use Rattle.wasi_abi.specs.rules.Answers.{Fits}
use Rattle.wasi_abi.specs.rules.Versions.{text_limit}
use Rattle.wasi_calls_rules.specs.WasiStates.{WasiState}
use Rattle.wasi_calls_rules.specs.Checks.{Bytes, Halt, Asks, ◌>>=◌, asked, does_fit, answered_by}
use Rattle.wasi_calls_rules.specs.Moving.{has_bytes}
use Rattle.wasi_calls_rules.proofs.Fitting.{tests_tell}
use Rattle.wasi_calls.specs.Moves.{supplied, line_taken}

fit_test : (limit : ℕ) (k : Question) (a : Answer) → Fits limit k a → does_fit limit k a ≡ true
fit_test limit k a fits = (tests_tell limit k a).1 fits

no_fit_test : (limit : ℕ) (k : Question) (a : Answer) → (Fits limit k a → ⊥)
    → does_fit limit k a ≡ false
no_fit_test limit k a none = by_test (does_fit limit k a) refl where
  by_test : (p : Bool) → does_fit limit k a ≡ p → p ≡ false
  by_test true e = absurd (none ((tests_tell limit k a).0 e))
  by_test false e = refl

-- an answer that fits is taken
pub takes_answer : (h : WasiState) (k : Question) (a : Answer) → Fits (text_limit h.version) k a
    → answered_by h k (Some a) ≡ Ok a
takes_answer h k a fits =
    ap (λ (p : Bool). asked k (if p then Some a else None))
    (fit_test (text_limit h.version) k a fits)

-- one that doesn't fit is asked for again
pub asks_for_another : (h : WasiState) (k : Question) (a : Answer)
    → (Fits (text_limit h.version) k a → ⊥) → answered_by h k (Some a) ≡ Err (Asks k)
asks_for_another h k a no_fit =
    ap (λ (p : Bool). asked k (if p then Some a else None))
    (no_fit_test (text_limit h.version) k a no_fit)

-- a line that fits is taken
line_is_taken : (limit : ℕ) (a : Answer) (h : WasiState) → Fits limit question.Request a
    → IsOk (line_taken a h)
line_is_taken limit (answer.Request text) h fits = refl
line_is_taken limit answer.End h fits = refl
line_is_taken limit _ h fits = absurd fits

module _ (h : WasiState) (a : Answer) (none : h.unread ≡ []) (open_still : h.input_ended
    ≡ false) where
  -- what is done with an answer, by whether it fits
  abbrev by_fit : Bool → Result WasiState Halt
  by_fit p = asked question.Request (if p then Some a else None) >>= λ x. line_taken x h

  supplied_is : supplied (Some a) h ≡ by_fit (does_fit (text_limit h.version) question.Request a)
  supplied_is =
      ap (λ (x : Bytes). if has_bytes x then Ok h else if h.input_ended then Ok h
      else by_fit (does_fit (text_limit h.version) question.Request a)) none
      ∙ ap (λ (p : Bool). if p then Ok h else by_fit (does_fit (text_limit h.version)
      question.Request a)) open_still

  pub asks_again : (Fits (text_limit h.version) question.Request a → ⊥) → supplied (Some a) h
      ≡ Err (Asks question.Request)
  asks_again no_fit = supplied_is ∙ ap by_fit (no_fit_test (text_limit h.version)
      question.Request a no_fit)

  pub takes_line : (r : Result WasiState Halt) → Fits (text_limit h.version) question.Request a
      → line_taken a h ≡ r → supplied (Some a) h ≡ r
  takes_line r fits is = supplied_is ∙ ap by_fit (fit_test (text_limit h.version)
      question.Request a fits) ∙ is

  pub is_supplied : Fits (text_limit h.version) question.Request a → IsOk (supplied (Some a) h)
  is_supplied fits = ap is_ok (takes_line (line_taken a h) fits refl)
      ∙ line_is_taken (text_limit h.version) a h fits
