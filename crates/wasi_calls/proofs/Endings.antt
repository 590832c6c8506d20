-- How many bytes come before the first newline, of runs of bytes one after another.
use Rattle.std.proofs.Common.{◌≡◌, ℕ, suc, ◌+◌, ◌<◌, [], ◌∷◌, ◌++◌, length, refl, ◌∙◌, arith}
use Rattle.std.specs.Prelude.{Bool, true, false, cond, eqb, ◌==◌, ◌&&◌, not}
use Rattle.std.specs.List.{prefix_len}
use Rattle.std.proofs.lemmas.List.Folds.{prefix_len-append}
use Rattle.wasi_abi.specs.rules.Answers.{newline}
use Rattle.wasi_calls_rules.specs.Checks.{Bytes, has_no_newline}

-- a byte that is no newline
abbrev pub is_text : ℕ → Bool
is_text b = not (b == newline)

chosen_all : (l n m : ℕ) → l ≡ n → cond (eqb l n) (n + m) l ≡ n + m
chosen_all l n m e = grind arith

chosen_own : (l n m : ℕ) → l < n → cond (eqb l n) (n + m) l ≡ l
chosen_own l n m lt = grind arith

pub goes_on : (xs ys : Bytes) → prefix_len is_text xs ≡ length xs
    → prefix_len is_text (xs ++ ys) ≡ length xs + prefix_len is_text ys
goes_on xs ys all =
    prefix_len-append is_text xs ys
    ∙ chosen_all (prefix_len is_text xs) (length xs) (prefix_len is_text ys) all

pub stops_within : (xs ys : Bytes) → prefix_len is_text xs < length xs
    → prefix_len is_text (xs ++ ys) ≡ prefix_len is_text xs
stops_within xs ys few =
    prefix_len-append is_text xs ys
    ∙ chosen_own (prefix_len is_text xs) (length xs) (prefix_len is_text ys) few

pub none_ends : (bytes : Bytes) → prefix_len is_text bytes ≡ length bytes
    → has_no_newline bytes ≡ true
none_ends [] all = refl
none_ends (b ∷ bytes) all = by_test (is_text b) all (none_ends bytes) where
  by_test : (p : Bool) → cond p (1 + prefix_len is_text bytes) 0 ≡ suc (length bytes)
      → (prefix_len is_text bytes ≡ length bytes → has_no_newline bytes ≡ true)
      → (p && has_no_newline bytes) ≡ true
  by_test true e rest = rest (omega (arith, e))
  by_test false e rest = absurd (omega (arith, e))
