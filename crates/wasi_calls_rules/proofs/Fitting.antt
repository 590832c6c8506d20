-- An answer passes the rules' test exactly where it fits.
use Rattle.std.proofs.Common.{ℕ, [], ◌∷◌, length, refl}
use Rattle.std.specs.Prelude.{◌==◌, ◌&&◌, ◌^◌, not, nat_le, nat_lt}
use Rattle.std.specs.Bool.{Decides}
use Rattle.std.specs.List.{AllByRecursion}
use Rattle.std.proofs.lemmas.Bool.{leb-true, le-leb}
use Rattle.std.proofs.lemmas.Bool.Decides.{Decides-and, Decides-eqb, Decides-ltb, Decides-like}
use Rattle.std.proofs.lemmas.Bool.Decides.{Decides-not}
use Rattle.wasi_abi.specs.declared.answer.Question.TheVariants as question
use Rattle.wasi_abi.specs.declared.answer.Answer.TheVariants as answer
use Rattle.wasi_abi.specs.rules.Answers.{newline, IsNoNewline, AreBytes, IsRequestText}
use Rattle.wasi_abi.specs.rules.Answers.{AreSoManyBytes}
use Rattle.wasi_calls_rules.specs.Checks.{Bytes, has_bytes_alone, has_no_newline}
use Rattle.wasi_calls_rules.specs.laws.Laws.{TestsTellWhatFits}

pub no_newline : (text : Bytes) → Decides (has_no_newline text) (AllByRecursion IsNoNewline text)
no_newline [] = (λ _. tt, λ _. refl)
no_newline (b ∷ text) =
    Decides-and (not (b == newline)) (has_no_newline text) (Decides-not (b
    == newline) (Decides-eqb b newline)) (no_newline text)

bytes_alone : (bytes : Bytes) → Decides (has_bytes_alone bytes) (AreBytes bytes)
bytes_alone [] = (λ _. tt, λ _. refl)
bytes_alone (b ∷ bytes) =
    Decides-and (nat_lt b 256) (has_bytes_alone bytes) (Decides-ltb b 256) (bytes_alone bytes)

request_text : (limit : ℕ) (text : Bytes)
    → Decides (nat_le (length text) limit && (has_bytes_alone text && has_no_newline text))
    (IsRequestText limit text)
request_text limit text =
    Decides-like _ (λ p. record { short = p.0; are_bytes = p.1.0; no_newline = p.1.1 })
    (λ is. (is.short, (is.are_bytes, is.no_newline)))
    (Decides-and (nat_le (length text) limit) (has_bytes_alone text && has_no_newline text)
    (leb-true (length text) limit, le-leb (length text) limit)
    (Decides-and (has_bytes_alone text) (has_no_newline text) (bytes_alone text) (no_newline text)))

so_many : (n : ℕ) (bytes : Bytes)
    → Decides ((length bytes == n) && has_bytes_alone bytes) (AreSoManyBytes n bytes)
so_many n bytes =
    Decides-like _ (λ p. record { count = p.0; are_bytes = p.1 })
    (λ are. (are.count, are.are_bytes))
    (Decides-and (length bytes == n) (has_bytes_alone bytes) (Decides-eqb (length bytes) n)
    (bytes_alone bytes))

pub tests_tell : TestsTellWhatFits
tests_tell limit question.Request (answer.Request text) = request_text limit text
tests_tell limit question.Request answer.End = (λ _. tt, λ _. refl)
tests_tell limit question.Realtime (answer.Realtime n) = Decides-ltb n (2 ^ 64)
tests_tell limit question.Monotonic (answer.Monotonic n) = Decides-ltb n (2 ^ 64)
tests_tell limit (question.Random n) (answer.Random bytes) = so_many n bytes
tests_tell limit k a = (λ e. absurd (cc), λ none. absurd none)
