-- A line without a newline, and the answer that its request is.
use Rattle.std.proofs.Common.{◌≡◌, ◌≢◌, ℕ, zero, suc, ◌-◌, List, [], ◌∷◌, ◌++◌, All, Some, length}
use Rattle.std.proofs.Common.{take, slice_get, codes, sym, ap, subst, arith}
use Rattle.std.proofs.lemmas.List.Elements.{All-head, All-tail}
use Rattle.std.specs.Prelude.{Result, Ok, Err, IfOk}
use Rattle.std.specs.Fmt.{decimal}
use Rattle.std.specs.Io.{StopsAt}
use Rattle.std.specs.List.{AllByRecursion}
use Rattle.wasi_abi.specs.declared.answer.Answer.{Answer}
use Rattle.wasi_abi.specs.declared.answer.Question.TheVariants as questions
use Rattle.wasi_abi.specs.rules.Answers.{AreBytes, Fits, IsNoNewline, newline}
use Rattle.command_words.specs.declared.lines.fault.LineFault.{LineFault}
use Rattle.command_words.specs.declared.lines.request.Request.{Request}
use Rattle.command_words.specs.declared.lines.request.Request.TheVariants as request
use Rattle.command_words.specs.rules.Requests.{answer_in}
use Rattle.command_words.specs.rules.Texts.{IsShortRequest, request_line}

free_to : (n : ℕ) (xs : List ℕ) → length xs ≡ suc n → slice_get xs n ≢ Some newline
    → All (λ x. x ≢ newline) (take n xs) → AllByRecursion IsNoNewline xs
free_to n [] long last front = tt
free_to zero (x ∷ []) long last front = (λ e. last (ap Some e), tt)
free_to zero (x ∷ y ∷ ys) long last front = absurd (omega (arith, long))
free_to (suc n) (x ∷ xs) long last front = (
  All-head (λ z. z ≢ newline) x (take n xs) front,
  free_to n xs (omega (arith, long)) last
      (All-tail (λ z. z ≢ newline) x (take n xs) front),
)

-- a line that doesn't end with its only newline has none
pub is_free : (line : List ℕ) → slice_get line (length line - 1) ≢ Some newline
    → StopsAt line newline → AllByRecursion IsNoNewline line
is_free [] last front = tt
is_free (x ∷ xs) last front =
    let n : length (x ∷ xs) - 1 ≡ length xs = omega arith in
    free_to (length xs) (x ∷ xs) (omega arith)
    (subst (λ k. slice_get (x ∷ xs) k ≢ Some newline) n last)
    (subst (λ k. All (λ z. z ≢ newline) (take k (x ∷ xs))) n front)

free_back : (front back : List ℕ) → AllByRecursion IsNoNewline (front ++ back)
    → AllByRecursion IsNoNewline back
free_back [] back h = h
free_back (x ∷ front) back h = free_back front back h.1

-- the text of a request is of bytes
abbrev pub HasBytes : Request → Type 0
HasBytes (request.Text number text) = AreBytes text.now
HasBytes (request.End number) = Unit {0}

-- the answer of a line without a newline fits
answer_fits : (limit : ℕ) (r : Request) (a : Answer) → a ≡ answer_in r → HasBytes r
    → IsShortRequest limit r → AllByRecursion IsNoNewline (request_line r)
    → Fits limit questions.Request a
answer_fits limit (request.Text number text) a is bytes short free =
    let no_newline = free_back (decimal number ++ codes " r ") text.now free in
    subst (Fits limit questions.Request) (sym is)
    (record { short = short; are_bytes = bytes; no_newline = no_newline })
answer_fits limit (request.End number) a is bytes short free =
    subst (Fits limit questions.Request) (sym is) tt

pub told_fits : (limit : ℕ) (r : Request) (told : Result Answer LineFault)
    → IfOk told (λ a. a ≡ answer_in r) → HasBytes r → IsShortRequest limit r
    → AllByRecursion IsNoNewline (request_line r) → IfOk told (Fits limit questions.Request)
told_fits limit r (Ok a) is bytes short free = answer_fits limit r a is bytes short free
told_fits limit r (Err fault) is bytes short free = tt
