-- Line after line of a reader.
use Rattle.std.proofs.Common.{◌≡◌, ℕ, ◌+◌, ◌≤◌, List, [], ◌∷◌, ◌++◌, length, None, Some, refl, sym}
use Rattle.std.proofs.Common.{subst, ◌∙◌, arith, append_assoc, append-nil, length-append}
use Rattle.std.specs.Prelude.{Option, IfSome}
use Rattle.std.specs.Io.BufRead.{first_piece, drop_through, DropsThrough}
use Rattle.wasi_abi.specs.declared.answer.Answer.{Answer}
use Rattle.wasi_abi.specs.rules.Answers.{newline}
use Rattle.process_rules.specs.Runs.{Kept, Given}
use Rattle.command_words.specs.declared.lines.request.Request.{Request}
use Rattle.command_words.specs.rules.Numbers.{IsNumberedRequest, request_number}
use Rattle.command_words.specs.rules.Requests.{answer_in, BeginsWithRequest, GivesAnswers, none}
use Rattle.command_words.specs.rules.Requests.{passed, taken, GiveUpTo}
use Rattle.command_words.specs.rules.Texts.{IsShortRequest, request_line}

-- answers behind others
pub gives_on : (limit before : ℕ) (bytes : List ℕ) (kept : List Kept) (mid : List ℕ)
    → GivesAnswers limit before bytes kept mid
    → (more : List Kept) (rest : List ℕ) → GivesAnswers limit (before + length kept) mid more rest
    → GivesAnswers limit before bytes (kept ++ more) rest
gives_on limit before bytes kept mid front _ _ none =
    subst (λ k. GivesAnswers limit before bytes k mid) (sym (append-nil kept)) front
gives_on limit before bytes kept mid front more _ (passed _ rest r gives begins earlier) =
    let long = length-append kept more in
    passed (kept ++ more) rest r (gives_on limit before bytes kept mid front more rest gives) begins
    (omega (arith, earlier, long))
gives_on limit before bytes kept mid front _ _ (taken more rest r gives begins next) =
    let long = length-append kept more in
    subst (λ k. GivesAnswers limit before bytes k (drop_through newline rest))
    (append_assoc kept more (Given (answer_in r) ∷ []))
    (taken (kept ++ more) rest r (gives_on limit before bytes kept mid front more rest gives) begins
    (omega (arith, next, long)))

pub up_to_on : (limit before : ℕ) (lines now : Option (List ℕ)) (kept more : List Kept) (P : List ℕ
    → Type 0)
    → GiveUpTo limit before lines kept (λ rest. now ≡ Some rest)
    → GiveUpTo limit (before + length kept) now more P
    → GiveUpTo limit before lines (kept ++ more) P
up_to_on limit before None now kept more P front back = tt
up_to_on limit before (Some bytes) now kept more P front back =
    let here : GiveUpTo limit (before + length kept) (Some front.0) more P =
    subst (λ z. GiveUpTo limit (before + length kept) z more P) front.2 back in
    (here.0, gives_on limit before bytes kept front.0 front.1 more here.0 here.1, here.2)

none_more : (n : ℕ) → n ≡ n + 0
none_more n = omega arith

-- after taken requests alone
pub behind_passed : (limit before : ℕ) (lines now : Option (List ℕ)) (more : List Kept) (P : List ℕ
    → Type 0)
    → GiveUpTo limit before lines [] (λ rest. now ≡ Some rest) → GiveUpTo limit before now more P
    → GiveUpTo limit before lines more P
behind_passed limit before lines now more P front back =
    up_to_on limit before lines now [] more P front
    (subst (λ n. GiveUpTo limit n now more P) (none_more before) back)

pub up_to_map : (limit before : ℕ) (lines : Option (List ℕ)) (kept : List Kept)
    (P Q : List ℕ → Type 0) → ((rest : List ℕ) → P rest → Q rest)
    → GiveUpTo limit before lines kept P → GiveUpTo limit before lines kept Q
up_to_map limit before None kept P Q f h = tt
up_to_map limit before (Some bytes) kept P Q f h = (h.0, h.1, f h.0 h.2)

pub if_some_map : (a : Option (List ℕ)) (P Q : List ℕ → Type 0)
    → ((bytes : List ℕ) → P bytes → Q bytes) → IfSome a P → IfSome a Q
if_some_map None P Q f h = tt
if_some_map (Some bytes) P Q f h = f bytes h

-- no line is read
pub up_to_here : (limit before : ℕ) (lines : Option (List ℕ)) (P : List ℕ → Type 0) → IfSome lines P
    → GiveUpTo limit before lines [] P
up_to_here limit before None P h = tt
up_to_here limit before (Some bytes) P h = (bytes, none, h)

pub passed_nothing : (limit before : ℕ) (lines : Option (List ℕ))
    → GiveUpTo limit before lines [] (λ rest. lines ≡ Some rest)
passed_nothing limit before None = tt
passed_nothing limit before (Some bytes) = (bytes, none, refl)

-- a line of the reader at b, which is this request's
module _ (limit before : ℕ) (line : List ℕ) (r : Request) (numbered : IsNumberedRequest r)
    (short : IsShortRequest limit r) (spelled : line ≡ request_line r) where
  begins : (bytes : List ℕ) → line ≡ first_piece newline bytes → BeginsWithRequest limit bytes r
  begins bytes is = record { numbered = numbered; short = short; line = sym is ∙ spelled }

  pub steps_over : (b c : Option (List ℕ)) → IfSome b (λ bytes. line ≡ first_piece newline bytes)
      → DropsThrough b c newline → request_number r ≤ before
      → GiveUpTo limit before b [] (λ rest. c ≡ Some rest)
  steps_over None c is rest earlier = tt
  steps_over (Some bytes) c is rest earlier = (
    drop_through newline bytes,
    passed [] bytes r none (begins bytes is)
        (omega (arith, earlier)),
    rest,
  )

  pub takes_request : (b c : Option (List ℕ))
      → IfSome b (λ bytes. line ≡ first_piece newline bytes) → DropsThrough b c newline
      → request_number r ≡ before + 1
      → GiveUpTo limit before b (Given (answer_in r) ∷ []) (λ rest. c ≡ Some rest)
  takes_request None c is rest next = tt
  takes_request (Some bytes) c is rest next = (
    drop_through newline bytes,
    taken [] bytes r none (begins bytes is) (omega (arith, next)),
    rest,
  )

-- an answer is the same under another name
pub is_given : (limit before : ℕ) (lines : Option (List ℕ)) (a b : Answer) (P : List ℕ → Type 0)
    → a ≡ b → GiveUpTo limit before lines (Given b ∷ []) P
    → GiveUpTo limit before lines (Given a ∷ []) P
is_given limit before lines a b P e h =
    subst (λ x. GiveUpTo limit before lines (Given x ∷ []) P) (sym e) h
