-- Lines that are refused.
use Rattle.std.proofs.Common.{inl, inr, ◌≡◌, ◌≢◌, ℕ, ◌+◌, ◌-◌, ◌^◌, ◌<◌, ◌≤◌, Bool, true, false}
use Rattle.std.proofs.Common.{List, [], ◌∷◌, ◌++◌, All, None, Some, cond, length, take, drop, codes}
use Rattle.std.proofs.Common.{refl, sym, ap, subst, ◌∙◌, arith, take-append-drop, length-take-le}
use Rattle.std.proofs.Common.{take-take, append_assoc, length-append}
use Rattle.std.specs.Prelude.{Option, IfSome, OnSome}
use Rattle.std.specs.Fmt.{decimal}
use Rattle.std.proofs.lemmas.Fmt.{length-decimal-le}
use Rattle.std.proofs.BufReadLemmas.{take_through-append, take_through-nil}
use Rattle.std.specs.Io.{StartsWith, StopsAt}
use Rattle.std.specs.Io.BufRead.{take_through, strip_last, first_piece, ends_with_byte}
use Rattle.std.specs.Io.KnownBytes.{Consumes, IsAtEnd, Keeps}
use Rattle.wasi_abi.specs.rules.Answers.{newline}
use Rattle.command_words.specs.declared.lines.fault.LineFault.{LineFault}
use Rattle.command_words.specs.declared.lines.fault.LineFault.TheVariants as fault
use Rattle.command_words.specs.declared.lines.request.Request.TheVariants as request
use Rattle.command_words.specs.rules.Texts.{IsRequestLine}
use Rattle.command_words.specs.rules.Requests.{GiveUpTo, BeginsWithOther}
use Rattle.command_words.specs.Lines.Reads.{IsFaultOfReading, IsFaultOfLine, GrowsTooLong}
use Rattle.command_words.specs.Lines.Reads.{BeginsTooLong, AreSome}
use Rattle.command_words.specs.Lines.Answers.{MissesNext}
use Rattle.command_words.proofs.LineLemmas.Passing.{behind_passed, if_some_map, up_to_here}

-- ---- how long a line is

few_digits : (n : ℕ) → n < 2 ^ 63 → length (decimal n) ≤ 19
few_digits n small = length-decimal-le 19 n (omega arith) (omega (arith, small))
    (omega (arith, small))

request_is_short : (most : ℕ) (line : List ℕ) → IsRequestLine most line → length line ≤ most + 22
request_is_short most line (request.Text number text, numbered, short, is) =
    let digits = few_digits number numbered.1 in
    let same : length line ≡ length (decimal number ++ codes " r " ++ text.now) = ap length is in
    let whole = length-append (decimal number ++ codes " r ") text.now in
    let front = length-append (decimal number) (codes " r ") in
    omega (arith, digits, same, whole, front, short)
request_is_short most line (request.End number, numbered, short, is) =
    let digits = few_digits number numbered.1 in
    let same : length line ≡ length (decimal number ++ codes " e") = ap length is in
    let first = length-append (decimal number) (codes " e") in
    omega (arith, digits, same, first)

stripped_by : (b : Bool) (xs : List ℕ)
    → length xs ≤ length (cond b (take (length xs - 1) xs) xs) + 1
stripped_by true xs = let long = length-take-le (length xs - 1) xs (omega arith)
    in omega (arith, long)
stripped_by false xs = omega arith

-- a newline is one byte
stripped_length : (xs : List ℕ) → length xs ≤ length (strip_last newline xs) + 1
stripped_length xs = stripped_by (ends_with_byte newline xs) xs

-- what stops at a newline is within the first line
stops_within : (piece rest : List ℕ) → StopsAt piece newline
    → length piece ≤ length (take_through newline (piece ++ rest))
stops_within [] rest stops = omega arith
stops_within (x ∷ xs) rest stops = omega (arith, whole, cut, some)
  where
    part : List ℕ
    part = x ∷ xs

    front : List ℕ
    front = take (length part - 1) part

    back : List ℕ
    back = drop (length part - 1) part

    joined : part ++ rest ≡ front ++ (back ++ rest)
    joined = ap (λ l. l ++ rest) (sym (take-append-drop (length part - 1) part))
        ∙ append_assoc front back rest

    whole : length (take_through newline (part ++ rest)) ≡ length front + length
        (take_through newline (back ++ rest))
    whole = ap (λ l. length (take_through newline l)) joined
        ∙ ap length (take_through-append newline front (back ++ rest) stops)
        ∙ length-append front (take_through newline (back ++ rest))

    cut : length front ≡ length xs
    cut = let long = length-take-le (length part - 1) part (omega arith) in omega (arith, long)

    lost : length (take_through newline (back ++ rest)) ≡ 0 → ⊥
    lost none =
        let nothing = ap length (take_through-nil newline (back ++ rest) none) in
        let parts = ap length (sym (take-append-drop (length part - 1) part))
        ∙ length-append front back in
        let sum = length-append back rest in
        omega (arith, nothing, parts, sum, cut)

    some : 0 < length (take_through newline (back ++ rest))
    some = omega (arith, lost)

-- ---- reading a line

-- where nothing is shown of known bytes, they have come to their end
pub ends_kept : (a b : Option (List ℕ)) (shown : List ℕ) → Keeps a b
    → IfSome a (λ xs. length shown ≡ 0 → xs ≡ []) → length shown ≡ 0 → OnSome a (IsAtEnd b)
ends_kept None b shown kept end none = tt
ends_kept (Some xs) None shown kept end none = absurd kept
ends_kept (Some xs) (Some ys) shown kept end none = kept ∙ end none

-- what is shown of known bytes, up to where it stops
pub begins_with : (limit : ℕ) (a : Option (List ℕ)) (line shown : List ℕ) (n : ℕ)
    → n ≤ length shown → IfSome a (λ xs. StartsWith xs shown)
    → StopsAt (take n shown) newline → limit ≤ length line + n → IfSome a (GrowsTooLong limit line)
begins_with limit None line shown n within front stops long = tt
begins_with limit (Some xs) line shown n within front stops long =
    let count : length (take n shown) ≡ n = length-take-le n shown within in
    record {
      piece = take n shown;
      front = ap (λ k. take k xs) count ∙ sym (take-take n (length shown) xs within)
          ∙ ap (take n) front;
      stops = stops;
      long = omega (arith, count, long);
    }

long_line : (most limit : ℕ) (line bytes : List ℕ) → most + 24 ≤ limit
    → All (λ x. x ≢ newline) line → GrowsTooLong limit line bytes
    → BeginsTooLong most (line ++ bytes)
long_line most limit line bytes within_limit free grows =
    let split : bytes ≡ grows.piece ++ drop (length grows.piece) bytes =
    sym (take-append-drop (length grows.piece) bytes)
    ∙ ap (λ l. l ++ drop (length grows.piece) bytes) grows.front in
    let within = subst (λ l. length grows.piece ≤ length (take_through newline l)) (sym split)
    (stops_within grows.piece (drop (length grows.piece) bytes) grows.stops) in
    let through = ap length (take_through-append newline line bytes free)
    ∙ length-append line (take_through newline bytes) in
    let cut = stripped_length (take_through newline (line ++ bytes)) in
    let long = grows.long in
    omega (arith, within_limit, within, through, cut, long)

read_too_long : (most limit : ℕ) (a b : Option (List ℕ)) (line : List ℕ) → most + 24 ≤ limit
    → Consumes a b line → All (λ x. x ≢ newline) line
    → IfSome b (GrowsTooLong limit line) → IfSome a (BeginsTooLong most)
read_too_long most limit None b line within read free grows = tt
read_too_long most limit (Some xs) None line within read free grows = absurd read
read_too_long most limit (Some xs) (Some ys) line within read free grows =
    subst (BeginsTooLong most) (sym read) (long_line most limit line ys within free grows)

-- bytes after others are bytes
some_behind : (line bytes : List ℕ) → AreSome bytes → AreSome (line ++ bytes)
some_behind line [] some = absurd (some refl)
some_behind line (y ∷ ys) some = λ none. let e = ap length none in let long =
    length-append line (y ∷ ys) in omega (arith, e, long)

some_read : (a b : Option (List ℕ)) (line : List ℕ) → Consumes a b line → IfSome b AreSome
    → IfSome a AreSome
some_read None b line read some = tt
some_read (Some xs) None line read some = absurd read
some_read (Some xs) (Some ys) line read some = subst AreSome (sym read) (some_behind line ys some)

pub fails_reading : (most limit : ℕ) (a b : Option (List ℕ)) (line : List ℕ)
    (failed now failed' : Bool) (why : LineFault) → most + 24 ≤ limit
    → Consumes a b line → All (λ x. x ≢ newline) line → now ≡ failed
    → IsFaultOfReading (IfSome b (GrowsTooLong limit line)) (IfSome b AreSome) now failed' why
    → IsFaultOfLine most a failed failed' why
fails_reading most limit a b line failed now failed' fault.Form within read free e fails =
    (read_too_long most limit a b line within read free fails.0, fails.1 ∙ e)
fails_reading most limit a b line failed now failed' fault.Read within read free e fails = fails
fails_reading most limit a b line failed now failed' fault.Memory within read free e (inl fails) =
    inl fails
fails_reading most limit a b line failed now failed' fault.Memory within read free e (inr fails) =
    inr (some_read a b line read fails.0, fails.1 ∙ e)
fails_reading most limit a b line failed now failed' fault.Clock within read free e fails =
    absurd fails
fails_reading most limit a b line failed now failed' fault.Words within read free e fails =
    absurd fails
fails_reading most limit a b line failed now failed' (fault.Number given wanted) within read free e
    fails = absurd fails

pub some_bytes : (a : Option (List ℕ)) (line : List ℕ)
    → IfSome a (λ xs. line ≡ take_through newline xs) → 0 < length line
    → IfSome a (λ bytes. bytes ≢ [])
some_bytes None line is some = tt
some_bytes (Some xs) line is some = λ none. let e = ap length (is ∙ ap (take_through newline) none)
    in omega (arith, e, some)

-- ---- behind taken requests

too_long_is_other : (limit : ℕ) (bytes : List ℕ) → BeginsTooLong limit bytes
    → BeginsWithOther limit bytes
too_long_is_other limit bytes long = (
  λ none. let e = ap (λ l. length (first_piece newline l)) none in omega (arith, e, long),
  λ line. let short = request_is_short limit (first_piece newline bytes) line
      in omega (arith, short, long),
)

module _ (limit before : ℕ) (a b : Option (List ℕ))
    (front : GiveUpTo limit before a [] (λ rest. b ≡ Some rest)) where
  -- what holds of the lines that are left
  pub holds_behind : (P : List ℕ → Type 0) → IfSome b P → GiveUpTo limit before a [] P
  holds_behind P h = behind_passed limit before a b [] P front (up_to_here limit before b P h)

  pub misses_line : (failed now failed' : Bool) (why : LineFault) → now ≡ failed
      → IsFaultOfLine limit b now failed' why → MissesNext limit before a [] failed failed' why
  misses_line failed now failed' fault.Form e fails = (
    holds_behind (BeginsWithOther limit)
        (if_some_map b (BeginsTooLong limit) (BeginsWithOther limit) (too_long_is_other limit)
        fails.0),
    fails.1 ∙ e,
  )
  misses_line failed now failed' fault.Read e fails = fails
  misses_line failed now failed' fault.Memory e (inl fails) = inl fails
  misses_line failed now failed' fault.Memory e (inr fails) =
      inr (holds_behind AreSome fails.0, fails.1 ∙ e)
  misses_line failed now failed' fault.Clock e fails = absurd fails
  misses_line failed now failed' fault.Words e fails = absurd fails
  misses_line failed now failed' (fault.Number given wanted) e fails = absurd fails
