-- The whole lines at the front of a text, found from its end.
use Rattle.std.proofs.Common.{◌≡◌, ◌≢◌, ℕ, ◌+◌, ◌-◌, ◌≤◌, ◌<◌, List, [], ◌∷◌, ◌++◌, All, length}
use Rattle.std.proofs.Common.{◌⊎◌, inl, inr, Bool, true, false, if◌then◌else◌, Option, Some, None}
use Rattle.std.proofs.Common.{nat_lt, take, drop, get_or, refl, sym, ap, ◌∙◌, subst, true≢false}
use Rattle.std.proofs.Common.{arith}
use Rattle.std.proofs.lemmas.Bool.{ltb-false}
use Rattle.std.proofs.lemmas.List.{append-nil, append_assoc, append_cancel_left, length-append}
use Rattle.std.proofs.lemmas.List.{nil_from_length, take-append-drop, take_more}
use Rattle.std.proofs.lemmas.List.Elements.{All-nil}
use Rattle.wasi_abi.specs.rules.Answers.{IsNoNewline}
use Rattle.std.specs.Io.KnownBytes.{Consumes, IsAtEnd}
use Rattle.std.proofs.Math.Seq.{drop-append_seam}
use Rattle.command_words.specs.declared.lines.whole.TheConstants.{MOST_LEFT}
use Rattle.command_words.specs.rules.WholeLines.{GivesWhole, IsGivable, IsWholeFront}
use Rattle.command_words.specs.rules.WholeLines.{ReadsBehind, TakesIn}

-- there is no newline
pub no_whole_line : (bytes : List ℕ) (end : ℕ) → end ≡ 0
    → All (λ x. x ≢ 10) (drop end bytes) → IsWholeFront bytes (take end bytes)
no_whole_line bytes end none unended = record {
  rest = drop end bytes;
  is = sym (take-append-drop end bytes);
  ends = inl (ap (λ n. take n bytes) none);
  unended = unended;
}

-- the last one is right before the rest
pub whole_through : (bytes : List ℕ) (end : ℕ) → 0 < end → end ≤ length bytes
    → get_or bytes (end - 1) 0 ≡ 10
    → All (λ x. x ≢ 10) (drop end bytes) → IsWholeFront bytes (take end bytes)
whole_through bytes end some bound newline_at unended =
    let last : end ≡ (end - 1) + 1 = omega (arith, some) in
    let within : end - 1 < length bytes = omega (arith, some, bound) in
    record {
      rest = drop end bytes;
      is = sym (take-append-drop end bytes);
      ends = inr (
        take (end - 1) bytes,
        ap (λ n. take n bytes) last
            ∙ take_more bytes (end - 1) 0 within
            ∙ ap (λ byte. take (end - 1) bytes ++ byte ∷ []) newline_at,
      );
      unended = unended;
    }

-- a front, and what is behind as many bytes
at_front : (text given rest : List ℕ) → text ≡ given ++ rest
    → text ≡ given ++ drop (length given) text
at_front text given rest is =
    is ∙ ap (λ behind. given ++ behind)
    (sym (ap (drop (length given)) is ∙ drop-append_seam given rest))

-- what may be given is a front
givable_in_front : (text given : List ℕ) → IsGivable text given
    → text ≡ given ++ drop (length given) text
givable_in_front text given it = go it.is
  where
    go : ((length text - length it.front ≤ MOST_LEFT) × (given ≡ it.front))
        ⊎ ((MOST_LEFT < length text - length it.front) × (given ≡ text))
        → text ≡ given ++ drop (length given) text
    go (inl left) = at_front text given it.whole.rest
        (it.whole.is ∙ ap (λ front. front ++ it.whole.rest) (sym left.1))
    go (inr all) = at_front text given []
        (sym all.1 ∙ sym (append-nil given))

-- a list with some length isn't empty, and one with none is
some_given : (given : List ℕ) → nat_lt 0 (length given) ≡ true → given ≢ []
some_given given is none = true≢false (sym is ∙ ap (λ bytes. nat_lt 0 (length bytes)) none)

none_given : (given : List ℕ) → nat_lt 0 (length given) ≡ false → given ≡ []
none_given given is =
    let few : length given ≤ 0 = ltb-false 0 (length given) is in
    nil_from_length given (omega (arith, few))

-- The rest and what came behind it are one text. What may be given of it is moved.
pub takes_in : (bytes lines rest text given lines' rest' : List ℕ) → text ≡ rest ++ bytes
    → IsGivable text given → lines' ≡ lines ++ given → rest' ≡ drop (length given) text
    → TakesIn bytes lines rest (nat_lt 0 (length given)) lines' rest'
takes_in bytes lines rest text given lines' rest' is may moved left = record {
  given = given;
  givable = subst (λ t. IsGivable t given) is may;
  lines_are = moved;
  rest_is = sym is ∙ givable_in_front text given may ∙ ap (λ behind. given ++ behind) (sym left);
  some = some_given given;
  none = none_given given;
}

-- bytes of two reads, one after the other
reads_twice : (old between new : Option (List ℕ)) (first more : List ℕ)
    → Consumes old between first → Consumes between new more → Consumes old new (first ++ more)
reads_twice None between new first more one two = tt
reads_twice (Some xs) None new first more one two = absurd one
reads_twice (Some xs) (Some ys) None first more one two = absurd two
reads_twice (Some xs) (Some ys) (Some zs) first more one two =
    one ∙ ap (λ behind. first ++ behind) two ∙ sym (append_assoc first more zs)

module _ {old between between' new : Option (List ℕ)} {rest now : List ℕ} (bytes : List ℕ)
    (so_far : ReadsBehind old between rest now) (read : Consumes between between' bytes)
    (same : new ≡ between') where
  pub reads_more : {now' : List ℕ} → now ++ bytes ≡ now' → ReadsBehind old new rest now'
  reads_more is = record {
    bytes = so_far.bytes ++ bytes;
    read = reads_twice old between new so_far.bytes bytes so_far.read
        (subst (λ reader. Consumes between reader bytes) (sym same) read);
    is = sym (append_assoc rest so_far.bytes bytes) ∙ ap (λ front. front ++ bytes) so_far.is ∙ is;
  }

-- of a reader that leaves a rest nothing is said
pub unsaid : (leaves leaves' : Bool) (old new : Option (List ℕ)) (bytes : List ℕ) (P Q : Type 0)
    → leaves ≡ true → leaves' ≡ true
    → Consumes (if leaves then None else old) (if leaves' then None else new) bytes
    × (P → Q → IsAtEnd (if leaves' then None else new))
unsaid true true old new bytes P Q is is' = (tt, λ p q. tt)
unsaid false leaves' old new bytes P Q is is' = absurd (true≢false (sym is))
unsaid true false old new bytes P Q is is' = absurd (true≢false (sym is'))

-- of a short rest without a newline nothing may be given
all_left : (text : List ℕ) → All IsNoNewline text → length text ≤ MOST_LEFT → IsGivable text []
all_left text unended few = record {
  front = [];
  whole = record { rest = text; is = refl; ends = inl refl; unended = unended };
  is = inl ((omega (arith, few)), refl);
}

module _ {bytes lines rest : List ℕ} {some : Bool} {lines' rest' : List ℕ}
    (taken : TakesIn bytes lines rest some lines' rest') where
  -- where nothing was moved, nothing may be given
  pub left_behind : taken.given ≡ [] → IsGivable rest' []
  left_behind none =
      subst (λ text. IsGivable text [])
      (taken.rest_is ∙ ap (λ given. given ++ rest') none)
      (subst (λ given. IsGivable (rest ++ bytes) given) none taken.givable)

  -- behind what was moved nothing may be given
  nothing_left : IsGivable rest' []
  nothing_left = go taken.givable.is
    where
      go : ((length (rest ++ bytes) - length taken.givable.front ≤ MOST_LEFT)
          × (taken.given ≡ taken.givable.front))
          ⊎ ((MOST_LEFT < length (rest ++ bytes) - length taken.givable.front)
          × (taken.given ≡ rest ++ bytes)) → IsGivable rest' []
      go (inl left) =
          let whole = taken.givable.whole in
          let same : whole.rest ≡ rest' = append_cancel_left taken.givable.front whole.rest rest'
          (sym whole.is ∙ taken.rest_is ∙ ap (λ front. front ++ rest') left.1) in
          let size : length (rest ++ bytes) ≡ length taken.givable.front + length whole.rest =
          ap length whole.is ∙ length-append taken.givable.front whole.rest in
          let few : length whole.rest ≤ MOST_LEFT =
          (let most = left.0 in omega (arith, most, size)) in
          subst (λ text. IsGivable text []) same (all_left whole.rest whole.unended few)
      go (inr all) =
          let none : [] ≡ rest' = append_cancel_left taken.given [] rest'
          (append-nil taken.given ∙ all.1 ∙ taken.rest_is) in
          subst (λ text. IsGivable text []) none (all_left [] (All-nil IsNoNewline) (omega arith))

  -- where there were no lines
  pub gives_whole : lines ≡ [] → GivesWhole lines' rest'
  gives_whole none =
      let moved : lines' ≡ taken.given = taken.lines_are
      ∙ ap (λ before. before ++ taken.given) none in
      record {
        given = subst (λ text. IsGivable text lines')
            (taken.rest_is ∙ ap (λ given. given ++ rest') (sym moved))
            (subst (λ given. IsGivable (rest ++ bytes) given) (sym moved) taken.givable);
        left = nothing_left;
      }
