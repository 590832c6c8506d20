-- Whole status lines: their parts, and how long they are.
use Rattle.std.proofs.Common.{◌≡◌, ◌≢◌, ◌∙◌, ap, sym, refl, inl, inr, ℕ, ◌+◌, ◌<◌, ◌≤◌, ◌^◌}
use Rattle.std.proofs.Common.{List, [], ◌∷◌, ◌++◌, length, append_assoc, arith, codes, lit≤}
use Rattle.std.specs.Prelude.{Option, None, Some, IfSome}
use Rattle.std.specs.Fmt.{decimal}
use Rattle.std.proofs.lemmas.Fmt.{length-decimal-le}
use Rattle.std.proofs.lemmas.List.{length-append}
use Rattle.wasm_syntax.specs.declared.value.Trap.{Trap}
use Rattle.wasm_syntax.specs.declared.value.Trap.TheVariants as trap
use Rattle.process.specs.declared.stop.ProcessEnd.TheVariants as end
use Rattle.command_words.specs.rules.Texts.{named_number, trap_text}
use Rattle.disk_commands.specs.declared.on_disk.sighting.WatchedState.{WatchedState}
use Rattle.disk_commands.specs.declared.on_disk.sighting.WatchedState.TheVariants as state
use Rattle.disk_commands.specs.StatusLines.{IsBehindNumber, IsBehindNumbers, IsExitWords}
use Rattle.disk_commands.specs.StatusLines.{IsLeftWords, IsOnWords, IsStateWords, IsTrapWords}
use Rattle.disk_commands.specs.StatusLines.{IsWatchWords}
use Rattle.disk_commands.specs.rules.Watchings.{HasCodeInRange, IsStatusLine, status_line}
use Rattle.disk_commands.specs.rules.Watchings.{left_words, state_words, watch_words}

-- ---- words

pub parks : (words : List ℕ) → words ≡ codes "parked\n" → IsWatchWords words
parks words is = (state.Parked, tt, is)

pub exits : (words : List ℕ) → IsExitWords words → IsWatchWords words
exits words (code, small, is) = (state.Ended (end.Exited code), small, is)

pub traps : (words : List ℕ) → IsTrapWords words → IsWatchWords words
traps words (why, is) = (state.Ended (end.Trapped why), tt, is)

-- there are no others
pub known_words : (words : List ℕ) → (IsOnWords words → ⊥) → words ≢ codes "parked\n"
    → (IsExitWords words → ⊥) → IsWatchWords words → IsTrapWords words
known_words words on parks exits (state.Running, fits, is) = absurd (on (inl is))
known_words words on parks exits (state.Waiting, fits, is) = absurd (on (inr is))
known_words words on parks exits (state.Parked, fits, is) = absurd (parks is)
known_words words on parks exits (state.Ended (end.Exited code), fits, is) =
    absurd (exits (code, fits, is))
known_words words on parks exits (state.Ended (end.Trapped why), fits, is) = (why, is)

-- ---- words behind numbers

-- a name with its number, a space, and other words
counted_words : (name : List ℕ) (n : ℕ) (rest : List ℕ)
    → named_number name n ++ codes " " ++ rest ≡ name ++ (decimal n ++ 32 ∷ rest)
counted_words name n rest =
    append_assoc (name ++ decimal n) (32 ∷ []) rest ∙ append_assoc name (decimal n) (32 ∷ rest)

-- ---- words behind the number of sectors

-- no number comes first
pub plain_left : (words : List ℕ) → IsWatchWords words → IsLeftWords words
plain_left words (one, fits, is) =
    record { left = None; is = one; left_fits = tt; code_fits = fits; spelled = is }

-- the number, and then the words
pub counted_left : (words rest : List ℕ) (n : ℕ)
    → IsBehindNumber (codes "journal_left ") n words rest → IsWatchWords rest → IsLeftWords words
counted_left words rest n behind (one, fits, is) =
    record {
      left = Some n;
      is = one;
      left_fits = behind.0;
      code_fits = fits;
      spelled = behind.1 ∙ ap (λ t. codes "journal_left " ++ (decimal n ++ 32 ∷ t)) is
          ∙ sym (counted_words (codes "journal_left ") n (watch_words one));
    }

-- Where no such words are alone, they are behind a number.
pub behind_left : (words : List ℕ) → (IsWatchWords words → ⊥) → IsLeftWords words
    → (n : ℕ) × (rest : List ℕ) × IsBehindNumber (codes "journal_left ") n words rest
    × IsWatchWords rest
behind_left words other known =
    by known.left known.left_fits known.spelled
  where
    by : (left : Option ℕ) → IfSome left (λ n. n < 2 ^ 64) → words ≡ left_words left known.is
        → (n : ℕ) × (rest : List ℕ) × IsBehindNumber (codes "journal_left ") n words rest
        × IsWatchWords rest
    by None fit is = absurd (other (known.is, known.code_fits, is))
    by (Some n) fit is = (
      n,
      watch_words known.is,
      (fit, is ∙ counted_words (codes "journal_left ") n (watch_words known.is)),
      (known.is, known.code_fits, refl),
    )

-- ---- words behind the number of requests

-- no number comes first
pub plain_state : (words : List ℕ) → IsWatchWords words → IsStateWords words
plain_state words (one, fits, is) =
    record {
      requests = None;
      left = None;
      is = one;
      requests_fit = tt;
      left_fits = tt;
      code_fits = fits;
      spelled = is;
    }

-- the number, and then the words
pub counted_state : (words rest : List ℕ) (n : ℕ)
    → IsBehindNumber (codes "requests ") n words rest → IsLeftWords rest → IsStateWords words
counted_state words rest n behind known =
    record {
      requests = Some n;
      left = known.left;
      is = known.is;
      requests_fit = behind.0;
      left_fits = known.left_fits;
      code_fits = known.code_fits;
      spelled = behind.1
          ∙ ap (λ t. codes "requests " ++ (decimal n ++ 32 ∷ t)) known.spelled
          ∙ sym (counted_words (codes "requests ") n (left_words known.left known.is));
    }

-- Where no words are alone, others are behind a number.
pub behind_state : (words : List ℕ) → (IsWatchWords words → ⊥) → IsStateWords words
    → (n : ℕ) × (rest : List ℕ) × IsBehindNumber (codes "requests ") n words rest
    × IsLeftWords rest
behind_state words other known =
    by known.requests known.requests_fit known.spelled
  where
    by : (requests : Option ℕ) → IfSome requests (λ n. n < 2 ^ 64)
        → words ≡ state_words requests known.left known.is
        → (n : ℕ) × (rest : List ℕ) × IsBehindNumber (codes "requests ") n words rest
        × IsLeftWords rest
    by None fit is = absurd (other (known.is, known.code_fits, is))
    by (Some n) fit is = (
      n,
      left_words known.left known.is,
      (fit, is ∙ counted_words (codes "requests ") n (left_words known.left known.is)),
      record {
        left = known.left;
        is = known.is;
        left_fits = known.left_fits;
        code_fits = known.code_fits;
        spelled = refl;
      },
    )

-- ---- parts

-- one name and its number more
hop : (front name digits rest : List ℕ) → (front ++ 32 ∷ (name ++ digits)) ++ 32 ∷ rest
    ≡ front ++ 32 ∷ (name ++ (digits ++ 32 ∷ rest))
hop front name digits rest =
    append_assoc front (32 ∷ (name ++ digits)) (32 ∷ rest)
    ∙ ap (λ t. front ++ 32 ∷ t) (append_assoc name digits (32 ∷ rest))

-- in the order in which it is read
in_order : (g p s q a r l t rest : List ℕ)
    → ((((g ++ p) ++ 32 ∷ (s ++ q)) ++ 32 ∷ (a ++ r)) ++ 32 ∷ (l ++ t)) ++ 32 ∷ [] ++ rest
    ≡ g ++ (p ++ 32 ∷ (s ++ (q ++ 32 ∷ (a ++ (r ++ 32 ∷ (l ++ (t ++ 32 ∷ rest)))))))
in_order g p s q a r l t rest =
    append_assoc ((((g ++ p) ++ 32 ∷ (s ++ q)) ++ 32 ∷ (a ++ r)) ++ 32 ∷ (l ++ t)) (32 ∷ []) rest
    ∙ hop (((g ++ p) ++ 32 ∷ (s ++ q)) ++ 32 ∷ (a ++ r)) l t rest
    ∙ hop ((g ++ p) ++ 32 ∷ (s ++ q)) a r (l ++ (t ++ 32 ∷ rest))
    ∙ hop (g ++ p) s q (a ++ (r ++ 32 ∷ (l ++ (t ++ 32 ∷ rest))))
    ∙ append_assoc g p (32 ∷ (s ++ (q ++ 32 ∷ (a ++ (r ++ 32 ∷ (l ++ (t ++ 32 ∷ rest)))))))

line_in_order : (generation steps answers lines : ℕ) (requests left : Option ℕ)
    (is : WatchedState) → status_line generation steps answers lines requests left is
    ≡ codes "generation " ++ (decimal generation
    ++ 32 ∷ (codes "steps " ++ (decimal steps ++ 32 ∷ (codes "answers " ++ (decimal answers
    ++ 32 ∷ (codes "lines " ++ (decimal lines ++ 32 ∷ state_words requests left is)))))))
line_in_order generation steps answers lines requests left is =
    in_order (codes "generation ") (decimal generation) (codes "steps ") (decimal steps)
    (codes "answers ") (decimal answers) (codes "lines ") (decimal lines)
    (state_words requests left is)

pub parts_of : (bytes : List ℕ) (line : IsStatusLine bytes)
    → IsBehindNumbers bytes (state_words line.requests line.left line.is)
parts_of bytes line =
    let rest = state_words line.requests line.left line.is in
    let behind_answers : List ℕ = codes "lines " ++ (decimal line.lines ++ 32 ∷ rest) in
    let behind_steps : List ℕ = codes "answers " ++ (decimal line.answers ++ 32 ∷ behind_answers) in
    let behind_generation : List ℕ = codes "steps " ++ (decimal line.steps ++ 32 ∷ behind_steps) in
    record {
      generation = line.generation;
      steps = line.steps;
      answers = line.answers;
      lines = line.lines;
      behind_generation = behind_generation;
      behind_steps = behind_steps;
      behind_answers = behind_answers;
      first = (
        line.numbers_fit.0,
        line.spelled
            ∙ line_in_order line.generation line.steps line.answers line.lines line.requests
            line.left line.is,
      );
      second = (line.numbers_fit.1, refl);
      third = (line.numbers_fit.2, refl);
      last = (line.numbers_fit.3, refl);
    }

pub line_of : (bytes rest : List ℕ) → IsBehindNumbers bytes rest → IsStateWords rest
    → IsStatusLine bytes
line_of bytes rest b known =
    let g : List ℕ → List ℕ = λ t. codes "generation " ++ (decimal b.generation ++ 32 ∷ t) in
    let s : List ℕ → List ℕ = λ t. g (codes "steps " ++ (decimal b.steps ++ 32 ∷ t)) in
    let a : List ℕ → List ℕ = λ t. s (codes "answers " ++ (decimal b.answers ++ 32 ∷ t)) in
    let l : List ℕ → List ℕ = λ t. a (codes "lines " ++ (decimal b.lines ++ 32 ∷ t)) in
    record {
      generation = b.generation;
      steps = b.steps;
      answers = b.answers;
      lines = b.lines;
      requests = known.requests;
      left = known.left;
      is = known.is;
      numbers_fit = (b.first.0, b.second.0, b.third.0, b.last.0);
      requests_fit = known.requests_fit;
      left_fits = known.left_fits;
      code_fits = known.code_fits;
      spelled = b.first.1 ∙ ap g b.second.1 ∙ ap s b.third.1 ∙ ap a b.last.1
          ∙ ap l known.spelled ∙ sym (line_in_order b.generation b.steps b.answers b.lines
          known.requests known.left known.is);
    }

-- ---- lengths

both_short : (xs ys : List ℕ) (m n : ℕ) → length xs ≤ m → length ys ≤ n → length (xs ++ ys) ≤ m + n
both_short xs ys m n h k = let is = length-append xs ys in omega (arith, is, h, k)

digits_short : (n : ℕ) → n < 2 ^ 64 → length (decimal n) ≤ 20
digits_short n small = length-decimal-le 20 n (omega arith) (omega (arith, small)) small

trap_short : (why : Trap) → length (trap_text why) ≤ 27
trap_short trap.Unreachable = lit≤ tt
trap_short trap.DivideByZero = lit≤ tt
trap_short trap.IntegerOverflow = lit≤ tt
trap_short trap.MemoryOutOfBounds = lit≤ tt
trap_short trap.UndefinedElement = lit≤ tt
trap_short trap.UninitializedElement = lit≤ tt
trap_short trap.IndirectCallTypeMismatch = lit≤ tt
trap_short trap.StackExhausted = lit≤ tt

words_short : (is : WatchedState) → HasCodeInRange is → length (watch_words is) ≤ 36
words_short state.Running fits = lit≤ tt
words_short state.Waiting fits = lit≤ tt
words_short state.Parked fits = lit≤ tt
words_short (state.Ended (end.Exited code)) fits =
    let short = both_short (codes "exited " ++ decimal code) (codes "\n") 27 1
    (both_short (codes "exited ") (decimal code) 7 20 (lit≤ tt)
    (digits_short code (omega (arith, fits)))) (lit≤ tt) in
    omega (arith, short)
words_short (state.Ended (end.Trapped why)) fits =
    both_short (codes "trapped " ++ trap_text why) (codes "\n") 35 1
    (both_short (codes "trapped ") (trap_text why) 8 27 (lit≤ tt) (trap_short why)) (lit≤ tt)

named_short : (name : List ℕ) (k n : ℕ) → length name ≤ k → n < 2 ^ 64
    → length (named_number name n) ≤ k + 20
named_short name k n short small = both_short name (decimal n) k 20 short (digits_short n small)

left_short : (left : Option ℕ) (is : WatchedState) → IfSome left (λ n. n < 2 ^ 64)
    → HasCodeInRange is → length (left_words left is) ≤ 70
left_short None is fit fits =
    let short = words_short is fits in omega (arith, short)
left_short (Some n) is fit fits =
    both_short (named_number (codes "journal_left ") n ++ codes " ") (watch_words is) 34 36
    (both_short (named_number (codes "journal_left ") n) (codes " ") 33 1
    (named_short (codes "journal_left ") 13 n (lit≤ tt) fit) (lit≤ tt)) (words_short is fits)

state_short : (requests left : Option ℕ) (is : WatchedState) → IfSome requests (λ n. n < 2 ^ 64)
    → IfSome left (λ n. n < 2 ^ 64) → HasCodeInRange is
    → length (state_words requests left is) ≤ 100
state_short None left is fit room fits =
    let short = words_short is fits in omega (arith, short)
state_short (Some n) left is fit room fits =
    both_short (named_number (codes "requests ") n ++ codes " ") (left_words left is) 30 70
    (both_short (named_number (codes "requests ") n) (codes " ") 29 1
    (named_short (codes "requests ") 9 n (lit≤ tt) fit) (lit≤ tt)) (left_short left is room fits)

pub line_short : (bytes : List ℕ) → IsStatusLine bytes → length bytes ≤ 215
line_short bytes line =
    let fit = line.numbers_fit in
    let g = named_number (codes "generation ") line.generation in
    let s = named_number (codes " steps ") line.steps in
    let a = named_number (codes " answers ") line.answers in
    let l = named_number (codes " lines ") line.lines in
    let short = both_short (g ++ s ++ a ++ l ++ codes " ")
    (state_words line.requests line.left line.is) 115 100
    (both_short (g ++ s ++ a ++ l) (codes " ") 114 1
    (both_short (g ++ s ++ a) l 87 27 (both_short (g ++ s) a 58 29 (both_short g s 31 27
    (named_short (codes "generation ") 11 line.generation (lit≤ tt) fit.0)
    (named_short (codes " steps ") 7 line.steps (lit≤ tt) fit.1))
    (named_short (codes " answers ") 9 line.answers (lit≤ tt) fit.2))
    (named_short (codes " lines ") 7 line.lines (lit≤ tt) fit.3)) (lit≤ tt))
    (state_short line.requests line.left line.is line.requests_fit line.left_fits line.code_fits) in
    let is = ap length line.spelled in omega (arith, short, is)
