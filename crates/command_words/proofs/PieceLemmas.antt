-- Lines of a text, and pieces.
use Rattle.std.proofs.Common.{◌≡◌, ◌≢◌, ℕ, zero, suc, ◌+◌, ◌<◌, ◌≤◌, ◌==◌, Bool, true, false, List}
use Rattle.std.proofs.Common.{[], ◌∷◌, ◌++◌}
use Rattle.std.proofs.Common.{length, drop, take, Some, None, refl, sym, ap, ◌∙◌, arith}
use Rattle.std.proofs.lemmas.Bool.{eqb-true}
use Rattle.std.specs.Prelude.{Option, unwrap_or, if◌then◌else◌, option_copied}
use denote.Ref.{Bor}
use Rattle.command_words.specs.rules.Pieces.{split_once, lines_of, onto_first_piece, pieces_of}

-- the rest after what was cut
abbrev pub rest_of : Option (List ℕ) → List ℕ
rest_of after = unwrap_or after []

pub rest_now : (after : Option (Bor (List ℕ))) (none : Bor (List ℕ)) → none.now ≡ []
    → (unwrap_or after none).now ≡ rest_of (option_copied after)
rest_now None none e = e
rest_now (Some rest) none e = refl

-- what is cut off a list with one byte in front
abbrev cut_on : Bool → ℕ → List ℕ → List ℕ × Option (List ℕ) → List ℕ × Option (List ℕ)
cut_on true x xs later = ([], Some xs)
cut_on false x xs later = (x ∷ later.0, later.1)

split_is : (s x : ℕ) (xs : List ℕ)
    → split_once s (x ∷ xs) ≡ cut_on (x == s) x xs (split_once s xs)
unfolding split_once
split_is s x xs = by (x == s)
  where
    by : (b : Bool) → ◌≡◌ {A = List ℕ × Option (List ℕ)}
        (if b then ([], Some xs) else (x ∷ (split_once s xs).0, (split_once s xs).1))
        (cut_on b x xs (split_once s xs))
    by true = refl
    by false = refl

abbrev line_on : Bool → ℕ → List (List ℕ) → List (List ℕ)
line_on true x later = [] ∷ later
line_on false x later = onto_first_piece x later

lines_is : (x : ℕ) (xs : List ℕ) → lines_of (x ∷ xs) ≡ line_on (x == 10) x (lines_of xs)
unfolding lines_of
lines_is x xs = by (x == 10)
  where
    by : (b : Bool) → ◌≡◌ {A = List (List ℕ)}
        (if b then [] ∷ lines_of xs else onto_first_piece x (lines_of xs)) (line_on b x
        (lines_of xs))
    by true = refl
    by false = refl

pieces_is : (s x : ℕ) (xs : List ℕ)
    → pieces_of s (x ∷ xs) ≡ line_on (x == s) x (pieces_of s xs)
unfolding pieces_of
pieces_is s x xs = by (x == s)
  where
    by : (b : Bool) → ◌≡◌ {A = List (List ℕ)}
        (if b then [] ∷ pieces_of s xs else onto_first_piece x (pieces_of s xs))
        (line_on b x (pieces_of s xs))
    by true = refl
    by false = refl

none_cut : (s : ℕ) → split_once s [] ≡ ([], None)
unfolding split_once
none_cut s = refl

pub none_lined : lines_of [] ≡ []
unfolding lines_of
none_lined = refl

none_pieced : (s : ℕ) → pieces_of s [] ≡ [] ∷ []
unfolding pieces_of
none_pieced s = refl

-- a line, and the lines of what is after it
abbrev line_first : List ℕ × Option (List ℕ) → List (List ℕ)
line_first cut = cut.0 ∷ lines_of (rest_of cut.1)

cut_none : (b : Bool) (x : ℕ) → line_on b x [] ≡ line_first (cut_on b x [] ([], None))
cut_none true x = ap (λ l. [] ∷ l) (sym none_lined)
cut_none false x = ap (λ l. (x ∷ []) ∷ l) (sym none_lined)

cut_more : (b : Bool) (x : ℕ) (xs : List ℕ) (cut : List ℕ × Option (List ℕ))
    → lines_of xs ≡ line_first cut → line_on b x (lines_of xs) ≡ line_first (cut_on b x xs cut)
cut_more true x xs cut e = refl
cut_more false x xs cut e = ap (onto_first_piece x) e

pub cut_line : (xs : List ℕ) → xs ≢ [] → lines_of xs ≡ line_first (split_once 10 xs)
cut_line [] some = absurd (some refl)
cut_line (x ∷ []) some = lines_is x [] ∙ ap (line_on (x == 10) x) none_lined ∙ cut_none (x == 10) x
    ∙ ap (λ c. line_first (cut_on (x == 10) x [] c)) (sym (none_cut 10))
    ∙ ap line_first (sym (split_is 10 x []))
cut_line (x ∷ y ∷ ys) some = lines_is x (y ∷ ys)
    ∙ cut_more (x == 10) x (y ∷ ys) (split_once 10 (y ∷ ys)) (cut_line (y ∷ ys) (λ e. cc e))
    ∙ ap line_first (sym (split_is 10 x (y ∷ ys)))

cut_short : (b : Bool) (x : ℕ) (xs : List ℕ) (cut : List ℕ × Option (List ℕ))
    → length (rest_of cut.1) ≤ length xs
    → length (rest_of (cut_on b x xs cut).1) ≤ length xs
cut_short true x xs cut h = omega arith
cut_short false x xs cut h = h

rest_within : (s : ℕ) (xs : List ℕ) → length (rest_of (split_once s xs).1) ≤ length xs
rest_within s [] = let e = ap (λ c. length (rest_of c.1)) (none_cut s) in omega (arith, e)
rest_within s (x ∷ xs) =
    let e = ap (λ c. length (rest_of c.1)) (split_is s x xs) in
    let less = cut_short (x == s) x xs (split_once s xs) (rest_within s xs) in
    omega (arith, e, less)

-- what is after the first separator is shorter
pub rest_shorter : (s : ℕ) (xs : List ℕ) → xs ≢ []
    → length (rest_of (split_once s xs).1) < length xs
rest_shorter s [] some = absurd (some refl)
rest_shorter s (x ∷ xs) some =
    let e = ap (λ c. length (rest_of c.1)) (split_is s x xs) in
    let less = cut_short (x == s) x xs (split_once s xs) (rest_within s xs) in
    omega (arith, e, less)

pub some_shorter : (s : ℕ) (xs next : List ℕ) → Some next ≡ (split_once s xs).1
    → length next < length xs
some_shorter s [] next e = let n = e ∙ ap (λ c. c.1) (none_cut s) in cc n
some_shorter s (x ∷ xs) next e =
    let less = rest_shorter s (x ∷ xs) (λ z. cc z) in
    let same = ap (λ o. length (rest_of o)) e in
    omega (arith, less, same)

-- a list of pieces: the first one, and those of the rest if there is one
abbrev pub pieces_behind : ℕ → Option (List ℕ) → List (List ℕ)
pieces_behind s (Some rest) = pieces_of s rest
pieces_behind s None = []

abbrev piece_first : ℕ → List ℕ × Option (List ℕ) → List (List ℕ)
piece_first s cut = cut.0 ∷ pieces_behind s cut.1

piece_more : (s : ℕ) (b : Bool) (x : ℕ) (xs : List ℕ) (cut : List ℕ × Option (List ℕ))
    → pieces_of s xs ≡ piece_first s cut
    → line_on b x (pieces_of s xs) ≡ piece_first s (cut_on b x xs cut)
piece_more s true x xs cut e = refl
piece_more s false x xs cut e = ap (onto_first_piece x) e

pub cut_piece : (s : ℕ) (xs : List ℕ) → pieces_of s xs ≡ piece_first s (split_once s xs)
cut_piece s [] = none_pieced s ∙ ap (piece_first s) (sym (none_cut s))
cut_piece s (x ∷ xs) = pieces_is s x xs
    ∙ piece_more s (x == s) x xs (split_once s xs) (cut_piece s xs)
    ∙ ap (piece_first s) (sym (split_is s x xs))

-- ---- one line more of those that were read

pub one_more : (n : ℕ) (lines : List (List ℕ)) (line : List ℕ) (more : List (List ℕ))
    → drop n lines ≡ line ∷ more
    → (take (n + 1) lines ≡ take n lines ++ line ∷ []) × (drop (n + 1) lines ≡ more)
    × (n < length lines)
one_more zero [] line more e = cc e
one_more zero (x ∷ xs) line more e =
    let a : x ≡ line = cc e in
    let b : xs ≡ more = cc e in
    (ap (λ l. l ∷ []) a, b, omega arith)
one_more (suc n) [] line more e = cc e
one_more (suc n) (x ∷ xs) line more e =
    let h = one_more n xs line more e in
    let same : suc n + 1 ≡ suc (n + 1) = omega arith in (
      ap (λ k. take k (x ∷ xs)) same ∙ ap (λ l. x ∷ l) h.0,
      ap (λ k. drop k (x ∷ xs)) same ∙ h.1,
      (let less = h.2 in omega (arith, less)),
    )

pub nothing_left : (is_empty : Bool) (xs : List ℕ) → is_empty ≡ (length xs == 0)
    → is_empty ≡ true → xs ≡ []
nothing_left is_empty [] e h = refl
nothing_left is_empty (x ∷ xs) e h =
    let none = eqb-true (length (x ∷ xs)) 0 (sym e ∙ h) in absurd (omega (arith, none))
