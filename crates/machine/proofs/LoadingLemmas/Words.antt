-- Words that are numbers of values of their types.
use Rattle.std.proofs.Common.{◌≡◌, ℕ, zero, suc, ◌+◌, ◌<◌, ◌≤◌, List, [], ◌∷◌, ◌++◌, length, take}
use Rattle.std.proofs.Common.{Bool, IsTrue, ◌↔◌, ◌==◌, get_or}
use Rattle.std.proofs.lemmas.Option.{slice_get-get_or}
use Rattle.std.proofs.lemmas.Bool.Decides.{nat_tests}
use Rattle.std.proofs.Common.{drop, Some, None, refl, sym, ap, subst, arith}
use Rattle.std.specs.Prelude.{slice_get}
use Rattle.std.proofs.lemmas.List.{at_drop_all}
use Rattle.wasm_syntax.specs.declared.types.ValueType.{ValueType}
use Rattle.wasm_rules.specs.Types.{IsOf, value_of}
use Rattle.machine_frame.specs.laws.Fitting.{AreWordsOf}

pub words_count : (types : List ValueType) (words : List ℕ) → AreWordsOf types words
    → length types ≡ length words
words_count [] [] h = refl
words_count [] (w ∷ words) h = absurd h
words_count (t ∷ types) [] h = absurd h
words_count (t ∷ types) (w ∷ words) h = ap suc (words_count types words h.1)

-- ---- one by one

pub word_at : (types : List ValueType) (words : List ℕ) (i : ℕ) {t : ValueType} {w : ℕ}
    → AreWordsOf types words → slice_get types i ≡ Some t → slice_get words i ≡ Some w
    → IsOf t (value_of t w)
word_at [] words i h e k = absurd (cc)
word_at (u ∷ types) [] i h e k = absurd h
word_at (u ∷ types) (v ∷ words) zero {t} {w} h e k =
    let a : u ≡ t = cc in
    let b : v ≡ w = cc in
    subst (λ z. IsOf z (value_of z w)) a (subst (λ z. IsOf u (value_of u z)) b h.0)
word_at (u ∷ types) (v ∷ words) (suc i) h e k = word_at types words i h.1 e k

pub front_there : {X : Type 0} (xs : List X) (i : ℕ) {x : X} → slice_get xs i ≡ Some x
    → drop i xs ≡ x ∷ drop (suc i) xs
front_there [] i e = absurd (cc)
front_there (y ∷ xs) zero {x} e = let same : y ≡ x = cc in ap (λ z. z ∷ xs) same
front_there (y ∷ xs) (suc i) e = front_there xs i e

-- where the words from here on are of their types, all are
abbrev pub FromHere : List ValueType → List ℕ → ℕ → Type 0
FromHere types words i = AreWordsOf (drop i types) (drop i words) → AreWordsOf types words

pub one_more : (types : List ValueType) (words : List ℕ) (i : ℕ) {t : ValueType} {w : ℕ}
    → slice_get types i ≡ Some t → slice_get words i ≡ Some w → IsOf t (value_of t w)
    → FromHere types words i → FromHere types words (i + 1)
one_more types words i {t} {w} e k h so_far = λ rest.
    let next : i + 1 ≡ suc i = omega arith in
    let here : AreWordsOf (t ∷ drop (suc i) types) (w ∷ drop (suc i) words) =
    (h, subst (λ n. AreWordsOf (drop n types) (drop n words)) next rest) in
    so_far (subst (λ z. AreWordsOf z (drop i words)) (sym (front_there types i e)) (subst
    (AreWordsOf (t ∷ drop (suc i) types)) (sym (front_there words i k)) here))

pub all_here : (types : List ValueType) (words : List ℕ) (i : ℕ) → length types ≤ i
    → length words ≤ i → FromHere types words i → AreWordsOf types words
all_here types words i a b so_far =
    so_far (subst (λ z. AreWordsOf z (drop i words)) (sym (at_drop_all (λ ys. ys) types i a))
    (subst (AreWordsOf []) (sym (at_drop_all (λ ys. ys) words i b)) tt))

-- ---- words of two lists of types

pub both : (ts us : List ValueType) (words : List ℕ) (n : ℕ) → n ≡ length ts
    → AreWordsOf ts (take n words) → AreWordsOf us (drop n words) → AreWordsOf (ts ++ us) words
both [] us words zero e a b = b
both [] us words (suc n) e a b = absurd (omega (arith, e))
both (t ∷ ts) us words zero e a b = absurd (omega (arith, e))
both (t ∷ ts) us [] (suc n) e a b = absurd a
both (t ∷ ts) us (w ∷ words) (suc n) e a b =
    (a.0, both ts us words n (omega (arith, e)) a.1 b)

pub first_of : (ts us : List ValueType) (words : List ℕ) (n : ℕ) → n ≡ length ts
    → AreWordsOf (ts ++ us) words → AreWordsOf ts (take n words)
first_of [] us words zero e h = tt
first_of [] us words (suc n) e h = absurd (omega (arith, e))
first_of (t ∷ ts) us words zero e h = absurd (omega (arith, e))
first_of (t ∷ ts) us [] (suc n) e h = absurd h
first_of (t ∷ ts) us (w ∷ words) (suc n) e h =
    (h.0, first_of ts us words n (omega (arith, e)) h.1)

pub second_of : (ts us : List ValueType) (words : List ℕ) (n : ℕ) → n ≡ length ts
    → AreWordsOf (ts ++ us) words → AreWordsOf us (drop n words)
second_of [] us words zero e h = h
second_of [] us words (suc n) e h = absurd (omega (arith, e))
second_of (t ∷ ts) us words zero e h = absurd (omega (arith, e))
second_of (t ∷ ts) us [] (suc n) e h = absurd h
second_of (t ∷ ts) us (w ∷ words) (suc n) e h = second_of ts us words n (omega (arith, e)) h.1

pub taken_at : {X : Type 0} (xs : List X) (n i : ℕ) → i < n → slice_get (take n xs) i
    ≡ slice_get xs i
taken_at [] zero i h = absurd (omega (arith, h))
taken_at [] (suc n) i h = refl
taken_at (x ∷ xs) zero i h = absurd (omega (arith, h))
taken_at (x ∷ xs) (suc n) zero h = refl
taken_at (x ∷ xs) (suc n) (suc i) h = taken_at xs n i (omega (arith, h))

pub taken_count : {X : Type 0} (xs : List X) (n : ℕ) → n ≤ length xs → length (take n xs) ≡ n
taken_count [] zero h = refl
taken_count [] (suc n) h = absurd (omega (arith, h))
taken_count (x ∷ xs) zero h = refl
taken_count (x ∷ xs) (suc n) h = ap suc (taken_count xs n (omega (arith, h)))

pub past_there : {X : Type 0} (xs : List X) (i : ℕ) → slice_get xs i ≡ None → length xs ≤ i
past_there [] i e = omega arith
past_there (x ∷ xs) zero e = absurd (cc)
past_there (x ∷ xs) (suc i) e = let more = past_there xs i e in omega (arith, more)

-- a list that has nothing in it
pub empty_iff : {X : Type 0} (xs : List X) (told : Bool) → told ≡ (length xs == 0)
    → IsTrue told ↔ (xs ≡ [])
empty_iff [] told e = (λ _. refl, λ _. e)
empty_iff (x ∷ xs) told e =
    (λ t. absurd (let told_is = e in grind (arith, nat_tests)), λ k. absurd (cc))

pub any_default : (xs : List ℕ) (i : ℕ) → i < length xs
    → get_or xs i 0 ≡ get_or xs i (get_or xs i 0)
any_default xs i h =
    let a = slice_get-get_or xs i 0 h in
    let b = slice_get-get_or xs i (get_or xs i 0) h in
    cc
