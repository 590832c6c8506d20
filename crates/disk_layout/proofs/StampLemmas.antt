-- What a sector shows where the write of its stamp is torn.
use Rattle.std.proofs.Common.{◌≡◌, ◌⊎◌, ℕ, zero, suc, ◌+◌, ◌-◌, ◌*◌, ◌%◌, ◌^◌, ◌<◌, ◌≤◌, List, []}
use Rattle.std.proofs.Common.{◌∷◌, ◌++◌, length, take, drop, eqb, cond, refl, sym, ap, ◌∙◌, subst}
use Rattle.std.proofs.Common.{inl, inr, ⊎_elim, arith, length-append, length-drop, append_assoc}
use Rattle.std.proofs.Math.Nat.{pow-suc, mul-le-mul_left}
use Rattle.std.proofs.Math.Seq.{take-append-add, drop-append-add}
use Rattle.std.proofs.lemmas.Bool.{cases_lt, cases_eq, cond-true, cond-false, eq-eqb, ne_eqb}
use Rattle.std.proofs.lemmas.List.{take-append-drop, take-append-le, drop-append-le, take_at}
use Rattle.std.proofs.lemmas.List.{drop_at, take_all, drop-drop, length-take-le}
use Rattle.std.specs.List.{AllByRecursion}
use Rattle.guest_memory.specs.rules.Bytes.{IsByte, number_of, bytes_of, part}
use Rattle.guest_memory.proofs.ByteLemmas.{bytes_of-number_of}
use Rattle.sector_disk.specs.rules.DiskImage.{front_over}
use Rattle.disk_layout.specs.rules.Sectors.{shown_generation}
use Rattle.disk_layout.specs.laws.Laws.{ShowsEarlier, NeverNewer}
use Rattle.guest_memory.proofs.Lists.{number_below as number_of-lt}

-- ---- numbers and their bytes

number_of-append : (a b : List ℕ) → number_of (a ++ b) ≡ number_of a + 256 ^ length a * number_of b
number_of-append [] b = omega arith
number_of-append (x ∷ a) b =
    let rest : number_of (a ++ b) ≡ number_of a + 256 ^ length a * number_of b =
    number_of-append a b in
    let power : 256 ^ suc (length a) ≡ 256 ^ length a * 256 = pow-suc 256 (length a) in
    rw power (rw rest (omega arith))

pub all_take : (n : ℕ) (a : List ℕ) → AllByRecursion IsByte a → AllByRecursion IsByte (take n a)
all_take zero a all = tt
all_take (suc n) [] all = tt
all_take (suc n) (x ∷ a) all = (all.0, all_take n a all.1)

pub all_drop : (n : ℕ) (a : List ℕ) → AllByRecursion IsByte a → AllByRecursion IsByte (drop n a)
all_drop zero a all = all
all_drop (suc n) [] all = tt
all_drop (suc n) (x ∷ a) all = all_drop n a all.1

pub all_append : (a b : List ℕ) → AllByRecursion IsByte a → AllByRecursion IsByte b
    → AllByRecursion IsByte (a ++ b)
all_append [] b one two = two
all_append (x ∷ a) b one two = (one.0, all_append a b one.1 two)

-- bytes that spell one number are the same
same_bytes : (a b : List ℕ) → AllByRecursion IsByte a → AllByRecursion IsByte b
    → length a ≡ length b → number_of a ≡ number_of b → a ≡ b
same_bytes a b one two len same = sym (bytes_of-number_of a one)
    ∙ ap (λ n. bytes_of n (number_of a)) len ∙ ap (λ n. bytes_of (length b) n) same
    ∙ bytes_of-number_of b two

-- ---- numbers whose lower bytes are new

pub record IsMixed (n k : ℕ) (b a : List ℕ) : Type 0 where
  pub within : k ≤ n
  pub new_long : length b ≡ n
  pub old_long : length a ≡ n
  pub bytes : AllByRecursion IsByte b

mixed : (n k : ℕ) (b a : List ℕ) → IsMixed n k b a → (low power above_new above_old : ℕ)
    × (low < power) × (power ≡ 256 ^ k) × (number_of b ≡ low + power * above_new)
    × (number_of a ≡ number_of (take k a) + power * above_old)
    × (number_of (front_over k b a) ≡ low + power * above_old)
mixed n k b a is =
    let one : length (take k b) ≡ k = length-take-le k b (omega (arith, is.within, is.new_long)) in
    let two : length (take k a) ≡ k = length-take-le k a (omega (arith, is.within, is.old_long)) in
    let small = number_of-lt (take k b) (all_take k b is.bytes) in (
      number_of (take k b),
      256 ^ k,
      number_of (drop k b),
      number_of (drop k a),
      subst (λ (m : ℕ). number_of (take k b) < 256 ^ m) one small,
      refl,
      ap number_of (sym (take-append-drop k b)) ∙ number_of-append (take k b) (drop k b)
          ∙ ap (λ m. number_of (take k b) + 256 ^ m * number_of (drop k b)) one,
      ap number_of (sym (take-append-drop k a)) ∙ number_of-append (take k a) (drop k a)
          ∙ ap (λ m. number_of (take k a) + 256 ^ m * number_of (drop k a)) two,
      number_of-append (take k b) (drop k a)
          ∙ ap (λ m. number_of (take k b) + 256 ^ m * number_of (drop k a)) one,
    )

-- of a later number: it is that one, or one of its parity that is less by 2 at least
pub mixed_number : (n k : ℕ) (b a : List ℕ) → IsMixed n (suc k) b a → number_of a < number_of b
    → (number_of (front_over (suc k) b a) ≡ number_of b)
    ⊎ ((number_of (front_over (suc k) b a) % 2 ≡ number_of b % 2)
    × (number_of (front_over (suc k) b a) + 2 ≤ number_of b))
mixed_number n k b a is less =
    let m = mixed n (suc k) b a is in
    by_parts m.0 m.1 m.2 m.3 (number_of (take (suc k) a)) (256 ^ k) (number_of b) (number_of a)
    (number_of (front_over (suc k) b a)) m.4 (m.5 ∙ pow-suc 256 k) m.6 m.7 m.8 less
  where
    by_parts : (low power new old rest q h g x : ℕ) → low < power → power ≡ q * 256
        → h ≡ low + power * new → g ≡ rest + power * old → x ≡ low + power * old → g < h
        → (x ≡ h) ⊎ ((x % 2 ≡ h % 2) × (x + 2 ≤ h))
    by_parts low power new old rest q h g x small even h-is g-is x-is less =
        ⊎_elim
        (λ (lt : old < new).
        let more : power * suc old ≤ power * new = mul-le-mul_left power lt in
        let step : power * suc old ≡ power * old + power = omega arith in
        let half-old : power * old ≡ 2 * (q * 128 * old) = rw even (omega arith) in
        let half-new : power * new ≡ 2 * (q * 128 * new) = rw even (omega arith) in
        inr (omega arith, omega arith))
        (λ (le : new ≤ old).
        ⊎_elim
        (λ (lt : new < old).
        let more : power * suc new ≤ power * old = mul-le-mul_left power lt in
        let step : power * suc new ≡ power * new + power = omega arith in
        absurd (omega arith))
        (λ (same : old ≤ new). let e : old ≡ new = omega arith in
        inl (x-is ∙ ap (λ y. low + power * y) e ∙ sym h-is))
        (cases_lt new old))
        (cases_lt old new)

-- ---- sectors in three parts

pub record IsInParts (p s t : List ℕ) : Type 0 where
  pub first : length p ≡ 496
  pub second : length s ≡ 8
  pub third : length t ≡ 8

pub in_parts : (s : List ℕ) → length s ≡ 512 → s ≡ take 496 s ++ (part s 496 8 ++ part s 504 8)
in_parts s full =
    let behind : part s 504 8 ≡ drop 504 s =
    take_all 8 (drop 504 s) (omega (arith, length-drop 504 s)) in
    let split : part s 496 8 ++ part s 504 8 ≡ drop 496 s =
    ap (λ l. part s 496 8 ++ l) (behind ∙ sym (drop-drop 8 496 s))
    ∙ take-append-drop 8 (drop 496 s) in
    sym (ap (λ l. take 496 s ++ l) split ∙ take-append-drop 496 s)

pub are_parts : (s : List ℕ) → length s ≡ 512 → IsInParts (take 496 s) (part s 496 8) (part s 504 8)
are_parts s full = record {
  first = length-take-le 496 s (omega arith);
  second = length-take-le 8 (drop 496 s) (omega (arith, length-drop 496 s));
  third = length-take-le 8 (drop 504 s) (omega (arith, length-drop 504 s));
}

abbrev pub cond-of : ℕ → ℕ → ℕ → ℕ
cond-of place wanted generation = cond (eqb place wanted) generation 0

pub stamp_of_parts : (place : ℕ) (p s t : List ℕ) → IsInParts p s t
    → shown_generation place (p ++ (s ++ t)) ≡ cond-of (number_of t) place (number_of s)
stamp_of_parts place p s t is =
    let one : part (p ++ (s ++ t)) 496 8 ≡ s = ap (λ l. take 8 l) (drop_at p (s ++ t) 496 is.first)
    ∙ take_at s t 8 is.second in
    let longer : length (p ++ s) ≡ 504 = length-append p s ∙ (let a = is.first in let b = is.second
    in omega arith) in
    let two : part (p ++ (s ++ t)) 504 8 ≡ t =
    ap (λ l. take 8 (drop 504 l)) (sym (append_assoc p s t))
    ∙ ap (λ l. take 8 l) (drop_at (p ++ s) t 504 longer) ∙ take_all 8 t (let a = is.third in
    omega arith) in
    ap (λ l. cond-of (number_of (part (p ++ (s ++ t)) 504 8)) place (number_of l)) one
    ∙ ap (λ l. cond-of (number_of l) place (number_of s)) two

-- a front over parts
front_behind : (n k : ℕ) (p s t u : List ℕ) → length p ≡ n → length s ≡ n
    → front_over (n + k) (p ++ t) (s ++ u) ≡ p ++ front_over k t u
front_behind n k p s t u one two =
    let new : take (n + k) (p ++ t) ≡ p ++ take k t = ap (λ m. take (m + k) (p ++ t)) (sym one)
    ∙ take-append-add p t k in
    let old : drop (n + k) (s ++ u) ≡ drop k u = ap (λ m. drop (m + k) (s ++ u)) (sym two)
    ∙ drop-append-add s u k in
    ap (λ l. l ++ drop (n + k) (s ++ u)) new ∙ ap (λ l. (p ++ take k t) ++ l) old
    ∙ append_assoc p (take k t) (drop k u)

front_before : (n k : ℕ) (p s t u : List ℕ) → k ≤ n → length p ≡ n → length s ≡ n
    → front_over k (p ++ t) (s ++ u) ≡ front_over k p s ++ u
front_before n k p s t u le one two =
    let new : take k (p ++ t) ≡ take k p = take-append-le k p t (omega arith) in
    let old : drop k (s ++ u) ≡ drop k s ++ u = drop-append-le k s u (omega arith) in
    ap (λ l. l ++ drop k (s ++ u)) new ∙ ap (λ l. take k p ++ l) old
    ∙ sym (append_assoc (take k p) (drop k s) u)

pub length-front : (n k : ℕ) (b a : List ℕ) → k ≤ n → length b ≡ n → length a ≡ n
    → length (front_over k b a) ≡ n
length-front n k b a le one two =
    omega (
      arith,
      length-append (take k b) (drop k a),
      length-take-le k b (let l : k ≤ length b = omega arith in l),
      length-drop k a,
    )

pub shows_there : (place found generation : ℕ) → found ≡ place
    → cond-of found place generation ≡ generation
shows_there place found generation e =
    cond-true (eqb found place) generation 0 (eq-eqb found place e)

pub shows_none : (place found generation : ℕ) → (found ≡ place → ⊥)
    → cond-of found place generation ≡ 0
shows_none place found generation ne =
    cond-false (eqb found place) generation 0 (ne_eqb found place ne)

-- the three kinds of a torn sector: the stamp is the older one, its generation is mixed, or its
-- place is
torn_parts : (f : ℕ) (m b r o a q : List ℕ) → IsInParts m b r → IsInParts o a q → f ≤ 512
    → (front_over f (m ++ (b ++ r)) (o ++ (a ++ q)) ≡ front_over f m o ++ (a ++ q)) × (f ≤ 496)
    ⊎ (((k : ℕ) × (suc k ≤ 8)
    × (front_over f (m ++ (b ++ r)) (o ++ (a ++ q)) ≡ m ++ (front_over (suc k) b a ++ q)))
    ⊎ ((j : ℕ) × (j ≤ 8)
    × (front_over f (m ++ (b ++ r)) (o ++ (a ++ q)) ≡ m ++ (b ++ front_over j r q))))
torn_parts f m b r o a q new old within =
    ⊎_elim
    (λ (behind : 496 < f).
    ⊎_elim
    (λ (last : 504 < f).
    let j = f - 504 in
    let e : f ≡ 496 + (8 + j) = omega arith in
    inr (inr (
      j,
      omega arith,
      ap (λ n. front_over n (m ++ (b ++ r)) (o ++ (a ++ q))) e
          ∙ front_behind 496 (8 + j) m o (b ++ r) (a ++ q) new.first old.first
          ∙ ap (λ l. m ++ l) (front_behind 8 j b a r q new.second old.second),
    )))
    (λ (middle : f ≤ 504).
    let k = f - 497 in
    let e : f ≡ 496 + suc k = omega arith in
    let le : suc k ≤ 8 = omega arith in
    inr (inl (
      k,
      le,
      ap (λ n. front_over n (m ++ (b ++ r)) (o ++ (a ++ q))) e
          ∙ front_behind 496 (suc k) m o (b ++ r) (a ++ q) new.first old.first
          ∙ ap (λ l. m ++ l) (front_before 8 (suc k) b a r q le new.second old.second),
    )))
    (cases_lt 504 f))
    (λ (before : f ≤ 496). inl (
      front_before 496 f m o (b ++ r) (a ++ q) before new.first old.first,
      before,
    ))
    (cases_lt 496 f)

module _ (place h f : ℕ) (m b r o a q : List ℕ) (new : IsInParts m b r) (old : IsInParts o a q)
    (bytes-b : AllByRecursion IsByte b) (bytes-r : AllByRecursion IsByte r) (stamped : number_of r
    ≡ place) (is-h : number_of b ≡ h)
    (later : shown_generation place (o ++ (a ++ q)) < h) (within : f ≤ 512) where
  was : shown_generation place (o ++ (a ++ q)) ≡ cond-of (number_of q) place (number_of a)
  was = stamp_of_parts place o a q old

  old_less : number_of q ≡ place → number_of a < number_of b
  old_less e = let s = was ∙ shows_there place (number_of q) (number_of a) e in
      omega (arith, s, is-h)

  none_less : 0 < h
  none_less = omega (arith, later)

  parts_mixed : (k : ℕ) → k ≤ 8 → IsMixed 8 k b a
  parts_mixed k le = record {
    within = le;
    new_long = new.second;
    old_long = old.second;
    bytes = bytes-b;
  }

  in_case_1 : (t : List ℕ) → t ≡ front_over f m o ++ (a ++ q) → f ≤ 496
      → shown_generation place t ≡ shown_generation place (o ++ (a ++ q))
  in_case_1 t e le =
      ap (λ l. shown_generation place l) e
      ∙ stamp_of_parts place (front_over f m o) a q
      (record {
        first = length-front 496 f m o le new.first old.first;
        second = old.second;
        third = old.third;
      }) ∙ sym was

  in_case_2 : (t : List ℕ) (k : ℕ) → suc k ≤ 8 → t ≡ m ++ (front_over (suc k) b a ++ q)
      → shown_generation place t ≡ cond-of (number_of q) place (number_of (front_over (suc k) b a))
  in_case_2 t k le e = ap (λ l. shown_generation place l) e
      ∙ stamp_of_parts place m (front_over (suc k) b a) q (record {
        first = new.first;
        second = length-front 8 (suc k) b a le new.second old.second;
        third = old.third;
      })

  in_case_3 : (t : List ℕ) (j : ℕ) → j ≤ 8 → t ≡ m ++ (b ++ front_over j r q)
      → shown_generation place t ≡ cond-of (number_of (front_over j r q)) place (number_of b)
  in_case_3 t j le e = ap (λ l. shown_generation place l) e
      ∙ stamp_of_parts place m b (front_over j r q) (record {
        first = new.first;
        second = new.second;
        third = length-front 8 j r q le new.third old.third;
      })

  first_of : (t rest : List ℕ) → t ≡ m ++ rest → take 496 t ≡ m
  first_of t rest e = ap (λ l. take 496 l) e ∙ take_at m rest 496 new.first

  pub earlier_parts : (t : List ℕ) → t ≡ front_over f (m ++ (b ++ r)) (o ++ (a ++ q))
      → (shown_generation place t < h) ⊎ ((shown_generation place t ≡ h) × (take 496 t ≡ m))
  earlier_parts t is =
      ⊎_elim
      (λ c. inl (let s = in_case_1 t (is ∙ c.0) c.1 in omega (arith, s, later)))
      (λ c. ⊎_elim
      (λ d.
      let s = in_case_2 t d.0 d.1 (is ∙ d.2) in
      ⊎_elim
      (λ (e : number_of q ≡ place).
      let shown = s ∙ shows_there place (number_of q) (number_of (front_over (suc d.0) b a)) e in
      ⊎_elim
      (λ same. inr (shown ∙ same ∙ is-h, first_of t _ (is ∙ d.2)))
      (λ less. inl (let l = less.1 in omega (arith, shown, l, is-h)))
      (mixed_number 8 d.0 b a (parts_mixed (suc d.0) d.1) (old_less e)))
      (λ (ne : number_of q ≡ place → ⊥). inl (let shown = s
      ∙ shows_none place (number_of q) (number_of (front_over (suc d.0) b a)) ne in
      let l = none_less in omega (arith, shown, l)))
      (cases_eq (number_of q) place))
      (λ d.
      let s = in_case_3 t d.0 d.1 (is ∙ d.2) in
      ⊎_elim
      (λ (e : number_of (front_over d.0 r q) ≡ place). inr (
        s
            ∙ shows_there place (number_of (front_over d.0 r q)) (number_of b) e
            ∙ is-h,
        first_of t _ (is ∙ d.2),
      ))
      (λ (ne : number_of (front_over d.0 r q) ≡ place → ⊥). inl (let shown = s
      ∙ shows_none place (number_of (front_over d.0 r q)) (number_of b) ne in let l = none_less
      in omega (arith, shown, l)))
      (cases_eq (number_of (front_over d.0 r q)) place))
      c)
      (torn_parts f m b r o a q new old within)

  -- over bytes
  module _ (bytes-a : AllByRecursion IsByte a) (bytes-q : AllByRecursion IsByte q) where
    places_same : number_of q ≡ place → q ≡ r
    places_same e = same_bytes q r bytes-q bytes-r (old.third ∙ sym new.third) (e ∙ sym stamped)

    front_bytes : (k : ℕ) (x y : List ℕ) → AllByRecursion IsByte x → AllByRecursion IsByte y
        → AllByRecursion IsByte (front_over k x y)
    front_bytes k x y one two =
        all_append (take k x) (drop k y) (all_take k x one) (all_drop k y two)

    pub never_parts : (t : List ℕ) → t ≡ front_over f (m ++ (b ++ r)) (o ++ (a ++ q))
        → (shown_generation place t ≡ shown_generation place (o ++ (a ++ q)))
        ⊎ (((shown_generation place t % 2 ≡ h % 2) × (shown_generation place t + 2 ≤ h))
        ⊎ (t ≡ m ++ (b ++ r)))
    never_parts t is =
        ⊎_elim
        (λ c. inl (in_case_1 t (is ∙ c.0) c.1))
        (λ c. ⊎_elim
        (λ d.
        let s = in_case_2 t d.0 d.1 (is ∙ d.2) in
        ⊎_elim
        (λ (e : number_of q ≡ place).
        let shown = s ∙ shows_there place (number_of q) (number_of (front_over (suc d.0) b a)) e in
        ⊎_elim
        (λ same.
        let mixed-b : front_over (suc d.0) b a ≡ b =
        same_bytes _ b (front_bytes (suc d.0) b a bytes-b bytes-a) bytes-b
        (length-front 8 (suc d.0) b a d.1 new.second old.second ∙ sym new.second) same in
        inr (inr (is ∙ d.2 ∙ ap (λ l. m ++ (l ++ q)) mixed-b
        ∙ ap (λ l. m ++ (b ++ l)) (places_same e))))
        (λ less. inr (inl (
          let p = less.0 in ap (λ n. n % 2) shown ∙ p ∙ ap (λ n. n % 2) is-h,
          let l = less.1 in omega (arith, shown, l, is-h),
        )))
        (mixed_number 8 d.0 b a (parts_mixed (suc d.0) d.1) (old_less e)))
        (λ (ne : number_of q ≡ place → ⊥). inl (s ∙ shows_none place (number_of q) _ ne
        ∙ sym (was ∙ shows_none place (number_of q) (number_of a) ne)))
        (cases_eq (number_of q) place))
        (λ d.
        let s = in_case_3 t d.0 d.1 (is ∙ d.2) in
        ⊎_elim
        (λ (e : number_of (front_over d.0 r q) ≡ place).
        let whole : front_over d.0 r q ≡ r =
        same_bytes _ r (front_bytes d.0 r q bytes-r bytes-q) bytes-r
        (length-front 8 d.0 r q d.1 new.third old.third ∙ sym new.third) (e ∙ sym stamped) in
        inr (inr (is ∙ d.2 ∙ ap (λ l. m ++ (b ++ l)) whole)))
        (λ (ne : number_of (front_over d.0 r q) ≡ place → ⊥).
        ⊎_elim
        (λ (e : number_of q ≡ place).
        absurd (ne (ap (λ l. number_of (front_over d.0 r l)) (places_same e)
        ∙ ap number_of (take-append-drop d.0 r) ∙ stamped)))
        (λ (other : number_of q ≡ place → ⊥). inl (s
        ∙ shows_none place (number_of (front_over d.0 r q)) (number_of b) ne
        ∙ sym (was ∙ shows_none place (number_of q) (number_of a) other)))
        (cases_eq (number_of q) place))
        (cases_eq (number_of (front_over d.0 r q)) place))
        c)
        (torn_parts f m b r o a q new old within)

place_bytes : (s : List ℕ) → AllByRecursion IsByte (drop 496 s)
    → AllByRecursion IsByte (part s 504 8)
place_bytes s bytes =
    subst (λ (l : List ℕ). AllByRecursion IsByte (take 8 l)) (drop-drop 8 496 s)
    (all_take 8 (drop 8 (drop 496 s)) (all_drop 8 (drop 496 s) bytes))

pub shows_earlier : ShowsEarlier
shows_earlier place h old new front is =
    let e-new = in_parts new is.new_full in
    let e-old = in_parts old is.full in
    let bytes = is.bytes in
    earlier_parts place h front (take 496 new) (part new 496 8) (part new 504 8) (take 496 old)
    (part old 496 8) (part old 504 8) (are_parts new is.new_full) (are_parts old is.full)
    (all_take 8 (drop 496 new) bytes) (place_bytes new bytes) is.stamped is.generation
    (subst (λ (l : List ℕ). shown_generation place l < h) e-old is.later) is.within
    (front_over front new old) (ap (λ l. front_over front l old) e-new
    ∙ ap (λ l. front_over front (take 496 new ++ (part new 496 8 ++ part new 504 8)) l) e-old)

pub never_newer : NeverNewer
never_newer place h old new front is old-bytes =
    let e-new = in_parts new is.new_full in
    let e-old = in_parts old is.full in
    let bytes = is.bytes in
    let t = front_over front new old in
    let three = never_parts place h front (take 496 new) (part new 496 8) (part new 504 8)
    (take 496 old) (part old 496 8) (part old 504 8) (are_parts new is.new_full)
    (are_parts old is.full)
    (all_take 8 (drop 496 new) bytes) (place_bytes new bytes) is.stamped is.generation
    (subst (λ (l : List ℕ). shown_generation place l < h) e-old is.later) is.within
    (all_take 8 (drop 496 old) old-bytes) (place_bytes old old-bytes)
    t (ap (λ l. front_over front l old) e-new
    ∙ ap (λ l. front_over front (take 496 new ++ (part new 496 8 ++ part new 504 8)) l) e-old)
    in
    ⊎_elim
    (λ same. inl (same ∙ ap (λ l. shown_generation place l) (sym e-old)))
    (λ other. ⊎_elim (λ less. inr (inl less)) (λ whole. inr (inr (whole ∙ sym e-new))) other)
    three
