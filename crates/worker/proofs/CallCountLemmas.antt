-- How many calls of the disk there were, one part after another.
use Rattle.std.proofs.Common.{◌≡◌, ◌≤◌, ℕ, ◌+◌, ◌-◌, ◌*◌, List, [], ◌∷◌, length}
use Rattle.std.proofs.Common.{refl, ap, ◌∙◌, subst, arith}
use Rattle.std.proofs.Math.Nat.{add-mul, le_refl}
use Rattle.std.proofs.lemmas.Nat.{mul-le}
use Rattle.sector_disk.specs.rules.Medium.{Medium, CallsUpTo}
use Rattle.worker.specs.rules.CallCounts.{most_calls, CallsForEvents}
use Rattle.worker.specs.StoreTurns.{owed}

-- ---- numbers

less_with_more : (a b : ℕ) → a ≤ a + b
less_with_more a b = omega arith

-- so many times, and so many more
times_join : (a b n m x y z : ℕ) → y ≤ x + a * n → z ≤ y + b * n → m ≡ a + b → z ≤ x + m * n
times_join a b n m x y z first then is =
    let all : m * n ≡ a * n + b * n = ap (λ k. k * n) is ∙ add-mul a b n in
    joined x y z (a * n) (b * n) (m * n) first then all
  where
    joined : (x y z p q r : ℕ) → y ≤ x + p → z ≤ y + q → r ≡ p + q → z ≤ x + r
    joined x y z p q r first then all = omega (arith, first, then, all)

-- at least once
once_more : (a n : ℕ) → 1 ≤ a → n ≤ a * n
once_more a n some =
    let one : a ≡ (a - 1) + 1 = omega (arith, some) in
    let all : a * n ≡ (a - 1) * n + n =
    ap (λ k. k * n) one ∙ add-mul (a - 1) 1 n
    ∙ ap (λ k. (a - 1) * n + k) (let e : 1 * n ≡ n = omega arith in e) in
    last n ((a - 1) * n) (a * n) all
  where
    last : (n p r : ℕ) → r ≡ p + n → n ≤ r
    last n p r all = omega (arith, all)

-- ---- a disk

pub calls_none : (times : ℕ) (m : Medium) → CallsForEvents times m m
calls_none times m = less_with_more m.counted (times * most_calls m.sectors)

pub calls_then : (a b times : ℕ) (old mid new : Medium) → mid.sectors ≡ old.sectors
    → CallsForEvents a old mid → CallsForEvents b mid new → times ≡ a + b
    → CallsForEvents times old new
calls_then a b times old mid new same first then is =
    let n : ℕ = most_calls old.sectors in
    let next = subst (λ (s : ℕ). new.counted ≤ mid.counted + b * most_calls s) same then in
    times_join a b n times old.counted mid.counted new.counted first next is

-- few calls, at least once
pub calls_once : (few times : ℕ) (old new : Medium) → CallsUpTo few old new
    → few ≤ most_calls old.sectors → 1 ≤ times → CallsForEvents times old new
calls_once few times old new calls within some =
    let all = once_more times (most_calls old.sectors) some in
    below old.counted new.counted few (most_calls old.sectors) (times * most_calls old.sectors)
    calls within all
  where
    below : (x y a b c : ℕ) → y ≤ x + a → a ≤ b → b ≤ c → y ≤ x + c
    below x y a b c first then last = omega (arith, first, then, last)

pub calls_longer : (a b : ℕ) (old new : Medium) → a ≤ b → CallsForEvents a old new
    → CallsForEvents b old new
calls_longer a b old new le calls =
    let n : ℕ = most_calls old.sectors in
    let more = mul-le a n b n le (le_refl n) in
    below old.counted new.counted (a * n) (b * n) calls more
  where
    below : (x y a b : ℕ) → y ≤ x + a → a ≤ b → y ≤ x + b
    below x y a b first then = omega (arith, first, then)

-- ---- the turns of a slice

-- Those so far, and one more. What a barrier still takes is counted with them.
pub turns_then : (a b times n x y z first owed owed_left : ℕ) → y + owed ≤ x + first + a * n
    → z + owed_left ≤ y + owed + b * n → times ≡ a + b → z + owed_left ≤ x + first + times * n
turns_then a b times n x y z first owed owed_left one two is =
    let all : times * n ≡ a * n + b * n = ap (λ k. k * n) is ∙ add-mul a b n in
    joined x y z (a * n) (b * n) (times * n) one two all
  where
    joined : (x y z p q r : ℕ) → y + owed ≤ x + first + p → z + owed_left ≤ y + owed + q → r ≡ p + q
        → z + owed_left ≤ x + first + r
    joined x y z p q r one two all = omega (arith, one, two, all)

-- the last one
pub turns_end : (a b times n x y z first owed last : ℕ) → y + owed ≤ x + first + a * n
    → z ≤ y + owed + last + b * n → times ≡ a + b → first + last ≤ n
    → z ≤ x + (times + 1) * n
turns_end a b times n x y z first owed last one two is within =
    let all : times * n ≡ a * n + b * n = ap (λ k. k * n) is ∙ add-mul a b n in
    let more : (times + 1) * n ≡ times * n + 1 * n = add-mul times 1 n in
    joined (a * n) (b * n) (times * n) ((times + 1) * n) one two all more
  where
    joined : (p q r s : ℕ) → y + owed ≤ x + first + p → z ≤ y + owed + last + q → r ≡ p + q
        → s ≡ r + 1 * n → z ≤ x + s
    joined p q r s one two all more = omega (arith, one, two, all, more, within)

-- a turn that counts as one exchange at least
pub turn_once : (times n y z owed owed_left few : ℕ) → z ≤ y + few → few + owed_left ≤ n → 1 ≤ times
    → z + owed_left ≤ y + owed + times * n
turn_once times n y z owed owed_left few calls within some =
    let all = once_more times n some in
    below (times * n) all
  where
    below : (c : ℕ) → n ≤ c → z + owed_left ≤ y + owed + c
    below c le = omega (arith, calls, within, le)

-- one that takes no more than is owed
pub turn_free : (times n y z owed owed_left : ℕ) → z + owed_left ≤ y + owed → z + owed_left ≤ y
    + owed + times * n
turn_free times n y z owed owed_left calls = below (times * n)
  where
    below : (c : ℕ) → z + owed_left ≤ y + owed + c
    below c = omega (arith, calls)

-- the last turn takes few calls
pub turn_last : (times n y z owed last : ℕ) → z ≤ y + owed + last
    → z ≤ y + owed + last + times * n
turn_last times n y z owed last calls = below (times * n)
  where
    below : (c : ℕ) → z ≤ y + owed + last + c
    below c = omega (arith, calls)

-- ---- what a barrier still takes

pub owed_within : (sectors : ℕ) (kept : List ℕ) → owed sectors kept ≤ sectors
owed_within sectors [] = omega arith
owed_within sectors (byte ∷ kept) = omega arith

-- a barrier, which takes none where no record waits
pub barrier_takes : (sectors : ℕ) (kept : List ℕ) (y z : ℕ) → (length kept ≡ 0 → z ≡ y)
    → z ≤ y + sectors → z ≤ y + owed sectors kept
barrier_takes sectors [] y z quiet calls = let same = quiet refl in omega (arith, same)
barrier_takes sectors (byte ∷ kept) y z quiet calls = calls

-- none is owed after it
pub barrier_owes_none : (sectors : ℕ) (kept kept_left : List ℕ) (y z : ℕ) → kept_left ≡ []
    → z ≤ y + owed sectors kept → z + owed sectors kept_left ≤ y + owed sectors kept
barrier_owes_none sectors kept kept_left y z none calls =
    let free : owed sectors kept_left ≡ 0 = ap (λ l. owed sectors l) none in
    omega (arith, free, calls)
