-- How many unsynced writes there were, one call on and over several.
use Rattle.std.proofs.Common.{◌≡◌, ◌⊎◌, ◌≤◌, ◌+◌, ℕ, List, ◌∷◌, Vec, length, inl, inr, ⊎_elim}
use Rattle.std.proofs.Common.{subst, sym, arith}
use Rattle.std.specs.declared.alloc.Global.{Global}
use Rattle.sector_disk.specs.rules.Medium.{Medium, CountsUpTo}
use Rattle.sector_disk.specs.rules.Counts.{HadCount, AnsweredCount}
use Rattle.sector_disk.specs.rules.Answered.{AnsweredCalls, unsynced_of}
use Rattle.sector_disk.specs.declared.file_call.FileCall.{FileCall}
use Rattle.sector_disk.specs.declared.write.Write.{Write}

pub counts_same : (m : Medium) (most : ℕ) → CountsUpTo most m m
counts_same m most = record { keeps = λ t n le since. since; grows = λ t n le since. inl since }

pub counts_then : (a b most : ℕ) (old mid new : Medium) → a ≤ most → b ≤ most
    → old.moment ≤ mid.moment → CountsUpTo a old mid → CountsUpTo b mid new
    → CountsUpTo most old new
counts_then a b most old mid new ale ble later one two = record {
  keeps = λ t n le since. two.keeps t n (omega arith) (one.keeps t n le since);
  grows = λ t n le since.
      ⊎_elim
      (λ (was : mid.unsynced_since t n). ⊎_elim (λ (before : old.unsynced_since t n).
      (let r : old.unsynced_since t n ⊎ (n ≤ most) = inl before in
      r)) (λ (few : n ≤ a). inr (omega arith)) (one.grows t n le was))
      (λ (few : n ≤ b). inr (omega arith))
      (two.grows t n (omega arith) since);
}

-- since a moment there were as many as then, or so many at most
pub counts_since : (most : ℕ) (old new : Medium) → old.unsynced ≤ most → CountsUpTo most old new
    → (n : ℕ) → new.unsynced_since old.moment n → n ≤ most
counts_since most old new le counts n since =
    ⊎_elim (λ (was : old.unsynced_since old.moment n). let e = old.only_count n was in
    omega arith) (λ few. few) (counts.grows old.moment n (omega arith) since)

-- so many at most, and so now
pub unsynced_within : (most : ℕ) (old new : Medium) → old.unsynced ≤ most → old.moment ≤ new.moment
    → CountsUpTo most old new → new.unsynced ≤ most
unsynced_within most old new le later counts =
    counts_since most old new le counts new.unsynced (new.count_now old.moment later)

pub counts_more : (few most : ℕ) (old new : Medium) → few ≤ most → CountsUpTo few old new
    → CountsUpTo most old new
counts_more few most old new le counts = record {
  keeps = counts.keeps;
  grows = λ t n before since. ⊎_elim (λ (was : old.unsynced_since t n).
      (let r : old.unsynced_since t n ⊎ (n ≤ most) = inl was in
      r)) (λ (less : n ≤ few). inr (omega arith)) (counts.grows t n before since);
}

-- ---- a disk in memory, one entry on

pub had_keeps : (durable : Vec (List ℕ) Global) (pending : Vec Write Global)
    (past new : List (Vec (List ℕ) Global × Vec Write Global)) (count t n : ℕ)
    → new ≡ (durable, pending) ∷ past → t ≤ length past
    → (n ≡ length pending.items) ⊎ HadCount t past n → (n ≡ count) ⊎ HadCount t new n
had_keeps durable pending past new count t n is le since =
    let P : List (Vec (List ℕ) Global × Vec Write Global) → Type 0 =
    λ l. (n ≡ count) ⊎ HadCount t l n in
    subst P (sym is)
    (inr (⊎_elim (λ (e : n ≡ length pending.items).
    (let r : HadCount t ((durable, pending) ∷ past) n = inl (le, e) in
    r)) (λ (had : HadCount t past n). inr had) since))

pub had_grows : (durable : Vec (List ℕ) Global) (pending : Vec Write Global)
    (past new : List (Vec (List ℕ) Global × Vec Write Global)) (count most t n : ℕ)
    → new ≡ (durable, pending) ∷ past → count ≤ most
    → (n ≡ count) ⊎ HadCount t new n → ((n ≡ length pending.items) ⊎ HadCount t past n) ⊎ (n ≤ most)
had_grows durable pending past new count most t n is le since =
    let P : List (Vec (List ℕ) Global × Vec Write Global) → Type 0 =
    λ l. (n ≡ count) ⊎ HadCount t l n in
    let R : Type 0 = ((n ≡ length pending.items) ⊎ HadCount t past n) ⊎ (n ≤ most) in
    ⊎_elim
    (λ (e : n ≡ count). (let r : R = inr (omega arith) in r))
    (λ (had : HadCount t ((durable, pending) ∷ past) n).
    ⊎_elim (λ (here : (t ≤ length past) × (n ≡ length pending.items)). (let r : R = inl (inl here.1)
    in r)) (λ (before : HadCount t past n). inl (inr before)) had)
    (subst P is since)

-- ---- a disk in a file, one answer on

pub answered_keeps : (old new : AnsweredCalls) (answer : FileCall × List ℕ) (t n : ℕ)
    → new ≡ answer ∷ old → AnsweredCount t old n → AnsweredCount t new n
answered_keeps old new answer t n is since =
    let P : AnsweredCalls → Type 0 = λ a. AnsweredCount t a n in
    subst P (sym is) (inr since)

pub answered_grows : (old new : AnsweredCalls) (answer : FileCall × List ℕ) (most t n : ℕ)
    → new ≡ answer ∷ old → unsynced_of (answer ∷ old) ≤ most → AnsweredCount t new n
    → AnsweredCount t old n ⊎ (n ≤ most)
answered_grows old new answer most t n is le since =
    let P : AnsweredCalls → Type 0 = λ a. AnsweredCount t a n in
    let R : Type 0 = AnsweredCount t old n ⊎ (n ≤ most) in
    ⊎_elim
    (λ (here : (t ≤ length old + 1) × (n ≡ unsynced_of (answer ∷ old))).
    (let r : R = inr (let e = here.1 in omega arith) in r))
    (λ (before : AnsweredCount t old n). inl before)
    (subst P is since)
