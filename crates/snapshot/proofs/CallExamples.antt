-- Worked examples of a commit's calls.
use Rattle.std.proofs.Common.{◌≡◌, ℕ, ◌+◌, ◌*◌, List, [], ◌∷◌, refl, sym, ap, ◌∙◌, subst, inl, inr}
use Rattle.std.proofs.Common.{⊎_elim, arith}
use Rattle.sector_disk.specs.declared.disk_call.DiskCall.{DiskCall}
use Rattle.sector_disk.specs.declared.disk_call.DiskCall.TheVariants.{WriteOf, Sync}
use Rattle.snapshot.specs.rules.Calls.{SomeRising}
use Rattle.snapshot.specs.laws.Examples.{ChangesTwo, CommitCallExamples}

-- a number for a list of calls
abbrev code : List DiskCall → ℕ
code [] = 0
code (WriteOf k ∷ calls) = 1 + k + 100 * code calls
code (Sync ∷ calls) = 1 + 100 * code calls

-- a write to sector 5, or none
of_one : (P : ℕ → Type 0) → P 0 → P 6 → (calls : List DiskCall) → SomeRising 5 1 calls
    → P (code calls)
of_one P none one calls is = ⊎_elim
    (λ (e : calls ≡ []). subst P (sym (ap code e)) none)
    (λ (e : (earlier : List DiskCall) × (calls ≡ WriteOf 5 ∷ earlier) × (earlier ≡ [])).
    let write = ap code e.1 ∙ ap (λ (l : List DiskCall). code (WriteOf 5 ∷ l)) e.2 in
    subst P (sym write) one)
    is

-- the four lists that may be
of_two : (P : ℕ → Type 0) → P 0 → P 6 → P 7 → P 607 → (calls : List DiskCall) → ChangesTwo calls
    → P (code calls)
of_two P none first second both calls is = ⊎_elim
    (λ (one : SomeRising 5 1 calls). of_one P none first calls one)
    (λ (two : (earlier : List DiskCall) × (calls ≡ WriteOf 6 ∷ earlier) × SomeRising 5 1 earlier).
    subst P (sym (ap code two.1)) (of_one (λ n. P (7 + 100 * n)) second both two.0 two.2))
    is

no_other : (n : ℕ) → (n ≡ 0 → ⊥) → (n ≡ 6 → ⊥) → (n ≡ 7 → ⊥) → (n ≡ 607 → ⊥)
    → (calls : List DiskCall) → n ≡ code calls → ChangesTwo calls → ⊥
no_other n none first second both calls is changes =
    of_two (λ m. n ≡ m → ⊥) none first second both calls changes is

pub call_examples : CommitCallExamples
call_examples = record {
  second_head = refl;
  first_head = refl;
  whole = refl;
  whole_but_one = λ e. (let n : 7 ≡ 607 = ap code e in omega (arith, n));
  both_changed = inr (WriteOf 5 ∷ [], refl, inr ([], refl, refl));
  last_changed = inr ([], refl, inl refl);
  none_changed = inl (inl refl);
  falling = λ c. no_other 706 (λ e. omega (arith, e)) (λ e. omega (arith, e))
      (λ e. omega (arith, e)) (λ e. omega (arith, e)) (WriteOf 5 ∷ WriteOf 6 ∷ []) refl c;
  twice = λ c. no_other 606 (λ e. omega (arith, e)) (λ e. omega (arith, e))
      (λ e. omega (arith, e)) (λ e. omega (arith, e)) (WriteOf 5 ∷ WriteOf 5 ∷ []) refl c;
  beyond = λ c. no_other 8 (λ e. omega (arith, e)) (λ e. omega (arith, e))
      (λ e. omega (arith, e)) (λ e. omega (arith, e)) (WriteOf 7 ∷ []) refl c;
  synced = λ c. no_other 601 (λ e. omega (arith, e)) (λ e. omega (arith, e))
      (λ e. omega (arith, e)) (λ e. omega (arith, e)) (Sync ∷ WriteOf 5 ∷ []) refl c;
}
