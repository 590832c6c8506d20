-- Laws of what is counted: of this moment there is one count, and of none after it.
use Rattle.std.specs.Prelude.{◌≡◌, ◌⊎◌, ◌<◌, ◌≤◌, ◌+◌, ℕ, List, [], ◌∷◌, Vec, length, refl}
use Rattle.std.specs.declared.alloc.Global.{Global}
use Rattle.std.proofs.Common.{inl, ⊎_elim, arith}
use Rattle.sector_disk.specs.rules.Answered.{AnsweredCalls, unsynced_of}
use Rattle.sector_disk.specs.rules.Counts.{HadCount, AnsweredCount}
use Rattle.sector_disk.specs.declared.write.Write.{Write}

-- there is no moment at t or later
pub none_had : (t : ℕ) (moments : List (Vec (List ℕ) Global × Vec Write Global)) (n : ℕ)
    → length moments ≤ t → HadCount t moments n → ⊥
none_had t [] n le had = had
none_had t (moment ∷ earlier) n le had =
    ⊎_elim (λ (here : (t ≤ length earlier) × (n ≡ length moment.1.items)). let e = here.0 in
    omega arith) (λ (h : HadCount t earlier n). none_had t earlier n (omega arith) h) had

-- of this very moment there is one count alone
pub count_only : (moments : List (Vec (List ℕ) Global × Vec Write Global)) (count n : ℕ)
    → (n ≡ count) ⊎ HadCount (length moments) moments n → n ≡ count
count_only moments count n since =
    ⊎_elim (λ e. e) (λ had. absurd (none_had (length moments) moments n (omega arith) had)) since

-- the same of a log of answers
pub none_answered : (t : ℕ) (answers : AnsweredCalls) (n : ℕ) → length answers < t
    → AnsweredCount t answers n → ⊥
none_answered t [] n lt since = let e = since.0 in omega arith
none_answered t (answer ∷ answers) n lt since =
    ⊎_elim (λ (here : (t ≤ length answers + 1) × (n ≡ unsynced_of (answer ∷ answers))).
    let e = here.0 in
    omega arith) (λ (h : AnsweredCount t answers n). none_answered t answers n (omega arith) h)
    since

-- this moment has the count that the log says
pub answered_now : (t : ℕ) (answers : AnsweredCalls) → t ≤ length answers
    → AnsweredCount t answers (unsynced_of answers)
answered_now t [] le = (le, refl)
answered_now t (answer ∷ answers) le = inl (let e : t ≤ length answers + 1 = omega arith in e, refl)

-- and no other one
pub answered_only : (answers : AnsweredCalls) (n : ℕ) → AnsweredCount (length answers) answers n
    → n ≡ unsynced_of answers
answered_only [] n since = since.1
answered_only (answer ∷ answers) n since =
    ⊎_elim (λ (here : (length (answer ∷ answers) ≤ length answers + 1)
    × (n ≡ unsynced_of (answer ∷ answers))). here.1)
    (λ (h : AnsweredCount (length (answer ∷ answers)) answers n).
    absurd (none_answered (length (answer ∷ answers)) answers n (omega arith) h)) since
