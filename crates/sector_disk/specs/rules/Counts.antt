-- How many writes there were that no sync had made durable, at the moments since an earlier one.
use Rattle.std.specs.Prelude.{◌≡◌, ◌⊎◌, ◌≤◌, ◌+◌, ℕ, List, [], ◌∷◌, Vec, length}
use Rattle.std.specs.declared.alloc.Global.{Global}
use Rattle.sector_disk.specs.rules.Answered.{AnsweredCalls, unsynced_of}
use Rattle.sector_disk.specs.declared.write.Write.{Write}

-- at a moment from t on there were n; of each moment the durable sectors and the writes since, the
-- newest first
abbrev pub HadCount : ℕ → List (Vec (List ℕ) Global × Vec Write Global) → ℕ → Type 0
HadCount t [] n = ⊥
HadCount t (moment ∷ earlier) n = ((t ≤ length earlier) × (n ≡ length moment.1.items))
    ⊎ HadCount t earlier n

-- the same of a file: it gave these answers, and at a moment from t on there were n
abbrev pub AnsweredCount : ℕ → AnsweredCalls → ℕ → Type 0
AnsweredCount t [] n = (t ≤ 0) × (n ≡ 0)
AnsweredCount t (answer ∷ answers) n =
    ((t ≤ length answers + 1) × (n ≡ unsynced_of (answer ∷ answers))) ⊎ AnsweredCount t answers n
