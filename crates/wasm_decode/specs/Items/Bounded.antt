-- Limits of a table or a memory, of which the minimum may be bounded.
use Rattle.std.specs.Prelude.{ℕ, nat_lt, if◌then◌else◌, Bool, false, List, Option, Some, None}
use Rattle.wasm_syntax.specs.declared.types.Limits.{Limits}
use Rattle.wasm_syntax.specs.laws.ReadingItems.{◌>>=◌, limits_at}

-- past the bound, where there is one
abbrev pub is_past : Option ℕ → ℕ → Bool
is_past None n = false
is_past (Some most) n = nat_lt most n

-- limits whose minimum isn't past the bound
abbrev pub limits_up_to_at : Option ℕ → List ℕ → Option (Limits × List ℕ)
limits_up_to_at most bytes = limits_at bytes >>= λ l. if is_past most l.0.minimum then None
    else Some l
