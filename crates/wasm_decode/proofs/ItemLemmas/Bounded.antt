-- Types of tables and memories, by their limits.
use Rattle.std.proofs.Common.{◌≡◌, ℕ, Bool, true, false, List, Option, Some, None, refl, cond, ltb}
use Rattle.wasm_syntax.specs.declared.types.Limits.{Limits}
use Rattle.wasm_syntax.specs.declared.types.TableType.{TableType}
use Rattle.wasm_syntax.specs.declared.types.MemoryType.{MemoryType}
use Rattle.wasm_syntax.specs.declared.limits.TheConstants.{TABLE_ENTRIES}
use Rattle.wasm_syntax.specs.laws.ReadingItems.{◌>>=◌, exactly_at, limits_at, table_type_at}
use Rattle.wasm_syntax.specs.laws.ReadingItems.{memory_type_at}
use Rattle.wasm_syntax.specs.laws.ReadingWithin.{table_type_within_at}
use Rattle.wasm_decode.specs.Items.Bounded.{limits_up_to_at}

abbrev pub made : Limits × List ℕ → Option (TableType × List ℕ)
made l = Some (record { limits = l.0 }, l.1)

pub table_by_limits : (bytes : List ℕ) → table_type_within_at bytes ≡ exactly_at 0x70 bytes
    >>= λ mark. limits_up_to_at (Some TABLE_ENTRIES) mark.1 >>= made
unfolding table_type_within_at table_type_at
table_by_limits bytes = by_mark (exactly_at 0x70 bytes) where
  by_test : (b : Bool) (l : Limits × List ℕ) → (cond b None (made l)) ≡ (cond b None (Some l)
      >>= made)
  by_test true l = refl
  by_test false l = refl

  by_limits : (o : Option (Limits × List ℕ))
      → ((o >>= made) >>= λ t. cond (ltb TABLE_ENTRIES t.0.limits.minimum) None (Some t))
      ≡ ((o >>= λ l. cond (ltb TABLE_ENTRIES l.0.minimum) None (Some l)) >>= made)
  by_limits None = refl
  by_limits (Some l) = by_test (ltb TABLE_ENTRIES l.0.minimum) l

  by_mark : (o : Option (Unit {0} × List ℕ))
      → ((o >>= λ mark. limits_at mark.1 >>= made)
      >>= λ t. cond (ltb TABLE_ENTRIES t.0.limits.minimum) None (Some t)) ≡ (o
      >>= λ mark. (limits_at mark.1 >>= λ l. cond (ltb TABLE_ENTRIES l.0.minimum) None (Some l))
      >>= made)
  by_mark None = refl
  by_mark (Some mark) = by_limits (limits_at mark.1)

abbrev pub made_memory : Limits × List ℕ → Option (MemoryType × List ℕ)
made_memory l = Some (record { limits = l.0 }, l.1)

pub memory_by_limits : (bytes : List ℕ) → memory_type_at bytes ≡ limits_up_to_at None bytes
    >>= made_memory
unfolding memory_type_at
memory_by_limits bytes = by_limits (limits_at bytes) where
  by_limits : (o : Option (Limits × List ℕ))
      → (o >>= made_memory) ≡ ((o >>= λ l. Some l) >>= made_memory)
  by_limits None = refl
  by_limits (Some l) = refl
