-- Words of a type, and the operand in one.
use Rattle.std.proofs.Common.{◌≡◌, ℕ, refl, subst}
use Rattle.std.proofs.Math.Nat.{mod-eq_of_lt}
use Rattle.std.specs.Prelude.{Option}
use Rattle.wasm_syntax.specs.declared.types.ValueType.{ValueType}
use Rattle.wasm_syntax.specs.declared.types.ValueType.TheVariants.{I32, I64}
use Rattle.wasm_syntax.specs.declared.operator.StoreOperator.{StoreOperator}
use Rattle.guest_memory.specs.rules.Memories.{LinearMemory}
use Rattle.wasm_rules.specs.Types.{stored_type}
use Rattle.machine_slots.specs.Words.{IsWordOf, Stores, operand_in, stored_at}

-- a word that is one of this type is its own operand
pub own_operand : (t : ValueType) (n : ℕ) → IsWordOf t n → operand_in t n ≡ n
own_operand I32 n fits = mod-eq_of_lt fits
own_operand I64 n fits = refl

-- such a word is stored as it is
pub stores_word : (operator : StoreOperator) (m : LinearMemory) (at n : ℕ)
    (stored : Option (Unit {0})) (old new : LinearMemory) → IsWordOf (stored_type operator) n
    → Stores (stored_at operator m at (operand_in (stored_type operator) n)) stored old new
    → Stores (stored_at operator m at n) stored old new
stores_word operator m at n stored old new fits stores =
    subst (λ (word : ℕ). Stores (stored_at operator m at word) stored old new)
    (own_operand (stored_type operator) n fits) stores
