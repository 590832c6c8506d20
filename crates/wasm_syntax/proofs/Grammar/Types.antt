-- Types are read exactly.
use Rattle.std.proofs.Common.{◌≡◌, ℕ, inl, inr, true, eqb, List, [], ◌∷◌, Option, Some, None, refl}
use Rattle.std.proofs.Common.{ap}
use Rattle.std.proofs.lemmas.Bool.{eqb-true}
use Rattle.wasm_syntax.specs.declared.types.ValueType.{ValueType}
use Rattle.wasm_syntax.specs.declared.types.ValueType.TheVariants.{I32, I64}
use Rattle.wasm_syntax.specs.declared.types.Limits.{Limits}
use Rattle.wasm_syntax.specs.declared.types.Mutability.{Mutability}
use Rattle.wasm_syntax.specs.declared.types.Mutability.TheVariants.{Constant, Variable}
use Rattle.wasm_syntax.specs.rules.Items.{IsThisByte, IsVector, IsValueType, IsBlockType}
use Rattle.wasm_syntax.specs.rules.Items.{IsFunctionType, IsRange, IsLimits, IsTableType}
use Rattle.wasm_syntax.specs.rules.Items.{IsMemoryType, IsMutability, IsGlobalType}
use Rattle.wasm_syntax.specs.laws.ReadingItems.{exactly_at, leb_u32_at, vector_at, value_type_at}
use Rattle.wasm_syntax.specs.laws.ReadingItems.{block_type_at, function_type_at, limits_at}
use Rattle.wasm_syntax.specs.laws.ReadingItems.{table_type_at, memory_type_at, mutability_at}
use Rattle.wasm_syntax.specs.laws.ReadingItems.{global_type_at}
use Rattle.wasm_syntax.proofs.Grammar.Exact.{Reads, bind_some, pass_some, chosen, carry}
use Rattle.wasm_syntax.proofs.Grammar.Integers.{Reads-u32_at, byte_sound, byte_complete}
use Rattle.wasm_syntax.proofs.Grammar.Vectors.{Reads-vector_at}

-- the byte at the front is the one that a test named
pub front_is : (b k : ℕ) (bytes : List ℕ) → eqb b k ≡ true → IsThisByte k (b ∷ bytes) bytes
front_is b k bytes e = ap (λ (x : ℕ). x ∷ bytes) (eqb-true b k e)

value_type_sound : (bytes : List ℕ) (t : ValueType) (rest : List ℕ)
    → value_type_at bytes ≡ Some (t, rest) → IsValueType bytes t rest
value_type_sound [] t rest e = absurd cc
value_type_sound (b ∷ bytes) t rest e =
    elim (chosen (eqb b 0x7f) _ _ _ e) [
      | inl h ↦ carry (IsValueType (b ∷ bytes)) I32 t bytes rest h.1 (front_is b 0x7f bytes h.0)
      | inr h ↦ let k = pass_some (eqb b 0x7e) _ _ h.1 in
          carry (IsValueType (b ∷ bytes)) I64 t bytes rest k.1 (front_is b 0x7e bytes k.0)
    ]

value_type_complete : (bytes : List ℕ) (t : ValueType) (rest : List ℕ) → IsValueType bytes t rest
    → value_type_at bytes ≡ Some (t, rest)
value_type_complete bytes I32 rest h = rw h refl
value_type_complete bytes I64 rest h = rw h refl

pub Reads-value_type_at : Reads IsValueType value_type_at
Reads-value_type_at = record { sound = value_type_sound; complete = value_type_complete }

block_type_sound : (bytes : List ℕ) (t : Option ValueType) (rest : List ℕ)
    → block_type_at bytes ≡ Some (t, rest) → IsBlockType bytes t rest
block_type_sound [] t rest e = absurd cc
block_type_sound (b ∷ bytes) t rest e =
    elim (chosen (eqb b 0x40) _ _ _ e) [
      | inl h ↦ carry (IsBlockType (b ∷ bytes)) None t bytes rest h.1 (front_is b 0x40 bytes h.0)
      | inr h ↦ elim (chosen (eqb b 0x7f) _ _ _ h.1) [
        | inl h ↦ carry (IsBlockType (b ∷ bytes)) (Some I32) t bytes rest h.1
            (front_is b 0x7f bytes h.0)
        | inr h ↦ let k = pass_some (eqb b 0x7e) _ _ h.1 in
            carry (IsBlockType (b ∷ bytes)) (Some I64) t bytes rest k.1 (front_is b 0x7e bytes k.0)
      ]
    ]

block_type_complete : (bytes : List ℕ) (t : Option ValueType) (rest : List ℕ)
    → IsBlockType bytes t rest → block_type_at bytes ≡ Some (t, rest)
block_type_complete bytes None rest h = rw h refl
block_type_complete bytes (Some I32) rest h = rw h refl
block_type_complete bytes (Some I64) rest h = rw h refl

pub Reads-block_type_at : Reads IsBlockType block_type_at
Reads-block_type_at = record { sound = block_type_sound; complete = block_type_complete }

pub Reads-value_types : Reads (IsVector IsValueType) (vector_at value_type_at)
Reads-value_types = Reads-vector_at IsValueType value_type_at Reads-value_type_at

pub Reads-function_type_at : Reads IsFunctionType function_type_at
unfolding function_type_at
Reads-function_type_at = record {
  sound = λ bytes t rest e.
      let mark = bind_some (exactly_at 0x60 bytes) _ _ e in
      let takes = bind_some (vector_at value_type_at mark.0.1) _ _ mark.2 in
      let gives = bind_some (vector_at value_type_at takes.0.1) _ _ takes.2 in
      carry (IsFunctionType bytes) (record {
        parameters = takes.0.0;
        results = gives.0.0;
      }) t gives.0.1 rest gives.2 (
        mark.0.1,
        takes.0.1,
        byte_sound 0x60 bytes mark.0.0 mark.0.1 mark.1,
        Reads-value_types.sound mark.0.1 takes.0.0 takes.0.1 takes.1,
        Reads-value_types.sound takes.0.1 gives.0.0 gives.0.1 gives.1,
      );
  complete = λ bytes t rest h.
      rw (
        byte_complete 0x60 bytes h.0 h.2,
        Reads-value_types.complete h.0 t.parameters h.1 h.3,
        Reads-value_types.complete h.1 t.results rest h.4,
      ) refl;
}

limits_sound : (bytes : List ℕ) (l : Limits) (rest : List ℕ) → limits_at bytes ≡ Some (l, rest)
    → IsLimits bytes l rest
unfolding limits_at
limits_sound [] l rest e = absurd cc
limits_sound (b ∷ bytes) l rest e =
    elim (chosen (eqb b 0x00) _ _ _ e) [
      | inl h ↦
          let least = bind_some (leb_u32_at bytes) _ _ h.1 in
          carry (IsLimits (b ∷ bytes)) (record {
            minimum = least.0.0;
            maximum = None;
          }) l least.0.1 rest least.2
          (bytes, front_is b 0x00 bytes h.0, Reads-u32_at.sound bytes least.0.0 least.0.1 least.1)
      | inr h ↦
          let one = pass_some (eqb b 0x01) _ _ h.1 in
          let least = bind_some (leb_u32_at bytes) _ _ one.1 in
          let most = bind_some (leb_u32_at least.0.1) _ _ least.2 in
          carry (IsLimits (b ∷ bytes)) (record {
            minimum = least.0.0;
            maximum = Some most.0.0;
          }) l most.0.1 rest most.2 (
            bytes,
            least.0.1,
            front_is b 0x01 bytes one.0,
            Reads-u32_at.sound bytes least.0.0 least.0.1 least.1,
            Reads-u32_at.sound least.0.1 most.0.0 most.0.1 most.1,
          )
    ]

range_complete : (bytes : List ℕ) (least : ℕ) (most : Option ℕ) (rest : List ℕ)
    → IsRange bytes least most rest
    → limits_at bytes ≡ Some (record { minimum = least; maximum = most }, rest)
unfolding limits_at
range_complete bytes least None rest h = rw (h.1, Reads-u32_at.complete h.0 least rest h.2) refl
range_complete bytes least (Some most) rest h =
    rw (h.2, Reads-u32_at.complete h.0 least h.1 h.3, Reads-u32_at.complete h.1 most rest h.4) refl

pub Reads-limits_at : Reads IsLimits limits_at
Reads-limits_at =
    record {
      sound = limits_sound;
      complete = λ bytes l rest h. range_complete bytes l.minimum l.maximum rest h;
    }

pub Reads-table_type_at : Reads IsTableType table_type_at
unfolding table_type_at
Reads-table_type_at = record {
  sound = λ bytes t rest e.
      let mark = bind_some (exactly_at 0x70 bytes) _ _ e in
      let l = bind_some (limits_at mark.0.1) _ _ mark.2 in
      carry (IsTableType bytes) (record { limits = l.0.0 }) t l.0.1 rest l.2 (
        mark.0.1,
        byte_sound 0x70 bytes mark.0.0 mark.0.1 mark.1,
        Reads-limits_at.sound mark.0.1 l.0.0 l.0.1 l.1,
      );
  complete = λ bytes t rest h. rw (
    byte_complete 0x70 bytes h.0 h.1,
    Reads-limits_at.complete h.0 t.limits rest h.2,
  ) refl;
}

pub Reads-memory_type_at : Reads IsMemoryType memory_type_at
unfolding memory_type_at
Reads-memory_type_at = record {
  sound = λ bytes t rest e.
      let l = bind_some (limits_at bytes) _ _ e in
      carry (IsMemoryType bytes) (record { limits = l.0.0 }) t l.0.1 rest l.2
      (Reads-limits_at.sound bytes l.0.0 l.0.1 l.1);
  complete = λ bytes t rest h. rw (Reads-limits_at.complete bytes t.limits rest h) refl;
}

mutability_sound : (bytes : List ℕ) (m : Mutability) (rest : List ℕ)
    → mutability_at bytes ≡ Some (m, rest) → IsMutability bytes m rest
mutability_sound [] m rest e = absurd cc
mutability_sound (b ∷ bytes) m rest e =
    elim (chosen (eqb b 0x00) _ _ _ e) [
      | inl h ↦ carry (IsMutability (b ∷ bytes)) Constant m bytes rest h.1
          (front_is b 0x00 bytes h.0)
      | inr h ↦ let k = pass_some (eqb b 0x01) _ _ h.1 in
          carry (IsMutability (b ∷ bytes)) Variable m bytes rest k.1 (front_is b 0x01 bytes k.0)
    ]

mutability_complete : (bytes : List ℕ) (m : Mutability) (rest : List ℕ) → IsMutability bytes m rest
    → mutability_at bytes ≡ Some (m, rest)
mutability_complete bytes Constant rest h = rw h refl
mutability_complete bytes Variable rest h = rw h refl

pub Reads-mutability_at : Reads IsMutability mutability_at
Reads-mutability_at = record { sound = mutability_sound; complete = mutability_complete }

pub Reads-global_type_at : Reads IsGlobalType global_type_at
unfolding global_type_at
Reads-global_type_at = record {
  sound = λ bytes t rest e.
      let v = bind_some (value_type_at bytes) _ _ e in
      let m = bind_some (mutability_at v.0.1) _ _ v.2 in
      carry (IsGlobalType bytes) (record {
        value_type = v.0.0;
        mutability = m.0.0;
      }) t m.0.1 rest m.2 (
        v.0.1,
        Reads-value_type_at.sound bytes v.0.0 v.0.1 v.1,
        Reads-mutability_at.sound v.0.1 m.0.0 m.0.1 m.1,
      );
  complete = λ bytes t rest h. rw (
    Reads-value_type_at.complete bytes t.value_type h.0 h.1,
    Reads-mutability_at.complete h.0 t.mutability rest h.2,
  ) refl;
}
