-- What an instruction takes and gives is what its typing rule says.
use Rattle.std.proofs.Common.{◌≡◌, ℕ, ◌^◌, ◌≤◌, Bool, true, false, List, [], ◌∷◌, ◌++◌, Option}
use Rattle.std.proofs.Common.{Some, None, refl, arith}
use Rattle.std.specs.Prelude.{slice_get, nat_le, ◌&&◌, is_some}
use Rattle.std.specs.List.{AllByRecursion}
use Rattle.std.proofs.lemmas.Bool.Decides.{nat_tests}
use Rattle.wasm_syntax.specs.declared.types.ValueType.{ValueType}
use Rattle.wasm_syntax.specs.declared.types.ValueType.TheVariants.{I32, I64}
use Rattle.wasm_syntax.specs.declared.types.GlobalType.{GlobalType}
use Rattle.wasm_syntax.specs.declared.types.Mutability.{Mutability}
use Rattle.wasm_syntax.specs.declared.types.Mutability.TheVariants.{Constant, Variable}
use Rattle.wasm_syntax.specs.declared.value.Value.{Value}
use Rattle.wasm_syntax.specs.declared.value.Value.TheVariants as value
use Rattle.wasm_syntax.specs.declared.instruction.Instruction.{Instruction}
use Rattle.wasm_syntax.specs.declared.instruction.Instruction.TheVariants as instr
use Rattle.wasm_rules.specs.Types.{IsOf, are_same_types, takes_of, gives_of, loaded_width}
use Rattle.wasm_rules.specs.Types.{stored_width, bytes_in}
use Rattle.wasm_rules.specs.Typing.{Context, HasInstructionType, HasMemory, IsLabel}
use Rattle.wasm_rules.specs.Shapes.{type_of}
use Rattle.wasm_validate.specs.laws.Checking.{Arrow, Fixed, Jump, Dropping, Selecting, Refused}
use Rattle.wasm_validate.specs.laws.Checking.{arrow_of_some, only, has_table, has_memory}
use Rattle.wasm_validate.specs.laws.Checking.{is_variable, is_label, are_labels, is_number}
use Rattle.wasm_validate.specs.laws.Checking.{arrow_of}
use Rattle.wasm_rules.proofs.Soundness.ControlSound.{same_types, are_same}
use Rattle.wasm_syntax.proofs.Grammar.Rising.{both as both_true, there}

-- the operands p are taken and q left
abbrev pub Meets : Arrow → List ValueType → List ValueType → Type 0
Meets (Fixed takes gives) p q = (p ≡ takes) × (q ≡ gives)
Meets (Jump takes) p q = (rest : List ValueType) × (p ≡ takes ++ rest)
Meets Dropping p q = (t : ValueType) × (p ≡ t ∷ []) × (q ≡ [])
Meets Selecting p q = (t : ValueType) × (p ≡ I32 ∷ t ∷ t ∷ []) × (q ≡ t ∷ [])
Meets Refused p q = ⊥

-- ---- tests

module _ (c : Context) (labels : List (List ValueType)) where
  label_there : (ts : List ValueType) (l : ℕ) → is_label labels ts l ≡ true → IsLabel labels ts l
  label_there ts l e = there (slice_get labels l) refl e
    where
      there : (o : Option (List ValueType)) → slice_get labels l ≡ o → is_label labels ts l ≡ true
          → slice_get labels l ≡ Some ts
      there None s e = let f : false ≡ true = rw s at e in absurd (cc)
      there (Some us) s e = let f : are_same_types us ts ≡ true = rw s at e in
          let g = same_types us ts f in cc

  label_is : (ts : List ValueType) (l : ℕ) → IsLabel labels ts l → is_label labels ts l ≡ true
  label_is ts l e = rw e (are_same ts)

  labels_there : (ts : List ValueType) (ls : List ℕ) → are_labels labels ts ls ≡ true
      → AllByRecursion (IsLabel labels ts) ls
  labels_there ts [] e = tt
  labels_there ts (l ∷ ls) e =
      let b = both_true (is_label labels ts l) (are_labels labels ts ls) e in
      (label_there ts l b.0, labels_there ts ls b.1)

  labels_are : (ts : List ValueType) (ls : List ℕ) → AllByRecursion (IsLabel labels ts) ls
      → are_labels labels ts ls ≡ true
  labels_are ts [] h = refl
  labels_are ts (l ∷ ls) h = rw (label_is ts l h.0) (labels_are ts ls h.1)

-- ---- what is looked up

some_of : {X : Type 0} (o : Option X) (go : X → Arrow) (p q : List ValueType)
    → Meets (arrow_of_some o go) p q → (x : X) × (o ≡ Some x) × Meets (go x) p q
some_of None go p q h = absurd h
some_of (Some x) go p q h = (x, refl, h)

to_some : {X : Type 0} (o : Option X) (go : X → Arrow) (p q : List ValueType) (x : X) → o ≡ Some x
    → Meets (go x) p q → Meets (arrow_of_some o go) p q
to_some o go p q x e h = rw e h

only_of : (b : Bool) (a : Arrow) (p q : List ValueType) → Meets (only b a) p q
    → (b ≡ true) × Meets a p q
only_of true a p q h = (refl, h)
only_of false a p q h = absurd h

to_only : (b : Bool) (a : Arrow) (p q : List ValueType) → b ≡ true → Meets a p q
    → Meets (only b a) p q
to_only b a p q e h = rw e h

is_there : {X : Type 0} (o : Option X) (x : X) → o ≡ Some x → is_some o ≡ true
is_there o x e = rw e refl

variable_of : (m : Mutability) → is_variable m ≡ true → m ≡ Variable
variable_of Constant e = absurd (cc)
variable_of Variable e = refl

number_of_type : (v : Value) → is_number v ≡ true → IsOf (type_of v) v
number_of_type (value.I32 n) e = grind (arith, nat_tests)
number_of_type (value.I64 n) e = grind (arith, nat_tests)

type_of_number : (t : ValueType) (v : Value) → IsOf t v → (is_number v ≡ true) × (type_of v ≡ t)
type_of_number I32 (value.I32 n) h = (grind (arith, nat_tests), refl)
type_of_number I64 (value.I64 n) h = (grind (arith, nat_tests), refl)
type_of_number I32 (value.I64 n) h = absurd h
type_of_number I64 (value.I32 n) h = absurd h

le_of : (m n : ℕ) → nat_le m n ≡ true → m ≤ n
le_of m n e = grind (arith, nat_tests)

is_le : (m n : ℕ) → m ≤ n → nat_le m n ≡ true
is_le m n e = grind (arith, nat_tests)

pub both : (a b : Bool) → a ≡ true → b ≡ true → (a && b) ≡ true
both a b d e = rw (d, e) refl

-- ---- the rules

module _ (c : Context) (labels : List (List ValueType)) (p q : List ValueType) where
  memory_argument : (align width : ℕ) (a : Arrow)
      → Meets (only (has_memory c && nat_le (2 ^ align) width) a) p q
      → HasMemory c × (2 ^ align ≤ width) × Meets a p q
  memory_argument align width a h =
      let o = only_of (has_memory c && nat_le (2 ^ align) width) a p q h in
      let b = both_true (has_memory c) (nat_le (2 ^ align) width) o.0 in
      (there (slice_get c.memories 0) b.0, le_of (2 ^ align) width b.1, o.1)

  to_memory_argument : (align width : ℕ) (a : Arrow) → HasMemory c → 2 ^ align ≤ width → Meets a p q
      → Meets (only (has_memory c && nat_le (2 ^ align) width) a) p q
  to_memory_argument align width a m e h =
      to_only (has_memory c
      && nat_le (2 ^ align) width) a p q (both (has_memory c) (nat_le (2 ^ align) width)
      (is_there (slice_get c.memories 0) m.0 m.1) (is_le (2 ^ align) width e)) h

  pub type_of_arrow : (i : Instruction) → Meets (arrow_of c labels i) p q
      → HasInstructionType c labels i p q
  type_of_arrow instr.Unreachable h = tt
  type_of_arrow (instr.Br l) h = let s = some_of (slice_get labels l) (λ ts. Jump ts) p q h in
      (s.0, s.2.0, s.1, s.2.1)
  type_of_arrow (instr.BrIf l) h =
      let s = some_of (slice_get labels l) (λ ts. Fixed (I32 ∷ ts) ts) p q h in
      (s.0, s.1, s.2.0, s.2.1)
  type_of_arrow (instr.BrTable ls l) h =
      let s = some_of (slice_get labels l) (λ ts. only (are_labels labels ts ls) (Jump (I32 ∷ ts)))
      p q h in
      let o = only_of (are_labels labels s.0 ls) (Jump (I32 ∷ s.0)) p q s.2 in
      (s.0, o.1.0, labels_there c labels s.0 ls o.0, s.1, o.1.1)
  type_of_arrow (instr.Call x) h =
      let s = some_of (slice_get c.functions x) (λ f. Fixed (takes_of f) (gives_of f)) p q h in
      (s.0, s.1, s.2.0, s.2.1)
  type_of_arrow (instr.CallIndirect x) h =
      let s = some_of (slice_get c.types x) (λ f.
      only (has_table c) (Fixed (I32 ∷ takes_of f) (gives_of f))) p q h in
      let o = only_of (has_table c) (Fixed (I32 ∷ takes_of s.0) (gives_of s.0)) p q s.2 in
      (s.0, s.1, there (slice_get c.tables 0) o.0, o.1.0, o.1.1)
  type_of_arrow (instr.LocalGet x) h =
      let s = some_of (slice_get c.locals x) (λ t. Fixed [] (t ∷ [])) p q h in
      (s.0, s.1, s.2.0, s.2.1)
  type_of_arrow (instr.LocalSet x) h =
      let s = some_of (slice_get c.locals x) (λ t. Fixed (t ∷ []) []) p q h in
      (s.0, s.1, s.2.0, s.2.1)
  type_of_arrow (instr.LocalTee x) h =
      let s = some_of (slice_get c.locals x) (λ t. Fixed (t ∷ []) (t ∷ [])) p q h in
      (s.0, s.1, s.2.0, s.2.1)
  type_of_arrow (instr.GlobalGet x) h =
      let s = some_of (slice_get c.globals x) (λ (g : GlobalType). Fixed [] (g.value_type
      ∷ [])) p q h in (s.0, s.1, s.2.0, s.2.1)
  type_of_arrow (instr.GlobalSet x) h =
      let s = some_of (slice_get c.globals x) (λ (g : GlobalType).
      only (is_variable g.mutability) (Fixed (g.value_type ∷ []) [])) p q h in
      let g : GlobalType = s.0 in
      let o = only_of (is_variable g.mutability) (Fixed (g.value_type ∷ []) []) p q s.2 in
      (g, s.1, variable_of g.mutability o.0, o.1.0, o.1.1)
  type_of_arrow (instr.Load o m) h = let r = memory_argument m.align (bytes_in (loaded_width o)) _ h
      in (r.0, r.1, r.2.0, r.2.1)
  type_of_arrow (instr.Store o m) h =
      let r = memory_argument m.align (bytes_in (stored_width o)) _ h in (r.0, r.1, r.2.0, r.2.1)
  type_of_arrow instr.MemorySize h = let o = only_of (has_memory c) _ p q h in
      (there (slice_get c.memories 0) o.0, o.1.0, o.1.1)
  type_of_arrow instr.MemoryGrow h = let o = only_of (has_memory c) _ p q h in
      (there (slice_get c.memories 0) o.0, o.1.0, o.1.1)
  type_of_arrow instr.MemoryCopy h = let o = only_of (has_memory c) _ p q h in
      (there (slice_get c.memories 0) o.0, o.1.0, o.1.1)
  type_of_arrow instr.MemoryFill h = let o = only_of (has_memory c) _ p q h in
      (there (slice_get c.memories 0) o.0, o.1.0, o.1.1)
  type_of_arrow (instr.Const v) h = let o = only_of (is_number v) _ p q h in
      (type_of v, number_of_type v o.0, o.1.0, o.1.1)
  type_of_arrow _ h = h

  pub arrow_of_type : (i : Instruction) → HasInstructionType c labels i p q
      → Meets (arrow_of c labels i) p q
  arrow_of_type instr.Unreachable h = (p, refl)
  arrow_of_type (instr.Br l) h = to_some (slice_get labels l) (λ ts. Jump ts) p q h.0 h.2 (h.1, h.3)
  arrow_of_type (instr.BrIf l) h =
      to_some (slice_get labels l) (λ ts. Fixed (I32 ∷ ts) ts) p q h.0 h.1 (h.2, h.3)
  arrow_of_type (instr.BrTable ls l) h =
      to_some (slice_get labels l) (λ ts. only (are_labels labels ts ls) (Jump (I32 ∷ ts))) p q h.0
      h.3 (to_only (are_labels labels h.0 ls) (Jump (I32 ∷ h.0)) p q
      (labels_are c labels h.0 ls h.2) (h.1, h.4))
  arrow_of_type (instr.Call x) h =
      to_some (slice_get c.functions x) (λ f. Fixed (takes_of f) (gives_of f)) p q h.0 h.1 (
        h.2,
        h.3,
      )
  arrow_of_type (instr.CallIndirect x) h =
      to_some (slice_get c.types x) (λ f.
      only (has_table c) (Fixed (I32 ∷ takes_of f) (gives_of f))) p q h.0 h.1
      (to_only (has_table c) (Fixed (I32 ∷ takes_of h.0) (gives_of h.0)) p q
      (is_there (slice_get c.tables 0) h.2.0 h.2.1) (h.3, h.4))
  arrow_of_type (instr.LocalGet x) h =
      to_some (slice_get c.locals x) (λ t. Fixed [] (t ∷ [])) p q h.0 h.1 (h.2, h.3)
  arrow_of_type (instr.LocalSet x) h =
      to_some (slice_get c.locals x) (λ t. Fixed (t ∷ []) []) p q h.0 h.1 (h.2, h.3)
  arrow_of_type (instr.LocalTee x) h =
      to_some (slice_get c.locals x) (λ t. Fixed (t ∷ []) (t ∷ [])) p q h.0 h.1 (h.2, h.3)
  arrow_of_type (instr.GlobalGet x) h =
      to_some (slice_get c.globals x) (λ (g : GlobalType). Fixed [] (g.value_type ∷ [])) p q h.0 h.1
      (h.2, h.3)
  arrow_of_type (instr.GlobalSet x) h =
      let g : GlobalType = h.0 in
      let v : is_variable g.mutability ≡ true = rw h.2 refl in
      to_some (slice_get c.globals x) (λ (g : GlobalType).
      only (is_variable g.mutability) (Fixed (g.value_type ∷ []) [])) p q g h.1
      (to_only (is_variable g.mutability) (Fixed (g.value_type ∷ []) []) p q v (h.3, h.4))
  arrow_of_type (instr.Load o m) h =
      to_memory_argument m.align (bytes_in (loaded_width o)) _ h.0 h.1 (h.2, h.3)
  arrow_of_type (instr.Store o m) h =
      to_memory_argument m.align (bytes_in (stored_width o)) _ h.0 h.1 (h.2, h.3)
  arrow_of_type instr.MemorySize h =
      to_only (has_memory c) _ p q (is_there (slice_get c.memories 0) h.0.0 h.0.1) (h.1, h.2)
  arrow_of_type instr.MemoryGrow h =
      to_only (has_memory c) _ p q (is_there (slice_get c.memories 0) h.0.0 h.0.1) (h.1, h.2)
  arrow_of_type instr.MemoryCopy h =
      to_only (has_memory c) _ p q (is_there (slice_get c.memories 0) h.0.0 h.0.1) (h.1, h.2)
  arrow_of_type instr.MemoryFill h =
      to_only (has_memory c) _ p q (is_there (slice_get c.memories 0) h.0.0 h.0.1) (h.1, h.2)
  arrow_of_type (instr.Const v) h =
      let n = type_of_number h.0 v h.1 in
      let same = n.1 in
      to_only (is_number v) (Fixed [] (type_of v ∷ [])) p q n.0 (h.2, rw same h.3)
  arrow_of_type _ h = h
