-- The opcodes of operators are read exactly.
use Rattle.std.proofs.Common.{◌≡◌, ℕ, zero, suc, ◌+◌, ◌-◌, ◌≤◌, Bool, true, false, ◌&&◌, leb, eqb}
use Rattle.std.proofs.Common.{List, [], ◌∷◌, map, length, Option, Some, None, refl, sym, ap, ◌∙◌}
use Rattle.std.proofs.Common.{arith}
use Rattle.std.specs.Prelude.{option_map, slice_get}
use Rattle.std.proofs.lemmas.Bool.{eqb-true, leb-true}
use Rattle.wasm_syntax.specs.declared.types.ValueType.TheVariants.{I32, I64}
use Rattle.wasm_syntax.specs.declared.operator.Conversion.TheVariants.{I32WrapI64, I64ExtendI32S}
use Rattle.wasm_syntax.specs.declared.operator.Conversion.TheVariants.{I64ExtendI32U, I32Extend8S}
use Rattle.wasm_syntax.specs.declared.operator.Conversion.TheVariants.{I32Extend16S, I64Extend8S}
use Rattle.wasm_syntax.specs.declared.operator.Conversion.TheVariants.{I64Extend16S, I64Extend32S}
use Rattle.wasm_syntax.specs.declared.operator.LoadOperator.{LoadOperator}
use Rattle.wasm_syntax.specs.declared.operator.LoadOperator.TheVariants as load
use Rattle.wasm_syntax.specs.declared.operator.StoreOperator.{StoreOperator}
use Rattle.wasm_syntax.specs.declared.operator.StoreOperator.TheVariants as store
use Rattle.wasm_syntax.specs.declared.instruction.Instruction.{Instruction}
use Rattle.wasm_syntax.specs.declared.instruction.Instruction.TheVariants as instr
use Rattle.wasm_syntax.specs.rules.Instructions.{load_opcode, store_opcode, eqz_opcode}
use Rattle.wasm_syntax.specs.rules.Instructions.{compare_place, compare_opcode, unary_place}
use Rattle.wasm_syntax.specs.rules.Instructions.{unary_opcode, binary_place, binary_opcode}
use Rattle.wasm_syntax.specs.rules.Instructions.{convert_opcode}
use Rattle.wasm_syntax.specs.laws.ReadingInstructions.{narrow_loads, narrow_stores, comparisons}
use Rattle.wasm_syntax.specs.laws.ReadingInstructions.{unary_operators, binary_operators}
use Rattle.wasm_syntax.specs.laws.ReadingInstructions.{is_between, load_of, store_operator_of}
use Rattle.wasm_syntax.specs.laws.ReadingInstructions.{comparison_of, operation_of}
use Rattle.wasm_syntax.proofs.Grammar.Exact.{pick, pass_some, just, some_is}

-- ---- tables

-- so many numbers, one after another
abbrev pub numbers_from : ℕ → ℕ → List ℕ
numbers_from first zero = []
numbers_from first (suc n) = first ∷ numbers_from (suc first) n

-- an item's place in a list whose places rise by one
place_in : {X : Type 0} (place : X → ℕ) (first : ℕ) (xs : List X) (k : ℕ) (x : X)
    → map place xs ≡ numbers_from first (length xs) → slice_get xs k ≡ Some x → place x ≡ first + k
place_in place first [] k x h e = absurd cc
place_in place first (y ∷ xs) zero x h e =
    let same : y ≡ x = some_is y x e in
    let here : place y ≡ first = cc in
    omega (arith, here, ap place same)
place_in place first (y ∷ xs) (suc k) x h e =
    let later : map place xs ≡ numbers_from (suc first) (length xs) = cc in
    omega (arith, place_in place (suc first) xs k x later e)

-- the lower of two bounds
lower_bound : (low high b : ℕ) → is_between low high b ≡ true → low ≤ b
lower_bound low high b e = leb-true low b (first (leb low b) (leb b high) e) where
  first : (p q : Bool) → (p && q) ≡ true → p ≡ true
  first true q e = refl
  first false q e = absurd cc

-- the opcode of an operator that a table of them gave
by_table : {X : Type 0} (place : X → ℕ) (first : ℕ) (xs : List X) (low high b : ℕ) (x : X)
    → map place xs ≡ numbers_from first (length xs) → is_between low high b ≡ true
    → slice_get xs (b - low) ≡ Some x → b + first ≡ low + place x
by_table place first xs low high b x h within e =
    omega (arith, lower_bound low high b within, place_in place first xs (b - low) x h e)

-- ---- loads and stores

pub load_sound : (b : ℕ) (operator : LoadOperator) → load_of b ≡ Some operator
    → b ≡ load_opcode operator
load_sound b operator e =
    pick (eqb b 0x28) _ _ _ e (λ t h. eqb-true b 0x28 t
    ∙ ap load_opcode (some_is load.I32 operator h)) (λ f e.
    pick (eqb b 0x29) _ _ _ e (λ t h. eqb-true b 0x29 t
    ∙ ap load_opcode (some_is load.I64 operator h)) (λ f e.
    let k = pass_some (is_between 0x2c 0x35 b) _ _ e in
    omega (arith, by_table load_opcode 0x2c narrow_loads 0x2c 0x35 b operator refl k.0 k.1)))

pub store_sound : (b : ℕ) (operator : StoreOperator) → store_operator_of b ≡ Some operator
    → b ≡ store_opcode operator
store_sound b operator e =
    pick (eqb b 0x36) _ _ _ e (λ t h. eqb-true b 0x36 t
    ∙ ap store_opcode (some_is store.I32 operator h)) (λ f e.
    pick (eqb b 0x37) _ _ _ e (λ t h. eqb-true b 0x37 t
    ∙ ap store_opcode (some_is store.I64 operator h)) (λ f e.
    let k = pass_some (is_between 0x3a 0x3e b) _ _ e in
    omega (arith, by_table store_opcode 0x3a narrow_stores 0x3a 0x3e b operator refl k.0 k.1)))

-- ---- numeric operators

-- the opcode of a numeric instruction that has no operands in the bytes
abbrev pub numeric_opcode : Instruction → Option ℕ
numeric_opcode (instr.Eqz t) = Some (eqz_opcode t)
numeric_opcode (instr.Compare t operator) = Some (compare_opcode t operator)
numeric_opcode (instr.Unary t operator) = Some (unary_opcode t operator)
numeric_opcode (instr.Binary t operator) = Some (binary_opcode t operator)
numeric_opcode (instr.Convert operator) = Some (convert_opcode operator)
numeric_opcode _ = None

has_opcode : (b : ℕ) (i j : Instruction) (opcode : ℕ) → just i ≡ just j
    → numeric_opcode i ≡ Some opcode → b ≡ opcode → numeric_opcode j ≡ Some b
has_opcode b i j opcode e is same = ap numeric_opcode (sym (some_is i j e)) ∙ is
    ∙ ap just (sym same)

tabled : {X : Type 0} (make : X → Instruction) (place : X
    → ℕ) (xs : List X) (low high b : ℕ) (i : Instruction)
    → ((x : X) → numeric_opcode (make x) ≡ Some (low + place x))
    → map place xs ≡ numbers_from 0 (length xs)
    → is_between low high b ≡ true → option_map make (slice_get xs (b - low)) ≡ Some i
    → numeric_opcode i ≡ Some b
tabled {X} make place xs low high b i opcode h within e =
    by_item (slice_get xs (b - low)) refl e where
      by_item : (o : Option X) → slice_get xs (b - low) ≡ o → option_map make o ≡ Some i
          → numeric_opcode i ≡ Some b
      by_item None is e = absurd cc
      by_item (Some x) is e =
          has_opcode b (make x) i (low + place x) e (opcode x) (omega (
            arith,
            by_table place 0 xs low high b x h within is,
          ))

pub comparison_sound : (b : ℕ) (i : Instruction) → comparison_of b ≡ Some i
    → numeric_opcode i ≡ Some b
comparison_sound b i e =
    pick (eqb b 0x45) _ _ _ e (λ t h. has_opcode b (instr.Eqz I32) i 0x45 h refl
    (eqb-true b 0x45 t)) (λ f e.
    pick (is_between 0x46 0x4f b) _ _ _ e (λ t h.
    tabled (instr.Compare I32) compare_place comparisons 0x46 0x4f b i (λ x. refl) refl t h)
    (λ f e.
    pick (eqb b 0x50) _ _ _ e (λ t h. has_opcode b (instr.Eqz I64) i 0x50 h refl
    (eqb-true b 0x50 t)) (λ f e.
    let k = pass_some (is_between 0x51 0x5a b) _ _ e in
    tabled (instr.Compare I64) compare_place comparisons 0x51 0x5a b i (λ x. refl) refl k.0 k.1)))

pub operation_sound : (b : ℕ) (i : Instruction) → operation_of b ≡ Some i
    → numeric_opcode i ≡ Some b
operation_sound b i e =
    pick (is_between 0x67 0x69 b) _ _ _ e (λ t h.
    tabled (instr.Unary I32) unary_place unary_operators 0x67 0x69 b i (λ x. refl) refl t h)
    (λ f e.
    pick (is_between 0x6a 0x78 b) _ _ _ e (λ t h.
    tabled (instr.Binary I32) binary_place binary_operators 0x6a 0x78 b i (λ x. refl) refl t h)
    (λ f e.
    pick (is_between 0x79 0x7b b) _ _ _ e (λ t h.
    tabled (instr.Unary I64) unary_place unary_operators 0x79 0x7b b i (λ x. refl) refl t h)
    (λ f e.
    pick (is_between 0x7c 0x8a b) _ _ _ e (λ t h.
    tabled (instr.Binary I64) binary_place binary_operators 0x7c 0x8a b i (λ x. refl) refl t h)
    (λ f e.
    pick (eqb b 0xa7) _ _ _ e (λ t h. has_opcode b (instr.Convert I32WrapI64) i 0xa7 h refl
    (eqb-true b 0xa7 t)) (λ f e.
    pick (eqb b 0xac) _ _ _ e (λ t h. has_opcode b (instr.Convert I64ExtendI32S) i 0xac h refl
    (eqb-true b 0xac t)) (λ f e.
    pick (eqb b 0xad) _ _ _ e (λ t h. has_opcode b (instr.Convert I64ExtendI32U) i 0xad h refl
    (eqb-true b 0xad t)) (λ f e.
    pick (eqb b 0xc0) _ _ _ e (λ t h. has_opcode b (instr.Convert I32Extend8S) i 0xc0 h refl
    (eqb-true b 0xc0 t)) (λ f e.
    pick (eqb b 0xc1) _ _ _ e (λ t h. has_opcode b (instr.Convert I32Extend16S) i 0xc1 h refl
    (eqb-true b 0xc1 t)) (λ f e.
    pick (eqb b 0xc2) _ _ _ e (λ t h. has_opcode b (instr.Convert I64Extend8S) i 0xc2 h refl
    (eqb-true b 0xc2 t)) (λ f e.
    pick (eqb b 0xc3) _ _ _ e (λ t h. has_opcode b (instr.Convert I64Extend16S) i 0xc3 h refl
    (eqb-true b 0xc3 t)) (λ f e.
    let k = pass_some (eqb b 0xc4) _ _ e in
    has_opcode b (instr.Convert I64Extend32S) i 0xc4 k.1 refl (eqb-true b 0xc4 k.0))))))))))))
