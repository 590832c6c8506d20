-- Instructions are read exactly.
use Rattle.std.proofs.Common.{◌≡◌, ℕ, zero, suc, ltb, eqb, List, [], ◌∷◌, map, Option, Some, refl}
use Rattle.std.proofs.Common.{true, sym, ap, subst}
use Rattle.std.specs.Prelude.{slice_get}
use Rattle.std.proofs.lemmas.Bool.{eqb-true}
use Rattle.wasm_syntax.specs.declared.types.ValueType.{ValueType}
use Rattle.wasm_syntax.specs.declared.types.ValueType.TheVariants.{I32, I64}
use Rattle.wasm_syntax.specs.declared.value.Value.TheVariants as value
use Rattle.wasm_syntax.specs.declared.operator.UnaryOperator.{UnaryOperator}
use Rattle.wasm_syntax.specs.declared.operator.UnaryOperator.TheVariants.{Clz, Ctz, Popcnt}
use Rattle.wasm_syntax.specs.declared.operator.BinaryOperator.{BinaryOperator}
use Rattle.wasm_syntax.specs.declared.operator.BinaryOperator.TheVariants.{Add}
use Rattle.wasm_syntax.specs.declared.operator.Comparison.{Comparison}
use Rattle.wasm_syntax.specs.declared.operator.Comparison.TheVariants.{Eq}
use Rattle.wasm_syntax.specs.declared.operator.Conversion.{Conversion}
use Rattle.wasm_syntax.specs.declared.operator.Conversion.TheVariants.{I32WrapI64}
use Rattle.wasm_syntax.specs.declared.operator.LoadOperator.{LoadOperator}
use Rattle.wasm_syntax.specs.declared.operator.LoadOperator.TheVariants as load
use Rattle.wasm_syntax.specs.declared.operator.StoreOperator.{StoreOperator}
use Rattle.wasm_syntax.specs.declared.operator.StoreOperator.TheVariants as store
use Rattle.wasm_syntax.specs.declared.instruction.MemoryArgument.{MemoryArgument}
use Rattle.wasm_syntax.specs.declared.instruction.Instruction.{Instruction}
use Rattle.wasm_syntax.specs.declared.instruction.Instruction.TheVariants as instr
use Rattle.wasm_syntax.specs.rules.Items.{IsThisByte, IsU32, IsSigned, IsVector, IsBlockType}
use Rattle.wasm_syntax.specs.rules.Instructions.{load_opcode, store_opcode, eqz_opcode}
use Rattle.wasm_syntax.specs.rules.Instructions.{compare_place, compare_opcode, unary_place}
use Rattle.wasm_syntax.specs.rules.Instructions.{unary_opcode, binary_place, binary_opcode}
use Rattle.wasm_syntax.specs.rules.Instructions.{convert_opcode, IsMemoryArgument, IsInstruction}
use Rattle.wasm_syntax.specs.laws.ReadingItems.{◌>>=◌, read_as, exactly_at, leb_u32_at, signed_at}
use Rattle.wasm_syntax.specs.laws.ReadingItems.{vector_at, block_type_at}
use Rattle.wasm_syntax.specs.laws.ReadingInstructions.{comparisons, unary_operators}
use Rattle.wasm_syntax.specs.laws.ReadingInstructions.{binary_operators, load_of, store_operator_of}
use Rattle.wasm_syntax.specs.laws.ReadingInstructions.{comparison_of, operation_of, control_at}
use Rattle.wasm_syntax.specs.laws.ReadingInstructions.{variable_at, memory_argument_at, memory_at}
use Rattle.wasm_syntax.specs.laws.ReadingInstructions.{copy_at, prefixed_at, numeric_at}
use Rattle.wasm_syntax.specs.laws.ReadingInstructions.{higher_at, behind_opcode, instruction_at}
use Rattle.wasm_syntax.proofs.Grammar.Exact.{Reads, bind_some, pass_some, pick, found, some_is}
use Rattle.wasm_syntax.proofs.Grammar.Exact.{carry}
use Rattle.wasm_syntax.proofs.Grammar.Integers.{Reads-u32_at, Reads-signed_at, byte_sound}
use Rattle.wasm_syntax.proofs.Grammar.Integers.{byte_complete}
use Rattle.wasm_syntax.proofs.Grammar.Vectors.{Reads-vector_at}
use Rattle.wasm_syntax.proofs.Grammar.Types.{front_is, Reads-block_type_at}
use Rattle.wasm_syntax.proofs.Grammar.Opcodes.{load_sound, store_sound, numeric_opcode}
use Rattle.wasm_syntax.proofs.Grammar.Opcodes.{comparison_sound, operation_sound}

pub Reads-indices : Reads (IsVector IsU32) (vector_at leb_u32_at)
Reads-indices = Reads-vector_at IsU32 leb_u32_at Reads-u32_at

pub Reads-memory_argument_at : Reads IsMemoryArgument memory_argument_at
unfolding memory_argument_at
Reads-memory_argument_at = record {
  sound = λ bytes m rest e.
      let align = bind_some (leb_u32_at bytes) _ _ e in
      let offset = bind_some (leb_u32_at align.0.1) _ _ align.2 in
      carry (IsMemoryArgument bytes) (record {
        align = align.0.0;
        offset = offset.0.0;
      }) m offset.0.1 rest offset.2 (
        align.0.1,
        Reads-u32_at.sound bytes align.0.0 align.0.1 align.1,
        Reads-u32_at.sound align.0.1 offset.0.0 offset.0.1 offset.1,
      );
  complete = λ bytes m rest h. rw (
    Reads-u32_at.complete bytes m.align h.0 h.1,
    Reads-u32_at.complete h.0 m.offset rest h.2,
  ) refl;
}

-- ---- what is read is spelled

-- the byte at the front is this one
opcode_is : (b k : ℕ) (bytes : List ℕ) → b ≡ k → IsThisByte k (b ∷ bytes) bytes
opcode_is b k bytes e = ap (λ (x : ℕ). x ∷ bytes) e

-- an opcode alone
alone : (b : ℕ) (bytes : List ℕ) (x i : Instruction) (rest : List ℕ) → found x bytes ≡ found i rest
    → IsInstruction (b ∷ bytes) x bytes → IsInstruction (b ∷ bytes) i rest
alone b bytes x i rest e h = carry (IsInstruction (b ∷ bytes)) x i bytes rest e h

-- an opcode and one item
with_item : {X : Type 0} (IsItem : List ℕ → X → List ℕ → Type 0) (item_at : List ℕ
    → Option (X × List ℕ)) → Reads IsItem item_at
    → (make : X → Instruction) (b : ℕ) (bytes : List ℕ) (i : Instruction) (rest : List ℕ)
    → read_as make item_at bytes ≡ Some (i, rest) → ((x : X) (r : List ℕ) → IsItem bytes x r
    → IsInstruction (b ∷ bytes) (make x) r) → IsInstruction (b ∷ bytes) i rest
with_item IsItem item_at reads make b bytes i rest e h =
    let x = bind_some (item_at bytes) _ _ e in
    carry (IsInstruction (b ∷ bytes)) (make x.0.0) i x.0.1 rest x.2
    (h x.0.0 x.0.1 (reads.sound bytes x.0.0 x.0.1 x.1))

-- this opcode, which was tested, and one item
with_front : {X : Type 0} (IsItem : List ℕ → X → List ℕ → Type 0) (item_at : List ℕ
    → Option (X × List ℕ)) → Reads IsItem item_at
    → (make : X → Instruction) (k b : ℕ) (bytes : List ℕ) (i : Instruction) (rest : List ℕ)
    → eqb b k ≡ true → read_as make item_at bytes ≡ Some (i, rest)
    → ((x : X) (r : List ℕ) → IsThisByte k (b ∷ bytes) bytes → IsItem bytes x r
    → IsInstruction (b ∷ bytes) (make x) r) → IsInstruction (b ∷ bytes) i rest
with_front IsItem item_at reads make k b bytes i rest t e h =
    with_item IsItem item_at reads make b bytes i rest e (λ x r is. h x r (front_is b k bytes t) is)

with_index : (make : ℕ → Instruction) (k b : ℕ) (bytes : List ℕ) (i : Instruction) (rest : List ℕ)
    → eqb b k ≡ true → read_as make leb_u32_at bytes ≡ Some (i, rest)
    → ((n : ℕ) (r : List ℕ) → IsThisByte k (b ∷ bytes) bytes → IsU32 bytes n r
    → IsInstruction (b ∷ bytes) (make n) r) → IsInstruction (b ∷ bytes) i rest
with_index = with_front IsU32 leb_u32_at Reads-u32_at

with_block_type : (make : Option ValueType → Instruction) (k b : ℕ) (bytes : List ℕ)
    (i : Instruction) (rest : List ℕ) → eqb b k ≡ true
    → read_as make block_type_at bytes ≡ Some (i, rest)
    → ((t : Option ValueType) (r : List ℕ) → IsThisByte k (b ∷ bytes) bytes
    → IsBlockType bytes t r → IsInstruction (b ∷ bytes) (make t) r)
    → IsInstruction (b ∷ bytes) i rest
with_block_type = with_front IsBlockType block_type_at Reads-block_type_at

-- this opcode and a zero byte
with_zero : (x : Instruction) (k b : ℕ) (bytes : List ℕ) (i : Instruction) (rest : List ℕ)
    → eqb b k ≡ true → read_as (λ (mark : Unit {0}). x) (exactly_at 0x00) bytes ≡ Some (i, rest)
    → ((r : List ℕ) → IsThisByte k (b ∷ bytes) bytes → IsThisByte 0x00 bytes r
    → IsInstruction (b ∷ bytes) x r) → IsInstruction (b ∷ bytes) i rest
with_zero x k b bytes i rest t e h =
    let mark = bind_some (exactly_at 0x00 bytes) _ _ e in
    carry (IsInstruction (b ∷ bytes)) x i mark.0.1 rest mark.2
    (h mark.0.1 (front_is b k bytes t) (byte_sound 0x00 bytes mark.0.0 mark.0.1 mark.1))

br_table_sound : (bytes : List ℕ) (i : Instruction) (rest : List ℕ)
    → (vector_at leb_u32_at bytes >>= λ labels. leb_u32_at labels.1
    >>= λ last. found (instr.BrTable labels.0 last.0) last.1) ≡ Some (i, rest)
    → IsInstruction (0x0e ∷ bytes) i rest
br_table_sound bytes i rest e =
    let labels = bind_some (vector_at leb_u32_at bytes) _ _ e in
    let last = bind_some (leb_u32_at labels.0.1) _ _ labels.2 in
    let table = instr.BrTable labels.0.0 last.0.0 in
    carry (IsInstruction (0x0e ∷ bytes)) table i last.0.1 rest last.2 (
      bytes,
      refl,
      (
        labels.0.1,
        Reads-indices.sound bytes labels.0.0 labels.0.1 labels.1,
        Reads-u32_at.sound labels.0.1 last.0.0 last.0.1 last.1,
      ),
    )

call_indirect_sound : (bytes : List ℕ) (i : Instruction) (rest : List ℕ)
    → (leb_u32_at bytes >>= λ t. exactly_at 0x00 t.1
    >>= λ mark. found (instr.CallIndirect t.0) mark.1) ≡ Some (i, rest)
    → IsInstruction (0x11 ∷ bytes) i rest
call_indirect_sound bytes i rest e =
    let t = bind_some (leb_u32_at bytes) _ _ e in
    let mark = bind_some (exactly_at 0x00 t.0.1) _ _ t.2 in
    carry (IsInstruction (0x11 ∷ bytes)) (instr.CallIndirect t.0.0) i mark.0.1 rest mark.2 (
      bytes,
      refl,
      (
        t.0.1,
        Reads-u32_at.sound bytes t.0.0 t.0.1 t.1,
        byte_sound 0x00 t.0.1 mark.0.0 mark.0.1 mark.1,
      ),
    )

control_sound : (b : ℕ) (bytes : List ℕ) (i : Instruction) (rest : List ℕ)
    → control_at b bytes ≡ Some (i, rest) → IsInstruction (b ∷ bytes) i rest
control_sound b bytes i rest e =
    pick (eqb b 0x00) _ _ _ e (λ t h. alone b bytes instr.Unreachable i rest h
    (front_is b 0x00 bytes t)) (λ f e.
    pick (eqb b 0x01) _ _ _ e (λ t h. alone b bytes instr.Nop i rest h (front_is b 0x01 bytes t))
    (λ f e.
    pick (eqb b 0x02) _ _ _ e (λ t h. with_block_type instr.Block 0x02 b bytes i rest t h
    (λ x r front is. (bytes, front, is))) (λ f e.
    pick (eqb b 0x03) _ _ _ e (λ t h. with_block_type instr.Loop 0x03 b bytes i rest t h
    (λ x r front is. (bytes, front, is))) (λ f e.
    pick (eqb b 0x04) _ _ _ e (λ t h. with_block_type instr.If 0x04 b bytes i rest t h
    (λ x r front is. (bytes, front, is))) (λ f e.
    pick (eqb b 0x05) _ _ _ e (λ t h. alone b bytes instr.Else i rest h (front_is b 0x05 bytes t))
    (λ f e.
    pick (eqb b 0x0b) _ _ _ e (λ t h. alone b bytes instr.End i rest h (front_is b 0x0b bytes t))
    (λ f e.
    pick (eqb b 0x0c) _ _ _ e (λ t h. with_index instr.Br 0x0c b bytes i rest t h
    (λ x r front is. (bytes, front, is))) (λ f e.
    pick (eqb b 0x0d) _ _ _ e (λ t h. with_index instr.BrIf 0x0d b bytes i rest t h
    (λ x r front is. (bytes, front, is))) (λ f e.
    pick (eqb b 0x0e) _ _ _ e (λ t h. subst (λ (bs : List ℕ). IsInstruction bs i rest)
    (sym (front_is b 0x0e bytes t)) (br_table_sound bytes i rest h)) (λ f e.
    pick (eqb b 0x0f) _ _ _ e (λ t h. alone b bytes instr.Return i rest h (front_is b 0x0f bytes t))
    (λ f e.
    pick (eqb b 0x10) _ _ _ e (λ t h. with_index instr.Call 0x10 b bytes i rest t h
    (λ x r front is. (bytes, front, is))) (λ f e.
    let k = pass_some (eqb b 0x11) _ _ e in
    subst (λ (bs : List ℕ). IsInstruction bs i rest) (sym (front_is b 0x11 bytes k.0))
    (call_indirect_sound bytes i rest k.1)))))))))))))

variable_sound : (b : ℕ) (bytes : List ℕ) (i : Instruction) (rest : List ℕ)
    → variable_at b bytes ≡ Some (i, rest) → IsInstruction (b ∷ bytes) i rest
variable_sound b bytes i rest e =
    pick (eqb b 0x1a) _ _ _ e (λ t h. alone b bytes instr.Drop i rest h (front_is b 0x1a bytes t))
    (λ f e.
    pick (eqb b 0x1b) _ _ _ e (λ t h. alone b bytes instr.Select i rest h (front_is b 0x1b bytes t))
    (λ f e.
    pick (eqb b 0x20) _ _ _ e (λ t h. with_index instr.LocalGet 0x20 b bytes i rest t h
    (λ x r front is. (bytes, front, is))) (λ f e.
    pick (eqb b 0x21) _ _ _ e (λ t h. with_index instr.LocalSet 0x21 b bytes i rest t h
    (λ x r front is. (bytes, front, is))) (λ f e.
    pick (eqb b 0x22) _ _ _ e (λ t h. with_index instr.LocalTee 0x22 b bytes i rest t h
    (λ x r front is. (bytes, front, is))) (λ f e.
    pick (eqb b 0x23) _ _ _ e (λ t h. with_index instr.GlobalGet 0x23 b bytes i rest t h
    (λ x r front is. (bytes, front, is))) (λ f e.
    let k = pass_some (eqb b 0x24) _ _ e in
    with_index instr.GlobalSet 0x24 b bytes i rest k.0 k.1
    (λ x r front is. (bytes, front, is))))))))

memory_sound : (b : ℕ) (bytes : List ℕ) (i : Instruction) (rest : List ℕ)
    → memory_at b bytes ≡ Some (i, rest) → IsInstruction (b ∷ bytes) i rest
memory_sound b bytes i rest e =
    pick (eqb b 0x3f) _ _ _ e (λ t h. with_zero instr.MemorySize 0x3f b bytes i rest t h
    (λ r front is. (bytes, front, is))) (λ f e.
    pick (eqb b 0x40) _ _ _ e (λ t h. with_zero instr.MemoryGrow 0x40 b bytes i rest t h
    (λ r front is. (bytes, front, is))) (λ f e.
    pick (ltb b 0x36) _ _ _ e
    (λ t h.
    let o = bind_some (load_of b) _ _ h in
    with_item IsMemoryArgument memory_argument_at Reads-memory_argument_at
    (instr.Load o.0) b bytes i rest o.2 (λ x r is. (
      bytes,
      opcode_is b (load_opcode o.0) bytes (load_sound b o.0 o.1),
      is,
    )))
    (λ t h.
    let o = bind_some (store_operator_of b) _ _ h in
    with_item IsMemoryArgument memory_argument_at Reads-memory_argument_at
    (instr.Store o.0) b bytes i rest o.2 (λ x r is. (
      bytes,
      opcode_is b (store_opcode o.0) bytes (store_sound b o.0 o.1),
      is,
    )))))

copy_sound : (bytes behind : List ℕ) (i : Instruction) (rest : List ℕ) → IsU32 bytes 10 behind
    → copy_at behind ≡ Some (i, rest) → IsInstruction (0xfc ∷ bytes) i rest
copy_sound bytes behind i rest is e =
    let to = bind_some (exactly_at 0x00 behind) _ _ e in
    let from = bind_some (exactly_at 0x00 to.0.1) _ _ to.2 in
    carry (IsInstruction (0xfc ∷ bytes)) instr.MemoryCopy i from.0.1 rest from.2 (
      bytes,
      refl,
      (
        behind,
        is,
        (
          to.0.1,
          byte_sound 0x00 behind to.0.0 to.0.1 to.1,
          byte_sound 0x00 to.0.1 from.0.0 from.0.1 from.1,
        ),
      ),
    )

fill_sound : (bytes behind : List ℕ) (i : Instruction) (rest : List ℕ) → IsU32 bytes 11 behind
    → read_as (λ (mark : Unit {0}). instr.MemoryFill) (exactly_at 0x00) behind ≡ Some (i, rest)
    → IsInstruction (0xfc ∷ bytes) i rest
fill_sound bytes behind i rest is e =
    let mark = bind_some (exactly_at 0x00 behind) _ _ e in
    carry (IsInstruction (0xfc ∷ bytes)) instr.MemoryFill i mark.0.1 rest mark.2 (
      bytes,
      refl,
      (behind, is, byte_sound 0x00 behind mark.0.0 mark.0.1 mark.1),
    )

prefixed_sound : (bytes : List ℕ) (i : Instruction) (rest : List ℕ)
    → prefixed_at bytes ≡ Some (i, rest) → IsInstruction (0xfc ∷ bytes) i rest
unfolding prefixed_at
prefixed_sound bytes i rest e =
    let n = bind_some (leb_u32_at bytes) _ _ e in
    let number = Reads-u32_at.sound bytes n.0.0 n.0.1 n.1 in
    pick (eqb n.0.0 10) _ _ _ n.2 (λ t h. copy_sound bytes n.0.1 i rest
    (subst (λ (k : ℕ). IsU32 bytes k n.0.1) (eqb-true n.0.0 10 t) number) h) (λ f e.
    let k = pass_some (eqb n.0.0 11) _ _ e in
    fill_sound bytes n.0.1 i rest
    (subst (λ (k : ℕ). IsU32 bytes k n.0.1) (eqb-true n.0.0 11 k.0) number) k.1)

by_numeric_opcode : (b : ℕ) (i : Instruction) (bytes : List ℕ) → numeric_opcode i ≡ Some b
    → IsInstruction (b ∷ bytes) i bytes
by_numeric_opcode b (instr.Eqz t) bytes e =
    opcode_is b (eqz_opcode t) bytes (sym (some_is (eqz_opcode t) b e))
by_numeric_opcode b (instr.Compare t operator) bytes e =
    opcode_is b (compare_opcode t operator) bytes (sym (some_is (compare_opcode t operator) b e))
by_numeric_opcode b (instr.Unary t operator) bytes e =
    opcode_is b (unary_opcode t operator) bytes (sym (some_is (unary_opcode t operator) b e))
by_numeric_opcode b (instr.Binary t operator) bytes e =
    opcode_is b (binary_opcode t operator) bytes (sym (some_is (binary_opcode t operator) b e))
by_numeric_opcode b (instr.Convert operator) bytes e =
    opcode_is b (convert_opcode operator) bytes (sym (some_is (convert_opcode operator) b e))
by_numeric_opcode b _ bytes e = absurd cc

numeric_sound : (b : ℕ) (bytes : List ℕ) (i : Instruction) (rest : List ℕ)
    → numeric_at b bytes ≡ Some (i, rest) → IsInstruction (b ∷ bytes) i rest
numeric_sound b bytes i rest e =
    pick (eqb b 0x41) _ _ _ e (λ t h. with_front (IsSigned 32) (signed_at 32)
    (Reads-signed_at 32) (λ (n : ℕ). instr.Const (value.I32 n)) 0x41 b bytes i rest t h
    (λ x r front is. (bytes, front, is))) (λ f e.
    pick (eqb b 0x42) _ _ _ e (λ t h. with_front (IsSigned 64) (signed_at 64)
    (Reads-signed_at 64) (λ (n : ℕ). instr.Const (value.I64 n)) 0x42 b bytes i rest t h
    (λ x r front is. (bytes, front, is))) (λ f e.
    pick (ltb b 0x67) _ _ _ e
    (λ t h. (let x = bind_some (comparison_of b) _ _ h in
    alone b bytes x.0 i rest x.2 (by_numeric_opcode b x.0 bytes (comparison_sound b x.0 x.1))))
    (λ t h. (let x = bind_some (operation_of b) _ _ h in
    alone b bytes x.0 i rest x.2 (by_numeric_opcode b x.0 bytes (operation_sound b x.0 x.1))))))

instruction_sound : (bytes : List ℕ) (i : Instruction) (rest : List ℕ)
    → instruction_at bytes ≡ Some (i, rest) → IsInstruction bytes i rest
unfolding instruction_at behind_opcode higher_at
instruction_sound [] i rest e = absurd cc
instruction_sound (b ∷ bytes) i rest e =
    pick (ltb b 0x1a) _ _ _ e (λ t h. control_sound b bytes i rest h) (λ f e.
    pick (ltb b 0x28) _ _ _ e (λ t h. variable_sound b bytes i rest h) (λ f e.
    pick (ltb b 0x41) _ _ _ e (λ t h. memory_sound b bytes i rest h) (λ f e.
    pick (eqb b 0xfc) _ _ _ e (λ t h. subst (λ (bs : List ℕ). IsInstruction bs i rest)
    (sym (front_is b 0xfc bytes t)) (prefixed_sound bytes i rest h)) (λ f e.
    numeric_sound b bytes i rest e))))

-- ---- what is spelled is read

load_complete : (operator : LoadOperator) (m : MemoryArgument) (bytes rest : List ℕ)
    → memory_argument_at bytes ≡ Some (m, rest)
    → behind_opcode (load_opcode operator) bytes ≡ Some (instr.Load operator m, rest)
unfolding behind_opcode higher_at
load_complete load.I32 m bytes rest e = rw e refl
load_complete _ m bytes rest e = rw e refl

store_complete : (operator : StoreOperator) (m : MemoryArgument) (bytes rest : List ℕ)
    → memory_argument_at bytes ≡ Some (m, rest)
    → behind_opcode (store_opcode operator) bytes ≡ Some (instr.Store operator m, rest)
unfolding behind_opcode higher_at
store_complete store.I32 m bytes rest e = rw e refl
store_complete _ m bytes rest e = rw e refl

-- where every operator is in its table

comparison_listed : (operator : Comparison)
    → slice_get comparisons (compare_place operator) ≡ Some operator
comparison_listed Eq = refl
comparison_listed _ = refl

unary_listed : (operator : UnaryOperator)
    → slice_get unary_operators (unary_place operator) ≡ Some operator
unary_listed Clz = refl
unary_listed Ctz = refl
unary_listed Popcnt = refl

binary_listed : (operator : BinaryOperator)
    → slice_get binary_operators (binary_place operator) ≡ Some operator
binary_listed Add = refl
binary_listed _ = refl

-- what holds of each item of a list holds of the one at a place
agree_at : {X Y : Type 0} (f g : X → Y) (xs : List X) (k : ℕ) (x : X) → map f xs ≡ map g xs
    → slice_get xs k ≡ Some x → f x ≡ g x
agree_at f g [] k x h e = absurd cc
agree_at f g (y ∷ xs) zero x h e = (let same : y ≡ x = some_is y x e in let here : f y ≡ g y = cc in
    cc)
agree_at f g (y ∷ xs) (suc k) x h e = (let later : map f xs ≡ map g xs = cc in
    agree_at f g xs k x later e)

compare_complete : (t : ValueType) (operator : Comparison) (bytes : List ℕ)
    → behind_opcode (compare_opcode t operator) bytes ≡ Some (instr.Compare t operator, bytes)
unfolding behind_opcode higher_at
compare_complete I32 operator bytes =
    agree_at (λ (x : Comparison). behind_opcode (compare_opcode I32 x) bytes) (λ (x : Comparison).
    found (instr.Compare I32 x) bytes) comparisons (compare_place operator) operator refl
    (comparison_listed operator)
compare_complete I64 operator bytes =
    agree_at (λ (x : Comparison). behind_opcode (compare_opcode I64 x) bytes) (λ (x : Comparison).
    found (instr.Compare I64 x) bytes) comparisons (compare_place operator) operator refl
    (comparison_listed operator)

unary_complete : (t : ValueType) (operator : UnaryOperator) (bytes : List ℕ)
    → behind_opcode (unary_opcode t operator) bytes ≡ Some (instr.Unary t operator, bytes)
unfolding behind_opcode higher_at
unary_complete I32 operator bytes =
    agree_at (λ (x : UnaryOperator). behind_opcode (unary_opcode I32 x) bytes)
    (λ (x : UnaryOperator). found (instr.Unary I32 x) bytes) unary_operators
    (unary_place operator) operator refl (unary_listed operator)
unary_complete I64 operator bytes =
    agree_at (λ (x : UnaryOperator). behind_opcode (unary_opcode I64 x) bytes)
    (λ (x : UnaryOperator). found (instr.Unary I64 x) bytes) unary_operators
    (unary_place operator) operator refl (unary_listed operator)

binary_complete : (t : ValueType) (operator : BinaryOperator) (bytes : List ℕ)
    → behind_opcode (binary_opcode t operator) bytes ≡ Some (instr.Binary t operator, bytes)
unfolding behind_opcode higher_at
binary_complete I32 operator bytes =
    agree_at (λ (x : BinaryOperator). behind_opcode (binary_opcode I32 x) bytes)
    (λ (x : BinaryOperator). found (instr.Binary I32 x) bytes) binary_operators
    (binary_place operator) operator refl (binary_listed operator)
binary_complete I64 operator bytes =
    agree_at (λ (x : BinaryOperator). behind_opcode (binary_opcode I64 x) bytes)
    (λ (x : BinaryOperator). found (instr.Binary I64 x) bytes) binary_operators
    (binary_place operator) operator refl (binary_listed operator)

eqz_complete : (t : ValueType) (bytes : List ℕ)
    → behind_opcode (eqz_opcode t) bytes ≡ Some (instr.Eqz t, bytes)
unfolding behind_opcode higher_at
eqz_complete I32 bytes = refl
eqz_complete I64 bytes = refl

convert_complete : (operator : Conversion) (bytes : List ℕ)
    → behind_opcode (convert_opcode operator) bytes ≡ Some (instr.Convert operator, bytes)
unfolding behind_opcode higher_at
convert_complete I32WrapI64 bytes = refl
convert_complete _ bytes = refl

instruction_complete : (bytes : List ℕ) (i : Instruction) (rest : List ℕ)
    → IsInstruction bytes i rest → instruction_at bytes ≡ Some (i, rest)
unfolding instruction_at behind_opcode higher_at prefixed_at
instruction_complete bytes (instr.Block t) rest h =
    rw (h.1, Reads-block_type_at.complete h.0 t rest h.2) refl
instruction_complete bytes (instr.Loop t) rest h =
    rw (h.1, Reads-block_type_at.complete h.0 t rest h.2) refl
instruction_complete bytes (instr.If t) rest h =
    rw (h.1, Reads-block_type_at.complete h.0 t rest h.2) refl
instruction_complete bytes (instr.Br label) rest h =
    rw (h.1, Reads-u32_at.complete h.0 label rest h.2) refl
instruction_complete bytes (instr.BrIf label) rest h =
    rw (h.1, Reads-u32_at.complete h.0 label rest h.2) refl
instruction_complete bytes (instr.BrTable labels last) rest h =
    rw (
      h.1,
      Reads-indices.complete h.0 labels h.2.0 h.2.1,
      Reads-u32_at.complete h.2.0 last rest h.2.2,
    ) refl
instruction_complete bytes (instr.Call function) rest h =
    rw (h.1, Reads-u32_at.complete h.0 function rest h.2) refl
instruction_complete bytes (instr.CallIndirect t) rest h =
    rw (h.1, Reads-u32_at.complete h.0 t h.2.0 h.2.1, byte_complete 0x00 h.2.0 rest h.2.2) refl
instruction_complete bytes (instr.LocalGet local) rest h =
    rw (h.1, Reads-u32_at.complete h.0 local rest h.2) refl
instruction_complete bytes (instr.LocalSet local) rest h =
    rw (h.1, Reads-u32_at.complete h.0 local rest h.2) refl
instruction_complete bytes (instr.LocalTee local) rest h =
    rw (h.1, Reads-u32_at.complete h.0 local rest h.2) refl
instruction_complete bytes (instr.GlobalGet global) rest h =
    rw (h.1, Reads-u32_at.complete h.0 global rest h.2) refl
instruction_complete bytes (instr.GlobalSet global) rest h =
    rw (h.1, Reads-u32_at.complete h.0 global rest h.2) refl
instruction_complete bytes (instr.Load operator m) rest h =
    rw h.1 (load_complete operator m h.0 rest (Reads-memory_argument_at.complete h.0 m rest h.2))
instruction_complete bytes (instr.Store operator m) rest h =
    rw h.1 (store_complete operator m h.0 rest (Reads-memory_argument_at.complete h.0 m rest h.2))
instruction_complete bytes instr.MemorySize rest h = rw (h.1, byte_complete 0x00 h.0 rest h.2) refl
instruction_complete bytes instr.MemoryGrow rest h = rw (h.1, byte_complete 0x00 h.0 rest h.2) refl
instruction_complete bytes instr.MemoryCopy rest h =
    rw (
      h.1,
      Reads-u32_at.complete h.0 10 h.2.0 h.2.1,
      byte_complete 0x00 h.2.0 h.2.2.0 h.2.2.1,
      byte_complete 0x00 h.2.2.0 rest h.2.2.2,
    ) refl
instruction_complete bytes instr.MemoryFill rest h =
    rw (
      h.1,
      Reads-u32_at.complete h.0 11 h.2.0 h.2.1,
      byte_complete 0x00 h.2.0 rest h.2.2,
    ) refl
instruction_complete bytes (instr.Const (value.I32 n)) rest h =
    rw (h.1, (Reads-signed_at 32).complete h.0 n rest h.2) refl
instruction_complete bytes (instr.Const (value.I64 n)) rest h =
    rw (h.1, (Reads-signed_at 64).complete h.0 n rest h.2) refl
instruction_complete bytes (instr.Eqz t) rest h = rw h (eqz_complete t rest)
instruction_complete bytes (instr.Compare t operator) rest h =
    rw h (compare_complete t operator rest)
instruction_complete bytes (instr.Unary t operator) rest h = rw h (unary_complete t operator rest)
instruction_complete bytes (instr.Binary t operator) rest h = rw h (binary_complete t operator rest)
instruction_complete bytes (instr.Convert operator) rest h = rw h (convert_complete operator rest)
instruction_complete bytes _ rest h = rw h refl

pub Reads-instruction_at : Reads IsInstruction instruction_at
Reads-instruction_at = record { sound = instruction_sound; complete = instruction_complete }
