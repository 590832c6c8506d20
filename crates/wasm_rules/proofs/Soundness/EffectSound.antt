-- An instruction that is no jump and no call finds its operands, and leaves what its rule says.
use Rattle.std.proofs.Common.{◌≡◌, ℕ, zero, suc, ◌+◌, ◌*◌, ◌^◌, ◌<◌, ◌≤◌, Bool, true, false}
use Rattle.std.proofs.Common.{if◌then◌else◌, List, [], ◌∷◌, ◌++◌, length, Option, Some, None}
use Rattle.std.proofs.Common.{Result, Ok, Err, refl, ap, ◌∙◌, arith, ◌==◌}
use Rattle.std.specs.Prelude.{slice_get, slice_set, map, nat_le, replicate, ◌-◌, ◌%◌, ◌&&◌}
use Rattle.std.specs.Int.{w8, w16, w32, w64}
use mir.Val.{bits}
use Rattle.std.specs.List.{AllByRecursion}
use Rattle.std.proofs.lemmas.Bool.Decides.{nat_tests}
use Rattle.std.proofs.lemmas.List.{length-replicate}
use Rattle.std.proofs.lemmas.Option.{slice_get-map}
use Rattle.std.specs.Option.{option_map}
use Rattle.wasm_syntax.specs.declared.types.ValueType.{ValueType}
use Rattle.wasm_syntax.specs.declared.types.ValueType.TheVariants.{I32, I64}
use Rattle.wasm_syntax.specs.declared.types.GlobalType.{GlobalType}
use Rattle.wasm_syntax.specs.declared.value.Value.{Value}
use Rattle.wasm_syntax.specs.declared.value.Value.TheVariants as value
use Rattle.wasm_syntax.specs.declared.value.Trap.{Trap}
use Rattle.wasm_syntax.specs.declared.value.Trap.TheVariants as trap
use Rattle.wasm_syntax.specs.declared.operator.Conversion.{Conversion}
use Rattle.wasm_syntax.specs.declared.operator.Conversion.TheVariants.{I32WrapI64, I64ExtendI32S}
use Rattle.wasm_syntax.specs.declared.operator.Conversion.TheVariants.{I64ExtendI32U, I32Extend8S}
use Rattle.wasm_syntax.specs.declared.operator.Conversion.TheVariants.{I32Extend16S, I64Extend8S}
use Rattle.wasm_syntax.specs.declared.operator.Conversion.TheVariants.{I64Extend16S, I64Extend32S}
use Rattle.wasm_syntax.specs.declared.operator.LoadOperator.{LoadOperator}
use Rattle.wasm_syntax.specs.declared.operator.LoadOperator.TheVariants as load
use Rattle.wasm_syntax.specs.declared.operator.StoreOperator.{StoreOperator}
use Rattle.wasm_syntax.specs.declared.instruction.Instruction.{Instruction}
use Rattle.wasm_syntax.specs.declared.instruction.Instruction.TheVariants as instr
use Rattle.int_ops.specs.rules.Integers.{binary_of, compare_of, convert_of, truth, unary_of}
use Rattle.int_ops.proofs.Bounds.{truth_below, unary_below, binary_below, convert_below}
use Rattle.int_ops.proofs.Bounds.{sign_extended_below}
use Rattle.guest_memory.specs.rules.Bytes.{IsByte, number_of, bytes_of, page_size, part, with_part}
use Rattle.guest_memory.proofs.ByteLemmas.{length-bytes_of}
use Rattle.wasm_rules.specs.Types.{width_of, value_of, IsOf, AreOf, conversion_takes}
use Rattle.wasm_rules.specs.Types.{conversion_gives, loaded_type, loaded_width, stored_type}
use Rattle.wasm_rules.specs.Types.{stored_width, bytes_in, value_type_of}
use Rattle.wasm_rules.specs.Typing.{Context, HasInstructionType}
use Rattle.wasm_rules.specs.Configuration.{Program, Store}
use Rattle.wasm_rules.specs.Effects.{Effect, Gives, Fails, Wrong, with_top, effect_of_some}
use Rattle.wasm_rules.specs.Effects.{with_result, loaded, load_at, store_at, pages_of, grown}
use Rattle.wasm_rules.specs.Effects.{copied_at, filled_at, with_written, selected, effect, IsEffect}
use Rattle.wasm_rules.specs.Typed.{IsTypedMemory, IsTypedStore}
use Rattle.wasm_rules.proofs.Soundness.Values.{value_of_is, value_at, value_set}
use Rattle.wasm_rules.proofs.Soundness.MemoryBytes.{memory_with_part, memory_grown}
use Rattle.guest_memory.proofs.Ranges.{length-part}
use Rattle.guest_memory.proofs.Lists.{bytes_are, number_below, all_take, all_drop, all_replicate}

module _ (c : Context) (program : Program) (few : program.most_pages ≤ 2 ^ 16) where
  -- an effect that is a trap, or that leaves values of these types
  abbrev pub EffectHas : List ValueType → Effect → Type 0
  EffectHas after (Gives s ls vs) = IsTypedStore c program s × AreOf c.locals ls × AreOf after vs
  EffectHas after (Fails why) = Unit {0}
  EffectHas after Wrong = ⊥

  -- ---- operands

  top_has : (t : ValueType) (below after : List ValueType) (vs : List Value) (go : ℕ → List Value
      → Effect) → AreOf (t ∷ below) vs → ((n : ℕ) (rest : List Value) → n < 2 ^ bits (width_of t)
      → AreOf below rest → EffectHas after (go n rest)) → EffectHas after (with_top t vs go)
  top_has I32 below after [] go h k = absurd h
  top_has I64 below after [] go h k = absurd h
  top_has I32 below after (value.I32 n ∷ vs) go h k = k n vs h.0 h.1
  top_has I32 below after (value.I64 n ∷ vs) go h k = absurd h.0
  top_has I64 below after (value.I32 n ∷ vs) go h k = absurd h.0
  top_has I64 below after (value.I64 n ∷ vs) go h k = k n vs h.0 h.1

  some_has : {X : Type 0} (after : List ValueType) (o : Option X) (x : X) (go : X → Effect)
      → o ≡ Some x → EffectHas after (go x) → EffectHas after (effect_of_some o go)
  some_has after None x go e h = cc
  some_has after (Some y) x go e h = let same : y ≡ x = cc in rw same h

  result_has : (after : List ValueType) (t : ValueType) (r : Result ℕ Trap) (go : Value → Effect)
      → ((n : ℕ) → r ≡ Ok n → n < 2 ^ bits (width_of t))
      → ((v : Value) → IsOf t v → EffectHas after (go v)) → EffectHas after (with_result t r go)
  result_has after t (Err why) go below k = tt
  result_has after t (Ok n) go below k = k (value_of t n) (value_of_is t n (below n refl))

  -- ---- memory

  loaded_below : (o : LoadOperator) (bytes : List ℕ) → AllByRecursion IsByte bytes
      → length bytes ≡ bytes_in (loaded_width o)
      → loaded o bytes < 2 ^ bits (width_of (loaded_type o))
  loaded_below load.I32 bytes h e = let r = number_below bytes h in rw e at r
  loaded_below load.I64 bytes h e = let r = number_below bytes h in rw e at r
  loaded_below load.I32Bits8S bytes h e = sign_extended_below w8 w32 (number_of bytes) (omega arith)
  loaded_below load.I32Bits16S bytes h e =
      sign_extended_below w16 w32 (number_of bytes) (omega arith)
  loaded_below load.I64Bits8S bytes h e = sign_extended_below w8 w64 (number_of bytes) (omega arith)
  loaded_below load.I64Bits16S bytes h e =
      sign_extended_below w16 w64 (number_of bytes) (omega arith)
  loaded_below load.I64Bits32S bytes h e =
      sign_extended_below w32 w64 (number_of bytes) (omega arith)
  loaded_below _ bytes h e = let r = number_below bytes h in let s = (rw e at r) in omega arith

  load_below : (o : LoadOperator) (memory : List ℕ) (from n : ℕ) → AllByRecursion IsByte memory
      → load_at o memory from ≡ Ok n → n < 2 ^ bits (width_of (loaded_type o))
  load_below o memory from n h e =
      inside (nat_le (from + bytes_in (loaded_width o)) (length memory)) refl e
    where
      inside : (b : Bool) → nat_le (from + bytes_in (loaded_width o)) (length memory) ≡ b
          → (if b then Ok (loaded o (part memory from (bytes_in (loaded_width o))))
          else Err trap.MemoryOutOfBounds) ≡ Ok n → n < 2 ^ bits (width_of (loaded_type o))
      inside false t e = absurd (cc)
      inside true t e =
          let enough : from + bytes_in (loaded_width o) ≤ length memory = grind (arith, nat_tests)
          in
          let below = loaded_below o (part memory from (bytes_in (loaded_width o)))
          (all_take IsByte _ _ (all_drop IsByte from memory h))
          (length-part memory from _ enough) in
          let same : loaded o (part memory from (bytes_in (loaded_width o))) ≡ n = cc in
          rw same at below

  store_has : (after : List ValueType) (o : StoreOperator) (s : Store) (from n : ℕ) (go : Store
      → Effect) → IsTypedStore c program s → ((s' : Store) → IsTypedStore c program s'
      → EffectHas after (go s')) → EffectHas after (store_at o s from n go)
  store_has after o s from n go h k =
      inside (nat_le (from + bytes_in (stored_width o)) (length s.memory)) refl
    where
      inside : (b : Bool) → nat_le (from + bytes_in (stored_width o)) (length s.memory) ≡ b
          → EffectHas after (if b
          then go (record s {
            memory = with_part s.memory from
                (bytes_of (bytes_in (stored_width o)) n);
          }) else Fails trap.MemoryOutOfBounds)
      inside false t = tt
      inside true t =
          let enough : from + bytes_in (stored_width o) ≤ length s.memory = grind (arith, nat_tests)
          in
          k (record s { memory = with_part s.memory from (bytes_of (bytes_in (stored_width o)) n) })
          (record {
            memory = memory_with_part program s.memory from (bytes_of (bytes_in (stored_width o)) n)
                h.memory (bytes_are (bytes_in (stored_width o)) n) (rw length-bytes_of enough);
            globals = h.globals;
            table = h.table;
          })

  -- bytes in the place of as many
  written_has : (after : List ValueType) (s : Store) (to : ℕ) (bytes : List ℕ) (go : Store
      → Effect) → IsTypedStore c program s → AllByRecursion IsByte bytes
      → to + length bytes ≤ length s.memory
      → ((s' : Store) → IsTypedStore c program s' → EffectHas after (go s'))
      → EffectHas after (go (record s { memory = with_part s.memory to bytes }))
  written_has after s to bytes go h are inside k =
      k (record s { memory = with_part s.memory to bytes }) (record {
        memory = memory_with_part program s.memory to bytes h.memory are inside;
        globals = h.globals;
        table = h.table;
      })

  copy_has : (after : List ValueType) (s : Store) (to from n : ℕ) (go : Store → Effect)
      → IsTypedStore c program s → ((s' : Store) → IsTypedStore c program s'
      → EffectHas after (go s'))
      → EffectHas after (with_written s (copied_at s.memory to from n) go)
  copy_has after s to from n go h k =
      inside (nat_le (to + n) (length s.memory)) (nat_le (from + n) (length s.memory)) refl refl
    where
      inside : (a b : Bool) → nat_le (to + n) (length s.memory) ≡ a
          → nat_le (from + n) (length s.memory) ≡ b
          → EffectHas after (with_written s (if a && b
          then Ok (with_part s.memory to (part s.memory from n))
          else Err trap.MemoryOutOfBounds) go)
      inside false b t u = tt
      inside true false t u = tt
      inside true true t u =
          let there : to + n ≤ length s.memory = grind (arith, nat_tests) in
          let here : from + n ≤ length s.memory = grind (arith, nat_tests) in
          let len = length-part s.memory from n here in
          written_has after s to (part s.memory from n) go h
          (all_take IsByte _ _ (all_drop IsByte from s.memory h.memory.bytes))
          (rw len there) k

  fill_has : (after : List ValueType) (s : Store) (to number n : ℕ) (go : Store → Effect)
      → IsTypedStore c program s → ((s' : Store) → IsTypedStore c program s'
      → EffectHas after (go s'))
      → EffectHas after (with_written s (filled_at s.memory to number n) go)
  fill_has after s to number n go h k = inside (nat_le (to + n) (length s.memory)) refl
    where
      inside : (b : Bool) → nat_le (to + n) (length s.memory) ≡ b
          → EffectHas after (with_written s (if b
          then Ok (with_part s.memory to (replicate n (number % 256)))
          else Err trap.MemoryOutOfBounds) go)
      inside false t = tt
      inside true t =
          let there : to + n ≤ length s.memory = grind (arith, nat_tests) in
          let low : number % 256 < 256 = omega arith in
          written_has after s to (replicate n (number % 256)) go h
          (all_replicate IsByte n (number % 256) low) (rw length-replicate there) k

  -- three numbers of i32, the topmost first, and what is made of them
  three_have : (below after : List ValueType) (vs : List Value) (go : ℕ → ℕ → ℕ → List Value
      → Effect) → AreOf (I32 ∷ I32 ∷ I32 ∷ below) vs
      → ((a b n : ℕ) (rest : List Value) → AreOf below rest → EffectHas after (go n b a rest))
      → EffectHas after (with_top I32 vs (λ n vs. with_top I32 vs (λ b vs. with_top I32 vs (λ a vs.
      go n b a vs))))
  three_have below after vs go o k =
      top_has I32 (I32 ∷ I32 ∷ below) after vs (λ n vs. with_top I32 vs (λ b vs.
      with_top I32 vs (λ a vs. go n b a vs))) o (λ n rest x o'.
      top_has I32 (I32 ∷ below) after rest (λ b vs. with_top I32 vs (λ a vs. go n b a vs)) o'
      (λ b others y o''. top_has I32 below after others (λ a vs. go n b a vs) o'' (λ a last z l.
      k a b n last l)))

  -- the number of pages is exact
  pages_are : (s : Store) (h : IsTypedMemory program s.memory) → pages_of s ≡ h.pages
  pages_are s h = rw (h.whole) (omega arith)

  pages_below : (s : Store) → IsTypedStore c program s → pages_of s < 2 ^ 32
  pages_below s h = let p = pages_are s h.memory in let w = h.memory.within in let f = few in
      omega arith

  grown_has : (after : List ValueType) (s : Store) (n : ℕ) (go : Store → Value → Effect)
      → IsTypedStore c program s → ((s' : Store) (v : Value) → IsTypedStore c program s'
      → IsOf I32 v → EffectHas after (go s' v)) → EffectHas after (grown program s n go)
  grown_has after s n go h k = within (nat_le (pages_of s + n) program.most_pages) refl
    where
      within : (b : Bool) → nat_le (pages_of s + n) program.most_pages ≡ b
          → EffectHas after (if b
          then go (record s { memory = s.memory ++ replicate (n * page_size) 0 })
          (value.I32 (pages_of s)) else go s (value.I32 (2 ^ 32 - 1)))
      within false t = k s (value.I32 (2 ^ 32 - 1)) h (omega arith)
      within true t =
          let enough : pages_of s + n ≤ program.most_pages = grind (arith, nat_tests) in
          let exact = pages_are s h.memory in
          k (record s { memory = s.memory ++ replicate (n * page_size) 0 }) (value.I32 (pages_of s))
          (record {
            memory = memory_grown program s.memory n (pages_of s) h.memory
                (rw exact h.memory.whole) enough;
            globals = h.globals;
            table = h.table;
          }) (pages_below s h)

  -- ---- locals and globals

  local_set : (below after : List ValueType) (s : Store) (ls vs : List Value) (x : ℕ)
      (t : ValueType) (v : Value) → IsTypedStore c program s → AreOf c.locals ls
      → slice_get c.locals x ≡ Some t → IsOf t v → AreOf after vs
      → EffectHas after (effect_of_some (slice_get ls x) (λ _. Gives s (slice_set ls x v) vs))
  local_set below after s ls vs x t v h l e is o =
      let u = value_at c.locals ls x t l e in
      some_has after (slice_get ls x) u.0 (λ _. Gives s (slice_set ls x v) vs) u.1 (
        h,
        value_set c.locals ls x t v l e is,
        o,
      )

  -- the type of a global's value
  global_at : (x : ℕ) (g : GlobalType) → slice_get c.globals x ≡ Some g
      → slice_get (map value_type_of c.globals) x ≡ Some g.value_type
  global_at x g e = slice_get-map value_type_of c.globals x ∙ ap (option_map value_type_of) e

  -- ---- two operands and a number on top of what is left

  selected_is : (n : ℕ) (t : ValueType) (a b : Value) → IsOf t a → IsOf t b
      → IsOf t (selected n a b)
  selected_is zero t a b h k = k
  selected_is (suc n) t a b h k = h

  select_has : (t : ValueType) (below : List ValueType) (s : Store) (ls vs : List Value)
      → IsTypedStore c program s → AreOf c.locals ls → AreOf (I32 ∷ t ∷ t ∷ below) vs
      → EffectHas (t ∷ below) (effect program instr.Select s ls vs)
  select_has t below s ls [] h l o = absurd o
  select_has t below s ls (value.I64 n ∷ vs) h l o = absurd o.0
  select_has t below s ls (value.I32 n ∷ []) h l o = absurd o.1
  select_has t below s ls (value.I32 n ∷ b ∷ []) h l o = absurd o.1.1
  select_has t below s ls (value.I32 n ∷ b ∷ a ∷ vs) h l o =
      (h, l, (selected_is n t a b o.1.1.0 o.1.0, o.1.1.1))

  drop_has : (t : ValueType) (below : List ValueType) (s : Store) (ls vs : List Value)
      → IsTypedStore c program s → AreOf c.locals ls → AreOf (t ∷ below) vs
      → EffectHas below (effect program instr.Drop s ls vs)
  drop_has t below s ls [] h l o = absurd o
  drop_has t below s ls (v ∷ vs) h l o = (h, l, o.1)

  local_set_has : (x : ℕ) (t : ValueType) (below : List ValueType) (s : Store) (ls vs : List Value)
      → slice_get c.locals x ≡ Some t → IsTypedStore c program s → AreOf c.locals ls
      → AreOf (t ∷ below) vs → EffectHas below (effect program (instr.LocalSet x) s ls vs)
  local_set_has x t below s ls [] e h l o = absurd o
  local_set_has x t below s ls (v ∷ vs) e h l o = local_set below below s ls vs x t v h l e o.0 o.1

  local_tee_has : (x : ℕ) (t : ValueType) (below : List ValueType) (s : Store) (ls vs : List Value)
      → slice_get c.locals x ≡ Some t → IsTypedStore c program s → AreOf c.locals ls
      → AreOf (t ∷ below) vs → EffectHas (t ∷ below) (effect program (instr.LocalTee x) s ls vs)
  local_tee_has x t below s ls [] e h l o = absurd o
  local_tee_has x t below s ls (v ∷ vs) e h l o =
      local_set below (t ∷ below) s ls (v ∷ vs) x t v h l e o.0 o

  global_set_has : (x : ℕ) (g : GlobalType) (below : List ValueType) (s : Store)
      (ls vs : List Value) → slice_get c.globals x ≡ Some g → IsTypedStore c program s
      → AreOf c.locals ls → AreOf (g.value_type ∷ below) vs
      → EffectHas below (effect program (instr.GlobalSet x) s ls vs)
  global_set_has x g below s ls [] e h l o = absurd o
  global_set_has x g below s ls (v ∷ vs) e h l o =
      let u = value_at (map value_type_of c.globals) s.globals x g.value_type h.globals
      (global_at x g e) in
      some_has below (slice_get s.globals x) u.0 (λ _.
      Gives (record s { globals = slice_set s.globals x v }) ls vs) u.1 (
        record {
          memory = h.memory;
          globals = value_set (map value_type_of c.globals) s.globals x g.value_type v h.globals
              (global_at x g e) o.0;
          table = h.table;
        },
        l,
        o.1,
      )

  local_get_has : (x : ℕ) (t : ValueType) (below : List ValueType) (s : Store) (ls vs : List Value)
      → slice_get c.locals x ≡ Some t → IsTypedStore c program s → AreOf c.locals ls
      → AreOf below vs → EffectHas (t ∷ below) (effect program (instr.LocalGet x) s ls vs)
  local_get_has x t below s ls vs e h l o =
      let u = value_at c.locals ls x t l e in
      some_has (t ∷ below) (slice_get ls x) u.0 (λ v. Gives s ls (v ∷ vs)) u.1 (h, l, (u.2, o))

  global_get_has : (x : ℕ) (g : GlobalType) (below : List ValueType) (s : Store)
      (ls vs : List Value) → slice_get c.globals x ≡ Some g → IsTypedStore c program s
      → AreOf c.locals ls → AreOf below vs
      → EffectHas (g.value_type ∷ below) (effect program (instr.GlobalGet x) s ls vs)
  global_get_has x g below s ls vs e h l o =
      let u = value_at (map value_type_of c.globals) s.globals x g.value_type h.globals
      (global_at x g e) in
      some_has (g.value_type ∷ below) (slice_get s.globals x) u.0 (λ v. Gives s ls (v ∷ vs)) u.1 (
        h,
        l,
        (u.2, o),
      )

  -- ---- each instruction

  pub effect_has : (labels : List (List ValueType)) (i : Instruction) (p q below : List ValueType)
      (s : Store) (ls vs : List Value) → IsEffect i → HasInstructionType c labels i p q
      → IsTypedStore c program s → AreOf c.locals ls → AreOf (p ++ below) vs
      → EffectHas (q ++ below) (effect program i s ls vs)
  effect_has labels instr.Unreachable p q below s ls vs is r h l o = tt
  effect_has labels instr.Nop p q below s ls vs is r h l o = rw r.1 (h, l, rw r.0 at o)
  effect_has labels instr.Drop p q below s ls vs is r h l o =
      rw r.2 (drop_has r.0 below s ls vs h l (rw r.1 at o))
  effect_has labels instr.Select p q below s ls vs is r h l o =
      rw r.2 (select_has r.0 below s ls vs h l (rw r.1 at o))
  effect_has labels (instr.LocalGet x) p q below s ls vs is r h l o =
      rw r.3 (local_get_has x r.0 below s ls vs r.1 h l (rw r.2 at o))
  effect_has labels (instr.LocalSet x) p q below s ls vs is r h l o =
      rw r.3 (local_set_has x r.0 below s ls vs r.1 h l (rw r.2 at o))
  effect_has labels (instr.LocalTee x) p q below s ls vs is r h l o =
      rw r.3 (local_tee_has x r.0 below s ls vs r.1 h l (rw r.2 at o))
  effect_has labels (instr.GlobalGet x) p q below s ls vs is r h l o =
      rw r.3 (global_get_has x r.0 below s ls vs r.1 h l (rw r.2 at o))
  effect_has labels (instr.GlobalSet x) p q below s ls vs is r h l o =
      rw r.4 (global_set_has x r.0 below s ls vs r.1 h l (rw r.3 at o))
  effect_has labels (instr.Load op m) p q below s ls vs is r h l o =
      rw r.3 (top_has I32 below (loaded_type op ∷ below) vs (λ i vs.
      with_result (loaded_type op) (load_at op s.memory (i + m.offset)) (λ v. Gives s ls (v
      ∷ vs))) (rw r.2 at o) (λ i rest b k.
      result_has (loaded_type op ∷ below) (loaded_type op) (load_at op s.memory (i + m.offset))
      (λ v. Gives s ls (v ∷ rest)) (λ n e.
      load_below op s.memory (i + m.offset) n h.memory.bytes e) (λ v is. (h, l, (is, k)))))
  effect_has labels (instr.Store op m) p q below s ls vs is r h l o =
      rw r.3 (top_has (stored_type op) (I32 ∷ below) below vs (λ n vs.
      with_top I32 vs (λ i vs. store_at op s (i + m.offset) n (λ s. Gives s ls vs)))
      (rw r.2 at o) (λ n rest b k.
      top_has I32 below below rest (λ i vs. store_at op s (i + m.offset) n (λ s. Gives s ls vs)) k
      (λ i others b' k'.
      store_has below op s (i + m.offset) n (λ s. Gives s ls others) h (λ s' h'. (h', l, k')))))
  effect_has labels instr.MemorySize p q below s ls vs is r h l o =
      rw r.2 (h, l, (pages_below s h, rw r.1 at o))
  effect_has labels instr.MemoryGrow p q below s ls vs is r h l o =
      rw r.2 (top_has I32 below (I32 ∷ below) vs (λ n vs.
      grown program s n (λ s v. Gives s ls (v ∷ vs))) (rw r.1 at o) (λ n rest b k.
      grown_has (I32 ∷ below) s n (λ s v. Gives s ls (v ∷ rest)) h (λ s' v h' is'. (
        h',
        l,
        (is', k),
      ))))
  effect_has labels instr.MemoryCopy p q below s ls vs is r h l o =
      rw r.2 (three_have below below vs (λ n from to vs.
      with_written s (copied_at s.memory to from n) (λ s. Gives s ls vs)) (rw r.1 at o)
      (λ to from n rest k.
      copy_has below s to from n (λ s. Gives s ls rest) h (λ s' h'. (h', l, k))))
  effect_has labels instr.MemoryFill p q below s ls vs is r h l o =
      rw r.2 (three_have below below vs (λ n number to vs.
      with_written s (filled_at s.memory to number n) (λ s. Gives s ls vs)) (rw r.1 at o)
      (λ to number n rest k.
      fill_has below s to number n (λ s. Gives s ls rest) h (λ s' h'. (h', l, k))))
  effect_has labels (instr.Const v) p q below s ls vs is r h l o = rw r.3 (h, l, (r.1, rw r.2 at o))
  effect_has labels (instr.Eqz t) p q below s ls vs is r h l o =
      rw r.1 (top_has t below (I32 ∷ below) vs (λ a vs. Gives s ls (value.I32 (truth (a == 0))
      ∷ vs)) (rw r.0 at o) (λ a rest b k. (h, l, (truth_below (a == 0), k))))
  effect_has labels (instr.Compare t op) p q below s ls vs is r h l o =
      rw r.1 (top_has t (t ∷ below) (I32 ∷ below) vs (λ b vs.
      with_top t vs (λ a vs. Gives s ls (value.I32 (truth (compare_of (width_of t) op a b))
      ∷ vs))) (rw r.0 at o) (λ b rest x k.
      top_has t below (I32 ∷ below) rest (λ a vs.
      Gives s ls (value.I32 (truth (compare_of (width_of t) op a b)) ∷ vs)) k (λ a others y k'.
      (h, l, (truth_below (compare_of (width_of t) op a b), k')))))
  effect_has labels (instr.Unary t op) p q below s ls vs is r h l o =
      rw r.1 (top_has t below (t ∷ below) vs (λ a vs.
      Gives s ls (value_of t (unary_of (width_of t) op a) ∷ vs)) (rw r.0 at o) (λ a rest b k.
      (h, l, (value_of_is t (unary_of (width_of t) op a) (unary_below (width_of t) op a b), k))))
  effect_has labels (instr.Binary t op) p q below s ls vs is r h l o =
      rw r.1 (top_has t (t ∷ below) (t ∷ below) vs (λ b vs.
      with_top t vs (λ a vs. with_result t (binary_of (width_of t) op a b) (λ v. Gives s ls (v
      ∷ vs)))) (rw r.0 at o) (λ b rest x k.
      top_has t below (t ∷ below) rest (λ a vs. with_result t (binary_of (width_of t) op a b) (λ v.
      Gives s ls (v ∷ vs))) k (λ a others y k'.
      result_has (t ∷ below) t (binary_of (width_of t) op a b) (λ v. Gives s ls (v ∷ others))
      (λ n e. binary_below (width_of t) op a b n y x e) (λ v is'. (h, l, (is', k'))))))
  effect_has labels (instr.Convert op) p q below s ls vs is r h l o =
      rw r.1 (top_has (conversion_takes op) below (conversion_gives op ∷ below) vs (λ a vs.
      Gives s ls (value_of (conversion_gives op) (convert_of op a) ∷ vs)) (rw r.0 at o)
      (λ a rest b k.
      (h, l, (converted op a b, k))))
    where
      converted : (op : Conversion) (a : ℕ) → a < 2 ^ bits (width_of (conversion_takes op))
          → IsOf (conversion_gives op) (value_of (conversion_gives op) (convert_of op a))
      converted I32WrapI64 a b = convert_below I32WrapI64 a b
      converted I64ExtendI32S a b = convert_below I64ExtendI32S a b
      converted I64ExtendI32U a b = convert_below I64ExtendI32U a b
      converted I32Extend8S a b = convert_below I32Extend8S a b
      converted I32Extend16S a b = convert_below I32Extend16S a b
      converted I64Extend8S a b = convert_below I64Extend8S a b
      converted I64Extend16S a b = convert_below I64Extend16S a b
      converted I64Extend32S a b = convert_below I64Extend32S a b
  effect_has labels _ p q below s ls vs is r h l o = absurd is
