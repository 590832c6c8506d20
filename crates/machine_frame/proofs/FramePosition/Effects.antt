-- Instructions that are no jumps and no calls: what is after them, and the table that none of them
-- changes.
use Rattle.std.proofs.Common.{◌≡◌, ℕ, ◌+◌, ◌^◌, Bool, true, false, if◌then◌else◌, List, [], ◌∷◌}
use Rattle.std.proofs.Common.{◌++◌, length, Option, Some, None, Result, Ok, Err, refl, ap, subst}
use Rattle.std.specs.Prelude.{slice_get, slice_set, nat_le, replicate, ◌*◌, ◌-◌}
use Rattle.std.specs.Option.{option_map}
use Rattle.wasm_syntax.specs.declared.types.ValueType.{ValueType}
use Rattle.wasm_syntax.specs.declared.types.ValueType.TheVariants.{I32, I64}
use Rattle.wasm_syntax.specs.declared.types.GlobalType.{GlobalType}
use Rattle.wasm_syntax.specs.declared.value.Value.{Value}
use Rattle.wasm_syntax.specs.declared.value.Value.TheVariants as value
use Rattle.wasm_syntax.specs.declared.value.Trap.{Trap}
use Rattle.wasm_syntax.specs.declared.operator.StoreOperator.{StoreOperator}
use Rattle.wasm_syntax.specs.declared.instruction.Instruction.{Instruction}
use Rattle.wasm_syntax.specs.declared.instruction.Instruction.TheVariants as instr
use Rattle.int_ops.specs.rules.Integers.{binary_of}
use Rattle.guest_memory.specs.rules.Bytes.{bytes_of, page_size, with_part}
use Rattle.wasm_rules.specs.Types.{width_of, value_of, conversion_takes, loaded_type}
use Rattle.wasm_rules.specs.Types.{stored_type, stored_width, bytes_in}
use Rattle.wasm_rules.specs.Typing.{Context, HasInstructionType}
use Rattle.wasm_rules.specs.Shapes.{types_behind}
use Rattle.wasm_rules.specs.Configuration.{Program, Store}
use Rattle.wasm_rules.specs.Effects.{Effect, Gives, Fails, Wrong, with_top, effect_of_some}
use Rattle.wasm_rules.specs.Effects.{with_result, load_at, store_at, pages_of, grown, effect}
use Rattle.wasm_rules.specs.Effects.{IsEffect, copied_at, filled_at, with_written}
use Rattle.wasm_rules.proofs.TypedShape.{IsBehind, typed_behind}

-- ---- typing goes on behind them

-- there are types
abbrev TypesGoOn : Option (List ValueType) → Type 0
TypesGoOn None = ⊥
TypesGoOn (Some us) = Unit {0}

mapped_on : {X : Type 0} (o : Option X) {x : X} (go : X → List ValueType) → o ≡ Some x
    → TypesGoOn (option_map go o)
mapped_on None go e = absurd (cc)
mapped_on (Some y) go e = tt

-- after all but `unreachable`, which gives nothing
effect_goes_on : (c : Context) (program : Program) (store store' : Store)
    (ls ls' vs vs' : List Value) (labels : List (List ValueType)) (i : Instruction)
    (p q ts : List ValueType) → IsEffect i → HasInstructionType c labels i p q
    → effect program i store ls vs ≡ Gives store' ls' vs' → TypesGoOn (types_behind c i ts)
effect_goes_on c program store store' ls ls' vs vs' labels instr.Unreachable p q ts is h e =
    absurd (cc)
effect_goes_on c program store store' ls ls' vs vs' labels instr.Nop p q ts is h e = tt
effect_goes_on c program store store' ls ls' vs vs' labels instr.Drop p q ts is h e = tt
effect_goes_on c program store store' ls ls' vs vs' labels instr.Select p q ts is h e = tt
effect_goes_on c program store store' ls ls' vs vs' labels (instr.LocalGet x) p q ts is h e =
    mapped_on (slice_get c.locals x) (λ t. t ∷ ts) h.1
effect_goes_on c program store store' ls ls' vs vs' labels (instr.LocalSet x) p q ts is h e = tt
effect_goes_on c program store store' ls ls' vs vs' labels (instr.LocalTee x) p q ts is h e = tt
effect_goes_on c program store store' ls ls' vs vs' labels (instr.GlobalGet x) p q ts is h e =
    mapped_on (slice_get c.globals x) (λ (g : GlobalType). g.value_type ∷ ts) h.1
effect_goes_on c program store store' ls ls' vs vs' labels (instr.GlobalSet x) p q ts is h e = tt
effect_goes_on c program store store' ls ls' vs vs' labels (instr.Load o m) p q ts is h e = tt
effect_goes_on c program store store' ls ls' vs vs' labels (instr.Store o m) p q ts is h e = tt
effect_goes_on c program store store' ls ls' vs vs' labels instr.MemorySize p q ts is h e = tt
effect_goes_on c program store store' ls ls' vs vs' labels instr.MemoryGrow p q ts is h e = tt
effect_goes_on c program store store' ls ls' vs vs' labels instr.MemoryCopy p q ts is h e = tt
effect_goes_on c program store store' ls ls' vs vs' labels instr.MemoryFill p q ts is h e = tt
effect_goes_on c program store store' ls ls' vs vs' labels (instr.Const v) p q ts is h e = tt
effect_goes_on c program store store' ls ls' vs vs' labels (instr.Eqz t) p q ts is h e = tt
effect_goes_on c program store store' ls ls' vs vs' labels (instr.Compare t o) p q ts is h e = tt
effect_goes_on c program store store' ls ls' vs vs' labels (instr.Unary t o) p q ts is h e = tt
effect_goes_on c program store store' ls ls' vs vs' labels (instr.Binary t o) p q ts is h e = tt
effect_goes_on c program store store' ls ls' vs vs' labels (instr.Convert o) p q ts is h e = tt
effect_goes_on c program store store' ls ls' vs vs' labels _ p q ts is h e = absurd is

exactly : (o : Option (List ValueType)) (us : List ValueType) → TypesGoOn o → IsBehind o us
    → o ≡ Some us
exactly None us h k = absurd h
exactly (Some ts) us h k = ap Some k

-- the types after an opcode that has given something are those of its typing
pub effect_behind : (c : Context) (program : Program) (store store' : Store)
    (ls ls' vs vs' : List Value) (labels : List (List ValueType)) (i : Instruction)
    (p q below : List ValueType) → IsEffect i → HasInstructionType c labels i p q
    → effect program i store ls vs ≡ Gives store' ls' vs'
    → types_behind c i (p ++ below) ≡ Some (q ++ below)
effect_behind c program store store' ls ls' vs vs' labels i p q below is h e =
    exactly (types_behind c i (p ++ below)) (q
    ++ below) (effect_goes_on c program store store' ls ls' vs vs' labels i p q (p
    ++ below) is h e) (typed_behind c labels i p q below h)

-- ---- the table stays

module _ (table : List (Option ℕ)) where
  -- an effect that leaves this table
  abbrev Keeps : Effect → Type 0
  Keeps (Gives store ls vs) = store.table ≡ table
  Keeps (Fails why) = Unit {0}
  Keeps Wrong = Unit {0}

  top_keeps : (t : ValueType) (vs : List Value) (go : ℕ → List Value → Effect)
      → ((n : ℕ) (rest : List Value) → Keeps (go n rest)) → Keeps (with_top t vs go)
  top_keeps I32 [] go k = tt
  top_keeps I64 [] go k = tt
  top_keeps I32 (value.I32 n ∷ vs) go k = k n vs
  top_keeps I32 (value.I64 n ∷ vs) go k = tt
  top_keeps I64 (value.I32 n ∷ vs) go k = tt
  top_keeps I64 (value.I64 n ∷ vs) go k = k n vs

  some_keeps : {X : Type 0} (o : Option X) (go : X → Effect) → ((x : X) → Keeps (go x))
      → Keeps (effect_of_some o go)
  some_keeps None go k = tt
  some_keeps (Some x) go k = k x

  result_keeps : (t : ValueType) (r : Result ℕ Trap) (go : Value → Effect)
      → ((v : Value) → Keeps (go v)) → Keeps (with_result t r go)
  result_keeps t (Ok n) go k = k (value_of t n)
  result_keeps t (Err why) go k = tt

  either_keeps : (b : Bool) (x y : Effect) → Keeps x → Keeps y → Keeps (if b then x else y)
  either_keeps true x y h k = h
  either_keeps false x y h k = k

  store_keeps : (o : StoreOperator) (s : Store) (from n : ℕ) (go : Store → Effect) → s.table ≡ table
      → ((s' : Store) → s'.table ≡ table → Keeps (go s')) → Keeps (store_at o s from n go)
  store_keeps o s from n go h k =
      either_keeps (nat_le (from + bytes_in (stored_width o)) (length s.memory)) _ _
      (k (record s {
        memory = with_part s.memory from (bytes_of (bytes_in (stored_width o)) n);
      }) h) tt

  grown_keeps : (program : Program) (s : Store) (n : ℕ) (go : Store → Value → Effect)
      → s.table ≡ table → ((s' : Store) (v : Value) → s'.table ≡ table → Keeps (go s' v))
      → Keeps (grown program s n go)
  grown_keeps program s n go h k =
      either_keeps (nat_le (pages_of s + n) program.most_pages) _ _ (k (record s {
        memory = s.memory
            ++ replicate (n * page_size) 0;
      }) (value.I32 (pages_of s)) h)
      (k s (value.I32 (2 ^ 32 - 1)) h)

  drop_keeps : (program : Program) (s : Store) (ls vs : List Value) → s.table ≡ table
      → Keeps (effect program instr.Drop s ls vs)
  drop_keeps program s ls [] h = tt
  drop_keeps program s ls (v ∷ vs) h = h

  select_keeps : (program : Program) (s : Store) (ls vs : List Value) → s.table ≡ table
      → Keeps (effect program instr.Select s ls vs)
  select_keeps program s ls [] h = tt
  select_keeps program s ls (value.I64 n ∷ vs) h = tt
  select_keeps program s ls (value.I32 n ∷ []) h = tt
  select_keeps program s ls (value.I32 n ∷ b ∷ []) h = tt
  select_keeps program s ls (value.I32 n ∷ b ∷ a ∷ vs) h = h

  local_set_keeps : (program : Program) (x : ℕ) (s : Store) (ls vs : List Value) → s.table ≡ table
      → Keeps (effect program (instr.LocalSet x) s ls vs)
  local_set_keeps program x s ls [] h = tt
  local_set_keeps program x s ls (v ∷ vs) h =
      some_keeps (slice_get ls x) (λ _. Gives s (slice_set ls x v) vs) (λ _. h)

  local_tee_keeps : (program : Program) (x : ℕ) (s : Store) (ls vs : List Value) → s.table ≡ table
      → Keeps (effect program (instr.LocalTee x) s ls vs)
  local_tee_keeps program x s ls [] h = tt
  local_tee_keeps program x s ls (v ∷ vs) h =
      some_keeps (slice_get ls x) (λ _. Gives s (slice_set ls x v) (v ∷ vs)) (λ _. h)

  global_set_keeps : (program : Program) (x : ℕ) (s : Store) (ls vs : List Value) → s.table ≡ table
      → Keeps (effect program (instr.GlobalSet x) s ls vs)
  global_set_keeps program x s ls [] h = tt
  global_set_keeps program x s ls (v ∷ vs) h =
      some_keeps (slice_get s.globals x) (λ _.
      Gives (record s { globals = slice_set s.globals x v }) ls vs) (λ _. h)

  written_keeps : (s : Store) (r : Result (List ℕ) Trap) (go : Store → Effect)
      → ((memory : List ℕ) → Keeps (go (record s { memory = memory })))
      → Keeps (with_written s r go)
  written_keeps s (Ok memory) go k = k memory
  written_keeps s (Err why) go k = tt

  effect_keeps : (program : Program) (i : Instruction) (s : Store) (ls vs : List Value)
      → s.table ≡ table → Keeps (effect program i s ls vs)
  effect_keeps program instr.Unreachable s ls vs h = tt
  effect_keeps program instr.Nop s ls vs h = h
  effect_keeps program instr.Drop s ls vs h = drop_keeps program s ls vs h
  effect_keeps program instr.Select s ls vs h = select_keeps program s ls vs h
  effect_keeps program (instr.LocalGet x) s ls vs h =
      some_keeps (slice_get ls x) (λ v. Gives s ls (v ∷ vs)) (λ v. h)
  effect_keeps program (instr.LocalSet x) s ls vs h = local_set_keeps program x s ls vs h
  effect_keeps program (instr.LocalTee x) s ls vs h = local_tee_keeps program x s ls vs h
  effect_keeps program (instr.GlobalGet x) s ls vs h =
      some_keeps (slice_get s.globals x) (λ v. Gives s ls (v ∷ vs)) (λ v. h)
  effect_keeps program (instr.GlobalSet x) s ls vs h = global_set_keeps program x s ls vs h
  effect_keeps program (instr.Load o m) s ls vs h =
      top_keeps I32 vs _ (λ i rest. result_keeps (loaded_type o) (load_at o s.memory (i + m.offset))
      (λ v. Gives s ls (v ∷ rest)) (λ v. h))
  effect_keeps program (instr.Store o m) s ls vs h =
      top_keeps (stored_type o) vs _ (λ n rest. top_keeps I32 rest _ (λ i others.
      store_keeps o s (i + m.offset) n (λ s. Gives s ls others) h (λ s' h'. h')))
  effect_keeps program instr.MemorySize s ls vs h = h
  effect_keeps program instr.MemoryGrow s ls vs h =
      top_keeps I32 vs _ (λ n rest. grown_keeps program s n (λ s v. Gives s ls (v ∷ rest)) h
      (λ s' v h'. h'))
  effect_keeps program instr.MemoryCopy s ls vs h =
      top_keeps I32 vs _ (λ n rest. top_keeps I32 rest _ (λ from others. top_keeps I32 others _
      (λ to last. written_keeps s (copied_at s.memory to from n) (λ s. Gives s ls last)
      (λ memory. h))))
  effect_keeps program instr.MemoryFill s ls vs h =
      top_keeps I32 vs _ (λ n rest. top_keeps I32 rest _ (λ number others. top_keeps I32 others _
      (λ to last. written_keeps s (filled_at s.memory to number n) (λ s. Gives s ls last)
      (λ memory. h))))
  effect_keeps program (instr.Const v) s ls vs h = h
  effect_keeps program (instr.Eqz t) s ls vs h = top_keeps t vs _ (λ a rest. h)
  effect_keeps program (instr.Compare t o) s ls vs h =
      top_keeps t vs _ (λ b rest. top_keeps t rest _ (λ a others. h))
  effect_keeps program (instr.Unary t o) s ls vs h = top_keeps t vs _ (λ a rest. h)
  effect_keeps program (instr.Binary t o) s ls vs h =
      top_keeps t vs _ (λ b rest. top_keeps t rest _ (λ a others.
      result_keeps t (binary_of (width_of t) o a b) (λ v. Gives s ls (v ∷ others)) (λ v. h)))
  effect_keeps program (instr.Convert o) s ls vs h =
      top_keeps (conversion_takes o) vs _ (λ a rest. h)
  effect_keeps program _ s ls vs h = tt

-- no effect changes the table
pub table_stays : (program : Program) (i : Instruction) (store store' : Store)
    (ls ls' vs vs' : List Value) → effect program i store ls vs ≡ Gives store' ls' vs'
    → store'.table ≡ store.table
table_stays program i store store' ls ls' vs vs' e =
    subst (λ z. Keeps store.table z) e (effect_keeps store.table program i store ls vs refl)
