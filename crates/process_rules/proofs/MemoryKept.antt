-- Memory holds bytes at the beginning, and after each counted step.
use Rattle.std.proofs.Common.{◌≡◌, ℕ, zero, suc, ◌+◌, ◌*◌, ◌^◌, ◌<◌, Bool, true, false, List, []}
use Rattle.std.proofs.Common.{◌∷◌, ◌++◌, length, drop, Option, Some, None, Result, Ok, Err}
use Rattle.std.proofs.Common.{refl, sym, ap, subst, ◌∙◌, arith}
use Rattle.std.specs.Prelude.{if◌then◌else◌, nat_le, replicate, slice_get, unwrap_or, ◌-◌, ◌%◌}
use Rattle.std.specs.Prelude.{◌&&◌}
use Rattle.std.specs.Option.{option_and_then, option_map}
use Rattle.std.specs.List.{AllByRecursion}
use Rattle.wasm_syntax.specs.declared.types.ValueType.{ValueType}
use Rattle.wasm_syntax.specs.declared.types.ValueType.TheVariants.{I32, I64}
use Rattle.wasm_syntax.specs.declared.types.FunctionType.{FunctionType}
use Rattle.wasm_syntax.specs.declared.types.MemoryType.{MemoryType}
use Rattle.wasm_syntax.specs.declared.value.Value.{Value}
use Rattle.wasm_syntax.specs.declared.value.Value.TheVariants as value
use Rattle.wasm_syntax.specs.declared.value.Trap.{Trap}
use Rattle.wasm_syntax.specs.declared.value.Trap.TheVariants as trap
use Rattle.wasm_syntax.specs.declared.instruction.Instruction.{Instruction}
use Rattle.wasm_syntax.specs.declared.instruction.Instruction.TheVariants as instr
use Rattle.wasm_syntax.specs.declared.operator.StoreOperator.{StoreOperator}
use Rattle.wasm_syntax.specs.declared.module.Module.{Module}
use Rattle.wasm_syntax.specs.declared.module.Data.{Data}
use Rattle.wasm_syntax.specs.rules.Sequence.{Sequence, Plain, InBlock, InLoop, InIf, InIfElse}
use Rattle.guest_memory.specs.rules.Bytes.{IsByte, bytes_of, page_size, part, with_part}
use Rattle.guest_memory.proofs.Lists.{all_both, all_take, all_drop, all_replicate, bytes_are}
use Rattle.wasm_rules.specs.Types.{loaded_type, stored_type, stored_width, bytes_in, gives_of}
use Rattle.wasm_rules.specs.Types.{takes_of, conversion_takes, is_same_function_type}
use Rattle.wasm_rules.specs.Validity.{IsDataValid, IsValid, memories_of}
use Rattle.wasm_rules.specs.Configuration.{Callee, Imported, Own, Program, Store, Label}
use Rattle.wasm_rules.specs.Configuration.{Frame, FrameOf, Thread, Configuration}
use Rattle.wasm_rules.specs.Configuration.{Outcome, Goes, Traps, Asks}
use Rattle.wasm_rules.specs.Effects.{Effect, Gives, Fails, Wrong, with_top, effect_of_some}
use Rattle.wasm_rules.specs.Effects.{with_result, load_at, store_at, pages_of, grown, effect}
use Rattle.wasm_rules.specs.Effects.{copied_at, filled_at, with_written}
use Rattle.wasm_rules.specs.Instantiation.{offset_of, with_segment, filled_memory}
use Rattle.wasm_rules.specs.Instantiation.{empty_memory, Begins}
use Rattle.wasm_rules.specs.Steps.{where_some, topmost, branch, is_exhausted, entered, called}
use Rattle.wasm_rules.specs.Steps.{calls, signature_of, calls_entry, after_effect, execute}
use Rattle.wasm_rules.specs.Steps.{counted_step_of, counted_step, exited, begun, exited_by}
use Rattle.wasm_rules.specs.Steps.{ReducesTo, here, on}
use Rattle.wasm_rules.proofs.Soundness.Beginning.{and_then_some}
use Rattle.wasi_abi.specs.rules.Answers.{AreBytes}

-- ---- what an instruction does

abbrev GivesBytes : Effect → Type 0
GivesBytes (Gives s ls vs) = AreBytes s.memory
GivesBytes (Fails why) = Unit {0}
GivesBytes Wrong = Unit {0}

top_bytes : (t : ValueType) (vs : List Value) (go : ℕ → List Value → Effect)
    → ((n : ℕ) (rest : List Value) → GivesBytes (go n rest)) → GivesBytes (with_top t vs go)
top_bytes I32 (value.I32 n ∷ vs) go f = f n vs
top_bytes I64 (value.I64 n ∷ vs) go f = f n vs
top_bytes I32 [] go f = tt
top_bytes I64 [] go f = tt
top_bytes I32 (value.I64 n ∷ vs) go f = tt
top_bytes I64 (value.I32 n ∷ vs) go f = tt

some_bytes : {X : Type 0} (o : Option X) (go : X → Effect) → ((x : X) → GivesBytes (go x))
    → GivesBytes (effect_of_some o go)
some_bytes None go f = tt
some_bytes (Some x) go f = f x

result_bytes : (t : ValueType) (r : Result ℕ Trap) (go : Value → Effect)
    → ((v : Value) → GivesBytes (go v)) → GivesBytes (with_result t r go)
result_bytes t (Ok n) go f = f _
result_bytes t (Err why) go f = tt

-- an operation on the two values on top
operands_bytes : (t : ValueType) (vs : List Value) (operation : ℕ → ℕ → Result ℕ Trap) (s : Store)
    (ls : List Value) → AreBytes s.memory
    → GivesBytes (with_top t vs (λ b vs. with_top t vs (λ a vs.
    with_result t (operation a b) (λ v. Gives s ls (v ∷ vs)))))
operands_bytes t vs operation s ls h =
    top_bytes t vs _ (λ b vs. top_bytes t vs _ (λ a vs.
    result_bytes t (operation a b) (λ v. Gives s ls (v ∷ vs)) (λ v. h)))

part_bytes : (memory bytes : List ℕ) (from : ℕ) → AreBytes memory → AreBytes bytes
    → AreBytes (with_part memory from bytes)
part_bytes memory bytes from h k =
    all_both IsByte _ _ (all_take IsByte from memory h)
    (all_both IsByte _ _ k (all_drop IsByte (from + length bytes) memory h))

store_bytes : (o : StoreOperator) (s : Store) (from n : ℕ) (go : Store → Effect) → AreBytes s.memory
    → ((after : Store) → AreBytes after.memory → GivesBytes (go after))
    → GivesBytes (store_at o s from n go)
store_bytes o s from n go h f =
    either (nat_le (from + bytes_in (stored_width o)) (length s.memory)) where
      either : (b : Bool) → GivesBytes (if b
          then go (record s {
            memory = with_part s.memory from (bytes_of (bytes_in (stored_width o)) n);
          })
          else Fails trap.MemoryOutOfBounds)
      either true =
          f (record s { memory = with_part s.memory from (bytes_of (bytes_in (stored_width o)) n) })
          (part_bytes s.memory (bytes_of (bytes_in (stored_width o)) n) from h
          (bytes_are (bytes_in (stored_width o)) n))
      either false = tt

bytes_copied : (s : Store) (to from n : ℕ) (go : Store → Effect) → AreBytes s.memory
    → ((after : Store) → AreBytes after.memory → GivesBytes (go after))
    → GivesBytes (with_written s (copied_at s.memory to from n) go)
bytes_copied s to from n go h f =
    either (nat_le (to + n) (length s.memory) && nat_le (from + n) (length s.memory)) where
      either : (b : Bool) → GivesBytes (with_written s (if b
          then Ok (with_part s.memory to (part s.memory from n))
          else Err trap.MemoryOutOfBounds) go)
      either true =
          f (record s { memory = with_part s.memory to (part s.memory from n) })
          (part_bytes s.memory (part s.memory from n) to h
          (all_take IsByte n (drop from s.memory) (all_drop IsByte from s.memory h)))
      either false = tt

bytes_filled : (s : Store) (to number n : ℕ) (go : Store → Effect) → AreBytes s.memory
    → ((after : Store) → AreBytes after.memory → GivesBytes (go after))
    → GivesBytes (with_written s (filled_at s.memory to number n) go)
bytes_filled s to number n go h f = either (nat_le (to + n) (length s.memory)) where
  low : IsByte (number % 256)
  low = let below : number % 256 < 256 = omega arith in below

  either : (b : Bool) → GivesBytes (with_written s (if b
      then Ok (with_part s.memory to (replicate n (number % 256)))
      else Err trap.MemoryOutOfBounds) go)
  either true =
      f (record s { memory = with_part s.memory to (replicate n (number % 256)) })
      (part_bytes s.memory (replicate n (number % 256)) to h
      (all_replicate IsByte n (number % 256) low))
  either false = tt

grown_bytes : (program : Program) (s : Store) (n : ℕ) (go : Store → Value → Effect)
    → AreBytes s.memory
    → ((after : Store) (v : Value) → AreBytes after.memory → GivesBytes (go after v))
    → GivesBytes (grown program s n go)
grown_bytes program s n go h f = either (nat_le (pages_of s + n) program.most_pages) where
  zero_is_byte : IsByte 0
  zero_is_byte = let below : 0 < 256 = omega arith in below

  either : (b : Bool) → GivesBytes (if b
      then go (record s { memory = s.memory ++ replicate (n * page_size) 0 })
      (value.I32 (pages_of s))
      else go s (value.I32 (2 ^ 32 - 1)))
  either true =
      f (record s { memory = s.memory ++ replicate (n * page_size) 0 }) (value.I32 (pages_of s))
      (all_both IsByte s.memory (replicate (n * page_size) 0) h
      (all_replicate IsByte (n * page_size) 0 zero_is_byte))
  either false = f s (value.I32 (2 ^ 32 - 1)) h

effect_bytes : (program : Program) (i : Instruction) (s : Store) (ls vs : List Value)
    → AreBytes s.memory → GivesBytes (effect program i s ls vs)
effect_bytes program instr.Unreachable s ls vs h = tt
effect_bytes program instr.Nop s ls vs h = h
effect_bytes program instr.Drop s ls (v ∷ vs) h = h
effect_bytes program instr.Select s ls (value.I32 n ∷ b ∷ a ∷ vs) h = h
effect_bytes program (instr.LocalGet x) s ls vs h = some_bytes (slice_get ls x) _ (λ v. h)
effect_bytes program (instr.LocalSet x) s ls (v ∷ vs) h = some_bytes (slice_get ls x) _ (λ _. h)
effect_bytes program (instr.LocalTee x) s ls (v ∷ vs) h = some_bytes (slice_get ls x) _ (λ _. h)
effect_bytes program (instr.GlobalGet x) s ls vs h = some_bytes (slice_get s.globals x) _ (λ v. h)
effect_bytes program (instr.GlobalSet x) s ls (v ∷ vs) h =
    some_bytes (slice_get s.globals x) _ (λ _. h)
effect_bytes program (instr.Load o m) s ls vs h =
    top_bytes I32 vs _ (λ i vs.
    result_bytes (loaded_type o) (load_at o s.memory (i + m.offset)) _ (λ v. h))
effect_bytes program (instr.Store o m) s ls vs h =
    top_bytes (stored_type o) vs _ (λ n vs. top_bytes I32 vs _ (λ i vs.
    store_bytes o s (i + m.offset) n (λ s. Gives s ls vs) h (λ after k. k)))
effect_bytes program instr.MemorySize s ls vs h = h
effect_bytes program instr.MemoryGrow s ls vs h =
    top_bytes I32 vs _ (λ n vs.
    grown_bytes program s n (λ s v. Gives s ls (v ∷ vs)) h (λ after v k. k))
effect_bytes program instr.MemoryCopy s ls vs h =
    top_bytes I32 vs _ (λ n vs. top_bytes I32 vs _ (λ from vs. top_bytes I32 vs _ (λ to vs.
    bytes_copied s to from n (λ s. Gives s ls vs) h (λ after k. k))))
effect_bytes program instr.MemoryFill s ls vs h =
    top_bytes I32 vs _ (λ n vs. top_bytes I32 vs _ (λ number vs. top_bytes I32 vs _ (λ to vs.
    bytes_filled s to number n (λ s. Gives s ls vs) h (λ after k. k))))
effect_bytes program (instr.Const v) s ls vs h = h
effect_bytes program (instr.Eqz t) s ls vs h = top_bytes t vs _ (λ a vs. h)
effect_bytes program (instr.Compare t o) s ls vs h =
    top_bytes t vs _ (λ b vs. top_bytes t vs _ (λ a vs. h))
effect_bytes program (instr.Unary t o) s ls vs h = top_bytes t vs _ (λ a vs. h)
effect_bytes program (instr.Binary t o) s ls vs h =
    operands_bytes t vs _ s ls h
effect_bytes program (instr.Convert o) s ls vs h =
    top_bytes (conversion_takes o) vs _ (λ a vs. h)
effect_bytes program _ s ls vs h = tt

-- ---- what a counted step does

abbrev pub GoesToBytes : Outcome → Type 0
GoesToBytes (Goes next) = AreBytes next.store.memory
GoesToBytes _ = Unit {0}

where_bytes : {X : Type 0} (o : Option X) (go : X → Outcome) → ((x : X) → GoesToBytes (go x))
    → GoesToBytes (where_some o go)
where_bytes None go f = tt
where_bytes (Some x) go f = f x

called_bytes : (f : ℕ) (callee : Callee) (c : Configuration) (caller : List Value → Frame)
    (vs : List Value) (frames : Thread) → AreBytes c.store.memory
    → GoesToBytes (called f callee c caller vs frames)
called_bytes f (Imported signature) c caller vs frames h =
    where_bytes (topmost (length (takes_of signature)) vs)
    (λ arguments. Asks f arguments (caller (drop (length (takes_of signature)) vs) ∷ frames))
    (λ arguments. tt)
called_bytes f (Own signature declared body) c caller vs frames h =
    where_bytes (topmost (length (takes_of signature)) vs) _ (λ arguments.
    either (entered f signature declared body arguments
    ∷ caller (drop (length (takes_of signature)) vs) ∷ frames))
  where
    either : (thread : Thread)
        → GoesToBytes (if is_exhausted thread then Traps trap.StackExhausted
        else Goes (record c { thread = thread }))
    either thread = by_test (is_exhausted thread) where
      by_test : (b : Bool)
          → GoesToBytes (if b then Traps trap.StackExhausted
          else Goes (record c { thread = thread }))
      by_test true = tt
      by_test false = h

calls_bytes : (program : Program) (f : ℕ) (c : Configuration) (caller : List Value → Frame)
    (vs : List Value) (frames : Thread) → AreBytes c.store.memory
    → GoesToBytes (calls program f c caller vs frames)
calls_bytes program f c caller vs frames h =
    where_bytes (slice_get program.functions f) _ (λ callee.
    called_bytes f callee c caller vs frames h)

entry_bytes : (program : Program) (o : Option (Option ℕ)) (signature : FunctionType)
    (c : Configuration) (caller : List Value → Frame) (vs : List Value) (frames : Thread)
    → AreBytes c.store.memory → GoesToBytes (calls_entry program o signature c caller vs frames)
entry_bytes program None signature c caller vs frames h = tt
entry_bytes program (Some None) signature c caller vs frames h = tt
entry_bytes program (Some (Some f)) signature c caller vs frames h =
    where_bytes (slice_get program.functions f) _ (λ callee. by_test callee (is_same callee))
  where
    is_same : Callee → Bool
    is_same callee = is_same_function_type signature (signature_of callee)

    by_test : (callee : Callee) (b : Bool)
        → GoesToBytes (if b then called f callee c caller vs frames
        else Traps trap.IndirectCallTypeMismatch)
    by_test callee true = called_bytes f callee c caller vs frames h
    by_test callee false = tt

after_bytes : (e : Effect) (c : Configuration) (go : List Value → List Value → Thread)
    → GivesBytes e → GoesToBytes (after_effect e c go)
after_bytes (Gives s ls vs) c go h = h
after_bytes (Fails why) c go h = tt
after_bytes Wrong c go h = tt

execute_bytes : (program : Program) (c : Configuration) (f : ℕ) (ls : List Value)
    (labels : List Label) (i : Instruction) (vs : List Value) (rest : Sequence) (frames : Thread)
    → AreBytes c.store.memory → GoesToBytes (execute program c f ls labels i vs rest frames)
execute_bytes program c f ls labels (instr.Br l) vs rest frames h =
    where_bytes (branch l f ls labels vs) _ (λ frame. h)
execute_bytes program c f ls labels (instr.BrIf l) (value.I32 zero ∷ vs) rest frames h = h
execute_bytes program c f ls labels (instr.BrIf l) (value.I32 (suc n) ∷ vs) rest frames h =
    where_bytes (branch l f ls labels vs) _ (λ frame. h)
execute_bytes program c f ls labels (instr.BrTable table last) (value.I32 n ∷ vs) rest frames h =
    where_bytes (branch (unwrap_or (slice_get table n) last) f ls labels vs) _ (λ frame. h)
execute_bytes program c f ls labels instr.Return vs rest frames h =
    where_bytes (slice_get program.functions f) _ (λ callee.
    where_bytes (topmost (length (gives_of (signature_of callee))) vs) _ (λ results. h))
execute_bytes program c f ls labels (instr.Call g) vs rest frames h =
    calls_bytes program g c _ vs frames h
execute_bytes program c f ls labels (instr.CallIndirect t) (value.I32 i ∷ vs) rest frames h =
    where_bytes (slice_get program.types t) _ (λ signature.
    entry_bytes program (slice_get c.store.table i) signature c _ vs frames h)
execute_bytes program c f ls labels i vs rest frames h =
    after_bytes (effect program i c.store ls vs) c
    (λ ls' vs'. FrameOf f ls' labels vs' rest ∷ frames)
    (effect_bytes program i c.store ls vs h)

pub step_bytes : (program : Program) (c : Configuration) → AreBytes c.store.memory
    → GoesToBytes (counted_step program c)
step_bytes program c h = by_thread c.thread where
  by_thread : (thread : Thread) → GoesToBytes (counted_step_of program c thread)
  by_thread (FrameOf f ls labels vs (Plain i rest) ∷ frames) =
      execute_bytes program c f ls labels i vs rest frames h
  by_thread (FrameOf f ls labels vs (InBlock t body rest) ∷ frames) = h
  by_thread (FrameOf f ls labels vs (InLoop t body rest) ∷ frames) = h
  by_thread (FrameOf f ls labels (value.I32 zero ∷ vs) (InIf t first rest) ∷ frames) = h
  by_thread (FrameOf f ls labels (value.I32 (suc n) ∷ vs) (InIf t first rest) ∷ frames) = h
  by_thread (FrameOf f ls labels (value.I32 zero ∷ vs) (InIfElse t first second rest) ∷ frames) = h
  by_thread (FrameOf f ls labels (value.I32 (suc n) ∷ vs) (InIfElse t first second rest) ∷ frames) =
      h
  by_thread _ = tt

-- ---- administrative steps

-- what becomes the thread leaves the store
of_thread : (o : Option Thread) (later : List ℕ) (store : Store) (d : Configuration)
    → option_map (λ (thread : Thread).
    record { store = store; thread = thread; later = later }) o ≡ Some d → d.store ≡ store
of_thread None later store d e = absurd (cc)
of_thread (Some thread) later store d e =
    let same : record { store = store; thread = thread; later = later } ≡ d = cc in
    ap (λ (x : Configuration). x.store) (sym same)

exited_store : (program : Program) (thread : Thread) (later : List ℕ) (store : Store)
    (d : Configuration) → exited_by program thread later store ≡ Some d → d.store ≡ store
exited_store program [] [] store d e = absurd (cc)
exited_store program [] (f ∷ later) store d e =
    of_thread (begun (slice_get program.functions f) f) later store d e
exited_store program (FrameOf f ls labels vs rest ∷ frames) later store d e =
    of_thread (exited rest f ls labels vs frames) later store d e

pub reduced_store : (program : Program) (c d : Configuration) → ReducesTo program c d
    → d.store ≡ c.store
reduced_store program c d (here s) = refl
reduced_store program c d (on {c = c'} {d = between} e rest) =
    reduced_store program between d rest ∙ exited_store program c'.thread c'.later
    c'.store between e

-- ---- the beginning

zero_byte : IsByte 0
zero_byte = let below : 0 < 256 = omega arith in below

empty_bytes : (memories : List MemoryType) → AreBytes (empty_memory memories)
empty_bytes [] = tt
empty_bytes (t ∷ memories) = all_replicate IsByte (t.limits.minimum * page_size) 0 zero_byte

segment_bytes : (memory bytes after : List ℕ) (from : ℕ) → AreBytes memory → AreBytes bytes
    → with_segment memory bytes from ≡ Some after → AreBytes after
segment_bytes memory bytes after from h k e =
    by_test (nat_le (from + length bytes) (length memory)) e
  where
    by_test : (b : Bool) → (if b then Some (with_part memory from bytes) else None) ≡ Some after
        → AreBytes after
    by_test false e = absurd (cc)
    by_test true e =
        (let same : with_part memory from bytes ≡ after = cc in
        subst AreBytes same (part_bytes memory bytes from h k))

filled_bytes : (m : Module) (globals : List Value) (segments : List Data) (memory filled : List ℕ)
    → AllByRecursion (IsDataValid m) segments → AreBytes memory
    → filled_memory globals segments memory ≡ Some filled → AreBytes filled
filled_bytes m globals [] memory filled v h e =
    (let same : memory ≡ filled = cc in subst AreBytes same h)
filled_bytes m globals (d ∷ segments) memory filled v h e =
    let next = and_then_some (λ memory'. filled_memory globals segments memory')
    (option_and_then (λ from. with_segment memory d.bytes from) (offset_of globals d.offset))
    filled e in
    let place = and_then_some (λ from. with_segment memory d.bytes from)
    (offset_of globals d.offset)
    next.0 next.1 in
    filled_bytes m globals segments next.0 filled v.1
    (segment_bytes memory d.bytes next.0 place.0 h v.0.2 place.2) next.2

pub begins_with_bytes : (m : Module) (pages entry : ℕ) (program : Program) (c : Configuration)
    → IsValid m → Begins m pages entry program c → AreBytes c.store.memory
begins_with_bytes m pages entry program c valid begins =
    let first = filled_bytes m begins.store.globals m.data_segments (empty_memory (memories_of m))
    begins.store.memory valid.data_segments (empty_bytes (memories_of m)) begins.is_store.memory in
    subst (λ (s : Store). AreBytes s.memory) (sym (reduced_store program _ c begins.reduces)) first
