-- In a reduced, typed configuration that has not ended a counted step applies, and what it leads to
-- is typed.
use Rattle.std.proofs.Common.{◌≡◌, ◌⊎◌, inl, inr, ℕ, zero, suc, ◌<◌, Bool, true, false}
use Rattle.std.proofs.Common.{if◌then◌else◌, List, [], ◌∷◌, ◌++◌, length, Option, Some, None, refl}
use Rattle.std.proofs.Common.{sym, ap, ◌∙◌, append_assoc, arith}
use Rattle.std.specs.Prelude.{slice_get, map, unwrap_or, IfSome}
use Rattle.std.specs.List.{AllByRecursion}
use Rattle.wasm_syntax.specs.declared.types.ValueType.{ValueType}
use Rattle.wasm_syntax.specs.declared.types.ValueType.TheVariants.{I32}
use Rattle.wasm_syntax.specs.declared.types.FunctionType.{FunctionType}
use Rattle.wasm_syntax.specs.declared.value.Value.{Value}
use Rattle.wasm_syntax.specs.declared.value.Value.TheVariants as value
use Rattle.wasm_syntax.specs.declared.value.Trap.TheVariants as trap
use Rattle.wasm_syntax.specs.declared.instruction.Instruction.{Instruction}
use Rattle.wasm_syntax.specs.declared.instruction.Instruction.TheVariants as instr
use Rattle.wasm_syntax.specs.rules.Sequence.{Sequence, Stop, Plain, InBlock, InLoop, InIf, InIfElse}
use Rattle.wasm_rules.specs.Types.{AreOf, takes_of, gives_of, results_of, is_same_function_type}
use Rattle.wasm_rules.specs.Typing.{Context, HasInstructionType, HasType, body_context, IsLabel}
use Rattle.wasm_rules.specs.Configuration.{Callee, Own, Program, Part, Main, Second, Label, LabelOf}
use Rattle.wasm_rules.specs.Configuration.{FrameOf, Thread, Configuration, Goes, Traps}
use Rattle.wasm_rules.specs.Effects.{Effect, Gives, Fails, Wrong, effect, IsEffect}
use Rattle.wasm_rules.specs.Steps.{topmost, branch, returned, called, calls, calls_entry}
use Rattle.wasm_rules.specs.Steps.{signature_of, goes_on, where_some, after_effect, execute, inside}
use Rattle.wasm_rules.specs.Steps.{counted_step_of, counted_step, exited_by, IsReduced, IsEnded}
use Rattle.wasm_rules.specs.Typed.{IsTypedProgram, IsTypedStore, IsTypedEntry, AreTypedLabels}
use Rattle.wasm_rules.specs.Typed.{IsTypedThread, IsEntry, IsTyped}
use Rattle.wasm_rules.specs.laws.Soundness.{IsSound}
use Rattle.wasm_rules.proofs.Soundness.Values.{topmost_are}
use Rattle.wasm_rules.proofs.Soundness.EffectSound.{EffectHas, effect_has}
use Rattle.wasm_rules.proofs.Soundness.ControlSound.{branch_has, chosen_label, returned_typed}
use Rattle.wasm_rules.proofs.Soundness.ControlSound.{with_thread, called_sound, same_function_type}

-- the function at an index that has a type
pub callee_at : (functions : List Callee) (x : ℕ) (signature : FunctionType)
    → slice_get (map signature_of functions) x ≡ Some signature → (callee : Callee)
    × (slice_get functions x ≡ Some callee) × (signature_of callee ≡ signature)
callee_at [] x signature e = cc
callee_at (callee ∷ functions) zero signature e = (callee, refl, cc)
callee_at (callee ∷ functions) (suc x) signature e = callee_at functions x signature e

-- the function at an index
pub callee_inside : (functions : List Callee) (x : ℕ) → x < length functions → (callee : Callee)
    × (slice_get functions x ≡ Some callee)
callee_inside [] x h = absurd (omega arith)
callee_inside (callee ∷ functions) zero h = (callee, refl)
callee_inside (callee ∷ functions) (suc x) h = callee_inside functions x (omega arith)

-- an entry of a typed table
entry_at : (P : Option ℕ → Type 0) (table : List (Option ℕ)) (i : ℕ) (entry : Option ℕ)
    → AllByRecursion P table → slice_get table i ≡ Some entry → P entry
entry_at P [] i entry h e = cc
entry_at P (x ∷ table) zero entry h e = let same : x ≡ entry = cc in rw same at h.0
entry_at P (x ∷ table) (suc i) entry h e = entry_at P table i entry h.1 e

module _ (base : Context) (program : Program) (typed : IsTypedProgram base program)
    (c : Configuration) (now : IsTyped base program c)
    (signature : FunctionType) (declared : List ValueType) (body : Sequence) (f : ℕ)
    (is : slice_get program.functions f ≡ Some (Own signature declared body))
    (frames : Thread) (waits : IsTypedThread base program (gives_of signature) frames)
    (ls : List Value) (l : AreOf (signature.parameters ++ declared) ls) where
  -- a frame that goes on
  frame_typed : (branches : List (List ValueType)) (labels : List Label) (vs : List Value)
      (rest : Sequence) (types out : List ValueType) → AreOf types vs
      → HasType (body_context base signature declared) branches rest types out
      → AreTypedLabels (body_context base signature declared) branches labels out
      → IsTypedThread base program [] (FrameOf f ls labels vs rest ∷ frames)
  frame_typed branches labels vs rest types out o r t = (
    signature,
    declared,
    body,
    is,
    record {
      branches = branches;
      types = types;
      out = out;
      locals = l;
      values = o;
      typed_rest = r;
      typed_labels = t;
    },
    waits,
  )

  goes_typed : (branches : List (List ValueType)) (labels : List Label) (vs : List Value)
      (rest : Sequence) (types out : List ValueType) → AreOf types vs
      → HasType (body_context base signature declared) branches rest types out
      → AreTypedLabels (body_context base signature declared) branches labels out
      → IsTyped base program (record c { thread = FrameOf f ls labels vs rest ∷ frames })
  goes_typed branches labels vs rest types out o r t =
      with_thread base program typed c now _ (frame_typed branches labels vs rest types out o r t)

  -- ---- instructions that are no jumps and no calls

  after_sound : (branches : List (List ValueType)) (labels : List Label) (rest : Sequence)
      (after out : List ValueType) (e : Effect)
      → EffectHas (body_context base signature declared) program typed.pages after e
      → HasType (body_context base signature declared) branches rest after out
      → AreTypedLabels (body_context base signature declared) branches labels out
      → IsSound base program (after_effect e c (λ ls' vs'. FrameOf f ls' labels vs' rest ∷ frames))
  after_sound branches labels rest after out (Gives s ls' vs') h r t = record {
    store = record { memory = h.0.memory; globals = h.0.globals; table = h.0.table };
    thread = (
      signature,
      declared,
      body,
      is,
      record {
        branches = branches;
        types = after;
        out = out;
        locals = h.1;
        values = h.2;
        typed_rest = r;
        typed_labels = t;
      },
      waits,
    );
    later = now.later;
  }
  after_sound branches labels rest after out (Fails why) h r t = tt
  after_sound branches labels rest after out Wrong h r t = absurd h

  store_typed : IsTypedStore (body_context base signature declared) program c.store
  store_typed = record {
    memory = now.store.memory;
    globals = now.store.globals;
    table = now.store.table;
  }

  effect_sound : (branches : List (List ValueType)) (labels : List Label) (i : Instruction)
      (vs : List Value) (rest : Sequence) (p q below out : List ValueType) → IsEffect i
      → AreOf (p ++ below) vs → HasInstructionType (body_context base signature declared)
      branches i p q → HasType (body_context base signature declared) branches rest (q ++ below) out
      → AreTypedLabels (body_context base signature declared) branches labels out
      → IsSound base program (after_effect (effect program i c.store ls vs) c (λ ls' vs'.
      FrameOf f ls' labels vs' rest ∷ frames))
  effect_sound branches labels i vs rest p q below out plain o h r t =
      after_sound branches labels rest (q ++ below) out (effect program i c.store ls vs)
      (effect_has (body_context base signature declared) program typed.pages branches i p
      q below c.store ls vs plain h store_typed l o) r t

  -- ---- jumps

  jump_sound : (branches : List (List ValueType)) (labels : List Label) (d : ℕ) (vs : List Value)
      (ts rest out : List ValueType) → IsLabel branches ts d → AreOf (ts ++ rest) vs
      → AreTypedLabels (body_context base signature declared) branches labels out
      → IsSound base program (goes_on c (branch d f ls labels vs) frames)
  jump_sound branches labels d vs ts rest out b o t =
      let r = branch_has (body_context base signature declared) d f ls vs ts rest out
      branches labels b o l t in
      rw r.3 (with_thread base program typed c now _ (signature, declared, body, is, r.4, waits))

  br_if_sound : (branches : List (List ValueType)) (labels : List Label) (d : ℕ) (vs : List Value)
      (rest : Sequence) (ts below out : List ValueType) → IsLabel branches ts d
      → AreOf (I32 ∷ (ts ++ below)) vs
      → HasType (body_context base signature declared) branches rest (ts ++ below) out
      → AreTypedLabels (body_context base signature declared) branches labels out
      → IsSound base program (execute program c f ls labels (instr.BrIf d) vs rest frames)
  br_if_sound branches labels d [] rest ts below out b o r t = absurd o
  br_if_sound branches labels d (value.I64 n ∷ vs) rest ts below out b o r t = absurd o.0
  br_if_sound branches labels d (value.I32 zero ∷ vs) rest ts below out b o r t =
      goes_typed branches labels vs rest (ts ++ below) out o.1 r t
  br_if_sound branches labels d (value.I32 (suc n) ∷ vs) rest ts below out b o r t =
      jump_sound branches labels d vs ts below out b o.1 t

  br_table_sound : (branches : List (List ValueType)) (labels : List Label) (table : List ℕ)
      (last : ℕ) (vs : List Value) (rest : Sequence) (ts below out : List ValueType)
      → AllByRecursion (IsLabel branches ts) table → IsLabel branches ts last
      → AreOf (I32 ∷ (ts ++ below)) vs
      → AreTypedLabels (body_context base signature declared) branches labels out
      → IsSound base program
      (execute program c f ls labels (instr.BrTable table last) vs rest frames)
  br_table_sound branches labels table last [] rest ts below out a b o t = absurd o
  br_table_sound branches labels table last (value.I64 n ∷ vs) rest ts below out a b o t =
      absurd o.0
  br_table_sound branches labels table last (value.I32 n ∷ vs) rest ts below out a b o t =
      jump_sound branches labels (unwrap_or (slice_get table n) last) vs ts below out
      (chosen_label branches ts table last n a b) o.1 t

  return_sound : (vs : List Value) (below : List ValueType) → AreOf (gives_of signature ++ below) vs
      → IsSound base program (where_some (slice_get program.functions f) (λ callee.
      where_some (topmost (length (gives_of (signature_of callee))) vs) (λ results.
      Goes (record c { thread = returned results frames }))))
  return_sound vs below o =
      let r = topmost_are (gives_of signature) below vs o in
      rw (is, r.1) (with_thread base program typed c now _
      (returned_typed base program (gives_of signature) r.0 frames r.2 waits))

  -- ---- calls

  -- the frame that waits for a call of this type
  waits_for : (branches : List (List ValueType)) (labels : List Label) (rest : Sequence)
      (g : FunctionType) (below out : List ValueType)
      → HasType (body_context base signature declared) branches rest (gives_of g ++ below) out
      → AreTypedLabels (body_context base signature declared) branches labels out
      → (others : List Value) → AreOf below others
      → IsTypedThread base program (gives_of g) (FrameOf f ls labels others rest ∷ frames)
  waits_for branches labels rest g below out r t others o = (
    signature,
    declared,
    body,
    is,
    record {
      branches = branches;
      types = below;
      out = out;
      locals = l;
      values = o;
      typed_rest = r;
      typed_labels = t;
    },
    waits,
  )

  call_sound : (branches : List (List ValueType)) (labels : List Label) (x : ℕ) (vs : List Value)
      (rest : Sequence) (g : FunctionType) (below out : List ValueType)
      → slice_get base.functions x ≡ Some g → AreOf (takes_of g ++ below) vs
      → HasType (body_context base signature declared) branches rest (gives_of g ++ below) out
      → AreTypedLabels (body_context base signature declared) branches labels out
      → IsSound base program (calls program x c (λ below. FrameOf f ls labels below rest) vs frames)
  call_sound branches labels x vs rest g below out e o r t =
      let callee = callee_at program.functions x g (sym (ap (λ fs. slice_get fs x) typed.functions)
      ∙ e) in
      rw callee.1 (called_sound base program typed c now x callee.0 (λ below.
      FrameOf f ls labels below rest) below vs frames callee.1
      (rw callee.2 o) (rw callee.2 (waits_for branches labels rest g below out r t)))

  entry_sound : (branches : List (List ValueType)) (labels : List Label) (entry : Option (Option ℕ))
      (vs : List Value) (rest : Sequence) (g : FunctionType) (below out : List ValueType)
      → IfSome entry (IsTypedEntry program) → AreOf (takes_of g ++ below) vs
      → HasType (body_context base signature declared) branches rest (gives_of g ++ below) out
      → AreTypedLabels (body_context base signature declared) branches labels out
      → IsSound base program (calls_entry program entry g c (λ below.
      FrameOf f ls labels below rest) vs frames)
  entry_sound branches labels None vs rest g below out e o r t = tt
  entry_sound branches labels (Some None) vs rest g below out e o r t = tt
  entry_sound branches labels (Some (Some x)) vs rest g below out e o r t =
      let callee = callee_inside program.functions x e in
      rw callee.1 (same_or_not callee.0 callee.1 (is_same_function_type g
      (signature_of callee.0)) refl)
    where
      same_or_not : (callee : Callee) → slice_get program.functions x ≡ Some callee → (b : Bool)
          → is_same_function_type g (signature_of callee) ≡ b
          → IsSound base program (if b
          then called x callee c (λ below. FrameOf f ls labels below rest) vs frames
          else Traps trap.IndirectCallTypeMismatch)
      same_or_not callee at false e = tt
      same_or_not callee at true e =
          let same = same_function_type g (signature_of callee) e in
          called_sound base program typed c now x callee (λ below.
          FrameOf f ls labels below rest) below vs frames at (rw same.0 o)
          (rw same.1 (waits_for branches labels rest g below out r t))

  indirect_sound : (branches : List (List ValueType)) (labels : List Label) (x : ℕ)
      (vs : List Value) (rest : Sequence) (g : FunctionType) (below out : List ValueType)
      → slice_get base.types x ≡ Some g → AreOf (I32 ∷ (takes_of g ++ below)) vs
      → HasType (body_context base signature declared) branches rest (gives_of g ++ below) out
      → AreTypedLabels (body_context base signature declared) branches labels out
      → IsSound base program (execute program c f ls labels (instr.CallIndirect x) vs rest frames)
  indirect_sound branches labels x [] rest g below out e o r t = absurd o
  indirect_sound branches labels x (value.I64 n ∷ vs) rest g below out e o r t = absurd o.0
  indirect_sound branches labels x (value.I32 n ∷ vs) rest g below out e o r t =
      rw (sym (ap (λ ts. slice_get ts x) typed.types)
      ∙ e) (entry_sound branches labels (slice_get c.store.table n) vs rest g below out
      (entry_if (slice_get c.store.table n) refl) o.1 r t)
    where
      entry_if : (entry : Option (Option ℕ)) → slice_get c.store.table n ≡ entry
          → IfSome entry (IsTypedEntry program)
      entry_if None e = tt
      entry_if (Some entry) e =
          entry_at (IsTypedEntry program) c.store.table n entry now.store.table e

  -- ---- each instruction

  execute_sound : (branches : List (List ValueType)) (labels : List Label) (i : Instruction)
      (vs : List Value) (rest : Sequence) (p q below out : List ValueType) → AreOf (p ++ below) vs
      → HasInstructionType (body_context base signature declared) branches i p q
      → HasType (body_context base signature declared) branches rest (q ++ below) out
      → AreTypedLabels (body_context base signature declared) branches labels out
      → IsSound base program (execute program c f ls labels i vs rest frames)
  execute_sound branches labels (instr.Br d) vs rest p q below out o h r t =
      let o' : AreOf (h.0 ++ (h.1 ++ below)) vs = (rw (h.3, append_assoc) at o) in
      jump_sound branches labels d vs h.0 (h.1 ++ below) out h.2 o' t
  execute_sound branches labels (instr.BrIf d) vs rest p q below out o h r t =
      br_if_sound branches labels d vs rest h.0 below out h.1 (rw h.2 at o) (rw h.3 at r) t
  execute_sound branches labels (instr.BrTable table last) vs rest p q below out o h r t =
      let o' : AreOf (I32 ∷ ((h.0 ++ h.1) ++ below)) vs = (rw h.4 at o) in
      br_table_sound branches labels table last vs rest h.0 (h.1
      ++ below) out h.2 h.3 (rw append_assoc at o') t
  execute_sound branches labels instr.Return vs rest p q below out o h r t =
      let o' : AreOf (gives_of signature ++ (h.0 ++ below)) vs = (rw (h.1, append_assoc) at o) in
      return_sound vs (h.0 ++ below) o'
  execute_sound branches labels (instr.Call x) vs rest p q below out o h r t =
      call_sound branches labels x vs rest h.0 below out h.1 (rw h.2 at o) (rw h.3 at r) t
  execute_sound branches labels (instr.CallIndirect x) vs rest p q below out o h r t =
      indirect_sound branches labels x vs rest h.0 below out h.1 (rw h.3 at o) (rw h.4 at r) t
  execute_sound branches labels instr.Unreachable vs rest p q below out o h r t = tt
  execute_sound branches labels instr.Nop vs rest p q below out o h r t =
      effect_sound branches labels instr.Nop vs rest p q below out tt o h r t
  execute_sound branches labels instr.Drop vs rest p q below out o h r t =
      effect_sound branches labels instr.Drop vs rest p q below out tt o h r t
  execute_sound branches labels instr.Select vs rest p q below out o h r t =
      effect_sound branches labels instr.Select vs rest p q below out tt o h r t
  execute_sound branches labels (instr.LocalGet x) vs rest p q below out o h r t =
      effect_sound branches labels (instr.LocalGet x) vs rest p q below out tt o h r t
  execute_sound branches labels (instr.LocalSet x) vs rest p q below out o h r t =
      effect_sound branches labels (instr.LocalSet x) vs rest p q below out tt o h r t
  execute_sound branches labels (instr.LocalTee x) vs rest p q below out o h r t =
      effect_sound branches labels (instr.LocalTee x) vs rest p q below out tt o h r t
  execute_sound branches labels (instr.GlobalGet x) vs rest p q below out o h r t =
      effect_sound branches labels (instr.GlobalGet x) vs rest p q below out tt o h r t
  execute_sound branches labels (instr.GlobalSet x) vs rest p q below out o h r t =
      effect_sound branches labels (instr.GlobalSet x) vs rest p q below out tt o h r t
  execute_sound branches labels (instr.Load op m) vs rest p q below out o h r t =
      effect_sound branches labels (instr.Load op m) vs rest p q below out tt o h r t
  execute_sound branches labels (instr.Store op m) vs rest p q below out o h r t =
      effect_sound branches labels (instr.Store op m) vs rest p q below out tt o h r t
  execute_sound branches labels instr.MemorySize vs rest p q below out o h r t =
      effect_sound branches labels instr.MemorySize vs rest p q below out tt o h r t
  execute_sound branches labels instr.MemoryGrow vs rest p q below out o h r t =
      effect_sound branches labels instr.MemoryGrow vs rest p q below out tt o h r t
  execute_sound branches labels instr.MemoryCopy vs rest p q below out o h r t =
      effect_sound branches labels instr.MemoryCopy vs rest p q below out tt o h r t
  execute_sound branches labels instr.MemoryFill vs rest p q below out o h r t =
      effect_sound branches labels instr.MemoryFill vs rest p q below out tt o h r t
  execute_sound branches labels (instr.Const v) vs rest p q below out o h r t =
      effect_sound branches labels (instr.Const v) vs rest p q below out tt o h r t
  execute_sound branches labels (instr.Eqz b) vs rest p q below out o h r t =
      effect_sound branches labels (instr.Eqz b) vs rest p q below out tt o h r t
  execute_sound branches labels (instr.Compare b op) vs rest p q below out o h r t =
      effect_sound branches labels (instr.Compare b op) vs rest p q below out tt o h r t
  execute_sound branches labels (instr.Unary b op) vs rest p q below out o h r t =
      effect_sound branches labels (instr.Unary b op) vs rest p q below out tt o h r t
  execute_sound branches labels (instr.Binary b op) vs rest p q below out o h r t =
      effect_sound branches labels (instr.Binary b op) vs rest p q below out tt o h r t
  execute_sound branches labels (instr.Convert op) vs rest p q below out o h r t =
      effect_sound branches labels (instr.Convert op) vs rest p q below out tt o h r t
  execute_sound branches labels _ vs rest p q below out o h r t = absurd h

  -- ---- blocks

  -- a sequence inside of a label that keeps what a branch takes, above values of these types
  inside_sound : (which : Part) (branches : List (List ValueType)) (labels : List Label)
      (vs : List Value) (first target rest : Sequence) (ts us types out : List ValueType)
      → AreOf types vs → HasType (body_context base signature declared) (ts ∷ branches) first [] us
      → HasType (body_context base signature declared) branches target (ts ++ types) out
      → HasType (body_context base signature declared) branches rest (us ++ types) out
      → AreTypedLabels (body_context base signature declared) branches labels out
      → IsSound base program (inside c f ls (LabelOf (length ts) target vs rest which) labels first
      frames)
  inside_sound which branches labels vs first target rest ts us types out o h to r t =
      goes_typed (ts ∷ branches) (LabelOf (length ts) target vs rest which
      ∷ labels) [] first [] us tt h (types, out, refl, o, r, to, t)

  if_sound : (branches : List (List ValueType)) (labels : List Label) (vs : List Value)
      (b : Option ValueType) (first rest : Sequence) (below out : List ValueType) → b ≡ None
      → AreOf (I32 ∷ below) vs
      → HasType (body_context base signature declared) ([] ∷ branches) first [] []
      → HasType (body_context base signature declared) branches rest below out
      → AreTypedLabels (body_context base signature declared) branches labels out
      → IsSound base program (counted_step_of program c (FrameOf f ls labels vs (InIf b first rest)
      ∷ frames))
  if_sound branches labels [] b first rest below out e o x r t = absurd o
  if_sound branches labels (value.I64 n ∷ vs) b first rest below out e o x r t = absurd o.0
  if_sound branches labels (value.I32 zero ∷ vs) b first rest below out e o x r t =
      goes_typed branches labels vs rest below out o.1 r t
  if_sound branches labels (value.I32 (suc n) ∷ vs) b first rest below out e o x r t =
      rw e (inside_sound Main branches labels vs first rest rest [] [] below out o.1 x r r t)

  if_else_sound : (branches : List (List ValueType)) (labels : List Label) (vs : List Value)
      (b : Option ValueType) (first second rest : Sequence) (below out : List ValueType)
      → AreOf (I32 ∷ below) vs
      → HasType (body_context base signature declared) (results_of b
      ∷ branches) first [] (results_of b) → HasType (body_context base signature declared)
      (results_of b ∷ branches) second [] (results_of b) → HasType
      (body_context base signature declared) branches rest (results_of b ++ below) out
      → AreTypedLabels (body_context base signature declared) branches labels out
      → IsSound base program
      (counted_step_of program c (FrameOf f ls labels vs (InIfElse b first second rest) ∷ frames))
  if_else_sound branches labels [] b first second rest below out o x y r t = absurd o
  if_else_sound branches labels (value.I64 n ∷ vs) b first second rest below out o x y r t =
      absurd o.0
  if_else_sound branches labels (value.I32 zero ∷ vs) b first second rest below out o x y r t =
      inside_sound Second branches labels vs second rest rest (results_of b)
      (results_of b) below out o.1 y r r t
  if_else_sound branches labels (value.I32 (suc n) ∷ vs) b first second rest below out o x y r t =
      inside_sound Main branches labels vs first rest rest (results_of b)
      (results_of b) below out o.1 x r r t

  -- what remains of the running function
  rest_sound : (branches : List (List ValueType)) (labels : List Label) (vs : List Value)
      (rest : Sequence) (types out : List ValueType)
      → exited_by program (FrameOf f ls labels vs rest ∷ frames) c.later c.store ≡ None
      → AreOf types vs → HasType (body_context base signature declared) branches rest types out
      → AreTypedLabels (body_context base signature declared) branches labels out
      → IsSound base program (counted_step_of program c (FrameOf f ls labels vs rest ∷ frames))
  rest_sound branches [] vs Stop types out s o r t = absurd (cc)
  rest_sound branches (LabelOf keeps target below after which ∷ labels) vs Stop types out s o r t =
      absurd (cc)
  rest_sound branches labels vs (Plain i rest) types out s o r t =
      execute_sound branches labels i vs rest r.0 r.1 r.2 out (rw r.3 at o) r.4 r.5 t
  rest_sound branches labels vs (InBlock b first rest) types out s o r t =
      inside_sound Main branches labels vs first rest rest (results_of b)
      (results_of b) types out o r.0 r.1 r.1 t
  rest_sound branches labels vs (InLoop b first rest) types out s o r t =
      inside_sound Main branches labels vs first (InLoop b first rest) rest []
      (results_of b) types out o r.0 r r.1 t
  rest_sound branches labels vs (InIf b first rest) types out s o r t =
      if_sound branches labels vs b first rest r.0 out r.2 (rw r.1 at o) r.3 r.4 t
  rest_sound branches labels vs (InIfElse b first second rest) types out s o r t =
      if_else_sound branches labels vs b first second rest r.0 out (rw r.1 at o) r.2 r.3 r.4 t

-- ---- the whole

-- a function that the host may call can be entered
entry_begins : (base : Context) (program : Program) (c : Configuration) (x : ℕ) (later : List ℕ)
    → IsEntry program x → exited_by program [] (x ∷ later) c.store ≡ None → ⊥
entry_begins base program c x later h s = let e = h.3 in cc

thread_sound : (base : Context) (program : Program) → IsTypedProgram base program
    → (c : Configuration) → IsTyped base program c → (thread : Thread) (later : List ℕ)
    → c.thread ≡ thread → c.later ≡ later → IsTypedThread base program [] thread
    → AllByRecursion (IsEntry program) later → exited_by program thread later c.store ≡ None
    → IsEnded c ⊎ IsSound base program (counted_step_of program c thread)
thread_sound base program typed c now [] [] e k h a s =
    inl (record { returned = e; nothing_later = k })
thread_sound base program typed c now [] (x ∷ later) e k h a s =
    absurd (entry_begins base program c x later a.0 s)
thread_sound base program typed c now (FrameOf f ls labels vs rest ∷ frames) later e k h a s =
    inr (rest_sound base program typed c now h.0 h.1 h.2 f h.3 frames h.5 ls h.4.locals h.4.branches
    labels vs rest h.4.types h.4.out (rw k s) h.4.values h.4.typed_rest h.4.typed_labels)

pub never_stuck : (base : Context) (program : Program) (c : Configuration)
    → IsTypedProgram base program → IsTyped base program c → IsReduced program c
    → IsEnded c ⊎ IsSound base program (counted_step program c)
never_stuck base program c typed now s =
    thread_sound base program typed c now c.thread c.later refl refl now.thread now.later s
