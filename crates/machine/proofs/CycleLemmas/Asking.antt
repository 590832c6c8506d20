-- Only a call asks the host for something: what it calls, and with what type.
use Rattle.std.proofs.Common.{◌≡◌, ◌⊎◌, inl, inr, ℕ, zero, suc, Bool, true, false, if◌then◌else◌}
use Rattle.std.proofs.Common.{List, [], ◌∷◌, length, drop, Option, Some, None, refl, sym, ap, ◌∙◌}
use Rattle.std.proofs.Common.{subst}
use Rattle.std.specs.Prelude.{slice_get, unwrap_or}
use Rattle.wasm_syntax.specs.declared.types.FunctionType.{FunctionType}
use Rattle.wasm_syntax.specs.declared.value.Value.{Value}
use Rattle.wasm_syntax.specs.declared.value.Value.TheVariants as value
use Rattle.wasm_syntax.specs.declared.value.Trap.TheVariants as trap
use Rattle.wasm_syntax.specs.declared.instruction.Instruction.{Instruction}
use Rattle.wasm_syntax.specs.declared.instruction.Instruction.TheVariants as instr
use Rattle.wasm_syntax.specs.rules.Sequence.{Sequence, Stop, Plain, InBlock, InLoop, InIf, InIfElse}
use Rattle.wasm_rules.specs.Types.{takes_of, gives_of, is_same_function_type}
use Rattle.wasm_rules.specs.Configuration.{Callee, Imported, Own, Program, Label, Frame, FrameOf}
use Rattle.wasm_rules.specs.Configuration.{Thread, Configuration, Outcome, Goes, Traps, Asks}
use Rattle.wasm_rules.specs.Effects.{Effect, Gives, Fails, Wrong, effect}
use Rattle.wasm_rules.specs.Steps.{where_some, topmost, branch, returned, called, calls_entry}
use Rattle.wasm_rules.specs.Steps.{signature_of, entered, is_exhausted, after_effect, goes_on}
use Rattle.wasm_rules.specs.Steps.{execute, counted_step_of}
use Rattle.machine_frame.proofs.Threads.Calling.{same_signature}

-- the instructions that call
abbrev pub IsCall : Instruction → Type 0
IsCall i = ((g : ℕ) × (i ≡ instr.Call g)) ⊎ ((t : ℕ) × (i ≡ instr.CallIndirect t))

module _ (f : ℕ) (arguments : List Value) (waits : Thread) where
  abbrev pub Asking : Outcome → Type 0
  Asking o = o ≡ Asks f arguments waits

  -- ---- what doesn't ask

  no_effect : (e : Effect) (d : Configuration) (go : List Value → List Value → Thread)
      → Asking (after_effect e d go) → ⊥
  no_effect (Gives store ls vs) d go h = absurd (cc)
  no_effect (Fails why) d go h = absurd (cc)
  no_effect Wrong d go h = absurd (cc)

  no_branch : (o : Option Frame) (d : Configuration) (frames : Thread) → Asking (goes_on d o frames)
      → ⊥
  no_branch None d frames h = absurd (cc)
  no_branch (Some frame) d frames h = absurd (cc)

  no_going : (o : Option (List Value)) (next : List Value → Configuration)
      → Asking (where_some o (λ results. Goes (next results))) → ⊥
  no_going None next h = absurd (cc)
  no_going (Some results) next h = absurd (cc)

  no_return : (o : Option Callee) (vs : List Value) (d : Configuration) (frames : Thread)
      → Asking (where_some o (λ callee. where_some (topmost
      (length (gives_of (signature_of callee))) vs) (λ results. Goes
      (record d { thread = returned results frames })))) → ⊥
  no_return None vs d frames h = absurd (cc)
  no_return (Some callee) vs d frames h =
      no_going (topmost (length (gives_of (signature_of callee))) vs) (λ results.
      record d { thread = returned results frames }) h

  no_trap_or_step : (b : Bool) (next : Configuration)
      → Asking (if b then Traps trap.StackExhausted else Goes next) → ⊥
  no_trap_or_step true next h = absurd (cc)
  no_trap_or_step false next h = absurd (cc)

  pub no_entering : (o : Option (List Value)) (d : Configuration) (thread : List Value → Thread)
      → Asking (where_some o (λ given. if is_exhausted (thread given) then Traps trap.StackExhausted
      else Goes (record d { thread = thread given }))) → ⊥
  no_entering None d thread h = absurd (cc)
  no_entering (Some given) d thread h =
      no_trap_or_step (is_exhausted (thread given)) (record d { thread = thread given }) h

  -- ---- only calls ask

  module _ (program : Program) (d : Configuration) (g : ℕ) (ls : List Value)
      (labels : List Label) where
    plain : (i : Instruction) (vs : List Value) (rest : Sequence) (frames : Thread)
        → Asking (execute program d g ls labels i vs rest frames) → IsCall i
    plain (instr.Call x) vs rest frames h = inl (x, refl)
    plain (instr.CallIndirect t) vs rest frames h = inr (t, refl)
    plain (instr.Br l) vs rest frames h = absurd (no_branch (branch l g ls labels vs) d frames h)
    plain (instr.BrIf l) [] rest frames h = absurd (cc)
    plain (instr.BrIf l) (value.I64 n ∷ vs) rest frames h = absurd (cc)
    plain (instr.BrIf l) (value.I32 zero ∷ vs) rest frames h = absurd (cc)
    plain (instr.BrIf l) (value.I32 (suc n) ∷ vs) rest frames h =
        absurd (no_branch (branch l g ls labels vs) d frames h)
    plain (instr.BrTable table last) [] rest frames h = absurd (cc)
    plain (instr.BrTable table last) (value.I64 n ∷ vs) rest frames h = absurd (cc)
    plain (instr.BrTable table last) (value.I32 n ∷ vs) rest frames h =
        absurd (no_branch (branch (unwrap_or (slice_get table n) last) g ls labels vs) d frames h)
    plain instr.Return vs rest frames h =
        absurd (no_return (slice_get program.functions g) vs d frames h)
    plain i vs rest frames h =
        absurd (no_effect (effect program i d.store ls vs) d (λ ls' vs'.
        FrameOf g ls' labels vs' rest ∷ frames) h)

    pub only_calls : (vs : List Value) (rest : Sequence) (frames : Thread)
        → Asking (counted_step_of program d (FrameOf g ls labels vs rest ∷ frames))
        → (i : Instruction) × (after : Sequence) × (rest ≡ Plain i after) × IsCall i
    only_calls vs (Plain i after) frames h = (i, after, refl, plain i vs after frames h)
    only_calls vs Stop frames h = absurd (cc)
    only_calls vs (InBlock t inner after) frames h = absurd (cc)
    only_calls vs (InLoop t inner after) frames h = absurd (cc)
    only_calls [] (InIf t first after) frames h = absurd (cc)
    only_calls (value.I64 n ∷ vs) (InIf t first after) frames h = absurd (cc)
    only_calls (value.I32 zero ∷ vs) (InIf t first after) frames h = absurd (cc)
    only_calls (value.I32 (suc n) ∷ vs) (InIf t first after) frames h = absurd (cc)
    only_calls [] (InIfElse t first second after) frames h = absurd (cc)
    only_calls (value.I64 n ∷ vs) (InIfElse t first second after) frames h = absurd (cc)
    only_calls (value.I32 zero ∷ vs) (InIfElse t first second after) frames h = absurd (cc)
    only_calls (value.I32 (suc n) ∷ vs) (InIfElse t first second after) frames h = absurd (cc)

  -- ---- what a call asks for

  -- a function of the host's, whose arguments are on top
  abbrev pub ImportGiven : ℕ → Callee → List Value → Type 0
  ImportGiven g callee vs = (signature : FunctionType) × (callee ≡ Imported signature) × (g ≡ f)
      × (topmost (length (takes_of signature)) vs ≡ Some arguments)

  import_given : (g : ℕ) (signature : FunctionType) (vs : List Value) (o : Option (List Value))
      (w : Thread) → topmost (length (takes_of signature)) vs ≡ o
      → Asking (where_some o (λ given. Asks g given w)) → ImportGiven g (Imported signature) vs
  import_given g signature vs None w top h = absurd (cc)
  import_given g signature vs (Some given) w top h =
      let number : g ≡ f = cc in
      let same : given ≡ arguments = cc in
      (signature, refl, number, (cc))

  pub called_given : (g : ℕ) (callee : Callee) (d : Configuration) (caller : List Value
      → Frame) (vs : List Value) (frames : Thread) → Asking (called g callee d caller vs frames)
      → ImportGiven g callee vs
  called_given g (Imported signature) d caller vs frames h =
      import_given g signature vs (topmost (length (takes_of signature)) vs)
      (caller (drop (length (takes_of signature)) vs) ∷ frames) refl h
  called_given g (Own signature declared body) d caller vs frames h =
      absurd (no_entering (topmost (length (takes_of signature)) vs) d (λ given.
      entered g signature declared body given ∷ caller (drop (length (takes_of signature)) vs)
      ∷ frames) h)

  -- through the table it has the type that is asked for
  module _ (program : Program) (signature : FunctionType) (d : Configuration)
      (caller : List Value → Frame) (vs : List Value) (frames : Thread) where
    abbrev pub EntryGiven : Type 0
    EntryGiven = (slice_get program.functions f ≡ Some (Imported signature))
        × (topmost (length (takes_of signature)) vs ≡ Some arguments)

    same_given : (g : ℕ) {callee : Callee} → slice_get program.functions g ≡ Some callee
        → (b : Bool) → is_same_function_type signature (signature_of callee) ≡ b
        → Asking (if b then called g callee d caller vs frames
        else Traps trap.IndirectCallTypeMismatch) → EntryGiven
    same_given g at false same h = absurd (cc)
    same_given g {callee} at true same h =
        let given = called_given g callee d caller vs frames h in
        let is = given.1 in
        let number = given.2 in
        let signatures : signature ≡ given.0 = same_signature signature (signature_of callee) same
        ∙ ap signature_of is in
        let there : slice_get program.functions f ≡ Some (Imported given.0) = cc in (
          subst (λ k. slice_get program.functions f ≡ Some (Imported k)) (sym signatures) there,
          subst (λ k. topmost (length (takes_of k)) vs ≡ Some arguments) (sym signatures) given.3,
        )

    callee_given : (g : ℕ) (o : Option Callee) → slice_get program.functions g ≡ o
        → Asking (where_some o (λ callee. if is_same_function_type signature (signature_of callee)
        then called g callee d caller vs frames else Traps trap.IndirectCallTypeMismatch))
        → EntryGiven
    callee_given g None at h = absurd (cc)
    callee_given g (Some callee) at h =
        same_given g at (is_same_function_type signature (signature_of callee)) refl h

    pub entry_given : (entry : Option (Option ℕ))
        → Asking (calls_entry program entry signature d caller vs frames) → EntryGiven
    entry_given None h = absurd (cc)
    entry_given (Some None) h = absurd (cc)
    entry_given (Some (Some g)) h = callee_given g (slice_get program.functions g) refl h
