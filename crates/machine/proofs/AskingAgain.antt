-- What asks the host for something does so whatever memory holds.
use Rattle.std.proofs.Common.{◌≡◌, inl, inr, ℕ, Bool, true, false, if◌then◌else◌, List, [], ◌∷◌}
use Rattle.std.proofs.Common.{length, drop, Option, Some, None}
use Rattle.std.specs.Prelude.{slice_get}
use Rattle.wasm_syntax.specs.declared.types.FunctionType.{FunctionType}
use Rattle.wasm_syntax.specs.declared.value.Value.{Value}
use Rattle.wasm_syntax.specs.declared.value.Value.TheVariants as value
use Rattle.wasm_syntax.specs.declared.value.Trap.TheVariants as trap
use Rattle.wasm_syntax.specs.declared.instruction.Instruction.{Instruction}
use Rattle.wasm_syntax.specs.declared.instruction.Instruction.TheVariants as instr
use Rattle.wasm_syntax.specs.rules.Sequence.{Sequence, Plain}
use Rattle.wasm_rules.specs.Types.{takes_of, is_same_function_type}
use Rattle.wasm_rules.specs.Configuration.{Callee, Imported, Own, Program, Label, Frame, FrameOf}
use Rattle.wasm_rules.specs.Configuration.{Thread, Configuration, Outcome, Traps, Asks}
use Rattle.wasm_rules.specs.Steps.{where_some, topmost, called, calls_entry, signature_of}
use Rattle.wasm_rules.specs.Steps.{entered, execute, counted_step_of, counted_step}
use Rattle.machine.proofs.CycleLemmas.Asking.{IsCall, no_entering, only_calls}
use Rattle.machine.specs.laws.Laws.{with_memory_bytes}

module _ (f : ℕ) (arguments : List Value) (waits : Thread) where
  abbrev Asking : Outcome → Type 0
  Asking o = o ≡ Asks f arguments waits

  module _ (d e : Configuration) (caller : List Value
      → Frame) (vs : List Value) (frames : Thread) where
    called_again : (g : ℕ) (callee : Callee) → Asking (called g callee d caller vs frames)
        → Asking (called g callee e caller vs frames)
    called_again g (Imported signature) h = h
    called_again g (Own signature declared body) h =
        absurd (no_entering f arguments waits (topmost (length (takes_of signature)) vs) d (λ given.
        entered g signature declared body given ∷ caller (drop (length (takes_of signature)) vs)
        ∷ frames) h)

    calls_again : (g : ℕ) (o : Option Callee)
        → Asking (where_some o (λ callee. called g callee d caller vs frames))
        → Asking (where_some o (λ callee. called g callee e caller vs frames))
    calls_again g None h = h
    calls_again g (Some callee) h = called_again g callee h

    same_again : (g : ℕ) (callee : Callee) (b : Bool)
        → Asking (if b then called g callee d caller vs frames
        else Traps trap.IndirectCallTypeMismatch)
        → Asking (if b then called g callee e caller vs frames
        else Traps trap.IndirectCallTypeMismatch)
    same_again g callee false h = h
    same_again g callee true h = called_again g callee h

    callee_again : (signature : FunctionType) (g : ℕ) (o : Option Callee)
        → Asking (where_some o (λ callee. if is_same_function_type signature (signature_of callee)
        then called g callee d caller vs frames else Traps trap.IndirectCallTypeMismatch))
        → Asking (where_some o (λ callee. if is_same_function_type signature (signature_of callee)
        then called g callee e caller vs frames else Traps trap.IndirectCallTypeMismatch))
    callee_again signature g None h = h
    callee_again signature g (Some callee) h =
        same_again g callee (is_same_function_type signature (signature_of callee)) h

    entry_again : (program : Program) (signature : FunctionType) (entry : Option (Option ℕ))
        → Asking (calls_entry program entry signature d caller vs frames)
        → Asking (calls_entry program entry signature e caller vs frames)
    entry_again program signature None h = h
    entry_again program signature (Some None) h = h
    entry_again program signature (Some (Some g)) h =
        callee_again signature g (slice_get program.functions g) h

    indirect_again : (program : Program) (o : Option FunctionType) (entry : Option (Option ℕ))
        → Asking (where_some o (λ signature. calls_entry program entry signature d
        caller vs frames)) → Asking (where_some o (λ signature. calls_entry program entry signature
        e caller vs frames))
    indirect_again program None entry h = h
    indirect_again program (Some signature) entry h = entry_again program signature entry h

  module _ (program : Program) (d : Configuration) (bytes : List ℕ) where
    plain_again : (g : ℕ) (ls : List Value) (labels : List Label) (i : Instruction)
        (vs : List Value) (rest : Sequence) (frames : Thread) → IsCall i
        → Asking (execute program d g ls labels i vs rest frames)
        → Asking (execute program (with_memory_bytes d bytes) g ls labels i vs rest frames)
    plain_again g ls labels (instr.Call x) vs rest frames is h =
        calls_again d (with_memory_bytes d bytes) (λ below.
        FrameOf g ls labels below rest) vs frames x (slice_get program.functions x) h
    plain_again g ls labels (instr.CallIndirect t) [] rest frames is h = h
    plain_again g ls labels (instr.CallIndirect t) (value.I64 n ∷ vs) rest frames is h = h
    plain_again g ls labels (instr.CallIndirect t) (value.I32 n ∷ vs) rest frames is h =
        indirect_again d (with_memory_bytes d bytes) (λ below.
        FrameOf g ls labels below rest) vs frames program (slice_get program.types t)
        (slice_get d.store.table n) h
    plain_again g ls labels i vs rest frames (inl is) h = absurd (cc (is.1))
    plain_again g ls labels i vs rest frames (inr is) h = absurd (cc (is.1))

    again_of : (g : ℕ) (ls : List Value) (labels : List Label) (vs : List Value) (rest : Sequence)
        (frames : Thread) → (i : Instruction) × (after : Sequence) × (rest ≡ Plain i after)
        × IsCall i → Asking (counted_step_of program d (FrameOf g ls labels vs rest ∷ frames))
        → Asking (counted_step_of program (with_memory_bytes d bytes) (FrameOf g ls labels vs rest
        ∷ frames))
    again_of g ls labels vs rest frames call h =
        let here : Asking (execute program d g ls labels call.0 vs call.1 frames) = (rw call.2 at h)
        in
        rw call.2 (plain_again g ls labels call.0 vs call.1 frames call.3 here)

    thread_again : (thread : Thread) → Asking (counted_step_of program d thread)
        → Asking (counted_step_of program (with_memory_bytes d bytes) thread)
    thread_again [] h = absurd (cc)
    thread_again (FrameOf g ls labels vs rest ∷ frames) h =
        again_of g ls labels vs rest frames
        (only_calls f arguments waits program d g ls labels vs rest frames h) h

    pub asks_again : Asking (counted_step program d) → Asking
        (counted_step program (with_memory_bytes d bytes))
    asks_again h = thread_again d.thread h
