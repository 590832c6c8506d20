-- The rules of calls, returns and ends at a running frame, and that they lead to typed
-- configurations.
use Rattle.std.proofs.Common.{◌≡◌, ℕ, List, [], ◌∷◌, length, Some, refl, ap, ◌∙◌}
use Rattle.std.specs.Prelude.{slice_get}
use Rattle.wasm_syntax.specs.declared.types.FunctionType.{FunctionType}
use Rattle.wasm_syntax.specs.declared.value.Value.{Value}
use Rattle.wasm_syntax.specs.declared.value.Value.TheVariants as value
use Rattle.wasm_syntax.specs.declared.instruction.Instruction.{Instruction}
use Rattle.wasm_syntax.specs.declared.instruction.Instruction.TheVariants as instr
use Rattle.wasm_syntax.specs.rules.Sequence.{Sequence, Stop, Plain}
use Rattle.wasm_rules.specs.Types.{gives_of}
use Rattle.wasm_rules.specs.Typing.{Context}
use Rattle.wasm_rules.specs.Configuration.{Callee, Program, Label, FrameOf, Thread, Configuration}
use Rattle.wasm_rules.specs.Steps.{topmost, returned, called, calls_entry, signature_of}
use Rattle.wasm_rules.specs.Steps.{counted_step, counted_step_of, exited_by, IsReduced, IsCounted}
use Rattle.wasm_rules.specs.Steps.{IsAdministrative}
use Rattle.wasm_rules.specs.Typed.{IsTypedProgram, IsTyped}
use Rattle.wasm_rules.proofs.Soundness.AdministrativeSound.{never_stuck_holds}
use Rattle.wasm_rules.proofs.Soundness.AdministrativeSound.{goes_typed as sound_typed}

-- A configuration whose running frame is before a plain opcode is reduced.
pub reduced_before : (program : Program) (d : Configuration) (f : ℕ) (ls vs : List Value)
    (labels : List Label) (i : Instruction) (after : Sequence) (thread : Thread)
    → d.thread ≡ FrameOf f ls labels vs (Plain i after) ∷ thread → IsReduced program d
reduced_before program d f ls vs labels i after thread e =
    ap (λ t. exited_by program t d.later d.store) e

-- What a counted step leads to is typed.
pub counted_typed : {c : Context} {program : Program} {d : Configuration} (e : Configuration)
    → IsTypedProgram c program → IsTyped c program d → IsReduced program d → IsCounted program d e
    → IsTyped c program e
counted_typed {c} {program} {d} e typed now reduced goes =
    sound_typed c program d e goes (never_stuck_holds c program d typed now reduced)

-- ---- the rules of calls and returns

-- what remains of the running frame
pub with_rest : (d : Configuration) (f : ℕ) (ls vs : List Value) (labels : List Label)
    {rest next : Sequence} (thread : Thread) → d.thread ≡ FrameOf f ls labels vs rest ∷ thread
    → rest ≡ next → d.thread ≡ FrameOf f ls labels vs next ∷ thread
with_rest d f ls vs labels thread e k = e ∙ ap (λ z. FrameOf f ls labels vs z ∷ thread) k

pub with_values : (d : Configuration) (f : ℕ) (ls : List Value) {vs values : List Value}
    (labels : List Label) (rest : Sequence) (thread : Thread) → d.thread ≡ FrameOf f ls labels vs
    rest ∷ thread
    → vs ≡ values → d.thread ≡ FrameOf f ls labels values rest ∷ thread
with_values d f ls labels rest thread e k =
    e ∙ ap (λ z. FrameOf f ls labels z rest ∷ thread) k

pub call_counted : (program : Program) (d : Configuration) (f : ℕ) (ls vs : List Value)
    (labels : List Label) (g : ℕ) (after : Sequence) (thread : Thread) {callee : Callee}
    → d.thread ≡ FrameOf f ls labels vs (Plain (instr.Call g) after) ∷ thread
    → slice_get program.functions g ≡ Some callee
    → counted_step program d ≡ called g callee d (λ others. FrameOf f ls labels others
    after) vs thread
call_counted program d f ls vs labels g after thread e k = ap (λ t. counted_step_of program d t) e ∙
    rw k refl

pub indirect_counted : (program : Program) (d : Configuration) (f : ℕ) (ls vs : List Value)
    (labels : List Label) (t index : ℕ) (after : Sequence) (thread : Thread)
    {signature : FunctionType} → d.thread ≡ FrameOf f ls labels (value.I32 index ∷ vs)
    (Plain (instr.CallIndirect t) after) ∷ thread → slice_get program.types t ≡ Some signature
    → counted_step program d ≡ calls_entry program (slice_get d.store.table index)
    signature d (λ others. FrameOf f ls labels others after) vs thread
indirect_counted program d f ls vs labels t index after thread e k =
    ap (λ t. counted_step_of program d t) e ∙ rw k refl

pub return_counted : (program : Program) (d : Configuration) (f : ℕ) (ls vs : List Value)
    {results : List Value} (labels : List Label) (after : Sequence) (thread : Thread)
    {callee : Callee}
    → d.thread ≡ FrameOf f ls labels vs (Plain instr.Return after) ∷ thread
    → slice_get program.functions f ≡ Some callee
    → topmost (length (gives_of (signature_of callee))) vs ≡ Some results
    → IsCounted program d (record d { thread = returned results thread })
return_counted program d f ls vs labels after thread e k t =
    ap (λ z. counted_step_of program d z) e ∙ rw (k, t) refl

-- the end of a body
pub end_administrative : (program : Program) (d : Configuration) (f : ℕ) (ls vs : List Value)
    {labels : List Label} {rest : Sequence} (thread : Thread)
    → d.thread ≡ FrameOf f ls labels vs rest ∷ thread → labels ≡ [] → rest ≡ Stop
    → IsAdministrative program d (record d { thread = returned vs thread })
end_administrative program d f ls vs {rest} thread e k h =
    ap (λ t. exited_by program t d.later d.store) e
    ∙ ap (λ z. exited_by program (FrameOf f ls z vs rest ∷ thread) d.later d.store) k
    ∙ ap (λ z. exited_by program (FrameOf f ls [] vs z ∷ thread) d.later d.store) h
