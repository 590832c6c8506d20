-- The rules of execution (Core Specification 1.0, section 4.4). A counted step executes one
-- instruction. The others, the end of a label or a frame and the next call of the host, count
-- nothing.
use Rattle.std.specs.Prelude.{◌≡◌, ℕ, zero, suc, ◌+◌, nat_lt, Bool, ◌||◌, List, [], ◌∷◌, ◌++◌}
use Rattle.std.specs.Prelude.{length, map, reverse, drop, Option, Some, None, slice_get, unwrap_or}
use Rattle.std.specs.Prelude.{if◌then◌else◌}
use Rattle.std.specs.Option.{option_map}
use Rattle.wasm_syntax.specs.declared.types.ValueType.{ValueType}
use Rattle.wasm_syntax.specs.declared.types.FunctionType.{FunctionType}
use Rattle.wasm_syntax.specs.declared.value.Value.{Value}
use Rattle.wasm_syntax.specs.declared.value.Value.TheVariants as value
use Rattle.wasm_syntax.specs.declared.value.Trap.TheVariants as trap
use Rattle.wasm_syntax.specs.declared.instruction.Instruction.{Instruction}
use Rattle.wasm_syntax.specs.declared.instruction.Instruction.TheVariants as instr
use Rattle.wasm_syntax.specs.rules.Sequence.{Sequence, Stop, Plain, InBlock, InLoop, InIf, InIfElse}
use Rattle.wasm_rules.specs.Types.{value_of, takes_of, gives_of, results_of, is_same_function_type}
use Rattle.wasm_rules.specs.Configuration.{Callee, Imported, Own, Program, Store, Part, Main}
use Rattle.wasm_rules.specs.Configuration.{Second, Label, LabelOf, Frame, FrameOf, Thread}
use Rattle.wasm_rules.specs.Configuration.{Configuration, Outcome, Goes, Traps, Asks, Stuck}
use Rattle.wasm_rules.specs.Effects.{Effect, Gives, Fails, Wrong, effect}

-- where something is there, what follows from it
abbrev pub where_some : {X : Type 0} → Option X → (X → Outcome) → Outcome
where_some None go = Stuck
where_some (Some x) go = go x

-- ---- branches (4.4.5)

-- the topmost n values, if there are so many
abbrev pub topmost : ℕ → List Value → Option (List Value)
topmost zero vs = Some []
topmost (suc n) [] = None
topmost (suc n) (v ∷ vs) = option_map (λ front. v ∷ front) (topmost n vs)

-- a branch to the label with this number: the values of the blocks that it leaves are gone, but for
-- those that the label keeps
abbrev pub branch : ℕ → ℕ → List Value → List Label → List Value → Option Frame
branch l f ls [] vs = None
branch zero f ls (LabelOf keeps target below after which ∷ labels) vs =
    option_map (λ kept. FrameOf f ls labels (kept ++ below) target) (topmost keeps vs)
branch (suc l) f ls (LabelOf keeps target below after which ∷ labels) vs = branch l f ls labels vs

-- ---- calls (4.4.7)

-- the calling frame, where there is one, is given what a function gives
abbrev pub returned : List Value → Thread → Thread
returned results [] = []
returned results (FrameOf f ls labels vs rest ∷ frames) =
    FrameOf f ls labels (results ++ vs) rest ∷ frames

-- how many locals and operands the frames hold
abbrev pub held_below : List Label → ℕ
held_below [] = 0
held_below (LabelOf keeps target below after which ∷ labels) = length below + held_below labels

-- how many locals, operands and labels' values the frames of a thread hold
abbrev pub held_by : Thread → ℕ
held_by [] = 0
held_by (FrameOf f ls labels vs rest ∷ frames) =
    length ls + length vs + held_below labels + held_by frames

-- the two limits on the stack, which are tested after a call has entered its function
abbrev pub is_exhausted : Thread → Bool
is_exhausted thread = nat_lt 512 (length thread) || nat_lt 65536 (held_by thread)

-- the value of a local before it is set
abbrev pub zero_of : ValueType → Value
zero_of t = value_of t 0

-- A function begins with its arguments and zeros as locals, inside of a label that stands for its
-- end.
abbrev pub entered : ℕ → FunctionType → List ValueType → Sequence → List Value → Frame
entered f signature declared body arguments =
    FrameOf f (reverse arguments
    ++ map zero_of declared) (LabelOf (length (gives_of signature)) Stop [] Stop Main ∷ []) [] body

-- a call of this function from a frame whose values below the arguments are `below`, which goes on
-- with rest
abbrev pub called : ℕ → Callee → Configuration → (List Value → Frame) → List Value → Thread
    → Outcome
called f (Imported signature) c caller vs frames =
    where_some (topmost (length (takes_of signature)) vs) (λ arguments.
    Asks f arguments (caller (drop (length (takes_of signature)) vs) ∷ frames))
called f (Own signature declared body) c caller vs frames =
    where_some (topmost (length (takes_of signature)) vs) (λ arguments.
    let thread : Thread =
    entered f signature declared body arguments ∷ caller (drop
    (length (takes_of signature)) vs) ∷ frames in
    if is_exhausted thread then Traps trap.StackExhausted else Goes (record c { thread = thread }))

-- a call by index
abbrev pub calls : Program → ℕ → Configuration → (List Value → Frame) → List Value → Thread
    → Outcome
calls program f c caller vs frames =
    where_some (slice_get program.functions f) (λ callee. called f callee c caller vs frames)

-- the type of a function
abbrev pub signature_of : Callee → FunctionType
signature_of (Imported signature) = signature
signature_of (Own signature declared body) = signature

-- a call through the table: of the entry at i, which has to be inside, not empty, and of this type
abbrev pub calls_entry : Program → Option (Option ℕ) → FunctionType → Configuration
    → (List Value → Frame) → List Value → Thread → Outcome
calls_entry program None signature c caller vs frames = Traps trap.UndefinedElement
calls_entry program (Some None) signature c caller vs frames = Traps trap.UninitializedElement
calls_entry program (Some (Some f)) signature c caller vs frames =
    where_some (slice_get program.functions f) (λ callee.
    if is_same_function_type signature (signature_of callee) then called f callee c caller vs frames
    else Traps trap.IndirectCallTypeMismatch)

-- ---- one instruction of the running function

-- what an effect leads to
abbrev pub after_effect : Effect → Configuration → (List Value → List Value → Thread) → Outcome
after_effect (Gives store ls vs) c go = Goes (record c { store = store; thread = go ls vs })
after_effect (Fails why) c go = Traps why
after_effect Wrong c go = Stuck

-- a thread goes on with this frame, where there is one
abbrev pub goes_on : Configuration → Option Frame → Thread → Outcome
goes_on c frame frames = where_some frame (λ frame. Goes (record c { thread = frame ∷ frames }))

-- the counted step of an instruction: jumps, calls, and all others by their effect
abbrev pub execute : Program → Configuration → ℕ → List Value → List Label → Instruction
    → List Value → Sequence → Thread → Outcome
execute program c f ls labels (instr.Br l) vs rest frames =
    goes_on c (branch l f ls labels vs) frames
execute program c f ls labels (instr.BrIf l) (value.I32 zero ∷ vs) rest frames =
    goes_on c (Some (FrameOf f ls labels vs rest)) frames
execute program c f ls labels (instr.BrIf l) (value.I32 (suc n) ∷ vs) rest frames =
    goes_on c (branch l f ls labels vs) frames
execute program c f ls labels (instr.BrTable table last) (value.I32 n ∷ vs) rest frames =
    goes_on c (branch (unwrap_or (slice_get table n) last) f ls labels vs) frames
execute program c f ls labels instr.Return vs rest frames =
    where_some (slice_get program.functions f) (λ callee.
    where_some (topmost (length (gives_of (signature_of callee))) vs) (λ results.
    Goes (record c { thread = returned results frames })))
execute program c f ls labels (instr.Call g) vs rest frames =
    calls program g c (λ below. FrameOf f ls labels below rest) vs frames
execute program c f ls labels (instr.CallIndirect t) (value.I32 i ∷ vs) rest frames =
    where_some (slice_get program.types t) (λ signature.
    calls_entry program (slice_get c.store.table i) signature c (λ below.
    FrameOf f ls labels below rest) vs frames)
execute program c f ls labels i vs rest frames =
    after_effect (effect program i c.store ls vs) c (λ ls' vs'. FrameOf f ls' labels vs' rest
    ∷ frames)

-- a sequence inside of a new label
abbrev pub inside : Configuration → ℕ → List Value → Label → List Label → Sequence → Thread
    → Outcome
inside c f ls label labels body frames =
    Goes (record c { thread = FrameOf f ls (label ∷ labels) [] body ∷ frames })

-- the label of a block, of either part of an if, and of a loop, which is executed anew after a
-- branch to it
abbrev pub block_label : Part → Option ValueType → List Value → Sequence → Label
block_label which t below rest = LabelOf (length (results_of t)) rest below rest which

-- the label of a `loop`: a branch to it begins the loop again
abbrev pub loop_label : Option ValueType → Sequence → List Value → Sequence → Label
loop_label t body below rest = LabelOf 0 (InLoop t body rest) below rest Main

-- the counted steps
abbrev pub counted_step_of : Program → Configuration → Thread → Outcome
counted_step_of program c (FrameOf f ls labels vs (Plain i rest) ∷ frames) =
    execute program c f ls labels i vs rest frames
counted_step_of program c (FrameOf f ls labels vs (InBlock t body rest) ∷ frames) =
    inside c f ls (block_label Main t vs rest) labels body frames
counted_step_of program c (FrameOf f ls labels vs (InLoop t body rest) ∷ frames) =
    inside c f ls (loop_label t body vs rest) labels body frames
counted_step_of program c (FrameOf f ls labels (value.I32 zero ∷ vs) (InIf t first rest) ∷ frames) =
    Goes (record c { thread = FrameOf f ls labels vs rest ∷ frames })
counted_step_of program c (FrameOf f ls labels (value.I32 (suc n)
    ∷ vs) (InIf t first rest) ∷ frames) = inside c f ls (block_label Main t vs rest)
    labels first frames
counted_step_of program c (FrameOf f ls labels (value.I32 zero ∷ vs) (InIfElse t first second rest)
    ∷ frames) = inside c f ls (block_label Second t vs rest) labels second frames
counted_step_of program c (FrameOf f ls labels (value.I32 (suc n)
    ∷ vs) (InIfElse t first second rest) ∷ frames) = inside c f ls (block_label Main t vs rest)
    labels first frames
counted_step_of program c thread = Stuck

-- the counted step that applies to a configuration
abbrev pub counted_step : Program → Configuration → Outcome
counted_step program c = counted_step_of program c c.thread

-- ---- the administrative steps

-- the end of a label, whose values join those below it, and the end of a function
abbrev pub exited : Sequence → ℕ → List Value → List Label → List Value → Thread → Option Thread
exited Stop f ls (LabelOf keeps target below after which ∷ labels) vs frames =
    Some (FrameOf f ls labels (vs ++ below) after ∷ frames)
exited Stop f ls [] vs frames = Some (returned vs frames)
exited rest f ls labels vs frames = None

-- the host's next call, of a function without parameters
abbrev pub begun : Option Callee → ℕ → Option Thread
begun (Some (Own signature declared body)) f = Some (entered f signature declared body [] ∷ [])
begun _ f = None

-- what leads on without a counted step: the host's next call begins, or an end is left
abbrev pub exited_by : Program → Thread → List ℕ → Store → Option Configuration
exited_by program [] [] store = None
exited_by program [] (f ∷ later) store =
    option_map (λ (thread : Thread). record {
      store = store;
      thread = thread;
      later = later;
    }) (begun (slice_get program.functions f) f)
exited_by program (FrameOf f ls labels vs rest ∷ frames) later store =
    option_map (λ (thread : Thread). record {
      store = store;
      thread = thread;
      later = later;
    }) (exited rest f ls labels vs frames)

-- the administrative step, where one applies
abbrev pub administrative_step : Program → Configuration → Option Configuration
administrative_step program c = exited_by program c.thread c.later c.store

-- ---- steps

-- in normal form: only a counted step applies, or none
abbrev pub IsReduced : Program → Configuration → Type 0
IsReduced program c = administrative_step program c ≡ None

-- the program has come to its end
pub record IsEnded (c : Configuration) : Type 0 where
  pub returned : c.thread ≡ []
  pub nothing_later : c.later ≡ []

-- a counted step, and one that isn't
abbrev pub IsCounted : Program → Configuration → Configuration → Type 0
IsCounted program c d = counted_step program c ≡ Goes d

-- an administrative step leads from one configuration to the other
abbrev pub IsAdministrative : Program → Configuration → Configuration → Type 0
IsAdministrative program c d = administrative_step program c ≡ Some d

-- administrative steps lead from one configuration to the reduced other
pub data ReducesTo (program : Program) : Configuration → Configuration → Type 0 where
  here : {c : Configuration} → IsReduced program c → ReducesTo program c c
  on : {c d e : Configuration} → IsAdministrative program c d → ReducesTo program d e
      → ReducesTo program c e

-- one counted step, and then those that reduce what it gives
pub record Advances (program : Program) (c d : Configuration) : Type 0 where
  pub between : Configuration
  pub counted : IsCounted program c between
  pub reduces : ReducesTo program between d

-- the same for a call of the host, which is one counted step with its answer: the bytes that memory
-- has then, and what the call gives
abbrev pub answered : Configuration → List ℕ → List Value → Thread → Configuration
answered c memory results waits = record c {
  store = record c.store { memory = memory };
  thread = returned results waits;
}

-- a trap, and an end by the host, leave the store and no thread
abbrev pub stopped : Configuration → Configuration
stopped c = record c { thread = []; later = [] }

-- so many counted steps
pub data Steps (program : Program) : ℕ → Configuration → Configuration → Type 0 where
  none : {c : Configuration} → Steps program 0 c c
  more : {n : ℕ} {c d e : Configuration} → Advances program c d → Steps program n d e
      → Steps program (suc n) c e
