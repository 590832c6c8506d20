-- What the counted step asks the host for, read at the opcode of the running frame.
use Rattle.std.proofs.Common.{◌≡◌, inl, inr, ℕ, ◌+◌, ◌<◌, ◌≤◌, Bool, true, false, List, [], ◌∷◌}
use Rattle.std.proofs.Common.{◌++◌, length, get_or, Option, Some, ap, ◌∙◌, subst, refl, arith}
use Rattle.std.specs.Prelude.{slice_get, map, ltb, nat_le}
use Rattle.std.proofs.lemmas.Bool.Decides.{nat_tests}
use Rattle.wasm_syntax.specs.declared.types.FunctionType.{FunctionType}
use Rattle.wasm_syntax.specs.declared.value.Trap.{Trap}
use Rattle.wasm_syntax.specs.declared.instruction.Instruction.{Instruction}
use Rattle.wasm_syntax.specs.declared.instruction.Instruction.TheVariants as instr
use Rattle.wasi_abi.specs.declared.call.Call.{Call}
use Rattle.wasm_rules.specs.Types.{number_in}
use Rattle.wasm_rules.specs.Configuration.{Program, Configuration, Traps, Goes}
use Rattle.wasm_rules.specs.Steps.{counted_step}
use Rattle.machine_slots.specs.declared.limits.TheConstants.{FRAMES, HELD_VALUES}
use Rattle.machine_frame.specs.declared.rules.frame.StackFrame.{StackFrame}
use Rattle.machine_frame.specs.rules.Threads.{MachineParts}
use Rattle.machine.specs.Routines.Routines.{opcodes_in}
use Rattle.machine.specs.declared.execution.code.Executable.{Executable}
use Rattle.machine.specs.declared.execution.state.State.{State}
use Rattle.machine.specs.declared.execution.pause.HostCall.{HostCall}
use Rattle.machine.specs.Execution.Codes.{IsExecutable, StateStandsFor, HasOwnFunction}
use Rattle.machine.specs.Execution.Codes.{parts_of_state}
use Rattle.machine.specs.Execution.Cycles.{StateIsAtOpcode}
use Rattle.machine.specs.Execution.Waiting.{IsCallBelow, CodeTellsCall}
use Rattle.machine.specs.rules.Runs.{AsksNothing}
use Rattle.machine.proofs.CycleLemmas.Codes.{read_at, none_at}
use Rattle.machine.proofs.CycleLemmas.Calling.{ImportAsks, Own_enters}
use Rattle.machine.proofs.CycleLemmas.Advancing.{own_function}
use Rattle.machine.proofs.CycleLemmas.Asking.{IsCall}
use Rattle.machine.proofs.CycleLemmas.AtCalls.{running, call_here, not_other}
use Rattle.wasm_validate.proofs.BodyLemmas.LevelViews.{at_top as first_of}

-- ---- nothing is asked for

-- by a counted step that traps
pub none_where_trapped : (program : Program) (d : Configuration) (why : Trap)
    → counted_step program d ≡ Traps why → AsksNothing program d
none_where_trapped program d why traps = λ f arguments waits asks. absurd (cc)

-- by a call of the module's own function
pub none_where_own : {code : Executable} {functions : List FunctionType} {program : Program}
    {is : IsExecutable code functions program} {table : List (Option ℕ)} {held : MachineParts}
    {d : Configuration} {words : List ℕ} {f : ℕ}
    → Own_enters code functions program is table held d words f → AsksNothing program d
none_where_own {program} {held} {d} {words} o =
    by_room (ltb (length held.frames) FRAMES)
    (nat_le (length o.own.declared + length words) HELD_VALUES) refl refl
  where
    by_room : (a b : Bool) → ltb (length held.frames) FRAMES ≡ a
        → nat_le (length o.own.declared + length words) HELD_VALUES ≡ b → AsksNothing program d
    by_room true true fewer within = λ g arguments waits asks.
        let frames : length held.frames < FRAMES = grind (arith, nat_tests) in
        let room : length o.own.declared + length words ≤ HELD_VALUES = grind (arith, nat_tests) in
        let step = o.enters frames room in
        let goes : counted_step program d ≡ Goes step.0 = step.1 in
        absurd (cc)
    by_room true false fewer within = λ g arguments waits asks.
        let full : HELD_VALUES < length o.own.declared + length words = grind (arith, nat_tests) in
        let traps = o.exhausts (inr full) in
        absurd (cc)
    by_room false b fewer within = λ g arguments waits asks.
        let full : FRAMES ≤ length held.frames = grind (arith, nat_tests) in
        let traps = o.exhausts (inl full) in
        absurd (cc)

module _ {code : Executable} {s : State} {functions : List FunctionType} {program : Program}
    {d : Configuration} (stands : StateStandsFor code s functions program d) where
  -- without frames
  pub none_without_frames : s.frames ≡ [] → AsksNothing program d
  none_without_frames e = λ f arguments waits asks.
      let r = running code s functions program d f arguments waits
      (record { stands = stands; asks = asks }) in
      let is : s.frames ≡ r.0 ∷ r.1 = r.2 in
      absurd (cc)

  -- ---- what a call of the host tells

  pub told_asked : {f : ℕ} {words : List ℕ} (over : List ℕ) {call : Call} (above : ℕ)
      (told : HostCall)
      → slice_get code.calls.items f ≡ Some call
      → ImportAsks code functions program stands.is_code code.table.items (parts_of_state s) d words
      f call → s.slots ≡ over ++ words → above ≡ length over → IsCallBelow s.slots call above told
      → CodeTellsCall code program d (Some told)
  told_asked {f} over above told there h slots count below =
      let same = below over (map number_in h.arguments) h.under
      (slots ∙ ap (λ z. over ++ z) h.words_are) count h.count in
      rw same (record {
        function = f;
        operands = h.arguments;
        waits = h.waits;
        asks = h.asks;
        is_call = there;
        is_imported = h.is_imported;
        typed = h.typed;
        are = refl;
      })

  -- ---- the opcode of the running frame

  module _ {frame : StackFrame} (first : slice_get s.frames 0 ≡ Some frame) where
    abbrev others : List StackFrame
    others = (first_of s.frames frame first).0

    abbrev frames_are : s.frames ≡ frame ∷ others
    frames_are = (first_of s.frames frame first).1

    pub own_running : HasOwnFunction code frame.function
    own_running = own_function stands frame others frames_are

    -- where no call is
    none_elsewhere : ((i : Instruction)
        → slice_get (opcodes_in code.«module» frame.function) frame.position ≡ Some i → IsCall i
        → ⊥) → AsksNothing program d
    none_elsewhere other = λ f arguments waits asks.
        let call = call_here code s functions program d f arguments waits
        (record { stands = stands; asks = asks }) frame others frames_are in
        other call.0 call.1 call.2

    module _ {opcodes : List Instruction} (are : opcodes ≡ opcodes_in code.«module» frame.function)
      where
        -- after the last opcode
        pub none_behind : length opcodes ≤ frame.position → AsksNothing program d
        none_behind past = none_elsewhere (λ i at call.
            let none = none_at frame.position are past in
            absurd (cc))

        module _ {i : Instruction} (within : frame.position < length opcodes)
            (read : i ≡ get_or opcodes frame.position i) where
          abbrev here : slice_get (opcodes_in code.«module» frame.function) frame.position ≡ Some i
          here =
              read_at frame.position are within read

          pub at_opcode : {j : Instruction} → i ≡ j → StateIsAtOpcode code s j
          at_opcode is = (frame, others, frames_are, here ∙ ap Some is)

          -- at another opcode
          pub none_at_other : ((g : ℕ) → i ≡ instr.Call g → ⊥)
              → ((t : ℕ) → i ≡ instr.CallIndirect t → ⊥) → AsksNothing program d
          none_at_other a b = none_elsewhere (λ j at call.
              let there = here in
              let same : j ≡ i = cc in
              not_other i (subst IsCall same call) a b)
