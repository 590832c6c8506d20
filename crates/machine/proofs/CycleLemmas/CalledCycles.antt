-- The cycles that a call leads to.
use Rattle.std.proofs.Common.{◌≡◌, ◌⊎◌, ⊎_elim, ℕ, ◌+◌, ◌-◌, ◌<◌, ◌≤◌, List, ◌∷◌, ◌++◌, length}
use Rattle.std.proofs.Common.{Some, None, refl, sym, ap, ◌∙◌, subst, arith, length-append}
use Rattle.std.specs.Prelude.{slice_get, map, replicate}
use Rattle.wasm_syntax.specs.declared.types.FunctionType.{FunctionType}
use Rattle.wasm_syntax.specs.declared.value.Trap.{Trap}
use Rattle.wasm_syntax.specs.declared.value.Trap.TheVariants as trap
use Rattle.wasm_syntax.specs.declared.instruction.Instruction.TheVariants as instr
use Rattle.wasi_abi.specs.declared.call.Call.{Call}
use Rattle.wasi_abi.specs.rules.Calls.{parameters_of}
use Rattle.wasm_rules.specs.Types.{number_in}
use Rattle.wasm_rules.specs.Validity.{module_context}
use Rattle.wasm_rules.specs.Configuration.{Callee, Program, Configuration, Traps}
use Rattle.wasm_rules.specs.Steps.{counted_step, IsEnded}
use Rattle.machine_slots.specs.declared.limits.TheConstants.{FRAMES, HELD_VALUES}
use Rattle.machine_frame.specs.Frame.ByRegisterCode.{HasPosition}
use Rattle.machine_frame.specs.rules.Walks.{here, counted}
use Rattle.machine_frame.specs.rules.Threads.{PartsStandFor}
use Rattle.machine_frame.specs.laws.Threads.{CallLeads}
use Rattle.machine_frame.proofs.Threads.Calling.{calls_lead}
use Rattle.machine.specs.Routines.Routines.{opcodes_in, tables_in}
use Rattle.machine.specs.declared.routines.routine.Routine.{Routine}
use Rattle.machine.specs.declared.execution.code.Executable.{Executable}
use Rattle.machine.specs.declared.execution.state.State.{State}
use Rattle.machine.specs.declared.execution.pause.Pause.TheVariants as pause
use Rattle.machine.specs.declared.execution.cycle.Cycle.{Cycle}
use Rattle.machine.specs.declared.execution.cycle.Cycle.TheVariants as cycle
use Rattle.machine.specs.Execution.Codes.{StateStandsFor, parts_of_state}
use Rattle.machine.specs.Execution.Pauses.{ComesToState, PausesFor}
use Rattle.machine.specs.Execution.Cycles.{RunsCycleFor, StateIsAtOpcode, AsksWith, EntersOrTraps}
use Rattle.machine.specs.Execution.Cycles.{HasFrameRoom, HasNoRoom, Entered, IsCleared}
use Rattle.machine.proofs.CycleLemmas.Codes.{HasOwn, has_own}
use Rattle.machine.proofs.CycleLemmas.Advancing.{ready, cleared_stands}
use Rattle.machine.proofs.CycleLemmas.Calling.{ImportAsks, import_asks, Own_enters, own_enters}

module _ {code : Executable} {s : State} {functions : List FunctionType} {program : Program}
    {d : Configuration} (stands : StateStandsFor code s functions program d) where
  -- nothing was done yet
  pub stays : (fuel : ℕ) → ComesToState code s functions program d fuel fuel
  stays fuel = record {
    configuration = d;
    steps = 0;
    used = omega arith;
    walks = here;
    stands = stands;
  }

  -- the program has ended
  pub returned : (fuel : ℕ) → IsEnded d
      → PausesFor code s functions program d fuel fuel pause.Returned
  unfolding stays
  returned fuel ended = (stays fuel, ended)

  -- a trap, one of the rules that the fuel is for
  pub trapped : (why : Trap) (fuel : ℕ) {cycled : Cycle} (new : State) → 0 < fuel
      → counted_step program d ≡ Traps why
      → cycled ≡ cycle.Waits (record { why = pause.Trapped why; fuel_left = fuel - 1 })
      → IsCleared s new → RunsCycleFor code new functions program d fuel cycled
  trapped why fuel new some traps is cleared =
      let k = stands.stands in
      rw is (record {
        configuration = d;
        steps = 0;
        used = omega (arith, some);
        walks = here;
        traps = traps;
        stands = cleared_stands stands.is_code k.typed k.shown k.same_table cleared;
      })

  -- what the running frame's call leads to
  direct : {f : ℕ} → StateIsAtOpcode code s (instr.Call f) → (callee : Callee) ×
      (slice_get program.functions f ≡ Some callee) × CallLeads
      (module_context code.«module» functions) program code.table.items (parts_of_state s) d s.slots
      f callee
  direct {f} at =
      calls_lead (module_context code.«module» functions) program (opcodes_in code.«module»)
      (tables_in code.«module» code.routines.items) code.table.items (parts_of_state s) d at.0 at.1
      f (ready stands) stands.stands (record { frames_are = at.2; here = at.3 })

  pub direct_import : {f : ℕ} {call : Call} → StateIsAtOpcode code s (instr.Call f)
      → slice_get code.calls.items f ≡ Some call
      → ImportAsks code functions program stands.is_code code.table.items
      (parts_of_state s) d s.slots f call
  direct_import {f} at there =
      let l = direct at in
      import_asks code functions program stands.is_code code.table.items (parts_of_state s) d
      s.slots f l.0 l.1 l.2 there

  pub direct_own : {f : ℕ} → StateIsAtOpcode code s (instr.Call f)
      → slice_get code.calls.items f ≡ None
      → Own_enters code functions program stands.is_code code.table.items
      (parts_of_state s) d s.slots f
  direct_own {f} at there =
      let l = direct at in
      own_enters code functions program stands.is_code code.table.items
      (parts_of_state s) d s.slots f l.0 l.1 l.2 there

  module _ {f : ℕ} {words : List ℕ} where
    -- the arguments are there
    pub arguments_there : {call : Call} (above : ℕ) (over : List ℕ)
        → ImportAsks code functions program stands.is_code code.table.items
        (parts_of_state s) d words f call → s.slots ≡ over ++ words → above ≡ length over
        → length (parameters_of call) + above ≤ length s.slots
    arguments_there above over h slots count =
        let n = h.count in
        rw slots (rw h.words_are (omega (
          arith,
          count,
          n,
          length-append over (map number_in h.arguments ++ h.under),
          length-append (map number_in h.arguments) h.under,
        )))

    -- a call of the host
    pub asked : {call : Call} (above fuel : ℕ) (over : List ℕ) (cycled : Cycle) → 0 < fuel
        → slice_get code.calls.items f ≡ Some call
        → ImportAsks code functions program stands.is_code code.table.items
        (parts_of_state s) d words f call → s.slots ≡ over ++ words → above ≡ length over
        → AsksWith s.slots call above fuel cycled → RunsCycleFor code s functions
        program d fuel cycled
    unfolding stays
    asked above fuel over cycled some there h slots count asks =
        rw (asks over (map number_in h.arguments) h.under (slots
        ∙ ap (λ z. over ++ z) h.words_are) count h.count) (
          stays fuel,
          record {
            function = f;
            operands = h.arguments;
            waits = h.waits;
            asks = h.asks;
            is_call = there;
            is_imported = h.is_imported;
            typed = h.typed;
            are = refl;
          },
          some,
        )

    -- a function of the module's own
    module _ (o : Own_enters code functions program stands.is_code code.table.items
        (parts_of_state s) d words f) {routine : Routine}
        (there : slice_get code.routines.items (f - length code.calls.items) ≡ Some routine) where
      own : HasOwn code functions program stands.is_code f o.own
      own = has_own code functions program stands.is_code o.own

      pub parameters_are : routine.parameters ≡ length o.own.signature.parameters
      parameters_are = let known = own.routine_there in let same : own.routine ≡ routine = (cc) in
          subst (λ (z : Routine). z.parameters
          ≡ length o.own.signature.parameters) same own.counts.parameters

      pub locals_are : routine.locals ≡ length o.own.signature.parameters + length o.own.declared
      locals_are = let known = own.routine_there in let same : own.routine ≡ routine = (cc) in
          subst (λ (z : Routine). z.locals
          ≡ length o.own.signature.parameters + length o.own.declared) same own.counts.locals

      pub declared_are : routine.locals - routine.parameters ≡ length o.own.declared
      declared_are = let a = parameters_are in let b = locals_are in omega (arith, a, b)

      pub few_locals : routine.locals ≤ 512
      few_locals = let few = (ready stands).few_locals f o.own in
          let b = locals_are in omega (arith, few, b)

      pub enough : routine.parameters ≤ length words
      enough = rw parameters_are o.enough

      pub more_locals : routine.parameters ≤ routine.locals
      more_locals = let a = parameters_are in let b = locals_are in omega (arith, a, b)

      -- where it begins is a position of its code
      pub begins_there : HasPosition routine.code 0
      begins_there = let known = own.routine_there in let same : own.routine ≡ routine = (cc) in
          subst (λ (z : Routine). HasPosition z.code 0) same
          (record {
            opcodes = own.function.code.body;
            table = own.routine.table;
            locals = own.routine.locals;
            fits = own.code_fits;
            inside = omega arith;
          })

      pub entered : (fuel : ℕ) (old new : State) (cycled : Cycle) → 0 < fuel
          → old ≡ record s { slots = words }
          → EntersOrTraps f routine.parameters (routine.locals
          - routine.parameters) old fuel cycled new
          → RunsCycleFor code new functions program d fuel cycled
      entered fuel old new cycled some e done = ⊎_elim
          (λ (h : (cycled ≡ cycle.On (fuel - 1))
          × HasFrameRoom (routine.locals - routine.parameters) old
          × Entered f routine.parameters (routine.locals - routine.parameters) old new).
          let is : new ≡ record s {
            frames = record {
              function = f;
              position = 0;
              base = length words - length o.own.signature.parameters;
            } ∷ s.frames;
            slots = replicate (length o.own.declared) 0 ++ words;
          } =
          subst (λ (p : ℕ). new ≡ record s {
            frames = record {
              function = f;
              position = 0;
              base = length words - p;
            } ∷ s.frames;
            slots = replicate (length o.own.declared) 0 ++ words;
          }) parameters_are
          (subst (λ (q : ℕ). new ≡ record s {
            frames = record {
              function = f;
              position = 0;
              base = length words - routine.parameters;
            } ∷ s.frames;
            slots = replicate q 0 ++ words;
          }) declared_are
          (subst (λ (z : State). new ≡ record z {
            frames = record {
              function = f;
              position = 0;
              base = length z.slots - routine.parameters;
            } ∷ z.frames;
            slots = replicate (routine.locals - routine.parameters) 0 ++ z.slots;
          }) e h.2)) in
          let frames : length s.frames < FRAMES =
          subst (λ (z : State). length z.frames < FRAMES) e h.1.0 in
          let room : length o.own.declared + length words ≤ HELD_VALUES =
          subst (λ (q : ℕ). q + length words ≤ HELD_VALUES) declared_are
          (subst (λ (z : State). routine.locals - routine.parameters + length z.slots
          ≤ HELD_VALUES) e h.1.1) in
          let step = o.enters frames room in
          rw h.0 (record {
            configuration = step.0;
            steps = 1;
            used = omega (arith, some);
            walks = counted here step.1;
            stands = record {
              is_code = stands.is_code;
              stands = subst (λ (z : State).
                  PartsStandFor (module_context code.«module» functions) program code.table.items
                  (parts_of_state z) step.0) (sym is) step.2;
            };
          }))
          (λ (h : (cycled ≡ cycle.Waits (record {
            why = pause.Trapped trap.StackExhausted;
            fuel_left = fuel - 1;
          })) × HasNoRoom (routine.locals - routine.parameters) old
          × IsCleared old new).
          let cleared : IsCleared (record s { slots = words }) new =
          subst (λ (z : State). IsCleared z new) e h.2 in
          let full : (FRAMES ≤ length s.frames)
          ⊎ (HELD_VALUES < length o.own.declared + length words) =
          subst (λ (q : ℕ). (FRAMES ≤ length s.frames)
          ⊎ (HELD_VALUES < q + length words)) declared_are
          (subst (λ (z : State). (FRAMES ≤ length z.frames)
          ⊎ (HELD_VALUES < routine.locals - routine.parameters + length z.slots)) e h.1) in
          trapped trap.StackExhausted fuel new some (o.exhausts full) h.0 (record {
            frames = cleared.frames;
            slots = cleared.slots;
            later = cleared.later;
            globals = cleared.globals;
            memory = cleared.memory;
          }))
          done
