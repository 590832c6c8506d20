-- Frames that are left, and the host's next call.
use Rattle.std.proofs.Common.{◌≡◌, ⊎_elim, ℕ, suc, ◌+◌, ◌-◌, ◌<◌, ◌≤◌, ◌^◌, List, [], ◌∷◌, ◌++◌}
use Rattle.std.proofs.Common.{length, Some, refl, sym, ap, ◌∙◌, subst, arith, length-append}
use Rattle.std.proofs.Common.{length-take, length-drop, append-nil, take, drop}
use Rattle.std.specs.Prelude.{slice_get, reverse, replicate, nat_le, Bool, true, false, ◌==◌}
use Rattle.std.proofs.lemmas.List.{reverse-append, take-append-drop}
use Rattle.std.proofs.lemmas.Bool.Decides.{nat_tests}
use Rattle.wasm_syntax.specs.declared.types.FunctionType.{FunctionType}
use Rattle.wasm_syntax.specs.declared.instruction.Instruction.TheVariants as instr
use Rattle.wasm_syntax.specs.rules.Sequence.{Sequence, spelled}
use Rattle.wasm_rules.specs.Typing.{Context}
use Rattle.wasm_rules.specs.Validity.{module_context}
use Rattle.wasm_rules.specs.Shapes.{Shape, body_shape}
use Rattle.wasm_rules.specs.Configuration.{Program, FrameOf, Thread, Configuration}
use Rattle.wasm_rules.specs.Steps.{IsCounted, IsAdministrative, IsEnded}
use Rattle.machine_jumps.specs.Moves.{opcodes_of}
use Rattle.machine_slots.specs.laws.Laws.{Falls}
use Rattle.machine_frame.specs.rules.Walks.{here, administrative}
use Rattle.machine_frame.specs.declared.rules.frame.StackFrame.{StackFrame}
use Rattle.machine_frame.specs.rules.Threads.{IsOwn, PartsStandFor, AreFrames, AreWaiting}
use Rattle.machine_frame.specs.rules.Threads.{context_of}
use Rattle.machine_frame.specs.laws.Threads.{frames_behind, results_left}
use Rattle.machine_frame.proofs.Threads.Hosting.{host_calls}
use Rattle.machine_frame.proofs.Threads.Returning.{bodies_end, returns_lead}
use Rattle.machine.specs.declared.routines.routine.Routine.{Routine}
use Rattle.machine.specs.Routines.Routines.{opcodes_in, tables_in}
use Rattle.machine.specs.declared.execution.code.Executable.{Executable}
use Rattle.machine.specs.declared.execution.state.State.{State}
use Rattle.machine.specs.Execution.Codes.{StateStandsFor, parts_of_state}
use Rattle.machine.specs.Execution.Pauses.{ComesToState}
use Rattle.machine.specs.Execution.Cycles.{IsAtPosition, StateIsAtOpcode, IsBodyOver, CanLeave}
use Rattle.machine.specs.Execution.Cycles.{HasExited}
use Rattle.machine.proofs.CycleLemmas.Codes.{has_own}
use Rattle.machine.proofs.CycleLemmas.Advancing.{ready, top_of}

pub none_left : (xs : List ℕ) → true ≡ (length xs == 0) → xs ≡ []
none_left [] e = refl
none_left (x ∷ xs) e = let zeroed : suc (length xs) ≡ 0 = grind (arith, nat_tests) in
    absurd (omega (arith, zeroed))

no_thread : (c : Context) (program : Program) (words : List ℕ) (thread : Thread)
    → AreFrames c program [] words thread → thread ≡ []
no_thread c program words [] h = refl
no_thread c program words (frame ∷ thread) h = absurd h

module _ (code : Executable) (s : State) (functions : List FunctionType) (program : Program)
    (d : Configuration) (stands : StateStandsFor code s functions program d) where
  abbrev c : Context
  c = module_context code.«module» functions

  -- ---- no frame is left

  pub has_ended : s.frames ≡ [] → s.later.items ≡ [] → IsEnded d
  has_ended none later = record {
    returned = no_thread c program s.slots d.thread
        (subst (λ z. AreFrames c program z s.slots d.thread) none stands.stands.frames);
    nothing_later = stands.stands.later ∙ ap reverse later;
  }

  turned_later : (f : ℕ) (others : List ℕ) → s.later.items ≡ others ++ (f ∷ [])
      → reverse s.later.items ≡ f ∷ reverse others
  turned_later f others e = ap reverse e ∙ reverse-append others (f ∷ [])

  pub record Calls (f : ℕ) (others : List ℕ) : Type 0 where
    pub own : IsOwn program f
    pub no_parameters : own.signature.parameters ≡ []
    pub no_words : s.slots ≡ []
    pub configuration : Configuration
    pub goes : IsAdministrative program d configuration
    pub entered : PartsStandFor c program code.table.items
        (record (parts_of_state s) {
          frames = record { function = f; position = 0; base = 0 } ∷ [];
          words = replicate (length own.declared) 0;
          later = reverse others;
        }) configuration

  pub calls : (f : ℕ) (others : List ℕ) → s.frames ≡ [] → s.later.items ≡ others ++ (f ∷ [])
      → Calls f others
  calls f others none later =
      let h = host_calls c program (opcodes_in code.«module»)
      (tables_in code.«module» code.routines.items) code.table.items (parts_of_state s) d f
      (reverse others) (ready stands) stands.stands none (turned_later f others later) in
      record {
        own = h.0;
        no_parameters = h.1;
        no_words = h.2;
        configuration = h.3;
        goes = h.4;
        entered = h.5;
      }

  pub host_comes : {f : ℕ} {others : List ℕ} (h : Calls f others) {routine : Routine}
      → slice_get code.routines.items (f - length code.calls.items) ≡ Some routine
      → routine.locals ≡ length h.own.declared
  host_comes h {routine} there =
      let own = has_own code functions program stands.is_code h.own in
      let known = own.routine_there in
      let same : own.routine ≡ routine = (cc) in
      let count : routine.locals ≡ length h.own.signature.parameters + length h.own.declared =
      subst (λ (z : Routine). z.locals
      ≡ length h.own.signature.parameters + length h.own.declared) same own.counts.locals in
      let none : length h.own.signature.parameters ≡ 0 = ap length h.no_parameters in
      omega (arith, count, none)

  pub few_declared : {f : ℕ} {others : List ℕ} (h : Calls f others) → length h.own.declared ≤ 512
  few_declared {f} h = let few = (ready stands).few_locals f h.own in
      omega (arith, few)

  pub called_next : (fuel : ℕ) {f : ℕ} {others : List ℕ} (h : Calls f others) {n : ℕ} (new : State)
      → n ≡ length h.own.declared → new.frames ≡ record {
        function = f;
        position = 0;
        base = 0;
      } ∷ s.frames → new.slots ≡ replicate n 0 ++ s.slots → new.globals ≡ s.globals
      → new.memory ≡ s.memory → new.later.items ≡ others → s.frames ≡ []
      → ComesToState code new functions program d fuel fuel
  called_next fuel {f} {others} h {n} new count frames slots globals memory later none =
      let words : new.slots ≡ replicate (length h.own.declared) 0 =
      slots ∙ ap (λ z. replicate n 0 ++ z) h.no_words ∙ append-nil (replicate n 0)
      ∙ ap (λ z. replicate z 0) count in
      let whole : parts_of_state new ≡ record (parts_of_state s) {
        frames = record {
          function = f;
          position = 0;
          base = 0;
        } ∷ [];
        words = replicate (length h.own.declared) 0;
        later = reverse others;
      } =
      ap (λ z. record {
        frames = z;
        words = new.slots;
        globals = new.globals.items;
        memory = new.memory;
        later = reverse new.later.items;
      }) (frames
      ∙ ap (λ z. record { function = f; position = 0; base = 0 } ∷ z) none)
      ∙ ap (λ z. record {
        frames = record { function = f; position = 0; base = 0 } ∷ [];
        words = z;
        globals = new.globals.items;
        memory = new.memory;
        later = reverse new.later.items;
      }) words
      ∙ ap (λ z. record {
        frames = record { function = f; position = 0; base = 0 } ∷ [];
        words = replicate (length h.own.declared) 0;
        globals = z;
        memory = new.memory;
        later = reverse new.later.items;
      }) (ap (λ v. v.items) globals)
      ∙ ap (λ z. record {
        frames = record { function = f; position = 0; base = 0 } ∷ [];
        words = replicate (length h.own.declared) 0;
        globals = s.globals.items;
        memory = z;
        later = reverse new.later.items;
      }) memory
      ∙ ap (λ z. record {
        frames = record { function = f; position = 0; base = 0 } ∷ [];
        words = replicate (length h.own.declared) 0;
        globals = s.globals.items;
        memory = s.memory;
        later = reverse z;
      }) later in
      record {
        configuration = h.configuration;
        steps = 0;
        used = omega arith;
        walks = administrative here h.goes;
        stands = record {
          is_code = stands.is_code;
          stands = subst (λ z. PartsStandFor c program code.table.items z h.configuration)
              (sym whole) h.entered;
        };
      }

-- ---- the innermost frame is left

shape_within : (c : Context) (body : Sequence) (p : ℕ) {s : Shape} → body_shape c body p ≡ Some s
    → p ≤ length (spelled body) + 1
shape_within c body p e = first (nat_le p (length (spelled body))) refl
  where
    second : (b : Bool) → (p == length (spelled body) + 1) ≡ b
        → nat_le p (length (spelled body)) ≡ false → p ≤ length (spelled body) + 1
    second true t f = let at : p ≡ length (spelled body) + 1 = grind (arith, nat_tests) in
        omega (arith, at)
    second false t f = absurd (cc)

    first : (b : Bool) → nat_le p (length (spelled body)) ≡ b → p ≤ length (spelled body) + 1
    first true t = let within : p ≤ length (spelled body) = grind (arith, nat_tests) in
        omega (arith, within)
    first false t = second (p == length (spelled body) + 1) refl t

few_results_left : (frames : List StackFrame) (n : ℕ) → results_left frames n ≤ n
few_results_left [] n = omega arith
few_results_left (frame ∷ frames) n = omega arith

pub behind_count : (frames : List StackFrame) → length (frames_behind frames) ≡ length frames
behind_count [] = refl
behind_count (frame ∷ frames) = refl

-- words on top, those between, and those below
record Parts (keeps height : ℕ) (words : List ℕ) : Type 0 where
  kept : List ℕ
  between : List ℕ
  under : List ℕ
  keeps_is : keeps ≡ length kept
  height_is : height ≡ length under
  is : words ≡ kept ++ (between ++ under)

in_parts : (keeps height : ℕ) (words : List ℕ) → keeps + height ≤ length words
    → Parts keeps height words
in_parts keeps height words room = record {
  kept = take keeps words;
  between = take (length words - keeps - height) (drop keeps words);
  under = drop (length words - keeps - height) (drop keeps words);
  keeps_is = simp length-take (omega (arith, room));
  height_is = simp length-drop (omega (arith, room));
  is = sym (take-append-drop keeps words)
      ∙ ap (λ z. take keeps words
      ++ z) (sym (take-append-drop (length words - keeps - height) (drop keeps words)));
}

module _ (code : Executable) (s : State) (functions : List FunctionType) (program : Program)
    (d : Configuration) (stands : StateStandsFor code s functions program d) where
  -- how far the next frame's call is from the end
  position_small : (frame : StackFrame) (frames : List StackFrame) (signature : FunctionType)
      (words : List ℕ) (thread : Thread)
      → AreWaiting (module_context code.«module» functions) program signature (frame
      ∷ frames) words thread → frame.position + 1 < 2 ^ 64
  position_small frame frames signature words [] h = absurd h
  position_small frame frames signature words (FrameOf f ls labels vs rest ∷ thread) h =
      let own = h.0 in
      let waits = h.2 in
      let within =
      shape_within (context_of (module_context code.«module» functions) own) own.body frame.position
      waits.reached in
      let routine = (ready stands).routines f own in
      let few : length (opcodes_of own.body) ≤ 4096 =
      subst (λ z. length z ≤ 4096) routine.spelled routine.few in
      let count : length (opcodes_of own.body) ≡ length (spelled own.body) + 1 =
      length-append (spelled own.body) (instr.End ∷ []) in
      omega (arith, within, few, count)

  pub behind_small : (frame : StackFrame) (frames : List StackFrame) → s.frames ≡ frame ∷ frames
      → (waiting : StackFrame) (others : List StackFrame) → frames ≡ waiting ∷ others
      → waiting.position + 1 < 2 ^ 64
  behind_small frame frames e waiting others is =
      let top = top_of stands frame frames e in
      position_small waiting others top.own.signature top.callers top.thread
      (subst (λ z. AreWaiting (module_context code.«module» functions) program top.own.signature z
      top.callers top.thread) is top.waiting)

  -- what leaves the frame, by its end or by a return
  pub record Leaving (frame : StackFrame) (frames : List StackFrame) (P : Configuration
      → Type 0) : Type 0 where
    pub own : IsOwn program frame.function
    pub one : length own.signature.results ≤ 1
    pub room : length own.signature.results + frame.base ≤ length s.slots
    pub goes : (words : List ℕ)
        → Falls (results_left frames (length own.signature.results)) frame.base s.slots words
        → (e : Configuration) × P e
        × PartsStandFor (module_context code.«module» functions) program code.table.items
        (record (parts_of_state s) { frames = frames_behind frames; words = words }) e

  pub leaves_by_end : (frame : StackFrame) (frames : List StackFrame) → s.frames ≡ frame ∷ frames
      → frame.position ≡ length (opcodes_in code.«module» frame.function)
      → Leaving frame frames (IsAdministrative program d)
  leaves_by_end frame frames e at =
      let h = bodies_end (module_context code.«module» functions) program (opcodes_in code.«module»)
      (tables_in code.«module» code.routines.items) code.table.items (parts_of_state s) d frame
      frames (ready stands) stands.stands e at in
      record { own = h.0; one = h.1; room = h.2; goes = h.3 }

  pub leaves_by_return : (frame : StackFrame) (frames : List StackFrame) → s.frames ≡ frame ∷ frames
      → slice_get (opcodes_in code.«module» frame.function) frame.position ≡ Some instr.Return
      → Leaving frame frames (IsCounted program d)
  leaves_by_return frame frames e at =
      let h = returns_lead (module_context code.«module» functions) program
      (opcodes_in code.«module») (tables_in code.«module» code.routines.items) code.table.items
      (parts_of_state s) d frame frames (ready stands) stands.stands
      (record { frames_are = e; here = at }) in
      record { own = h.0; one = h.1; room = h.2; goes = h.3 }

  module _ {frame : StackFrame} {frames : List StackFrame} {P : Configuration → Type 0}
      (h : Leaving frame frames P) {routine : Routine} (there : slice_get code.routines.items
      (frame.function - length code.calls.items) ≡ Some routine) where
    results_are : routine.results ≡ length h.own.signature.results
    results_are =
        let own = has_own code functions program stands.is_code h.own in
        let known = own.routine_there in
        let same : own.routine ≡ routine = (cc) in
        subst (λ (z : Routine). z.results ≡ length h.own.signature.results) same own.counts.results

    pub can_leave : s.frames ≡ frame ∷ frames → CanLeave routine.results s
    can_leave e = record {
      frame = frame;
      frames = frames;
      are = e;
      one = rw results_are h.one;
      room = rw results_are h.room;
      behind = behind_small frame frames e;
    }

    pub exited_stands : {new : State} → HasExited routine.results frame frames s new
        → (e : Configuration) × P e × StateStandsFor code new functions program e
    exited_stands {new} exited =
        let keeps : ℕ = results_left frames (length h.own.signature.results) in
        let room = h.room in
        let kept_few = few_results_left frames (length h.own.signature.results) in
        let parts = in_parts keeps frame.base s.slots (omega (arith, room, kept_few)) in
        let count : results_left frames routine.results ≡ length parts.kept =
        ap (results_left frames) results_are ∙ parts.keeps_is in
        let falls : Falls keeps frame.base s.slots new.slots = record {
          kept = parts.kept;
          between = parts.between;
          under = parts.under;
          keeps_is = parts.keeps_is;
          height_is = parts.height_is;
          before = parts.is;
          after = exited.falls parts.kept parts.between parts.under count parts.height_is parts.is;
        } in
        let g = h.goes new.slots falls in (
          g.0,
          g.1,
          record {
            is_code = stands.is_code;
            stands = subst (λ z.
                PartsStandFor (module_context code.«module» functions) program code.table.items z
                g.0)
                (sym (ap parts_of_state exited.is)) g.2;
          },
        )

  -- the innermost frame that is over
  pub over_leaves : (frame : StackFrame) (frames : List StackFrame) → s.frames ≡ frame ∷ frames
      → IsBodyOver code s → {routine : Routine}
      → slice_get code.routines.items (frame.function - length code.calls.items) ≡ Some routine
      → CanLeave routine.results s
  over_leaves frame frames e over there =
      let known = over.2 in
      let same : over.0 ≡ frame = cc in
      ⊎_elim
      (λ (at : over.0.position ≡ length (opcodes_in code.«module» over.0.function)).
      can_leave (leaves_by_end frame frames e (subst (λ (z : StackFrame). z.position ≡ length
      (opcodes_in code.«module» z.function)) same at)) there e) (λ (at : slice_get
      (opcodes_in code.«module» over.0.function) over.0.position ≡ Some instr.Return).
      can_leave (leaves_by_return frame frames e (subst (λ (z : StackFrame). slice_get
      (opcodes_in code.«module» z.function) z.position ≡ Some instr.Return) same at)) there
      e) over.3

  pub over_exited : {frame : StackFrame} {frames : List StackFrame} {routine : Routine}
      → s.frames ≡ frame ∷ frames
      → slice_get code.routines.items (frame.function - length code.calls.items) ≡ Some routine
      → {new : State} → HasExited routine.results frame frames s new
      → (IsAtPosition code s (λ p opcodes. p ≡ length opcodes) → (e : Configuration)
      × IsAdministrative program d e × StateStandsFor code new functions program e)
      × (StateIsAtOpcode code s instr.Return → (e : Configuration) × IsCounted program d e
      × StateStandsFor code new functions program e)
  over_exited {frame} {frames} e there exited = (
    (λ over.
        let known = over.2 in
        let same : over.0 ≡ frame = cc in
        exited_stands (leaves_by_end frame frames e (subst (λ (z : StackFrame). z.position ≡ length
        (opcodes_in code.«module» z.function)) same over.3)) there exited),
    (λ over.
        let known = over.2 in
        let same : over.0 ≡ frame = cc in
        exited_stands (leaves_by_return frame frames e (subst (λ (z : StackFrame). slice_get
        (opcodes_in code.«module» z.function) z.position ≡ Some instr.Return) same over.3)) there
        exited),
  )
