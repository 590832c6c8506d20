-- Every process that an accepted module reaches is well typed.
use Rattle.std.proofs.Common.{◌≡◌, ℕ, ◌^◌, ◌<◌, List, [], ◌∷◌, length, Option, Some}
use Rattle.std.proofs.Common.{None, refl, sym, ap, ◌∙◌, subst, arith}
use Rattle.std.proofs.lemmas.List.{length-map}
use Rattle.wasm_syntax.specs.declared.types.FunctionType.{FunctionType}
use Rattle.wasm_syntax.specs.declared.value.Trap.{Trap}
use Rattle.wasm_syntax.specs.declared.value.Trap.TheVariants as trap
use Rattle.wasm_syntax.specs.declared.module.Module.{Module}
use Rattle.wasm_syntax.specs.rules.Limits.{IsWithinLimits}
use Rattle.wasm_rules.specs.Acceptance.{IsAccepted}
use Rattle.wasm_rules.specs.Instantiation.{IsProgram}
use Rattle.wasm_rules.specs.Types.{number_in}
use Rattle.wasm_rules.specs.Typing.{Context}
use Rattle.wasm_rules.specs.Validity.{AreFunctionTypes, module_context}
use Rattle.wasm_rules.specs.Configuration.{Program, Thread}
use Rattle.wasm_rules.specs.Typed.{IsTypedProgram}
use Rattle.wasm_rules.proofs.Soundness.Beginning.{programs_typed}
use Rattle.machine_slots.specs.rules.Places.{ShownFrame, ShowsThread}
use Rattle.machine_frame.proofs.Threads.Fitting.{shown_fits}
use Rattle.machine.specs.rules.Offers.{offer}
use Rattle.machine.proofs.InstanceLemmas.Offered.{no_entry}
use Rattle.wasi_abi.specs.rules.Configs.{Settings}
use Rattle.file_tree.specs.rules.Files.{Files}
use Rattle.wasi_abi.specs.rules.Versions.{text_limit, widenings}
use Rattle.process_rules.specs.Processes.{Ending, Exited, Trapped, ProcessState, Guest, IsStart}
use Rattle.process_rules.specs.laws.Laws.{IsClosed, IsSmallEnding}
use Rattle.process_rules.proofs.Counted.{reached_are_counted, reached_are_closed}
use Rattle.process_rules.proofs.ReachedStates.{reached_are_configured, nodes_are_few}
use Rattle.process_rules.proofs.ReachedStates.{reached_have_wasi_states, reached_input_is_short}
use Rattle.process_rules.proofs.ReachedTyped.{reached_are_typed}
use Rattle.process.proofs.Lines.{all_shown}
use Rattle.process.proofs.Named.{offers_calls}
use Rattle.state_image.specs.rules.ProcessImage.{Saved, SavedShowsProcess, trap_number, ending_code}
use Rattle.state_image.specs.rules.Saving.{saved_of}
use Rattle.state_image.specs.rules.WellTyped.{IsOutermost, IsAlive, IsWithinBounds}
use Rattle.state_image.specs.laws.Laws.{ReachedIsWellTyped, SavedIsWellTyped}
use Rattle.state_image.proofs.Outermost.{entry_points, reached_is_called, outermost_shown}
use Rattle.state_image.proofs.ShownBounds.{places_within, slots_few, memory_few, globals_few}
use Rattle.state_image.proofs.Shown.{saves_shown}

-- ---- ends

pub trap_small : (why : Trap) → trap_number why < 2 ^ 32
trap_small trap.Unreachable = omega arith
trap_small _ = omega arith

pub code_small : (o : Option Ending) → IsSmallEnding o → ending_code o < 2 ^ 32
code_small None h = omega arith
code_small (Some (Exited code)) h = h
code_small (Some (Trapped why)) h = trap_small why

-- places are there exactly where frames are
pub no_places : (c : Context) (program : Program) (places : List ShownFrame) (thread : Thread)
    → ShowsThread c program places thread → thread ≡ [] → places ≡ []
no_places c program [] thread h e = refl
no_places c program (place ∷ places) [] h e = absurd h
no_places c program (place ∷ places) (frame ∷ frames) h e = absurd (cc)

pub no_frames : (c : Context) (program : Program) (places : List ShownFrame) (thread : Thread)
    → ShowsThread c program places thread → places ≡ [] → thread ≡ []
no_frames c program places [] h e = refl
no_frames c program [] (frame ∷ frames) h e = absurd h
no_frames c program (place ∷ places) (frame ∷ frames) h e = absurd (cc)

module _ (c : Context) (program : Program) (table : List (Option ℕ)) (s : Saved)
    (p : ProcessState) (shown : SavedShowsProcess c program table s p) where
  -- without a frame nothing is to come
  over : s.machine.frames ≡ [] → s.machine.later ≡ []
  over = (shown_fits c program table s.machine p.configuration shown.machine).over

  alive : (o : Option Ending) → IsClosed o p → IsAlive o s
  alive None running =
      λ gone. running (record {
        returned = no_frames c program s.machine.frames p.configuration.thread
            shown.machine.frames gone;
        nothing_later = sym shown.machine.later ∙ over gone;
      })
  alive (Some why) ended = (
    no_places c program s.machine.frames p.configuration.thread shown.machine.frames
        ended.0.returned,
    shown.machine.later ∙ ended.0.nothing_later,
    shown.first ∙ ended.1,
    shown.second ∙ ended.2,
  )

-- ---- bounds

within_bounds : (bytes : List ℕ) (m : Module) (config : Settings) (functions : List FunctionType)
    (program : Program) (table : List (Option ℕ)) (s : Saved) (p : ProcessState)
    → IsAccepted offer config.pages bytes m → IsTypedProgram (module_context m functions) program
    → AreFunctionTypes m functions → (guest : Guest) (start : ProcessState)
    → (begins : IsStart m config guest start) → program ≡ guest.program
    → SavedShowsProcess (module_context m functions) program table s p → IsSmallEnding p.ended
    → IsWithinBounds s
within_bounds bytes m config functions program table s p accepted typed types guest start begins
    same shown ends =
    let c : Context = module_context m functions in
    let is = subst (λ (z : Program). IsProgram m config.pages z) (sym same)
    begins.begins.is_program in
    let machine = shown.machine in
    let fits = shown_fits c program table s.machine p.configuration machine in
    let limits : (bytes : List ℕ) × IsWithinLimits bytes m = (bytes, accepted.limits) in
    record {
      code = subst (λ (o : Option Ending). ending_code o < 2 ^ 32) (sym shown.ended)
          (code_small p.ended ends);
      globals = globals_few m p.configuration.store.globals s.machine.globals
          accepted.linkable.imports accepted.limits.globals machine.typed.store.globals
          (ap length machine.globals ∙ length-map p.configuration.store.globals number_in);
      places = places_within config.pages m functions program limits accepted.valid types is
          s.machine.frames p.configuration.thread machine.frames;
      slots = slots_few config.pages m functions program limits accepted.valid types is
          s.machine.frames p.configuration.thread machine.frames fits.few_values;
      memory = memory_few program s.machine.memory fits.memory typed.pages;
    }

-- ---- what is reached

pub reached_is_well_typed : ReachedIsWellTyped
reached_is_well_typed bytes m config functions kept n p table s accepted few texts reached small
    lines types shown =
    let c : Context = module_context m functions in
    let program : Program = reached.guest.program in
    let b = reached.begins in
    let counted = reached_are_counted m config kept n p reached in
    let called = reached_is_called m config kept n p reached in
    let typed = reached_are_typed offer m config functions kept n p no_entry offers_calls few
    accepted.valid accepted.linkable types texts reached in
    let programs = programs_typed config.pages m functions program few accepted.valid types
    b.begins.is_program in
    let as_before = reached_are_configured m config kept n p reached in
    let nodes = nodes_are_few m config kept n p reached in
    let same_table : table ≡ b.begins.store.table =
    sym shown.machine.same_table ∙ called.same_table in
    let closed = reached_are_closed m config kept n p reached in
    let input = reached_input_is_short m config kept n p reached in
    record {
      valid = accepted.valid;
      guest = reached.guest;
      start = reached.start;
      begins = b;
      functions = functions;
      function_types = types;
      process = p;
      shown = subst (λ (t : List (Option ℕ)). SavedShowsProcess c program t s p) same_table shown;
      host = (reached_have_wasi_states m config kept n p accepted.valid texts reached).host;
      configured = search (as_before);
      outermost =
          subst (λ (later : List ℕ). IsOutermost (entry_points b) later s.machine.frames)
          (sym shown.machine.later)
          (outermost_shown (entry_points b) c program p.configuration.later s.machine.frames
          p.configuration.thread shown.machine.frames called.thread);
      alive = subst (λ (o : Option Ending). IsAlive o s) (sym shown.ended)
          (alive c program table s p shown p.ended closed);
      steps = omega (arith, shown.steps, counted.steps, small);
      lines = lines;
      answers = omega (
        arith,
        shown.steps,
        shown.answers,
        counted.few_answers,
        ap widenings shown.version,
      );
      requests = omega (arith, shown.answers, shown.requests, counted.few_requests);
      bounds = within_bounds bytes m config functions program table s p accepted programs types
          reached.guest reached.start b refl shown typed.ended;
      unread = omega (arith, ap length shown.unread, input, ap text_limit shown.version);
      next = omega (
        arith,
        shown.steps,
        counted.steps,
        nodes,
        ap (λ (fs : Files). fs.next) shown.files,
      );
    }

-- ---- what the code holds

pub saved_is_well_typed : SavedIsWellTyped
saved_is_well_typed bytes m config kept n v p accepted few texts reached same is shows =
    let saved = saves_shown v reached.guest p shows in
    let functions : List FunctionType = saved.0 in
    let types : AreFunctionTypes m functions =
    subst (λ (z : Module). AreFunctionTypes z functions) same saved.1 in
    let shown : SavedShowsProcess (module_context m functions) reached.guest.program
    v.machine.table (saved_of v) p =
    subst (λ (z : Module). SavedShowsProcess (module_context z functions) reached.guest.program
    v.machine.table (saved_of v) p) same saved.2 in
    let counted = reached_are_counted m config kept n p reached in
    let all = all_shown v.host p.host shows.host in
    reached_is_well_typed bytes m config functions kept n p v.machine.table (saved_of v) accepted
    few texts reached (omega (arith, shows.steps, counted.steps, is.few_steps))
    (omega (arith, all, is.few_lines)) types shown
