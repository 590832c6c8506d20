-- A process that was read from an image, and which processes it shows.
use Rattle.std.proofs.Common.{◌≡◌, ◌≢◌, ℕ, ◌+◌, Bool, true, false, List, [], ◌∷◌, ◌++◌, length}
use Rattle.std.proofs.Common.{length-append, append-nil, Option, Some, None, refl, sym, ap, ◌∙◌}
use Rattle.std.proofs.Common.{subst, inl, inr, arith}
use Rattle.std.specs.Prelude.{◌↔◌, IsTrue, codes, replicate}
use Rattle.std.proofs.lemmas.Bool.{both_ways}
use Rattle.std.proofs.lemmas.List.{length-replicate}
use Rattle.wasm_syntax.specs.declared.types.FunctionType.{FunctionType}
use Rattle.wasm_syntax.specs.declared.module.Module.{Module}
use Rattle.wasm_syntax.specs.declared.module.ExportItem.TheVariants as export
use Rattle.wasm_rules.specs.Validity.{AreFunctionTypes, module_context, IsValid}
use Rattle.wasm_rules.specs.Configuration.{Program, Store}
use Rattle.wasm_rules.specs.Instantiation.{IsProgram, Begins}
use Rattle.wasm_rules.specs.Linking.{HasEntry}
use Rattle.wasm_rules.specs.Steps.{IsEnded}
use Rattle.machine_slots.specs.rules.Places.{Shows}
use Rattle.machine.specs.rules.Runs.{HasBegun}
use Rattle.machine.specs.rules.Values.{MachineValue, ShowsIn, IsProgramIn, HoldsMemory}
use Rattle.machine.specs.rules.Values.{IsSameMachine}
use Rattle.machine.proofs.OneProgram.{one_program}
use Rattle.wasi_abi.specs.rules.Configs.{Settings}
use Rattle.wasi_calls_rules.specs.WasiStates.{Line, WasiState, IsWasiState}
use Rattle.wasi_calls_rules.specs.declared.output_stream.OutputStream.TheVariants.{Stdout}
use Rattle.wasi_calls.specs.rules.Held.{ShowsWasiState, behind_lines}
use Rattle.process_rules.specs.Processes.{Ending, Exited, Trapped, ProcessState, Guest, AreCalls}
use Rattle.process_rules.specs.Processes.{host_of, closed, IsStart, HasLineNumbers}
use Rattle.process_rules.proofs.MemoryKept.{reduced_store}
use Rattle.process_rules.proofs.OneStart.{item_number, entry_once}
use Rattle.process.specs.rules.Values.{ProcessValue, ShowsProcess, IsProcess, waiting_in}
use Rattle.process.proofs.Lines.{all_shown, few_shown}
use Rattle.process.proofs.Named.{some_calls}
use Rattle.state_image.specs.rules.ProcessImage.{Saved, SavedShowsProcess, phase_of, process_image}
use Rattle.state_image.specs.rules.Parts.{read_phase}
use Rattle.state_image.specs.rules.Restored.{SavedShowsIn, IsRestored}
use Rattle.state_image.specs.rules.Saving.{saved_of}
use Rattle.state_image.specs.rules.WellTyped.{EntryPoints, IsCalled, IsOutermost, IsAlive}
use Rattle.state_image.specs.rules.WellTyped.{IsConfigured, IsWithinBounds, IsWellTyped}
use Rattle.state_image.specs.restoring.Machines.{AreToCome}
use Rattle.state_image.specs.restoring.Processes.{MayCome, IsReadProcess, MayBeAccepted}
use Rattle.state_image.proofs.Accepted.{memory_within}
use Rattle.state_image.proofs.Behind.{told_behind}
use Rattle.state_image.proofs.WasiStateWithin.{places_within}
use Rattle.state_image.proofs.ReachedWellTyped.{no_places}
use Rattle.state_image.proofs.Whole.{IsWithin, is_within, called, whole_machine, whole_process}
use Rattle.state_image.proofs.RestoreLemmas.WasiStateAgain.{host_with}

-- ---- hosts

-- what an image and a configuration tell of a host
record SameWasiStates (g h : WasiState) : Type 0 where
  pub files : g.files ≡ h.files
  pub descriptors : g.descriptors ≡ h.descriptors
  pub unread : g.unread ≡ h.unread
  pub input_ended : g.input_ended ≡ h.input_ended
  pub last_monotonic : g.last_monotonic ≡ h.last_monotonic
  pub first : g.first ≡ h.first
  pub second : g.second ≡ h.second
  pub arguments : g.arguments ≡ h.arguments
  pub environment : g.environment ≡ h.environment
  pub room : g.room ≡ h.room
  pub version : g.version ≡ h.version

host_behind : (g h : WasiState) → SameWasiStates g h → g.lines ++ h.lines ≡ g.lines
    → g ≡ behind_lines g.lines h
unfolding host_with
host_behind g h s lines =
    let files = s.files in let descriptors = s.descriptors in let unread = s.unread in
    let input = s.input_ended in let time = s.last_monotonic in let first = s.first in
    let second = s.second in let arguments = s.arguments in let environment = s.environment in
    let room = s.room in let version = s.version in
    let whole : host_with g.files g.descriptors g.unread g.input_ended g.last_monotonic g.first
    g.second g.lines g.arguments g.environment g.room g.version
    ≡ host_with h.files h.descriptors h.unread h.input_ended h.last_monotonic h.first h.second
    (g.lines ++ h.lines) h.arguments h.environment h.room h.version =
    rw (
      lines,
      files,
      descriptors,
      unread,
      input,
      time,
      first,
      second,
      arguments,
      environment,
      room,
      version,
    ) refl in
    whole

-- nothing waits after these lines
none_behind : (a b : List Line) → b ≡ [] → a ++ b ≡ a
none_behind a b e = ap (λ (xs : List Line). a ++ xs) e ∙ append-nil a

-- ---- what is to come

pub may_come : (m : Module) (o : Option Ending) (later : List ℕ)
    → AreToCome m (read_phase o later) later → MayCome m later
may_come m None [] h = inl refl
may_come m None (f ∷ later) h = inr h
may_come m (Some (Exited code)) later h = inl h
may_come m (Some (Trapped why)) later h = inl h

-- a process that runs has a frame
pub has_frame : (o : Option Ending) (s : Saved) → IsAlive o s → o ≡ None → s.machine.frames ≢ []
has_frame None s alive e = alive
has_frame (Some why) s alive e = absurd (cc)

-- ---- a linked module

module _ (linked : MachineValue) (config : Settings)
    (begun : HasBegun config.pages linked.guest linked) (valid : IsValid linked.guest) where
  abbrev m : Module
  m = linked.guest

  abbrev pub entry : ℕ
  entry = begun.linkable.entry

  one_entry : (other : ℕ) → HasEntry m other → other ≡ entry
  one_entry other has =
      item_number other entry (entry_once m.exports (codes "_start") (export.Function other)
      (export.Function entry) valid.names has.exported begun.linkable.has_entry.exported)

  own_entry : (guest : Guest) (start : ProcessState) → (b : IsStart m config guest start)
      → b.entry ≡ entry
  own_entry guest start b =
      item_number b.entry entry (entry_once m.exports (codes "_start") (export.Function b.entry)
      (export.Function entry) valid.names b.exported begun.linkable.has_entry.exported)

  -- the linked machine shows where the module begins
  pub shown_first : (guest : Guest) (start : ProcessState) → (b : IsStart m config guest start)
      → ShowsIn linked guest.program b.first
  shown_first guest start b =
      let P : ℕ → Type 0 = λ n. Begins m config.pages n guest.program b.first in
      begun.shows guest.program b.first (subst P (own_entry guest start b) b.begins)

  pub table_is : (guest : Guest) (start : ProcessState) → (b : IsStart m config guest start)
      → b.begins.store.table ≡ linked.table
  table_is guest start b =
      sym (ap (λ (s : Store). s.table) (reduced_store guest.program _ b.first b.begins.reduces))
      ∙ (shown_first guest start b).shows.same_table

  -- ---- what a process shows

  module _ (v : ProcessValue) (same : IsSameMachine linked v.machine)
      (holds : HoldsMemory v.machine) (configured : IsConfigured config v.host.host)
      (none_waits : waiting_in v ≡ []) (guest : Guest) (p : ProcessState)
      (shown : SavedShowsIn m config (saved_of v) guest p) where
    shows_in : ShowsIn v.machine guest.program p.configuration
    shows_in =
        let first = shown_first guest shown.start shown.begins in
        let c : Module → Type 0 = λ z. Shows (module_context z shown.functions) guest.program
        v.machine.table v.machine.state p.configuration in
        let t : List (Option ℕ) → Type 0 = λ table. Shows (module_context m shown.functions)
        guest.program table v.machine.state p.configuration in
        record {
          functions = shown.functions;
          is = record {
            pages = first.is.pages;
            few = first.is.few;
            is_program = subst (λ (z : Module). IsProgram z first.is.pages guest.program)
                (sym same.guest) first.is.is_program;
            most = first.is.most ∙ sym same.most_pages;
            types = subst (λ (z : Module). AreFunctionTypes z shown.functions) (sym same.guest)
                shown.function_types;
          };
          holds = holds;
          shows = subst c (sym same.guest)
              (subst t (table_is guest shown.start shown.begins ∙ sym same.table)
              shown.shown.machine);
        }

    same_hosts : SameWasiStates p.host v.host.host
    same_hosts = record {
      files = sym shown.shown.files;
      descriptors = sym shown.shown.descriptors;
      unread = sym shown.shown.unread;
      input_ended = sym shown.shown.input_ended;
      last_monotonic = sym shown.shown.last_monotonic;
      first = sym shown.shown.first;
      second = sym shown.shown.second;
      arguments = shown.configured.arguments ∙ sym configured.arguments;
      environment = shown.configured.environment ∙ sym configured.environment;
      room = shown.configured.room ∙ sym configured.room;
      version = sym shown.shown.version;
    }

    shows_host : ShowsWasiState v.host p.host
    shows_host =
        let none : length v.host.host.lines ≡ 0 = ap (λ (ls : List Line). length ls) none_waits in
        let lines : v.host.released + length v.host.host.lines ≡ length p.host.lines =
        shown.shown.lines in
        record {
          before = p.host.lines;
          count = omega (arith, none, lines);
          is = host_behind p.host v.host.host same_hosts
              (none_behind p.host.lines v.host.host.lines none_waits);
        }

    not_ended : IsAlive v.ended (saved_of v) → p.ended ≡ None → IsEnded p.configuration → ⊥
    not_ended alive none over =
        has_frame v.ended (saved_of v) alive (shown.shown.ended ∙ none)
        (no_places (module_context m shown.functions) guest.program v.machine.state.frames
        p.configuration.thread shown.shown.machine.frames over.returned)

    pub shows_process : IsAlive v.ended (saved_of v) → ShowsProcess v guest p
    shows_process alive =
        let calls = subst (λ (z : Module). AreCalls z.imports guest.calls) (sym same.guest)
        shown.begins.calls in
        search (calls, shows_in, shows_host, shown.shown, not_ended alive)

  -- ---- a well-typed process

  of_well_typed : (s : Saved) → (w : IsWellTyped m config s)
      → SavedShowsIn m config s w.guest w.process
  of_well_typed s w = record {
    start = w.start;
    begins = w.begins;
    functions = w.functions;
    function_types = w.function_types;
    shown = w.shown;
    configured = w.configured;
  }

  -- what is to come of one
  coming_at : (s : Saved) (b : EntryPoints) → b.entry ≡ entry → (o : Option Ending)
      (later : List ℕ) → s.machine.later ≡ later → IsAlive o s
      → IsOutermost b later s.machine.frames → AreToCome m (read_phase o later) later
  coming_at s b same None [] e alive outermost = refl
  coming_at s b same None (f ∷ later) e alive outermost =
      let call = called b (f ∷ later) s.machine.frames alive outermost in
      of_call later call.0 call.1
    where
      of_call : (others : List ℕ) (g : ℕ) → IsCalled b (f ∷ others) g
          → (n : ℕ) × HasEntry m n × (f ∷ others ≡ n ∷ [])
      of_call [] g h = (entry, begun.linkable.has_entry, ap (λ n. n ∷ []) (h.0 ∙ same))
      of_call (x ∷ others) g h = absurd h
  coming_at s b same (Some (Exited code)) later e alive outermost = sym e ∙ alive.1
  coming_at s b same (Some (Trapped why)) later e alive outermost = sym e ∙ alive.1

  pub coming : (s : Saved) → IsWellTyped m config s
      → AreToCome m (read_phase s.ended s.machine.later) s.machine.later
  coming s w =
      coming_at s (record { start = m.start; entry = w.begins.entry })
      (own_entry w.guest w.start w.begins) s.ended s.machine.later refl w.alive w.outermost

  same_to_come : (o : Option Ending) (a b : List ℕ) → AreToCome m (read_phase o a) a
      → AreToCome m (read_phase o b) b → phase_of o a ≡ phase_of o b → a ≡ b
  same_to_come None [] [] h k e = refl
  same_to_come None [] (y ∷ b) h k e = absurd (omega (arith, e))
  same_to_come None (x ∷ a) [] h k e = absurd (omega (arith, e))
  same_to_come None (x ∷ a) (y ∷ b) h k e =
      h.2 ∙ ap (λ n. n ∷ []) (one_entry h.0 h.1 ∙ sym (one_entry k.0 k.1)) ∙ sym k.2
  same_to_come (Some (Exited code)) a b h k e = h ∙ sym k
  same_to_come (Some (Trapped why)) a b h k e = h ∙ sym k

  -- ---- a process that was read

  module _ (old new : List ℕ) (v : ProcessValue)
      (from : IsReadProcess linked config old new v) where
    t : Saved
    t = saved_of v

    pub is_in : IsWithin (saved_of v)
    is_in = record {
      counts = from.progress.counts;
      code = from.progress.code;
      streams = from.progress.streams;
      machine = from.machine;
      files = from.host.files;
      next = omega (arith, from.next);
      places = places_within v.host.host from.host (omega (arith, from.next));
    }

    later_here : AreToCome m (read_phase v.ended v.machine.state.later) v.machine.state.later
    later_here = subst (λ (z : Module). AreToCome z (read_phase v.ended v.machine.state.later)
        v.machine.state.later) from.same.guest from.later

    -- it is the one with this image, and nothing is left
    pub is_that_one : (s : Saved) → IsWellTyped m config s → old ≡ process_image s
        → (s ≡ saved_of v) × ([] ≡ new)
    is_that_one s w e =
        let told = told_behind s (saved_of v) new (is_within m config s w) is_in
        (sym e ∙ from.is) in
        let ended : s.ended ≡ v.ended = told.0.phase.ended in
        let own = subst (λ (o : Option Ending). AreToCome m (read_phase o s.machine.later)
        s.machine.later) ended (coming s w) in
        let phase : phase_of v.ended s.machine.later ≡ phase_of v.ended v.machine.state.later =
        ap (λ (o : Option Ending). phase_of o s.machine.later) (sym ended)
        ∙ told.0.phase.phase in
        let later : s.machine.later ≡ v.machine.state.later =
        same_to_come v.ended s.machine.later v.machine.state.later own later_here phase in (
          whole_process s (saved_of v) told.0
              (whole_machine s.machine v.machine.state told.0.machine later),
          told.1,
        )

    -- so it is one that is accepted
    is_accepted : (s : Saved) → IsWellTyped m config s → old ≡ process_image s → (n : ℕ)
        → HasEntry v.machine.guest n → MayBeAccepted v.machine.guest n (saved_of v)
    is_accepted s w e n has =
        let same : s ≡ saved_of v = (is_that_one s w e).0 in
        let x : IsWellTyped m config (saved_of v) = subst (IsWellTyped m config) same w in
        let here : HasEntry m n = subst (λ (z : Module). HasEntry z n) from.same.guest has in
        let entries : x.begins.entry ≡ n =
        own_entry x.guest x.start x.begins ∙ sym (one_entry n here) in
        let P : ℕ → Type 0 = λ k. IsOutermost (record { start = m.start; entry = k })
        v.machine.state.later v.machine.state.frames in
        let Q : Module → Type 0 = λ z. IsOutermost (record { start = z.start; entry = n })
        v.machine.state.later v.machine.state.frames in
        search (subst Q (sym from.same.guest) (subst P entries x.outermost), x.bounds)

    -- ---- it is well typed where it is accepted

    some_lines : List Line
    some_lines = replicate v.host.released (record { stream = Stdout; text = [] })

    few_some : length some_lines ≡ v.host.released
    unfolding some_lines
    few_some = length-replicate v.host.released (record { stream = Stdout; text = [] })

    a_process : ProcessState
    a_process = record {
      configuration = from.shows.configuration;
      host = behind_lines some_lines v.host.host;
      steps = v.steps;
      answers = v.answers;
      requests = v.requests;
      ended = v.ended;
    }

    shows_a_host : ShowsWasiState v.host (behind_lines some_lines v.host.host)
    shows_a_host = record { before = some_lines; count = few_some; is = refl }

    count_lines : v.host.released + length v.host.host.lines
        ≡ length (some_lines ++ v.host.host.lines)
    count_lines = omega (arith, length-append some_lines v.host.host.lines, few_some)

    a_guest : Guest
    a_guest = record {
      program = begun.begins.0;
      calls = (some_calls m.types m.imports begun.linkable.imports).0;
    }

    a_start : ProcessState
    a_start = closed (record {
      configuration = begun.begins.1;
      host = host_of config;
      steps = 0;
      answers = 0;
      requests = 0;
      ended = None;
    })

    is_start : IsStart m config a_guest a_start
    unfolding a_guest a_start
    is_start = record {
      entry = entry;
      first = begun.begins.1;
      exported = begun.linkable.has_entry.exported;
      calls = (some_calls m.types m.imports begun.linkable.imports).1;
      begins = begun.begins.2;
      is = refl;
    }

    functions : List FunctionType
    functions = from.shows.shows.functions

    types : AreFunctionTypes m functions
    unfolding functions
    types = subst (λ (z : Module). AreFunctionTypes z from.shows.shows.functions) from.same.guest
        from.shows.shows.is.types

    programs : from.shows.program ≡ a_guest.program
    programs =
        let first = shown_first a_guest a_start is_start in
        let is = from.shows.shows.is in
        let here : IsProgramIn m linked.most_pages from.shows.shows.functions from.shows.program =
        record {
          pages = is.pages;
          few = is.few;
          is_program = subst (λ (z : Module). IsProgram z is.pages from.shows.program)
              from.same.guest is.is_program;
          most = is.most ∙ from.same.most_pages;
          types = subst (λ (z : Module). AreFunctionTypes z from.shows.shows.functions)
              from.same.guest is.types;
        } in
        one_program m linked.most_pages from.shows.shows.functions first.functions
        from.shows.program a_guest.program here first.is

    machine_shown : Shows (module_context m functions) a_guest.program
        is_start.begins.store.table v.machine.state from.shows.configuration
    unfolding functions
    machine_shown =
        let fs = from.shows.shows.functions in
        let c : Module → Type 0 = λ z. Shows (module_context z fs) from.shows.program
        v.machine.table v.machine.state from.shows.configuration in
        let g : Program → Type 0 = λ z. Shows (module_context m fs) z v.machine.table
        v.machine.state from.shows.configuration in
        let t : List (Option ℕ) → Type 0 = λ table. Shows (module_context m fs) a_guest.program
        table v.machine.state from.shows.configuration in
        subst t (from.same.table ∙ sym (table_is a_guest a_start is_start))
        (subst g programs (subst c from.same.guest from.shows.shows.shows))

    process_shown : SavedShowsProcess (module_context m functions) a_guest.program
        is_start.begins.store.table (saved_of v) a_process
    unfolding a_process
    process_shown = search (machine_shown, count_lines)

    is_host : IsWasiState a_process.host
    unfolding a_process
    is_host = search (from.host)

    has_numbers : IsProcess v → HasLineNumbers a_process.host
    unfolding a_process
    has_numbers is =
        let all = all_shown v.host (behind_lines some_lines v.host.host) shows_a_host in
        omega (arith, all, is.few_lines)

    is_configured : IsConfigured config a_process.host
    unfolding a_process
    is_configured = search (from.configured)

    is_outermost : MayBeAccepted v.machine.guest entry (saved_of v)
        → IsOutermost (record { start = m.start; entry = is_start.entry })
        v.machine.state.later v.machine.state.frames
    unfolding is_start
    is_outermost may =
        subst (λ (z : Module). IsOutermost (record { start = z.start; entry = entry })
        v.machine.state.later v.machine.state.frames) from.same.guest may.outermost

    is_within_bounds : MayBeAccepted v.machine.guest entry (saved_of v)
        → IsWithinBounds (saved_of v)
    is_within_bounds may =
        search (
          from.progress,
          may,
          from.slots,
          memory_within v.machine (subst IsValid (sym from.same.guest) valid) from.shows,
        )

    well_typed : IsProcess v → MayBeAccepted v.machine.guest entry (saved_of v)
        → IsWellTyped m config (saved_of v)
    well_typed is may = record {
      valid = valid;
      guest = a_guest;
      start = a_start;
      begins = is_start;
      functions = functions;
      function_types = types;
      process = a_process;
      shown = process_shown;
      host = is_host;
      configured = is_configured;
      outermost = is_outermost may;
      alive = may.alive;
      steps = is.few_steps;
      lines = has_numbers is;
      answers = is.few_answers;
      requests = is.few_requests;
      bounds = is_within_bounds may;
      unread = may.unread;
      next = may.next;
    }

    entry_there : HasEntry v.machine.guest entry
    entry_there = subst (λ (z : Module). HasEntry z entry) (sym from.same.guest)
        begun.linkable.has_entry

    -- accepted, with nothing left
    is_restored : IsProcess v → new ≡ []
        → ((n : ℕ) → HasEntry v.machine.guest n → MayBeAccepted v.machine.guest n (saved_of v))
        → IsRestored m config old v
    is_restored is none may =
        let accepted = may entry entry_there in
        record {
          guest = from.same.guest;
          is = from.is ∙ ap (λ (xs : List ℕ). process_image (saved_of v) ++ xs) none
              ∙ append-nil (process_image (saved_of v));
          well_typed = well_typed is accepted;
          none_waits = from.none_waits;
          shows = λ guest p shown. shows_process v from.same from.shows.shows.holds
              from.configured from.none_waits guest p shown accepted.alive;
        }

    -- what tells whether it is accepted, with nothing left
    abbrev pub TellsAccepted : Bool → Type 0
    TellsAccepted told = (n : ℕ) → HasEntry v.machine.guest n
        → IsTrue told ↔ ((new ≡ []) × MayBeAccepted v.machine.guest n (saved_of v))

    pub restored_so : (told : Bool) → TellsAccepted told → told ≡ true → IsProcess v
        → IsRestored m config old v
    restored_so told tells so is =
        is_restored is ((tells entry entry_there).0 so).0 (λ n has. ((tells n has).0 so).1)

    pub refused_so : (told : Bool) → TellsAccepted told → told ≡ false → (s : Saved)
        → IsWellTyped m config s → old ≢ process_image s
    refused_so told tells so s w e =
        both_ways told so ((tells entry entry_there).1
        (sym (is_that_one s w e).1, is_accepted s w e entry entry_there))

    -- where an accepted one has this image, it is one of the rules
    pub is_one : (s : Saved) → IsWellTyped m config s → old ≡ process_image s → IsProcess v
    is_one s w e =
        let x : IsWellTyped m config (saved_of v) =
        subst (IsWellTyped m config) (is_that_one s w e).0 w in
        let shows = shows_process v from.same from.shows.shows.holds from.configured
        from.none_waits x.guest x.process (of_well_typed (saved_of v) x) x.alive in
        record {
          guest = x.guest;
          process = x.process;
          shows = shows;
          few_steps = x.steps;
          few_answers = x.answers;
          few_requests = x.requests;
          few_lines = few_shown v.host x.process.host shows.host x.lines;
        }
