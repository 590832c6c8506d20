-- The parts of a process that are read from an image one after the other.
use Rattle.std.proofs.Common.{◌≡◌, ◌≢◌, ℕ, Bool, ◌<◌, ◌≤◌, ◌^◌, List, [], ◌∷◌, ◌++◌, length}
use Rattle.std.proofs.Common.{append-nil, append_assoc, Option, None, refl, sym, ap, ◌∙◌}
use Rattle.std.proofs.Common.{subst, arith}
use Rattle.std.specs.Option.{option_map}
use Rattle.wasm_syntax.specs.declared.module.Module.{Module}
use Rattle.wasm_rules.specs.Validity.{IsValid, module_context}
use Rattle.wasm_rules.specs.Typed.{IsTypedMemory}
use Rattle.machine_slots.specs.declared.slots.TheConstants.{SLOTS}
use Rattle.machine_slots.specs.rules.Places.{MachineState, Shows}
use Rattle.machine.specs.rules.Loading.{ShowsSome}
use Rattle.machine.specs.rules.Runs.{HasBegun}
use Rattle.machine.specs.rules.Values.{MachineValue, IsProgramIn}
use Rattle.machine.proofs.Inside.{has_least}
use Rattle.wasi_abi.specs.rules.Configs.{Settings}
use Rattle.file_tree.specs.rules.Files.{Files}
use Rattle.wasi_calls_rules.specs.WasiStates.{Line, Descriptor, WasiState, IsWasiState}
use Rattle.wasi_calls.specs.rules.Held.{HeldWasiState}
use Rattle.process.specs.rules.Values.{IsProcess, ending_of}
use Rattle.state_image.specs.declared.reading.progress.ReadCounts.{ReadCounts}
use Rattle.state_image.specs.declared.reading.progress.ReadEnd.{ReadEnd}
use Rattle.state_image.specs.declared.reading.progress.ReadPhase.{ReadPhase}
use Rattle.state_image.specs.declared.reading.progress.ReadPhase.TheVariants as read
use Rattle.state_image.specs.declared.restoring.progress.ProcessProgress.{ProcessProgress}
use Rattle.state_image.specs.rules.ProcessImage.{Saved, items_bytes, descriptor_bytes, open_from}
use Rattle.state_image.specs.rules.ProcessImage.{machine_bytes, files_bytes, process_image}
use Rattle.state_image.specs.rules.Parts.{read_phase, StreamTexts, texts_of}
use Rattle.state_image.specs.rules.Saving.{saved_of}
use Rattle.state_image.specs.rules.WellTyped.{IsWellTyped, slots_in}
use Rattle.state_image.specs.restoring.Machines.{AreToCome, IsReadMachine}
use Rattle.state_image.specs.restoring.SavedHosts.{host_bytes, IsSavedHost, IsRestoredWasiState}
use Rattle.state_image.specs.restoring.Processes.{IsProgressOf, FitsProgress, progress_before}
use Rattle.state_image.specs.restoring.Processes.{HasProgress, ReadsProgress, end_in}
use Rattle.state_image.specs.restoring.Processes.{process_behind, IsReadProcess}
use Rattle.state_image.proofs.Behind.{process_image_before}
use Rattle.state_image.proofs.Machines.{same_machine}
use Rattle.state_image.proofs.RestoredWhole.{shown_first, table_is, coming, is_one}
use Rattle.state_image.proofs.Whole.{is_within, from_descriptors, from_files, from_machine}
use Rattle.state_image.proofs.FieldsGiven.{counts_from, streams_from, end_from}

-- ---- phases

-- what is to come in the phase that was read is that of the process
ended_so : (m : Module) (phase : ReadPhase) (later : List ℕ) → AreToCome m phase later
    → AreToCome m (read_phase (option_map ending_of (end_in phase)) later) later
ended_so m read.Starting [] h = absurd (cc)
ended_so m read.Starting (f ∷ later) h = h
ended_so m read.Running [] h = refl
ended_so m read.Running (f ∷ later) h = absurd (cc)
ended_so m (read.Exited code) later h = h
ended_so m (read.Trapped why) later h = h

phase_again : (m : Module) (phase : ReadPhase) (later : List ℕ) → AreToCome m phase later
    → read_phase (option_map ending_of (end_in phase)) later ≡ phase
phase_again m read.Starting [] h = absurd (cc)
phase_again m read.Starting (f ∷ later) h = refl
phase_again m read.Running [] h = refl
phase_again m read.Running (f ∷ later) h = absurd (cc)
phase_again m (read.Exited code) later h = refl
phase_again m (read.Trapped why) later h = refl

-- ---- parts of a process

counts_again : (r : ReadCounts) (lines last_monotonic : ℕ) → lines ≡ r.lines
    → last_monotonic ≡ r.last_monotonic
    → counts_from r.steps r.answers r.requests lines last_monotonic ≡ r
unfolding counts_from
counts_again r lines time a b =
    let whole : counts_from r.steps r.answers r.requests lines time
    ≡ counts_from r.steps r.answers r.requests r.lines r.last_monotonic = rw (a, b) refl in
    whole

end_again : (r : ReadEnd) (phase : ReadPhase) (input_ended : Bool) → phase ≡ r.phase
    → input_ended ≡ r.input_ended → end_from phase input_ended ≡ r
unfolding end_from
end_again r phase input a b =
    let whole : end_from phase input ≡ end_from r.phase r.input_ended = rw (a, b) refl in whole

streams_again : (r : StreamTexts) (unread first second : List ℕ) → unread ≡ r.unread
    → first ≡ r.first → second ≡ r.second → streams_from unread first second ≡ r
unfolding streams_from
streams_again r unread first second a b c =
    let whole : streams_from unread first second ≡ streams_from r.unread r.first r.second =
    rw (a, b, c) refl in
    whole

-- ---- what is read of an accepted one

fits_progress : (m : Module) (config : Settings) (s : Saved) → IsWellTyped m config s
    → FitsProgress s
fits_progress m config s w =
    let is = is_within m config s w in
    record { counts = is.counts; code = is.code; streams = is.streams }

-- where the fields before the machine aren't there, no accepted one has these bytes
pub no_progress : (m : Module) (config : Settings) (old new : List ℕ)
    → ReadsProgress None old new → (s : Saved) → IsWellTyped m config s → old ≢ process_image s
no_progress m config old new lacks s w e =
    lacks s (from_machine s) (fits_progress m config s w) e

module _ (linked : MachineValue) (config : Settings)
    (begun : HasBegun config.pages linked.guest linked) (valid : IsValid linked.guest)
    (p : ProcessProgress) (old mid : List ℕ) (has : HasProgress p old mid) where
  abbrev with_machine : MachineState → MachineValue
  with_machine state = record linked { state = state }

  module _ (s : Saved) (w : IsWellTyped linked.guest config s) (e : old ≡ process_image s) where
    told : IsProgressOf p s × (mid ≡ from_machine s)
    told = has.only s (from_machine s) (fits_progress linked.guest config s w) e

    same_phase : read_phase s.ended s.machine.later ≡ p.end.phase
    same_phase = ap (λ (r : ReadEnd). r.phase) told.0.end

    machine_there : IsReadMachine linked p.end.phase mid (from_files s) (with_machine s.machine)
    machine_there = record {
      same = record { guest = refl; most_pages = refl; table = refl };
      limit = refl;
      later = subst (λ (phase : ReadPhase). AreToCome linked.guest phase s.machine.later)
          same_phase (coming linked config begun valid s w);
      within = (is_within linked.guest config s w).machine;
      is = told.1;
    }

    shows_some : ShowsSome (with_machine s.machine)
    shows_some =
        let first = shown_first linked config begun valid w.guest w.start w.begins in
        let machine = w.shown.machine in
        let is : IsProgramIn linked.guest linked.most_pages w.functions w.guest.program = record {
          pages = first.is.pages;
          few = first.is.few;
          is_program = first.is.is_program;
          most = first.is.most;
          types = w.function_types;
        } in
        record {
          program = w.guest.program;
          configuration = w.process.configuration;
          shows = record {
            functions = w.functions;
            is = is;
            holds = record {
              limit = begun.holds.limit;
              least = has_least linked.guest linked.most_pages w.functions w.guest.program is
                  s.machine.memory (subst (IsTypedMemory w.guest.program) (sym machine.memory)
                  machine.typed.store.memory);
            };
            shows = subst (λ (table : List (Option ℕ)). Shows
                (module_context linked.guest w.functions) w.guest.program table s.machine
                w.process.configuration)
                (table_is linked config begun valid w.guest w.start w.begins) w.shown.machine;
          };
        }

    pub no_machine : ((v : MachineValue) (rest : List ℕ)
        → IsReadMachine linked p.end.phase mid rest v → slots_in v.state.frames ≤ SLOTS
        → ShowsSome v → ⊥) → ⊥
    no_machine refused =
        refused (with_machine s.machine) (from_files s) machine_there w.bounds.slots shows_some

    module _ (v : MachineValue) (behind : List ℕ)
        (read : IsReadMachine linked p.end.phase mid behind v) where
      past_machine : from_files s ≡ behind
      past_machine = (same_machine s.machine v.state (from_files s) behind
          (is_within linked.guest config s w).machine read.within (sym told.1 ∙ read.is)).1

      host_is : from_files s ≡ host_bytes w.process.host
      host_is =
          ap (λ (fs : Files). files_bytes fs
          ++ items_bytes (descriptor_bytes fs) (open_from 0 s.descriptors)) w.shown.files
          ∙ ap (λ (ds : List (Option Descriptor)). files_bytes w.process.host.files
          ++ items_bytes (descriptor_bytes w.process.host.files) (open_from 0 ds))
          w.shown.descriptors

      told_host : IsSavedHost config p w.process.host
      told_host = record {
        version = sym w.shown.version ∙ told.0.version;
        configured = w.configured;
        unread = sym w.shown.unread ∙ ap (λ (r : StreamTexts). r.unread) told.0.streams;
        input_ended = sym w.shown.input_ended ∙ ap (λ (r : ReadEnd). r.input_ended) told.0.end;
        last_monotonic = sym w.shown.last_monotonic
            ∙ ap (λ (r : ReadCounts). r.last_monotonic) told.0.counts;
        first = sym w.shown.first ∙ ap (λ (r : StreamTexts). r.first) told.0.streams;
        second = sym w.shown.second ∙ ap (λ (r : StreamTexts). r.second) told.0.streams;
      }

      pub no_host : ((h : WasiState) (rest : List ℕ) → IsWasiState h → h.files.next < 2 ^ 64
          → IsSavedHost config p h
          → behind ≢ host_bytes h ++ rest) → ⊥
      no_host refused =
          let small = (is_within linked.guest config s w).next in
          refused w.process.host [] w.host
          (omega (arith, small, ap (λ (fs : Files). fs.next) w.shown.files)) told_host
          (sym past_machine ∙ host_is ∙ sym (append-nil (host_bytes w.process.host)))

  -- ---- what was read is a process

  module _ (v : MachineValue) (behind new : List ℕ) (held : HeldWasiState)
      (read : IsReadMachine linked p.end.phase mid behind v) (shows : ShowsSome v)
      (slots : slots_in v.state.frames ≤ SLOTS)
      (host : IsRestoredWasiState config p held behind new) where
    abbrev t : Saved
    t = saved_of (process_behind p v held)

    is_progress : IsProgressOf p t
    unfolding counts_from end_from streams_from
    is_progress =
        let none : length held.host.lines ≡ 0 = ap (λ (ls : List Line). length ls) host.waiting in
        let released : held.released ≡ p.counts.lines = host.released in
        record {
          version = host.told.version;
          counts = counts_again p.counts t.lines t.last_monotonic (omega (arith, none, released))
              host.told.last_monotonic;
          end = end_again p.end (read_phase t.ended t.machine.later) t.input_ended
              (phase_again v.guest p.end.phase v.state.later read.later) host.told.input_ended;
          streams = streams_again (texts_of p.streams) t.unread t.first t.second host.told.unread
              host.told.first host.told.second;
        }

    host_behind : behind ≡ files_bytes t.files ++ (from_descriptors t ++ new)
    host_behind = host.is ∙ append_assoc (files_bytes t.files) (from_descriptors t) new

    process_image_read : old ≡ process_image t ++ new
    process_image_read =
        has.is t is_progress
        ∙ ap (λ (xs : List ℕ). progress_before t xs)
        (read.is ∙ ap (λ (xs : List ℕ). machine_bytes v.state ++ xs) host_behind)
        ∙ sym (process_image_before t new)

    pub read_process : IsReadProcess linked config old new (process_behind p v held)
    read_process = record {
      valid = valid;
      same = read.same;
      shows = shows;
      slots = slots;
      later = ended_so v.guest p.end.phase v.state.later read.later;
      progress = has.fits t is_progress;
      machine = read.within;
      host = host.host;
      next = host.next;
      configured = host.told.configured;
      none_waits = host.waiting;
      is = process_image_read;
    }

    -- where it isn't, no accepted one has these bytes
    pub no_process : (IsProcess (process_behind p v held) → ⊥) → (s : Saved)
        → IsWellTyped linked.guest config s → old ≢ process_image s
    no_process refused s w e =
        refused (is_one linked config begun valid old new (process_behind p v held) read_process s w
        e)
