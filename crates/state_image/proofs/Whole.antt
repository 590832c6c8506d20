-- The image of a well-typed process is that of no other one.
use Rattle.std.proofs.Common.{◌≡◌, ◌≢◌, ℕ, ◌+◌, ◌^◌, ◌<◌, ◌≤◌, Bool, List, [], ◌∷◌, ◌++◌, length}
use Rattle.std.proofs.Common.{length-append, Option, Some, None, refl, sym, ap, subst, ◌∙◌, arith}
use Rattle.std.specs.Prelude.{codes}
use Rattle.wasm_syntax.specs.declared.module.Module.{Module}
use Rattle.wasm_syntax.specs.declared.module.ExportItem.TheVariants as export
use Rattle.wasm_rules.specs.Validity.{module_context}
use Rattle.wasi_abi.specs.declared.version.Version.{Version}
use Rattle.wasi_abi.specs.rules.Configs.{Settings}
use Rattle.file_tree.specs.rules.Files.{Files, IsFiles}
use Rattle.wasi_calls_rules.specs.WasiStates.{WasiState, Descriptor}
use Rattle.wasi_calls_rules.specs.Lines.{rest_of}
use Rattle.wasi_calls_rules.specs.declared.output_stream.OutputStream.TheVariants.{Stdout, Stderr}
use Rattle.process_rules.specs.Processes.{Ending, HasLineNumbers}
use Rattle.process_rules.proofs.OneStart.{entry_once, item_number}
use Rattle.machine_slots.specs.rules.Places.{ShownFrame, MachineState}
use Rattle.state_image.specs.rules.ProcessImage.{Saved, phase_of, ending_code, items_bytes}
use Rattle.state_image.specs.rules.ProcessImage.{descriptor_bytes, open_from, counts_bytes}
use Rattle.state_image.specs.rules.ProcessImage.{phase_bytes, streams_bytes, machine_bytes}
use Rattle.state_image.specs.rules.ProcessImage.{files_bytes, process_image}
use Rattle.state_image.specs.rules.WellTyped.{EntryPoints, IsCalled, IsOutermost, IsAlive}
use Rattle.state_image.specs.rules.WellTyped.{IsWellTyped}
use Rattle.state_image.specs.rules.Ranges.{IsIn, FitsCounts, FitsStreams, HasMachine}
use Rattle.state_image.proofs.Counts.{SameCounts, same_counts, SamePhase, same_phase}
use Rattle.state_image.proofs.Counts.{SameStreams, same_streams}
use Rattle.state_image.proofs.Marks.{few_widenings, short_texts, same_version}
use Rattle.state_image.proofs.Machines.{SameMachine, same_machine}
use Rattle.state_image.proofs.Named.{same_files_named}
use Rattle.state_image.proofs.PathsTold.{same_files}
use Rattle.state_image.proofs.Places.{HasPlaces, same_open}
use Rattle.state_image.proofs.FilesWithin.{files_within}
use Rattle.state_image.proofs.WasiStateWithin.{places_within}
use Rattle.state_image.proofs.MachineWithin.{machine_within}

-- ---- within the fields

-- what a process has is within the fields of its image
pub record IsWithin (s : Saved) : Type 0 where
  pub counts : FitsCounts s
  pub code : IsIn 4 (ending_code s.ended)
  pub streams : FitsStreams s
  pub machine : HasMachine s.machine
  pub files : IsFiles s.files
  pub next : IsIn 8 s.files.next
  pub places : HasPlaces s.descriptors

lines_within : (h : WasiState) → HasLineNumbers h → IsIn 8 (length h.lines)
lines_within h n =
    let all : length (h.lines ++ (rest_of Stdout h.first ++ rest_of Stderr h.second)) + 2
    < 2 ^ 63 = n in
    omega (arith, all, length-append h.lines (rest_of Stdout h.first ++ rest_of Stderr h.second))

counts_within : (m : Module) (config : Settings) (s : Saved) → IsWellTyped m config s → FitsCounts s
counts_within m config s w =
    let steps : s.steps < 2 ^ 63 = w.steps in
    let time : w.process.host.last_monotonic < 2 ^ 64 = w.host.last_monotonic in
    record {
      steps = omega (arith, steps);
      answers = omega (arith, steps, w.answers, few_widenings s.version);
      requests = omega (arith, steps, w.answers, w.requests, few_widenings s.version);
      lines = subst (IsIn 8) (sym w.shown.lines) (lines_within w.process.host w.lines);
      last_monotonic = omega (arith, time, w.shown.last_monotonic);
    }

streams_within : (m : Module) (config : Settings) (s : Saved) → IsWellTyped m config s
    → FitsStreams s
streams_within m config s w =
    let unread : length s.unread ≤ 65537 = omega (arith, w.unread, short_texts s.version) in
    let first : length w.process.host.first ≤ 4096 = w.host.first.short in
    let second : length w.process.host.second ≤ 4096 = w.host.second.short in
    record {
      unread = omega (arith, unread);
      first = omega (arith, first, ap length w.shown.first);
      second = omega (arith, second, ap length w.shown.second);
    }

pub is_within : (m : Module) (config : Settings) (s : Saved) → IsWellTyped m config s → IsWithin s
is_within m config s w =
    let steps : s.steps < 2 ^ 63 = w.steps in
    let next : IsIn 8 s.files.next = omega (arith, steps, w.next) in
    let its_next : IsIn 8 w.process.host.files.next = subst (λ (fs : Files). IsIn 8 fs.next)
    w.shown.files next in
    record {
      counts = counts_within m config s w;
      code = w.bounds.code;
      streams = streams_within m config s w;
      machine = machine_within (module_context m w.functions) w.guest.program
          w.begins.begins.store.table s w.process.configuration w.shown.machine w.bounds;
      files = subst IsFiles (sym w.shown.files) w.host.files;
      next = next;
      places = subst HasPlaces (sym w.shown.descriptors)
          (places_within w.process.host w.host its_next);
    }

-- ---- what is to come

-- the outermost frame's function is one that the host has called
pub called : (b : EntryPoints) (later : List ℕ) (places : List ShownFrame) → places ≢ []
    → IsOutermost b later places → (f : ℕ) × IsCalled b later f
called b later [] some h = absurd (some refl)
called b later (place ∷ []) some h = (place.function, h)
called b later (place ∷ next ∷ places) some h = called b later (next ∷ places) (λ e. absurd cc) h

same_later : (b c : EntryPoints) (later other : List ℕ) (f g : ℕ) → b.entry ≡ c.entry
    → IsCalled b later f → IsCalled c other g → phase_of None later ≡ phase_of None other
    → later ≡ other
same_later b c [] [] f g same h k e = refl
same_later b c [] (y ∷ other) f g same h k e = absurd (omega (arith, e))
same_later b c (x ∷ later) [] f g same h k e = absurd (omega (arith, e))
same_later b c (x ∷ []) (y ∷ []) f g same h k e = ap (λ n. n ∷ []) (h.0 ∙ same ∙ sym k.0)
same_later b c (x ∷ []) (y ∷ z ∷ other) f g same h k e = absurd k
same_later b c (x ∷ z ∷ later) other f g same h k e = absurd h

-- phase and entry tell the calls that are to come
later_told : (b c : EntryPoints) (s t : Saved) → b.entry ≡ c.entry
    → IsOutermost b s.machine.later s.machine.frames
    → IsOutermost c t.machine.later t.machine.frames
    → (a : Option Ending) → s.ended ≡ a → t.ended ≡ a → IsAlive a s → IsAlive a t
    → phase_of s.ended s.machine.later ≡ phase_of t.ended t.machine.later
    → s.machine.later ≡ t.machine.later
later_told b c s t same h k (Some why) p q x y e = x.1 ∙ sym y.1
later_told b c s t same h k None p q x y e =
    let f = called b s.machine.later s.machine.frames x h in
    let g = called c t.machine.later t.machine.frames y k in
    same_later b c s.machine.later t.machine.later f.0 g.0 same f.1 g.1
    (sym (ap (λ (o : Option Ending). phase_of o s.machine.later) p) ∙ e ∙ ap
    (λ (o : Option Ending). phase_of o t.machine.later) q)

-- ---- the parts of an image

abbrev pub from_descriptors : Saved → List ℕ
from_descriptors s = items_bytes (descriptor_bytes s.files) (open_from 0 s.descriptors)

abbrev pub from_files : Saved → List ℕ
from_files s = files_bytes s.files ++ from_descriptors s

abbrev pub from_machine : Saved → List ℕ
from_machine s = machine_bytes s.machine ++ from_files s

abbrev pub from_streams : Saved → List ℕ
from_streams s = streams_bytes s ++ from_machine s

abbrev pub from_phase : Saved → List ℕ
from_phase s = phase_bytes s ++ from_streams s

abbrev pub from_counts : Saved → List ℕ
from_counts s = counts_bytes s ++ from_phase s

-- what the image tells of two processes
pub record SameParts (s t : Saved) : Type 0 where
  pub version : s.version ≡ t.version
  pub counts : SameCounts s t
  pub phase : SamePhase s t
  pub streams : SameStreams s t
  pub machine : SameMachine s.machine t.machine
  pub files : s.files ≡ t.files
  pub descriptors : s.descriptors ≡ t.descriptors

same_descriptors : (s t : Saved) → IsWithin s → IsWithin t → s.files ≡ t.files
    → from_descriptors s ≡ from_descriptors t → s.descriptors ≡ t.descriptors
same_descriptors s t a b files e =
    let here : items_bytes (descriptor_bytes s.files) (open_from 0 s.descriptors) ≡ items_bytes
    (descriptor_bytes s.files) (open_from 0 t.descriptors) =
    e ∙ ap (λ (fs : Files). items_bytes (descriptor_bytes fs) (open_from 0 t.descriptors))
    (sym files) in
    same_open s.files s.descriptors t.descriptors [] [] a.places b.places
    (ap (λ (bytes : List ℕ). bytes ++ []) here)

same_parts : (s t : Saved) → IsWithin s → IsWithin t → s.version ≡ t.version
    → from_counts s ≡ from_counts t → SameParts s t
same_parts s t a b version e =
    let counts = same_counts s t (from_phase s) (from_phase t) a.counts b.counts e in
    let phase = same_phase s t (from_streams s) (from_streams t) a.code b.code counts.1 in
    let streams = same_streams s t (from_machine s) (from_machine t) a.streams b.streams phase.1 in
    let machine = same_machine s.machine t.machine (from_files s) (from_files t) a.machine
    b.machine streams.1 in
    let names = same_files_named s.files t.files (from_descriptors s) (from_descriptors t)
    (files_within s.files a.files a.next) (files_within t.files b.files b.next) machine.1 in
    let files = same_files s.files t.files a.files b.files names.0 in
    record {
      version = version;
      counts = counts.0;
      phase = phase.0;
      streams = streams.0;
      machine = machine.0;
      files = files;
      descriptors = same_descriptors s t a b files names.1;
    }

-- ---- the whole

machine_with : List ShownFrame → List ℕ → List ℕ → List ℕ → MachineState
machine_with frames globals memory later = record
    { frames = frames; globals = globals; memory = memory; later = later }

pub whole_machine : (m n : MachineState) → SameMachine m n → m.later ≡ n.later → m ≡ n
unfolding machine_with
whole_machine m n h later =
    let frames = h.frames in let globals = h.globals in let memory = h.memory in
    let whole : machine_with m.frames m.globals m.memory m.later ≡ machine_with n.frames n.globals
    n.memory n.later = rw (frames, globals, memory, later) refl in
    whole

-- a process with the counts and the end of another one
with_counts : Saved → MachineState → Files → List (Option Descriptor) → ℕ → ℕ → ℕ → ℕ → ℕ → Saved
with_counts s machine files descriptors steps answers requests lines last_monotonic = record {
  version = s.version;
  machine = machine;
  files = files;
  descriptors = descriptors;
  unread = s.unread;
  input_ended = s.input_ended;
  last_monotonic = last_monotonic;
  first = s.first;
  second = s.second;
  steps = steps;
  answers = answers;
  requests = requests;
  lines = lines;
  ended = s.ended;
}

with_streams : Saved → Version → List ℕ → Bool → List ℕ → List ℕ → Option Ending → Saved
with_streams s version unread input_ended first second ended = record {
  version = version;
  machine = s.machine;
  files = s.files;
  descriptors = s.descriptors;
  unread = unread;
  input_ended = input_ended;
  last_monotonic = s.last_monotonic;
  first = first;
  second = second;
  steps = s.steps;
  answers = s.answers;
  requests = s.requests;
  lines = s.lines;
  ended = ended;
}

pub whole_process : (s t : Saved) → SameParts s t → s.machine ≡ t.machine → s ≡ t
unfolding with_counts with_streams
whole_process s t h machine =
    let version = h.version in let files = h.files in let descriptors = h.descriptors in
    let steps = h.counts.steps in let answers = h.counts.answers in let requests =
    h.counts.requests in
    let lines = h.counts.lines in let time = h.counts.last_monotonic in
    let unread = h.streams.unread in let first = h.streams.first in let second =
    h.streams.second in
    let input = h.phase.input_ended in let ended = h.phase.ended in
    let streams : with_streams s s.version s.unread s.input_ended s.first s.second s.ended
    ≡ with_streams s t.version t.unread t.input_ended t.first t.second t.ended =
    rw (version, unread, input, first, second, ended) refl in
    let counts : with_counts t s.machine s.files s.descriptors s.steps s.answers s.requests s.lines
    s.last_monotonic
    ≡ with_counts t t.machine t.files t.descriptors t.steps t.answers t.requests t.lines
    t.last_monotonic =
    rw (machine, files, descriptors, steps, answers, requests, lines, time) refl in
    streams ∙ counts

pub told_apart : (m : Module) (config : Settings) (s t : Saved) → IsWellTyped m config s
    → IsWellTyped m config t → process_image s ≡ process_image t → s ≡ t
told_apart m config s t w v e =
    let mark = same_version s.version t.version (from_counts s) (from_counts t) e in
    let same = same_parts s t (is_within m config s w) (is_within m config t v) mark.0 mark.1 in
    let entries : w.begins.entry ≡ v.begins.entry =
    item_number w.begins.entry v.begins.entry
    (entry_once m.exports (codes "_start") (export.Function w.begins.entry)
    (export.Function v.begins.entry) w.valid.names w.begins.exported v.begins.exported) in
    let later : s.machine.later ≡ t.machine.later =
    later_told (record { start = m.start; entry = w.begins.entry })
    (record { start = m.start; entry = v.begins.entry }) s t entries w.outermost
    v.outermost
    s.ended refl (sym same.phase.ended) w.alive
    (subst (λ (o : Option Ending). IsAlive o t) (sym same.phase.ended) v.alive)
    same.phase.phase in
    whole_process s t same (whole_machine s.machine t.machine same.machine later)
