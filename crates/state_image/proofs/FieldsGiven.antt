-- Bytes that begin with those of a field lead its reader to this field, and to what is after it.
-- `gives` of `ReadLemmas` says so of each field that tells its value; they are here, and in
-- `Fields`, `Marks`, `Machines` and `Named`. Parts of a process, nodes and descriptors have lemmas
-- of their own.
use Rattle.std.proofs.Common.{◌≡◌, ℕ, Bool, List, [], ◌∷◌, ◌++◌, length, refl, sym, ap, ◌∙◌, arith}
use Rattle.std.specs.Prelude.{Option, Some, None}
use Rattle.wasi_abi.specs.rules.Layouts.{u16_bytes, u32_bytes, u64_bytes}
use Rattle.wasi_abi.specs.rules.Numbers.{directory_type, regular_file}
use Rattle.process_rules.specs.Processes.{Ending, Exited, Trapped}
use Rattle.state_image.specs.declared.reading.progress.ReadCounts.{ReadCounts}
use Rattle.state_image.specs.declared.reading.progress.ReadPhase.{ReadPhase}
use Rattle.state_image.specs.declared.reading.progress.ReadPhase.TheVariants as read
use Rattle.state_image.specs.declared.reading.progress.ReadEnd.{ReadEnd}
use Rattle.state_image.specs.declared.reading.descriptors.ReadDescriptor.{ReadDescriptor}
use Rattle.state_image.specs.rules.ProcessImage.{Saved, phase_of, memory_bytes}
use Rattle.state_image.specs.rules.ProcessImage.{counts_bytes, phase_bytes, streams_bytes}
use Rattle.state_image.specs.rules.Ranges.{IsIn, IsWhole, FitsCounts, FitsCode, FitsStreams}
use Rattle.state_image.specs.rules.Parts.{counts_of, read_phase, read_end_of, StreamTexts}
use Rattle.state_image.specs.rules.Parts.{streams_of}
use Rattle.state_image.specs.rules.Fronts.{ContentFront, EntryCount, FileBytes, NodeFront}
use Rattle.state_image.specs.rules.Fronts.{content_front_bytes, front_bytes, IsContentFrontIn}
use Rattle.state_image.specs.rules.Fronts.{IsFrontIn}
use Rattle.state_image.specs.rules.RawDescriptors.{raw_bytes, IsRawIn}
use Rattle.state_image.specs.rules.Reading.{ReadsPart}
use Rattle.state_image.proofs.Fields.{Tells, cut, byte_field, number_field, counted_field}
use Rattle.state_image.proofs.Counts.{SameCounts, same_counts, SamePhase, same_phase}
use Rattle.state_image.proofs.Counts.{SameStreams, same_streams}
use Rattle.state_image.proofs.Machines.{same_memory}
use Rattle.state_image.proofs.FrontReads.{from_target_type, from_node, from_offset, from_flags}
use Rattle.state_image.proofs.FrontReads.{from_base, from_inheriting, content_in}

-- ---- fields that tell their values

pub memory_field : Tells (List ℕ) IsWhole memory_bytes
memory_field = record { front = same_memory }

content_told : (a b : ContentFront) (rest other : List ℕ) → IsContentFrontIn a → IsContentFrontIn b
    → content_front_bytes a ++ rest ≡ content_front_bytes b ++ other → (a ≡ b) × (rest ≡ other)
content_told (EntryCount m) (EntryCount n) rest other p q e =
    let first = byte_field.front directory_type directory_type (u32_bytes m ++ rest)
    (u32_bytes n ++ other) (omega arith) (omega arith) e in
    let same = (number_field 4).front m n rest other p q first.1 in
    (ap (λ (k : ℕ). EntryCount k) same.0, same.1)
content_told (FileBytes a) (FileBytes b) rest other p q e =
    let first = byte_field.front regular_file regular_file ((u64_bytes (length a) ++ a) ++ rest)
    ((u64_bytes (length b) ++ b) ++ other) (omega arith) (omega arith) e in
    let same = (counted_field 8).front a b rest other p q first.1 in
    (ap (λ (bytes : List ℕ). FileBytes bytes) same.0, same.1)
content_told (EntryCount m) (FileBytes b) rest other p q e =
    let first = byte_field.front directory_type regular_file (u32_bytes m ++ rest)
    ((u64_bytes (length b) ++ b) ++ other) (omega arith) (omega arith) e in
    absurd (omega (arith, first.0))
content_told (FileBytes a) (EntryCount n) rest other p q e =
    let first = byte_field.front regular_file directory_type ((u64_bytes (length a) ++ a) ++ rest)
    (u32_bytes n ++ other) (omega arith) (omega arith) e in
    absurd (omega (arith, first.0))

node_front : ℕ → ContentFront → NodeFront
node_front number content = record { number = number; content = content }

same_node_front : (a b : NodeFront) → a.number ≡ b.number → a.content ≡ b.content → a ≡ b
unfolding node_front
same_node_front a b e h =
    let whole : node_front a.number a.content ≡ node_front b.number b.content = rw (e, h) refl in
    whole

pub front_field : Tells NodeFront IsFrontIn front_bytes
front_field = record { front = told } where
  told : (a b : NodeFront) (rest other : List ℕ) → IsFrontIn a → IsFrontIn b
      → front_bytes a ++ rest ≡ front_bytes b ++ other → (a ≡ b) × (rest ≡ other)
  told a b rest other p q e =
      let numbers = cut ℕ (IsIn 8) u64_bytes (number_field 8) a.number b.number (content_in a)
      (content_in b) rest other p.number q.number e in
      let contents = content_told a.content b.content rest other p.content q.content numbers.1 in
      (same_node_front a b numbers.0 contents.0, contents.1)

unfoldable pub raw : ℕ → ℕ → ℕ → ℕ → ℕ → ℕ → ℕ → ReadDescriptor
raw number target_type node offset flags base inheriting = record {
  number = number;
  target_type = target_type;
  node = node;
  offset = offset;
  flags = flags;
  base = base;
  inheriting = inheriting;
}

pub raw_field : Tells ReadDescriptor IsRawIn raw_bytes
unfolding raw
raw_field = record { front = told } where
  told : (d e : ReadDescriptor) (rest other : List ℕ) → IsRawIn d → IsRawIn e
      → raw_bytes d ++ rest ≡ raw_bytes e ++ other → (d ≡ e) × (rest ≡ other)
  told d e rest other p q is =
      let numbers = cut ℕ (IsIn 4) u32_bytes (number_field 4) d.number e.number (from_target_type d)
      (from_target_type e) rest other p.number q.number is in
      let target_types = byte_field.front d.target_type e.target_type (from_node d
      ++ rest) (from_node e ++ other) p.target_type q.target_type numbers.1 in
      let nodes = cut ℕ (IsIn 8) u64_bytes (number_field 8) d.node e.node (from_offset d)
      (from_offset e) rest other p.node q.node target_types.1 in
      let offsets = cut ℕ (IsIn 8) u64_bytes (number_field 8) d.offset e.offset (from_flags d)
      (from_flags e) rest other p.offset q.offset nodes.1 in
      let flags = cut ℕ (IsIn 2) u16_bytes (number_field 2) d.flags e.flags (from_base d)
      (from_base e) rest other p.flags q.flags offsets.1 in
      let bases = cut ℕ (IsIn 8) u64_bytes (number_field 8) d.base e.base (from_inheriting d)
      (from_inheriting e) rest other p.base q.base flags.1 in
      let lasts = (number_field 8).front d.inheriting e.inheriting rest other p.inheriting
      q.inheriting bases.1 in
      let number_e = numbers.0 in let target_type_e = target_types.0 in let node_e = nodes.0 in
      let offset_e = offsets.0 in let flags_e = flags.0 in let base_e = bases.0 in
      let last_e = lasts.0 in
      let whole : raw d.number d.target_type d.node d.offset d.flags d.base d.inheriting
      ≡ raw e.number e.target_type e.node e.offset e.flags e.base e.inheriting =
      rw (number_e, target_type_e, node_e, offset_e, flags_e, base_e, last_e) refl in
      (whole, lasts.1)

-- ---- parts of a process

with_read_counts : ReadCounts → Saved → Saved
with_read_counts r s = record s {
  steps = r.steps;
  answers = r.answers;
  requests = r.requests;
  lines = r.lines;
  last_monotonic = r.last_monotonic;
}

unfoldable pub counts_from : ℕ → ℕ → ℕ → ℕ → ℕ → ReadCounts
counts_from steps answers requests lines last_monotonic = record {
  steps = steps;
  answers = answers;
  requests = requests;
  lines = lines;
  last_monotonic = last_monotonic;
}

same_read_counts : (s t : Saved) → SameCounts s t → counts_of s ≡ counts_of t
unfolding counts_from
same_read_counts s t h =
    let steps = h.steps in let answers = h.answers in let requests = h.requests in
    let lines = h.lines in let time = h.last_monotonic in
    let whole : counts_from s.steps s.answers s.requests s.lines s.last_monotonic
    ≡ counts_from t.steps t.answers t.requests t.lines t.last_monotonic =
    rw (steps, answers, requests, lines, time) refl in
    whole

pub counts_given : (result : Option ReadCounts) (old new : List ℕ)
    → ReadsPart counts_of counts_bytes FitsCounts result old new
    → (s : Saved) (rest : List ℕ) → FitsCounts s → old ≡ counts_bytes s ++ rest
    → (result ≡ Some (counts_of s)) × (new ≡ rest)
unfolding with_read_counts
counts_given (Some r) old new reads s rest within e =
    let t = with_read_counts r s in
    let has = reads t refl in
    let same = same_counts t s new rest has.in_range within (sym has.is ∙ e) in
    (ap (λ (c : ReadCounts). Some c) (same_read_counts t s same.0), same.1)
counts_given None old new lacks s rest within e = absurd (lacks.none s rest within e)

with_read_streams : StreamTexts → Saved → Saved
with_read_streams r s = record s { unread = r.unread; first = r.first; second = r.second }

unfoldable pub streams_from : List ℕ → List ℕ → List ℕ → StreamTexts
streams_from unread first second = record { unread = unread; first = first; second = second }

same_read_streams : (s t : Saved) → SameStreams s t → streams_of s ≡ streams_of t
unfolding streams_from
same_read_streams s t h =
    let unread = h.unread in let first = h.first in let second = h.second in
    let whole : streams_from s.unread s.first s.second ≡ streams_from t.unread t.first t.second =
    rw (unread, first, second) refl in
    whole

pub streams_given : (result : Option StreamTexts) (old new : List ℕ)
    → ReadsPart streams_of streams_bytes FitsStreams result old new
    → (s : Saved) (rest : List ℕ) → FitsStreams s → old ≡ streams_bytes s ++ rest
    → (result ≡ Some (streams_of s)) × (new ≡ rest)
unfolding with_read_streams
streams_given (Some r) old new reads s rest within e =
    let t = with_read_streams r s in
    let has = reads t refl in
    let same = same_streams t s new rest has.in_range within (sym has.is ∙ e) in
    (ap (λ (c : StreamTexts). Some c) (same_read_streams t s same.0), same.1)
streams_given None old new lacks s rest within e = absurd (lacks.none s rest within e)

ended_as : ReadPhase → Option Ending
ended_as read.Starting = None
ended_as read.Running = None
ended_as (read.Exited code) = Some (Exited code)
ended_as (read.Trapped why) = Some (Trapped why)

later_as : ReadPhase → List ℕ
later_as read.Starting = 0 ∷ []
later_as _ = []

phase_as : (p : ReadPhase) → read_phase (ended_as p) (later_as p) ≡ p
unfolding ended_as later_as
phase_as read.Starting = refl
phase_as _ = refl

with_read_end : ReadEnd → Saved → Saved
with_read_end e s = record s {
  ended = ended_as e.phase;
  input_ended = e.input_ended;
  machine = record s.machine { later = later_as e.phase };
}

unfoldable pub end_from : ReadPhase → Bool → ReadEnd
end_from phase input_ended = record { phase = phase; input_ended = input_ended }

same_read_phase : (o p : Option Ending) (later other : List ℕ) → o ≡ p
    → phase_of o later ≡ phase_of p other → read_phase o later ≡ read_phase p other
same_read_phase o p later other same e =
    ap (λ (x : Option Ending). read_phase x later) same
    ∙ told p later other (sym (ap (λ (x : Option Ending). phase_of x later) same) ∙ e)
  where
    told : (p : Option Ending) (later other : List ℕ) → phase_of p later ≡ phase_of p other
        → read_phase p later ≡ read_phase p other
    told None [] [] e = refl
    told None [] (g ∷ other) e = absurd (omega (arith, e))
    told None (f ∷ later) [] e = absurd (omega (arith, e))
    told None (f ∷ later) (g ∷ other) e = refl
    told (Some (Exited code)) later other e = refl
    told (Some (Trapped why)) later other e = refl

same_read_end : (s t : Saved) → SamePhase s t → read_end_of s ≡ read_end_of t
unfolding end_from
same_read_end s t h =
    let phase = same_read_phase s.ended t.ended s.machine.later t.machine.later h.ended h.phase in
    let input = h.input_ended in
    let whole : end_from (read_phase s.ended s.machine.later) s.input_ended
    ≡ end_from (read_phase t.ended t.machine.later) t.input_ended = rw (phase, input) refl in
    whole

pub end_given : (result : Option ReadEnd) (old new : List ℕ)
    → ReadsPart read_end_of phase_bytes FitsCode result old new
    → (s : Saved) (rest : List ℕ) → FitsCode s → old ≡ phase_bytes s ++ rest
    → (result ≡ Some (read_end_of s)) × (new ≡ rest)
unfolding with_read_end end_from
end_given (Some r) old new reads s rest within e =
    let t = with_read_end r s in
    let that : read_end_of t ≡ r =
    ap (λ (p : ReadPhase). end_from p r.input_ended) (phase_as r.phase) in
    let has = reads t that in
    let same = same_phase t s new rest has.in_range within (sym has.is ∙ e) in
    (ap (λ (c : ReadEnd). Some c) (sym that ∙ same_read_end t s same.0), same.1)
end_given None old new lacks s rest within e = absurd (lacks.none s rest within e)

-- each part is that of a process
pub parts_of_processes : (s : Saved)
    → ((counts : ReadCounts) → (t : Saved) × (counts_of t ≡ counts))
    × ((end : ReadEnd) → (t : Saved) × (read_end_of t ≡ end))
    × ((streams : StreamTexts) → (t : Saved) × (streams_of t ≡ streams))
unfolding with_read_counts with_read_streams with_read_end end_from
parts_of_processes s = (
  λ counts. (with_read_counts counts s, refl),
  λ end. (
    with_read_end end s,
    ap (λ (p : ReadPhase). end_from p end.input_ended)
        (phase_as end.phase),
  ),
  λ streams. (with_read_streams streams s, refl),
)

-- ---- what is read in steps
