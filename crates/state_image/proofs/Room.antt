-- How long the image of a well-typed process is at most.
use Rattle.std.proofs.Common.{◌≡◌, inl, inr, ℕ, ◌+◌, ◌*◌, ◌/◌, ◌≤◌, List, [], ◌∷◌, ◌++◌, length}
use Rattle.std.proofs.Common.{length-append, reverse, Option, Some, None, refl, ap, arith}
use Rattle.std.specs.Prelude.{sum_by, min}
use Rattle.std.specs.List.{AllByRecursion, flat_map}
use Rattle.std.proofs.lemmas.Grind.{reverse_onto}
use Rattle.std.proofs.lemmas.List.{length-reverse}
use Rattle.std.proofs.lemmas.List.Sums.{sum_by-cons, sum_by-append}
use Rattle.std.specs.Option.{option_map_or}
use Rattle.wasm_syntax.specs.declared.module.Module.{Module}
use Rattle.wasm_syntax.specs.declared.types.MemoryType.{MemoryType}
use Rattle.wasm_rules.specs.Validity.{memories_of}
use Rattle.wasm_rules.specs.Instantiation.{most_pages_of}
use Rattle.guest_memory.specs.rules.Bytes.{page_size}
use Rattle.guest_memory.proofs.ByteLemmas.{length-bytes_of}
use Rattle.wasi_abi.specs.rules.Layouts.{u16_bytes, u32_bytes, u64_bytes}
use Rattle.wasi_abi.specs.rules.Configs.{Settings}
use Rattle.file_tree.specs.rules.Files.{Path, Files, FileNode, Content, Directory, File, Entry}
use Rattle.file_tree.specs.rules.Files.{bytes_of_content, used, entries_in, sorted, entries_under}
use Rattle.file_tree.specs.rules.Files.{entries_of, IsFiles}
use Rattle.file_tree.proofs.Order.{all_sorted}
use Rattle.file_tree.proofs.Seen.{length-sorted}
use Rattle.wasi_calls_rules.specs.WasiStates.{Target, Stream, Node, Descriptor}
use Rattle.machine_slots.specs.rules.Places.{ShownFrame, MachineState}
use Rattle.state_image.specs.rules.ProcessImage.{Saved, text_bytes, items_bytes, place_bytes}
use Rattle.state_image.specs.rules.ProcessImage.{memory_bytes, entry_bytes, content_bytes}
use Rattle.state_image.specs.rules.ProcessImage.{node_bytes, files_bytes, target_bytes, Numbered}
use Rattle.state_image.specs.rules.ProcessImage.{open_from, descriptor_bytes, process_image_mark}
use Rattle.state_image.specs.rules.ProcessImage.{counts_bytes, phase_bytes, streams_bytes}
use Rattle.state_image.specs.rules.ProcessImage.{machine_bytes, process_image}
use Rattle.state_image.specs.rules.WellTyped.{slots_in, IsWellTyped}
use Rattle.state_image.proofs.Marks.{mark_length, short_texts}
use Rattle.state_image.proofs.Among.{IsAmong, among_all}
use Rattle.state_image.proofs.PathsTold.{own_path}
use Rattle.state_image.proofs.Places.{few_open}
use Rattle.state_image.proofs.FilesWithin.{IsNameShort, name_short}
use Rattle.state_image.proofs.Children.{children, all_children, few_children}
use Rattle.state_image.proofs.Whole.{is_within}

-- ---- words and texts

words_long : (words : List ℕ) → length (flat_map u64_bytes words) ≡ 8 * length words
words_long [] = refl
words_long (x ∷ words) = omega (
  arith,
  length-append (u64_bytes x) (flat_map u64_bytes words),
  length-bytes_of 8 x,
  words_long
      words,
)

items_long : (X : Type 0) (bytes : X → List ℕ) (xs : List X)
    → length (items_bytes bytes xs) ≡ 4 + length (flat_map bytes xs)
items_long X bytes xs = omega (
  arith,
  length-append (u32_bytes (length xs)) (flat_map bytes xs),
  length-bytes_of 4
      (length xs),
)

text_long : (text : List ℕ) → length (text_bytes text) ≡ 4 + length text
text_long text = omega
    (arith, length-append (u32_bytes (length text)) text, length-bytes_of 4 (length text))

-- ---- the machine

place_long : (f : ShownFrame) → length (place_bytes f) ≡ 12 + 8 * length f.slots
place_long f =
    omega (
      arith,
      length-append (u32_bytes f.function) (u32_bytes f.position ++ items_bytes u64_bytes f.slots),
      length-append (u32_bytes f.position) (items_bytes u64_bytes f.slots),
      length-bytes_of 4 f.function,
      length-bytes_of 4 f.position,
      items_long ℕ u64_bytes f.slots,
      words_long f.slots,
    )

places_long : (places : List ShownFrame)
    → length (flat_map place_bytes places) ≡ 12 * length places + 8 * slots_in places
places_long [] = refl
places_long (f ∷ places) =
    omega (
      arith,
      length-append (place_bytes f) (flat_map place_bytes places),
      place_long f,
      places_long places,
      sum_by-cons (λ (place : ShownFrame). length place.slots) f places,
    )

slots_turned : (places : List ShownFrame) → slots_in (reverse places) ≡ slots_in places
slots_turned [] = refl
slots_turned (f ∷ places) =
    omega (
      arith,
      ap slots_in (reverse_onto places f []),
      sum_by-append (λ (place : ShownFrame). length place.slots) (reverse places) (f ∷ []),
      sum_by-cons (λ (place : ShownFrame). length place.slots) f [],
      sum_by-cons (λ (place : ShownFrame). length place.slots) f places,
      slots_turned places,
    )

machine_long : (m : MachineState) → length m.globals ≤ 1024 → length m.frames ≤ 512
    → slots_in m.frames ≤ 69632
    → length (machine_bytes m) ≤ 571404 + length m.memory
machine_long m globals frames slots =
    let pages = u32_bytes (length m.memory / page_size) in
    let all = items_bytes place_bytes (reverse m.frames) in
    omega (
      arith,
      globals,
      frames,
      slots,
      length-append (items_bytes u64_bytes m.globals) (all ++ memory_bytes m.memory),
      length-append all (memory_bytes m.memory),
      length-append pages m.memory,
      length-bytes_of 4
          (length m.memory / page_size),
      items_long ℕ u64_bytes m.globals,
      words_long m.globals,
      items_long ShownFrame place_bytes (reverse m.frames),
      places_long (reverse m.frames),
      length-reverse m.frames,
      slots_turned m.frames,
    )

most_within : (memories : List MemoryType) (pages : ℕ) → most_pages_of memories pages ≤ pages
most_within [] pages = omega arith
most_within (t ∷ memories) pages = by t.limits.maximum where
  by : (o : Option ℕ) → option_map_or (λ most. min most pages) o pages ≤ pages
  by None = omega arith
  by (Some most) = omega arith

-- no more than the configured pages
pub memory_long : (m : Module) (config : Settings) (s : Saved) → IsWellTyped m config s
    → length s.machine.memory ≤ config.pages * 65536
memory_long m config s w =
    let store = w.shown.machine.typed.store.memory in
    let whole : length w.process.configuration.store.memory ≡ store.pages * 65536 = store.whole in
    omega (
      arith,
      whole,
      ap length w.shown.machine.memory,
      store.within,
      w.begins.begins.is_program.most_pages,
      most_within (memories_of m) config.pages,
    )

-- ---- files

entry_long : (e : Entry) → IsNameShort e → length (entry_bytes e) ≤ 265
entry_long e short =
    let name : length e.name ≤ 255 = short in
    omega (
      arith,
      name,
      length-append (u16_bytes (length e.name)) (e.name ++ u64_bytes e.number),
      length-append e.name
          (u64_bytes e.number),
      length-bytes_of 2 (length e.name),
      length-bytes_of 8 e.number,
    )

entries_long : (es : List Entry) → AllByRecursion IsNameShort es
    → length (flat_map entry_bytes es) ≤ 265 * length es
entries_long [] h = omega arith
entries_long (e ∷ es) h = omega (
  arith,
  length-append (entry_bytes e) (flat_map entry_bytes es),
  entry_long e h.0,
  entries_long
      es h.1,
)

listing_long : (fs : Files) → IsFiles fs → (o : Option Path)
    → length (items_bytes entry_bytes (entries_under fs o)) ≤ 4 + 265 * children fs.nodes o
listing_long fs is None = omega (arith, items_long Entry entry_bytes [])
listing_long fs is (Some p) =
    let es = entries_in p fs.nodes in
    let short = all_sorted IsNameShort es (among_all Entry IsNameShort es (name_short fs is p)) in
    omega (
      arith,
      items_long Entry entry_bytes (sorted es),
      entries_long (sorted es) short,
      length-sorted es,
    )

content_long : (fs : Files) → IsFiles fs → (k : ℕ) (o : Option Path) (c : Content)
    → entries_of fs k ≡ entries_under fs o
    → length (content_bytes fs k c) ≤ 9 + length (bytes_of_content c) + 265 * children fs.nodes o
content_long fs is k o Directory e =
    omega (
      arith,
      ap (λ (es : List Entry). length (items_bytes entry_bytes es)) e,
      listing_long fs
          is o,
    )
content_long fs is k o (File bytes) e =
    omega (arith, length-append (u64_bytes (length bytes)) bytes, length-bytes_of 8 (length bytes))

nodes_long : (fs : Files) → IsFiles fs → (ms : List FileNode)
    → ((m : FileNode) → IsAmong m ms → IsAmong m fs.nodes)
    → length (flat_map (node_bytes fs) ms)
    ≤ 17 * length ms + sum_by (λ (n : FileNode). length (bytes_of_content n.content)) ms + 265 *
    all_children fs.nodes ms
nodes_long fs is [] within = omega arith
nodes_long fs is (m ∷ ms) within =
    let own : entries_of fs m.number ≡ entries_under fs m.path = ap (entries_under fs)
    (own_path fs is m (within m (inl refl))) in
    omega (
      arith,
      length-append (node_bytes fs m) (flat_map (node_bytes fs) ms),
      length-append (u64_bytes m.number) (content_bytes fs m.number m.content),
      length-bytes_of 8
          m.number,
      content_long fs is m.number m.path m.content own,
      nodes_long fs is ms (λ n k. within n (inr k)),
      sum_by-cons (λ (n : FileNode). length (bytes_of_content n.content)) m ms,
    )

files_long : (fs : Files) → IsFiles fs → length (files_bytes fs) ≤ 288780 + used fs
files_long fs is =
    let few : length fs.nodes ≤ 1024 = is.few in
    omega (
      arith,
      few,
      length-append (u64_bytes fs.next) (items_bytes (node_bytes fs) fs.nodes),
      length-bytes_of 8
          fs.next,
      items_long FileNode (node_bytes fs) fs.nodes,
      nodes_long fs is fs.nodes (λ m k. k),
      few_children fs.nodes fs.nodes is.distinct,
    )

-- ---- descriptors

target_long : (fs : Files) (t : Target) → length (target_bytes fs t) ≡ 9
target_long fs (Stream s) = refl
target_long fs (Node k) = refl

descriptor_long : (fs : Files) (d : Numbered) → length (descriptor_bytes fs d) ≡ 39
descriptor_long fs d =
    let base = u64_bytes d.descriptor.base ++ u64_bytes d.descriptor.inheriting in
    let flags = u16_bytes d.descriptor.flags ++ base in
    let offset = u64_bytes d.descriptor.offset ++ flags in
    omega (
      arith,
      length-append (u32_bytes d.number)
          (target_bytes fs d.descriptor.target ++ offset),
      length-bytes_of 4 d.number,
      length-append (target_bytes fs d.descriptor.target) offset,
      target_long fs d.descriptor.target,
      length-append (u64_bytes d.descriptor.offset) flags,
      length-bytes_of 8 d.descriptor.offset,
      length-append (u16_bytes d.descriptor.flags) base,
      length-bytes_of 2 d.descriptor.flags,
      length-append (u64_bytes d.descriptor.base) (u64_bytes d.descriptor.inheriting),
      length-bytes_of 8 d.descriptor.base,
      length-bytes_of 8 d.descriptor.inheriting,
    )

descriptors_long : (fs : Files) (ds : List Numbered)
    → length (flat_map (descriptor_bytes fs) ds) ≡ 39 * length ds
descriptors_long fs [] = refl
descriptors_long fs (d ∷ ds) = omega (
  arith,
  length-append (descriptor_bytes fs d) (flat_map (descriptor_bytes fs) ds),
  descriptor_long fs d,
  descriptors_long fs ds,
)

open_long : (fs : Files) (ds : List (Option Descriptor)) → length ds ≡ 64
    → length (items_bytes (descriptor_bytes fs) (open_from 0 ds)) ≤ 2500
open_long fs ds places =
    omega (
      arith,
      places,
      items_long Numbered (descriptor_bytes fs) (open_from 0 ds),
      descriptors_long fs (open_from 0 ds),
      few_open 0 ds,
    )

-- ---- the whole

counts_long : (s : Saved) → length (counts_bytes s) ≡ 40
counts_long s = refl

phase_long : (s : Saved) → length (phase_bytes s) ≡ 6
phase_long s = refl

streams_long : (s : Saved) → length s.unread ≤ 65537 → length s.first ≤ 4096
    → length s.second ≤ 4096 → length (streams_bytes s) ≤ 73741
streams_long s unread first second =
    omega (
      arith,
      unread,
      first,
      second,
      length-append (text_bytes s.unread) (text_bytes s.first ++ text_bytes s.second),
      length-append
          (text_bytes s.first) (text_bytes s.second),
      text_long s.unread,
      text_long s.first,
      text_long s.second,
    )

parts_long : (a b c d e f g : List ℕ)
    → length (a ++ (b ++ (c ++ (d ++ (e ++ (f ++ g)))))) ≡ length a + length b + length c + length
    d + length e + length f + length g
parts_long a b c d e f g =
    omega (
      arith,
      length-append a (b ++ (c ++ (d ++ (e ++ (f ++ g))))),
      length-append b
          (c ++ (d ++ (e ++ (f ++ g)))),
      length-append c (d ++ (e ++ (f ++ g))),
      length-append d (e ++ (f ++ g)),
      length-append e
          (f ++ g),
      length-append f g,
    )

pub has_room : (m : Module) (config : Settings) (s : Saved) → IsWellTyped m config s
    → length (process_image s) ≤ 1048576 + 65536 * (config.pages + config.files)
has_room m config s w =
    let within = is_within m config s w in
    let unread : length s.unread ≤ 65537 = omega (arith, w.unread, short_texts s.version) in
    let first : length w.process.host.first ≤ 4096 = w.host.first.short in
    let second : length w.process.host.second ≤ 4096 = w.host.second.short in
    let streams = streams_long s unread (omega (arith, first, ap length w.shown.first))
    (omega (arith, second, ap length w.shown.second)) in
    let machine = machine_long s.machine w.bounds.globals w.shown.machine.few_frames
    w.bounds.slots in
    let room : w.process.host.room ≡ config.files * 65536 = w.configured.room in
    let memory = memory_long m config s w in
    let places = items_bytes (descriptor_bytes s.files) (open_from 0 s.descriptors) in
    omega (
      arith,
      parts_long (process_image_mark s.version) (counts_bytes s) (phase_bytes s) (streams_bytes s)
          (machine_bytes s.machine) (files_bytes s.files) places,
      mark_length s.version,
      counts_long s,
      phase_long s,
      streams,
      machine,
      memory,
      files_long s.files within.files,
      ap used
          w.shown.files,
      w.host.within,
      room,
      open_long s.files s.descriptors within.places.places,
    )
