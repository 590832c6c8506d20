-- The image of a well-typed process is of bytes.
use Rattle.std.proofs.Common.{if◌then◌else◌, ◌≡◌, ℕ, zero, suc, ◌/◌, ◌<◌, Bool, true, false, List}
use Rattle.std.proofs.Common.{[], ◌∷◌, ◌++◌, length, reverse, Option, Some, None, sym, subst, arith}
use Rattle.std.specs.List.{AllByRecursion, flat_map}
use Rattle.wasm_syntax.specs.declared.module.Module.{Module}
use Rattle.guest_memory.specs.rules.Bytes.{IsByte, bytes_of, page_size}
use Rattle.wasi_abi.specs.declared.version.Version.{Version}
use Rattle.wasi_abi.specs.declared.version.Version.TheVariants.{One, Two}
use Rattle.wasi_abi.specs.rules.Layouts.{u64_bytes}
use Rattle.wasi_abi.specs.rules.Numbers.{directory_type, regular_file}
use Rattle.wasi_abi.specs.rules.Configs.{Settings}
use Rattle.file_tree.specs.rules.Files.{Path, Files, FileNode, Content, Directory, File, Entry}
use Rattle.file_tree.specs.rules.Files.{is_directory, path_of, entries_in, entries_under}
use Rattle.file_tree.specs.rules.Files.{entries_of, IsSmallContent, IsFiles}
use Rattle.file_tree.proofs.Order.{all_sorted}
use Rattle.wasi_calls_rules.specs.WasiStates.{Target, Stream, Node}
use Rattle.wasi_calls_rules.proofs.FilesOfBytes.{text_of_bytes}
use Rattle.machine_slots.specs.rules.Places.{ShownFrame, MachineState}
use Rattle.state_image.specs.rules.ProcessImage.{Saved, ending_code, flag_of, text_bytes}
use Rattle.state_image.specs.rules.ProcessImage.{items_bytes, place_bytes, entry_bytes}
use Rattle.state_image.specs.rules.ProcessImage.{content_bytes, node_bytes, files_bytes}
use Rattle.state_image.specs.rules.ProcessImage.{target_bytes, Numbered, open_from}
use Rattle.state_image.specs.rules.ProcessImage.{descriptor_bytes, process_image_mark, counts_bytes}
use Rattle.state_image.specs.rules.ProcessImage.{phase_bytes, streams_bytes, machine_bytes}
use Rattle.state_image.specs.rules.ProcessImage.{process_image}
use Rattle.state_image.specs.rules.WellTyped.{IsWellTyped}
use Rattle.state_image.specs.restoring.Descriptors.{IsTargetIn}
use Rattle.state_image.proofs.Among.{among_all}
use Rattle.state_image.proofs.Machines.{all_behind}
use Rattle.state_image.proofs.Places.{IsNumberedIn, open_in}
use Rattle.state_image.proofs.FilesWithin.{entry_name}
use Rattle.state_image.proofs.Whole.{is_within}
use Rattle.state_image.proofs.PartReads.{phase_small}

record Spelled (bytes : List ℕ) : Type 0 where
  pub each : AllByRecursion IsByte bytes

-- ---- fields

field : (n x : ℕ) → Spelled (bytes_of n x)
field n x = record { each = low n x } where
  low : (k y : ℕ) → AllByRecursion IsByte (bytes_of k y)
  low zero y = tt
  low (suc k) y = (omega arith, low k (y / 256))

none : Spelled []
none = record { each = tt }

byte : {b : ℕ} {bytes : List ℕ} → b < 256 → Spelled bytes → Spelled (b ∷ bytes)
byte lt h = record { each = (lt, h.each) }

joined : {a b : List ℕ} → Spelled a → Spelled b → Spelled (a ++ b)
joined {a} {b} h k = record { each = all_behind ℕ IsByte a b h.each k.each }

text : (bytes : List ℕ) → Spelled bytes → Spelled (text_bytes bytes)
text bytes h = joined (field 4 (length bytes)) h

flat : (X : Type 0) (P : X → Type 0) (bytes : X → List ℕ) → ((x : X) → P x → Spelled (bytes x))
    → (xs : List X) → AllByRecursion P xs → Spelled (flat_map bytes xs)
flat X P bytes each [] h = none
flat X P bytes each (x ∷ xs) h = joined (each x h.0) (flat X P bytes each xs h.1)

items : (X : Type 0) (P : X → Type 0) (bytes : X → List ℕ) → ((x : X) → P x → Spelled (bytes x))
    → (xs : List X) → AllByRecursion P xs → Spelled (items_bytes bytes xs)
items X P bytes each xs h = joined (field 4 (length xs)) (flat X P bytes each xs h)

-- where nothing is asked of an item
abbrev Any : (X : Type 0) → X → Type 0
Any X x = Unit {0}

any_of : (X : Type 0) (xs : List X) → AllByRecursion (Any X) xs
any_of X [] = tt
any_of X (x ∷ xs) = (tt, any_of X xs)

words : (xs : List ℕ) → Spelled (items_bytes u64_bytes xs)
words xs = items ℕ (Any ℕ) u64_bytes (λ x any. field 8 x) xs (any_of ℕ xs)

-- ---- counts, phase, streams, machine

counts : (s : Saved) → Spelled (counts_bytes s)
counts s =
    joined (field 8 s.steps) (joined (field 8 s.answers) (joined (field 8 s.requests)
    (joined (field 8 s.lines) (field 8 s.last_monotonic))))

flag_low : (b : Bool) → flag_of b < 256
flag_low true = omega arith
flag_low false = omega arith

phase : (s : Saved) → Spelled (phase_bytes s)
phase s =
    byte (phase_small s.ended s.machine.later)
    (joined (field 4 (ending_code s.ended)) (byte (flag_low s.input_ended) none))

streams : (s : Saved) → Spelled s.unread → Spelled s.first → Spelled s.second
    → Spelled (streams_bytes s)
streams s unread first second = joined (text s.unread unread)
    (joined (text s.first first) (text s.second second))

place : (f : ShownFrame) → Spelled (place_bytes f)
place f = joined (field 4 f.function) (joined (field 4 f.position) (words f.slots))

places : (frames : List ShownFrame) → Spelled (items_bytes place_bytes frames)
places frames = items ShownFrame (Any ShownFrame) place_bytes (λ f any. place f) frames
    (any_of ShownFrame frames)

machine : (m : MachineState) → Spelled m.memory → Spelled (machine_bytes m)
machine m memory =
    joined (words m.globals)
    (joined (places (reverse m.frames))
    (joined (field 4 (length m.memory / page_size)) memory))

-- ---- files

abbrev IsNamed : Entry → Type 0
IsNamed e = Spelled e.name

entry : (e : Entry) → IsNamed e → Spelled (entry_bytes e)
entry e name = joined (field 2 (length e.name)) (joined name (field 8 e.number))

listing : (fs : Files) → IsFiles fs → (o : Option Path)
    → AllByRecursion IsNamed (entries_under fs o)
listing fs is None = tt
listing fs is (Some p) =
    let es = entries_in p fs.nodes in
    all_sorted IsNamed es
    (among_all Entry IsNamed es
    (λ e among. record { each = text_of_bytes e.name (entry_name fs is p e among).utf8 }))

content : (fs : Files) → IsFiles fs → (k : ℕ) (c : Content) → IsSmallContent c
    → Spelled (content_bytes fs k c)
content fs is k Directory small = byte (omega arith)
    (items Entry IsNamed entry_bytes entry (entries_of fs k) (listing fs is (path_of fs k)))
content fs is k (File bytes) small =
    let held : Spelled bytes = record { each = small.1 } in
    byte (omega arith) (joined (field 8 (length bytes)) held)

node : (fs : Files) → IsFiles fs → (n : FileNode) → IsSmallContent n.content
    → Spelled (node_bytes fs n)
node fs is n small = joined (field 8 n.number) (content fs is n.number n.content small)

files : (fs : Files) → IsFiles fs → Spelled (files_bytes fs)
files fs is =
    joined (field 8 fs.next)
    (items FileNode (λ (n : FileNode). IsSmallContent n.content) (node_bytes fs) (node fs is)
    fs.nodes is.contents)

-- ---- descriptors

type_number_low : (b : Bool) → IsByte (if b then directory_type else regular_file)
type_number_low true = omega arith
type_number_low false = omega arith

target : (fs : Files) (t : Target) → IsTargetIn t → Spelled (target_bytes fs t)
target fs (Stream s) few = byte (omega (arith, few)) (field 8 0)
target fs (Node k) few = byte (type_number_low (is_directory fs k)) (field 8 k)

descriptor : (fs : Files) (d : Numbered) → IsNumberedIn d → Spelled (descriptor_bytes fs d)
descriptor fs d h =
    joined (field 4 d.number) (joined (target fs d.descriptor.target h.descriptor.target)
    (joined (field 8 d.descriptor.offset) (joined (field 2 d.descriptor.flags)
    (joined (field 8 d.descriptor.base) (field 8 d.descriptor.inheriting)))))

-- ---- the whole

mark : (v : Version) → Spelled (process_image_mark v)
mark One = record { each = omega arith }
mark Two = record { each = omega arith }

same_bytes : (a b : List ℕ) → a ≡ b → AllByRecursion IsByte b → Spelled a
same_bytes a b e h = record { each = subst (AllByRecursion IsByte) (sym e) h }

pub is_of_bytes : (m : Module) (config : Settings) (s : Saved) → IsWellTyped m config s
    → AllByRecursion IsByte (process_image s)
is_of_bytes m config s w =
    let within = is_within m config s w in
    let unread = same_bytes s.unread w.process.host.unread w.shown.unread w.host.unread in
    let first = same_bytes s.first w.process.host.first w.shown.first w.host.first.are_bytes in
    let second = same_bytes s.second w.process.host.second w.shown.second
    w.host.second.are_bytes in
    let store = w.process.configuration.store in
    let memory = same_bytes s.machine.memory store.memory w.shown.machine.memory
    w.shown.machine.typed.store.memory.bytes in
    let opened = items Numbered IsNumberedIn (descriptor_bytes s.files) (descriptor s.files)
    (open_from 0 s.descriptors) (open_in s.descriptors within.places).each in
    let whole : Spelled (process_image s) =
    joined (mark s.version) (joined (counts s) (joined (phase s)
    (joined (streams s unread first second) (joined (machine s.machine memory)
    (joined (files s.files within.files) opened))))) in whole.each
