-- What is refused belongs to no well-typed process.
use Rattle.std.proofs.Common.{◌≡◌, ◌≢◌, inl, inr, ℕ, zero, suc, ◌+◌, ◌*◌, ◌^◌, ◌<◌, ◌≤◌, eqb}
use Rattle.std.proofs.Common.{List, [], ◌∷◌, ◌++◌, length, length-append, Option, Some, None, refl}
use Rattle.std.proofs.Common.{sym, ap, subst, ◌∙◌, arith}
use Rattle.std.specs.Prelude.{slice_get, find, IfSome}
use Rattle.std.specs.List.{AllByRecursion}
use Rattle.std.proofs.lemmas.List.Sums.{sum_by-cons}
use Rattle.wasm_syntax.specs.declared.module.Module.{Module}
use Rattle.wasm_syntax.specs.laws.Examples.{hello}
use Rattle.wasm_rules.specs.Validity.{memories_of}
use Rattle.wasm_rules.specs.Instantiation.{least_pages_of}
use Rattle.wasi_abi.specs.rules.Versions.{text_limit, widenings}
use Rattle.wasi_abi.specs.rules.Answers.{IsNoNewline, AreBytes}
use Rattle.wasi_abi.specs.rules.Configs.{Settings}
use Rattle.file_tree.specs.rules.Files.{Name, Path, Directory, File, FileNode, Files}
use Rattle.file_tree.specs.rules.Files.{bytes_of_content, node_of, used, IsPlaced}
use Rattle.file_tree.specs.rules.Files.{HaveDistinctPaths, IsFiles}
use Rattle.wasi_calls_rules.specs.WasiStates.{Stream, Node, Descriptor, IsThere}
use Rattle.wasi_calls_rules.specs.WasiStates.{IsDescriptor, IsStreamAt}
use Rattle.wasi_calls_rules.specs.Lines.{rest_of}
use Rattle.wasi_calls_rules.specs.laws.Scenes.{root_node}
use Rattle.wasi_calls_rules.specs.declared.output_stream.OutputStream.TheVariants.{Stdout, Stderr}
use Rattle.process_rules.specs.Processes.{Ending, Exited}
use Rattle.state_image.specs.rules.ProcessImage.{Saved, ending_code}
use Rattle.state_image.specs.rules.WellTyped.{EntryPoints, IsCalled, IsAlive, IsWellTyped, slots_in}
use Rattle.state_image.specs.laws.Refusals.{HasNodes, under_name, below_a, RefusesMachines}
use Rattle.state_image.specs.laws.Refusals.{IsOpenAt, RefusesCounts}
use Rattle.state_image.specs.laws.Refusals.{RefusesStreams, RefusesFiles, RefusesDescriptors}
use Rattle.state_image.proofs.Among.{IsAmong}
use Rattle.state_image.proofs.FilesWithin.{one_last}
use Rattle.state_image.proofs.PathsTold.{is_at}
use Rattle.state_image.proofs.Room.{memory_long}
use Rattle.state_image.proofs.Whole.{called, is_within}

-- ---- counts

pub counts_refused : (config : Settings) → RefusesCounts config
counts_refused config = record {
  late = λ m s w e. late m s w e;
  many_steps = λ m s w e.
      (let steps : s.steps < 2 ^ 63 = w.steps in absurd (omega (arith, steps, e)));
  many_lines = λ m s w e. lines m s w e;
  more_answers = λ m s w e. absurd (omega (arith, w.answers, ap widenings e.0, e.1));
  many_answers_in_two = λ m s w e. absurd (omega (arith, w.answers, ap widenings e.0, e.1));
  more_requests = λ m s w e. absurd (omega (arith, w.requests, e));
  many_numbers = λ m s w e. absurd (omega (arith, w.next, e));
} where
  late : (m : Module) (s : Saved) → IsWellTyped m config s → s.last_monotonic ≡ 2 ^ 64 → ⊥
  late m s w e =
      let time : w.process.host.last_monotonic < 2 ^ 64 = w.host.last_monotonic in
      absurd (omega (arith, time, w.shown.last_monotonic, e))

  lines : (m : Module) (s : Saved) → IsWellTyped m config s → s.lines + 2 ≡ 2 ^ 63 → ⊥
  lines m s w e =
      let h = w.process.host in
      let all : length (h.lines ++ (rest_of Stdout h.first ++ rest_of Stderr h.second)) + 2
      < 2 ^ 63 = w.lines in
      absurd (omega (
        arith,
        all,
        length-append h.lines (rest_of Stdout h.first ++ rest_of Stderr h.second),
        w.shown.lines,
        e,
      ))

-- ---- streams

alive_at_end : (s : Saved) (o : Option Ending) → o ≢ None → IsAlive o s
    → (s.machine.frames ≡ []) × (s.first ≡ [])
alive_at_end s None ended h = absurd (ended refl)
alive_at_end s (Some why) ended h = (h.0, h.2)

alive_running : (s : Saved) (o : Option Ending) → o ≡ None → IsAlive o s → s.machine.frames ≢ []
alive_running s None none h = h
alive_running s (Some why) none h = absurd cc

not_two : (b : EntryPoints) (later : List ℕ) (f : ℕ) → length later ≡ 2 → IsCalled b later f → ⊥
not_two b [] f e h = absurd (omega (arith, e))
not_two b (x ∷ []) f e h = absurd (omega (arith, e))
not_two b (x ∷ y ∷ later) f e h = h

pub streams_refused : (config : Settings) → RefusesStreams config
streams_refused config = record {
  much_unread = λ m s w e. absurd (omega (arith, w.unread, ap text_limit e.0, e.1));
  much_unread_in_two = λ m s w e. absurd (omega (arith, w.unread, ap text_limit e.0, e.1));
  no_byte = λ m s w e. no_byte m s w e;
  long_line = λ m s w e. long m s w e;
  newline_in_line = λ m s w e. newline m s w e;
  wide_code = λ m s w e. wide m s w e;
  frames_at_end = λ m s w e. e.1 (alive_at_end s s.ended e.0 w.alive).0;
  line_at_end = λ m s w e. e.1 (alive_at_end s s.ended e.0 w.alive).1;
  no_frame = λ m s w e. alive_running s s.ended e.0 w.alive e.1;
  two_to_come = λ m s w e. two m s w e.0 e.1;
} where
  wide : (m : Module) (s : Saved) → IsWellTyped m config s → s.ended ≡ Some (Exited (2 ^ 32)) → ⊥
  wide m s w e =
      let code : ending_code s.ended < 2 ^ 32 = w.bounds.code in
      let same : ending_code s.ended ≡ 2 ^ 32 = ap ending_code e in
      absurd (omega (arith, code, same))

  no_byte : (m : Module) (s : Saved) → IsWellTyped m config s → s.unread ≡ 256 ∷ [] → ⊥
  no_byte m s w e =
      let are : AreBytes (256 ∷ []) = subst AreBytes (sym w.shown.unread ∙ e) w.host.unread in
      let byte : 256 < 256 = are.0 in
      absurd (omega (arith, byte))

  long : (m : Module) (s : Saved) → IsWellTyped m config s → length s.first ≡ 4097 → ⊥
  long m s w e =
      let short : length w.process.host.first ≤ 4096 = w.host.first.short in
      absurd (omega (arith, short, ap length w.shown.first, e))

  newline : (m : Module) (s : Saved) → IsWellTyped m config s → s.second ≡ 97 ∷ 10 ∷ [] → ⊥
  newline m s w e =
      let none : AllByRecursion IsNoNewline (97 ∷ 10 ∷ []) = subst (AllByRecursion IsNoNewline)
      (sym w.shown.second ∙ e) w.host.second.no_newline in
      none.1.0 refl

  two : (m : Module) (s : Saved) → IsWellTyped m config s → s.ended ≡ None
      → length s.machine.later ≡ 2 → ⊥
  two m s w none e =
      let b : EntryPoints = record { start = m.start; entry = w.begins.entry } in
      let f = called b s.machine.later s.machine.frames (alive_running s s.ended none w.alive)
      w.outermost in
      not_two b s.machine.later f.0 e f.1

-- ---- the machine

pub machines_refused : (config : Settings) → RefusesMachines config
machines_refused config = record {
  many_frames = λ m s w e. (let few : length s.machine.frames ≤ 512 = w.shown.machine.few_frames in
      absurd (omega (arith, few, e)));
  many_slots = λ m s w e. (let slots : slots_in s.machine.frames ≤ 69632 = w.bounds.slots in
      absurd (omega (arith, slots, e)));
  many_globals = λ m s w e. (let globals : length s.machine.globals ≤ 1024 = w.bounds.globals in
      absurd (omega (arith, globals, e)));
  part_of_page = λ m s w e. part m s w e;
  few_pages = few;
  no_page = λ s w e. few hello s w (let none = ap length e in omega (arith, none));
  many_pages = λ m s w e. absurd (omega (arith, memory_long m config s w, e));
} where
  few : (m : Module) (s : Saved) → IsWellTyped m config s
      → length s.machine.memory < least_pages_of (memories_of m) * 65536 → ⊥
  few m s w e =
      let store = w.shown.machine.typed.store.memory in
      let whole : length w.process.configuration.store.memory ≡ store.pages * 65536 =
      store.whole in
      let least : least_pages_of (memories_of m) ≤ store.pages =
      subst (λ z. z ≤ store.pages) w.begins.begins.is_program.least_pages store.least in
      absurd (omega (arith, whole, least, ap length w.shown.machine.memory, e))

  part : (m : Module) (s : Saved) → IsWellTyped m config s → length s.machine.memory ≡ 65537 → ⊥
  part m s w e =
      let store = w.shown.machine.typed.store.memory in
      let whole : length w.process.configuration.store.memory ≡ store.pages * 65536 =
      store.whole in
      absurd (omega (arith, whole, ap length w.shown.machine.memory, e))

-- ---- files

files_of : (m : Module) (config : Settings) (s : Saved) → IsWellTyped m config s → IsFiles s.files
files_of m config s w = (is_within m config s w).files

-- the bytes of a file beside the root
used_is : (next : ℕ) (name bytes : List ℕ)
    → used (record { nodes = root_node ∷ under_name 2 name (File bytes) ∷ []; next = next })
    ≡ length bytes
used_is next name bytes =
    omega (
      arith,
      sum_by-cons (λ (n : FileNode). length (bytes_of_content n.content)) root_node
          (under_name 2 name (File bytes) ∷ []),
      sum_by-cons (λ (n : FileNode). length (bytes_of_content n.content))
          (under_name 2 name (File bytes)) [],
    )

-- the second of two nodes is placed
second_placed : (fs : Files) (n : FileNode) → IsFiles fs → fs.nodes ≡ root_node ∷ n ∷ []
    → IfSome n.path (IsPlaced fs)
second_placed fs n is e =
    let all : AllByRecursion (λ (x : FileNode). IfSome x.path (IsPlaced fs)) (root_node ∷ n ∷ []) =
    subst (AllByRecursion (λ (x : FileNode). IfSome x.path (IsPlaced fs))) e is.placed in
    all.1.0

-- a path in front of one name
front_is : (p : Path) (name : Name) → (97 ∷ []) ∷ (98 ∷ []) ∷ [] ≡ p ++ name ∷ []
    → p ≡ (97 ∷ []) ∷ []
front_is [] name e = absurd (omega (arith, ap length e))
front_is (a ∷ []) name e =
    (let first : (97 ∷ []) ≡ a = cc in ap (λ (x : Name). x ∷ []) (sym first))
front_is (a ∷ b ∷ p) name e = absurd (omega (arith, ap length e, length-append p (name ∷ [])))

abbrev just : Path → Option Path
just p = Some p

-- neither of the two has the path `a`
none_at_a : (n : FileNode) → IsAmong n (root_node ∷ below_a ∷ [])
    → n.path ≡ just ((97 ∷ []) ∷ []) → ⊥
none_at_a n (inl e) is = not_root (sym (ap (λ (x : FileNode). x.path) e) ∙ is) where
  not_root : just [] ≡ just ((97 ∷ []) ∷ []) → ⊥
  not_root t = absurd cc
none_at_a n (inr (inl e)) is = not_below (sym (ap (λ (x : FileNode). x.path) e) ∙ is) where
  not_below : just ((97 ∷ []) ∷ (98 ∷ []) ∷ []) ≡ just ((97 ∷ []) ∷ []) → ⊥
  not_below t = absurd cc
none_at_a n (inr (inr h)) is = h

not_placed : (fs : Files) → fs.nodes ≡ root_node ∷ below_a ∷ []
    → IsPlaced fs ((97 ∷ []) ∷ (98 ∷ []) ∷ []) → ⊥
not_placed fs e (inl none) = absurd cc
not_placed fs e (inr h) =
    let parent : h.1 ≡ (97 ∷ []) ∷ [] = front_is h.1 h.2 h.3 in
    let at = is_at fs h.0 ((97 ∷ []) ∷ []) (h.5 ∙ ap (λ (p : Path). Some p) parent) in
    none_at_a at.node (subst (IsAmong at.node) e at.among) at.path

no_slash : (fs : Files) → IsPlaced fs ((97 ∷ 47 ∷ []) ∷ []) → ⊥
no_slash fs (inl none) = absurd cc
no_slash fs (inr h) =
    let same : 97 ∷ 47 ∷ [] ≡ h.2 = one_last [] h.1 (97 ∷ 47 ∷ []) h.2 h.3 in
    let bytes = subst (AllByRecursion (λ (b : ℕ). (b ≢ 0) × (b ≢ 47))) (sym same) h.4.bytes in
    bytes.1.0.1 refl

pub files_refused : (config : Settings) → RefusesFiles config
files_refused config = record {
  over_room = λ m s w e. over m s w e.0 e.1 e.2 e.3;
  one_name_twice = λ m s w e. twice (files_of m config s w) e.0 e.1;
  no_parent = λ m s w e. not_placed s.files e
      (second_placed s.files below_a (files_of m config s w) e);
  slash_in_name = λ m s w e. no_slash s.files
      (second_placed s.files (under_name 2 (97 ∷ 47 ∷ []) Directory) (files_of m config s w) e);
  lost_node = λ m s w e. lost m s w e.0 e.1;
} where
  over : (m : Module) (s : Saved) → IsWellTyped m (record config { files = 1 }) s
      → (name bytes : List ℕ) → length bytes ≡ 65537
      → HasNodes s (under_name 2 name (File bytes) ∷ []) → ⊥
  over m s w name bytes long e =
      let files : Files = record
      { nodes = root_node ∷ under_name 2 name (File bytes) ∷ []; next = s.files.next } in
      let same : w.process.host.files ≡ files = sym w.shown.files ∙ ap
      (λ (ns : List FileNode). files_with ns s.files.next) e in
      let room : w.process.host.room ≡ 65536 = w.configured.room in
      absurd (omega (
        arith,
        w.host.within,
        room,
        ap used same,
        used_is s.files.next name bytes,
        long,
      ))
    where
      files_with : List FileNode → ℕ → Files
      files_with ns next = record { nodes = ns; next = next }

  twice : {fs : Files} → IsFiles fs → (name : List ℕ)
      → fs.nodes ≡ root_node ∷ under_name 2 name Directory ∷ under_name 3 name (File []) ∷ [] → ⊥
  twice is name e =
      let apart : HaveDistinctPaths
      (root_node ∷ under_name 2 name Directory ∷ under_name 3 name (File []) ∷ []) = subst
      HaveDistinctPaths e is.distinct in
      apart.1.0.0 (name ∷ []) refl refl

  lost : (m : Module) (s : Saved) → IsWellTyped m config s
      → HasNodes s (record { number = 2; path = None; content = Directory } ∷ [])
      → ((n : ℕ) (d : Descriptor) → IsOpenAt s n d → d.target ≢ Node 2) → ⊥
  lost m s w e none =
      let gone : FileNode = record { number = 2; path = None; content = Directory } in
      let nodes : w.process.host.files.nodes ≡ root_node ∷ gone ∷ [] = ap (λ (fs : Files). fs.nodes)
      (sym w.shown.files) ∙ e in
      let found : node_of w.process.host.files 2 ≡ Some gone = ap
      (find (λ (n : FileNode). eqb n.number 2)) nodes in
      let open_at = w.host.open_nodes 2 (gone, found, refl) in
      none open_at.0 open_at.1
      (ap (λ (ds : List (Option Descriptor)). slice_get ds open_at.0) w.shown.descriptors
      ∙ open_at.2) open_at.3

-- ---- descriptors

-- what is at a number
at_number : (P : Descriptor → Type 0) (ds : List (Option Descriptor)) (n : ℕ) (d : Descriptor)
    → AllByRecursion (λ (o : Option Descriptor). IfSome o P) ds → slice_get ds n ≡ Some (Some d)
    → P d
at_number P [] n d h e = absurd cc
at_number P (o ∷ ds) zero d h e =
    (let same : o ≡ Some d = cc in subst (λ (x : Option Descriptor). IfSome x P) same h.0)
at_number P (o ∷ ds) (suc n) d h e = at_number P ds n d h.1 e

-- a descriptor of the process that is shown
shown_at : (m : Module) (config : Settings) (s : Saved) (w : IsWellTyped m config s) (n : ℕ)
    (o : Option Descriptor) → slice_get s.descriptors n ≡ Some o
    → slice_get w.process.host.descriptors n ≡ Some o
shown_at m config s w n o e = ap (λ (ds : List (Option Descriptor)). slice_get ds n)
    (sym w.shown.descriptors) ∙ e

stream_at : (m : Module) (config : Settings) (s : Saved) → IsWellTyped m config s
    → (n k : ℕ) (d : Descriptor) → IsOpenAt s n d → d.target ≡ Stream k → IsStreamAt n k d
stream_at m config s w n k d e t = w.host.streams n k d (shown_at m config s w n (Some d) e) t

descriptor_at : (m : Module) (config : Settings) (s : Saved) (w : IsWellTyped m config s) (n : ℕ)
    (d : Descriptor) → IsOpenAt s n d → IsDescriptor w.process.host.files d
descriptor_at m config s w n d e = at_number (IsDescriptor w.process.host.files)
    w.process.host.descriptors n d w.host.descriptors (shown_at m config s w n (Some d) e)

-- the root's descriptor
root_at : (m : Module) (config : Settings) (s : Saved) (w : IsWellTyped m config s)
    (o : Option Descriptor) → slice_get s.descriptors 3 ≡ Some o
    → (d : Descriptor) × (o ≡ Some d) × (d.target ≡ Node 1)
root_at m config s w o e = (
  w.host.root.0,
  some_is o (Some w.host.root.0)
      (sym (shown_at m config s w 3 o e) ∙ w.host.root.1),
  w.host.root.2,
) where
  some_is : (x y : Option Descriptor) → Some x ≡ Some y → x ≡ y
  some_is x y e = cc

some_descriptor : (x y : Descriptor) → Some x ≡ Some y → x ≡ y
some_descriptor x y e = cc

node_number : (j k : ℕ) → Node j ≡ Node k → j ≡ k
node_number j k e = cc

pub descriptors_refused : (config : Settings) → RefusesDescriptors config
descriptors_refused config = record {
  stream_elsewhere = λ m s w e. absurd
      (omega (arith, (stream_at m config s w 0 1 e.0 e.1 e.2).number));
  stream_as_directory = λ m s w e. directory m s w e;
  fourth_stream = λ m s w e. absurd
      (omega (arith, (stream_at m config s w e.0 3 e.1 e.2 e.3).few));
  other_root = λ m s w e. other m s w e.0 e.1 e.2;
  no_root = λ m s w e. (let r = root_at m config s w None e in none_some r.0 r.1);
  missing_node = λ m s w e. missing m s w e.0 e.1.1 (descriptor_at m config s w e.1.0 e.1.1 e.1.2)
      e.1.3;
  far_offset = λ m s w e.
      (let offset : e.1.offset < 2 ^ 63 = (descriptor_at m config s w e.0 e.1 e.2).offset in absurd
      (omega (arith, offset, e.3)));
  other_flags = λ m s w e.
      (let flags : e.1.flags ≤ 31 = (descriptor_at m config s w e.0 e.1 e.2).flags in absurd
      (omega (arith, flags, e.3)));
} where
  none_some : (d : Descriptor) → None ≡ Some d → ⊥
  none_some d e = absurd cc

  directory : (m : Module) (s : Saved) → IsWellTyped m config s
      → IsOpenAt s 0 (record
      { target = Stream 0; offset = 0; flags = 0; base = 103769617; inheriting = 107964031 }) → ⊥
  directory m s w e =
      let rights : 103769617 ≡ 2097154 =
      (stream_at m config s w 0 0
      (record {
        target = Stream 0;
        offset = 0;
        flags = 0;
        base = 103769617;
        inheriting =
            107964031;
      }) e refl).base in
      absurd (omega (arith, rights))

  other : (m : Module) (s : Saved) → IsWellTyped m config s → (d : Descriptor) → IsOpenAt s 3 d
      → d.target ≡ Node 2 → ⊥
  other m s w d e t =
      let r = root_at m config s w (Some d) e in
      let same : d ≡ r.0 = some_descriptor d r.0 r.1 in
      absurd (omega (
        arith,
        node_number 2 1
            (sym t ∙ ap (λ (x : Descriptor). x.target) same ∙ r.2),
      ))

  missing : (m : Module) (s : Saved) (w : IsWellTyped m config s) → HasNodes s []
      → (d : Descriptor) → IsDescriptor w.process.host.files d → d.target ≡ Node 2 → ⊥
  missing m s w e d is t =
      let nodes : w.process.host.files.nodes ≡ root_node ∷ [] = ap (λ (fs : Files). fs.nodes)
      (sym w.shown.files) ∙ e in
      let none : node_of w.process.host.files 2 ≡ None = ap
      (find (λ (n : FileNode). eqb n.number 2)) nodes in
      not_there w.process.host.files none (subst (IsThere w.process.host.files) t is.there)
    where
      not_there : (fs : Files) → node_of fs 2 ≡ None → IsThere fs (Node 2) → ⊥
      not_there fs none there = (rw none at there)
