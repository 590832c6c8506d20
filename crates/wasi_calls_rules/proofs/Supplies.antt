-- What holds of each byte that a host or an answer supplies holds of what the calls make of them.
use Rattle.std.proofs.Common.{◌≡◌, ℕ, ◌+◌, ◌%◌, List, [], ◌∷◌, ◌++◌, length, drop, refl}
use Rattle.std.specs.Prelude.{Bool, true, false, if◌then◌else◌, Option, Some, None, option_map}
use Rattle.std.specs.Prelude.{find, ◌==◌}
use Rattle.std.specs.Option.{option_and_then}
use Rattle.std.specs.List.{AllByRecursion}
use Rattle.guest_memory.specs.rules.Bytes.{bytes_of}
use Rattle.wasi_abi.specs.declared.answer.Answer.{Answer}
use Rattle.wasi_abi.specs.declared.answer.Answer.TheVariants as answer
use Rattle.wasi_abi.specs.rules.Layouts.{padding, fdstat_bytes, filestat_bytes, prestat_bytes}
use Rattle.wasi_abi.specs.rules.Layouts.{dirent_head_bytes}
use Rattle.wasi_abi.specs.rules.Numbers.{character_device}
use Rattle.file_tree.specs.rules.Files.{Name, Path, Content, Directory, File, FileNode, Files}
use Rattle.file_tree.specs.rules.Files.{Entry, is_directory, is_same_name, path_of}
use Rattle.file_tree.specs.rules.Files.{bytes_of_content, bytes_held, bytes_of_node, name_behind}
use Rattle.file_tree.specs.rules.Files.{is_before, inserted, sorted, entry_of, entries_in}
use Rattle.file_tree.specs.rules.Files.{entries_under, entries_of}
use Rattle.wasi_calls_rules.specs.WasiStates.{Target, Stream, Node, WasiState}
use Rattle.wasi_calls_rules.specs.Checks.{Bytes}
use Rattle.wasi_calls_rules.specs.Small.{file_type_of, filestat_bytes_of, links_of}
use Rattle.wasi_calls_rules.specs.Entries.{node_type, listed}
use Rattle.wasi_calls_rules.proofs.Puts.{number_holds}
use Rattle.guest_memory.proofs.Lists.{all_both, all_drop, all_replicate}

abbrev pub PathHolds : (ℕ → Type 0) → Option Path → Type 0
PathHolds Q None = Unit {0}
PathHolds Q (Some path) = AllByRecursion (AllByRecursion Q) path

abbrev pub ContentHolds : (ℕ → Type 0) → Content → Type 0
ContentHolds Q Directory = Unit {0}
ContentHolds Q (File bytes) = AllByRecursion Q bytes

pub record NodeHolds (Q : ℕ → Type 0) (n : FileNode) : Type 0 where
  pub path : PathHolds Q n.path
  pub content : ContentHolds Q n.content

-- of each byte that the host can supply
pub record Supplies (Q : ℕ → Type 0) (h : WasiState) : Type 0 where
  pub files : AllByRecursion (NodeHolds Q) h.files.nodes
  pub unread : AllByRecursion Q h.unread
  pub arguments : AllByRecursion (AllByRecursion Q) h.arguments
  pub environment : AllByRecursion (AllByRecursion Q) h.environment

abbrev pub AnswerHolds : (ℕ → Type 0) → Answer → Type 0
AnswerHolds Q (answer.Request text) = AllByRecursion Q text
AnswerHolds Q (answer.Random bytes) = AllByRecursion Q bytes
AnswerHolds Q _ = Unit {0}

record Each (Q : ℕ → Type 0) (bytes : Bytes) : Type 0 where
  each : AllByRecursion Q bytes

module _ (Q : ℕ → Type 0) (low : (x : ℕ) → Q (x % 256)) where
  chosen : (b : Bool) (x y : ℕ) → Q x → Q y → Q (if b then x else y)
  chosen true x y h k = h
  chosen false x y h k = k

  -- ---- layouts

  both : {xs ys : Bytes} → Each Q xs → Each Q ys → Each Q (xs ++ ys)
  both {xs} {ys} h k = record { each = all_both Q xs ys h.each k.each }

  front : {x : ℕ} {xs : Bytes} → Q x → Each Q xs → Each Q (x ∷ xs)
  front h k = record { each = (h, k.each) }

  zeros : (n : ℕ) → Each Q (padding n)
  zeros n = record { each = all_replicate Q n 0 (low 0) }

  number : (n x : ℕ) → Each Q (bytes_of n x)
  number n x = record { each = number_holds Q low n x }

  pub fdstat_holds : (file_type flags base inheriting : ℕ) → Q file_type
      → AllByRecursion Q (fdstat_bytes file_type flags base inheriting)
  fdstat_holds file_type flags base inheriting t =
      (front t (both (zeros 1)
      (both (number 2 flags)
      (both (zeros 4) (both (number 8 base) (number 8 inheriting)))))).each

  pub filestat_holds : (node file_type links size : ℕ) → Q file_type
      → AllByRecursion Q (filestat_bytes node file_type links size)
  filestat_holds node file_type links size t =
      (both (zeros 8)
      (both (number 8 node)
      (front t (both (zeros 7)
      (both (number 8 links) (both (number 8 size) (zeros 24))))))).each

  pub prestat_holds : (n : ℕ) → AllByRecursion Q (prestat_bytes n)
  prestat_holds n = (both (zeros 4) (number 4 n)).each

  head_holds : (next node n file_type : ℕ) → Q file_type
      → Each Q (dirent_head_bytes next node n file_type)
  head_holds next node n file_type t =
      both (number 8 next) (both (number 8 node) (both (number 4 n) (front t (zeros 3))))

  pub file_type_holds : (h : WasiState) (t : Target) → Q (file_type_of h t)
  file_type_holds h (Stream s) = low 2
  file_type_holds h (Node k) = chosen (is_directory h.files k) 3 4 (low 3) (low 4)

  pub filestat_of_holds : (h : WasiState) (t : Target) → AllByRecursion Q (filestat_bytes_of h t)
  filestat_of_holds h (Stream s) = filestat_holds 0 character_device 1 0 (low 2)
  filestat_of_holds h (Node k) =
      filestat_holds k (file_type_of h (Node k)) (links_of h.files k)
      (length (bytes_of_node h.files k)) (file_type_holds h (Node k))

  -- ---- files

  found : (test : FileNode → Bool) (nodes : List FileNode) → AllByRecursion (NodeHolds Q) nodes
      → AllByRecursion Q (bytes_held (find test nodes))
  found test [] h = tt
  found test (n ∷ nodes) h = either (test n) (found test nodes h.1)
    where
      here : (c : Content) → ContentHolds Q c → AllByRecursion Q (bytes_of_content c)
      here Directory k = tt
      here (File bytes) k = k

      either : (b : Bool) → AllByRecursion Q (bytes_held (find test nodes))
          → AllByRecursion Q (bytes_held (if b then Some n else find test nodes))
      either true rest = here n.content h.0.content
      either false rest = rest

  pub file_holds : (h : WasiState) (k : ℕ) → Supplies Q h → AllByRecursion Q
      (bytes_of_node h.files k)
  file_holds h k s = found (λ (n : FileNode). n.number == k) h.files.nodes s.files

  -- ---- entries

  NameHolds : Option Name → Type 0
  NameHolds None = Unit {0}
  NameHolds (Some name) = AllByRecursion Q name

  name_behind_holds : (front path : Path) → AllByRecursion (AllByRecursion Q) path
      → NameHolds (name_behind front path)
  unfolding NameHolds
  name_behind_holds [] [] h = tt
  name_behind_holds [] (name ∷ []) h = h.0
  name_behind_holds [] (name ∷ other ∷ path) h = tt
  name_behind_holds (a ∷ front) [] h = tt
  name_behind_holds (a ∷ front) (b ∷ path) h =
      either (is_same_name a b) (name_behind_holds front path h.1)
    where
      either : (t : Bool) → NameHolds (name_behind front path)
          → NameHolds (if t then name_behind front path else None)
      either true rest = rest
      either false rest = tt

  EntriesHold : List Entry → Type 0
  EntriesHold entries = AllByRecursion (λ (e : Entry). AllByRecursion Q e.name) entries

  EntryHolds : Option Entry → Type 0
  EntryHolds None = Unit {0}
  EntryHolds (Some e) = AllByRecursion Q e.name

  named : (number : ℕ) (o : Option Name) → NameHolds o
      → EntryHolds (option_map (λ name. record { name = name; number = number }) o)
  unfolding NameHolds EntryHolds
  named number None h = tt
  named number (Some name) h = h

  entry_holds : (p : Path) (number : ℕ) (path : Option Path) → PathHolds Q path
      → EntryHolds (option_map (λ name. record {
        name = name;
        number = number;
      }) (option_and_then (name_behind p) path))
  unfolding EntryHolds
  entry_holds p number None h = tt
  entry_holds p number (Some path) h =
      named number (name_behind p path) (name_behind_holds p path h)

  -- the entry of a node is before the others, where it has one
  one_more : (p : Path) (n : FileNode) (nodes : List FileNode) (o : Option Entry)
      → entry_of p n ≡ o → EntryHolds o → EntriesHold (entries_in p nodes)
      → EntriesHold (entries_in p (n ∷ nodes))
  unfolding EntryHolds EntriesHold
  one_more p n nodes None e h rest = rw e rest
  one_more p n nodes (Some entry) e h rest = rw e (h, rest)

  entries_in_hold : (p : Path) (nodes : List FileNode) → AllByRecursion (NodeHolds Q) nodes
      → EntriesHold (entries_in p nodes)
  unfolding EntriesHold
  entries_in_hold p [] h = tt
  entries_in_hold p (n ∷ nodes) h =
      one_more p n nodes (entry_of p n) refl (entry_holds p n.number n.path h.0.path)
      (entries_in_hold p nodes h.1)

  inserted_hold : (e : Entry) (entries : List Entry) → AllByRecursion Q e.name → EntriesHold entries
      → EntriesHold (inserted e entries)
  unfolding EntriesHold
  inserted_hold e [] h k = (h, tt)
  inserted_hold e (f ∷ entries) h k =
      either (is_before e.name f.name) (inserted_hold e entries h k.1)
    where
      either : (b : Bool) → EntriesHold (inserted e entries)
          → EntriesHold (if b then e ∷ f ∷ entries else f ∷ inserted e entries)
      either true rest = (h, k)
      either false rest = (k.0, rest)

  sorted_hold : (entries : List Entry) → EntriesHold entries → EntriesHold (sorted entries)
  unfolding EntriesHold
  sorted_hold [] h = tt
  sorted_hold (e ∷ entries) h = inserted_hold e (sorted entries) h.0 (sorted_hold entries h.1)

  under_hold : (fs : Files) (o : Option Path) → AllByRecursion (NodeHolds Q) fs.nodes
      → EntriesHold (entries_under fs o)
  unfolding EntriesHold
  under_hold fs None h = tt
  under_hold fs (Some p) h = sorted_hold (entries_in p fs.nodes) (entries_in_hold p fs.nodes h)

  listed_holds : (fs : Files) (place : ℕ) (entries : List Entry)
      → AllByRecursion (λ (e : Entry). AllByRecursion Q e.name) entries
      → AllByRecursion Q (listed fs place entries)
  listed_holds fs place [] h = tt
  listed_holds fs place (e ∷ entries) h =
      let type_of : Q (node_type fs e.number) =
      chosen (is_directory fs e.number) 3 4 (low 3) (low 4) in
      let head = head_holds (place + 1) e.number (length e.name) (node_type fs e.number) type_of in
      let name : Each Q e.name = record { each = h.0 } in
      let rest : Each Q (listed fs (place + 1) entries) =
      record { each = listed_holds fs (place + 1) entries h.1 } in
      (both (both head name) rest).each

  -- what a directory's entries spell after a place
  pub entries_hold : (h : WasiState) (k cookie : ℕ) → Supplies Q h
      → AllByRecursion Q (listed h.files cookie (drop cookie (entries_of h.files k)))
  unfolding EntriesHold
  entries_hold h k cookie s =
      listed_holds h.files cookie (drop cookie (entries_of h.files k))
      (all_drop (λ (e : Entry). AllByRecursion Q e.name) cookie (entries_of h.files k)
      (under_hold h.files (path_of h.files k) s.files))
