-- A call that is done leaves bytes in the host where there were bytes.
use Rattle.std.proofs.Common.{◌≡◌, ℕ, ◌<◌, Bool, true, false, eqb, List, [], ◌∷◌, ◌++◌, map, drop}
use Rattle.std.proofs.Common.{filter, Option, Some, None, refl, sym, subst, arith}
use Rattle.std.specs.Prelude.{◌==◌, ◌&&◌, not, if◌then◌else◌, nat_lt, option_map, IfSome, Ok}
use Rattle.std.specs.List.{AllByRecursion, list_any}
use Rattle.std.proofs.lemmas.Bool.{ltb-true}
use Rattle.wasi_abi.specs.declared.call.Call.{Call}
use Rattle.wasi_abi.specs.declared.errno.Errno.TheVariants.{Noent}
use Rattle.wasi_abi.specs.rules.Answers.{newline, AreBytes}
use Rattle.guest_memory.specs.rules.Bytes.{IsByte}
use Rattle.guest_memory.proofs.Lists.{all_both, all_drop}
use Rattle.file_tree.specs.rules.Files.{Name, Path, Content, Directory, File, FileNode, Files}
use Rattle.file_tree.specs.rules.Files.{is_same_name, node_of, path_of, bytes_of_content}
use Rattle.file_tree.specs.rules.Files.{bytes_held, bytes_of_node, changed_at, created, removed}
use Rattle.file_tree.specs.rules.Files.{with_file_bytes}
use Rattle.file_tree.specs.rules.Files.{forgotten, path_behind, path_moved, with_new_front, renamed}
use Rattle.file_tree.proofs.Rebuilt.{all_found, path_there}
use Rattle.wasi_calls_rules.specs.WasiStates.{Target, Stream, Node, Descriptor, WasiState}
use Rattle.wasi_calls_rules.specs.Checks.{Bytes, has_bytes_alone}
use Rattle.wasi_calls_rules.specs.Lines.{stream_written}
use Rattle.wasi_calls_rules.specs.declared.output_stream.OutputStream.{OutputStream}
use Rattle.wasi_calls_rules.specs.Paths.{Leaf}
use Rattle.wasi_calls_rules.specs.Small.{names, has_path, swept}
use Rattle.wasi_calls_rules.specs.Entries.{whole_path, cut_if, without, renamed_over}
use Rattle.wasi_calls_rules.specs.laws.Laws.{IsPathOfBytes, IsContentOfBytes, IsNodeOfBytes}
use Rattle.wasi_calls_rules.specs.laws.Laws.{IsOfBytes, CallRulesKeepStatesOfBytes}
use Rattle.wasi_calls_rules.proofs.Steps.{some_there}
use Rattle.wasi_calls_rules.proofs.WasiStateChanges.{Making, Renaming, Becomes, stays}
use Rattle.wasi_calls_rules.proofs.WasiStateChanges.{leaves_unread, takes_text, closes}
use Rattle.wasi_calls_rules.proofs.WasiStateChanges.{writes_stream, rewrites, writes_file, makes}
use Rattle.wasi_calls_rules.proofs.WasiStateChanges.{opens_new, opens, loses, renames}
use Rattle.wasi_calls_rules.proofs.CallRuleChanges.{changes}
use Rattle.wasi_calls_rules.proofs.KeptLines.{stream_either}
use Rattle.wasi_calls_rules.proofs.GivenNames.{ends_well}

-- ---- lists

all_kept : {X : Type 0} (P : X → Type 0) (test : X → Bool) (xs : List X) → AllByRecursion P xs
    → AllByRecursion P (filter test xs)
all_kept P test [] h = tt
all_kept P test (x ∷ xs) h = by_test (test x) (all_kept P test xs h.1) where
  by_test : (t : Bool) → AllByRecursion P (filter test xs)
      → AllByRecursion P (if t then x ∷ filter test xs else filter test xs)
  by_test true rest = (h.0, rest)
  by_test false rest = rest

all_mapped : {X : Type 0} (P : X → Type 0) (f : X → X) (xs : List X) → ((x : X) → P x → P (f x))
    → AllByRecursion P xs → AllByRecursion P (map f xs)
all_mapped P f [] g h = tt
all_mapped P f (x ∷ xs) g h = (g x h.0, all_mapped P f xs g h.1)

pub text_bytes : (text : Bytes) → has_bytes_alone text ≡ true → AreBytes text
text_bytes [] e = tt
text_bytes (b ∷ text) e =
    let parts = both (nat_lt b 256) (has_bytes_alone text) e in
    (ltb-true b 256 parts.0, text_bytes text parts.1)
  where
    both : (s t : Bool) → (s && t) ≡ true → (s ≡ true) × (t ≡ true)
    both true t e = (refl, e)
    both false t e = absurd (cc)

-- a request's text and the newline after it
pub request_bytes : (n : ℕ) (text : Bytes) → has_bytes_alone text ≡ true
    → AreBytes (drop n (text ++ newline ∷ []))
request_bytes n text e =
    let last : 10 < 256 = omega arith in
    all_drop IsByte n (text ++ newline ∷ [])
    (all_both IsByte text (newline ∷ []) (text_bytes text e) (last, tt))

-- ---- files

abbrev pub AreOfBytes : Files → Type 0
AreOfBytes fs = AllByRecursion IsNodeOfBytes fs.nodes

content_bytes : (c : Content) → IsContentOfBytes c → AreBytes (bytes_of_content c)
content_bytes Directory k = tt
content_bytes (File bytes) k = k

held_bytes : (fs : Files) (k : ℕ) → AreOfBytes fs → AreBytes (bytes_of_node fs k)
held_bytes fs k h = by_node (node_of fs k) refl where
  by_node : (o : Option FileNode) → node_of fs k ≡ o → AreBytes (bytes_held o)
  by_node None e = tt
  by_node (Some n) e = content_bytes n.content (all_found IsNodeOfBytes fs.nodes k n h e).content

path_bytes : (fs : Files) (d : ℕ) (p : Path) → AreOfBytes fs → path_of fs d ≡ Some p
    → AllByRecursion AreBytes p
path_bytes fs d p h e =
    let found = path_there (node_of fs d) p e in
    subst IsPathOfBytes found.2 (all_found IsNodeOfBytes fs.nodes d found.0 h found.1).path

-- the path that a name in a directory has
pub whole_is : (fs : Files) (d : ℕ) (name : Name) (p : Path) → whole_path fs d name ≡ Ok p
    → (parent : Path) × (path_of fs d ≡ Some parent) × (p ≡ parent ++ name ∷ [])
whole_is fs d name p e = by_path (path_of fs d) refl
    (some_there Noent (option_map (λ p. p ++ name ∷ []) (path_of fs d)) p e)
  where
    by_path : (o : Option Path) → path_of fs d ≡ o
        → option_map (λ (p : Path). p ++ name ∷ []) o ≡ Some p
        → (parent : Path) × (path_of fs d ≡ Some parent) × (p ≡ parent ++ name ∷ [])
    by_path None is e = absurd (cc)
    by_path (Some parent) is e = (parent, is, cc)

whole_bytes : (fs : Files) (d : ℕ) (name : Name) (p : Path) → AreOfBytes fs → AreBytes name
    → whole_path fs d name ≡ Ok p → AllByRecursion AreBytes p
whole_bytes fs d name p h bytes e =
    let whole = whole_is fs d name p e in
    subst (AllByRecursion AreBytes) (sym whole.2)
    (all_both AreBytes whole.0 (name ∷ []) (path_bytes fs d whole.0 h whole.1) (bytes, tt))

rewritten_of_bytes : (fs : Files) (k : ℕ) (bytes : Bytes) → AreBytes bytes → AreOfBytes fs
    → AreOfBytes (with_file_bytes k bytes fs)
rewritten_of_bytes fs k bytes b h =
    all_mapped IsNodeOfBytes (changed_at k (λ (n : FileNode). record n { content = File bytes }))
    fs.nodes (λ n p. by_number n (eqb n.number k) p) h
  where
    by_number : (n : FileNode) (t : Bool) → IsNodeOfBytes n
        → IsNodeOfBytes (if t then (record n { content = File bytes }) else n)
    by_number n true p = record { path = p.path; content = b }
    by_number n false p = p

removed_of_bytes : (fs : Files) (k : ℕ) → AreOfBytes fs → AreOfBytes (removed k fs)
removed_of_bytes fs k h =
    all_mapped IsNodeOfBytes (changed_at k (λ (n : FileNode). record n { path = None }))
    fs.nodes (λ n p. by_number n (eqb n.number k) p) h
  where
    by_number : (n : FileNode) (t : Bool) → IsNodeOfBytes n
        → IsNodeOfBytes (if t then (record n { path = None }) else n)
    by_number n true p = record { path = tt; content = p.content }
    by_number n false p = p

swept_of_bytes : (t : Target) (ds : List (Option Descriptor)) (fs : Files) → AreOfBytes fs
    → AreOfBytes (swept t ds fs)
swept_of_bytes (Stream s) ds fs h = h
swept_of_bytes (Node k) ds fs h = either (has_path fs k) (list_any (names k) ds) where
  either : (p q : Bool) → AreOfBytes (if p then fs else if q then fs else forgotten k fs)
  either true q = h
  either false true = h
  either false false = all_kept IsNodeOfBytes (λ (n : FileNode). not (n.number == k)) fs.nodes h

created_of_bytes : (fs : Files) (p : Path) (c : Content) → AllByRecursion AreBytes p
    → IsContentOfBytes c → AreOfBytes fs → AreOfBytes (created p c fs)
created_of_bytes fs p c path content h =
    all_both IsNodeOfBytes fs.nodes _ h (record { path = path; content = content }, tt)

rest_of_bytes : (from p : Path) → AllByRecursion AreBytes p
    → IfSome (path_behind from p) (AllByRecursion AreBytes)
rest_of_bytes [] p h = h
rest_of_bytes (a ∷ from) [] h = tt
rest_of_bytes (a ∷ from) (b ∷ p) h =
    by_name (is_same_name a b) (rest_of_bytes from p h.1)
  where
    by_name : (t : Bool) → IfSome (path_behind from p) (AllByRecursion AreBytes)
        → IfSome (if t then path_behind from p else None) (AllByRecursion AreBytes)
    by_name true rest = rest
    by_name false rest = tt

moved_of_bytes : (from to p : Path) → AllByRecursion AreBytes to → AllByRecursion AreBytes p
    → AllByRecursion AreBytes (path_moved from to p)
moved_of_bytes from to p front h = by_rest (path_behind from p) (rest_of_bytes from p h) where
  by_rest : (o : Option Path) → IfSome o (AllByRecursion AreBytes)
      → AllByRecursion AreBytes (with_new_front to p o)
  by_rest None rest = h
  by_rest (Some rest) r = all_both AreBytes to rest front r

renamed_of_bytes : (fs : Files) (from to : Path) → AllByRecursion AreBytes to → AreOfBytes fs
    → AreOfBytes (renamed from to fs)
renamed_of_bytes fs from to front h =
    all_mapped IsNodeOfBytes
    (λ (n : FileNode). record n { path = option_map (path_moved from to) n.path }) fs.nodes
    (λ n p. record { path = by_path n.path p.path; content = p.content }) h
  where
    by_path : (o : Option Path) → IsPathOfBytes o
        → IsPathOfBytes (option_map (path_moved from to) o)
    by_path None k = tt
    by_path (Some p) k = moved_of_bytes from to p front k

-- ---- hosts

-- the same but for files of bytes
with_files : (h after : WasiState) → IsOfBytes h → AreOfBytes after.files → after.unread ≡ h.unread
    → after.arguments ≡ h.arguments → after.environment ≡ h.environment → IsOfBytes after
with_files h after k files unread arguments environment = record {
  files = files;
  unread = subst AreBytes (sym unread) k.unread;
  arguments = subst (AllByRecursion AreBytes) (sym arguments) k.arguments;
  environment = subst (AllByRecursion AreBytes) (sym environment) k.environment;
}

stream_of_bytes : (h : WasiState) (s : OutputStream) (bytes : Bytes) → IsOfBytes h
    → IsOfBytes (stream_written s bytes h)
stream_of_bytes h s bytes k =
    stream_either IsOfBytes h s bytes (with_files h _ k k.files refl refl refl)
    (with_files h _ k k.files refl refl refl)

cut_of_bytes : (is_cut : Bool) (fs : Files) (k : ℕ) → AreOfBytes fs
    → AreOfBytes (cut_if is_cut k fs)
cut_of_bytes true fs k h = rewritten_of_bytes fs k [] tt h
cut_of_bytes false fs k h = h

without_of_bytes : (h : WasiState) (k : ℕ) → AreOfBytes h.files → AreOfBytes (without k h).files
without_of_bytes h k files =
    swept_of_bytes (Node k) h.descriptors (removed k h.files) (removed_of_bytes h.files k files)

made_bytes : (m : Bytes) (h : WasiState) (p : Path) → AreBytes m → AreOfBytes h.files → Making m h p
    → AllByRecursion AreBytes p
made_bytes m h p memory files x =
    let ends = ends_well m h (Leaf x.parent x.name) x.reached in
    whole_bytes h.files x.parent x.name p files (ends.2 memory) x.path

moved_over : (m : Bytes) (h : WasiState) (k : ℕ) (j : Option ℕ) (from to : Path) → IsOfBytes h
    → AllByRecursion AreBytes to → IsOfBytes (renamed_over k j from to h)
moved_over m h k None from to b path =
    with_files h _ b (renamed_of_bytes h.files from to path b.files) refl refl refl
moved_over m h k (Some j) from to b path =
    with_files h _ b
    (renamed_of_bytes (without j h).files from to path (without_of_bytes h j b.files))
    refl refl refl

renamed_bytes : (m : Bytes) (h : WasiState) (k : ℕ) (j : Option ℕ) (from to : Path) → AreBytes m
    → IsOfBytes h → Renaming m h k j from to → AllByRecursion AreBytes to
renamed_bytes m h k j from to memory b x =
    let ends = ends_well m h (Leaf x.new_parent x.new_name) x.target in
    whole_bytes h.files x.new_parent x.new_name to b.files (ends.2 memory) x.new_path

of_bytes : {c : Call} (m : Bytes) (h after : WasiState) → AreBytes m → IsOfBytes h
    → Becomes c m h after → IsOfBytes after
of_bytes m h _ memory b stays = b
of_bytes m h _ memory b (leaves_unread n) =
    search (all_drop IsByte n h.unread b.unread)
of_bytes m h _ memory b (takes_text n text k short) = search (request_bytes n text k)
of_bytes m h _ memory b (closes fd d o other) =
    with_files h _ b (swept_of_bytes d.target _ h.files b.files) refl refl refl
of_bytes m h _ memory b (writes_stream s bytes by few k) = stream_of_bytes h s bytes b
of_bytes m h _ memory b (rewrites k bytes r) =
    with_files h _ b
    (rewritten_of_bytes h.files k bytes (r.are_bytes memory (held_bytes h.files k b.files)) b.files)
    refl refl refl
of_bytes m h _ memory b (writes_file fd k offset d bytes o fits r) =
    with_files h _ b
    (rewritten_of_bytes h.files k bytes (r.are_bytes memory (held_bytes h.files k b.files)) b.files)
    refl refl refl
of_bytes m h _ memory b (makes p x) =
    with_files h _ b
    (created_of_bytes h.files p Directory (made_bytes m h p memory b.files x) tt b.files)
    refl refl refl
of_bytes m h _ memory b (opens_new p n flags base inheriting x free few) =
    with_files h _ b
    (created_of_bytes h.files p (File []) (made_bytes m h p memory b.files x) tt b.files)
    refl refl refl
of_bytes m h _ memory b (opens k n flags base inheriting cut x few) =
    with_files h _ b (cut_of_bytes cut h.files k b.files) refl refl refl
of_bytes m h _ memory b (loses k x) =
    with_files h _ b (without_of_bytes h k b.files) refl refl refl
of_bytes m h _ memory b (renames k j from to x) =
    moved_over m h k j from to b (renamed_bytes m h k j from to memory b x)
of_bytes m h _ memory b _ = with_files h _ b b.files refl refl refl

pub call_rules_keep_states_of_bytes : CallRulesKeepStatesOfBytes
call_rules_keep_states_of_bytes c arguments given m h done memory b e =
    of_bytes m h done.host memory b (changes c arguments given m h done e)
