-- What a call that is done leaves of a host is a host.
use Rattle.std.proofs.Common.{◌≡◌, ◌≢◌, ℕ, ◌+◌, ◌<◌, ◌≤◌, ◌^◌, Bool, true, false, List}
use Rattle.std.proofs.Common.{[], ◌∷◌, ◌++◌, length, take, drop, max, Option, Some, None, refl, sym}
use Rattle.std.proofs.Common.{ap, subst, ◌∙◌, arith, length-take, length-drop}
use Rattle.std.specs.Prelude.{not, ◌||◌, is_some, bit_and, slice_set, Ok}
use Rattle.std.proofs.lemmas.Bool.{eq-eqb, ltb-true}
use Rattle.std.proofs.lemmas.Nat.{and_assoc}
use Rattle.wasi_abi.specs.declared.call.Call.{Call}
use Rattle.wasi_abi.specs.declared.errno.Errno.TheVariants.{Isdir, Notdir, Notempty}
use Rattle.wasi_abi.specs.rules.Answers.{AreBytes, IsTime}
use Rattle.wasi_abi.specs.rules.Numbers.{are_within, all_rights, directory_rights, file_rights}
use Rattle.guest_memory.specs.rules.Bytes.{IsByte}
use Rattle.guest_memory.proofs.Lists.{all_drop}
use Rattle.file_tree.specs.declared.node_type.NodeType.TheVariants as node_types
use Rattle.file_tree.specs.rules.Changes.{path_at, IsFree}
use Rattle.file_tree.specs.rules.Files.{Name, Path, Content, Directory, File, FileNode, Files}
use Rattle.file_tree.specs.rules.Files.{IsFiles, IsSmallContent, node_of, path_of, child}
use Rattle.file_tree.specs.rules.Files.{is_directory, bytes_of_content, bytes_held, bytes_of_node}
use Rattle.file_tree.specs.rules.Files.{path_behind, created, with_file_bytes}
use Rattle.file_tree.specs.declared.limits.TheConstants.{FILE_BYTES}
use Rattle.file_tree.proofs.Seen.{some_path, not_nil}
use Rattle.file_tree.proofs.Rebuilt.{all_found}
use Rattle.wasi_calls_rules.specs.WasiStates.{Node, Descriptor, WasiState, IsThere}
use Rattle.wasi_calls_rules.specs.WasiStates.{IsDescriptor, IsWasiState, IsUnfinished}
use Rattle.wasi_calls_rules.specs.Checks.{Bytes, check_or, has_64_bits}
use Rattle.wasi_calls_rules.specs.Lines.{stream_written}
use Rattle.wasi_calls_rules.specs.declared.output_stream.OutputStream.{OutputStream}
use Rattle.wasi_calls_rules.specs.declared.output_stream.OutputStream.TheVariants.{Stdout, Stderr}
use Rattle.wasi_calls_rules.specs.Paths.{WalkEnd, Self, Leaf, node_at}
use Rattle.wasi_calls_rules.specs.Moving.{file_read, moved_to}
use Rattle.wasi_calls_rules.specs.Entries.{is_directory_empty, is_within_node, gives_way}
use Rattle.wasi_calls_rules.specs.Entries.{is_same_node}
use Rattle.wasi_calls_rules.specs.Entries.{without, renamed_over, new_descriptor, cut_if}
use Rattle.wasi_calls_rules.specs.laws.Laws.{CallRulesKeepWasiStates}
use Rattle.wasi_calls_rules.proofs.Steps.{HoldsAfter, next, passed}
use Rattle.wasi_calls_rules.proofs.WasiStateChanges.{IsOpen, Rewriting, Making}
use Rattle.wasi_calls_rules.proofs.WasiStateChanges.{Renaming, Becomes, stays, sees_time}
use Rattle.wasi_calls_rules.proofs.WasiStateChanges.{leaves_unread, takes_text, ends_input, closes}
use Rattle.wasi_calls_rules.proofs.WasiStateChanges.{sets_flags, seeks, reads_file, writes_stream}
use Rattle.wasi_calls_rules.proofs.WasiStateChanges.{rewrites, writes_file, makes, opens_new, opens}
use Rattle.wasi_calls_rules.proofs.WasiStateChanges.{loses, renames}
use Rattle.wasi_calls_rules.proofs.CallRuleChanges.{changes}
use Rattle.wasi_calls_rules.proofs.GivenNames.{EndsWell, ends_well}
use Rattle.wasi_calls_rules.proofs.WasiStateBytes.{request_bytes, whole_is}
use Rattle.wasi_calls_rules.proofs.KeptLines.{stream_either, all_unfinished}
use Rattle.wasi_calls_rules.proofs.Tables.{Table, IsLike, is_descriptor, free_place}
use Rattle.wasi_calls_rules.proofs.NodesAfter.{NodeAt, node_there, there_node, directory_there}
use Rattle.wasi_calls_rules.proofs.NodesAfter.{path_node, child_path, child_parent, rewritten_there}
use Rattle.wasi_calls_rules.proofs.NodesAfter.{created_own}
use Rattle.wasi_calls_rules.proofs.FileState.{IsFileState, like_kept, new_kept, rewritten_kept}
use Rattle.wasi_calls_rules.proofs.FileState.{created_kept, closed_kept, lost_kept}
use Rattle.wasi_calls_rules.proofs.FileState.{path_at_is, moved_kept, moved_over_kept}

-- ---- the parts of a host

pub file_state : (h : WasiState) → IsWasiState h → IsFileState h.files h.descriptors h.room
file_state h is = search

-- the same host with other files and descriptors
pub with_file_state : (h : WasiState) (fs : Files) (ds : Table) → IsWasiState h
    → IsFileState fs ds h.room → IsWasiState (record h { files = fs; descriptors = ds })
with_file_state h fs ds is s = search (s.table)

-- with other bytes that are not read yet
pub unread_kept : (h : WasiState) (bytes : Bytes) → IsWasiState h → AreBytes bytes
    → IsWasiState (record h { unread = bytes })
unread_kept h bytes is b = search

time_kept : (h : WasiState) (n : ℕ) → IsWasiState h → has_64_bits n ≡ true
    → IsWasiState (record h { last_monotonic = max n h.last_monotonic })
time_kept h n is small =
    let less = ltb-true n (2 ^ 64) small in
    let last : IsTime h.last_monotonic = is.last_monotonic in
    let later : IsTime (max n h.last_monotonic) = omega (arith, less, last) in
    search

pub end_kept : (h : WasiState) → IsWasiState h → IsWasiState (record h { input_ended = true })
end_kept h is = search

-- with other lines
lines_kept : (h : WasiState) (lines : List _) (first second : Bytes) → IsWasiState h
    → IsUnfinished first → IsUnfinished second → IsWasiState
    (record h { lines = lines; first = first; second = second })
lines_kept h lines first second is one two = search

pub stream_kept : (h : WasiState) (s : OutputStream) (bytes : Bytes) → IsWasiState h
    → AreBytes bytes → IsWasiState (stream_written s bytes h)
stream_kept h s bytes is b =
    stream_either IsWasiState h s bytes
    (lines_kept h _ _ h.second is
    (all_unfinished Stdout (record { lines = h.lines; unfinished = h.first }) bytes b is.first)
    is.second)
    (lines_kept h _ h.first _ is is.first
    (all_unfinished Stderr (record { lines = h.lines; unfinished = h.second }) bytes b is.second))

-- ---- descriptors

-- at another offset
at_offset : (fs : Files) (d : Descriptor) (offset : ℕ) → IsDescriptor fs d → offset < 2 ^ 63
    → IsLike d (record d { offset = offset })
at_offset fs d offset is small = record {
  target = refl;
  base = refl;
  inheriting = refl;
  offset = small;
  flags = is.flags;
}

pub like_host : (h : WasiState) (fd : ℕ) (d new : Descriptor) → IsWasiState h → IsOpen h fd d
    → IsLike d new → IsWasiState (record h { descriptors = slice_set h.descriptors fd (Some new) })
like_host h fd d new is open_there like =
    with_file_state h h.files (slice_set h.descriptors fd (Some new)) is
    (like_kept h.files h.descriptors h.room fd d new (file_state h is) open_there like)

pub moved_host : (h : WasiState) (fd offset : ℕ) (d : Descriptor) → IsWasiState h → IsOpen h fd d
    → offset < 2 ^ 63 → IsWasiState (moved_to fd d offset h)
moved_host h fd offset d is open_there small =
    like_host h fd d (record d { offset = offset }) is open_there
    (at_offset h.files d offset
    (is_descriptor h.files h.descriptors fd d (file_state h is).table open_there) small)

-- bytes of a file are few
pub small_file : (fs : Files) (k : ℕ) → IsFiles fs
    → (length (bytes_of_node fs k) ≤ FILE_BYTES) × AreBytes (bytes_of_node fs k)
small_file fs k are = by_node (node_of fs k) refl where
  content : (c : Content) → IsSmallContent c
      → (length (bytes_of_content c) ≤ FILE_BYTES) × AreBytes (bytes_of_content c)
  content Directory small = (omega arith, tt)
  content (File bytes) small = small

  by_node : (o : Option FileNode) → node_of fs k ≡ o
      → (length (bytes_held o) ≤ FILE_BYTES) × AreBytes (bytes_held o)
  by_node None e = (omega arith, tt)
  by_node (Some n) e =
      content n.content
      (all_found (λ (n : FileNode). IsSmallContent n.content) fs.nodes k n are.contents e)

-- a read ends where the file does, or moves nothing
pub read_offset : (bytes : Bytes) (offset n : ℕ) → length bytes ≤ FILE_BYTES → offset < 2 ^ 63
    → offset + length (take n (drop offset bytes)) < 2 ^ 63
read_offset bytes offset n small below =
    let moved = length-take n (drop offset bytes) in
    let rest_length = length-drop offset bytes in
    omega (arith, moved, rest_length, small, below)

within_all : (rights some : ℕ) → bit_and some all_rights ≡ some
    → are_within (bit_and rights some) all_rights ≡ true
within_all rights some e =
    let same : bit_and (bit_and rights some) all_rights ≡ bit_and rights some =
    and_assoc all_rights rights some ∙ ap (bit_and rights) e in
    eq-eqb (bit_and (bit_and rights some) all_rights) (bit_and rights some) same

-- the descriptor of a node that is opened
pub opened_is : (fs : Files) (is_dir : Bool) (k flags base inheriting : ℕ) → IsThere fs (Node k)
    → flags ≤ 31 → IsDescriptor fs (new_descriptor is_dir k flags base inheriting)
opened_is fs true k flags base inheriting there few = record {
  there = there;
  offset = omega arith;
  flags = few;
  base = within_all base directory_rights refl;
  inheriting = within_all inheriting all_rights refl;
}
opened_is fs false k flags base inheriting there few = record {
  there = there;
  offset = omega arith;
  flags = few;
  base = within_all base file_rights refl;
  inheriting = refl;
}

-- ---- files

pub rewriting_kept : (m : Bytes) (h : WasiState) (k : ℕ) (bytes : Bytes) → AreBytes m
    → IsWasiState h → Rewriting m h k bytes → IsFileState (with_file_bytes k bytes h.files)
    h.descriptors h.room
rewriting_kept m h k bytes memory is r =
    let s = file_state h is in
    let own = is_descriptor h.files h.descriptors r.fd r.own s.table r.is_open in
    let at = node_there h.files k (subst (IsThere h.files) r.target own.there) in
    rewritten_kept h.files h.descriptors h.room k at.0 bytes s at.1 r.file
    (r.small, r.are_bytes memory (small_file h.files k is.files).1) r.room

-- the name is free in its directory
pub making_free : (m : Bytes) (h : WasiState) (p : Path) (x : Making m h p)
    → IsFree h.files x.parent x.name × (path_at h.files x.parent ++ x.name ∷ [] ≡ p)
making_free m h p x =
    let ends = ends_well m h (Leaf x.parent x.name) x.reached in
    let whole = whole_is h.files x.parent x.name p x.path in
    let at = path_at_is h.files x.parent whole.0 whole.1 in (
      record {
        is_directory = ends.0;
        path = ap is_some whole.1;
        free = x.free;
        named = ends.1;
      },
      ap (λ (q : Path). q ++ x.name ∷ []) at ∙ sym whole.2,
    )

-- a child isn't the root
pub child_not_root : (fs : Files) (k : ℕ) (p : Path) (name : Name) → IsFiles fs
    → path_of fs k ≡ Some (p ++ name ∷ []) → k ≢ 1
child_not_root fs k p name are path e =
    not_nil p name (some_path [] (p ++ name ∷ []) (sym are.root ∙ ap (path_of fs) (sym e) ∙ path))

pub losing_kept : (h : WasiState) (d k : ℕ) (name : Name) → IsWasiState h
    → child h.files d name ≡ Some k → (is_directory h.files k ≡ true
    → is_directory_empty h.files k ≡ true) → IsFileState (without k h).files h.descriptors h.room
losing_kept h d k name is there empty =
    let above = child_parent h.files d k name there in
    let path = child_path h.files d k name above.0 is.files above.1 there in
    let at = path_node h.files k (above.0 ++ name ∷ []) path in
    lost_kept h.files h.descriptors h.room k at.0 (file_state h is) at.1
    (record { not_root = child_not_root h.files k above.0 name is.files path; empty = empty })

-- what is opened is there
pub opening_there : (m : Bytes) (h : WasiState) (k : ℕ) (place : WalkEnd) → IsWasiState h
    → EndsWell h.files m place → node_at h.files place ≡ Some k → NodeAt h.files k
opening_there m h k (Self j) is ends e =
    (let same : j ≡ k = cc in
    directory_there h.files k (subst (λ (i : ℕ). is_directory h.files i ≡ true) same ends))
opening_there m h k (Leaf d name) is ends e =
    let above = child_parent h.files d k name e in
    path_node h.files k (above.0 ++ name ∷ [])
    (child_path h.files d k name above.0 is.files above.1 e)

-- a file that may be cut is there as before
pub cut_kept : (fs : Files) (ds : Table) (room k : ℕ) (n : FileNode) (is_cut : Bool)
    → IsFileState fs ds room → node_of fs k ≡ Some n → (is_cut ≡ true → is_directory fs k ≡ false)
    → IsFileState (cut_if is_cut k fs) ds room × IsThere (cut_if is_cut k fs) (Node k)
cut_kept fs ds room k n false s e file = (s, there_node fs k (n, e))
cut_kept fs ds room k n true s e file =
    let within = s.within in (
      rewritten_kept fs ds room k n [] s e (file refl) (omega arith, tt) (omega (arith, within)),
      rewritten_there fs k [] k (there_node fs k (n, e)),
    )

-- ---- renaming

outside_is : (fs : Files) (k d : ℕ) (from above : Path) → path_of fs k ≡ Some from
    → path_of fs d ≡ Some above → is_within_node fs k d ≡ false
    → is_some (path_behind from above) ≡ false
outside_is fs k d from above own parent e = (rw (own, parent) at e)

-- a directory that gives way is empty
pub way_empty : (fs : Files) (k j : ℕ)
    → HoldsAfter (λ (_ : Unit {0}). is_directory fs j ≡ true → is_directory_empty fs j ≡ true)
    (gives_way fs k (Some j))
way_empty fs k j =
    next (check_or (is_directory fs k || not (is_directory fs j)) Isdir) _ (λ _.
    next (check_or (not (is_directory fs k) || is_directory fs j) Notdir) _ (λ _.
    record {
      holds = λ u e. either (is_directory fs j) (is_directory_empty fs j)
          (passed (not (is_directory fs j) || is_directory_empty fs j) Notempty u e);
    }))
  where
    either : (dir empty : Bool) → (not dir || empty) ≡ true → dir ≡ true → empty ≡ true
    either true empty e is = e
    either false empty e is = absurd (cc)

pub renaming_kept : (m : Bytes) (h : WasiState) (k : ℕ) (o : Option ℕ) (from to : Path)
    → IsWasiState h → Renaming m h k o from to
    → IsFileState (renamed_over k o from to h).files (renamed_over k o from to h).descriptors h.room
renaming_kept m h k o from to is x = by_target o x.over x.differ x.way where
  fs : Files
  fs = h.files

  old : (p : Path) × (path_of h.files x.parent ≡ Some p) × (from ≡ p ++ x.name ∷ [])
  old = whole_is h.files x.parent x.name from x.old_path

  new : (p : Path) × (path_of h.files x.new_parent ≡ Some p) × (to ≡ p ++ x.new_name ∷ [])
  new = whole_is h.files x.new_parent x.new_name to x.new_path

  own_path : path_of h.files k ≡ Some (old.0 ++ x.name ∷ [])
  own_path = child_path h.files x.parent k x.name old.0 is.files old.1 x.there

  path : path_of h.files k ≡ Some from
  path = own_path ∙ ap (λ (p : Path). Some p) (sym old.2)

  not_root : k ≢ 1
  not_root = child_not_root h.files k old.0 x.name is.files own_path

  ends : EndsWell h.files m (Leaf x.new_parent x.new_name)
  ends = ends_well m h (Leaf x.new_parent x.new_name) x.target

  outside : is_some (path_behind from new.0) ≡ false
  outside = outside_is h.files k x.new_parent from new.0 path new.1 x.outside

  by_target : (o : Option ℕ) → child h.files x.new_parent x.new_name ≡ o
      → is_same_node k o ≡ false → gives_way h.files k o ≡ Ok tt
      → IsFileState (renamed_over k o from to h).files (renamed_over k o from to
      h).descriptors h.room
  by_target None over differ way =
      subst (λ (p : Path). IsFileState (renamed_over k None from p h).files h.descriptors h.room)
      (sym new.2)
      (moved_kept h.files h.descriptors h.room k from x.new_parent new.0 x.new_name
      (file_state h is) (record {
        not_root = not_root;
        path = path;
        parent = new.1;
        directory = ends.0;
        named = ends.1;
        outside = outside;
        free = over;
      }))
  by_target (Some j) over differ way =
      let empty = (way_empty h.files k j).holds tt way in
      let after = losing_kept h x.new_parent j x.new_name is over empty in
      let there = child_path h.files x.new_parent j x.new_name new.0 is.files new.1 over in
      let other : k ≢ j = λ same. absurd (let t = eq-eqb j k (sym same) in cc) in
      subst (λ (p : Path). IsFileState (renamed_over k (Some j) from p h).files
      h.descriptors h.room) (sym new.2)
      (moved_over_kept h.files h.descriptors j h.room k from x.new_parent new.0 x.new_name
      (file_state h is) after not_root other path new.1 ends.0 ends.1 outside there)

-- ---- the law

host_after : {c : Call} (m : Bytes) (h after : WasiState) → AreBytes m → IsWasiState h
    → Becomes c m h after → IsWasiState after
host_after m h _ memory is stays = is
host_after m h _ memory is (sees_time n small) = time_kept h n is small
host_after m h _ memory is (leaves_unread n) =
    unread_kept h (drop n h.unread) is (all_drop IsByte n h.unread is.unread)
host_after m h _ memory is (takes_text n text k short) =
    unread_kept h _ is (request_bytes n text k)
host_after m h _ memory is ends_input = end_kept h is
host_after m h _ memory is (closes fd d o other) =
    with_file_state h _ (slice_set h.descriptors fd None) is
    (closed_kept h.files h.descriptors h.room fd d (file_state h is) o
    (λ e. absurd (let t = eq-eqb fd 3 e in cc)))
host_after m h _ memory is (sets_flags fd flags d o few) =
    let own = is_descriptor h.files h.descriptors fd d (file_state h is).table o in
    like_host h fd d (record d { flags = flags }) is o (record {
      target = refl;
      base = refl;
      inheriting = refl;
      offset = own.offset;
      flags = few;
    })
host_after m h _ memory is (seeks fd offset d o small) = moved_host h fd offset d is o small
host_after m h _ memory is (reads_file fd n k d o e) =
    let own = is_descriptor h.files h.descriptors fd d (file_state h is).table o in
    moved_host h fd (d.offset + length (file_read h k d.offset n)) d is o
    (read_offset (bytes_of_node h.files k) d.offset n (small_file h.files k is.files).0 own.offset)
host_after m h _ memory is (writes_stream s bytes by few k) = stream_kept h s bytes is (k memory)
host_after m h _ memory is (rewrites k bytes r) =
    with_file_state h (with_file_bytes k bytes h.files) h.descriptors is
    (rewriting_kept m h k bytes memory is r)
host_after m h _ memory is (writes_file fd k offset d bytes o fits r) =
    let after : WasiState = record h { files = with_file_bytes k bytes h.files } in
    let is_after : IsWasiState after = with_file_state h (with_file_bytes k bytes h.files)
    h.descriptors is (rewriting_kept m h k bytes memory is r) in
    moved_host after fd offset d is_after o (omega (arith, fits))
host_after m h _ memory is (makes p x) =
    let free = making_free m h p x in
    with_file_state h (created p Directory h.files) h.descriptors is
    (created_kept h.files h.descriptors h.room x.parent x.name p node_types.Directory
    (file_state h is) free.0 x.few free.1)
host_after m h _ memory is (opens_new p n flags base inheriting x free few) =
    let named = making_free m h p x in
    let fs : Files = created p (File []) h.files in
    let new : Descriptor = new_descriptor false h.files.next flags base inheriting in
    with_file_state h fs (slice_set h.descriptors n (Some new)) is
    (new_kept fs h.descriptors h.room n h.files.next new
    (created_kept h.files h.descriptors h.room x.parent x.name p node_types.File
    (file_state h is) named.0 x.few named.1)
    (free_place h n free) refl
    (opened_is fs false h.files.next flags base inheriting (created_own h.files p (File [])) few))
host_after m h _ memory is (opens k n flags base inheriting cut x few) =
    let at = opening_there m h k x.place is (ends_well m h x.place x.reached) x.there in
    let s = cut_kept h.files h.descriptors h.room k at.0 cut (file_state h is) at.1 x.file in
    let dir = is_directory h.files k in
    let new : Descriptor = new_descriptor dir k flags base inheriting in
    with_file_state h (cut_if cut k h.files) (slice_set h.descriptors n (Some new)) is
    (new_kept (cut_if cut k h.files) h.descriptors h.room n k new s.0 (free_place h n x.free) refl
    (opened_is (cut_if cut k h.files) dir k flags base inheriting s.1 few))
host_after m h _ memory is (loses k x) =
    with_file_state h (without k h).files h.descriptors is
    (losing_kept h x.parent k x.name is x.there x.empty)
host_after m h _ memory is (renames k j from to x) =
    over j x
  where
    over : (j : Option ℕ) → Renaming m h k j from to → IsWasiState (renamed_over k j from to h)
    over None x = with_file_state h _ h.descriptors is (renaming_kept m h k None from to is x)
    over (Some j) x = with_file_state h _ h.descriptors is (renaming_kept m h k
        (Some j) from to is x)

pub call_rules_keep_wasi_states : CallRulesKeepWasiStates
call_rules_keep_wasi_states c arguments given m h done memory is e =
    host_after m h done.host memory is (changes c arguments given m h done e)
