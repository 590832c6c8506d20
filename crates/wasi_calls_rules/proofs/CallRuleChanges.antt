-- Each call that is done changes the host in one of the ways of `Becomes`.
use Rattle.std.proofs.Common.{◌≡◌, ℕ, ◌+◌, ◌≤◌, ◌<◌, ◌^◌, List, [], ◌∷◌, ◌++◌, length}
use Rattle.std.proofs.Common.{take, drop, refl, sym, ◌∙◌, ap, subst, arith, length-take}
use Rattle.std.specs.Prelude.{Bool, true, false, if◌then◌else◌, ◌==◌, not, ◌&&◌, ◌||◌, nat_lt}
use Rattle.std.specs.Prelude.{nat_le, Option, Some, None, is_some, Result, Ok, Err, ℤ, pos, negsuc}
use Rattle.std.specs.Prelude.{◌+ℤ◌, slice_get, replicate}
use Rattle.std.specs.Int.{w64, cast_signed}
use Rattle.std.proofs.lemmas.Bool.{leb-true, ltb-true, and_parts, not-true}
use Rattle.wasi_abi.specs.declared.errno.Errno.TheVariants.{Badf, Exist, Fbig, Inval, Isdir}
use Rattle.wasi_abi.specs.declared.errno.Errno.TheVariants.{Noent, Nospc}
use Rattle.wasi_abi.specs.declared.errno.Errno.TheVariants.{Notcapable, Notdir, Notempty, Spipe}
use Rattle.wasi_abi.specs.declared.answer.Question.TheVariants as question
use Rattle.wasi_abi.specs.declared.answer.Answer.{Answer}
use Rattle.wasi_abi.specs.declared.answer.Answer.TheVariants as answer
use Rattle.wasi_abi.specs.declared.call.Call.{Call}
use Rattle.wasi_abi.specs.declared.call.Call.TheVariants as call
use Rattle.wasi_abi.specs.rules.Answers.{newline, AreBytes}
use Rattle.wasi_abi.specs.rules.Numbers.{fd_fdstat_set_flags_right, fd_filestat_set_size_right}
use Rattle.wasi_abi.specs.rules.Numbers.{fd_seek_right, fd_read_right, fd_write_right}
use Rattle.wasi_abi.specs.rules.Numbers.{path_create_directory_right, path_create_file_right}
use Rattle.wasi_abi.specs.rules.Numbers.{path_open_right, path_rename_source_right}
use Rattle.wasi_abi.specs.rules.Numbers.{path_rename_target_right, path_filestat_set_size_right}
use Rattle.wasi_abi.specs.rules.Numbers.{path_unlink_file_right, path_remove_directory_right}
use Rattle.wasi_abi.specs.rules.Numbers.{create_flag, directory_flag, exclusive_flag, truncate_flag}
use Rattle.wasi_abi.specs.rules.Numbers.{has_flag}
use Rattle.wasi_abi.specs.rules.Versions.{text_limit}
use Rattle.guest_memory.specs.rules.Bytes.{IsByte, part}
use Rattle.guest_memory.proofs.Lists.{all_both, all_take, all_drop, all_replicate}
use Rattle.file_tree.specs.rules.Bytes.{written, resized}
use Rattle.file_tree.specs.rules.Files.{Name, child, is_directory, bytes_of_node, used}
use Rattle.file_tree.specs.rules.Files.{with_file_bytes}
use Rattle.file_tree.specs.declared.limits.TheConstants.{NODES, FILE_BYTES}
use Rattle.file_tree.proofs.Sizes.{length-written, length-resized}
use Rattle.wasi_calls_rules.specs.WasiStates.{Target, Stream, Node, Descriptor, WasiState}
use Rattle.wasi_calls_rules.specs.Checks.{Bytes, Halt, Refuses, Ends, Done, Buffer, check_or}
use Rattle.wasi_calls_rules.specs.Checks.{some_or, flat, open_descriptor, is_stream, a_file}
use Rattle.wasi_calls_rules.specs.Checks.{names_directory, no_directory, a_directory, node_named}
use Rattle.wasi_calls_rules.specs.Checks.{with_right, needs, within_rights, in_memory, lent}
use Rattle.wasi_calls_rules.specs.Checks.{buffers, few_buffers, movable, gathered, answered_by}
use Rattle.wasi_calls_rules.specs.Checks.{does_fit, has_64_bits, has_bytes_alone, has_no_newline}
use Rattle.wasi_calls_rules.specs.Paths.{WalkEnd, Self, Leaf, formed, node_at}
use Rattle.wasi_calls_rules.specs.Small.{call_done, time_put, clock_question, clock_time_get}
use Rattle.wasi_calls_rules.specs.Small.{fd_close, fd_fdstat_set_flags, roomy, fd_filestat_set_size}
use Rattle.wasi_calls_rules.specs.Small.{seek_base, file_offset, fd_seek, random_put}
use Rattle.wasi_calls_rules.specs.Moving.{Got, bytes_taken, input_taken, has_bytes, input_read}
use Rattle.wasi_calls_rules.specs.Moving.{target_read, fd_read, size_after, file_written}
use Rattle.wasi_calls_rules.specs.Moving.{write_offset, offset_after, target_written, fd_write}
use Rattle.wasi_calls_rules.specs.Moving.{fd_pwrite, moved_to}
use Rattle.wasi_calls_rules.specs.Lines.{output_stream, stream_written}
use Rattle.wasi_calls_rules.specs.Entries.{a_leaf, placed, whole_path, a_free_node}
use Rattle.wasi_calls_rules.specs.Entries.{path_create_directory, gives_way, is_directory_empty}
use Rattle.wasi_calls_rules.specs.Entries.{path_remove_directory, path_unlink_file, is_within_node}
use Rattle.wasi_calls_rules.specs.Entries.{is_same_node, renamed_to, path_rename, free_number}
use Rattle.wasi_calls_rules.specs.Entries.{OpenMode, opened_there, opened_new, opened_at, path_open}
use Rattle.wasi_calls_rules.specs.CallRules.{call_rule}
use Rattle.wasi_calls_rules.specs.declared.limits.TheConstants.{MOVED_BYTES}
use Rattle.wasi_calls_rules.proofs.Steps.{HoldsAfter, refused, done_with, step, next, next_is}
use Rattle.wasi_calls_rules.proofs.Steps.{passed, some_there, by_test, either_way, answered}
use Rattle.wasi_calls_rules.proofs.WasiStateChanges.{IsOpen, Reached, Rewriting}
use Rattle.wasi_calls_rules.proofs.WasiStateChanges.{Becomes, stays, sees_time}
use Rattle.wasi_calls_rules.proofs.WasiStateChanges.{leaves_unread, takes_text, ends_input, closes}
use Rattle.wasi_calls_rules.proofs.WasiStateChanges.{sets_flags, seeks, reads_file, writes_stream}
use Rattle.wasi_calls_rules.proofs.WasiStateChanges.{rewrites, writes_file, makes, opens_new, opens}
use Rattle.wasi_calls_rules.proofs.WasiStateChanges.{loses, renames}

-- ---- what the checks say

flat_there : {A : Type 0} (o : Option (Option A)) (x : A) → flat o ≡ Some x → o ≡ Some (Some x)
flat_there None x e = absurd (cc)
flat_there (Some o) x e = ap (λ p. Some p) e

is_opened : (h : WasiState) (fd : ℕ) (d : Descriptor) → open_descriptor h fd ≡ Ok d → IsOpen h fd d
is_opened h fd d e =
    flat_there (slice_get h.descriptors fd) d
    (some_there Badf (flat (slice_get h.descriptors fd)) d e)

-- a file is a node that is no directory
pub record IsFile (h : WasiState) (d : Descriptor) : Type 0 where
  pub target : d.target ≡ Node (node_named d.target)
  pub file : is_directory h.files (node_named d.target) ≡ false

file_named : (h : WasiState) (d : Descriptor) (t : Target) → d.target ≡ t
    → not (is_stream t) ≡ true → not (names_directory h t) ≡ true → IsFile h d
file_named h d (Stream s) e a b = absurd (cc)
file_named h d (Node k) e a b =
    let named : node_named d.target ≡ k = ap node_named e in
    record {
      target = e ∙ ap (λ x. Node x) (sym named);
      file = ap (is_directory h.files) named ∙ not-true (is_directory h.files k) b;
    }

a_file_is : (h : WasiState) (d : Descriptor) → HoldsAfter (λ (_ : Unit {0}). IsFile h
    d) (a_file h d)
a_file_is h d =
    next_is (check_or (not (is_stream d.target)) Spipe) _ (λ u a.
    record {
      holds = λ v b.
          file_named h d d.target refl (passed (not (is_stream d.target)) Spipe u a)
          (passed (not (names_directory h d.target)) Isdir v b);
    })

-- so many bytes are not too many
record IsRoomy (h : WasiState) (k size : ℕ) : Type 0 where
  small : size ≤ FILE_BYTES
  room : used h.files + size ≤ h.room + length (bytes_of_node h.files k)

roomy_is : (h : WasiState) (k size : ℕ)
    → HoldsAfter (λ (_ : Unit {0}). IsRoomy h k size) (roomy h k size)
roomy_is h k size =
    let most = h.room + length (bytes_of_node h.files k) in
    next_is (check_or (nat_le size FILE_BYTES) Fbig) _ (λ u a.
    record {
      holds = λ v b. record {
        small = leb-true size FILE_BYTES (passed (nat_le size FILE_BYTES) Fbig u a);
        room = leb-true (used h.files + size) most
            (passed (nat_le (used h.files + size) most) Nospc v b);
      };
    })

offset_is : (n : ℤ) → HoldsAfter (λ (offset : ℕ). offset < 2 ^ 63) (file_offset n)
offset_is (pos n) = by_size (nat_lt n (2 ^ 63)) refl where
  by_size : (b : Bool) → nat_lt n (2 ^ 63) ≡ b
      → HoldsAfter (λ (offset : ℕ). offset < 2 ^ 63) (if b then Ok n else Err (Refuses Inval))
  by_size true e = done_with (λ (offset : ℕ). offset < 2 ^ 63) n (ltb-true n (2 ^ 63) e)
  by_size false e = refused _ (Refuses Inval)
offset_is (negsuc n) = refused _ (Refuses Inval)

third : (a b c d : Bool) → (a && b && c && d) ≡ true → c ≡ true
third true true true d e = refl
third true true false d e = absurd (cc)
third true false c d e = absurd (cc)
third false b c d e = absurd (cc)

cut_files : (dir create cut write : Bool) → not (dir && (create || cut || write)) ≡ true
    → cut ≡ true → dir ≡ false
cut_files false create cut write e is = refl
cut_files true true cut write e is = absurd (cc)
cut_files true false true write e is = absurd (cc)
cut_files true false false write e is = absurd (cc)

nothing_there : {A : Type 0} (o : Option A) → not (is_some o) ≡ true → o ≡ None
nothing_there None e = refl
nothing_there (Some x) e = absurd (cc)

-- ---- bytes

zero_is_byte : IsByte 0
zero_is_byte = let below : 0 < 256 = omega arith in below

with_zeros_behind : (old : Bytes) (n : ℕ) → AreBytes old → AreBytes (old ++ replicate n 0)
with_zeros_behind old n k =
    all_both IsByte old (replicate n 0) k (all_replicate IsByte n 0 zero_is_byte)

resized_bytes : (old : Bytes) (size : ℕ) → AreBytes old → AreBytes (resized old size)
resized_bytes old size k =
    all_take IsByte size (old ++ replicate size 0) (with_zeros_behind old size k)

written_bytes : (old : Bytes) (from : ℕ) (bytes : Bytes) → AreBytes old → AreBytes bytes
    → AreBytes (written old from bytes)
written_bytes old from bytes k b =
    let behind = drop (from + length bytes) old in
    all_both IsByte (take from (old ++ replicate from 0)) (bytes ++ behind)
    (all_take IsByte from (old ++ replicate from 0) (with_zeros_behind old from k))
    (all_both IsByte bytes behind b (all_drop IsByte (from + length bytes) old k))

pub gathered_bytes : (m : Bytes) (bs : List Buffer) → AreBytes m → AreBytes (gathered m bs)
gathered_bytes m [] k = tt
gathered_bytes m (b ∷ bs) k =
    all_both IsByte (part m b.from b.len) (gathered m bs)
    (all_take IsByte b.len (drop b.from m) (all_drop IsByte b.from m k)) (gathered_bytes m bs k)

sent_bytes : (m : Bytes) (n : ℕ) (bs : List Buffer) → AreBytes m
    → AreBytes (take n (gathered m bs))
sent_bytes m n bs k = all_take IsByte n (gathered m bs) (gathered_bytes m bs k)

-- ---- the rules

module _ (which : Call) (m : Bytes) (h : WasiState) where
  abbrev BecomesBy : Done → Type 0
  BecomesBy d = Becomes which m h d.host

  abbrev BecomesByRead : Got → Type 0
  BecomesByRead got = Becomes which m h got.host

  changed : (now : Bytes) (after : WasiState) → Becomes which m h after
      → HoldsAfter BecomesBy (call_done now after)
  changed now after b = done_with BecomesBy (record { memory = now; host = after }) b

  same : (now : Bytes) → HoldsAfter BecomesBy (call_done now h)
  same now = changed now h stays

  abbrev IsSmallTime : Answer → Type 0
  IsSmallTime (answer.Monotonic n) = has_64_bits n ≡ true
  IsSmallTime _ = Unit {0}

  time_put_changes : (a : Answer) (ret : ℕ) → IsSmallTime a
      → HoldsAfter BecomesBy (time_put a ret m h)
  time_put_changes (answer.Monotonic n) ret small = changed _ _ (sees_time n small)
  time_put_changes (answer.Realtime n) ret small = same _
  time_put_changes _ ret small = refused _ (Refuses Inval)

  time_fits : (id : ℕ) (a : Answer) → does_fit (text_limit h.version) (clock_question id) a ≡ true
      → IsSmallTime a
  time_fits id a = by_clock (id == 0) a where
    by_clock : (b : Bool) (a : Answer)
        → does_fit (text_limit h.version) (if b then question.Realtime else question.Monotonic) a
        ≡ true → IsSmallTime a
    by_clock true (answer.Monotonic n) e = absurd (cc)
    by_clock false (answer.Monotonic n) e = e
    by_clock _ (answer.Realtime n) e = tt
    by_clock _ (answer.Request text) e = tt
    by_clock _ answer.End e = tt
    by_clock _ (answer.Random bytes) e = tt

  clock_time_get_changes : (id ret : ℕ) (given : Option Answer)
      → HoldsAfter BecomesBy (clock_time_get id ret given m h)
  clock_time_get_changes id ret given =
      next (check_or (nat_le id 1) Inval) _ (λ _. next (in_memory m ret 8) _ (λ _.
      step IsSmallTime (answered_by h (clock_question id) given) _
      (answered IsSmallTime h (clock_question id) given (λ a is fits. time_fits id a fits))
      (λ a small. time_put_changes a ret small)))

  -- ---- descriptors

  fd_close_changes : (fd : ℕ) → HoldsAfter BecomesBy (fd_close fd m h)
  fd_close_changes fd =
      next_is (open_descriptor h fd) _ (λ d o.
      next_is (check_or (not (fd == 3)) Notcapable) _ (λ u c.
      changed m _ (closes fd d (is_opened h fd d o)
      (not-true (fd == 3) (passed (not (fd == 3)) Notcapable u c)))))

  fd_fdstat_set_flags_changes : (fd flags : ℕ)
      → HoldsAfter BecomesBy (fd_fdstat_set_flags fd flags m h)
  fd_fdstat_set_flags_changes fd flags =
      next_is (open_descriptor h fd) _ (λ d o. next (with_right fd_fdstat_set_flags_right d) _ (λ _.
      next_is (check_or (nat_le flags 31) Inval) _ (λ u c.
      changed m _ (sets_flags fd flags d (is_opened h fd d o)
      (leb-true flags 31 (passed (nat_le flags 31) Inval u c))))))

  fd_filestat_set_size_changes : (fd size : ℕ)
      → HoldsAfter BecomesBy (fd_filestat_set_size fd size m h)
  fd_filestat_set_size_changes fd size =
      next_is (open_descriptor h fd) _ (λ d o.
      step (λ (_ : Unit {0}). IsFile h d) (a_file h d) _ (a_file_is h d) (λ _ file.
      next (with_right fd_filestat_set_size_right d) _ (λ _.
      let k = node_named d.target in
      let old = bytes_of_node h.files k in
      step (λ (_ : Unit {0}). IsRoomy h k size) (roomy h k size) _ (roomy_is h k size) (λ _ room.
      let len = length-resized old size in
      changed m _ (rewrites k (resized old size) (record {
        fd = fd;
        own = d;
        is_open = is_opened h fd d o;
        target = file.target;
        file = file.file;
        small = omega (arith, len, room.small);
        room = omega (arith, len, room.room);
        are_bytes = λ _ k. resized_bytes old size k;
      }))))))

  fd_seek_changes : (fd delta whence ret : ℕ)
      → HoldsAfter BecomesBy (fd_seek fd delta whence ret m h)
  fd_seek_changes fd delta whence ret =
      next_is (open_descriptor h fd) _ (λ d o. next (a_file h d) _ (λ _.
      next (with_right fd_seek_right d) _ (λ _. next (check_or (nat_le whence 2) Inval) _ (λ _.
      next (in_memory m ret 8) _ (λ _.
      let to = pos (seek_base h d whence) +ℤ cast_signed w64 delta in
      step (λ (offset : ℕ). offset < 2 ^ 63) (file_offset to) _ (offset_is to) (λ offset small.
      changed _ _ (seeks fd offset d (is_opened h fd d o) small)))))))

  random_put_changes : (a : Answer) (buf : ℕ) → HoldsAfter BecomesBy (random_put a buf m h)
  random_put_changes (answer.Random bytes) buf = same _
  random_put_changes _ buf = refused _ (Refuses Inval)

  -- ---- reads

  abbrev IsShortText : Answer → Type 0
  IsShortText (answer.Request text) = (has_bytes_alone text ≡ true)
      × (length text ≤ text_limit h.version)
  IsShortText _ = Unit {0}

  text_fits : (a : Answer) → does_fit (text_limit h.version) question.Request a ≡ true
      → IsShortText a
  text_fits (answer.Request text) e =
      let all = and_parts (nat_le (length text) (text_limit h.version))
      (has_bytes_alone text && has_no_newline text) e in (
        (and_parts (has_bytes_alone text) (has_no_newline text) all.1).0,
        leb-true (length text) (text_limit h.version) all.0,
      )
  text_fits _ e = tt

  input_taken_changes : (n : ℕ) (a : Answer) → IsShortText a
      → HoldsAfter BecomesByRead (input_taken n a h)
  input_taken_changes n (answer.Request text) k =
      done_with BecomesByRead (bytes_taken n (text ++ newline ∷ []) h) (takes_text n text k.0 k.1)
  input_taken_changes n answer.End k = done_with BecomesByRead _ ends_input
  input_taken_changes n _ k = refused _ (Refuses Inval)

  nothing_read : HoldsAfter BecomesByRead (Ok (record { bytes = []; host = h }))
  nothing_read = done_with BecomesByRead (record { bytes = []; host = h }) stays

  input_read_changes : (n : ℕ) (given : Option Answer)
      → HoldsAfter BecomesByRead (input_read n given h)
  input_read_changes n given =
      either_way (n == 0) _ _ nothing_read
      (either_way (has_bytes h.unread) _ _
      (done_with BecomesByRead (bytes_taken n h.unread h) (leaves_unread n))
      (either_way h.input_ended _ _ nothing_read
      (step IsShortText (answered_by h question.Request given) _
      (answered IsShortText h question.Request given (λ a is fits. text_fits a fits))
      (λ a k. input_taken_changes n a k))))

  target_read_changes : (t : Target) (fd : ℕ) (d : Descriptor) (n : ℕ) (given : Option Answer)
      → IsOpen h fd d → d.target ≡ t → HoldsAfter BecomesByRead (target_read t fd d n given h)
  target_read_changes (Stream i) fd d n given o e = input_read_changes n given
  target_read_changes (Node k) fd d n given o e =
      done_with BecomesByRead _ (reads_file fd n k d o e)

  fd_read_changes : (fd iovs count ret : ℕ) (given : Option Answer)
      → HoldsAfter BecomesBy (fd_read fd iovs count ret given m h)
  fd_read_changes fd iovs count ret given =
      next_is (open_descriptor h fd) _ (λ d o. next (no_directory h d) _ (λ _.
      next (with_right fd_read_right d) _ (λ _. next (few_buffers count) _ (λ _.
      next (buffers m iovs count) _ (λ bs. next (in_memory m ret 4) _ (λ _.
      step BecomesByRead (target_read d.target fd d (movable bs) given h) _
      (target_read_changes d.target fd d (movable bs) given (is_opened h fd d o) refl)
      (λ got b. done_with BecomesBy _ b)))))))

  -- ---- writes

  -- a file after a write of at least one byte
  record Written (k offset : ℕ) (bytes : Bytes) (after : WasiState) : Type 0 where
    fits : offset + length bytes ≤ FILE_BYTES
    rewriting : Rewriting m h k (written (bytes_of_node h.files k) offset bytes)
    is : after ≡ record h {
      files = with_file_bytes k (written (bytes_of_node h.files k) offset bytes) h.files;
    }

  abbrev WrittenOrNone : ℕ → ℕ → Bytes → WasiState → Type 0
  WrittenOrNone k offset [] after = after ≡ h
  WrittenOrNone k offset (b ∷ bytes) after = Written k offset (b ∷ bytes) after

  file_written_changes : (fd k offset : ℕ) (d : Descriptor) (bytes : Bytes) → IsOpen h fd d
      → d.target ≡ Node k → is_directory h.files k ≡ false → (AreBytes m → AreBytes bytes)
      → HoldsAfter (WrittenOrNone k offset bytes) (file_written k offset bytes h)
  file_written_changes fd k offset d [] o e file sent =
      done_with (WrittenOrNone k offset []) h refl
  file_written_changes fd k offset d (b ∷ bytes) o e file sent =
      let old = bytes_of_node h.files k in
      let size = size_after old offset (b ∷ bytes) in
      let len = length-written old offset (b ∷ bytes) in
      step (λ (_ : Unit {0}). IsRoomy h k size) (roomy h k size) _ (roomy_is h k size) (λ _ room.
      done_with (WrittenOrNone k offset (b ∷ bytes)) _ (record {
        fits = omega (arith, room.small);
        rewriting = record {
          fd = fd;
          own = d;
          is_open = o;
          target = e;
          file = file;
          small = omega (arith, len, room.small);
          room = omega (arith, len, room.room);
          are_bytes = λ from_memory k.
              written_bytes old offset (b ∷ bytes) k (sent from_memory);
        };
        is = refl;
      }))

  wrote : (k offset : ℕ) (bytes : Bytes) (after : WasiState) → WrittenOrNone k offset bytes after
      → Becomes which m h after
  wrote k offset [] after w = subst (λ x. Becomes which m h x) (sym w) stays
  wrote k offset (b ∷ bytes) after w =
      subst (λ x. Becomes which m h x) (sym w.is) (rewrites k _ w.rewriting)

  wrote_and_moved : (fd k offset : ℕ) (d : Descriptor) (bytes : Bytes) (after : WasiState)
      → IsOpen h fd d → WrittenOrNone k offset bytes after
      → Becomes which m h (offset_after fd offset d bytes after)
  wrote_and_moved fd k offset d [] after o w = subst (λ x. Becomes which m h x) (sym w) stays
  wrote_and_moved fd k offset d (b ∷ bytes) after o w =
      subst (λ x. Becomes which m h (moved_to fd d (offset + length (b ∷ bytes)) x)) (sym w.is)
      (writes_file fd k (offset + length (b ∷ bytes)) d _ o w.fits w.rewriting)

  target_written_changes : (t : Target) (fd : ℕ) (d : Descriptor) (bytes : Bytes)
      → IsOpen h fd d → d.target ≡ t → not (names_directory h t) ≡ true
      → which ≡ call.FdWrite → length bytes ≤ MOVED_BYTES → (AreBytes m → AreBytes bytes)
      → HoldsAfter (Becomes which m h) (target_written t fd d bytes h)
  target_written_changes (Stream s) fd d bytes o e file is few sent =
      done_with (Becomes which m h) (stream_written (output_stream s) bytes h)
      (writes_stream (output_stream s) bytes is few sent)
  target_written_changes (Node k) fd d bytes o e file is few sent =
      let offset = write_offset h k d in
      step (WrittenOrNone k offset bytes) (file_written k offset bytes h) _
      (file_written_changes fd k offset d bytes o e (not-true (is_directory h.files k) file) sent)
      (λ after w. done_with (Becomes which m h) _ (wrote_and_moved fd k offset d bytes after o w))

  fd_write_changes : which ≡ call.FdWrite → (fd iovs count ret : ℕ)
      → HoldsAfter BecomesBy (fd_write fd iovs count ret m h)
  fd_write_changes is fd iovs count ret =
      next_is (open_descriptor h fd) _ (λ d o. next_is (no_directory h d) _ (λ u file.
      next (with_right fd_write_right d) _ (λ _. next (few_buffers count) _ (λ _.
      next (buffers m iovs count) _ (λ bs. next (in_memory m ret 4) _ (λ _.
      let bytes : Bytes = take (movable bs) (gathered m bs) in
      let few : length bytes ≤ MOVED_BYTES = omega (arith, length-take (movable bs) (gathered m bs))
      in
      step (Becomes which m h) (target_written d.target fd d bytes h) _
      (target_written_changes d.target fd d bytes (is_opened h fd d o) refl
      (passed (not (names_directory h d.target)) Isdir u file) is few
      (sent_bytes m (movable bs) bs))
      (λ after b. changed _ after b)))))))

  fd_pwrite_changes : (fd iovs count offset ret : ℕ)
      → HoldsAfter BecomesBy (fd_pwrite fd iovs count offset ret m h)
  fd_pwrite_changes fd iovs count offset ret =
      next_is (open_descriptor h fd) _ (λ d o.
      step (λ (_ : Unit {0}). IsFile h d) (a_file h d) _ (a_file_is h d) (λ _ file.
      next (with_right fd_write_right d) _ (λ _. next (with_right fd_seek_right d) _ (λ _.
      next (few_buffers count) _ (λ _. next (buffers m iovs count) _ (λ bs.
      next (in_memory m ret 4) _ (λ _.
      let k = node_named d.target in
      let bytes : Bytes = take (movable bs) (gathered m bs) in
      step (WrittenOrNone k offset bytes) (file_written k offset bytes h) _
      (file_written_changes fd k offset d bytes (is_opened h fd d o) file.target file.file
      (sent_bytes m (movable bs) bs))
      (λ after w. changed _ after (wrote k offset bytes after w)))))))))

  -- ---- directories and paths

  -- the rest of a rule that begins with a path
  reached : (fd from len : ℕ) (d : Descriptor) (bytes : Bytes) (names : List Name)
      (place : WalkEnd) (u : Unit {0}) → open_descriptor h fd ≡ Ok d → a_directory h d ≡ Ok u
      → lent m from len ≡ Ok bytes → formed bytes ≡ Ok names → placed h d names ≡ Ok place
      → Reached m h place
  reached fd from len d bytes names place u o dir read form led = record {
    fd = fd;
    base = d;
    from = from;
    len = len;
    bytes = bytes;
    names = names;
    is_open = is_opened h fd d o;
    directory = passed (names_directory h d.target) Notdir u dir;
    read = read;
    form = form;
    led = led;
  }

  -- where a path leads that has to end at a name
  reached_leaf : {A : Type 0} {R : A → Type 0} (place : WalkEnd)
      (go : ℕ → Name → Result A Halt) → Reached m h place
      → ((d : ℕ) (name : Name) → Reached m h (Leaf d name)
      → node_at h.files place ≡ child h.files d name → HoldsAfter R (go d name))
      → HoldsAfter R (a_leaf place go)
  reached_leaf {R = R} (Self k) go r f = refused R (Refuses Inval)
  reached_leaf (Leaf d name) go r f = f d name r refl

  few_nodes : (u : Unit {0}) → a_free_node h.files ≡ Ok u → length h.files.nodes < NODES
  few_nodes u e =
      let count = length h.files.nodes in
      ltb-true count NODES (passed (nat_lt count NODES) Nospc u e)

  path_create_directory_changes : (fd path len : ℕ)
      → HoldsAfter BecomesBy (path_create_directory fd path len m h)
  path_create_directory_changes fd path len =
      next_is (open_descriptor h fd) _ (λ d o. next_is (a_directory h d) _ (λ u dir.
      next (with_right path_create_directory_right d) _ (λ _.
      next_is (lent m path len) _ (λ bytes read. next_is (formed bytes) _ (λ names form.
      next_is (placed h d names) _ (λ place led.
      reached_leaf place _ (reached fd path len d bytes names place u o dir read form led)
      (λ parent name r is.
      next_is (check_or (not (is_some (node_at h.files place))) Exist) _ (λ v none.
      next_is (whole_path h.files parent name) _ (λ p whole.
      next_is (a_free_node h.files) _ (λ w few.
      changed m _ (makes p (record {
        parent = parent;
        name = name;
        reached = r;
        free = sym is ∙ nothing_there (node_at h.files place)
            (passed (not (is_some (node_at h.files place))) Exist v none);
        path = whole;
        few = few_nodes w few;
      }))))))))))))

  path_remove_directory_changes : (fd path len : ℕ)
      → HoldsAfter BecomesBy (path_remove_directory fd path len m h)
  path_remove_directory_changes fd path len =
      next_is (open_descriptor h fd) _ (λ d o. next_is (a_directory h d) _ (λ u dir.
      next (with_right path_remove_directory_right d) _ (λ _.
      next_is (lent m path len) _ (λ bytes read. next_is (formed bytes) _ (λ names form.
      next_is (placed h d names) _ (λ place led.
      reached_leaf place _ (reached fd path len d bytes names place u o dir read form led)
      (λ parent name r is.
      next_is (some_or Noent (node_at h.files place)) _ (λ k there.
      next (check_or (is_directory h.files k) Notdir) _ (λ _.
      next_is (check_or (is_directory_empty h.files k) Notempty) _ (λ v empty.
      changed m _ (loses k (record {
        parent = parent;
        name = name;
        reached = r;
        there = sym is ∙ some_there Noent (node_at h.files place) k there;
        empty = λ _. passed (is_directory_empty h.files k) Notempty v empty;
      }))))))))))))

  path_unlink_file_changes : (fd path len : ℕ)
      → HoldsAfter BecomesBy (path_unlink_file fd path len m h)
  path_unlink_file_changes fd path len =
      next_is (open_descriptor h fd) _ (λ d o. next_is (a_directory h d) _ (λ u dir.
      next (with_right path_unlink_file_right d) _ (λ _.
      next_is (lent m path len) _ (λ bytes read. next_is (formed bytes) _ (λ names form.
      next_is (placed h d names) _ (λ place led.
      reached_leaf place _ (reached fd path len d bytes names place u o dir read form led)
      (λ parent name r is.
      next_is (some_or Noent (node_at h.files place)) _ (λ k there.
      next_is (check_or (not (is_directory h.files k)) Isdir) _ (λ v file.
      changed m _ (loses k (record {
        parent = parent;
        name = name;
        reached = r;
        there = sym is ∙ some_there Noent (node_at h.files place) k there;
        empty = λ dir. absurd (let no = not-true (is_directory h.files k)
            (passed (not (is_directory h.files k)) Isdir v file) in cc);
      })))))))))))

  -- ---- renaming

  renamed_to_changes : (d : ℕ) (name : Name) (e : ℕ) (other : Name) (source target : WalkEnd)
      → Reached m h (Leaf d name) → Reached m h (Leaf e other)
      → node_at h.files source ≡ child h.files d name
      → node_at h.files target ≡ child h.files e other
      → HoldsAfter BecomesBy (renamed_to d name source e other target m h)
  renamed_to_changes d name e other source target from to source_is target_is =
      next_is (some_or Noent (node_at h.files source)) _ (λ k there.
      next_is (whole_path h.files d name) _ (λ old_path old.
      next_is (whole_path h.files e other) _ (λ new_path new.
      next_is (check_or (not (is_within_node h.files k e)) Inval) _ (λ u outside.
      by_test (is_same_node k (node_at h.files target)) _ _ (λ _. same m) (λ differ.
      next_is (gives_way h.files k (node_at h.files target)) _ (λ v way.
      changed m _ (renames k (node_at h.files target) old_path new_path (record {
        parent = d;
        name = name;
        new_parent = e;
        new_name = other;
        source = from;
        target = to;
        there = sym source_is ∙ some_there Noent (node_at h.files source) k there;
        over = sym target_is;
        old_path = old;
        new_path = new;
        outside = not-true (is_within_node h.files k e)
            (passed (not (is_within_node h.files k e)) Inval u outside);
        differ = differ;
        way = way;
      }))))))))

  path_rename_changes : (old_fd old_path old_len new_fd new_path new_len : ℕ)
      → HoldsAfter BecomesBy (path_rename old_fd old_path old_len new_fd new_path new_len m h)
  path_rename_changes old_fd old_path old_len new_fd new_path new_len =
      next_is (open_descriptor h old_fd) _ (λ d od. next_is (open_descriptor h new_fd) _ (λ e oe.
      next_is (a_directory h d) _ (λ u dir. next_is (a_directory h e) _ (λ v dire.
      next (with_right path_rename_source_right d) _ (λ _.
      next (with_right path_rename_target_right e) _ (λ _.
      next_is (lent m old_path old_len) _ (λ old_bytes old_read.
      next_is (lent m new_path new_len) _ (λ new_bytes new_read.
      next_is (formed old_bytes) _ (λ old_names old_form.
      next_is (formed new_bytes) _ (λ new_names new_form.
      next_is (placed h d old_names) _ (λ source old_led.
      next_is (placed h e new_names) _ (λ target new_led.
      reached_leaf source _
      (reached old_fd old_path old_len d old_bytes old_names source u od dir old_read old_form
      old_led)
      (λ from name r is.
      reached_leaf target _
      (reached new_fd new_path new_len e new_bytes new_names target v oe dire new_read new_form
      new_led)
      (λ to other s also.
      renamed_to_changes from name to other source target r s is also))))))))))))))

  -- ---- opening

  opened_there_changes : (k : ℕ) (place : WalkEnd) (w : OpenMode) (ret : ℕ) → Reached m h place
      → node_at h.files place ≡ Some k → w.fdflags ≤ 31
      → HoldsAfter BecomesBy (opened_there k w ret m h)
  opened_there_changes k place w ret r there flags =
      let dir = is_directory h.files k in
      let create = has_flag w.oflags create_flag in
      let cut = has_flag w.oflags truncate_flag in
      next (check_or (not (create && has_flag w.oflags exclusive_flag)) Exist) _ (λ _.
      next_is (check_or (not (dir && (create || cut || has_flag w.base 6))) Isdir) _ (λ u allowed.
      next (check_or (dir || not (has_flag w.oflags directory_flag)) Notdir) _ (λ _.
      next_is (free_number h) _ (λ n free.
      changed _ _ (opens k n w.fdflags w.base w.inheriting cut (record {
        place = place;
        reached = r;
        there = there;
        file = cut_files dir create cut (has_flag w.base 6)
            (passed (not (dir && (create || cut || has_flag w.base 6))) Isdir u allowed);
        free = free;
      }) flags)))))

  opened_new_changes : (place : WalkEnd) (w : OpenMode) (ret : ℕ) → Reached m h place
      → node_at h.files place ≡ None → w.fdflags ≤ 31
      → HoldsAfter BecomesBy (opened_new place w ret m h)
  opened_new_changes place w ret r none flags =
      next (check_or (has_flag w.oflags create_flag) Noent) _ (λ _.
      reached_leaf place _ r (λ d name at is. next_is (whole_path h.files d name) _ (λ p whole.
      next_is (free_number h) _ (λ n free. next_is (a_free_node h.files) _ (λ u few.
      changed _ _ (opens_new p n w.fdflags w.base w.inheriting (record {
        parent = d;
        name = name;
        reached = at;
        free = sym is ∙ none;
        path = whole;
        few = few_nodes u few;
      }) free flags))))))

  opened_at_changes : (o : Option ℕ) (place : WalkEnd) (w : OpenMode) (ret : ℕ) → Reached m h place
      → node_at h.files place ≡ o → w.fdflags ≤ 31
      → HoldsAfter BecomesBy (opened_at o place w ret m h)
  opened_at_changes None place w ret r is flags = opened_new_changes place w ret r is flags
  opened_at_changes (Some k) place w ret r is flags =
      opened_there_changes k place w ret r is flags

  path_open_changes : (fd dirflags path len : ℕ) (w : OpenMode) (ret : ℕ)
      → HoldsAfter BecomesBy (path_open fd dirflags path len w ret m h)
  path_open_changes fd dirflags path len w ret =
      let create = has_flag w.oflags create_flag in
      let few = nat_le dirflags 1 in
      let known = nat_le w.oflags 15 in
      let flags = nat_le w.fdflags 31 in
      let apart = not (create && has_flag w.oflags directory_flag) in
      next_is (open_descriptor h fd) _ (λ d o. next_is (a_directory h d) _ (λ u dir.
      next (with_right path_open_right d) _ (λ _.
      next (needs create path_create_file_right d) _ (λ _.
      next (needs (has_flag w.oflags truncate_flag) path_filestat_set_size_right d) _ (λ _.
      next (within_rights w.base d.inheriting) _ (λ _.
      next (within_rights w.inheriting d.inheriting) _ (λ _.
      next_is (check_or (few && known && flags && apart) Inval) _ (λ v fine.
      next_is (lent m path len) _ (λ bytes read. next (in_memory m ret 4) _ (λ _.
      next_is (formed bytes) _ (λ names form. next_is (placed h d names) _ (λ place led.
      opened_at_changes (node_at h.files place) place w ret
      (reached fd path len d bytes names place u o dir read form led) refl
      (leb-true w.fdflags 31
      (third few known flags apart
      (passed (few && known && flags && apart) Inval v fine)))))))))))))))

  -- ---- all calls

  call_changes : (c : Call) (arguments : List ℕ) (given : Option Answer)
      → (c ≡ call.FdWrite → which ≡ call.FdWrite)
      → HoldsAfter BecomesBy (call_rule c arguments given m h)
  call_changes call.ArgsGet (argv ∷ buf ∷ []) given by = search (next, same) depth 14
  call_changes call.ArgsSizesGet (count ∷ size ∷ []) given by = search (next, same) depth 14
  call_changes call.EnvironGet (environ ∷ buf ∷ []) given by = search (next, same) depth 14
  call_changes call.EnvironSizesGet (count ∷ size ∷ []) given by = search (next, same) depth 14
  call_changes call.ClockResGet (id ∷ ret ∷ []) given by = search (next, same) depth 14
  call_changes call.ClockTimeGet (id ∷ precision ∷ ret ∷ []) given by =
      clock_time_get_changes id ret given
  call_changes call.FdClose (fd ∷ []) given by = fd_close_changes fd
  call_changes call.FdDatasync (fd ∷ []) given by = search (next, same) depth 14
  call_changes call.FdFdstatGet (fd ∷ ret ∷ []) given by = search (next, same) depth 14
  call_changes call.FdFdstatSetFlags (fd ∷ flags ∷ []) given by =
      fd_fdstat_set_flags_changes fd flags
  call_changes call.FdFilestatGet (fd ∷ ret ∷ []) given by = search (next, same) depth 14
  call_changes call.FdFilestatSetSize (fd ∷ size ∷ []) given by =
      fd_filestat_set_size_changes fd size
  call_changes call.FdPread (fd ∷ iovs ∷ count ∷ offset ∷ ret ∷ []) given by =
      search (next, same) depth 14
  call_changes call.FdPrestatGet (fd ∷ ret ∷ []) given by = search (next, same) depth 14
  call_changes call.FdPrestatDirName (fd ∷ path ∷ len ∷ []) given by = search (next, same) depth 14
  call_changes call.FdPwrite (fd ∷ iovs ∷ count ∷ offset ∷ ret ∷ []) given by =
      fd_pwrite_changes fd iovs count offset ret
  call_changes call.FdRead (fd ∷ iovs ∷ count ∷ ret ∷ []) given by =
      fd_read_changes fd iovs count ret given
  call_changes call.FdReaddir (fd ∷ buf ∷ len ∷ cookie ∷ ret ∷ []) given by =
      search (next, same) depth 14
  call_changes call.FdSeek (fd ∷ delta ∷ whence ∷ ret ∷ []) given by =
      fd_seek_changes fd delta whence ret
  call_changes call.FdSync (fd ∷ []) given by = search (next, same) depth 14
  call_changes call.FdTell (fd ∷ ret ∷ []) given by = search (next, same) depth 14
  call_changes call.FdWrite (fd ∷ iovs ∷ count ∷ ret ∷ []) given by =
      fd_write_changes (by refl) fd iovs count ret
  call_changes call.PathCreateDirectory (fd ∷ path ∷ len ∷ []) given by =
      path_create_directory_changes fd path len
  call_changes call.PathFilestatGet (fd ∷ flags ∷ path ∷ len ∷ ret ∷ []) given by =
      search (next, same) depth 14
  call_changes call.PathOpen
      (fd ∷ dirflags ∷ path ∷ len ∷ oflags ∷ base ∷ inheriting ∷ fdflags ∷ ret ∷ []) given by =
      let mode : OpenMode =
      record { oflags = oflags; base = base; inheriting = inheriting; fdflags = fdflags } in
      path_open_changes fd dirflags path len mode ret
  call_changes call.PathRemoveDirectory (fd ∷ path ∷ len ∷ []) given by =
      path_remove_directory_changes fd path len
  call_changes call.PathRename
      (old_fd ∷ old_path ∷ old_len ∷ new_fd ∷ new_path ∷ new_len ∷ []) given by =
      path_rename_changes old_fd old_path old_len new_fd new_path new_len
  call_changes call.PathUnlinkFile (fd ∷ path ∷ len ∷ []) given by =
      path_unlink_file_changes fd path len
  call_changes call.ProcExit (code ∷ []) given by = refused _ (Ends code)
  call_changes call.SchedYield [] given by = same m
  call_changes call.RandomGet (buf ∷ len ∷ []) given by =
      search (next, either_way, same, random_put_changes) depth 14
  call_changes _ _ given by = refused _ (Refuses Inval)

-- what any call that is done makes of the host
pub changes : (c : Call) (arguments : List ℕ) (given : Option Answer) (m : Bytes) (h : WasiState)
    (done : Done) → call_rule c arguments given m h ≡ Ok done → Becomes c m h done.host
changes c arguments given m h done e =
    (call_changes c m h c arguments given (λ is. is)).holds done e
