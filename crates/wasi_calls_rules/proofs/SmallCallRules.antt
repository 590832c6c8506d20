-- The small calls keep memory.
use Rattle.std.proofs.Common.{◌≡◌, ℕ, ◌+◌, ◌*◌, ◌%◌, ◌≤◌, List, [], ◌∷◌, length, refl, arith}
use Rattle.std.specs.Prelude.{Option, Some, true, nat_le, not, ◌==◌, max}
use Rattle.std.specs.List.{AllByRecursion}
use Rattle.std.proofs.lemmas.Bool.{eqb-true, and_parts}
use Rattle.guest_memory.specs.rules.Bytes.{bytes_of, with_part}
use Rattle.file_tree.specs.rules.Files.{slash}
use Rattle.wasi_abi.specs.declared.errno.Errno.TheVariants.{Badf, Inval, Nametoolong}
use Rattle.wasi_abi.specs.declared.answer.Question.{Question}
use Rattle.wasi_abi.specs.declared.answer.Question.TheVariants as question
use Rattle.wasi_abi.specs.declared.answer.Answer.{Answer}
use Rattle.wasi_abi.specs.declared.answer.Answer.TheVariants as answer
use Rattle.wasi_abi.specs.rules.Layouts.{fdstat_bytes, prestat_bytes}
use Rattle.wasi_abi.specs.rules.Versions.{text_limit}
use Rattle.wasi_calls_rules.specs.WasiStates.{Target, Stream, Node, WasiState}
use Rattle.wasi_calls_rules.specs.Checks.{Bytes, Refuses, Done, Ruling, check_or, open_descriptor}
use Rattle.wasi_calls_rules.specs.Checks.{has_bytes_alone, does_fit, answered_by}
use Rattle.wasi_calls_rules.specs.Small.{call_done, with_zeros, pointers_to, texts_get}
use Rattle.wasi_calls_rules.specs.Small.{texts_sizes_get, time_put, file_type_of, fd_fdstat_get}
use Rattle.wasi_calls_rules.specs.Small.{filestat_bytes_of, fd_prestat_get, fd_prestat_dir_name}
use Rattle.wasi_calls_rules.specs.Small.{random_put, random_get}
use Rattle.wasi_calls_rules.proofs.Steps.{HoldsAfter, refused, done_with, step, next, within}
use Rattle.wasi_calls_rules.proofs.Steps.{either_way, answered}
use Rattle.wasi_calls_rules.proofs.Puts.{IsKept, put, put_number, zeros_hold, pointers_hold}
use Rattle.wasi_calls_rules.proofs.Puts.{length-pointers_to, length-fdstat}
use Rattle.wasi_calls_rules.proofs.Supplies.{AnswerHolds, fdstat_holds, prestat_holds}
use Rattle.wasi_calls_rules.proofs.Supplies.{file_type_holds, filestat_of_holds}

-- a call that is done keeps memory
abbrev pub Keeps : (ℕ → Type 0) → Bytes → Ruling → Type 0
Keeps Q m r = HoldsAfter (λ (d : Done). IsKept Q m d.memory) r

-- of the bytes of an answer, where the host takes it
abbrev pub GivenHolds : (ℕ → Type 0) → Option Answer → Type 0
GivenHolds Q given =
    (limit : ℕ) (k : Question) (a : Answer) → given ≡ Some a → does_fit limit k a ≡ true
    → AnswerHolds Q a

-- as many random bytes as were asked for
abbrev RandomHolds : (ℕ → Type 0) → ℕ → Answer → Type 0
RandomHolds Q len (answer.Random bytes) = (length bytes ≡ len) × AllByRecursion Q bytes
RandomHolds Q len _ = Unit {0}

length-filestat_of : (h : WasiState) (t : Target) → length (filestat_bytes_of h t) ≡ 64
length-filestat_of h (Stream s) = refl
length-filestat_of h (Node k) = refl

module _ (Q : ℕ → Type 0) (low : (x : ℕ) → Q (x % 256)) (m : Bytes) (old : AllByRecursion Q m) where
  pub same : IsKept Q m m
  same = record { size = refl; bytes = old }

  pub kept : (now : Bytes) (h : WasiState) → IsKept Q m now → Keeps Q m (call_done now h)
  kept now h k = done_with (λ (d : Done). IsKept Q m d.memory) (record { memory = now; host = h }) k

  pub put_one : (from n x : ℕ) (h : WasiState) → from + n ≤ length m
      → Keeps Q m (call_done (with_part m from (bytes_of n x)) h)
  put_one from n x h room = kept _ h (put_number Q low m m from n x room same)

module _ (Q : ℕ → Type 0) (low : (x : ℕ)
    → Q (x % 256)) (m : Bytes) (old : AllByRecursion Q m) (h : WasiState) where
  pub unchanged : (after : WasiState) → Keeps Q m (call_done m after)
  unchanged after = kept Q low m old m after (same Q low m old)

  pub texts_get_keeps : (texts : List Bytes) (array buf : ℕ)
      → AllByRecursion (AllByRecursion Q) texts → Keeps Q m (texts_get texts array buf m h)
  texts_get_keeps texts array buf hold =
      within m array (4 * length texts) _ (λ front. within m buf (length (with_zeros texts)) _
      (λ behind.
      let size = length-pointers_to buf texts in
      kept Q low m old _ h (put Q low m _ buf (length (with_zeros texts)) (with_zeros texts) behind
      (omega arith) (zeros_hold Q low texts hold)
      (put Q low m m array (4 * length texts) (pointers_to buf texts) front (omega (
        arith,
        size,
      )) (pointers_hold Q low buf texts) (same Q low m old)))))

  pub texts_sizes_get_keeps : (texts : List Bytes) (count size : ℕ)
      → Keeps Q m (texts_sizes_get texts count size m h)
  texts_sizes_get_keeps texts count size =
      within m count 4 _ (λ front. within m size 4 _ (λ behind.
      kept Q low m old _ h (put_number Q low m _ size 4 (length (with_zeros texts)) behind
      (put_number Q low m m count 4 (length texts) front (same Q low m old)))))

  -- ---- clocks

  pub time_put_keeps : (a : Answer) (ret : ℕ) → ret + 8 ≤ length m → Keeps Q m (time_put a ret m h)
  time_put_keeps (answer.Monotonic n) ret room =
      put_one Q low m old ret 8 (max n h.last_monotonic) _ room
  time_put_keeps (answer.Realtime n) ret room = put_one Q low m old ret 8 n h room
  time_put_keeps _ ret room = refused _ (Refuses Inval)

  -- ---- descriptors

  pub fd_fdstat_get_keeps : (fd ret : ℕ) → Keeps Q m (fd_fdstat_get fd ret m h)
  fd_fdstat_get_keeps fd ret =
      next (open_descriptor h fd) _ (λ d. within m ret 24 _ (λ room.
      let size = length-fdstat (file_type_of h d.target) d.flags d.base d.inheriting in
      kept Q low m old _ h
      (put Q low m m ret 24 (fdstat_bytes (file_type_of h d.target) d.flags d.base d.inheriting)
      room (omega (arith, size))
      (fdstat_holds Q low (file_type_of h d.target) d.flags d.base d.inheriting
      (file_type_holds Q low h d.target)) (same Q low m old))))

  pub filestat_put : (t : Target) (ret : ℕ) → ret + 64 ≤ length m
      → Keeps Q m (call_done (with_part m ret (filestat_bytes_of h t)) h)
  filestat_put t ret room =
      let size = length-filestat_of h t in
      kept Q low m old _ h (put Q low m m ret 64 (filestat_bytes_of h t) room (omega (
        arith,
        size,
      )) (filestat_of_holds Q low h t) (same Q low m old))

  pub fd_prestat_get_keeps : (fd ret : ℕ) → Keeps Q m (fd_prestat_get fd ret m h)
  fd_prestat_get_keeps fd ret =
      next (open_descriptor h fd) _ (λ d.
      within m ret 8 _ (λ room. next (check_or (fd == 3) Badf) _ (λ _.
      kept Q low m old _ h (put Q low m m ret 8 (prestat_bytes 1) room (omega arith)
      (prestat_holds Q low 1) (same Q low m old)))))

  pub fd_prestat_dir_name_keeps : (fd path len : ℕ)
      → Keeps Q m (fd_prestat_dir_name fd path len m h)
  fd_prestat_dir_name_keeps fd path len =
      next (open_descriptor h fd) _ (λ d.
      within m path 1 _ (λ room. next (check_or (fd == 3) Badf) _ (λ _.
      next (check_or (not (len == 0)) Nametoolong) _ (λ _.
      kept Q low m old _ h (put Q low m m path 1 (slash ∷ []) room (omega arith) (
        low 47,
        tt,
      ) (same Q low m old))))))

  random_put_keeps : (a : Answer) (buf len : ℕ) → buf + len ≤ length m → RandomHolds Q len a
      → Keeps Q m (random_put a buf m h)
  random_put_keeps (answer.Random bytes) buf len room k =
      kept Q low m old _ h (put Q low m m buf len bytes room (let size = k.0 in
      omega (arith, size)) k.1 (same Q low m old))
  random_put_keeps _ buf len room k = refused _ (Refuses Inval)

  random_given : (len limit : ℕ) (a : Answer) → AnswerHolds Q a
      → does_fit limit (question.Random len) a ≡ true → RandomHolds Q len a
  random_given len limit (answer.Random bytes) k e =
      let both = and_parts (length bytes == len) (has_bytes_alone bytes) e in
      (eqb-true (length bytes) len both.0, k)
  random_given len limit _ k e = tt

  pub random_get_keeps : (buf len : ℕ) (given : Option Answer) → GivenHolds Q given
      → Keeps Q m (random_get buf len given m h)
  random_get_keeps buf len given fine =
      next (check_or (nat_le len (text_limit h.version)) Inval) _ (λ _. within m buf len _ (λ room.
      either_way (len == 0) _ _ (unchanged h)
      (step (RandomHolds Q len) (answered_by h (question.Random len) given) _
      (answered (RandomHolds Q len) h (question.Random len) given (λ a e fits.
      random_given len (text_limit h.version) a (fine (text_limit h.version) (question.Random len) a
      e fits) fits)) (λ a k. random_put_keeps a buf len room k))))
