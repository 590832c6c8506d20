-- The checks that all calls share, in their order (this project's profile). They are of the
-- descriptor, its type, rights, numbers and flags, guest ranges, the form of paths, and the rest. A
-- call ends at the first that fails, and changes nothing then.
use Rattle.std.specs.Prelude.{ℕ, zero, suc, ◌+◌, ◌*◌, ◌==◌, not, ◌&&◌, ◌||◌, nat_le, nat_lt, ◌^◌}
use Rattle.std.specs.Prelude.{min, Bool, true, false, if◌then◌else◌, List, [], ◌∷◌, ◌++◌, length}
use Rattle.std.specs.Prelude.{take, drop, sum_by, slice_get, Option, Some, None, Result, Ok, Err}
use Rattle.std.specs.List.{list_all}
use Rattle.wasi_abi.specs.declared.errno.Errno.{Errno}
use Rattle.wasi_abi.specs.declared.errno.Errno.TheVariants.{Badf, Fault, Inval, Isdir, Notdir}
use Rattle.wasi_abi.specs.declared.errno.Errno.TheVariants.{Notcapable, Spipe}
use Rattle.wasi_abi.specs.declared.answer.Question.{Question}
use Rattle.wasi_abi.specs.declared.answer.Question.TheVariants as question
use Rattle.wasi_abi.specs.declared.answer.Answer.{Answer}
use Rattle.wasi_abi.specs.declared.answer.Answer.TheVariants as answer
use Rattle.wasi_abi.specs.rules.Numbers.{has_right, are_within}
use Rattle.wasi_abi.specs.rules.Answers.{newline}
use Rattle.wasi_abi.specs.rules.Layouts.{u32_at}
use Rattle.wasi_abi.specs.rules.Versions.{text_limit}
use Rattle.guest_memory.specs.rules.Bytes.{part, with_part}
use Rattle.file_tree.specs.rules.Files.{is_directory}
use Rattle.wasi_calls_rules.specs.WasiStates.{Target, Stream, Node, Descriptor, WasiState}
use Rattle.wasi_calls_rules.specs.declared.limits.TheConstants.{IOVECS, MOVED_BYTES}

-- the bytes of a memory or of a text
abbrev pub Bytes : Type 0
Bytes = List ℕ

-- why a call isn't done: it is refused, it wants an answer from outside, or it ends the process
pub data Halt : Type 0 where
  Refuses : Errno → Halt
  Asks : Question → Halt
  Ends : ℕ → Halt

-- the memory and the host after a call that is done
pub record Done : Type 0 where
  pub memory : Bytes
  pub host : WasiState

-- what a call's rule gives: memory and host after it, or why it halts
abbrev pub Ruling : Type 0
Ruling = Result Done Halt

infixl 10 ◌>>=◌
-- goes on with what a check gives, or halts as it does
abbrev pub ◌>>=◌ : {A B : Type 0} → Result A Halt → (A → Result B Halt) → Result B Halt
(Ok x) >>= go = go x
(Err halt) >>= go = Err halt

-- what has to hold, else this error
abbrev pub check_or : Bool → Errno → Result (Unit {0}) Halt
check_or true e = Ok tt
check_or false e = Err (Refuses e)

-- what there is, or this error
abbrev pub some_or : {A : Type 0} → Errno → Option A → Result A Halt
some_or e None = Err (Refuses e)
some_or e (Some x) = Ok x

-- ---- descriptors and their types

-- an option of an option, as one
abbrev pub flat : {A : Type 0} → Option (Option A) → Option A
flat None = None
flat (Some o) = o

-- the descriptor is open
abbrev pub open_descriptor : WasiState → ℕ → Result Descriptor Halt
open_descriptor h fd = some_or Badf (flat (slice_get h.descriptors fd))

-- a stream
abbrev pub is_stream : Target → Bool
is_stream (Stream s) = true
is_stream (Node k) = false

-- a node that is a directory
abbrev pub names_directory : WasiState → Target → Bool
names_directory h (Stream s) = false
names_directory h (Node k) = is_directory h.files k

-- refuses a directory by `isdir`
abbrev pub no_directory : WasiState → Descriptor → Result (Unit {0}) Halt
no_directory h d = check_or (not (names_directory h d.target)) Isdir

-- a file: no stream and no directory
abbrev pub a_file : WasiState → Descriptor → Result (Unit {0}) Halt
a_file h d = check_or (not (is_stream d.target)) Spipe >>= λ _. no_directory h d

-- refuses all but a directory by `notdir`
abbrev pub a_directory : WasiState → Descriptor → Result (Unit {0}) Halt
a_directory h d = check_or (names_directory h d.target) Notdir

-- the number of the node that a descriptor names; a stream names none
abbrev pub node_named : Target → ℕ
node_named (Stream s) = 0
node_named (Node k) = k

-- ---- rights

-- refuses by `notcapable` where this right is missing
abbrev pub with_right : ℕ → Descriptor → Result (Unit {0}) Halt
with_right bit d = check_or (has_right d.base bit) Notcapable

-- a right that is needed where something is asked
abbrev pub needs : Bool → ℕ → Descriptor → Result (Unit {0}) Halt
needs is_asked bit d = check_or (not is_asked || has_right d.base bit) Notcapable

-- refuses by `notcapable` where rights are wanted beyond these
abbrev pub within_rights : ℕ → ℕ → Result (Unit {0}) Halt
within_rights rights all = check_or (are_within rights all) Notcapable

-- ---- guest ranges

-- refuses by `fault` where so many bytes aren't in memory
abbrev pub in_memory : Bytes → ℕ → ℕ → Result (Unit {0}) Halt
in_memory m from len = check_or (nat_le (from + len) (length m)) Fault

-- the bytes of a range
abbrev pub lent : Bytes → ℕ → ℕ → Result Bytes Halt
lent m from len = in_memory m from len >>= λ _. Ok (part m from len)

-- a buffer: where it begins, and its length
pub record Buffer : Type 0 where
  pub from : ℕ
  pub len : ℕ

-- the buffers that so many iovecs name
abbrev pub buffers_at : Bytes → ℕ → ℕ → List Buffer
buffers_at m iovs zero = []
buffers_at m iovs (suc count) =
    record { from = u32_at m iovs; len = u32_at m (iovs + 4) } ∷ buffers_at m (iovs + 8) count

-- a buffer lies in memory
abbrev pub is_inside : Bytes → Buffer → Bool
is_inside m b = nat_le (b.from + b.len) (length m)

-- the array first, and then each buffer, within memory; they are read once, before anything is
-- written
abbrev pub buffers : Bytes → ℕ → ℕ → Result (List Buffer) Halt
buffers m iovs count =
    in_memory m iovs (8 * count) >>= λ _.
    check_or (list_all (is_inside m) (buffers_at m iovs count)) Fault >>= λ _.
    Ok (buffers_at m iovs count)

-- not too many iovecs
abbrev pub few_buffers : ℕ → Result (Unit {0}) Halt
few_buffers count = check_or (nat_le count IOVECS) Inval

-- how many bytes a call moves at most
abbrev pub movable : List Buffer → ℕ
movable bs = min MOVED_BYTES (sum_by (λ (b : Buffer). b.len) bs)

-- the bytes in the buffers, one after another
abbrev pub gathered : Bytes → List Buffer → Bytes
gathered m [] = []
gathered m (b ∷ bs) = part m b.from b.len ++ gathered m bs

-- bytes put into the buffers, in order, as far as they go
abbrev pub scattered : Bytes → List Buffer → Bytes → Bytes
scattered m [] bytes = m
scattered m (b ∷ bs) bytes = scattered (with_part m b.from (take b.len bytes)) bs (drop b.len bytes)

-- ---- outside answers

-- the answer, which is asked for until one is there that fits
abbrev pub asked : Question → Option Answer → Result Answer Halt
asked k None = Err (Asks k)
asked k (Some a) = Ok a

-- a text without a newline
abbrev pub has_no_newline : Bytes → Bool
has_no_newline text = list_all (λ b. not (b == newline)) text

-- each is below 256
abbrev pub has_bytes_alone : Bytes → Bool
has_bytes_alone bytes = list_all (λ b. nat_lt b 256) bytes

-- a number below 2 ^ 64
abbrev pub has_64_bits : ℕ → Bool
has_64_bits n = nat_lt n (2 ^ 64)

-- what `Fits` says, as a test
abbrev pub does_fit : ℕ → Question → Answer → Bool
does_fit limit question.Request (answer.Request text) =
    nat_le (length text) limit && (has_bytes_alone text && has_no_newline text)
does_fit limit question.Request answer.End = true
does_fit limit question.Realtime (answer.Realtime n) = has_64_bits n
does_fit limit question.Monotonic (answer.Monotonic n) = has_64_bits n
does_fit limit (question.Random n) (answer.Random bytes) =
    (length bytes == n) && has_bytes_alone bytes
does_fit limit _ _ = false

-- an answer that doesn't fit is as none
abbrev pub fitting : ℕ → Question → Option Answer → Option Answer
fitting limit k None = None
fitting limit k (Some a) = if does_fit limit k a then Some a else None

-- the answer that was given where it fits, else a question for one
abbrev pub answered_by : WasiState → Question → Option Answer → Result Answer Halt
answered_by h k given = asked k (fitting (text_limit h.version) k given)
