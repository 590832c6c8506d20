-- The rules of the calls that move bytes, up to the move itself, in the pieces that the code is
-- made of (this project's own).
use Rattle.std.specs.Prelude.{◌≡◌, ◌≤◌, ◌==◌, if◌then◌else◌, ℕ, ◌+◌, ◌-◌, min, true, false, List}
use Rattle.std.specs.Prelude.{[], ◌∷◌, ◌++◌, length, Option, Result, Ok, Err}
use Rattle.std.specs.List.{AllByRecursion}
use Rattle.wasi_abi.specs.declared.errno.Errno.TheVariants.{Inval}
use Rattle.wasi_abi.specs.declared.answer.Question.TheVariants as question
use Rattle.wasi_abi.specs.declared.answer.Answer.{Answer}
use Rattle.wasi_abi.specs.declared.answer.Answer.TheVariants as answer
use Rattle.wasi_abi.specs.rules.Answers.{newline}
use Rattle.wasi_abi.specs.rules.Numbers.{fd_seek_right}
use Rattle.file_tree.specs.rules.Files.{is_directory}
use Rattle.wasi_calls_rules.specs.WasiStates.{Node, Descriptor, WasiState, IsThere}
use Rattle.wasi_calls_rules.specs.Checks.{Bytes, Halt, Refuses, ◌>>=◌, Buffer, open_descriptor}
use Rattle.wasi_calls_rules.specs.Checks.{no_directory, a_file, with_right, in_memory, buffers}
use Rattle.wasi_calls_rules.specs.Checks.{few_buffers, scattered, answered_by}
use Rattle.wasi_calls_rules.specs.Moving.{Got, has_bytes, moved_to}
use Rattle.wasi_calls_rules.specs.declared.limits.TheConstants.{MOVED_BYTES}

-- how many bytes buffers have
abbrev pub total_len : List Buffer → ℕ
total_len [] = 0
total_len (b ∷ bs) = b.len + total_len bs

-- the fronts of buffers that have so many bytes at most
abbrev pub fronts : ℕ → List Buffer → List Buffer
fronts room [] = []
fronts room (b ∷ bs) = record { from = b.from; len = min room b.len } ∷ fronts (room - b.len) bs

-- each lies within memory
abbrev pub AreInside : Bytes → List Buffer → Type 0
AreInside m bs = AllByRecursion (λ (b : Buffer). b.from + b.len ≤ length m) bs

-- the buffers that so many iovecs name, as far as a call moves their bytes
abbrev pub moved_buffers : Bytes → ℕ → ℕ → Result (List Buffer) Halt
moved_buffers m iovs count =
    few_buffers count >>= λ _.
    buffers m iovs count >>= λ bs.
    Ok (fronts MOVED_BYTES bs)

-- a descriptor, and the buffers that bytes are moved from or to
pub record Wanted : Type 0 where
  pub descriptor : Descriptor
  pub buffers : List Buffer

-- what a read or a write is to do, once all of its checks have passed; it needs this right
abbrev pub wanted : ℕ → ℕ → ℕ → ℕ → ℕ → Bytes → WasiState → Result Wanted Halt
wanted right fd iovs count ret m h =
    open_descriptor h fd >>= λ d.
    no_directory h d >>= λ _.
    with_right right d >>= λ _.
    moved_buffers m iovs count >>= λ bs.
    in_memory m ret 4 >>= λ _.
    Ok (record { descriptor = d; buffers = bs })

-- the same for one at a place in a file
abbrev pub wanted_at : ℕ → ℕ → ℕ → ℕ → ℕ → Bytes → WasiState → Result Wanted Halt
wanted_at right fd iovs count ret m h =
    open_descriptor h fd >>= λ d.
    a_file h d >>= λ _.
    with_right right d >>= λ _.
    with_right fd_seek_right d >>= λ _.
    moved_buffers m iovs count >>= λ bs.
    in_memory m ret 4 >>= λ _.
    Ok (record { descriptor = d; buffers = bs })

-- All checks have passed: bytes of these buffers are to be moved, and their number is to be put
-- where there is room.
pub record PassesChecks (m : Bytes) (h : WasiState) (fd ret : ℕ) (r : Result Wanted Halt)
    (buffers : List Buffer) : Type 0 where
  pub descriptor : Descriptor
  pub is_open : open_descriptor h fd ≡ Ok descriptor
  pub no_directory : no_directory h descriptor ≡ Ok tt
  pub is : r ≡ Ok (record { descriptor = descriptor; buffers = buffers })
  pub inside : AreInside m buffers
  pub room : ret + 4 ≤ length m

-- ---- what was read

-- So many bytes were read: the rule gives them and the host after it, and they are in the buffers.
pub record ReadsInto (n : ℕ) (old new : Bytes) (bs : List Buffer) (after : WasiState)
    (r : Result Got Halt)
    : Type 0 where
  pub bytes : Bytes
  pub is : r ≡ Ok (record { bytes = bytes; host = after })
  pub put : new ≡ scattered old bs bytes
  pub count : n ≡ length bytes

-- ---- input

-- the host once an answer has been taken: its text and a newline wait to be read, or input has
-- ended
abbrev pub line_taken : Answer → WasiState → Result WasiState Halt
line_taken (answer.Request text) h = Ok (record h { unread = text ++ newline ∷ [] })
line_taken answer.End h = Ok (record h { input_ended = true })
line_taken _ h = Err (Refuses Inval)

-- a host that has nothing to read, and may get more, takes an answer
abbrev pub supplied : Option Answer → WasiState → Result WasiState Halt
supplied given h =
    if has_bytes h.unread then Ok h
    else if h.input_ended then Ok h
    else (answered_by h question.Request given >>= λ a. line_taken a h)

-- ---- offsets

-- the host once a write of so many bytes from an offset on is over
abbrev pub moved_behind : ℕ → ℕ → Descriptor → ℕ → WasiState → WasiState
moved_behind fd offset d n h = if n == 0 then h else moved_to fd d (offset + n) h

-- a file is open under a number
pub record AtNode (h : WasiState) (fd node : ℕ) : Type 0 where
  pub named : (d : Descriptor) → open_descriptor h fd ≡ Ok d → d.target ≡ Node node
  pub there : IsThere h.files (Node node)
  pub file : is_directory h.files node ≡ false
