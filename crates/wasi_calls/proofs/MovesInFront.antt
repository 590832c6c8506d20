-- The rules of reads, and of writes at a place, don't look at the lines that were emitted before.
use Rattle.std.proofs.Common.{◌≡◌, ℕ, List, length, take, refl}
use Rattle.std.specs.Prelude.{Bool, true, false, ◌==◌, if◌then◌else◌, Option, Result, Ok, Err}
use Rattle.guest_memory.specs.rules.Bytes.{with_part}
use Rattle.wasi_abi.specs.declared.answer.Answer.{Answer}
use Rattle.wasi_abi.specs.declared.answer.Answer.TheVariants as answer
use Rattle.wasi_abi.specs.declared.answer.Question.TheVariants as question
use Rattle.wasi_abi.specs.rules.Layouts.{u32_bytes}
use Rattle.wasi_abi.specs.rules.Numbers.{fd_read_right, fd_write_right, fd_seek_right}
use Rattle.wasi_calls_rules.specs.WasiStates.{Line, Target, Stream, Node, Descriptor, WasiState}
use Rattle.wasi_calls_rules.specs.Checks.{Bytes, Buffer, Halt, ◌>>=◌, open_descriptor, a_file}
use Rattle.wasi_calls_rules.specs.Checks.{no_directory, with_right, few_buffers, buffers, in_memory}
use Rattle.wasi_calls_rules.specs.Checks.{movable, gathered, scattered, node_named, answered_by}
use Rattle.wasi_calls_rules.specs.Small.{call_done}
use Rattle.wasi_calls_rules.specs.Moving.{Got, input_taken, has_bytes, input_read, target_read}
use Rattle.wasi_calls_rules.specs.Moving.{fd_read, file_written, fd_pwrite}
use Rattle.wasi_calls.specs.rules.Held.{behind_lines}
use Rattle.wasi_calls.specs.Held.{behind_lines_of_call_rule}
use Rattle.wasi_calls.proofs.LinesInFront.{next, host_next, file_behind}
use Rattle.wasi_calls.proofs.SmallInFront.{IsBehind}

-- what was read, with the lines in front of the host
abbrev behind_got : List Line → Result Got Halt → Result Got Halt
behind_got before (Ok got) = Ok (record { bytes = got.bytes; host = behind_lines before got.host })
behind_got before (Err halt) = Err halt

module _ (before : List Line) (m : Bytes) (h : WasiState) where
  pub pwrite_behind : (fd iovs count offset ret : ℕ)
      → IsBehind before (fd_pwrite fd iovs count offset ret m) h
  pwrite_behind fd iovs count offset ret =
      next before (open_descriptor h fd) _ _ (λ d. next before (a_file h d) _ _ (λ _.
      next before (with_right fd_write_right d) _ _ (λ _.
      next before (with_right fd_seek_right d) _ _ (λ _.
      next before (few_buffers count) _ _ (λ _. next before (buffers m iovs count) _ _ (λ bs.
      next before (in_memory m ret 4) _ _ (λ _.
      let bytes : Bytes = take (movable bs) (gathered m bs) in
      let k : ℕ = node_named d.target in
      host_next before (file_written k offset bytes (behind_lines before h))
      (file_written k offset bytes h) (with_part m ret (u32_bytes (length bytes)))
      (file_behind before k offset bytes h))))))))

  -- ---- reads that move on

  got_either : (b : Bool) (w x y z : Result Got Halt) → w ≡ behind_got before y
      → x ≡ behind_got before z
      → (if b then w else x) ≡ behind_got before (if b then y else z)
  got_either true w x y z e f = e
  got_either false w x y z e f = f

  got_next : {A : Type 0} (r : Result A Halt) (f g : A → Result Got Halt)
      → ((x : A) → f x ≡ behind_got before (g x)) → (r >>= f) ≡ behind_got before (r >>= g)
  got_next (Ok x) f g e = e x
  got_next (Err halt) f g e = refl

  taken_behind : (n : ℕ) (a : Answer)
      → input_taken n a (behind_lines before h) ≡ behind_got before (input_taken n a h)
  taken_behind n (answer.Request text) = refl
  taken_behind n answer.End = refl
  taken_behind n _ = refl

  input_behind : (n : ℕ) (given : Option Answer)
      → input_read n given (behind_lines before h) ≡ behind_got before (input_read n given h)
  input_behind n given =
      got_either (n == 0) _ _ _ _ refl
      (got_either (has_bytes h.unread) _ _ _ _ refl
      (got_either h.input_ended _ _ _ _ refl
      (got_next (answered_by h question.Request given) _ _ (λ a. taken_behind n a))))

  target_behind : (t : Target) (fd : ℕ) (d : Descriptor) (n : ℕ) (given : Option Answer)
      → target_read t fd d n given (behind_lines before h)
      ≡ behind_got before (target_read t fd d n given h)
  target_behind (Stream s) fd d n given = input_behind n given
  target_behind (Node k) fd d n given = refl

  put_behind : (bs : List Buffer) (ret : ℕ) (s r : Result Got Halt) → s ≡ behind_got before r
      → (s >>= λ got. call_done (with_part (scattered m bs got.bytes) ret
      (u32_bytes (length got.bytes))) got.host)
      ≡ behind_lines_of_call_rule before (r >>= λ got. call_done
      (with_part (scattered m bs got.bytes) ret (u32_bytes (length got.bytes))) got.host)
  put_behind bs ret s (Ok got) e = rw e refl
  put_behind bs ret s (Err halt) e = rw e refl

  pub read_behind : (fd iovs count ret : ℕ) (given : Option Answer)
      → IsBehind before (fd_read fd iovs count ret given m) h
  read_behind fd iovs count ret given =
      next before (open_descriptor h fd) _ _ (λ d. next before (no_directory h d) _ _ (λ _.
      next before (with_right fd_read_right d) _ _ (λ _.
      next before (few_buffers count) _ _ (λ _. next before (buffers m iovs count) _ _ (λ bs.
      next before (in_memory m ret 4) _ _ (λ _.
      put_behind bs ret (target_read d.target fd d (movable bs) given (behind_lines before h))
      (target_read d.target fd d (movable bs) given h)
      (target_behind d.target fd d (movable bs) given)))))))
