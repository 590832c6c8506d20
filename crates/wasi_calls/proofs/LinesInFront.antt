-- Rules don't look at the lines that were emitted before: with other lines in front a call does the
-- same.
use Rattle.std.proofs.Common.{◌≡◌, ℕ, List, [], ◌∷◌, ◌++◌, take, length, refl, sym, ap, ◌∙◌}
use Rattle.std.specs.Prelude.{Result, Ok, Err, IsOk, is_ok}
use Rattle.guest_memory.specs.rules.Bytes.{with_part}
use Rattle.file_tree.specs.rules.Files.{bytes_of_node}
use Rattle.wasi_abi.specs.rules.Layouts.{u32_bytes}
use Rattle.wasi_abi.specs.rules.Numbers.{fd_write_right}
use Rattle.wasi_calls_rules.specs.WasiStates.{Line, Target, Stream, Node, Descriptor, WasiState}
use Rattle.wasi_calls_rules.specs.Checks.{Bytes, Halt, Ruling, ◌>>=◌, open_descriptor, no_directory}
use Rattle.wasi_calls_rules.specs.Checks.{with_right, in_memory, buffers}
use Rattle.wasi_calls_rules.specs.Checks.{few_buffers, movable, gathered}
use Rattle.wasi_calls_rules.specs.Lines.{cut_all, output_stream, stream_written}
use Rattle.wasi_calls_rules.specs.declared.output_stream.OutputStream.{OutputStream}
use Rattle.wasi_calls_rules.specs.declared.output_stream.OutputStream.TheVariants.{Stdout, Stderr}
use Rattle.wasi_calls_rules.specs.Small.{call_done, roomy}
use Rattle.wasi_calls_rules.specs.Moving.{size_after, file_written, write_offset, offset_after}
use Rattle.wasi_calls_rules.specs.Moving.{target_written, fd_write}
use Rattle.wasi_calls_rules.specs.CallRules.{CallEnding, IsDone, NoMemory, TellsCallRule}
use Rattle.wasi_calls.specs.rules.Held.{HeldWasiState, ShowsWasiState, behind_lines}
use Rattle.wasi_calls.specs.Held.{behind_lines_of_call_rule}
use Rattle.wasi_calls.specs.rules.Calls.{ShowsCallRule}
use Rattle.wasi_calls.proofs.Cuts.{behind_cut, all_behind}

-- a step that gives a host, the same
abbrev behind_host : List Line → Result WasiState Halt → Result WasiState Halt
behind_host before (Ok h) = Ok (behind_lines before h)
behind_host before (Err halt) = Err halt

module _ (before : List Line) where
  pub next : {A : Type 0} (r : Result A Halt) (f g : A → Ruling)
      → ((x : A) → f x ≡ behind_lines_of_call_rule before (g x))
      → (r >>= f) ≡ behind_lines_of_call_rule before (r >>= g)
  next (Ok x) f g e = e x
  next (Err halt) f g e = refl

  next_host : {A : Type 0} (r : Result A Halt) (f g : A → Result WasiState Halt)
      → ((x : A) → f x ≡ behind_host before (g x)) → (r >>= f) ≡ behind_host before (r >>= g)
  next_host (Ok x) f g e = e x
  next_host (Err halt) f g e = refl

  pub host_next : (s r : Result WasiState Halt) (m : Bytes) → s ≡ behind_host before r
      → (s >>= λ after. call_done m after) ≡ behind_lines_of_call_rule before (r
      >>= λ after. call_done m after)
  host_next s (Ok h) m e = rw e refl
  host_next s (Err halt) m e = rw e refl

  then_host : (s r : Result WasiState Halt) (f g : WasiState → Result WasiState Halt) → s
      ≡ behind_host before r → ((h : WasiState) → f (behind_lines before h)
      ≡ behind_host before (g h)) → (s >>= f) ≡ behind_host before (r >>= g)
  then_host s (Ok h) f g e k = rw e (k h)
  then_host s (Err halt) f g e k = rw e refl

  stream_behind : (s : OutputStream) (bytes : Bytes) (h : WasiState)
      → stream_written s bytes (behind_lines before h)
      ≡ behind_lines before (stream_written s bytes h)
  stream_behind Stdout bytes h =
      let first : cut_all Stdout (record { lines = before ++ h.lines; unfinished = h.first }) bytes
      ≡ behind_cut before (cut_all Stdout (record {
        lines = h.lines;
        unfinished = h.first;
      }) bytes) = all_behind before Stdout (record {
        lines = h.lines;
        unfinished = h.first;
      }) bytes in
      rw first refl
  stream_behind Stderr bytes h =
      let second : cut_all Stderr (record {
        lines = before ++ h.lines;
        unfinished = h.second;
      }) bytes ≡ behind_cut before (cut_all Stderr (record {
        lines = h.lines;
        unfinished = h.second;
      }) bytes) = all_behind before Stderr (record {
        lines = h.lines;
        unfinished = h.second;
      }) bytes in
      rw second refl

  pub file_behind : (k offset : ℕ) (bytes : Bytes) (h : WasiState)
      → file_written k offset bytes (behind_lines before h)
      ≡ behind_host before (file_written k offset bytes h)
  file_behind k offset [] h = refl
  file_behind k offset (b ∷ bytes) h =
      next_host (roomy h k (size_after (bytes_of_node h.files k) offset (b ∷ bytes))) _ _ (λ _.
      refl)

  offset_behind : (fd offset : ℕ) (d : Descriptor) (bytes : Bytes) (h : WasiState)
      → offset_after fd offset d bytes (behind_lines before h)
      ≡ behind_lines before (offset_after fd offset d bytes h)
  offset_behind fd offset d [] h = refl
  offset_behind fd offset d (b ∷ bytes) h = refl

  target_behind : (t : Target) (fd : ℕ) (d : Descriptor) (bytes : Bytes) (h : WasiState)
      → target_written t fd d bytes (behind_lines before h)
      ≡ behind_host before (target_written t fd d bytes h)
  target_behind (Stream s) fd d bytes h =
      ap (λ (x : WasiState). Ok x) (stream_behind (output_stream s) bytes h)
  target_behind (Node k) fd d bytes h =
      then_host (file_written k (write_offset h k d) bytes (behind_lines before h))
      (file_written k (write_offset h k d) bytes h) _ _
      (file_behind k (write_offset h k d) bytes h)
      (λ after. ap (λ (x : WasiState). Ok x) (offset_behind fd (write_offset h k d) d bytes after))

  pub write_behind : (fd iovs count ret : ℕ) (m : Bytes) (h : WasiState)
      → fd_write fd iovs count ret m (behind_lines before h)
      ≡ behind_lines_of_call_rule before (fd_write fd iovs count ret m h)
  write_behind fd iovs count ret m h =
      next (open_descriptor h fd) _ _ (λ d. next (no_directory h d) _ _ (λ _.
      next (with_right fd_write_right d) _ _ (λ _. next (few_buffers count) _ _ (λ _.
      next (buffers m iovs count) _ _ (λ bs. next (in_memory m ret 4) _ _ (λ _.
      let bytes : Bytes = take (movable bs) (gathered m bs) in
      host_next (target_written d.target fd d bytes (behind_lines before h))
      (target_written d.target fd d bytes h) (with_part m ret (u32_bytes (length bytes)))
      (target_behind d.target fd d bytes h)))))))

-- ---- what is told, of every host that is shown

ok_behind : (before : List Line) (r : Ruling) → IsOk r
    → IsOk (behind_lines_of_call_rule before r)
ok_behind before (Ok done) is = refl
ok_behind before (Err halt) is = is

abbrev held_of_both : ℕ → WasiState → HeldWasiState
held_of_both released h = record { released = released; host = h }

same_held : (m n : ℕ) (g h : WasiState) → m ≡ n → g ≡ h → held_of_both m g ≡ held_of_both n h
same_held m n g h e f = rw (e, f) refl

module _ (r : WasiState → Ruling) (behind : (before : List Line) (h : WasiState)
    → r (behind_lines before h) ≡ behind_lines_of_call_rule before (r h)) (m old_m : Bytes)
    (held old : HeldWasiState)
    (released : held.released ≡ old.released) (h : WasiState) (s : ShowsWasiState old h) where
  at : r h ≡ behind_lines_of_call_rule s.before (r old.host)
  at = ap r s.is ∙ behind s.before old.host

  pub shown_of : (t : CallEnding) → TellsCallRule t m held.host old_m old.host (r old.host)
      → ShowsCallRule t m held old_m old (r h)
  shown_of IsDone e = (
    record { memory = m; host = behind_lines s.before held.host },
    at ∙ ap (behind_lines_of_call_rule s.before) e,
    refl,
    record { before = s.before; count = s.count ∙ sym released; is = refl },
  )
  shown_of NoMemory k = (
    ap is_ok at ∙ ok_behind s.before (r old.host) k.0,
    k.1,
    same_held held.released old.released held.host old.host released k.2,
  )
  shown_of _ k = (
    at ∙ ap (behind_lines_of_call_rule s.before) k.0,
    k.1,
    same_held held.released old.released held.host old.host released k.2,
  )
