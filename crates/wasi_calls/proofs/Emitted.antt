-- How many lines a call adds, and what is shown once lines are released.
use Rattle.std.proofs.Common.{◌≡◌, ℕ, ◌+◌, ◌≤◌, List, [], ◌∷◌, ◌++◌, length, take, drop, refl, sym}
use Rattle.std.proofs.Common.{ap, ◌∙◌, arith, append_assoc, length-append, length-take}
use Rattle.std.specs.Prelude.{Result, Ok, Err}
use Rattle.std.proofs.lemmas.List.{take-append-drop}
use Rattle.guest_memory.specs.rules.Bytes.{with_part}
use Rattle.file_tree.specs.rules.Files.{Files, bytes_of_node}
use Rattle.wasi_abi.specs.rules.Layouts.{u32_bytes}
use Rattle.wasi_abi.specs.rules.Numbers.{fd_write_right}
use Rattle.wasi_calls_rules.specs.WasiStates.{Line, Target, Stream, Node, Descriptor, WasiState}
use Rattle.wasi_calls_rules.specs.Checks.{Bytes, Halt, Done, Ruling, ◌>>=◌, gathered}
use Rattle.wasi_calls_rules.specs.Lines.{output_stream, stream_written, rest_of, lines_ended}
use Rattle.wasi_calls_rules.specs.declared.output_stream.OutputStream.TheVariants.{Stdout, Stderr}
use Rattle.wasi_calls_rules.specs.Small.{call_done, roomy}
use Rattle.wasi_calls_rules.specs.Moving.{size_after, file_written, write_offset, offset_after}
use Rattle.wasi_calls_rules.specs.Moving.{target_written, fd_write}
use Rattle.wasi_calls_rules.proofs.Steps.{HoldsAfter, done_with, step, next}
use Rattle.wasi_calls.specs.rules.Held.{HeldWasiState, ShowsWasiState, behind_lines, held_released}
use Rattle.wasi_calls.specs.Held.{behind_lines_of_call_rule}
use Rattle.wasi_calls.specs.rules.Outputs.{count_begun}
use Rattle.wasi_calls.specs.Writes.{unfinished_of}
use Rattle.wasi_calls.specs.Moves.{total_len, Wanted, wanted}
use Rattle.wasi_calls.proofs.Begun.{stream_begins}
use Rattle.wasi_calls.proofs.LinesInFront.{write_behind}
use Rattle.wasi_calls.proofs.MovedCallRules.{write_is, write_rest}

-- lines in front are counted beside the others
pub in_front : (before : List Line) (h : WasiState)
    → length (lines_ended (behind_lines before h)).lines
    ≡ length before + length (lines_ended h).lines
in_front before h =
    let lines_left : List Line = rest_of Stdout h.first ++ rest_of Stderr h.second in
    omega (
      arith,
      length-append (before ++ h.lines) lines_left,
      length-append before h.lines,
      length-append h.lines lines_left,
    )

pub released_shows : (n : ℕ) (old : HeldWasiState) (h : WasiState) → n ≤ length old.host.lines
    → ShowsWasiState old h → ShowsWasiState (held_released n old) h
released_shows n old h le s = record {
  before = s.before ++ take n old.host.lines;
  count = (let c : length s.before ≡ old.released = s.count in
      omega (
        arith,
        c,
        length-append s.before (take n old.host.lines),
        length-take n old.host.lines,
      ));
  is = s.is ∙ ap (λ (ls : List Line). record old.host { lines = ls })
      (ap (λ (ls : List Line). s.before ++ ls) (sym (take-append-drop n old.host.lines))
      ∙ sym (append_assoc s.before (take n old.host.lines) (drop n old.host.lines)));
}

-- ---- what a write adds

-- lines that a call leaves as they are
record Kept (h after : WasiState) : Type 0 where
  lines : after.lines ≡ h.lines
  first : after.first ≡ h.first
  second : after.second ≡ h.second

kept_count : (h after : WasiState) → Kept h after
    → length (lines_ended after).lines ≡ length (lines_ended h).lines + 0
kept_count h after k =
    let same : length (lines_ended after).lines ≡ length (lines_ended h).lines =
    rw (k.lines, k.first, k.second) refl in
    omega (arith, same)

kept_all : (h : WasiState) (fs : Files) → Kept h (record h { files = fs })
kept_all h fs = record { lines = refl; first = refl; second = refl }

file_keeps : (h : WasiState) (k from : ℕ) (bytes : Bytes)
    → HoldsAfter (Kept h) (file_written k from bytes h)
file_keeps h k from [] = done_with (Kept h) h (kept_all h h.files)
file_keeps h k from (b ∷ bytes) =
    next (roomy h k (size_after (bytes_of_node h.files k) from (b ∷ bytes))) _
    (λ _. done_with (Kept h) _ (kept_all h _))

offset_keeps : (h after : WasiState) (fd offset : ℕ) (d : Descriptor) (bytes : Bytes) → Kept h after
    → Kept h (offset_after fd offset d bytes after)
offset_keeps h after fd offset d [] k = k
offset_keeps h after fd offset d (b ∷ bytes) k =
    record { lines = k.lines; first = k.first; second = k.second }

node_keeps : (h : WasiState) (k fd : ℕ) (d : Descriptor) (bytes : Bytes)
    → HoldsAfter (Kept h) (target_written (Node k) fd d bytes h)
node_keeps h k fd d bytes =
    step (Kept h) (file_written k (write_offset h k d) bytes h) _
    (file_keeps h k (write_offset h k d) bytes)
    (λ after kept. done_with (Kept h) _ (offset_keeps h after fd (write_offset h k d) d bytes kept))

-- how many lines a write to this adds
abbrev pub begun_on : Target → Bytes → WasiState → ℕ
begun_on (Stream s) bytes h = count_begun (length (unfinished_of (output_stream s) h)) bytes
begun_on (Node k) bytes h = 0

target_adds : (t : Target) (fd : ℕ) (d : Descriptor) (bytes : Bytes) (h last : WasiState)
    → target_written t fd d bytes h ≡ Ok last
    → length (lines_ended last).lines ≡ length (lines_ended h).lines + begun_on t bytes h
target_adds (Stream s) fd d bytes h last is =
    let same : stream_written (output_stream s) bytes h ≡ last = cc in
    ap (λ (x : WasiState). length (lines_ended x).lines) (sym same)
    ∙ stream_begins (output_stream s) bytes h
target_adds (Node k) fd d bytes h last is =
    kept_count h last ((node_keeps h k fd d bytes).holds last is)

bound_host : (r : Result WasiState Halt) (m : Bytes) (done : Done)
    → (r >>= λ after. call_done m after) ≡ Ok done → r ≡ Ok done.host
bound_host (Ok x) m done is =
    let same : record { memory = m; host = x } ≡ done = cc in
    ap (λ (y : Done). Ok y.host) same
bound_host (Err halt) m done is = absurd (cc)

told_done : (before : List Line) (r : Ruling) (done : Done)
    → Ok done ≡ behind_lines_of_call_rule before r
    → (own : Done) × (r ≡ Ok own) × (done.host ≡ behind_lines before own.host)
told_done before (Ok own) done is =
    let same : done ≡ record { memory = own.memory; host = behind_lines before own.host } = cc in
    (own, refl, ap (λ (x : Done). x.host) same)
told_done before (Err halt) done is = absurd (cc)

module _ (fd iovs count ret : ℕ) (m : Bytes) (old : HeldWasiState) (h : WasiState)
    (s : ShowsWasiState old h) (w : Wanted) (passes : wanted fd_write_right fd iovs count ret m
    old.host ≡ Ok w) where
  call_rule_of : fd_write fd iovs count ret m old.host ≡ write_rest fd ret m old.host w
  call_rule_of = write_is fd iovs count ret m old.host
      ∙ ap (λ (r : Result Wanted Halt). r >>= write_rest fd ret m old.host) passes

  behind : fd_write fd iovs count ret m h
      ≡ behind_lines_of_call_rule s.before (fd_write fd iovs count ret m old.host)
  behind = ap (fd_write fd iovs count ret m) s.is
      ∙ write_behind s.before fd iovs count ret m old.host

  pub write_adds : (done : Done) (n : ℕ) → fd_write fd iovs count ret m h ≡ Ok done
      → n ≡ begun_on w.descriptor.target (gathered m w.buffers) old.host
      → length (lines_ended done.host).lines ≡ length (lines_ended h).lines + n
  write_adds done n e counted =
      let own = told_done s.before (fd_write fd iovs count ret m old.host) done
      (sym e ∙ behind) in
      let bytes : Bytes = gathered m w.buffers in
      let last = bound_host (target_written w.descriptor.target fd w.descriptor bytes old.host)
      (with_part m ret (u32_bytes (total_len w.buffers))) own.0 (sym call_rule_of ∙ own.1) in
      let adds = target_adds w.descriptor.target fd w.descriptor bytes old.host own.0.host last in
      let after : length (lines_ended done.host).lines
      ≡ length (lines_ended (behind_lines s.before own.0.host)).lines =
      ap (λ (x : WasiState). length (lines_ended x).lines) own.2 in
      let before : length (lines_ended h).lines
      ≡ length (lines_ended (behind_lines s.before old.host)).lines =
      ap (λ (g : WasiState). length (lines_ended g).lines) s.is in
      omega (
        arith,
        after,
        before,
        counted,
        adds,
        in_front s.before old.host,
        in_front s.before own.0.host,
      )
