-- The calls that move bytes keep memory.
use Rattle.std.proofs.Common.{◌≡◌, ℕ, ◌*◌, ◌%◌, [], ◌∷◌, ◌++◌, length, drop}
use Rattle.std.specs.Prelude.{true, Option, ◌==◌}
use Rattle.std.specs.List.{AllByRecursion, list_all}
use Rattle.file_tree.specs.rules.Files.{bytes_of_node}
use Rattle.wasi_abi.specs.declared.errno.Errno.TheVariants.{Fault, Inval}
use Rattle.wasi_abi.specs.declared.answer.Question.TheVariants as question
use Rattle.wasi_abi.specs.declared.answer.Answer.{Answer}
use Rattle.wasi_abi.specs.declared.answer.Answer.TheVariants as answer
use Rattle.wasi_abi.specs.rules.Answers.{newline}
use Rattle.wasi_abi.specs.rules.Numbers.{fd_read_right, fd_seek_right}
use Rattle.wasi_abi.specs.rules.Versions.{text_limit}
use Rattle.wasi_calls_rules.specs.WasiStates.{Target, Stream, Node, Descriptor, WasiState}
use Rattle.wasi_calls_rules.specs.Checks.{Bytes, Refuses, check_or, open_descriptor, a_file}
use Rattle.wasi_calls_rules.specs.Checks.{no_directory, with_right, node_named, is_inside}
use Rattle.wasi_calls_rules.specs.Checks.{buffers_at, buffers, few_buffers, movable}
use Rattle.wasi_calls_rules.specs.Checks.{scattered, answered_by}
use Rattle.wasi_calls_rules.specs.Moving.{Got, bytes_taken, input_taken, has_bytes, input_read}
use Rattle.wasi_calls_rules.specs.Moving.{file_read, target_read, fd_read, fd_pread}
use Rattle.wasi_calls_rules.proofs.Steps.{HoldsAfter, refused, done_with, step, next, within}
use Rattle.wasi_calls_rules.proofs.Steps.{checked, either_way, answered}
use Rattle.wasi_calls_rules.proofs.Puts.{Lies, all_lie, put_number, scattered_kept}
use Rattle.wasi_calls_rules.proofs.Supplies.{Supplies, AnswerHolds, file_holds}
use Rattle.wasi_calls_rules.proofs.SmallCallRules.{Keeps, GivenHolds, same, kept}
use Rattle.guest_memory.proofs.Lists.{all_both, all_take, all_drop}

buffers_lie : (m : Bytes) (iovs count : ℕ)
    → HoldsAfter (AllByRecursion (Lies m)) (buffers m iovs count)
buffers_lie m iovs count =
    within m iovs (8 * count) _ (λ _.
    step (λ _. list_all (is_inside m) (buffers_at m iovs count)
    ≡ true) (check_or (list_all (is_inside m) (buffers_at m iovs count)) Fault) _
    (checked (list_all (is_inside m) (buffers_at m iovs count)) Fault)
    (λ _ e. done_with (AllByRecursion (Lies m)) (buffers_at m iovs count)
    (all_lie m (buffers_at m iovs count) e)))

abbrev GotHolds : (ℕ → Type 0) → Got → Type 0
GotHolds Q got = AllByRecursion Q got.bytes

module _ (Q : ℕ → Type 0) (low : (x : ℕ)
    → Q (x % 256)) (m : Bytes) (old : AllByRecursion Q m) (h : WasiState) (s : Supplies Q h) where
  file_read_holds : (k offset n : ℕ) → AllByRecursion Q (file_read h k offset n)
  file_read_holds k offset n =
      all_take Q n (drop offset (bytes_of_node h.files k))
      (all_drop Q offset (bytes_of_node h.files k) (file_holds Q low h k s))

  -- ---- reads

  input_taken_holds : (n : ℕ) (a : Answer) → AnswerHolds Q a
      → HoldsAfter (GotHolds Q) (input_taken n a h)
  input_taken_holds n (answer.Request text) k =
      done_with (GotHolds Q) (bytes_taken n (text ++ newline ∷ []) h) (all_take Q n (text
      ++ newline ∷ []) (all_both Q text (newline ∷ []) k (low 10, tt)))
  input_taken_holds n answer.End k = done_with (GotHolds Q) _ tt
  input_taken_holds n _ k = refused _ (Refuses Inval)

  input_read_holds : (n : ℕ) (given : Option Answer) → GivenHolds Q given
      → HoldsAfter (GotHolds Q) (input_read n given h)
  input_read_holds n given fine =
      either_way (n == 0) _ _ (done_with (GotHolds Q) (record { bytes = []; host = h }) tt)
      (either_way (has_bytes h.unread) _ _ (done_with (GotHolds Q) (bytes_taken n h.unread h)
      (all_take Q n h.unread s.unread))
      (either_way h.input_ended _ _ (done_with (GotHolds Q) (record { bytes = []; host = h }) tt)
      (step (AnswerHolds Q) (answered_by h question.Request given) _
      (answered (AnswerHolds Q) h question.Request given (λ a e fits.
      fine (text_limit h.version) question.Request a e fits))
      (λ a k. input_taken_holds n a k))))

  target_read_holds : (t : Target) (fd : ℕ) (d : Descriptor) (n : ℕ) (given : Option Answer)
      → GivenHolds Q given → HoldsAfter (GotHolds Q) (target_read t fd d n given h)
  target_read_holds (Stream i) fd d n given fine = input_read_holds n given fine
  target_read_holds (Node k) fd d n given fine =
      done_with (GotHolds Q) _ (file_read_holds k d.offset n)

  pub fd_read_keeps : (fd iovs count ret : ℕ) (given : Option Answer) → GivenHolds Q given
      → Keeps Q m (fd_read fd iovs count ret given m h)
  fd_read_keeps fd iovs count ret given fine =
      next (open_descriptor h fd) _ (λ d. next (no_directory h d) _ (λ _.
      next (with_right fd_read_right d) _ (λ _. next (few_buffers count) _ (λ _.
      step (AllByRecursion (Lies m)) (buffers m iovs count) _ (buffers_lie m iovs count)
      (λ bs inside.
      within m ret 4 _ (λ room.
      step (GotHolds Q) (target_read d.target fd d (movable bs) given h) _
      (target_read_holds d.target fd d (movable bs) given fine) (λ got all.
      kept Q low m old _ got.host (put_number Q low m (scattered m bs got.bytes) ret 4
      (length got.bytes) room
      (scattered_kept Q low m m bs got.bytes inside all (same Q low m old))))))))))

  pub fd_pread_keeps : (fd iovs count offset ret : ℕ)
      → Keeps Q m (fd_pread fd iovs count offset ret m h)
  fd_pread_keeps fd iovs count offset ret =
      next (open_descriptor h fd) _ (λ d.
      next (a_file h d) _ (λ _. next (with_right fd_read_right d) _ (λ _.
      next (with_right fd_seek_right d) _ (λ _. next (few_buffers count) _ (λ _.
      step (AllByRecursion (Lies m)) (buffers m iovs count) _ (buffers_lie m iovs count)
      (λ bs inside.
      within m ret 4 _ (λ room.
      let bytes : Bytes = file_read h (node_named d.target) offset (movable bs) in
      kept Q low m old _ h (put_number Q low m (scattered m bs bytes) ret 4 (length bytes) room
      (scattered_kept Q low m m bs bytes inside (file_read_holds (node_named d.target) offset
      (movable bs)) (same Q low m old))))))))))
