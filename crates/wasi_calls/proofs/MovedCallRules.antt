-- The rules of the calls that move bytes, in the order of the code: all checks, and then the move.
use Rattle.std.proofs.Common.{◌≡◌, ℕ, ◌*◌, ◌≤◌, min, inl, inr, List, [], ◌∷◌, ◌++◌, length, take}
use Rattle.std.proofs.Common.{drop, refl, sym, ap, ◌∙◌, arith, length-take}
use Rattle.std.specs.Prelude.{Bool, true, false, ◌==◌, sum_by, Option, Result, Ok, Err, IsOk}
use Rattle.std.specs.List.{list_all}
use Rattle.std.proofs.lemmas.Bool.{cases_lt}
use Rattle.std.proofs.lemmas.List.{take_all}
use Rattle.guest_memory.specs.rules.Bytes.{bytes_of, with_part}
use Rattle.guest_memory.specs.rules.Memories.{LinearMemory, with_bytes}
use Rattle.file_tree.specs.rules.Files.{bytes_of_node}
use Rattle.wasi_abi.specs.declared.errno.Errno.TheVariants.{Fault, Inval}
use Rattle.wasi_abi.specs.declared.answer.Question.TheVariants as question
use Rattle.wasi_abi.specs.declared.answer.Answer.{Answer}
use Rattle.wasi_abi.specs.declared.answer.Answer.TheVariants as answer
use Rattle.wasi_abi.specs.rules.Answers.{newline}
use Rattle.wasi_abi.specs.rules.Layouts.{u32_bytes}
use Rattle.wasi_abi.specs.rules.Numbers.{fd_read_right, fd_seek_right, fd_write_right}
use Rattle.wasi_calls_rules.specs.WasiStates.{Target, Stream, Node, Descriptor, WasiState}
use Rattle.wasi_calls_rules.specs.Checks.{Bytes, Halt, Refuses, Ruling, ◌>>=◌, check_or}
use Rattle.wasi_calls_rules.specs.Checks.{open_descriptor, a_file, no_directory, with_right}
use Rattle.wasi_calls_rules.specs.Checks.{in_memory, Buffer, is_inside, buffers, buffers_at}
use Rattle.wasi_calls_rules.specs.Checks.{few_buffers, movable, gathered, scattered, node_named}
use Rattle.wasi_calls_rules.specs.Checks.{answered_by}
use Rattle.wasi_calls_rules.specs.Small.{call_done}
use Rattle.wasi_calls_rules.specs.Moving.{Got, bytes_taken, input_taken, has_bytes, input_read}
use Rattle.wasi_calls_rules.specs.Moving.{file_read, target_read, file_written, target_written}
use Rattle.wasi_calls_rules.specs.Moving.{fd_read, fd_pread, fd_write, fd_pwrite}
use Rattle.wasi_calls_rules.specs.declared.limits.TheConstants.{MOVED_BYTES}
use Rattle.wasi_calls_rules.proofs.Puts.{all_lie}
use Rattle.wasi_calls_rules.proofs.Steps.{HoldsAfter, refused, done_with, next, either_way}
use Rattle.wasi_calls.specs.Steps.{StopsStep}
use Rattle.wasi_calls.specs.declared.stop.CallStop.{CallStop}
use Rattle.wasi_calls.specs.declared.stop.CallStop.TheVariants as stop
use Rattle.wasi_calls.specs.Moves.{total_len, fronts, AreInside, moved_buffers, Wanted, wanted}
use Rattle.wasi_calls.specs.Moves.{wanted_at}
use Rattle.wasi_calls.proofs.Through.{through}
use Rattle.wasi_calls.proofs.Fronts.{total_sum, total_fronts, length_gathered, inside_fronts}
use Rattle.wasi_calls.proofs.Fronts.{gathered_fronts, scattered_fronts}

-- ---- steps

same_next : {A B : Type 0} (r : Result A Halt) (f g : A → Result B Halt)
    → ((x : A) → r ≡ Ok x → f x ≡ g x) → (r >>= f) ≡ (r >>= g)
same_next (Ok x) f g e = e x refl
same_next (Err halt) f g e = refl

module _ (m : Bytes) (iovs count : ℕ) (f : List Buffer → Ruling)
    (g : List Buffer → Result Wanted Halt) (k : Wanted → Ruling)
    (e : (bs : List Buffer) → AreInside m bs → f bs ≡ (g (fronts MOVED_BYTES bs) >>= k)) where
  checked_both : (bs : List Buffer) (r s : Result (Unit {0}) Halt) (t : Bool)
      → (t ≡ true → AreInside m bs)
      → (r >>= λ _. ((s >>= λ _. check_or t Fault >>= λ _. Ok bs) >>= f))
      ≡ (((r >>= λ _. ((s >>= λ _. check_or t Fault >>= λ _. Ok bs) >>= λ (cs : List Buffer).
      Ok (fronts MOVED_BYTES cs))) >>= g) >>= k)
  checked_both bs (Ok u) (Ok v) true inside = e bs (inside refl)
  checked_both bs (Ok u) (Ok v) false inside = refl
  checked_both bs (Ok u) (Err halt) t inside = refl
  checked_both bs (Err halt) s t inside = refl

  moved_through : (few_buffers count >>= λ _. (buffers m iovs count >>= f))
      ≡ ((moved_buffers m iovs count >>= g) >>= k)
  moved_through =
      checked_both (buffers_at m iovs count) (few_buffers count) (in_memory m iovs (8 * count))
      (list_all (is_inside m) (buffers_at m iovs count)) (all_lie m (buffers_at m iovs count))

-- ---- what is moved

take_less : (n total : ℕ) (xs : List ℕ) → length xs ≤ total → take (min n total) xs ≡ take n xs
take_less n total xs le = elim (cases_lt n total) [
  | inl lt ↦ (let same : min n total ≡ n = omega arith in ap (λ (k : ℕ). take k xs) same)
  | inr ge ↦ (
      let same : min n total ≡ total = omega arith in
      ap (λ (k : ℕ). take k xs) same ∙ take_all total xs le
      ∙ sym (take_all n xs (omega (arith, le, ge))))
]

movable_is : (bs : List Buffer) → movable bs ≡ total_len (fronts MOVED_BYTES bs)
movable_is bs =
    ap (λ (n : ℕ). min MOVED_BYTES n) (total_sum bs) ∙ sym (total_fronts MOVED_BYTES bs)

bytes_moved_are : (m : Bytes) (bs : List Buffer) → AreInside m bs
    → take (movable bs) (gathered m bs) ≡ gathered m (fronts MOVED_BYTES bs)
bytes_moved_are m bs inside =
    let few = length_gathered m bs inside in
    take_less MOVED_BYTES (sum_by (λ (b : Buffer). b.len) bs) (gathered m bs)
    (omega (arith, few, total_sum bs))
    ∙ sym (gathered_fronts m MOVED_BYTES bs inside)

-- ---- writes

abbrev pub write_rest : ℕ → ℕ → Bytes → WasiState → Wanted → Ruling
write_rest fd ret m h w =
    target_written w.descriptor.target fd w.descriptor (gathered m w.buffers) h >>= λ after.
    call_done (with_part m ret (u32_bytes (total_len w.buffers))) after

abbrev pub pwrite_rest : ℕ → ℕ → Bytes → WasiState → Wanted → Ruling
pwrite_rest offset ret m h w =
    file_written (node_named w.descriptor.target) offset (gathered m w.buffers) h >>= λ after.
    call_done (with_part m ret (u32_bytes (total_len w.buffers))) after

-- whatever is done with the bytes
put_bytes : (m : Bytes) (ret : ℕ) (bs : List Buffer) → AreInside m bs
    → (go : Bytes → Result WasiState Halt)
    → (go (take (movable bs) (gathered m bs)) >>= λ after.
    call_done (with_part m ret (u32_bytes (length (take (movable bs) (gathered m bs))))) after)
    ≡ (go (gathered m (fronts MOVED_BYTES bs)) >>= λ after.
    call_done (with_part m ret (u32_bytes (total_len (fronts MOVED_BYTES bs)))) after)
put_bytes m ret bs inside go =
    let fs : List Buffer = fronts MOVED_BYTES bs in
    ap (λ (x : Bytes). go x >>= λ after. call_done (with_part m ret (u32_bytes (length x))) after)
    (bytes_moved_are m bs inside)
    ∙ ap (λ (n : ℕ). go (gathered m fs) >>= λ after.
    call_done (with_part m ret (u32_bytes n)) after)
    (length_gathered m fs (inside_fronts m MOVED_BYTES bs inside))

pub write_is : (fd iovs count ret : ℕ) (m : Bytes) (h : WasiState) → fd_write fd iovs count ret m h
    ≡ (wanted fd_write_right fd iovs count ret m h >>= write_rest fd ret m h)
write_is fd iovs count ret m h =
    let k = write_rest fd ret m h in
    through (open_descriptor h fd) _ _ k (λ d.
    through (no_directory h d) _ _ k (λ _.
    through (with_right fd_write_right d) _ _ k (λ _.
    moved_through m iovs count _ _ k (λ bs inside.
    through (in_memory m ret 4) _ _ k (λ _.
    put_bytes m ret bs inside (λ bytes. target_written d.target fd d bytes h))))))

pub pwrite_is : (fd iovs count offset ret : ℕ) (m : Bytes) (h : WasiState)
    → fd_pwrite fd iovs count offset ret m h
    ≡ (wanted_at fd_write_right fd iovs count ret m h >>= pwrite_rest offset ret m h)
pwrite_is fd iovs count offset ret m h =
    let k = pwrite_rest offset ret m h in
    through (open_descriptor h fd) _ _ k (λ d.
    through (a_file h d) _ _ k (λ _.
    through (with_right fd_write_right d) _ _ k (λ _.
    through (with_right fd_seek_right d) _ _ k (λ _.
    moved_through m iovs count _ _ k (λ bs inside.
    through (in_memory m ret 4) _ _ k (λ _.
    put_bytes m ret bs inside (λ bytes. file_written (node_named d.target) offset bytes h)))))))

-- ---- reads

abbrev Few : ℕ → Got → Type 0
Few n got = length got.bytes ≤ n

taken_few : (n : ℕ) (bytes : Bytes) (h : WasiState) → Few n (bytes_taken n bytes h)
taken_few n bytes h = omega (arith, length-take n bytes)

none_few : (n : ℕ) (h : WasiState) → HoldsAfter (Few n) (Ok (record { bytes = []; host = h }))
none_few n h = done_with (Few n) _ (omega arith)

input_taken_few : (n : ℕ) (a : Answer) (h : WasiState) → HoldsAfter (Few n) (input_taken n a h)
input_taken_few n (answer.Request text) h =
    done_with (Few n) _ (omega (arith, length-take n (text ++ newline ∷ [])))
input_taken_few n answer.End h = done_with (Few n) _ (omega arith)
input_taken_few n _ h = refused _ (Refuses Inval)

input_few : (n : ℕ) (given : Option Answer) (h : WasiState)
    → HoldsAfter (Few n) (input_read n given h)
input_few n given h =
    either_way (n == 0) _ _ (none_few n h)
    (either_way (has_bytes h.unread) _ _ (done_with (Few n) _ (taken_few n h.unread h))
    (either_way h.input_ended _ _ (none_few n h)
    (next (answered_by h question.Request given) _ (λ a. input_taken_few n a h))))

pub target_few : (t : Target) (fd : ℕ) (d : Descriptor) (n : ℕ) (given : Option Answer)
    (h : WasiState) → HoldsAfter (Few n) (target_read t fd d n given h)
target_few (Stream s) fd d n given h = input_few n given h
target_few (Node k) fd d n given h =
    done_with (Few n) _ (omega (arith, length-take n (drop d.offset (bytes_of_node h.files k))))

abbrev pub read_rest : ℕ → ℕ → Option Answer → Bytes → WasiState → Wanted → Ruling
read_rest fd ret given m h w =
    target_read w.descriptor.target fd w.descriptor (total_len w.buffers) given h >>= λ got.
    call_done (with_part (scattered m w.buffers got.bytes) ret (u32_bytes (length got.bytes)))
    got.host

abbrev pub pread_rest : ℕ → ℕ → Bytes → WasiState → Wanted → Ruling
pread_rest offset ret m h w =
    let bytes : Bytes = file_read h (node_named w.descriptor.target) offset
    (total_len w.buffers) in
    call_done (with_part (scattered m w.buffers bytes) ret (u32_bytes (length bytes))) h

abbrev got_put : Bytes → ℕ → List Buffer → Bytes → WasiState → Ruling
got_put m ret bs bytes after =
    call_done (with_part (scattered m bs bytes) ret (u32_bytes (length bytes))) after

put_got : (m : Bytes) (ret : ℕ) (bs : List Buffer) (bytes : Bytes) (after : WasiState)
    → length bytes ≤ total_len (fronts MOVED_BYTES bs)
    → got_put m ret bs bytes after ≡ got_put m ret (fronts MOVED_BYTES bs) bytes after
put_got m ret bs bytes after few =
    let most = total_fronts MOVED_BYTES bs in
    ap (λ (x : Bytes). call_done (with_part x ret (u32_bytes (length bytes))) after)
    (sym (scattered_fronts m MOVED_BYTES bs bytes (omega (arith, few, most))))

read_bytes : (fd ret : ℕ) (d : Descriptor) (given : Option Answer) (m : Bytes) (h : WasiState)
    (bs : List Buffer)
    → (target_read d.target fd d (movable bs) given h >>= λ got.
    got_put m ret bs got.bytes got.host)
    ≡ (target_read d.target fd d (total_len (fronts MOVED_BYTES bs)) given h >>= λ got.
    got_put m ret (fronts MOVED_BYTES bs) got.bytes got.host)
read_bytes fd ret d given m h bs =
    let n : ℕ = total_len (fronts MOVED_BYTES bs) in
    ap (λ (i : ℕ). target_read d.target fd d i given h >>= λ got.
    got_put m ret bs got.bytes got.host) (movable_is bs)
    ∙ same_next (target_read d.target fd d n given h) _ _
    (λ got is. put_got m ret bs got.bytes got.host
    ((target_few d.target fd d n given h).holds got is))

pub read_is : (fd iovs count ret : ℕ) (given : Option Answer) (m : Bytes) (h : WasiState)
    → fd_read fd iovs count ret given m h
    ≡ (wanted fd_read_right fd iovs count ret m h >>= read_rest fd ret given m h)
read_is fd iovs count ret given m h =
    let k = read_rest fd ret given m h in
    through (open_descriptor h fd) _ _ k (λ d.
    through (no_directory h d) _ _ k (λ _.
    through (with_right fd_read_right d) _ _ k (λ _.
    moved_through m iovs count _ _ k (λ bs inside.
    through (in_memory m ret 4) _ _ k (λ _. read_bytes fd ret d given m h bs)))))

pread_bytes : (ret k offset : ℕ) (m : Bytes) (h : WasiState) (bs : List Buffer)
    → got_put m ret bs (file_read h k offset (movable bs)) h
    ≡ got_put m ret (fronts MOVED_BYTES bs)
    (file_read h k offset (total_len (fronts MOVED_BYTES bs))) h
pread_bytes ret k offset m h bs =
    let n : ℕ = total_len (fronts MOVED_BYTES bs) in
    ap (λ (i : ℕ). got_put m ret bs (file_read h k offset i) h) (movable_is bs)
    ∙ put_got m ret bs (file_read h k offset n) h
    (omega (arith, length-take n (drop offset (bytes_of_node h.files k))))

pub pread_is : (fd iovs count offset ret : ℕ) (m : Bytes) (h : WasiState)
    → fd_pread fd iovs count offset ret m h
    ≡ (wanted_at fd_read_right fd iovs count ret m h >>= pread_rest offset ret m h)
pread_is fd iovs count offset ret m h =
    let k = pread_rest offset ret m h in
    through (open_descriptor h fd) _ _ k (λ d.
    through (a_file h d) _ _ k (λ _.
    through (with_right fd_read_right d) _ _ k (λ _.
    through (with_right fd_seek_right d) _ _ k (λ _.
    moved_through m iovs count _ _ k (λ bs inside.
    through (in_memory m ret 4) _ _ k (λ _.
    pread_bytes ret (node_named d.target) offset m h bs))))))

-- ---- steps that stop

ok_after : {A B : Type 0} (r : Result A Halt) (go : A → B) → IsOk r → IsOk (r >>= λ x. Ok (go x))
ok_after (Ok x) go is = refl
ok_after (Err halt) go is = is

-- what stops a step stops all that would have followed
pub stops_after : {A B : Type 0} (why : CallStop) (r : Result A Halt) (go : A → B)
    → StopsStep why r → StopsStep why (r >>= λ x. Ok (go x))
stops_after (stop.Refused e) r go is = rw is refl
stops_after (stop.Asks question) r go is = rw is refl
stops_after stop.Memory r go is = ok_after r go is

-- ---- the number of bytes in its cell

pub cell_put : (m new : LinearMemory) (at ret n value : ℕ)
    → new ≡ with_bytes at (bytes_of 4 n) m → at ≡ ret → n ≡ value
    → new.bytes ≡ with_part m.bytes ret (u32_bytes value)
cell_put m new at ret n value is place count = rw (is, place, count) refl
