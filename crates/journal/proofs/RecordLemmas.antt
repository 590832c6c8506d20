-- Records as bytes, whole and cut.
use Rattle.std.proofs.Common.{◌≡◌, ℕ, zero, suc, ◌+◌, ◌-◌, ◌<◌, ◌≤◌, true, leb, get_or, Some, None}
use Rattle.std.proofs.Common.{option_map, List, [], ◌∷◌, ◌++◌, length, take, drop, refl, sym, ap}
use Rattle.std.proofs.Common.{◌∙◌, ⊎_elim, arith, length-append, append_assoc}
use Rattle.std.proofs.lemmas.Bool.{cases_lt, cond-true, cond-false, le-leb, lt-leb}
use Rattle.std.proofs.lemmas.List.{take_at, drop_at, take-take, drop-take, drop-drop}
use Rattle.std.proofs.lemmas.List.{length-take-le}
use Rattle.guest_memory.specs.rules.Bytes.{bytes_of, number_of, part}
use Rattle.guest_memory.proofs.ByteLemmas.{length-bytes_of, number_of-bytes_of}
use Rattle.wasi_abi.specs.declared.version.Version.{Version}
use Rattle.wasi_abi.specs.rules.Versions.{text_limit, length_bytes}
use Rattle.wasi_abi.proofs.VersionLemmas.{lengths_fit}
use Rattle.wasi_abi.specs.rules.Layouts.{u64_bytes}
use Rattle.wasi_abi.specs.declared.answer.Answer.{Answer}
use Rattle.wasi_abi.specs.declared.answer.Answer.TheVariants as answer
use Rattle.disk_layout.specs.rules.Journal.{Record, record_bytes, record_head_bytes, kind_number}
use Rattle.disk_layout.specs.rules.Journal.{payload_of, payload_length}
use Rattle.disk_layout.specs.Scanned.{answer_if, answer_of, record_at, records_at, with_first}
use Rattle.journal.specs.rules.Steps.{ClockFits, RecordFits}

-- the record of an answer that a step takes
abbrev pub record_of : ℕ → Answer → Record
record_of step a = record { step = step; answer = a }

module _ (v : Version) where
  -- ---- a whole record

  -- the bytes of its payload's length
  abbrev spelled_length : Record → List ℕ
  spelled_length r = bytes_of (length_bytes v) (length (payload_of r.answer))

  length-spelled : (r : Record) → length (spelled_length r) ≡ length_bytes v
  length-spelled r = length-bytes_of (length_bytes v) (length (payload_of r.answer))

  pub length-record : (r : Record) → length (record_bytes v r) ≡ record_head_bytes v
      + length (payload_of r.answer)
  length-record r =
      let field = length-spelled r in
      let behind = length-append (spelled_length r) (payload_of r.answer) in
      omega (arith, field, behind)

  number_read : (r : Record) → RecordFits v r
      → number_of (spelled_length r) ≡ length (payload_of r.answer)
  number_read r fits =
      let le = fits.payload in
      let room = lengths_fit v in
      number_of-bytes_of (length_bytes v) (length (payload_of r.answer)) (omega (arith, le, room))

  -- what is after kind and step
  behind_step : (r : Record) (rest : List ℕ) → drop 9 (record_bytes v r ++ rest)
      ≡ spelled_length r ++ (payload_of r.answer ++ rest)
  behind_step r rest = append_assoc (spelled_length r) (payload_of r.answer) rest

  length_read : (r : Record) (rest : List ℕ) → RecordFits v r
      → payload_length v (record_bytes v r ++ rest) ≡ length (payload_of r.answer)
  length_read r rest fits =
      ap (λ l. number_of (take (length_bytes v) l)) (behind_step r rest)
      ∙ ap (λ l. number_of l)
      (take_at (spelled_length r) (payload_of r.answer ++ rest) (length_bytes v) (length-spelled r))
      ∙ number_read r fits

  -- what is after its head
  behind_head : (r : Record) (rest : List ℕ) → drop (record_head_bytes v) (record_bytes v r ++ rest)
      ≡ payload_of r.answer ++ rest
  behind_head r rest =
      sym (drop-drop (length_bytes v) 9 (record_bytes v r ++ rest))
      ∙ ap (λ l. drop (length_bytes v) l) (behind_step r rest)
      ∙ drop_at (spelled_length r) (payload_of r.answer ++ rest) (length_bytes v) (length-spelled r)

  answer_read : (a : Answer) → length (payload_of a) ≤ (text_limit v) → ClockFits a
      → answer_of (text_limit v) (kind_number a) (payload_of a) ≡ Some a
  answer_read (answer.Request text) le clock =
      ap (λ b. answer_if b (answer.Request text)) (le-leb (length text) (text_limit v) le)
  answer_read answer.End le clock = refl
  answer_read (answer.Realtime n) le clock =
      ap (λ k. Some (answer.Realtime k)) (number_of-bytes_of 8 n clock)
  answer_read (answer.Monotonic n) le clock =
      ap (λ k. Some (answer.Monotonic k)) (number_of-bytes_of 8 n clock)
  answer_read (answer.Random bytes) le clock =
      ap (λ b. answer_if b (answer.Random bytes)) (le-leb (length bytes) (text_limit v) le)

  pub record_read : (r : Record) (rest : List ℕ) → RecordFits v r
      → record_at v (record_bytes v r ++ rest) ≡ Some r
  record_read r rest fits =
      let payload = payload_of r.answer in
      let all = record_bytes v r ++ rest in
      let len = length_read r rest fits in
      let count : length all ≡ record_head_bytes v + length payload + length rest =
      length-append (record_bytes v r) rest
      ∙ ap (λ n. n + length rest) (length-record r) in
      let within : leb (record_head_bytes v + payload_length v all) (length all) ≡ true =
      le-leb (record_head_bytes v + payload_length v all) (length all) (omega arith) in
      let body : part all (record_head_bytes v) (payload_length v all) ≡ payload =
      ap (λ n. part all (record_head_bytes v) n) len
      ∙ ap (λ l. take (length payload) l) (behind_head r rest)
      ∙ take_at payload rest (length payload) refl in
      let answer-is = ap (λ l. answer_of (text_limit v) (kind_number r.answer) l) body
      ∙ answer_read r.answer fits.payload fits.clock in
      let step-is : number_of (u64_bytes r.step) ≡ r.step = number_of-bytes_of 8 r.step fits.step in
      cond-true (leb (record_head_bytes v + payload_length v all) (length all))
      (option_map (record_of (number_of (u64_bytes r.step)))
      (answer_of (text_limit v) (kind_number r.answer)
      (part all (record_head_bytes v) (payload_length v all)))) None
      within
      ∙ ap (λ o. option_map (record_of (number_of (u64_bytes r.step))) o) answer-is
      ∙ ap (λ n. Some (record_of n r.answer)) step-is

  pub rest_read : (r : Record) (rest : List ℕ) → RecordFits v r
      → drop (record_head_bytes v + payload_length v (record_bytes v r ++ rest))
      (record_bytes v r ++ rest) ≡ rest
  rest_read r rest fits =
      ap (λ n. drop (record_head_bytes v + n) (record_bytes v r ++ rest)) (length_read r rest fits)
      ∙ drop_at (record_bytes v r) rest (record_head_bytes v + length (payload_of r.answer))
      (length-record r)

  -- ---- a cut one

  cut_length : (r : Record) (m : ℕ) → RecordFits v r → record_head_bytes v ≤ m
      → payload_length v (take m (record_bytes v r)) ≡ length (payload_of r.answer)
  cut_length r m fits le =
      let split : drop 9 (take m (record_bytes v r)) ≡ take (m - 9) (drop 9 (record_bytes v r)) =
      ap (λ n. drop 9 (take n (record_bytes v r))) (let e : m ≡ 9 + (m - 9) = omega arith in e)
      ∙ drop-take 9 (m - 9) (record_bytes v r) in
      ap (λ l. number_of (take (length_bytes v) l)) split
      ∙ ap (λ l. number_of l)
      (take-take (length_bytes v) (m - 9) (drop 9 (record_bytes v r)) (omega arith))
      ∙ ap (λ l. number_of l)
      (take_at (spelled_length r) (payload_of r.answer) (length_bytes v) (length-spelled r))
      ∙ number_read r fits

  pub cut_none : (r : Record) (m : ℕ) → RecordFits v r → m < length (record_bytes v r)
      → record_at v (take m (record_bytes v r)) ≡ None
  cut_none r zero fits lt = refl
  cut_none r (suc m) fits lt =
      let cut = take (suc m) (record_bytes v r) in
      let count : length cut ≡ suc m = length-take-le (suc m) (record_bytes v r) (omega arith) in
      let beyond : length cut < record_head_bytes v + payload_length v cut =
      ⊎_elim
      (λ (short : suc m < record_head_bytes v). omega arith)
      (λ (long : record_head_bytes v ≤ suc m).
      let len = cut_length r (suc m) fits long in
      let all = length-record r in
      omega arith)
      (cases_lt (suc m) (record_head_bytes v)) in
      cond-false (leb (record_head_bytes v + payload_length v cut) (length cut))
      (option_map (record_of (number_of (part (take m (drop 1 (record_bytes v r))) 0 8)))
      (answer_of (text_limit v) (kind_number r.answer)
      (part cut (record_head_bytes v) (payload_length v cut)))) None
      (lt-leb (record_head_bytes v + payload_length v cut) (length cut) beyond)

  -- ---- lists of records

  pub none_at : (n : ℕ) (bytes : List ℕ) → record_at v bytes ≡ None
      → records_at v n bytes ≡ []
  none_at zero bytes e = refl
  none_at (suc n) bytes e =
      ap (λ o. with_first o
      (records_at v n (drop (record_head_bytes v + payload_length v bytes) bytes))) e

  -- ---- as they are read

  pub short_none : (bytes : List ℕ) → length bytes < record_head_bytes v + payload_length v bytes
      → record_at v bytes ≡ None
  short_none [] lt = refl
  short_none (kind ∷ bytes) lt =
      let all = kind ∷ bytes in
      cond-false (leb (record_head_bytes v + payload_length v all) (length all))
      (option_map (record_of (number_of (part bytes 0 8))) (answer_of (text_limit v) kind
      (part all (record_head_bytes v) (payload_length v all)))) None
      (lt-leb (record_head_bytes v + payload_length v all) (length all) lt)

  pub record_at_parts : (bytes : List ℕ)
      → record_head_bytes v + payload_length v bytes ≤ length bytes
      → record_at v bytes
      ≡ option_map (record_of (number_of (part bytes 1 8)))
      (answer_of (text_limit v) (get_or bytes 0 0)
      (part bytes (record_head_bytes v) (payload_length v bytes)))
  record_at_parts [] le = absurd (omega arith)
  record_at_parts (kind ∷ bytes) le =
      let all = kind ∷ bytes in
      cond-true (leb (record_head_bytes v + payload_length v all) (length all))
      (option_map (record_of (number_of (part bytes 0 8))) (answer_of (text_limit v) kind
      (part all (record_head_bytes v) (payload_length v all)))) None
      (le-leb (record_head_bytes v + payload_length v all) (length all) le)
