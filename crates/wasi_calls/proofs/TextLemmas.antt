-- Texts that are put into memory, and where each of them begins.
use Rattle.std.proofs.Common.{◌≡◌, ℕ, ◌+◌, ◌*◌, ◌<◌, ◌≤◌, List, [], ◌∷◌, length, get_or, drop, refl}
use Rattle.std.proofs.Common.{sym, ap, ◌∙◌, subst, arith, length-append}
use Rattle.std.specs.List.{AllByRecursion}
use Rattle.std.proofs.lemmas.List.{at_drop_more}
use Rattle.guest_memory.specs.rules.Bytes.{with_part}
use Rattle.guest_memory.specs.rules.Memories.{LinearMemory, with_bytes}
use Rattle.guest_memory.proofs.Ranges.{length-with_part}
use Rattle.wasi_abi.specs.rules.Configs.{IsShortText}
use Rattle.wasi_abi.specs.rules.Layouts.{u32_bytes}
use Rattle.wasi_calls_rules.specs.Checks.{Bytes}
use Rattle.wasi_calls_rules.specs.Small.{with_zeros, pointers_to}
use Rattle.wasi_calls.specs.FewTexts.{AreFewTexts}
use Rattle.wasi_calls.proofs.Listings.{part_twice, put_none}

-- ---- how many bytes they have

short_bytes : (texts : List Bytes) → AllByRecursion IsShortText texts
    → length (with_zeros texts) ≤ 1025 * length texts
short_bytes [] all = omega arith
short_bytes (t ∷ texts) all =
    let others = short_bytes texts all.1 in
    let one = all.0 in
    let sum = length-append t (0 ∷ with_zeros texts) in
    omega (arith, others, one, sum)

pub few_bytes : (texts : List Bytes) → AreFewTexts texts → length (with_zeros texts) ≤ 65600
few_bytes texts are =
    let bytes = short_bytes texts are.short in
    let few = are.few in
    omega (arith, bytes, few)

-- the texts from here on, by this one and those after it
pub text_next : (texts : List Bytes) (i : ℕ) (t : Bytes) → i < length texts → t ≡ get_or texts i t
    → drop i texts ≡ t ∷ drop (i + 1) texts
text_next texts i t lt is =
    at_drop_more (λ (ts : List Bytes). ts) texts i t lt
    ∙ ap (λ (x : Bytes). x ∷ drop (i + 1) texts) (sym is)

-- with the text in front, those after it have so many fewer
pub size_next : (t : Bytes) (texts : List Bytes)
    → length (with_zeros (t ∷ texts)) ≡ length t + 1 + length (with_zeros texts)
size_next t texts = let sum = length-append t (0 ∷ with_zeros texts) in omega (arith, sum)

-- ---- memories

abbrev memory_of : Bytes → ℕ → LinearMemory
memory_of bytes limit = record { bytes = bytes; limit = limit }

same_parts : (a b : Bytes) (j k : ℕ) → a ≡ b → j ≡ k → memory_of a j ≡ memory_of b k
same_parts a b j k e f = rw (e, f) refl

-- bytes that were put, and the same limit
pub is_put : (m n : LinearMemory) (at : ℕ) (bytes : Bytes) → n.bytes ≡ with_part m.bytes at bytes
    → n.limit ≡ m.limit → n ≡ with_bytes at bytes m
is_put m n at bytes e f = same_parts n.bytes (with_part m.bytes at bytes) n.limit m.limit e f

-- ---- pointers

-- With pointers to the rest put after those that are there, all are there.
pub record PointersRemain (texts : List Bytes) (array buffer : ℕ) (old now : LinearMemory)
    (rest : List Bytes) (offset begin : ℕ) : Type 0 where
  pub limit : now.limit ≡ old.limit
  pub size : length now.bytes ≡ length old.bytes
  pub place : offset + 4 * length rest ≡ 4 * length texts
  pub end : begin + length (with_zeros rest) ≡ buffer + length (with_zeros texts)
  pub puts : with_part now.bytes (array + offset) (pointers_to begin rest)
      ≡ with_part old.bytes array (pointers_to buffer texts)

module _ (texts : List Bytes) (array buffer : ℕ) (old : LinearMemory) where
  pub all_pointers : (now : LinearMemory) (rest : List Bytes) (offset begin : ℕ) → rest ≡ []
      → array + 4 * length texts ≤ length old.bytes
      → PointersRemain texts array buffer old now rest offset begin
      → now ≡ with_bytes array (pointers_to buffer texts) old
  all_pointers now rest offset begin none room r =
      let place = r.place in
      let size = r.size in
      let few : length rest ≡ 0 = ap (λ (ts : List Bytes). length ts) none in
      let within : array + offset ≤ length now.bytes = omega (arith, place, size, few, room) in
      let nothing : pointers_to begin rest ≡ [] = ap (pointers_to begin) none in
      is_put old now array (pointers_to buffer texts)
      (sym (put_none now.bytes (array + offset) (pointers_to begin rest) within nothing).0 ∙ r.puts)
      r.limit

  module _ (now : LinearMemory) (offset begin i : ℕ) (t : Bytes)
      (split : drop i texts ≡ t ∷ drop (i + 1) texts)
      (room : array + 4 * length texts ≤ length old.bytes)
      (so_far : PointersRemain texts array buffer old now (drop i texts) offset begin) where
    abbrev later : List Bytes
    later = drop (i + 1) texts

    here : PointersRemain texts array buffer old now (t ∷ later) offset begin
    here =
        let P : List Bytes → Type 0 =
        λ ts. PointersRemain texts array buffer old now ts offset begin in
        subst P split so_far

    pub pointer_fits : array + offset + 4 ≤ length now.bytes
    pointer_fits =
        let place = here.place in
        let size = here.size in
        omega (arith, place, size, room)

    pub begins_before : begin + length t + 1 ≤ buffer + length (with_zeros texts)
    begins_before =
        let end = here.end in
        let next = size_next t later in
        omega (arith, end, next)

    pub pointer_put : (after : LinearMemory)
        → after ≡ with_bytes (array + offset) (u32_bytes begin) now
        → PointersRemain texts array buffer old after later (offset + 4) (begin + (length t + 1))
    pointer_put after is =
        let m : Bytes = now.bytes in
        let fits = pointer_fits in
        let place = here.place in
        let end = here.end in
        let next = size_next t later in
        let bytes : after.bytes ≡ with_part m (array + offset) (u32_bytes begin) =
        ap (λ (x : LinearMemory). x.bytes) is in
        let at : array + (offset + 4) ≡ array + offset + 4 = omega arith in
        let from : begin + (length t + 1) ≡ begin + length t + 1 = omega arith in
        record {
          limit = ap (λ (x : LinearMemory). x.limit) is ∙ here.limit;
          size = ap length bytes ∙ length-with_part m (array + offset) (u32_bytes begin) fits
              ∙ here.size;
          place = omega (arith, place);
          end = omega (arith, end, next);
          puts = ap (λ (k : ℕ).
              with_part after.bytes k (pointers_to (begin + (length t + 1)) later)) at
              ∙ ap (λ (k : ℕ). with_part after.bytes (array + offset + 4) (pointers_to k later))
              from
              ∙ ap (λ (x : Bytes). with_part x (array + offset + 4) (pointers_to (begin + length t
              + 1) later)) bytes
              ∙ part_twice m (u32_bytes begin) (pointers_to (begin + length t + 1) later) (array
              + offset) fits
              ∙ here.puts;
        }

-- ---- texts

-- With the rest put after the texts that are there, all are there.
pub record TextsRemain (texts : List Bytes) (buffer : ℕ) (old now : LinearMemory)
    (rest : List Bytes) (begin : ℕ) : Type 0 where
  pub limit : now.limit ≡ old.limit
  pub size : length now.bytes ≡ length old.bytes
  pub end : begin + length (with_zeros rest) ≡ buffer + length (with_zeros texts)
  pub puts : with_part now.bytes begin (with_zeros rest)
      ≡ with_part old.bytes buffer (with_zeros texts)

module _ (texts : List Bytes) (buffer : ℕ) (old : LinearMemory)
    (room : buffer + length (with_zeros texts) ≤ length old.bytes) where
  pub all_texts : (now : LinearMemory) (rest : List Bytes) (begin : ℕ) → rest ≡ []
      → TextsRemain texts buffer old now rest begin
      → now ≡ with_bytes buffer (with_zeros texts) old
  all_texts now rest begin none r =
      let end = r.end in
      let size = r.size in
      let within : begin ≤ length now.bytes = omega (arith, end, size, room) in
      let nothing : with_zeros rest ≡ [] = ap with_zeros none in
      is_put old now buffer (with_zeros texts)
      (sym (put_none now.bytes begin (with_zeros rest) within nothing).0 ∙ r.puts) r.limit

  module _ (now : LinearMemory) (begin i : ℕ) (t : Bytes)
      (split : drop i texts ≡ t ∷ drop (i + 1) texts)
      (so_far : TextsRemain texts buffer old now (drop i texts) begin) where
    abbrev others : List Bytes
    others = drop (i + 1) texts

    at_text : TextsRemain texts buffer old now (t ∷ others) begin
    at_text =
        let P : List Bytes → Type 0 = λ ts. TextsRemain texts buffer old now ts begin in
        subst P split so_far

    pub text_fits : begin + length t + 1 ≤ length now.bytes
    text_fits =
        let end = at_text.end in
        let size = at_text.size in
        let next = size_next t others in
        omega (arith, end, size, next, room)

    pub text_put : (middle after : LinearMemory) → middle ≡ with_bytes begin t now
        → after ≡ with_bytes (begin + length t) (0 ∷ []) middle
        → TextsRemain texts buffer old after others (begin + length t + 1)
    text_put middle after is ends =
        let m : Bytes = now.bytes in
        let fits = text_fits in
        let end = at_text.end in
        let next = size_next t others in
        let bytes : middle.bytes ≡ with_part m begin t = ap (λ (x : LinearMemory). x.bytes) is in
        let closed : after.bytes ≡ with_part middle.bytes (begin + length t) (0 ∷ []) =
        ap (λ (x : LinearMemory). x.bytes) ends in
        let size : length middle.bytes ≡ length m =
        ap length bytes ∙ length-with_part m begin t (omega (arith, fits)) in
        let one : begin + length t + 1 ≤ length middle.bytes = omega (arith, size, fits) in
        record {
          limit = ap (λ (x : LinearMemory). x.limit) ends ∙ ap (λ (x : LinearMemory). x.limit) is
              ∙ at_text.limit;
          size = ap length closed
              ∙ length-with_part middle.bytes (begin + length t) (0 ∷ []) one ∙ size ∙ at_text.size;
          end = omega (arith, end, next);
          puts = ap (λ (x : Bytes). with_part x (begin + length t + 1) (with_zeros others)) closed
              ∙ part_twice middle.bytes (0 ∷ []) (with_zeros others) (begin + length t) one
              ∙ ap (λ (x : Bytes). with_part x (begin + length t) (0 ∷ with_zeros others)) bytes
              ∙ part_twice m t (0 ∷ with_zeros others) begin (omega (arith, fits))
              ∙ at_text.puts;
        }
