-- Numbers and texts at the front of bytes.
use Rattle.std.proofs.Common.{◌≡◌, ℕ, suc, ◌+◌, ◌-◌, ◌^◌, ◌<◌, ◌≤◌, List, [], ◌∷◌, ◌++◌}
use Rattle.std.proofs.Common.{length, take, drop, refl, sym, ap, ◌∙◌, subst, arith}
use Rattle.std.proofs.Common.{length-append, length-drop, append_assoc}
use Rattle.std.proofs.Math.Seq.{take-append_seam, drop-append_seam}
use Rattle.std.proofs.lemmas.List.{append-nil, length-take-le, take-append-drop, take_all}
use Rattle.std.proofs.lemmas.List.{drop-drop}
use Rattle.std.specs.List.{AllByRecursion, flat_map}
use Rattle.guest_memory.specs.rules.Bytes.{IsByte, number_of, bytes_of}
use Rattle.guest_memory.proofs.ByteLemmas.{length-bytes_of, number_of-bytes_of, bytes_of-number_of}
use Rattle.wasi_abi.specs.rules.Layouts.{u16_bytes, u32_bytes, u16_at, u32_at}
use Rattle.disk_layout.specs.rules.Places.{short_text_bytes}
use Rattle.disk_layout.specs.rules.Spelled.{HasShortLength, TextFirst, TextsFirst}
use Rattle.disk_layout.specs.Spelled.{NoTextFirst, NoTextsFirst}
use Rattle.disk_layout.proofs.StampLemmas.{all_take as bytes_front}

-- ---- numbers

-- a number that is at the front, and what is after it
pub number_first : (n x : ℕ) (bytes rest : List ℕ) → x < 256 ^ n → bytes ≡ bytes_of n x ++ rest
    → number_of (take n bytes) ≡ x
number_first n x bytes rest lt is =
    let front : take n bytes ≡ bytes_of n x = ap (λ l. take n l) is
    ∙ ap (λ m. take m (bytes_of n x ++ rest)) (sym (length-bytes_of n x))
    ∙ take-append_seam (bytes_of n x) rest in
    ap number_of front ∙ number_of-bytes_of n x lt

pub number_behind : (n x : ℕ) (bytes rest : List ℕ) → bytes ≡ bytes_of n x ++ rest
    → drop n bytes ≡ rest
number_behind n x bytes rest is = ap (λ l. drop n l) is
    ∙ ap (λ m. drop m (bytes_of n x ++ rest)) (sym (length-bytes_of n x))
    ∙ drop-append_seam (bytes_of n x) rest

-- bytes that are long enough begin with the number that they spell
pub number_is : (n : ℕ) (bytes : List ℕ) → AllByRecursion IsByte bytes → n ≤ length bytes
    → bytes ≡ bytes_of n (number_of (take n bytes)) ++ drop n bytes
number_is n bytes all long =
    let count : length (take n bytes) ≡ n = length-take-le n bytes long in
    let front : bytes_of n (number_of (take n bytes)) ≡ take n bytes =
    ap (λ m. bytes_of m (number_of (take n bytes))) (sym count)
    ∙ bytes_of-number_of (take n bytes) (bytes_front n bytes all) in
    sym (ap (λ l. l ++ drop n bytes) front ∙ take-append-drop n bytes)

-- ---- one text

-- the length of the text at the front
pub text_length : (bytes text rest : List ℕ) → TextFirst bytes text rest
    → u16_at bytes 0 ≡ length text
text_length bytes text rest first =
    number_first 2 (length text) bytes (text ++ rest) (let r = first.room in omega arith) (first.is
    ∙ append_assoc (u16_bytes (length text)) text rest)

pub text_cut : (bytes a r b s : List ℕ) → TextFirst bytes a r → TextFirst bytes b s
    → (a ≡ b) × (r ≡ s)
text_cut bytes a r b s one other =
    let behind-a : drop 2 bytes ≡ a ++ r = number_behind 2 (length a) bytes (a ++ r) (one.is
    ∙ append_assoc (u16_bytes (length a)) a r) in
    let behind-b : drop 2 bytes ≡ b ++ s = number_behind 2 (length b) bytes (b ++ s) (other.is
    ∙ append_assoc (u16_bytes (length b)) b s) in
    let same : length a ≡ length b = sym (text_length bytes a r one) ∙ text_length bytes b s other
    in
    let both : a ++ r ≡ b ++ s = sym behind-a ∙ behind-b in (
      sym (take-append_seam a r) ∙ ap (λ n. take n (a ++ r)) same ∙ ap (λ l. take (length b) l) both
          ∙ take-append_seam b s,
      sym (drop-append_seam a r) ∙ ap (λ n. drop n (a ++ r)) same ∙ ap (λ l. drop (length b) l) both
          ∙ drop-append_seam b s,
    )

-- the text that is lent where the bytes are long enough for it
pub text_lent : (bytes : List ℕ) (end : ℕ) → AllByRecursion IsByte bytes → end ≡ 2 + u16_at bytes 0
    → end ≤ length bytes → u16_at bytes 0 < 2 ^ 16
    → TextFirst bytes (take (end - 2) (drop 2 bytes)) (take (length bytes - end) (drop end bytes))
text_lent bytes end all is long small =
    let count : end - 2 ≡ u16_at bytes 0 = omega arith in
    let text = take (end - 2) (drop 2 bytes) in
    let size : length text ≡ u16_at bytes 0 =
    length-take-le (end - 2) (drop 2 bytes) (omega (arith, length-drop 2 bytes)) ∙ count in
    let rest : take (length bytes - end) (drop end bytes) ≡ drop end bytes =
    take_all (length bytes - end) (drop end bytes) (omega (arith, length-drop end bytes)) in
    let behind : text ++ drop end bytes ≡ drop 2 bytes =
    ap (λ l. text ++ l) (ap (λ n. drop n bytes) (let e : end ≡ 2 + (end - 2) = omega arith in e)
    ∙ sym (drop-drop (end - 2) 2 bytes)) ∙ take-append-drop (end - 2) (drop 2 bytes) in
    record {
      room = omega arith;
      is = number_is 2 bytes all (omega arith)
          ∙ ap (λ l. u16_bytes (u16_at bytes 0) ++ l) (sym behind)
          ∙ ap (λ n. u16_bytes n ++ (text ++ drop end bytes)) (sym size)
          ∙ sym (append_assoc (u16_bytes (length text)) text (drop end bytes))
          ∙ ap (λ l. short_text_bytes text ++ l) (sym rest);
    }

-- ---- texts

abbrev pub spelled : List (List ℕ) → List ℕ
spelled texts = flat_map short_text_bytes texts

-- the number of the texts at the front
pub texts_count : (bytes : List ℕ) (texts : List (List ℕ)) (rest : List ℕ)
    → TextsFirst bytes texts rest → u32_at bytes 0 ≡ length texts
texts_count bytes texts rest first =
    number_first 4 (length texts) bytes (spelled texts ++ rest) (let f = first.room.few in
    omega arith) (first.is ∙ append_assoc (u32_bytes (length texts)) (spelled texts) rest)

pub texts_behind : (bytes : List ℕ) (texts : List (List ℕ)) (rest : List ℕ)
    → TextsFirst bytes texts rest → drop 4 bytes ≡ spelled texts ++ rest
texts_behind bytes texts rest first =
    number_behind 4 (length texts) bytes (spelled texts ++ rest) (first.is
    ∙ append_assoc (u32_bytes (length texts)) (spelled texts) rest)

spelled_cut : (a b : List (List ℕ)) (r s : List ℕ) → AllByRecursion HasShortLength a
    → AllByRecursion HasShortLength b → length a ≡ length b → spelled a ++ r ≡ spelled b ++ s
    → (a ≡ b) × (r ≡ s)
spelled_cut [] [] r s room-a room-b same e = (refl, e)
spelled_cut [] (t ∷ b) r s room-a room-b same e = absurd (omega arith)
spelled_cut (t ∷ a) [] r s room-a room-b same e = absurd (omega arith)
spelled_cut (t ∷ a) (u ∷ b) r s room-a room-b same e =
    let one : TextFirst (spelled (t ∷ a) ++ r) t (spelled a ++ r) =
    record { room = room-a.0; is = append_assoc (short_text_bytes t) (spelled a) r } in
    let other : TextFirst (spelled (t ∷ a) ++ r) u (spelled b ++ s) =
    record { room = room-b.0; is = e ∙ append_assoc (short_text_bytes u) (spelled b) s } in
    let first = text_cut (spelled (t ∷ a) ++ r) t (spelled a ++ r) u (spelled b ++ s) one other in
    let behind = spelled_cut a b r s room-a.1 room-b.1 (omega arith) first.1 in
    (ap (λ x. x ∷ a) first.0 ∙ ap (λ l. u ∷ l) behind.0, behind.1)

pub texts_cut : (bytes : List ℕ) (a b : List (List ℕ)) (r s : List ℕ) → TextsFirst bytes a r
    → TextsFirst bytes b s → (a ≡ b) × (r ≡ s)
texts_cut bytes a b r s one other =
    let same : length a ≡ length b = sym (texts_count bytes a r one) ∙ texts_count bytes b s other
    in
    let both : spelled a ++ r ≡ spelled b ++ s = sym (texts_behind bytes a r one)
    ∙ texts_behind bytes b s other in
    spelled_cut a b r s one.room.each other.room.each same both

-- ---- texts that are read one after another

-- what remains of any texts that are at the front
abbrev pub Remain : List ℕ → ℕ → List ℕ → Type 0
Remain bytes count rest = (texts : List (List ℕ)) (behind : List ℕ) → TextsFirst bytes texts behind
    → (more : List (List ℕ)) × ((length more ≡ count) × AllByRecursion HasShortLength more
    × (rest ≡ spelled more ++ behind))

pub all_remain : (bytes : List ℕ) (count : ℕ) (rest : List ℕ) → count ≡ u32_at bytes 0
    → rest ≡ drop 4 bytes → Remain bytes count rest
all_remain bytes count rest is begins texts behind first = (
  texts,
  (
    sym (texts_count bytes texts behind first) ∙ sym is,
    first.room.each,
    begins
        ∙ texts_behind bytes texts behind first,
  ),
)

pub fewer_remain : (bytes : List ℕ) (count fewer : ℕ) (rest text after : List ℕ) → count ≡ suc fewer
    → Remain bytes count rest → TextFirst rest text after → Remain bytes fewer after
fewer_remain bytes count fewer rest text after one remain here texts behind first =
    let now = remain texts behind first in
    by_case now.0 now.1.0 now.1.1 now.1.2
  where
    by_case : (more : List (List ℕ)) → length more ≡ count → AllByRecursion HasShortLength more
        → rest ≡ spelled more ++ behind
        → (lists_left : List (List ℕ)) × ((length lists_left ≡ fewer)
        × AllByRecursion HasShortLength lists_left × (after ≡ spelled lists_left ++ behind))
    by_case [] size room is = absurd (omega arith)
    by_case (t ∷ more) size room is =
        let also : TextFirst rest t (spelled more ++ behind) =
        record {
          room = room.0;
          is = is ∙ append_assoc (short_text_bytes t) (spelled more) behind;
        } in
        let cut = text_cut rest text after t (spelled more ++ behind) here also in
        (more, (let e : length more ≡ fewer = omega arith in e, room.1, cut.1))

pub none_remain : (bytes : List ℕ) (count : ℕ) (rest : List ℕ) → 0 < count → Remain bytes count rest
    → NoTextFirst rest → NoTextsFirst bytes
none_remain bytes count rest some remain none texts behind first =
    let now = remain texts behind first in
    by_case now.0 now.1.0 now.1.1 now.1.2
  where
    by_case : (more : List (List ℕ)) → length more ≡ count → AllByRecursion HasShortLength more
        → rest ≡ spelled more ++ behind → ⊥
    by_case [] size room is = omega arith
    by_case (t ∷ more) size room is =
        none t (spelled more ++ behind) (record {
          room = room.0;
          is = is ∙ append_assoc (short_text_bytes t) (spelled more) behind;
        })

-- so many texts of `count` are read
pub record AreRead (bytes : List ℕ) (count read : ℕ) (texts : List (List ℕ)) (rest : List ℕ) :
    Type 0 where
  pub many : length texts ≡ read
  pub room : AllByRecursion HasShortLength texts
  pub so_far : bytes ≡ u32_bytes count ++ (spelled texts ++ rest)
  pub remain : Remain bytes (count - read) rest

pub none_read : (bytes : List ℕ) (count : ℕ) (texts : List (List ℕ)) → AllByRecursion IsByte bytes
    → 4 ≤ length bytes → count ≡ u32_at bytes 0 → texts ≡ []
    → AreRead bytes count 0 texts (take (length bytes - 4) (drop 4 bytes))
none_read bytes count texts all long is none =
    let rest : take (length bytes - 4) (drop 4 bytes) ≡ drop 4 bytes =
    take_all (length bytes - 4) (drop 4 bytes) (omega (arith, length-drop 4 bytes)) in
    let P : List (List ℕ) → Type 0 = λ l. AllByRecursion HasShortLength l in
    record {
      many = ap length none;
      room = subst P (sym none) tt;
      so_far = number_is 4 bytes all long ∙ ap (λ n. u32_bytes n ++ drop 4 bytes) (sym is)
          ∙ ap (λ l. u32_bytes count ++ l) (sym rest)
          ∙ ap (λ l. u32_bytes count ++ (spelled l ++ take (length bytes - 4) (drop 4 bytes)))
          (sym none);
      remain = all_remain bytes (count - 0) _ (let e : count - 0 ≡ u32_at bytes 0 = omega arith in
          e) rest;
    }

all_more : (texts : List (List ℕ)) (text : List ℕ) → AllByRecursion HasShortLength texts
    → HasShortLength text → AllByRecursion HasShortLength (texts ++ text ∷ [])
all_more [] text all one = (one, tt)
all_more (t ∷ texts) text all one = (all.0, all_more texts text all.1 one)

spelled_more : (texts : List (List ℕ)) (text rest : List ℕ)
    → spelled (texts ++ text ∷ []) ++ rest ≡ spelled texts ++ (short_text_bytes text ++ rest)
spelled_more [] text rest = ap (λ l. l ++ rest) (append-nil (short_text_bytes text))
spelled_more (t ∷ texts) text rest =
    append_assoc (short_text_bytes t) (spelled (texts ++ text ∷ [])) rest
    ∙ ap (λ l. short_text_bytes t ++ l) (spelled_more texts text rest)
    ∙ sym (append_assoc (short_text_bytes t) (spelled texts) (short_text_bytes text ++ rest))

pub one_more_read : (bytes : List ℕ) (count read : ℕ) (texts : List (List ℕ))
    (rest text behind : List ℕ) (new : List (List ℕ)) → read < count
    → AreRead bytes count read texts rest → TextFirst rest text behind → new ≡ texts ++ text ∷ []
    → AreRead bytes count (read + 1) new behind
one_more_read bytes count read texts rest text behind new lt before first is =
    let P : List (List ℕ) → Type 0 = λ l. AreRead bytes count (read + 1) l behind in
    subst P (sym is) (record {
      many = length-append texts (text ∷ []) ∙ (let m = before.many in omega arith);
      room = all_more texts text before.room first.room;
      so_far = before.so_far ∙ ap (λ l. u32_bytes count ++ (spelled texts ++ l)) first.is
          ∙ ap (λ l. u32_bytes count ++ l) (sym (spelled_more texts text behind));
      remain = fewer_remain bytes (count - read) (count - (read + 1)) rest text behind
          (omega arith) before.remain first;
    })

pub nothing_to_read : (bytes : List ℕ) (count read : ℕ) (texts : List (List ℕ)) (rest : List ℕ)
    → read < count → AreRead bytes count read texts rest → NoTextFirst rest → NoTextsFirst bytes
nothing_to_read bytes count read texts rest lt before none =
    none_remain bytes (count - read) rest (omega arith) before.remain none

pub all_read : (bytes : List ℕ) (count read : ℕ) (texts : List (List ℕ)) (rest : List ℕ)
    → count ≤ 64 → read ≡ count → AreRead bytes count read texts rest → TextsFirst bytes texts rest
all_read bytes count read texts rest few all before =
    let many : length texts ≡ count = before.many ∙ all in
    record {
      room = record { few = omega arith; each = before.room };
      is = before.so_far ∙ ap (λ n. u32_bytes n ++ (spelled texts ++ rest)) (sym many)
          ∙ sym (append_assoc (u32_bytes (length texts)) (spelled texts) rest);
    }
