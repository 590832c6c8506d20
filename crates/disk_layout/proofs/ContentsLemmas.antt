-- Bytes as sectors that are filled with zeros.
use Rattle.std.proofs.Common.{◌≡◌, ℕ, zero, suc, min, ◌+◌, ◌-◌, ◌*◌, ◌<◌, ◌≤◌, List, [], ◌∷◌, ◌++◌}
use Rattle.std.proofs.Common.{length, take, drop, replicate, refl, sym, ap, ◌∙◌, ⊎_elim, arith}
use Rattle.std.proofs.Common.{length-append, length-drop, append_assoc}
use Rattle.std.proofs.Math.Seq.{take-append-add, drop-append-add, take-append_seam}
use Rattle.std.proofs.lemmas.Bool.{cases_lt}
use Rattle.std.proofs.lemmas.List.{drop-drop, take_all, drop_all, append-nil, length-take-le}
use Rattle.std.proofs.lemmas.List.{drop-replicate, nil_from_length, take-append-drop}
use Rattle.guest_memory.specs.rules.Bytes.{part, with_part}
use Rattle.sector_disk.specs.rules.DiskImage.{DiskImage, sector_at}
use Rattle.wasi_abi.specs.rules.Layouts.{padding}
use Rattle.disk_layout.specs.rules.Places.{rounded_up}
use Rattle.disk_layout.specs.rules.Sectors.{bytes_from}
use Rattle.disk_layout.specs.rules.Contents.{filled, filled_sectors, contents_sectors}
use Rattle.disk_layout.specs.rules.Contents.{HoldsWhatIsWritten}

pub length-filled_sectors : (n : ℕ) (bytes : List ℕ) → length (filled_sectors n bytes) ≡ n
length-filled_sectors zero bytes = refl
length-filled_sectors (suc n) bytes = let e = length-filled_sectors n (drop 512 bytes) in
    omega arith

part_next : (bytes : List ℕ) (i : ℕ)
    → part (drop 512 bytes) (512 * i) 512 ≡ part bytes (512 * suc i) 512
part_next bytes i = ap (λ l. take 512 l) (drop-drop (512 * i) 512 bytes
    ∙ ap (λ n. drop n bytes) (let e : 512 + 512 * i ≡ 512 * suc i = omega arith in e))

pub filled_at : (n : ℕ) (bytes : List ℕ) (i : ℕ) → i < n
    → sector_at (filled_sectors n bytes) i ≡ filled (part bytes (512 * i) 512)
filled_at zero bytes i lt = absurd (omega arith)
filled_at (suc n) bytes zero lt = refl
filled_at (suc n) bytes (suc i) lt = filled_at n (drop 512 bytes) i (omega arith)
    ∙ ap (λ l. filled l) (part_next bytes i)

-- a part of two lists, one after the other
take_over : (n : ℕ) (a b : List ℕ) → take n (a ++ b) ≡ take n a ++ take (n - length (take n a)) b
take_over zero a b = refl
take_over (suc n) [] b = ap (λ m. take m b) (let e : suc n ≡ suc n - 0 = omega arith in e)
take_over (suc n) (x ∷ a) b = ap (λ l. x ∷ l) (take_over n a b)
    ∙ ap (λ m. x ∷ (take n a ++ take m b)) (let e : n - length (take n a)
    ≡ suc n - suc (length (take n a)) = omega arith in e)

drop_over : (n : ℕ) (a b : List ℕ) → drop n (a ++ b) ≡ drop n a ++ drop (n - length a) b
drop_over zero a b = ap (λ m. a ++ drop m b) (let e : 0 ≡ 0 - length a = omega arith in e)
drop_over (suc n) [] b = ap (λ m. drop m b) (let e : suc n ≡ suc n - 0 = omega arith in e)
drop_over (suc n) (x ∷ a) b =
    drop_over n a b
    ∙ ap (λ m. drop n a ++ drop m b) (let e : n - length a ≡ suc n - suc (length a) = omega arith in
    e)

pub part_over : (a b : List ℕ) (start n : ℕ)
    → part (a ++ b) start n ≡ part a start n
    ++ part b (start - length a) (n - length (part a start n))
part_over a b start n = ap (λ l. take n l) (drop_over start a b)
    ∙ take_over n (drop start a) (drop (start - length a) b)

-- a part as it is lent, which begins and ends with the bytes at the latest
pub part_lent : (bytes : List ℕ) (start most from end : ℕ) → from ≡ min start (length bytes)
    → end ≡ min (length bytes) (from + most)
    → take (end - from) (drop from bytes) ≡ part bytes start most
part_lent bytes start most from end begins ends =
    ⊎_elim
    (λ (inside : start < length bytes).
    let same : from ≡ start = omega arith in
    ⊎_elim
    (λ (long : start + most < length bytes). ap (λ n. take n (drop from bytes)) (let e : end - from
    ≡ most = omega arith in e) ∙ ap (λ n. take most (drop n bytes)) same)
    (λ (short : length bytes ≤ start + most).
    ap (λ n. take (end - from) (drop n bytes)) same
    ∙ take_all (end - from) (drop start bytes) (omega (arith, length-drop start bytes))
    ∙ sym (take_all most (drop start bytes) (omega (arith, length-drop start bytes))))
    (cases_lt (start + most) (length bytes)))
    (λ (behind : length bytes ≤ start).
    ap (λ n. take n (drop from bytes)) (let e : end - from ≡ 0 = omega arith in e)
    ∙ sym (ap (λ l. take most l) (drop_all start bytes behind) ∙ take_all most [] (omega arith)))
    (cases_lt start (length bytes))

left_over : (a b : List ℕ) → 512 - length a - length b ≡ 512 - length (a ++ b)
left_over a b = let both = length-append a b in omega arith

-- two parts over zeros
pub filled_laid : (a b c d : List ℕ) → length a + length b ≤ 512
    → c ≡ with_part (replicate 512 0) 0 a → d ≡ with_part c (length a) b → d ≡ filled (a ++ b)
filled_laid a b c d within c-is d-is =
    let zeros : drop (0 + length a) (replicate 512 0) ≡ replicate (512 - length a) 0 =
    drop-replicate (0 + length a) 512 0
    ∙ ap (λ n. replicate n 0) (let e : 512 - (0 + length a) ≡ 512 - length a = omega arith in e)
    in
    let c-as : c ≡ a ++ replicate (512 - length a) 0 = c-is ∙ ap (λ l. a ++ l) zeros in
    let front : take (length a) c ≡ a = ap (λ l. take (length a) l) c-as
    ∙ take-append_seam a (replicate (512 - length a) 0) in
    let behind : drop (length a + length b) c ≡ replicate (512 - length (a ++ b)) 0 =
    ap (λ l. drop (length a + length b) l) c-as
    ∙ drop-append-add a (replicate (512 - length a) 0) (length b)
    ∙ drop-replicate (length b) (512 - length a) 0
    ∙ ap (λ n. replicate n 0) (left_over a b) in
    d-is ∙ ap (λ l. l ++ (b ++ drop (length a + length b) c)) front ∙ ap (λ l. a ++ (b ++ l)) behind
    ∙ sym (append_assoc a b (replicate (512 - length (a ++ b)) 0))

-- ---- the sectors of two lists, one behind the other

pub counted : (a b : List ℕ) (n : ℕ) → n ≡ rounded_up (length a + length b)
    → length (contents_sectors (a ++ b)) ≡ n
counted a b n is = length-filled_sectors (rounded_up (length (a ++ b))) (a ++ b)
    ∙ ap (λ m. rounded_up m) (length-append a b) ∙ sym is

pub contents_at : (a b : List ℕ) (i : ℕ) → i < length (contents_sectors (a ++ b))
    → sector_at (contents_sectors (a ++ b)) i ≡ filled (part (a ++ b) (512 * i) 512)
contents_at a b i lt =
    filled_at (rounded_up (length (a ++ b))) (a
    ++ b) i (let e = length-filled_sectors (rounded_up (length (a ++ b))) (a ++ b) in omega arith)

-- ---- what they hold

take_front : (l bytes rest : List ℕ) → l ≡ bytes → take (length bytes) (l ++ rest) ≡ bytes
take_front l bytes rest is = ap (λ x. take (length bytes) (x ++ rest)) is
    ∙ take-append_seam bytes rest

held_by : (image : DiskImage) (n place : ℕ) (bytes : List ℕ) → length bytes ≤ 512 * n
    → ((j : ℕ) → j < n → sector_at image (place + j) ≡ sector_at (filled_sectors n bytes) j)
    → take (length bytes) (bytes_from image place n) ≡ bytes
held_by image zero place bytes le each = let none : bytes ≡ [] = nil_from_length bytes (omega arith)
    in ap (λ (l : List ℕ). take (length l) (let e : List ℕ = [] in e)) none ∙ sym none
held_by image (suc n) place bytes le each =
    let first : sector_at image place ≡ filled (take 512 bytes) =
    ap (λ k. sector_at image k) (let e : place ≡ place + 0 = omega arith in e)
    ∙ each 0 (omega arith) in
    let rest : take (length (drop 512 bytes)) (bytes_from image (place + 1) n) ≡ drop 512 bytes =
    held_by image n (place + 1) (drop 512 bytes) (omega (arith, length-drop 512 bytes)) (λ j lt.
    ap (λ k. sector_at image k) (let e : place + 1 + j ≡ place + suc j = omega arith in e)
    ∙ each (suc j) (omega arith)) in
    ap (λ s. take (length bytes) (s ++ bytes_from image (place + 1) n)) first
    ∙ ⊎_elim
    (λ (long : 512 < length bytes).
    let full : length (take 512 bytes) ≡ 512 = length-take-le 512 bytes (omega arith) in
    let whole : filled (take 512 bytes) ≡ take 512 bytes =
    ap (λ m. take 512 bytes ++ replicate m 0) (let e : 512 - length (take 512 bytes)
    ≡ 0 = omega arith in e) ∙ append-nil (take 512 bytes) in
    ap (λ s. take (length bytes) (s ++ bytes_from image (place + 1) n)) whole
    ∙ ap (λ m. take m (take 512 bytes ++ bytes_from image (place + 1) n))
    (let d = length-drop 512 bytes in
    let e : length bytes ≡ length (take 512 bytes) + length (drop 512 bytes) = omega arith in e)
    ∙ take-append-add (take 512 bytes) (bytes_from image (place + 1) n) (length (drop 512 bytes))
    ∙ ap (λ l. take 512 bytes ++ l) rest ∙ take-append-drop 512 bytes)
    (λ (short : length bytes ≤ 512).
    let all : take 512 bytes ≡ bytes = take_all 512 bytes short in
    ap (λ l. take (length bytes) l)
    (append_assoc (take 512 bytes) (padding (512 - length (take 512 bytes)))
    (bytes_from image (place + 1) n))
    ∙ take_front (take 512 bytes) bytes (padding (512 - length (take 512 bytes))
    ++ bytes_from image (place + 1) n) all)
    (cases_lt 512 (length bytes))

pub holds_what_is_written : HoldsWhatIsWritten
holds_what_is_written bytes old new written =
    let many = length-filled_sectors (rounded_up (length bytes)) bytes in
    held_by new (rounded_up (length bytes)) 3 bytes (omega arith) (λ j lt.
    written.each j (omega arith))
