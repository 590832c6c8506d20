-- Laws of fronts of a write.
use Rattle.std.specs.Prelude.{◌≡◌, ◌<◌, ◌≤◌, ◌≢◌, ◌+◌, ◌-◌, ℕ, suc, List, [], ◌∷◌, ◌++◌, length}
use Rattle.std.specs.Prelude.{take, drop}
use Rattle.std.proofs.Common.{set, sym, ⊎_elim, ap, ◌∙◌, arith, length-append, length-take}
use Rattle.std.proofs.Common.{length-drop, append_assoc}
use Rattle.std.proofs.lemmas.List.{append-nil, drop_at, drop-take, take-append-le, drop-drop}
use Rattle.std.proofs.lemmas.List.{drop-append-le, take-append-drop, take-take, length-take-le}
use Rattle.std.proofs.lemmas.List.{set-set, set_comm, set-get_or, length-set, get_or-set_same}
use Rattle.std.proofs.lemmas.List.{get_or-set_other, take_all, drop_all}
use Rattle.std.proofs.lemmas.Bool.{cases_lt, cases_eq}
use Rattle.sector_disk.specs.rules.DiskImage.{DiskImage, sector_at, with_sector, with_front}
use Rattle.sector_disk.specs.rules.DiskImage.{front_over, IsDiskImage}

-- a front over a shorter front of anything hides it
pub front_hides : (f g : ℕ) (b c a : List ℕ) → f ≤ g → f ≤ length c
    → front_over g b (front_over f c a) ≡ front_over g b a
front_hides f g b c a le fits =
    let one : length (take f c) ≡ f = length-take-le f c fits in
    let split : (l : List ℕ) → drop g l ≡ drop (g - f) (drop f l) =
    λ l. ap (λ (n : ℕ). drop n l) (let e : g ≡ f + (g - f) = omega arith in e)
    ∙ sym (drop-drop (g - f) f l) in
    ap (λ (l : List ℕ). take g b ++ l) (split (front_over f c a)
    ∙ ap (λ (l : List ℕ). drop (g - f) l) (drop_at (take f c) (drop f a) f one) ∙ sym (split a))

-- a front over a longer front of the same
pub front_within : (f g : ℕ) (b a : List ℕ) → f ≤ g → g ≤ length b
    → front_over f b (front_over g b a) ≡ front_over g b a
front_within f g b a le fits =
    let one : length (take g b) ≡ g = length-take-le g b fits in
    let two : f ≤ length (take g b) = omega (arith, one) in
    ap (λ (l : List ℕ). take f b ++ l) (drop-append-le f (take g b) (drop g a) two)
    ∙ sym (append_assoc (take f b) (drop f (take g b)) (drop g a))
    ∙ ap (λ (l : List ℕ). (l ++ drop f (take g b)) ++ drop g a) (sym (take-take f g b le))
    ∙ ap (λ (l : List ℕ). l ++ drop g a) (take-append-drop f (take g b))

take_past : (p q : List ℕ) (m : ℕ) → take (length p + m) (p ++ q) ≡ p ++ take m q
take_past [] q m = let e : 0 + m ≡ m = omega arith in ap (λ (n : ℕ). take n q) e
take_past (x ∷ p) q m =
    let e : suc (length p) + m ≡ suc (length p + m) = omega arith in
    ap (λ (n : ℕ). take n (x ∷ (p ++ q))) e ∙ ap (λ (l : List ℕ). x ∷ l) (take_past p q m)

take_over : (p q : List ℕ) (n m : ℕ) → length p ≡ n → take (n + m) (p ++ q) ≡ p ++ take m q
take_over p q n m e = ap (λ (k : ℕ). take (k + m) (p ++ q)) (sym e) ∙ take_past p q m

-- a shorter front of what was merged
pub shorter : (c f : ℕ) (b r y : List ℕ) → c ≤ f → f ≤ length b
    → front_over c (front_over f b r) y ≡ front_over c b y
shorter c f b r y le fits =
    let one : length (take f b) ≡ f = length-take-le f b fits in
    let in-front : c ≤ length (take f b) = omega arith in
    ap (λ (l : List ℕ). l ++ drop c y) (take-append-le c (take f b) (drop f r) in-front
    ∙ take-take c f b le)

-- a longer one is the front over as much of what was there before
pub longer : (c f : ℕ) (b r y : List ℕ) → f ≤ c → c ≤ length b → c ≤ length r
    → front_over c (front_over f b r) y ≡ front_over f b (front_over c r y)
longer c f b r y le fits-b fits-r =
    let one : length (take f b) ≡ f = length-take-le f b (omega arith) in
    let two : length (take c r) ≡ c = length-take-le c r fits-r in
    let c-is : c ≡ f + (c - f) = omega arith in
    let three : f ≤ length (take c r) = omega arith in
    let front : take c (take f b ++ drop f r) ≡ take f b ++ drop f (take c r) =
    ap (λ (n : ℕ). take n (take f b ++ drop f r)) c-is
    ∙ take_over (take f b) (drop f r) f (c - f) one
    ∙ ap (λ (l : List ℕ). take f b ++ l) (sym (drop-take f (c - f) r)
    ∙ ap (λ (n : ℕ). drop f (take n r)) (sym c-is)) in
    ap (λ (l : List ℕ). l ++ drop c y) front
    ∙ append_assoc (take f b) (drop f (take c r)) (drop c y)
    ∙ ap (λ (l : List ℕ). take f b ++ l) (sym (drop-append-le f (take c r) (drop c y) three))

pub front_self : (f : ℕ) (a : List ℕ) → front_over f a a ≡ a
front_self f a = take-append-drop f a

-- a sector's own front changes nothing
pub with_front_self : (image : DiskImage) (k f : ℕ) → with_front image k f
    (sector_at image k) ≡ image
with_front_self image k f = ap (λ (l : List ℕ). set image k l) (front_self f (sector_at image k))
    ∙ set-get_or image k []

-- the sector that was written, and every other one
pub sector-with_sector : (image : DiskImage) (k : ℕ) (bytes : List ℕ) → k < length image
    → sector_at (with_sector image k bytes) k ≡ bytes
sector-with_sector image k bytes lt = get_or-set_same image k bytes [] lt

pub sector-with_other : (image : DiskImage) (j k : ℕ) (bytes : List ℕ) → j ≢ k
    → sector_at (with_sector image k bytes) j ≡ sector_at image j
sector-with_other image j k bytes ne = get_or-set_other image k j bytes [] ne

-- in one sector a prefix of what was there before the later write, and then the later write, are
-- one prefix of the later write
pub merged : (f g : ℕ) (b c a : List ℕ) → f ≤ 512 → g ≤ 512 → length b ≡ 512 → length c ≡ 512
    → (h : ℕ) × (h ≤ 512) × (front_over h b (front_over f c a) ≡ front_over f b (front_over g b a))
merged f g b c a le-f le-g full-b full-c =
    ⊎_elim
    (λ (lt : f < g). (
      g,
      le-g,
      front_hides f g b c a (omega arith) (omega (arith, full-c))
          ∙ sym (front_within f g b a (omega arith) (omega (arith, full-b))),
    ))
    (λ (le : g ≤ f). (
      f,
      le-f,
      front_hides f f b c a (omega arith) (omega (arith, full-c))
          ∙ sym (front_hides g f b b a le (omega (arith, full-b))),
    ))
    (cases_lt f g)

pub with_front_twice : (image : DiskImage) (k f g : ℕ) (b c : List ℕ) → k < length image
    → with_front (with_front image k f c) k g b
    ≡ with_sector image k (front_over g b (front_over f c (sector_at image k)))
with_front_twice image k f g b c lt =
    ap (λ (l : List ℕ). set (with_front image k f c) k (front_over g b l))
    (sector-with_sector image k (front_over f c (sector_at image k)) lt)
    ∙ set-set image k (front_over f c (sector_at image k))
    (front_over g b (front_over f c (sector_at image k)))

pub with_front_comm : (image : DiskImage) (k s f g : ℕ) (b c : List ℕ) → k ≢ s
    → with_front (with_front image k f c) s g b ≡ with_front (with_front image s g b) k f c
with_front_comm image k s f g b c ne =
    ap (λ (l : List ℕ). set (with_front image k f c) s (front_over g b l))
    (sector-with_other image s k (front_over f c (sector_at image k)) (λ e. ne (sym e)))
    ∙ set_comm image k s (front_over f c (sector_at image k)) (front_over g b (sector_at image s))
    ne
    ∙ ap (λ (l : List ℕ). set (with_front image s g b) k (front_over f c l))
    (sym (sector-with_other image k s (front_over g b (sector_at image s)) ne))

pub length-front_over : (f n : ℕ) (b a : List ℕ) → f ≤ n → length b ≡ n → length a ≡ n
    → length (front_over f b a) ≡ n
length-front_over f n b a le full-b full-a =
    omega (arith, length-append (take f b) (drop f a), length-take f b, length-drop f a)

pub disk_image-with_sector : (n : ℕ) (image : DiskImage) (k : ℕ) (bytes : List ℕ)
    → IsDiskImage n image → (k < n → length bytes ≡ 512) → IsDiskImage n (with_sector image k bytes)
disk_image-with_sector n image k bytes is full = record {
  count = length-set image k bytes ∙ is.count;
  full = λ j lt. ⊎_elim
      (λ (e : j ≡ k). rw e (let here : k < length image = omega (
        arith,
        is.count,
        ap (λ (x : ℕ). x) e,
      ) in ap length (sector-with_sector image k bytes here)
      ∙ full (omega arith)))
      (λ (ne : j ≡ k → ⊥). ap length (sector-with_other image j k bytes ne) ∙ is.full j lt)
      (cases_eq j k);
}

pub disk_image-with_front : (n : ℕ) (image : DiskImage) (k f : ℕ) (bytes : List ℕ)
    → IsDiskImage n image → f ≤ 512 → (k < n → length bytes ≡ 512)
    → IsDiskImage n (with_front image k f bytes)
disk_image-with_front n image k f bytes is le full =
    disk_image-with_sector n image k _ is (λ lt. length-front_over f 512 bytes
    (sector_at image k) le (full lt) (is.full k lt))

-- the longest front is the whole write
pub whole-with_front : (n : ℕ) (image : DiskImage) (k : ℕ) (bytes : List ℕ)
    → IsDiskImage n image → k < n → length bytes ≡ 512 → with_front image k 512 bytes
    ≡ with_sector image k bytes
whole-with_front n image k bytes is lt full =
    let short : length (sector_at image k) ≤ 512 = omega (arith, is.full k lt) in
    ap (λ (l : List ℕ). set image k (take 512 bytes ++ l)) (drop_all 512 (sector_at image k) short)
    ∙ ap (λ (l : List ℕ). set image k (l ++ [])) (take_all 512 bytes (omega (arith, full)))
    ∙ ap (λ (l : List ℕ). set image k l) (append-nil bytes)
