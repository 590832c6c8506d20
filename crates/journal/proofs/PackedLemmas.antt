-- Packed sectors, and the payloads that are read of sectors.
use Rattle.std.proofs.Common.{◌≡◌, ◌⊎◌, ℕ, zero, suc, min, ◌+◌, ◌-◌, ◌*◌, ◌<◌, ◌≤◌, true, false}
use Rattle.std.proofs.Common.{Bool, cond, List, [], ◌∷◌, ◌++◌, length, take, drop, refl, sym, ap}
use Rattle.std.proofs.Common.{◌∙◌, subst, ⊎_elim, arith, length-drop, append_assoc}
use Rattle.std.proofs.lemmas.Bool.{cases_lt, cond-true, cond-false}
use Rattle.std.proofs.lemmas.List.{take-append-drop, drop-drop, take_all, nil_from_length}
use Rattle.std.proofs.lemmas.List.{append-nil}
use Rattle.std.specs.List.{AllByRecursion, flat_map}
use Rattle.guest_memory.specs.rules.Bytes.{IsByte, part}
use Rattle.guest_memory.proofs.Lists.{all_both, all_take, all_drop}
use Rattle.sector_disk.specs.rules.DiskImage.{DiskImage, sector_at}
use Rattle.disk_layout.specs.rules.Sectors.{shown_generation}
use Rattle.disk_layout.specs.rules.Journal.{journal_sector, is_of, used_length, payload_of_sector}
use Rattle.disk_layout.specs.Scanned.{payloads_from}
use Rattle.disk_layout.proofs.JournalLemmas.{IsUsedSector, is_of_true, is_of_other, is_of_means}
use Rattle.disk_layout.proofs.ReadLemmas.{parts_joined}
use Rattle.journal.specs.rules.Packed.{packed}

-- ---- packed sectors

part_next : (bytes : List ℕ) (i : ℕ)
    → part (drop 494 bytes) (494 * i) 494 ≡ part bytes (494 * suc i) 494
part_next bytes i = ap (λ l. take 494 l) (drop-drop (494 * i) 494 bytes
    ∙ ap (λ n. drop n bytes) (let e : 494 + 494 * i ≡ 494 * suc i = omega arith in e))

pub packed_at : (g p n : ℕ) (bytes : List ℕ) (i : ℕ) → i < n
    → sector_at (packed g p n bytes) i ≡ journal_sector g (p + i) (part bytes (494 * i) 494)
packed_at g p zero bytes i lt = absurd (omega arith)
packed_at g p (suc n) bytes zero lt =
    ap (λ q. journal_sector g q (take 494 bytes)) (let e : p ≡ p + 0 = omega arith in e)
packed_at g p (suc n) bytes (suc i) lt =
    packed_at g (p + 1) n (drop 494 bytes) i (omega arith)
    ∙ ap (λ l. journal_sector g (p + 1 + i) l) (part_next bytes i)
    ∙ ap (λ q. journal_sector g q (part bytes (494 * suc i) 494)) (let e : p + 1 + i
    ≡ p + suc i = omega arith in e)

-- ---- payloads

pub pay_on : (image : DiskImage) (g s p n : ℕ) → is_of g p (sector_at image s) ≡ true
    → payloads_from image g s p (suc n) ≡ payload_of_sector (sector_at image s)
    ++ payloads_from image g (s + 1) (p + 1) n
pay_on image g s p n on =
    cond-true (is_of g p (sector_at image s)) (payload_of_sector (sector_at image s)
    ++ payloads_from image g (s + 1) (p + 1) n) [] on

pub pay_off : (image : DiskImage) (g s p n : ℕ) → is_of g p (sector_at image s) ≡ false
    → payloads_from image g s p n ≡ []
pay_off image g s p zero off = refl
pay_off image g s p (suc n) off =
    cond-false (is_of g p (sector_at image s)) (payload_of_sector (sector_at image s)
    ++ payloads_from image g (s + 1) (p + 1) n) [] off

-- sectors whose places are told by an index
abbrev At : (ℕ → List ℕ → Type 0) → DiskImage → ℕ → ℕ → ℕ → Type 0
At P image s p i = P (p + i) (sector_at image (s + i))

at_next : (P : ℕ → List ℕ → Type 0) (image : DiskImage) (s p i : ℕ) → At P image s p (suc i)
    → At P image (s + 1) (p + 1) i
at_next P image s p i h =
    let e : s + suc i ≡ s + 1 + i = omega arith in
    let f : p + suc i ≡ p + 1 + i = omega arith in
    subst (λ (q : ℕ). P q (sector_at image (s + 1 + i))) f
    (subst (λ (t : ℕ). P (p + suc i) (sector_at image t)) e h)

at_first : (P : ℕ → List ℕ → Type 0) (image : DiskImage) (s p : ℕ) → At P image s p 0
    → P p (sector_at image s)
at_first P image s p h =
    let e : s + 0 ≡ s = omega arith in
    let f : p + 0 ≡ p = omega arith in
    subst (λ (q : ℕ). P q (sector_at image s)) f
    (subst (λ (t : ℕ). P (p + 0) (sector_at image t)) e h)

abbrev IsOn : ℕ → ℕ → List ℕ → Type 0
IsOn g p sector = is_of g p sector ≡ true

pub payloads_split : (image : DiskImage) (g s p n m : ℕ)
    → ((k : ℕ) → k < n → is_of g (p + k) (sector_at image (s + k)) ≡ true)
    → payloads_from image g s p (n + m) ≡ payloads_from image g s p n
    ++ payloads_from image g (s + n) (p + n) m
payloads_split image g s p zero m on =
    ap (λ k. payloads_from image g s p k) (let e : 0 + m ≡ m = omega arith in e)
    ∙ ap (λ k. payloads_from image g k p m) (let e : s ≡ s + 0 = omega arith in e)
    ∙ ap (λ k. payloads_from image g (s + 0) k m) (let e : p ≡ p + 0 = omega arith in e)
payloads_split image g s p (suc n) m on =
    let here = at_first (λ q t. IsOn g q t) image s p (on 0 (omega arith)) in
    let rest = payloads_split image g (s + 1) (p + 1) n m (λ k lt.
    at_next (λ q t. IsOn g q t) image s p k (on (suc k) (omega arith))) in
    ap (λ k. payloads_from image g s p k) (let e : suc n + m ≡ suc (n + m) = omega arith in e)
    ∙ pay_on image g s p (n + m) here
    ∙ ap (λ l. payload_of_sector (sector_at image s) ++ l) rest
    ∙ sym (append_assoc (payload_of_sector (sector_at image s)) (payloads_from image g (s + 1) (p
    + 1) n) (payloads_from image g (s + 1 + n) (p + 1 + n) m))
    ∙ ap (λ l. l ++ payloads_from image g (s + 1 + n) (p + 1 + n) m)
    (sym (pay_on image g s p n here))
    ∙ ap (λ k. payloads_from image g s p (suc n) ++ payloads_from image g k (p + 1 + n) m)
    (let e : s + 1 + n ≡ s + suc n = omega arith in e)
    ∙ ap (λ k. payloads_from image g s p (suc n) ++ payloads_from image g (s + suc n) k m)
    (let e : p + 1 + n ≡ p + suc n = omega arith in e)

abbrev payloads_step : ℕ → ℕ → List ℕ → List ℕ → List ℕ
payloads_step g p t rest = cond (is_of g p t) (payload_of_sector t ++ rest) []

pub payloads_same : (a b : DiskImage) (g s p n : ℕ)
    → ((k : ℕ) → k < n → sector_at a (s + k) ≡ sector_at b (s + k))
    → payloads_from a g s p n ≡ payloads_from b g s p n
payloads_same a b g s p zero same = refl
payloads_same a b g s p (suc n) same =
    let here : sector_at a s ≡ sector_at b s =
    ap (λ k. sector_at a k) (let e : s ≡ s + 0 = omega arith in e) ∙ same 0 (omega arith)
    ∙ ap (λ k. sector_at b k) (let e : s + 0 ≡ s = omega arith in e) in
    let rest = payloads_same a b g (s + 1) (p + 1) n (λ k lt.
    let e : s + 1 + k ≡ s + suc k = omega arith in
    ap (λ i. sector_at a i) e ∙ same (suc k) (omega arith) ∙ ap (λ i. sector_at b i) (sym e)) in
    ap (λ t. payloads_step g p t (payloads_from a g (s + 1) (p + 1) n)) here
    ∙ ap (λ l. payloads_step g p (sector_at b s) l) rest

-- ---- payloads, joined

-- the sectors from one that is used on
drop_next : (image : DiskImage) (s : ℕ) → 0 < used_length (sector_at image s)
    → drop s image ≡ sector_at image s ∷ drop (suc s) image
drop_next [] zero some = absurd (omega (arith, some))
drop_next [] (suc s) some = absurd (omega (arith, some))
drop_next (x ∷ image) zero some = refl
drop_next (x ∷ image) (suc s) some = drop_next image s some

pub payloads_joined : (image : DiskImage) (g s p n : ℕ)
    → ((k : ℕ) → k < n → is_of g (p + k) (sector_at image (s + k)) ≡ true)
    → flat_map payload_of_sector (take n (drop s image)) ≡ payloads_from image g s p n
payloads_joined image g s p zero on = refl
payloads_joined image g s p (suc n) on =
    let here = at_first (λ q t. IsOn g q t) image s p (on 0 (omega arith)) in
    let means = is_of_means g p (sector_at image s) here in
    let rest = payloads_joined image g (s + 1) (p + 1) n (λ k lt.
    at_next (λ q t. IsOn g q t) image s p k (on (suc k) (omega arith))) in
    ap (λ l. flat_map payload_of_sector (take (suc n) l)) (drop_next image s means.some)
    ∙ ap (λ k. payload_of_sector (sector_at image s)
    ++ flat_map payload_of_sector (take n (drop k image)))
    (let e : suc s ≡ s + 1 = omega arith in e)
    ∙ ap (λ l. payload_of_sector (sector_at image s) ++ l) rest
    ∙ sym (pay_on image g s p n here)

-- no payload is read after the first sector that isn't of the generation
pub payloads_end : (image : DiskImage) (g s p n m : ℕ) → n ≤ m
    → ((k : ℕ) → k < n → is_of g (p + k) (sector_at image (s + k)) ≡ true)
    → (n < m → is_of g (p + n) (sector_at image (s + n)) ≡ false)
    → payloads_from image g s p m ≡ payloads_from image g s p n
payloads_end image g s p n m le on off =
    let rest = m - n in
    let behind : payloads_from image g (s + n) (p + n) rest ≡ [] =
    ⊎_elim (λ (some : n < m). pay_off image g (s + n) (p + n) rest (off some))
    (λ (none : m ≤ n). ap (λ c. payloads_from image g (s + n) (p + n) c)
    (let e : rest ≡ 0 = omega arith in e))
    (cases_lt n m) in
    ap (λ c. payloads_from image g s p c) (let e : m ≡ n + rest = omega arith in e)
    ∙ payloads_split image g s p n rest on
    ∙ ap (λ l. payloads_from image g s p n ++ l) behind
    ∙ append-nil (payloads_from image g s p n)

-- the payloads of sectors of bytes are bytes
pub payloads_are_bytes : (image : DiskImage) (g s p n : ℕ)
    → ((k : ℕ) → AllByRecursion IsByte (sector_at image k))
    → AllByRecursion IsByte (payloads_from image g s p n)
payloads_are_bytes image g s p zero are = tt
payloads_are_bytes image g s p (suc n) are =
    chosen (is_of g p (sector_at image s)) (payload_of_sector (sector_at image s))
    (payloads_from image g (s + 1) (p + 1) n)
    (all_take IsByte (used_length (sector_at image s)) (drop 2 (sector_at image s))
    (all_drop IsByte 2 (sector_at image s) (are s)))
    (payloads_are_bytes image g (s + 1) (p + 1) n are)
  where
    chosen : (b : Bool) (l m : List ℕ) → AllByRecursion IsByte l → AllByRecursion IsByte m
        → AllByRecursion IsByte (cond b (l ++ m) [])
    chosen true l m first more = all_both IsByte l m first more
    chosen false l m first more = tt

-- ---- what torn sectors give

pub torn_front : (image : DiskImage) (g s p m : ℕ) (bytes : List ℕ)
    → ((i : ℕ) → i < m → (shown_generation (p + i) (sector_at image (s + i)) < g)
    ⊎ (IsUsedSector g (p + i) (sector_at image (s + i))
    × (payload_of_sector (sector_at image (s + i)) ≡ part bytes (494 * i) 494)))
    → (c : ℕ) × (payloads_from image g s p m ≡ take c bytes)
torn_front image g s p zero bytes each = (0, refl)
torn_front image g s p (suc m) bytes each =
    ⊎_elim
    (λ (earlier : shown_generation p (sector_at image s) < g). (
      0,
      pay_off image g s p (suc m) (is_of_other g p (sector_at image s) (λ e.
          absurd (omega arith))),
    ))
    (λ (meant : IsUsedSector g p (sector_at image s)
    × (payload_of_sector (sector_at image s) ≡ part bytes (494 * 0) 494)).
    let rest = torn_front image g (s + 1) (p + 1) m (drop 494 bytes) (λ i lt.
    let Q : ℕ → List ℕ → Type 0 = λ q t. (shown_generation q t < g)
    ⊎ (IsUsedSector g q t × (payload_of_sector t ≡ part (drop 494 bytes) (494 * i) 494)) in
    at_next Q image s p i
    (subst (λ (l : List ℕ). (shown_generation (p + suc i) (sector_at image (s + suc i)) < g)
    ⊎ (IsUsedSector g (p + suc i) (sector_at image (s + suc i))
    × (payload_of_sector (sector_at image (s + suc i)) ≡ l))) (sym (part_next bytes i))
    (each (suc i) (omega arith)))) in (
      494 + rest.0,
      pay_on image g s p m (is_of_true g p (sector_at image s) meant.0)
          ∙ ap (λ l. l ++ payloads_from image g (s + 1) (p + 1) m) meant.1
          ∙ ap (λ l. take 494 bytes ++ l) rest.1 ∙ parts_joined 494 rest.0 bytes,
    ))
    (at_first (λ q t. (shown_generation q t < g)
    ⊎ (IsUsedSector g q t × (payload_of_sector t ≡ part bytes (494 * 0) 494))) image s p
    (each 0 (omega arith)))

pub whole_run : (image : DiskImage) (g s p n : ℕ) (bytes : List ℕ) → length bytes ≤ 494 * n
    → ((i : ℕ) → i < n → IsUsedSector g (p + i) (sector_at image (s + i))
    × (payload_of_sector (sector_at image (s + i)) ≡ part bytes (494 * i) 494))
    → payloads_from image g s p n ≡ bytes
whole_run image g s p zero bytes le each = sym (nil_from_length bytes (omega arith))
whole_run image g s p (suc n) bytes le each =
    let meant = at_first (λ q t. IsUsedSector g q t
    × (payload_of_sector t ≡ part bytes (494 * 0) 494)) image s p (each 0 (omega arith)) in
    let rest = whole_run image g (s + 1) (p + 1) n (drop 494 bytes) (omega (
      arith,
      length-drop 494 bytes,
    )) (λ i lt.
    let Q : ℕ → List ℕ → Type 0 = λ q t. IsUsedSector g q t
    × (payload_of_sector t ≡ part (drop 494 bytes) (494 * i) 494) in
    at_next Q image s p i
    (subst (λ (l : List ℕ). IsUsedSector g (p + suc i) (sector_at image (s + suc i))
    × (payload_of_sector (sector_at image (s + suc i)) ≡ l)) (sym (part_next bytes i))
    (each (suc i) (omega arith)))) in
    pay_on image g s p n (is_of_true g p (sector_at image s) meant.0)
    ∙ ap (λ l. l ++ payloads_from image g (s + 1) (p + 1) n) meant.1
    ∙ ap (λ l. take 494 bytes ++ l) rest ∙ take-append-drop 494 bytes

-- a part as it is lent, which ends with the bytes at the latest
pub part_lent : (bytes : List ℕ) (start end : ℕ) → end ≡ min (length bytes) (start + 494)
    → take (end - start) (drop start bytes) ≡ part bytes start 494
part_lent bytes start end is =
    ⊎_elim
    (λ (long : start + 494 < length bytes). ap (λ n. take n (drop start bytes)) (let e : end - start
    ≡ 494 = omega arith in e))
    (λ (short : length bytes ≤ start + 494).
    take_all (end - start) (drop start bytes) (omega (arith, length-drop start bytes))
    ∙ sym (take_all 494 (drop start bytes) (omega (arith, length-drop start bytes))))
    (cases_lt (start + 494) (length bytes))
