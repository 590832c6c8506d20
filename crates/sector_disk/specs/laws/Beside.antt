-- Sectors that writes leave alone.
use Rattle.std.specs.Prelude.{◌≡◌, ◌<◌, ◌≤◌, ◌+◌, ℕ, List, [], ◌∷◌, length}
use Rattle.std.specs.Prelude.{drop, replicate, All, refl}
use Rattle.std.proofs.Common.{get_or, sym, ◌∙◌, ⊎_elim, subst, ap, arith}
use Rattle.std.proofs.lemmas.List.{drop_more, drop_all, ext_get_or, get_or-replicate}
use Rattle.std.proofs.lemmas.List.{length-replicate}
use Rattle.std.proofs.lemmas.List.Elements.{All-head, All-tail, All-nil, All-cons}
use Rattle.std.proofs.lemmas.Bool.{cases_eq}
use Rattle.sector_disk.specs.rules.DiskImage.{DiskImage, sector_at, with_sector, with_front, zeros}
use Rattle.sector_disk.specs.declared.sector.TheConstants.{SECTOR_SIZE}
use Rattle.sector_disk.specs.laws.Fronts.{sector-with_sector, sector-with_other}
use Rattle.sector_disk.specs.rules.Pending.{replayed, first_front, torn_by}
use Rattle.sector_disk.specs.declared.write.Write.{Write}

-- none of these writes is of this sector
abbrev pub LeaveAlone : List Write → ℕ → Type 0
LeaveAlone writes k = All (λ write. write.sector ≡ k → ⊥) writes

-- two images are the same but for the sectors of these writes
abbrev pub AreSameBeside : List Write → DiskImage → DiskImage → Type 0
AreSameBeside writes a b = (k : ℕ) → LeaveAlone writes k → sector_at a k ≡ sector_at b k

-- whole writes
replayed_beside : (k : ℕ) (writes : List Write) (from : DiskImage) → LeaveAlone writes k
    → sector_at (replayed writes from) k ≡ sector_at from k
replayed_beside k [] from none = refl
replayed_beside k (write ∷ writes) from none =
    let P : Write → Type 0 = λ w. w.sector ≡ k → ⊥ in
    replayed_beside k writes (with_sector from write.sector write.bytes)
    (All-tail P write writes none)
    ∙ sector-with_other from k write.sector write.bytes
    (λ e. All-head P write writes none (sym e))

-- fronts of them
torn_beside : (k : ℕ) (tears : List ℕ) (writes : List Write) (from : DiskImage)
    → LeaveAlone writes k → sector_at (torn_by tears writes from) k ≡ sector_at from k
torn_beside k tears [] from none = refl
torn_beside k tears (write ∷ writes) from none =
    let P : Write → Type 0 = λ w. w.sector ≡ k → ⊥ in
    torn_beside k (drop 1 tears) writes
    (with_front from write.sector (first_front tears) write.bytes) (All-tail P write writes none)
    ∙ sector-with_other from k write.sector _ (λ e. All-head P write writes none (sym e))

-- what reads give, and what a cut leaves
pub cut_beside : (tears : List ℕ) (writes : List Write) (from shown left : DiskImage)
    → shown ≡ replayed writes from → left ≡ torn_by tears writes from
    → AreSameBeside writes shown left
cut_beside tears writes from shown left is_shown is_left k none =
    ap (λ image. sector_at image k) is_shown ∙ replayed_beside k writes from none
    ∙ sym (ap (λ image. sector_at image k) is_left ∙ torn_beside k tears writes from none)

-- one sector more is the same
pub beside_more : (writes : List Write) (i : ℕ) (d : Write) (a b : DiskImage) (bytes : List ℕ)
    → i < length writes → (get_or writes i d).sector < length a
    → bytes ≡ sector_at b (get_or writes i d).sector → AreSameBeside (drop i writes) a b
    → AreSameBeside (drop (i + 1) writes) (with_sector a (get_or writes i d).sector bytes) b
beside_more writes i d a b bytes lt inside is same k none =
    let w = get_or writes i d in
    ⊎_elim
    (λ (e : w.sector ≡ k).
    subst (λ (n : ℕ). sector_at (with_sector a w.sector bytes) n ≡ sector_at b n) e
    (sector-with_sector a w.sector bytes inside ∙ is))
    (λ (ne : w.sector ≡ k → ⊥).
    sector-with_other a k w.sector bytes (λ e. ne (sym e))
    ∙ same k (subst (λ (ws : List Write). LeaveAlone ws k) (sym (drop_more writes i d lt))
    (All-cons (λ (x : Write). x.sector ≡ k → ⊥) w (drop (i + 1) writes) ne none)))
    (cases_eq w.sector k)

-- and in the end all are
pub all_same : (writes : List Write) (i : ℕ) (a b : DiskImage) → length writes ≤ i
    → length a ≡ length b → AreSameBeside (drop i writes) a b → a ≡ b
all_same writes i a b past size same =
    ext_get_or [] a b size (λ k lt. same k (subst (λ (ws : List Write). LeaveAlone ws k)
    (sym (drop_all i writes past)) (All-nil (λ (x : Write). x.sector ≡ k → ⊥))))

-- ---- sectors that are wiped

-- the first sectors hold zeros
abbrev pub AreZerosUpTo : ℕ → DiskImage → Type 0
AreZerosUpTo count image = (k : ℕ) → k < count → sector_at image k ≡ replicate SECTOR_SIZE 0

-- one more
pub zeros_more : (count : ℕ) (image : DiskImage) → count < length image → AreZerosUpTo count image
    → AreZerosUpTo (count + 1) (with_sector image count (replicate SECTOR_SIZE 0))
zeros_more count image inside so_far k lt =
    let zero = replicate SECTOR_SIZE 0 in
    ⊎_elim
    (λ (e : count ≡ k).
    subst (λ (n : ℕ). sector_at (with_sector image count zero) n ≡ zero) e
    (sector-with_sector image count zero inside))
    (λ (ne : count ≡ k → ⊥).
    sector-with_other image k count zero (λ e. ne (sym e))
    ∙ so_far k (omega (arith, lt, ne)))
    (cases_eq count k)

-- all of them
pub all_zeros : (count : ℕ) (image : DiskImage) → length image ≤ count → AreZerosUpTo count image
    → image ≡ zeros (length image)
all_zeros count image past so_far =
    let n = length image in
    ext_get_or [] image (zeros n) (sym (length-replicate n (replicate SECTOR_SIZE 0)))
    (λ k lt. so_far k (omega (arith, lt, past)) ∙ sym (get_or-replicate n k _ [] lt))
