-- The head of a generation over an earlier one, whole or torn.
use Rattle.std.proofs.Common.{◌≡◌, ◌≢◌, ◌⊎◌, ℕ, ◌+◌, ◌-◌, ◌%◌, ◌<◌, ◌≤◌, List, length, take, drop}
use Rattle.std.proofs.Common.{refl, sym, ap, ◌∙◌, subst, inl, inr, ⊎_elim, arith}
use Rattle.std.proofs.lemmas.Bool.{cases_eq}
use Rattle.std.proofs.lemmas.List.{take-take, drop-take}
use Rattle.sha2.specs.Sha256.{sha256}
use Rattle.guest_memory.specs.rules.Bytes.{part, number_of}
use Rattle.sector_disk.specs.rules.DiskImage.{DiskImage, sector_at}
use Rattle.disk_layout.specs.declared.geometry.Geometry.{Geometry}
use Rattle.disk_layout.specs.declared.head.Head.{Head}
use Rattle.disk_layout.specs.rules.Places.{head_place, area_place, rounded_up}
use Rattle.disk_layout.specs.rules.Sectors.{head_bytes, head_of, stamp_of, shown_generation}
use Rattle.disk_layout.specs.rules.Sectors.{IsComplete, IsNewest, SectorsHold, bytes_from}
use Rattle.disk_layout.specs.laws.Laws.{HeadFits}
use Rattle.disk_layout.proofs.StampLemmas.{shows_there, shows_none}
use Rattle.disk_layout.proofs.FieldLemmas.{head_again}
use Rattle.snapshot.specs.rules.Heads.{HasNone, heads_to, IsReadyForHead}
use Rattle.snapshot.specs.rules.Steps.{KeepsNewest, HoldsWithZeros, HasNew}
use Rattle.snapshot.proofs.AreaLemmas.{none_at, none_from, shown_complete, newest_complete}
use Rattle.snapshot.proofs.AreaLemmas.{heads_split, ready_newest, bytes_same, keeps}

-- ---- the parts of a sector

-- a part that ends before the stamp
pub part_before : (at n : ℕ) (s : List ℕ) → at + n ≤ 496 → part (take 496 s) at n ≡ part s at n
part_before at n s le =
    ap (λ (k : ℕ). take n (drop at (take k s))) (let e : 496 ≡ at + (496 - at) = omega arith in e)
    ∙ ap (λ (l : List ℕ). take n l) (drop-take at (496 - at) s)
    ∙ take-take n (496 - at) (drop at s) (omega arith)

pub part_same : (at n : ℕ) (s t : List ℕ) → at + n ≤ 496 → take 496 s ≡ take 496 t
    → part s at n ≡ part t at n
part_same at n s t le e = sym (part_before at n s le) ∙ ap (λ (l : List ℕ). part l at n) e
    ∙ part_before at n t le

-- a sector that shows a generation has its place
pub shown_has : (s : List ℕ) (g : ℕ) → 0 < g → shown_generation 1 s ≡ g → ((stamp_of s).place ≡ 1)
    × ((stamp_of s).generation ≡ g)
shown_has s g some shows =
    ⊎_elim
    (λ (e : (stamp_of s).place ≡ 1). (
      e,
      sym (shows_there 1 (stamp_of s).place (stamp_of s).generation e) ∙ shows,
    ))
    (λ (ne : (stamp_of s).place ≡ 1 → ⊥).
    absurd (let none = shows_none 1 (stamp_of s).place (stamp_of s).generation ne in
    omega (arith, none, shows, some)))
    (cases_eq (stamp_of s).place 1)

pub shown_within : (image : DiskImage) (g : ℕ)
    → shown_generation 1 (sector_at image (head_place g)) ≤ heads_to image
shown_within image g = let e = heads_split image g in omega (arith, e)

-- ---- the sector of a head, and what is over it

-- a sector that shows the head's generation, and has all of it that is before the stamp
pub record IsHeadSector (h : Head) (s : List ℕ) : Type 0 where
  pub shows : shown_generation 1 s ≡ h.generation
  pub first : take 496 s ≡ take 496 (head_bytes h)

pub read_again : (h : Head) (s : List ℕ) → HeadFits h → 0 < h.generation → IsHeadSector h s
    → head_of s ≡ h
read_again h s fits some is =
    let again = head_again h fits in
    let v : number_of (part s 8 4) ≡ h.version =
    ap (λ (l : List ℕ). number_of l) (part_same 8 4 s (head_bytes h) (omega arith) is.first)
    ∙ ap (λ (x : Head). x.version) again in
    let l : number_of (part s 16 8) ≡ h.length_in_bytes =
    ap (λ (l : List ℕ). number_of l) (part_same 16 8 s (head_bytes h) (omega arith) is.first)
    ∙ ap (λ (x : Head). x.length_in_bytes) again in
    let d : part s 24 32 ≡ h.digest = part_same 24 32 s (head_bytes h) (omega arith) is.first
    ∙ ap (λ (x : Head). x.digest) again in
    let g : number_of (part s 496 8) ≡ h.generation = (shown_has s h.generation some is.shows).1 in
    λ j. record { version = v j; length_in_bytes = l j; digest = d j; generation = g j }

pub is_complete : (h : Head) (s : List ℕ) → 0 < h.generation → IsHeadSector h s
    → IsComplete (h.generation % 2) s
is_complete h s some is =
    let has = shown_has s h.generation some is.shows in
    let m : take 8 s ≡ take 8 (head_bytes h) = sym (take-take 8 496 s (omega arith))
    ∙ ap (λ (l : List ℕ). take 8 l) is.first ∙ take-take 8 496 (head_bytes h) (omega arith) in
    let e : (stamp_of s).generation ≡ h.generation = has.1 in
    record {
      mark = m;
      place = has.0;
      from_one = omega (arith, e, some);
      parity = ap (λ (n : ℕ). n % 2) e;
    }

-- ---- an image whose area holds the bytes, with a sector in place of its head

module _ (geometry : Geometry) (g version : ℕ) (bytes : List ℕ) (x y : DiskImage)
    (ready : IsReadyForHead g x)
    (others : (k : ℕ) → k ≢ head_place g
    → sector_at y k
    ≡ sector_at x k) (area : SectorsHold x (area_place geometry g) geometry.area_sectors bytes)
  where
    areas_same : (n : ℕ) → bytes_from y (area_place geometry n) geometry.area_sectors
        ≡ bytes_from x (area_place geometry n) geometry.area_sectors
    areas_same n =
        bytes_same x y (area_place geometry n) geometry.area_sectors (λ k from below.
        others k (omega (arith, from)))

    some_generation : 0 < g
    some_generation = omega (arith, ready.none_later)

    other_head : (n : ℕ) → n % 2 ≢ g % 2 → sector_at y (head_place n) ≡ sector_at x (head_place n)
    other_head n ne =
        others (head_place n) (λ (e : head_place n ≡ head_place g). ne (omega (arith, e)))

    next_head : sector_at y (head_place (g + 1)) ≡ sector_at x (head_place (g + 1))
    next_head = other_head (g + 1) (λ (e : (g + 1) % 2 ≡ g % 2). omega (arith, e))

    other_less : shown_generation 1 (sector_at y (head_place (g + 1))) < g
    other_less = let e = ap (λ (s : List ℕ). shown_generation 1 s) next_head in
        let w = shown_within x (g + 1) in omega (arith, e, w, ready.none_later)

    pub new_head : (h : Head) → HeadFits h → h ≡ record {
      version = version;
      length_in_bytes = length bytes;
      digest = sha256 bytes;
      generation = g;
    }
        → HoldsWithZeros geometry g bytes x → IsHeadSector h (sector_at y (head_place g))
        → HasNew geometry g version bytes y
    new_head h fits is zeros head =
        let at-g : h.generation ≡ g = ap (λ (k : Head). k.generation) is in
        let some : 0 < h.generation = let s = some_generation in omega (arith, s, at-g) in
        let here : shown_generation 1 (sector_at y (head_place g)) ≡ g = head.shows ∙ at-g in
        record {
          holds = record {
            newest = record {
              complete = subst (λ (n : ℕ). IsComplete (n % 2) (sector_at y (head_place g))) at-g
                  (is_complete h (sector_at y (head_place g)) some head);
              is = sym (read_again h (sector_at y (head_place g)) fits some head ∙ is);
              same = refl;
              newest = λ c. let s = shown_complete ((g + 1) % 2)
                  (sector_at y (head_place (g + 1))) c
                  in let l = other_less in omega (arith, s, l);
            };
            area = ap (λ (l : List ℕ). take (length bytes) l) (areas_same g) ∙ area;
          };
          zeros = bytes_same x y (area_place geometry g) (rounded_up (length bytes))
              (λ k from below.
              others k (omega (arith, from))) ∙ zeros;
          heads = let e = heads_split y g in let l = other_less in omega (arith, e, here, l);
        }

    -- a sector that shows an earlier generation
    module _ (less : shown_generation 1 (sector_at y (head_place g)) < g) where
      complete_less : IsComplete (g % 2) (sector_at y (head_place g))
          → (stamp_of (sector_at y (head_place g))).generation + 2 ≤ g
      complete_less c = let s = shown_complete (g % 2) (sector_at y (head_place g)) c in
          let p = c.parity in omega (arith, s, p, less)

      -- a complete head is where one was, or it is earlier than the one before this one
      complete_was : (n : ℕ) → IsComplete (n % 2) (sector_at y (head_place n))
          → IsComplete (n % 2) (sector_at x (head_place n))
          ⊎ (((stamp_of (sector_at y (head_place n))).generation + 2 ≤ g)
          × (1 ≤ (stamp_of (sector_at y (head_place n))).generation))
      complete_was n c =
          ⊎_elim
          (λ (e : n % 2 ≡ g % 2).
          let P : ℕ → Type 0 = λ p. IsComplete p (sector_at y (1 + p)) in
          let Q : ℕ → Type 0 = λ p. (stamp_of (sector_at y (1 + p))).generation + 2 ≤ g in
          inr (subst Q (sym e) (complete_less (subst P e c)), c.from_one))
          (λ (ne : n % 2 ≡ g % 2 → ⊥).
          inl (subst (λ (s : List ℕ). IsComplete (n % 2) s) (other_head n ne) c))
          (cases_eq (n % 2) (g % 2))

      none_stays : HasNone x → HasNone y
      none_stays none =
          let first : g ≡ 1 = ⊎_elim (λ one. one.0) (λ some. let i = some.1 in
          absurd (none_at x none (g - 1) i.complete)) ready.before in
          none_from y (λ n c. ⊎_elim (λ was. none_at x none n was) (λ earlier. omega (
            arith,
            earlier.0,
            earlier.1,
            first,
          )) (complete_was n c))

      newest_stays : (n : ℕ) (h : Head) → IsNewest x n h → IsNewest y n h
      newest_stays n h is =
          let next : n + 1 ≡ g = ready_newest g x ready n h is in
          let here : sector_at y (head_place n) ≡ sector_at x (head_place n) =
          other_head n (λ (e : n % 2 ≡ g % 2). omega (arith, e, next)) in
          let P : ℕ → Type 0 = λ k. IsComplete (k % 2) (sector_at y (head_place k))
          → (stamp_of (sector_at y (head_place k))).generation + 2 ≤ g in
          let older = subst P (sym next) complete_less in
          record {
            complete = subst (λ (s : List ℕ). IsComplete (n % 2) s) (sym here) is.complete;
            is = is.is ∙ ap (λ (s : List ℕ). head_of s) (sym here);
            same = is.same;
            newest = λ c. let o = older c in omega (arith, o, next);
          }

      heads_stay : heads_to y ≡ heads_to x
      heads_stay =
          let at-x = heads_split x g in
          let at-y = heads_split y g in
          let same = ap (λ (s : List ℕ). shown_generation 1 s) next_head in
          ⊎_elim
          (λ one. omega (arith, at-x, at-y, same, less, one.0, ready.none_later))
          (λ some.
          let i = some.1 in
          let place : head_place (g - 1) ≡ head_place (g + 1) = let s = some_generation in
          omega (arith, s) in
          let there = shown_complete ((g - 1) % 2) (sector_at x (head_place (g - 1))) i.complete
          ∙ newest_complete x (g - 1) some.0 i in
          let moved : shown_generation 1 (sector_at x (head_place (g + 1))) ≡ g - 1 =
          ap (λ (k : ℕ). shown_generation 1 (sector_at x k)) (sym place) ∙ there in
          omega (arith, at-x, at-y, same, less, moved, ready.none_later))
          ready.before

      pub old_head : KeepsNewest geometry x y
      old_head = keeps geometry x y none_stays (λ n h is. (
        newest_stays n h is,
        areas_same n,
      )) heads_stay
