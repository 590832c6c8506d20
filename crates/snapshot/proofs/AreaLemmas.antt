-- The two heads and the two areas of an image.
use Rattle.std.proofs.Common.{◌≡◌, ◌⊎◌, ℕ, zero, suc, ◌+◌, ◌-◌, ◌*◌, ◌%◌, ◌<◌, ◌≤◌, List, ◌++◌}
use Rattle.std.proofs.Common.{length, take, max, refl, sym, ap, ◌∙◌, subst, inl, inr, ⊎_elim, arith}
use Rattle.std.proofs.lemmas.Bool.{cases_lt, cases_eq}
use Rattle.sector_disk.specs.rules.DiskImage.{DiskImage, sector_at}
use Rattle.disk_layout.specs.declared.geometry.Geometry.{Geometry}
use Rattle.disk_layout.specs.declared.head.Head.{Head}
use Rattle.disk_layout.specs.rules.Places.{head_place, area_place, journal_place}
use Rattle.disk_layout.specs.rules.Sectors.{bytes_from, head_of, stamp_of, shown_generation}
use Rattle.disk_layout.specs.rules.Sectors.{IsComplete, IsNewest}
use Rattle.disk_layout.proofs.StampLemmas.{shows_there}
use Rattle.snapshot.specs.rules.Heads.{HasNone, heads_to, IsReadyForHead}
use Rattle.snapshot.specs.rules.Steps.{KeepsNewest, IsOutsideArea, Fills, Commits, Replaces}

pub parity : (n : ℕ) → (n % 2 ≡ 0) ⊎ (n % 2 ≡ 1)
parity n = ⊎_elim (λ (lt : n % 2 < 1). inl (omega arith)) (λ (ge : 1 ≤ n % 2). inr (omega arith))
    (cases_lt (n % 2) 1)

-- ---- heads

pub none_at : (image : DiskImage) → HasNone image → (n : ℕ)
    → IsComplete (n % 2) (sector_at image (head_place n)) → ⊥
none_at image none n c =
    ⊎_elim
    (λ (e : n % 2 ≡ 0). none.first (subst (λ (p : ℕ). IsComplete p (sector_at image (1 + p))) e c))
    (λ (e : n % 2 ≡ 1). none.second (subst (λ (p : ℕ). IsComplete p (sector_at image (1 + p))) e c))
    (parity n)

pub none_from : (image : DiskImage) → ((n : ℕ) → IsComplete (n % 2) (sector_at image (head_place n))
    → ⊥) → HasNone image
none_from image all = record { first = all 0; second = all 1 }

pub shown_complete : (area : ℕ) (s : List ℕ) → IsComplete area s
    → shown_generation 1 s ≡ (stamp_of s).generation
shown_complete area s c = shows_there 1 (stamp_of s).place (stamp_of s).generation c.place

pub newest_complete : (image : DiskImage) (g : ℕ) (h : Head) → IsNewest image g h
    → (stamp_of (sector_at image (head_place g))).generation ≡ g
newest_complete image g h is = ap (λ (x : Head). x.generation) (sym is.is) ∙ is.same

pub one_newest : (image : DiskImage) (a b : ℕ) (h k : Head) → IsNewest image a h
    → IsNewest image b k → a ≡ b
one_newest image a b h k is-a is-b =
    let ga = newest_complete image a h is-a in
    let gb = newest_complete image b k is-b in
    ⊎_elim
    (λ (e : a % 2 ≡ b % 2). sym ga
    ∙ ap (λ (p : ℕ). (stamp_of (sector_at image (1 + p))).generation) e ∙ gb)
    (λ (ne : a % 2 ≡ b % 2 → ⊥).
    let to-b : b % 2 ≡ (a + 1) % 2 = omega arith in
    let to-a : a % 2 ≡ (b + 1) % 2 = omega arith in
    let less-b =
    is-a.newest (subst (λ (p : ℕ). IsComplete p (sector_at image (1 + p))) to-b is-b.complete)
    in
    let less-a =
    is-b.newest (subst (λ (p : ℕ). IsComplete p (sector_at image (1 + p))) to-a is-a.complete)
    in
    let b-is = ap (λ (p : ℕ). (stamp_of (sector_at image (1 + p))).generation) to-b in
    let a-is = ap (λ (p : ℕ). (stamp_of (sector_at image (1 + p))).generation) to-a in
    absurd (omega (arith, less-b, less-a, b-is, a-is, ga, gb)))
    (cases_eq (a % 2) (b % 2))

-- both sectors of heads
pub heads_split : (image : DiskImage) (g : ℕ)
    → heads_to image
    ≡ max (shown_generation 1 (sector_at image (head_place g)))
    (shown_generation 1 (sector_at image (head_place (g + 1))))
heads_split image g =
    let P : ℕ → ℕ → Type 0 =
    λ p q. heads_to image
    ≡ max (shown_generation 1 (sector_at image (1 + p)))
    (shown_generation 1 (sector_at image (1 + q))) in
    ⊎_elim
    (λ (e : g % 2 ≡ 0).
    let o : (g + 1) % 2 ≡ 1 = omega arith in
    let one = ap (λ (p : ℕ). shown_generation 1 (sector_at image (1 + p))) e in
    let two = ap (λ (p : ℕ). shown_generation 1 (sector_at image (1 + p))) o in
    omega (arith, one, two))
    (λ (e : g % 2 ≡ 1).
    let o : (g + 1) % 2 ≡ 0 = omega arith in
    let one = ap (λ (p : ℕ). shown_generation 1 (sector_at image (1 + p))) e in
    let two = ap (λ (p : ℕ). shown_generation 1 (sector_at image (1 + p))) o in
    omega (arith, one, two))
    (parity g)

-- a newest head of this generation is the one before
pub ready_newest : (g : ℕ) (image : DiskImage) → IsReadyForHead g image → (n : ℕ) (h : Head)
    → IsNewest image n h → n + 1 ≡ g
ready_newest g image ready n h is =
    ⊎_elim
    (λ none. absurd (none_at image none.1 n is.complete))
    (λ some.
    let same = one_newest image n (g - 1) h some.0 is some.1 in
    let c = is.complete in
    let from = c.from_one in
    let at = newest_complete image n h is in
    omega (arith, same, from, at))
    ready.before

-- ---- heads that stay

pub newest_moves : (old new : DiskImage) (g : ℕ) (h : Head)
    → ((n : ℕ) → sector_at new (head_place n) ≡ sector_at old (head_place n)) → IsNewest old g h
    → IsNewest new g h
newest_moves old new g h same is = record {
  complete = subst (λ (s : List ℕ). IsComplete (g % 2) s) (sym (same g)) is.complete;
  is = is.is ∙ ap (λ (s : List ℕ). head_of s) (sym (same g));
  same = is.same;
  newest = λ c.
      let older = is.newest (subst (λ (s : List ℕ). IsComplete ((g + 1) % 2) s) (same (g + 1)) c) in
      subst (λ (s : List ℕ). (stamp_of s).generation < g) (sym (same (g + 1))) older;
}

pub heads_move : (old new : DiskImage)
    → ((n : ℕ) → sector_at new (head_place n) ≡ sector_at old (head_place n))
    → heads_to new ≡ heads_to old
heads_move old new same =
    let one = ap (λ (s : List ℕ). shown_generation 1 s) (same 0) in
    let two = ap (λ (s : List ℕ). shown_generation 1 s) (same 1) in
    omega (arith, one, two)

-- ---- areas

pub bytes_same : (old new : DiskImage) (place count : ℕ) → ((k : ℕ) → place ≤ k → k < place + count
    → sector_at new k ≡ sector_at old k) → bytes_from new place count ≡ bytes_from old place count
bytes_same old new place zero same = refl
bytes_same old new place (suc count) same =
    ap (λ (l : List ℕ). l
    ++ bytes_from new (place + 1) count) (same place (omega arith) (omega arith))
    ∙ ap (λ (l : List ℕ). sector_at old place
    ++ l) (bytes_same old new (place + 1) count (λ k from below.
    same k (omega arith) (omega arith)))

-- the areas of two generations in a row lie apart
pub other_area : (geometry : Geometry) (n g k : ℕ) → n + 1 ≡ g → area_place geometry n ≤ k
    → k < area_place geometry n + geometry.area_sectors → IsOutsideArea geometry g k
other_area geometry n g k next from below =
    let at : ℕ → ℕ = λ p. 3 + geometry.module_sectors + p * geometry.area_sectors in
    ⊎_elim
    (λ (e : g % 2 ≡ 0).
    let o : n % 2 ≡ 1 = omega arith in
    let here = ap at e in
    let there = ap at o in
    inr (omega (arith, here, there)))
    (λ (e : g % 2 ≡ 1).
    let o : n % 2 ≡ 0 = omega arith in
    let here = ap at e in
    let there = ap at o in
    inl (omega (arith, here, there)))
    (parity g)

-- an area ends where the journal begins, or before
pub area_in : (geometry : Geometry) (g k : ℕ) → k < geometry.area_sectors
    → area_place geometry g + k < journal_place geometry
area_in geometry g k below =
    let at : ℕ → ℕ = λ p. 3 + geometry.module_sectors + p * geometry.area_sectors in
    ⊎_elim
    (λ (e : g % 2 ≡ 0). let here = ap at e in omega (arith, here))
    (λ (e : g % 2 ≡ 1). let here = ap at e in omega (arith, here))
    (parity g)

-- ---- what newest finds

pub keeps : (geometry : Geometry) (old new : DiskImage) → (HasNone old → HasNone new)
    → ((g : ℕ) (h : Head) → IsNewest old g h → IsNewest new g h
    × (bytes_from new (area_place geometry g) geometry.area_sectors
    ≡ bytes_from old (area_place geometry g) geometry.area_sectors))
    → heads_to new ≡ heads_to old → KeepsNewest geometry old new
keeps geometry old new none moves heads = record {
  none = none;
  process_image = λ g version bytes is.
      let m = moves g _ is.newest in
      record { newest = m.0; area = ap (λ (l : List ℕ). take (length bytes) l) m.1 ∙ is.area };
  damaged = λ d.
      let m = moves d.generation d.head d.newest in
      let n = d.newest in
      let P : ℕ → Type 0 = λ k. bytes_from new (area_place geometry k) geometry.area_sectors
      ≡ bytes_from old (area_place geometry k) geometry.area_sectors in
      let area = subst P (sym n.same) m.1 in
      record {
        generation = d.generation;
        head = d.head;
        newest = m.0;
        other = λ bytes names. d.other bytes (record {
          len = names.len;
          digest = names.digest;
          area = ap (λ (l : List ℕ). take (length bytes) l) (sym area) ∙ names.area;
        });
      };
  heads = heads;
}

pub keeps_then : (geometry : Geometry) (old mid new : DiskImage) → KeepsNewest geometry old mid
    → KeepsNewest geometry mid new → KeepsNewest geometry old new
keeps_then geometry old mid new one two = record {
  none = λ n. two.none (one.none n);
  process_image = λ g version bytes is. two.process_image g version bytes
      (one.process_image g version bytes is);
  damaged = λ d. two.damaged (one.damaged d);
  heads = two.heads ∙ one.heads;
}

-- ---- an area that is filled

module _ (geometry : Geometry) (g : ℕ) (old new : DiskImage) (others : (k : ℕ)
    → IsOutsideArea geometry g k → sector_at new k ≡ sector_at old k) where
  pub same_heads : (n : ℕ) → sector_at new (head_place n) ≡ sector_at old (head_place n)
  same_heads n = others (head_place n) (inl (omega arith))

  pub filled_keeps : IsReadyForHead g old → KeepsNewest geometry old new
  filled_keeps ready = keeps geometry old new
      (λ none. none_from new (λ n c.
      none_at old none n (subst (λ (s : List ℕ). IsComplete (n % 2) s) (same_heads n) c)))
      (λ n h is. (
        newest_moves old new n h same_heads is,
        bytes_same old new (area_place geometry n) geometry.area_sectors (λ k from below.
            others k (other_area geometry n g k (ready_newest g old ready n h is) from below)),
      ))
      (heads_move old new same_heads)

  pub filled_ready : IsReadyForHead g old → IsReadyForHead g new
  filled_ready ready = record {
    before = ⊎_elim
        (λ none. inl (
          none.0,
          none_from new (λ n c. none_at old none.1 n (subst (λ (s : List ℕ). IsComplete (n % 2) s)
              (same_heads n) c)),
        ))
        (λ some. inr (some.0, newest_moves old new (g - 1) some.0 same_heads some.1))
        ready.before;
    none_later = let e = heads_move old new same_heads in omega (arith, e, ready.none_later);
  }

pub fills : (geometry : Geometry) (g : ℕ) (old new : DiskImage) → length new ≡ length old
    → ((k : ℕ) → IsOutsideArea geometry g k → sector_at new k ≡ sector_at old k)
    → Fills geometry g old new
fills geometry g old new count others = record {
  count = count;
  others = others;
  newest = filled_keeps geometry g old new others;
}

pub fills_none : (geometry : Geometry) (g : ℕ) (image : DiskImage) → Fills geometry g image image
fills_none geometry g image = fills geometry g image image refl (λ k out. refl)

pub fills_then : (geometry : Geometry) (g : ℕ) (old mid new : DiskImage) → Fills geometry g old mid
    → Fills geometry g mid new → Fills geometry g old new
fills_then geometry g old mid new one two =
    fills geometry g old new (two.count ∙ one.count) (λ k out. two.others k out ∙ one.others k out)

pub fills_commits : (geometry : Geometry) (g version : ℕ) (bytes : List ℕ) (old new : DiskImage)
    → Fills geometry g old new → Commits geometry g version bytes old new
fills_commits geometry g version bytes old new one =
    record {
      count = one.count;
      others = λ k out ne. one.others k out;
      newest = λ ready. inl (one.newest ready);
    }

pub then_commits : (geometry : Geometry) (g version : ℕ) (bytes : List ℕ) (old mid new : DiskImage)
    → Fills geometry g old mid → Commits geometry g version bytes mid new
    → Commits geometry g version bytes old new
then_commits geometry g version bytes old mid new one two = record {
  count = two.count ∙ one.count;
  others = λ k out ne. two.others k out ne ∙ one.others k out;
  newest = λ ready. ⊎_elim (λ keep. inl (keeps_then geometry old mid new (one.newest ready) keep))
      (λ now. inr now) (two.newest (filled_ready geometry g old mid one.others ready));
}

pub then_replaces : (geometry : Geometry) (g version : ℕ) (bytes : List ℕ) (old mid new : DiskImage)
    → Fills geometry g old mid → Replaces geometry g version bytes mid new
    → Replaces geometry g version bytes old new
then_replaces geometry g version bytes old mid new one two = record {
  count = two.count ∙ one.count;
  others = λ k out ne. two.others k out ne ∙ one.others k out;
  newest = λ ready. two.newest (filled_ready geometry g old mid one.others ready);
}
