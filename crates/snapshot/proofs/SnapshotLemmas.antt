-- The calls that write all of an image, one after another.
use Rattle.std.proofs.Common.{◌≡◌, ◌⊎◌, ℕ, ◌+◌, ◌-◌, ◌*◌, ◌/◌, ◌<◌, min, List, [], ◌++◌, length}
use Rattle.std.proofs.Common.{take, refl, ap, ◌∙◌, subst, inl, inr, ⊎_elim, arith}
use Rattle.std.specs.Prelude.{Result, Ok, IsErr}
use Rattle.std.proofs.lemmas.Result.{on_ok_weaker}
use Rattle.sector_disk.specs.rules.Medium.{Medium, After, Follows, LeavesOnly, CallsUpTo}
use Rattle.sector_disk.specs.rules.Medium.{CountsUpTo, spare}
use Rattle.sector_disk.proofs.Moments.{leaves_weaker}
use Rattle.sector_disk.proofs.CountLemmas.{counts_same, counts_more, counts_then, unsynced_within}
use Rattle.disk_layout.specs.declared.geometry.Geometry.{Geometry}
use Rattle.disk_layout.specs.rules.Places.{area_place, journal_place, rounded_up}
use Rattle.disk_layout.specs.rules.Sectors.{bytes_from}
use Rattle.snapshot.specs.Writing.{written_length, Starts, IsGiven, SparesSectors, SparesAllButHead}
use Rattle.snapshot.specs.declared.writer.AreaWriter.{AreaWriter}
use Rattle.snapshot.specs.declared.writing.Writing.{Writing}
use Rattle.snapshot.specs.rules.Images.{AreaPart, part_behind, StoresSectors, PushesNext, EndsImage}
use Rattle.snapshot.specs.rules.Images.{NewImage, WritesImage, FailsInArea}
use Rattle.snapshot.specs.rules.Snapshots.{filled_by}
use Rattle.snapshot.specs.rules.Steps.{Fills, Commits, Replaces}
use Rattle.snapshot.proofs.AreaLemmas.{fills_none, fills_commits, then_commits, then_replaces}
use Rattle.snapshot.proofs.PushLemmas.{on_err, part, stores_longer, fails_then}
use Rattle.snapshot.proofs.SpareLemmas.{spares_all_but_head}
use Rattle.snapshot.proofs.StoreCalls.{stores, BeginsStores, none_stored, begun_at, same_stores}
use Rattle.snapshot.proofs.StoreCalls.{no_head, head_at, head_then}
use Rattle.snapshot.proofs.StoreLemmas.{leaves_then, leaves_now}
use Rattle.snapshot.proofs.WriterLemmas.{none_fills}

-- of an image that has just begun no byte was pushed, whatever the disk shows
pub starts_given : (geometry : Geometry) (m : Medium) (g v : ℕ) (told : Writing) (w : AreaWriter)
    → Starts g v told w → IsGiven geometry m w []
starts_given geometry m g v told w is = record {
  hashed = is.hashed;
  count = let s = is.sectors in let f = is.filled in omega (arith, s, f);
  held = λ image shows.
      ap (λ (n : ℕ). bytes_from image (area_place geometry w.generation) n
      ++ take w.filled w.sector) is.sectors ∙ ap (λ (n : ℕ). take n w.sector) is.filled;
}

module _ (geometry : Geometry) (g v : ℕ) (bytes : List ℕ) where
  pub filled_commits : (old new : Medium)
      → LeavesOnly old new (After (Fills geometry g) old.crash_images)
      → LeavesOnly old new (After (Commits geometry g v bytes) old.crash_images)
  filled_commits old new one =
      leaves_weaker old new (After (Fills geometry g) old.crash_images)
      (After (Commits geometry g v bytes) old.crash_images) one (λ image a. (
        a.0,
        a.1,
        fills_commits geometry g v bytes a.0 image a.2,
      ))

  pub none_commits : (m : Medium) → LeavesOnly m m (After (Commits geometry g v bytes)
      m.crash_images)
  none_commits m = filled_commits m m (none_fills geometry g m)

  module _ (old mid new : Medium)
      (one : LeavesOnly old mid (After (Fills geometry g) old.crash_images)) where
    pub committed : LeavesOnly mid new (After (Commits geometry g v bytes) mid.crash_images)
        → LeavesOnly old new (After (Commits geometry g v bytes) old.crash_images)
    committed two =
        leaves_then old mid new (After (Fills geometry g) old.crash_images)
        (After (Commits geometry g v bytes) mid.crash_images)
        (After (Commits geometry g v bytes) old.crash_images) one two
        (λ image a. (a.0, a.1, fills_commits geometry g v bytes a.0 image a.2))
        (λ image a. let b = leaves_now old mid (After (Fills geometry g)
        old.crash_images) one a.0 a.1
        in (b.0, b.1, then_commits geometry g v bytes b.0 a.0 image b.2 a.2))
        (λ image crashed. (
          image,
          crashed,
          fills_commits geometry g v bytes image image (fills_none geometry g image),
        ))

    pub committed_whole : Follows (Replaces geometry g v bytes) mid.crash_images new.crash_images
        → Follows (Replaces geometry g v bytes) old.crash_images new.crash_images
    committed_whole two = λ image crashed.
        let a = two image crashed in
        let b = leaves_now old mid (After (Fills geometry g) old.crash_images) one a.0 a.1 in
        (b.0, b.1, then_replaces geometry g v bytes b.0 a.0 image b.2 a.2)

-- ---- all of an image

-- sectors of its area were stored at most, and then there was an error
pub writes_begun : {T E : Type 0} (geometry : Geometry) (image : NewImage) (r : Result T E)
    (old new : Medium) → IsErr r
    → LeavesOnly old new (After (Fills geometry image.generation) old.crash_images)
    → CountsUpTo (old.unsynced + min (length image.bytes / 512) geometry.area_sectors) old new
    → BeginsStores image.writing (area_place geometry image.generation)
    (rounded_up (length image.bytes)) old new
    → CallsUpTo (2 * geometry.area_sectors) old new → WritesImage geometry image r old new
writes_begun geometry image r old new is_err fills counts begun asks =
    let few : ℕ = old.unsynced + min (length image.bytes / 512) geometry.area_sectors in
    let head = no_head image.writing (area_place geometry image.generation)
    (rounded_up (length image.bytes)) image.generation old new begun in
    record {
      any_moment = filled_commits geometry image.generation image.version image.bytes old new fills;
      done = on_err _ r is_err;
      all_synced = on_err _ r is_err;
      counts = counts_more few (few + 1) old new (omega arith) counts;
      spared = λ is. on_err _ r is_err;
      calls = (head.0, head.1, record { all = on_err _ r is_err; begun = head.2 });
      asks = omega (arith, asks);
    }

-- no call
pub writes_none : {T E : Type 0} (geometry : Geometry) (image : NewImage) (r : Result T E)
    (m : Medium) → IsErr r → WritesImage geometry image r m m
writes_none geometry image r m is_err =
    writes_begun geometry image r m m is_err (none_fills geometry image.generation m)
    (counts_same m _)
    (none_stored image.writing (area_place geometry image.generation)
    (rounded_up (length image.bytes)) m) (omega arith)

module _ (geometry : Geometry) (image : NewImage) (a b : AreaWriter) (old mid : Medium)
    (starts : Starts image.generation image.version image.writing a) where
  first_part : part_behind a (filled_by a (length image.bytes))
      ≡ part image.generation image.writing 0 (length image.bytes / 512)
  first_part =
      let none = starts.filled in
      let count : filled_by a (length image.bytes) ≡ length image.bytes / 512 = omega (arith, none)
      in
      rw (starts.generation, starts.told, starts.sectors, count) refl

  stored_first : {T E : Type 0} (r : Result T E) → PushesNext geometry image.bytes r a b old mid
      → StoresSectors geometry (part image.generation image.writing 0 (length image.bytes / 512)) r
      old mid
  stored_first r pushes =
      subst (λ (p : AreaPart). StoresSectors geometry p r old mid) first_part pushes.stores

  first_counts : {T E : Type 0} (r : Result T E) → PushesNext geometry image.bytes r a b old mid
      → CountsUpTo (old.unsynced + min (length image.bytes / 512) geometry.area_sectors) old mid
  first_counts r pushes =
      let first = stored_first r pushes in
      counts_more (old.unsynced + min (length image.bytes / 512) (geometry.area_sectors - 0))
      (old.unsynced + min (length image.bytes / 512) geometry.area_sectors) old mid (omega arith)
      first.counts

  -- its bytes were pushed up to an error
  pub writes_failed : {T U E F : Type 0} (q : Result U F) (r : Result T E) → IsErr r
      → PushesNext geometry image.bytes q a b old mid → WritesImage geometry image r old mid
  writes_failed q r is_err pushes =
      let place : ℕ = area_place geometry image.generation in
      let all = stores_longer geometry image.generation image.writing 0 (length image.bytes / 512)
      (rounded_up (length image.bytes)) q r old mid (omega arith) is_err (stored_first q pushes) in
      let made = all.calls in
      let none : place + 0 ≡ place = omega arith in
      let first = stored_first q pushes in
      writes_begun geometry image r old mid is_err first.any_moment (first_counts q pushes)
      (begun_at old mid (ap (λ k. stores image.writing k (rounded_up (length image.bytes))) none)
      (made.0, made.1, made.2.begun)) (let few = first.asks in omega (arith, few))

  pub first_fails : FailsInArea geometry a old mid
      → (spare old < geometry.area_sectors) ⊎ (old.faults < mid.faults)
  first_fails fails =
      let none = starts.sectors in
      ⊎_elim
      (λ (less : spare old + a.sectors < geometry.area_sectors). inl (omega (arith, less, none)))
      (λ (more : old.faults < mid.faults). inr more) fails

  pub ended_cause : {T E F : Type 0} (new : Medium) (r : Result T E)
      → PushesNext {T = Unit {0}} {E = F} geometry image.bytes (Ok tt) a b old mid
      → EndsImage geometry r b mid new → IsErr r → (old.sectors < journal_place geometry)
      ⊎ (spare old < geometry.area_sectors) ⊎ (old.room ≡ 0) ⊎ (old.faults < new.faults)
  ended_cause {F = F} new r pushes ends is_err =
      let R : Type 0 = (old.sectors < journal_place geometry)
      ⊎ (spare old < geometry.area_sectors) ⊎ (old.room ≡ 0) ⊎ (old.faults < new.faults) in
      let stores = pushes.stores in
      let leaves = stores.any_moment in
      let p = leaves.passes in
      let fails = fails_then {F = F} geometry image.bytes a b old mid new pushes in
      let in_area : FailsInArea geometry b mid new → R = λ behind.
      ⊎_elim
      (λ (less : spare old + a.sectors < geometry.area_sectors).
      (let none = starts.sectors in let r : R = inr (inl (omega (arith, less, none))) in r))
      (λ (more : old.faults < new.faults). inr (inr (inr more))) (fails behind) in
      ⊎_elim
      (λ (few : mid.sectors < journal_place geometry).
      (let r : R = inl (omega (arith, few, p.sectors)) in r))
      (λ rest. ⊎_elim
      (λ (less : spare mid + b.sectors < geometry.area_sectors). in_area (inl less))
      (λ last. ⊎_elim
      (λ (none : mid.room ≡ 0). (let r : R = inr (inr (inl (omega (arith, none, p.room)))) in r))
      (λ (more : mid.faults < new.faults). in_area (inr more)) last) rest)
      (ends.cause is_err)

  -- they were pushed, and it was ended
  pub writes_ended : {T E F : Type 0} (new : Medium) (r : Result T E)
      → PushesNext {T = Unit {0}} {E = F} geometry image.bytes (Ok tt) a b old mid
      → EndsImage geometry r b mid new → WritesImage geometry image r old new
  writes_ended {F = F} new r pushes ends =
      let g = image.generation in
      let bytes = image.bytes in
      let place : ℕ = area_place geometry g in
      let count : ℕ = length bytes / 512 in
      let all : ℕ = rounded_up (length bytes) in
      let said : Result (Unit {0}) F = Ok tt in
      let same = pushes.same in
      let of_generation : b.generation ≡ g = same.generation ∙ starts.generation in
      let of_version : b.version ≡ image.version = same.version ∙ starts.version in
      let told : b.writing ≡ image.writing = same.writing ∙ starts.told in
      let nothing : written_length a ≡ 0 = let s = starts.sectors in let f = starts.filled in
      omega (arith, s, f) in
      let long : written_length b ≡ length bytes = omega (arith, pushes.longer, nothing) in
      let full : b.sectors ≡ count = let o = b.open in omega (arith, long, o) in
      let first = stored_first said pushes in
      let counts = first_counts said pushes in
      let fills = first.any_moment in
      let p = fills.passes in
      let few = unsynced_within (old.unsynced + min count geometry.area_sectors) old mid
      (omega arith) p.later counts in
      let given : IsGiven geometry mid b bytes =
      pushes.pushed [] (starts_given geometry old g image.version image.writing a starts) in
      let last : ℕ = all - count in
      let rest : stores b.writing (area_place geometry b.generation + b.sectors)
      (rounded_up (written_length b) - b.sectors) ≡ stores image.writing (place + 0 + count) last =
      rw (of_generation, told, long, full)
      (let e : place + count ≡ place + 0 + count = omega arith in
      ap (λ k. stores image.writing k last) e) in
      let joined : stores image.writing (place + 0) (count + last)
      ≡ stores image.writing place all =
      same_stores image.writing image.writing place (place + 0) all (count + last) refl
      (omega arith) (omega arith) in
      let made = first.calls in
      record {
        any_moment =
            let two = subst (λ n. LeavesOnly mid new
            (After (Commits geometry n b.version bytes) mid.crash_images)) of_generation
            (ends.any_moment bytes given) in
            committed geometry g image.version bytes old mid new fills
            (subst (λ v. LeavesOnly mid new (After (Commits geometry g v bytes) mid.crash_images))
            of_version two);
        done = on_ok_weaker r
            (λ (done : (bytes : List ℕ) → IsGiven geometry mid b bytes → Follows
            (Replaces geometry b.generation b.version bytes) mid.crash_images new.crash_images).
            let two = subst (λ n. Follows (Replaces geometry n b.version bytes) mid.crash_images
            new.crash_images) of_generation (done bytes given) in
            committed_whole geometry g image.version bytes old mid new fills
            (subst (λ v. Follows (Replaces geometry g v bytes) mid.crash_images new.crash_images)
            of_version two)) ends.done;
        all_synced = ends.all_synced;
        counts = counts_then (old.unsynced + min count geometry.area_sectors) (mid.unsynced + 1)
            (old.unsynced + min count geometry.area_sectors + 1) old mid new (omega arith)
            (omega (arith, few)) p.later counts ends.counts;
        spared = λ is. on_ok_weaker r
            (λ (two : SparesAllButHead (area_place geometry b.generation) b.sectors
            (rounded_up (written_length b)) mid new).
            let one = subst (λ n. SparesSectors place 0 n old mid)
            (let e : 0 + count ≡ count = omega arith in e) (first.spared is) in
            let second = subst (λ n. SparesAllButHead (area_place geometry n) b.sectors
            (rounded_up (written_length b)) mid new) of_generation two in
            let third = subst (λ n. SparesAllButHead place n (rounded_up (written_length b)) mid
            new) full second in
            spares_all_but_head place 0 count all old mid new (omega arith) (omega arith) p.later
            one (subst (λ n. SparesAllButHead place count (rounded_up n) mid new) long third))
            (ends.spared (told ∙ is));
        calls = head_at g g r old new joined refl
            (head_then image.writing (place + 0) count last old mid new
            (made.0, made.1, made.2.all) g r
            (head_at g b.generation r mid new rest of_generation ends.calls));
        asks = let asked = first.asks in omega (arith, asked, ends.asks);
      }
