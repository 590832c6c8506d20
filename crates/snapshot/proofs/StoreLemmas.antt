-- Calls on a disk that follow one another.
use Rattle.std.proofs.Common.{◌≡◌, ◌⊎◌, ℕ, List, [], sym, ap, ◌∙◌, inl, inr, ⊎_elim}
use Rattle.std.proofs.lemmas.List.{set-get_or}
use Rattle.sector_disk.specs.rules.DiskImage.{DiskImage, with_sector, IsTorn, IsWritten}
use Rattle.sector_disk.specs.rules.Medium.{Medium, Tears, After, Follows, BothFollow, Passes}
use Rattle.sector_disk.specs.rules.Medium.{LeavesOnly, Stays, IsAllSynced, Holds}
use Rattle.sector_disk.proofs.Moments.{goes_on, weaker, leaves_only, stays_leaves_only, torn_none}
use Rattle.sector_disk.proofs.Moments.{shows_follow, stays_crashed, stays_shows, crashed_follow}
use Rattle.sector_disk.proofs.Moments.{synced_only, leaves_weaker}

-- one run of calls, and then another
pub leaves_then : (old mid new : Medium) (P Q R : DiskImage → Type 0) → LeavesOnly old mid P
    → LeavesOnly mid new Q → ((image : DiskImage) → P image → R image)
    → ((image : DiskImage) → Q image → R image) → ((image : DiskImage)
    → old.crash_images image → R image) → LeavesOnly old new R
leaves_then old mid new P Q R one two from_one from_two from_old =
    leaves_only old new R
    (goes_on old mid new R Q (weaker old mid P R one.passes from_one) two.passes from_two)
    from_old

-- what a cut may leave at the end is one of what it leaves at some moment
pub leaves_now : (old new : Medium) (P : DiskImage → Type 0) → LeavesOnly old new P
    → (image : DiskImage) → new.crash_images image → P image
leaves_now old new P one image crashed = let p = one.passes in
    one.each image (new.counts_now old.moment image p.later crashed)

-- a sector that has the bytes already, as if it were written
pub as_written : (old new : Medium) (k : ℕ) (bytes : List ℕ) → Stays old new → Holds new k bytes
    → BothFollow (IsWritten k bytes) (IsTorn k bytes) old new
as_written old new k bytes stays holds = λ shown image both.
    let shows = new.of_pair shown image both in
    let at = holds shown shows.0 in (
      shown,
      image,
      stays.crash_pairs shown image both,
      sym (ap (λ (l : List ℕ). with_sector shown k l) (sym at)
          ∙ set-get_or shown k (let none : List ℕ = [] in none)),
      torn_none 512 k bytes image,
    )

-- a call that stays, and then a step
pub stays_both : (old mid new : Medium) (one other : DiskImage → DiskImage → Type 0) → Stays old mid
    → BothFollow one other mid new → BothFollow one other old new
stays_both old mid new one other stays both = λ shown image may.
    let was = both shown image may in
    (was.0, was.1, stays.crash_pairs was.0 was.1 was.2, was.3, was.4)

-- ---- a sector that is read, and perhaps written

module _ (k : ℕ) (bytes : List ℕ) (old mid : Medium) (stays : Stays old mid)
    (passes : Passes old mid mid.crash_images) where
  pub read_leaves : LeavesOnly old mid (After (IsTorn k bytes) old.crash_images)
  read_leaves =
      leaves_weaker old mid old.crash_images (After (IsTorn k bytes) old.crash_images)
      (stays_leaves_only old mid stays passes) (λ image crashed. (
        image,
        crashed,
        torn_none 512 k bytes image,
      ))

  pub write_leaves : (new : Medium) → Tears k bytes mid new → Passes mid new new.crash_images
      → LeavesOnly old new (After (IsTorn k bytes) old.crash_images)
  write_leaves new tears more =
      leaves_only old new (After (IsTorn k bytes) old.crash_images)
      (goes_on old mid new (After (IsTorn k bytes) old.crash_images) new.crash_images
      (let r = read_leaves
      in r.passes) more
      (λ image crashed. let was = crashed_follow mid new _ _ tears.both image crashed in
      (was.0, stays_crashed old mid stays was.0 was.1, was.2)))
      (λ image crashed. (image, crashed, torn_none 512 k bytes image))

  pub held_before : (new : Medium) (into : List ℕ) → Holds mid k into → Tears k bytes mid new
      → (image : DiskImage) → new.shows image → Holds old k bytes → into ≡ bytes
  held_before new into holds tears image shows was-bytes =
      let was = shows_follow mid new _ _ tears.both image shows in
      sym (holds was.0 was.1) ∙ was-bytes was.0 (stays_shows old mid stays was.0 was.1)

-- a sector that is written
pub write_only : (k : ℕ) (bytes : List ℕ) (old new : Medium) → Tears k bytes old new
    → Passes old new new.crash_images → LeavesOnly old new (After (IsTorn k bytes) old.crash_images)
write_only k bytes old new tears passes =
    leaves_only old new (After (IsTorn k bytes) old.crash_images)
    (weaker old new new.crash_images (After (IsTorn k bytes) old.crash_images) passes
    (λ image crashed. crashed_follow old new _ _ tears.both image crashed))
    (λ image crashed. (image, crashed, torn_none 512 k bytes image))

-- ---- a sector that is written on a synced disk, and then a sync

module _ (k : ℕ) (bytes : List ℕ) (old new : Medium) (all_synced : IsAllSynced old)
    (tears : Tears k bytes old new) (passes : Passes old new new.crash_images) where
  torn_shown : (image : DiskImage) → new.crash_images image → old.crash_images image
      ⊎ After (IsTorn k bytes) old.shows image
  torn_shown image crashed =
      let was = crashed_follow old new _ _ tears.both image crashed in
      inr (was.0, synced_only old all_synced was.0 was.1, was.2)

  pub write_on_synced : LeavesOnly old new (λ image. old.crash_images image
      ⊎ After (IsTorn k bytes) old.shows image)
  write_on_synced =
      leaves_only old new (λ image. old.crash_images image ⊎ After (IsTorn k bytes) old.shows image)
      (weaker old new new.crash_images (λ image. old.crash_images image
      ⊎ After (IsTorn k bytes) old.shows image) passes torn_shown) (λ image crashed. inl crashed)

  pub write_then_sync : (last : Medium) → Stays new last → Passes new last last.crash_images
      → LeavesOnly old last (λ image. old.crash_images image
      ⊎ After (IsTorn k bytes) old.shows image)
  write_then_sync last stays more =
      leaves_only old last (λ image. old.crash_images image
      ⊎ After (IsTorn k bytes) old.shows image) (goes_on old new last
      (λ image. old.crash_images image ⊎ After (IsTorn k bytes) old.shows image) last.crash_images
      (let s = write_on_synced in s.passes) more (λ image crashed. torn_shown image
      (stays_crashed new last stays image crashed))) (λ image crashed. inl crashed)

  pub written_crashed : (last : Medium) → BothFollow (IsWritten k bytes) (IsTorn k bytes) old new
      → Stays new last → IsAllSynced last → Follows (IsWritten k bytes) old.shows last.crash_images
  written_crashed last whole stays done =
      λ image crashed. shows_follow old new _ _ whole image (stays_shows new last stays image
      (synced_only last done image crashed))

-- ---- a sync before that

module _ (k : ℕ) (bytes : List ℕ) (old mid : Medium) (stays : Stays old mid)
    (passes : Passes old mid mid.crash_images) where
  pub sync_leaves : LeavesOnly old mid (λ image. old.crash_images image
      ⊎ After (IsTorn k bytes) old.shows image)
  sync_leaves = leaves_weaker old mid old.crash_images (λ image. old.crash_images image
      ⊎ After (IsTorn k bytes) old.shows image) (stays_leaves_only old mid stays passes)
      (λ image crashed. inl crashed)

  pub sync_then : (new : Medium) → LeavesOnly mid new (λ image. mid.crash_images image
      ⊎ After (IsTorn k bytes) mid.shows image) → LeavesOnly old new
      (λ image. old.crash_images image ⊎ After (IsTorn k bytes) old.shows image)
  sync_then new one =
      leaves_then old mid new old.crash_images (λ image. mid.crash_images image
      ⊎ After (IsTorn k bytes) mid.shows image) (λ image. old.crash_images image
      ⊎ After (IsTorn k bytes) old.shows image)
      (stays_leaves_only old mid stays passes) one (λ image crashed. inl crashed)
      (λ image q. ⊎_elim (λ crashed. inl (stays_crashed old mid stays image crashed)) (λ a. inr (
        a.0,
        stays_shows old mid stays a.0 a.1,
        a.2,
      )) q)
      (λ image crashed. inl crashed)

  pub written_since : (new : Medium) → Follows (IsWritten k bytes) mid.shows new.crash_images
      → Follows (IsWritten k bytes) old.shows new.crash_images
  written_since new whole = λ image crashed. let a = whole image crashed in
      (a.0, stays_shows old mid stays a.0 a.1, a.2)
