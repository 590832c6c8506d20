-- Sectors that are written back as they were read.
use Rattle.std.proofs.Common.{◌≡◌, ◌∙◌, sym, ap, subst, ℕ, List}
use Rattle.sector_disk.specs.rules.DiskImage.{DiskImage, with_front, sector_at}
use Rattle.sector_disk.specs.rules.Medium.{Medium, Holds, Tears, Passes, LeavesOnly}
use Rattle.sector_disk.specs.rules.Rewrite.{AddsNothing}
use Rattle.sector_disk.specs.laws.Fronts.{with_front_self}
use Rattle.sector_disk.proofs.Moments.{goes_on, leaves_only}

-- a write of what reads give of the sector
pub held_adds : (k : ℕ) (bytes : List ℕ) (mid new : Medium) → Holds mid k bytes
    → Tears k bytes mid new → AddsNothing mid new
held_adds k bytes mid new holds tears shown image now =
    let was = tears.both shown image now in
    let before = mid.of_pair was.0 was.1 was.2 in
    let own : bytes ≡ sector_at was.0 k = sym (holds was.0 before.0) in
    let on_shown = was.3 in
    let on_crashed = was.4 in
    let same : shown ≡ was.0 =
    on_shown.is ∙ ap (λ (l : List ℕ). with_front was.0 k on_shown.front l) own
    ∙ with_front_self was.0 k on_shown.front in
    let crashed : image ≡ with_front was.1 k on_crashed.front (sector_at was.0 k) =
    on_crashed.is ∙ ap (λ (l : List ℕ). with_front was.1 k on_crashed.front l) own in
    subst (λ (i : DiskImage). mid.crash_pairs i image) (sym same)
    (subst (λ (i : DiskImage). mid.crash_pairs was.0 i) (sym crashed)
    (mid.may_keep was.0 was.1 was.2 k on_crashed.front on_crashed.within))

pub adds_then : (old mid new : Medium) → AddsNothing old mid → AddsNothing mid new
    → AddsNothing old new
adds_then old mid new one two shown image now = one shown image (two shown image now)

pub adds_crashed : (old new : Medium) → AddsNothing old new → (image : DiskImage)
    → new.crash_images image → old.crash_images image
adds_crashed old new adds image crashed =
    let both = new.of_crash image crashed in
    let was = old.of_pair both.0 image (adds both.0 image both.1) in
    was.1

-- a step that adds nothing, and one more, whose cuts leave no more than before it or after it
pub adds_passes : (old mid new : Medium) → AddsNothing old mid → AddsNothing mid new
    → Passes old mid old.crash_images → Passes mid new new.crash_images
    → Passes old new old.crash_images
adds_passes old mid new one two so_far more =
    goes_on old mid new _ _ so_far more (adds_crashed old new (adds_then old mid new one two))

pub adds_leaves : (old new : Medium) → Passes old new old.crash_images
    → LeavesOnly old new old.crash_images
adds_leaves old new passes = leaves_only old new old.crash_images passes (λ image crashed. crashed)

-- the same of a step that is known to leave no more than before it
pub adds_on : (old mid new : Medium) → AddsNothing old mid → Passes old mid old.crash_images
    → Passes mid new mid.crash_images → Passes old new old.crash_images
adds_on old mid new adds so_far more = goes_on old mid new _ _ so_far more
    (adds_crashed old mid adds)
