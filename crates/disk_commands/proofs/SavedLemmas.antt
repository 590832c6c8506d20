-- A copy that is cut off has no super.
use Rattle.std.proofs.Common.{◌≡◌, ◌∙◌, refl, sym, ap, ℕ, ◌+◌, ◌-◌, ◌<◌, ◌≤◌, List, [], length}
use Rattle.std.proofs.Common.{take, drop, replicate, ⊎_elim, inl, inr, arith}
use Rattle.std.specs.Prelude.{slice_index_or}
use Rattle.std.proofs.lemmas.List.{get_or-append_right, get_or-drop, get_or-replicate, get_or-take}
use Rattle.std.proofs.lemmas.List.{get_or_past, length-replicate, length-take}
use Rattle.std.proofs.lemmas.Bool.{cases_lt}
use Rattle.sector_disk.specs.rules.Copying.{HasFrontOnly, LeavesFrontOrCopy, sector_of_zeros}
use Rattle.sector_disk.specs.rules.DiskImage.{DiskImage, front_over, sector_at, zeros}
use Rattle.sector_disk.specs.rules.Medium.{Medium}
use Rattle.sector_disk.specs.declared.sector.TheConstants.{SECTOR_SIZE}
use Rattle.sector_disk.proofs.Moments.{leaves_weaker}
use Rattle.disk_layout.specs.declared.superblock.TheConstants.{END_MARK_AT, SUPER_END_MARK}
use Rattle.disk_layout.specs.rules.Sectors.{HasMarks}
use Rattle.disk_commands.specs.rules.SavedCopies.{LeavesNoneOrCopy}

-- each byte of zeros is zero, and so is what is read past them
zero_at : (n i : ℕ) → ◌≡◌ {A = ℕ} (slice_index_or (replicate {A = ℕ} n 0) i 0) 0
zero_at n i = ⊎_elim (λ (lt : i < n). get_or-replicate n i 0 0 lt)
    (λ (le : n ≤ i). get_or_past (replicate {A = ℕ} n 0) i 0
    (let long = length-replicate {A = ℕ} n 0 in omega (arith, long, le))) (cases_lt i n)

-- the last byte of a sector that has no more than a front
last_is_zero : (front : ℕ) (bytes : List ℕ) → front < SECTOR_SIZE
    → slice_index_or (front_over front bytes sector_of_zeros) (504 + 7) 0 ≡ 0
last_is_zero front bytes less =
    let long = length-take front bytes in
    get_or-append_right (take front bytes) (drop front sector_of_zeros) (length (take front bytes))
    (504 + 7) 0 refl (omega (arith, long, less))
    ∙ get_or-drop front sector_of_zeros (504 + 7 - length (take front bytes)) 0
    ∙ zero_at SECTOR_SIZE (front + (504 + 7 - length (take front bytes)))

-- so the mark at its end is missing
pub front_unmarked : (shown image : DiskImage) → HasFrontOnly shown image → HasMarks image → ⊥
front_unmarked shown image part marks =
    let last : slice_index_or (sector_at image 0) (504 + 7) 0 ≡ 0 =
    ap (λ (l : List ℕ). slice_index_or l (504 + 7) 0) part.is
    ∙ last_is_zero part.front (sector_at shown 0) part.less in
    let mark : slice_index_or SUPER_END_MARK 7 0 ≡ 0 =
    ap (λ (l : List ℕ). slice_index_or l 7 0) (sym marks.last)
    ∙ get_or-take 8 (drop END_MARK_AT (sector_at image 0)) 7 0 (omega arith)
    ∙ get_or-drop END_MARK_AT (sector_at image 0) 7 0 ∙ last in
    omega (arith, mark)

-- a disk of zeros has a first sector of zeros, if it has one
zero_first : (n : ℕ) → 1 ≤ n → sector_at (zeros n) 0 ≡ sector_of_zeros
zero_first n some = get_or-replicate n 0 (replicate SECTOR_SIZE 0) [] some

-- a copy that began as zeros
pub none_or_copy : (original old new : Medium) → LeavesFrontOrCopy original old new
    → LeavesNoneOrCopy original old new
none_or_copy original old new leaves shown shows some began =
    leaves_weaker old new _ _ (leaves shown shows (λ image crashed.
    ap (λ (i : DiskImage). sector_at i 0) (began image crashed) ∙ zero_first old.sectors some))
    (λ image left. ⊎_elim (λ part. inl (front_unmarked shown image part)) (λ whole. inr whole)
    left)
