-- What a saved copy stands for.
use Rattle.std.proofs.Common.{◌≡◌, ◌≢◌, ◌∙◌, ◌⊎◌, refl, sym, ap, subst, ℕ, ◌≤◌, List, length}
use Rattle.std.proofs.Common.{take, OnOk, IfErr, Result, Ok, Err, inl, inr, ⊎_elim, arith}
use Rattle.std.proofs.lemmas.List.{take-take}
use Rattle.wasm_syntax.specs.declared.module.Module.{Module}
use Rattle.wasi_abi.specs.rules.Configs.{Settings}
use Rattle.process_rules.specs.Runs.{Kept}
use Rattle.sector_disk.specs.declared.copying.CopyFault.{CopyFault}
use Rattle.sector_disk.specs.declared.file.FileDisk.{FileDisk}
use Rattle.sector_disk.specs.rules.Copying.{IsCopied}
use Rattle.sector_disk.specs.rules.DiskImage.{DiskImage, zeros}
use Rattle.sector_disk.specs.rules.File.{file_medium}
use Rattle.sector_disk.specs.rules.Known.{KnownFiles, KnownHandles}
use Rattle.sector_disk.specs.rules.Medium.{LeavesOnly, Medium}
use Rattle.sector_disk.specs.rules.Open.{IsMadeAt}
use Rattle.sector_disk.proofs.Moments.{leaves_weaker, stays_shows}
use Rattle.disk_layout.specs.declared.geometry.Geometry.{Geometry}
use Rattle.disk_layout.specs.declared.reading.contents.Contents.{Contents}
use Rattle.disk_layout.specs.rules.Places.{geometry_of, total_sectors}
use Rattle.disk_layout.specs.rules.Sectors.{HasMarks}
use Rattle.worker.specs.laws.Copies.{StandForTheSame, StandsFor}
use Rattle.worker.proofs.CopyLemmas.{first_sectors_decide, opened_is_fresh, stands_by_its_contents}
use Rattle.worker.specs.declared.inspection.Inspection.{Inspection}
use Rattle.worker.specs.declared.recover_fault.RecoverFault.{RecoverFault}
use Rattle.worker.specs.rules.Inspections.{Inspects}
use Rattle.command_words.specs.rules.Printers.{IsSaid, PrinterState, Printers, printers}
use Rattle.command_words.specs.rules.Reports.{SaysLine}
use Rattle.command_words.specs.declared.status.Status.{Status}
use Rattle.command_words.specs.declared.status.Status.TheVariants as exit
use Rattle.disk_commands.specs.laws.Copied.{CopiesStandForTheSame, CopiesWhatStands}
use Rattle.disk_commands.specs.laws.Copied.{SavedFilesStandForTheSame, SavesWhatStands}
use Rattle.disk_commands.specs.rules.DiskStatuses.{opening_fault, status_on_disk}
use Rattle.disk_commands.specs.rules.Openings.{open_words, command_run}
use Rattle.disk_commands.specs.rules.SavedCopies.{IsSavedInFile, SavesCopy, SavesTold, SaysCopied}
use Rattle.disk_commands.specs.rules.SavedCopies.{uncopied_words}
use Rattle.disk_commands.proofs.WatchingLemmas.{undone_on_disk}

-- ---- statuses

-- whatever isn't done has a status of its own, or a write has failed
none_said : (told : Status) (old new : PrinterState) → told ≢ exit.Done
    → IsSaid told old exit.Done new → ⊥
none_said told old new other (inl said) = other (sym said.0)
none_said told old new other (inr failed) = let is = failed.0 in cc

no_line : (line : List ℕ) (old new : PrinterState) → SaysLine line exit.IoError old exit.Done new
    → ⊥
no_line line old new (inl said) = let is = said.0 in cc
no_line line old new (inr failed) = let is = failed.0 in cc

-- what holds after Ok, where that is done
if_done : (sectors : ℕ) (answer : Result (Unit {0}) CopyFault) (before after : Printers)
    (P : Type 0) → SaysCopied sectors answer before after exit.Done → OnOk answer P → P
if_done sectors (Ok done) before after P says on = on
if_done sectors (Err why) before after P says on =
    absurd (no_line (uncopied_words why) before.err after.err says.0)

-- ---- a copy

some_sectors : (g : Geometry) (sectors : ℕ) → total_sectors g ≤ sectors → 1 ≤ sectors
some_sectors g sectors all = omega (arith, all)

module _ (original original' copy copy' : Medium) (before after : Printers) (status : Status)
    (saves : SavesCopy original original' copy copy' before after status)
    (began : (image : DiskImage) → copy.crash_images image → image ≡ zeros copy.sectors)
    (shown : DiskImage) (shows : original'.shows shown) (m : Module) (config : Settings)
    (kept : List Kept) (n : ℕ) (stands : StandsFor shown m config kept n)
    (all : total_sectors (geometry_of config (length stands.wasm)) ≤ copy.sectors) where
  -- as many sectors as the copy has
  front_stands : (image : DiskImage) → image ≡ take copy.sectors shown
      → StandForTheSame shown image
  front_stands image is =
      let needed : ℕ = total_sectors (geometry_of config (length stands.wasm)) in
      first_sectors_decide shown image m config kept n stands
      (ap (λ (i : DiskImage). take needed i) is ∙ take-take needed copy.sectors shown all)

  leaves_front : LeavesOnly copy copy'
      (λ image. (HasMarks image → ⊥) ⊎ (image ≡ take copy.sectors shown))
  leaves_front = saves.any_moment shown shows
      (some_sectors (geometry_of config (length stands.wasm)) copy.sectors all) began

  same_when_done : status ≡ exit.Done → (image : DiskImage) → copy'.crash_images image
      → StandForTheSame shown image
  same_when_done done image crashed =
      let copied = if_done copy.sectors saves.answer before after (IsCopied original' copy')
      (subst (λ (s : Status). SaysCopied copy.sectors saves.answer before after s) done
      saves.says) saves.copied in
      let passes = leaves_front.passes in
      front_stands image (copied shown image shows crashed
      ∙ ap (λ (sectors : ℕ). take sectors shown) passes.sectors)

  pub copies_what_stands : CopiesWhatStands shown copy copy' status
  copies_what_stands = record {
    any_moment = leaves_weaker copy copy' _ _ leaves_front
        (λ image left. ⊎_elim (λ blank. inl blank) (λ whole. inr (front_stands image whole)) left);
    done = same_when_done;
  }

module _ {D C : Type 0} (disks : D → Medium) (copies : C → Medium) where
  pub copies_stand_for_the_same : CopiesStandForTheSame disks copies
  copies_stand_for_the_same disk disk' copy copy' before after status saves began shown shows
      m config kept n stands all =
      copies_what_stands (disks disk) (disks disk') (copies copy) (copies copy') before after
      status saves began shown shows m config kept n stands all

-- ---- a file

module _ {F : Type 0} (handles : KnownHandles F) (files : KnownFiles F) where
  -- a file that was just made has zeros
  began_as_zeros : (path : List ℕ) (sectors : ℕ) (copy : FileDisk F)
      → IsMadeAt handles files path sectors copy → (image : DiskImage)
      → (file_medium copy).crash_images image → image ≡ zeros (file_medium copy).sectors
  began_as_zeros path sectors copy made image crashed =
      let fresh = opened_is_fresh (zeros sectors) copy
      (record { first = made.first; untouched = made.untouched }) in
      let only = fresh.only crashed.0 image crashed.1 in
      only.1 ∙ ap (λ (count : ℕ). zeros count) (sym made.sectors)

-- the sectors of a disk that was looked into are those of the worker that it stands for
told_sectors : (told : Inspection) (opened read : Medium) → Inspects (Ok told) opened read
    → (shown : DiskImage) → read.shows shown → (m : Module) (config : Settings) (kept : List Kept)
    (n : ℕ) (stands : StandsFor shown m config kept n)
    → total_sectors told.contents.geometry
    ≡ total_sectors (geometry_of config (length stands.wasm))
told_sectors told opened read (inl fails) shown shows m config kept n stands =
    absurd (subst (λ (r : Result Inspection RecoverFault). IfErr r (λ why. ⊥)) fails.is tt)
told_sectors told opened read (inr looks) shown shows m config kept n stands =
    let found = looks.2 shown shows in
    let held = found.0 in
    let is = found.1 in
    let contents = stands_by_its_contents shown m config kept n held.holds.contents stands
    held.holds.whole.0 in
    ap (λ (c : Contents). total_sectors c.geometry) is.contents
    ∙ ap (λ (g : Geometry). total_sectors g) contents.2

enough : (told needed sectors : ℕ) → told ≡ needed → sectors ≡ told → needed ≤ sectors
enough told needed sectors one two = omega (arith, one, two)

module _ {D F : Type 0} (medium : D → Medium) (handles : KnownHandles F) (files : KnownFiles F)
    (path : List ℕ) (before after : Printers) where
  saved_in : (told : Inspection) (opened read disk' : D)
      → Inspects (Ok told) (medium opened) (medium read)
      → IsSavedInFile handles files path (total_sectors told.contents.geometry) (medium read)
      (medium disk') (command_run before after exit.Done)
      → SavesWhatStands handles files path medium disk'
  saved_in told opened read disk' looks saved =
      let sectors : ℕ = total_sectors told.contents.geometry in
      record {
        sectors = sectors;
        copy = saved.copy;
        copy' = saved.copy';
        made = saved.made;
        closed = saved.closed;
        kept = (saved.ends.keeps refl).2;
        copies = λ shown shows m config answers n stands.
            let read_so = stays_shows (medium read) (medium disk') saved.saves.only_read.stays shown
            shows in
            let same = told_sectors told (medium opened) (medium read) looks shown read_so m config
            answers n stands in
            copies_what_stands (medium read) (medium disk') (file_medium saved.copy)
            (file_medium saved.copy') before (printers after.out saved.told) exit.Done
            (subst (λ s. SavesCopy (medium read) (medium disk') (file_medium saved.copy)
            (file_medium saved.copy') before (printers after.out saved.told) s)
            (saved.ends.keeps refl).0 saved.saves)
            (began_as_zeros handles files path sectors saved.copy saved.made) shown shows m config
            answers n stands
            (enough sectors (total_sectors (geometry_of config (length stands.wasm)))
            (file_medium saved.copy).sectors same saved.made.sectors);
      }

  saved_told : (answer : Result Inspection RecoverFault) (opened read disk' : D)
      → Inspects answer (medium opened) (medium read)
      → SavesTold handles files path medium answer read disk' (command_run before after exit.Done)
      → SavesWhatStands handles files path medium disk'
  saved_told (Ok told) opened read disk' looks (inl unmade) =
      absurd (no_line (open_words path unmade.0) before.err after.err unmade.3)
  saved_told (Ok told) opened read disk' looks (inr saved) =
      saved_in told opened read disk' looks saved
  saved_told (Err why) opened read disk' looks refused =
      absurd (none_said (status_on_disk (opening_fault why)) before.err after.err
      (undone_on_disk (opening_fault why)) refused.1.0)

module _ {D F : Type 0} (medium : D → Medium) where
  pub saved_files_stand_for_the_same : SavedFilesStandForTheSame medium F
  saved_files_stand_for_the_same handles files path disk disk' before after saves =
      saved_told medium handles files path before after saves.0 disk saves.1 disk' saves.2
      saves.3
