-- What the next life finds, and that lives go on.
use Rattle.std.proofs.Common.{◌≡◌, ◌⊎◌, inl, inr, ℕ, [], ◌∷◌, refl, sym, ap, subst}
use Rattle.sector_disk.specs.rules.DiskImage.{DiskImage}
use Rattle.sector_disk.specs.rules.Medium.{Medium}
use Rattle.worker_store.specs.restart_theorem.Lives.{Finished, Stopped, Failed}
use Rattle.worker_store.specs.restart_theorem.Promises.{nothing_yet, promised_by}
use Rattle.worker_store.specs.restart_theorem.Holds.{IsBounded}
use Rattle.worker_store.specs.restart_theorem.Between.{IsFoundAfterCut, IsCutOrKilled, more}
use Rattle.worker_store.specs.restart_theorem.laws.Found.{FoundWasCrashImage, FoundIsAsLong}
use Rattle.worker_store.specs.restart_theorem.laws.Found.{IsSyncedAfterCut, IsAsItWas}
use Rattle.worker_store.specs.restart_theorem.laws.Found.{FoundSyncedOrSame, NoWorkerComes}
use Rattle.worker_store.specs.restart_theorem.laws.Found.{NextLifeFindsIt, NextLifeIsWithin}
use Rattle.worker_store.specs.restart_theorem.laws.Found.{LivesGoOn, PromisedLivesGoOn}
use Rattle.worker_store.proofs.RestartLemmas.Disks.{blank_is_within}

cut_was_crash_image : (last found : Medium) (image : DiskImage) → IsFoundAfterCut last found
    → found.crash_images image → last.crash_images image
cut_was_crash_image last found image cut leaves =
    let both = found.of_crash image leaves in
    subst last.crash_images (sym (cut.fresh.only both.0 image both.1).1) cut.was

cut_is_synced : (last found : Medium) → IsFoundAfterCut last found → IsSyncedAfterCut last found
cut_is_synced last found cut = (
  (λ image shows.
      let both = found.of_shows image shows in
      subst last.crash_images (sym (cut.fresh.only image both.0 both.1).0) cut.was),
  cut.fresh.unsynced,
)

module _ {D : Type 0} (medium : D → Medium) where
  same_was_crash_image : (last found : D) (image : DiskImage) → found ≡ last
      → (medium found).crash_images image → (medium last).crash_images image
  same_was_crash_image last found image same leaves =
      subst (λ (d : D). (medium d).crash_images image) same leaves

  either_was_crash_image : (last found : D) (image : DiskImage) → IsCutOrKilled medium last found
      → (medium found).crash_images image → (medium last).crash_images image
  either_was_crash_image last found image (inl cut) leaves =
      cut_was_crash_image (medium last) (medium found) image cut leaves
  either_was_crash_image last found image (inr same) leaves =
      same_was_crash_image last found image same leaves

  pub found_was_crash_image : FoundWasCrashImage medium
  found_was_crash_image Finished last found image finds leaves =
      either_was_crash_image last found image finds leaves
  found_was_crash_image Stopped last found image finds leaves =
      either_was_crash_image last found image finds leaves
  found_was_crash_image (Failed cause) last found image same leaves =
      same_was_crash_image last found image same leaves

  same_is_as_long : (last found : D) → found ≡ last
      → (medium found).sectors ≡ (medium last).sectors
  same_is_as_long last found same = ap (λ (d : D). (medium d).sectors) same

  either_is_as_long : (last found : D) → IsCutOrKilled medium last found
      → (medium found).sectors ≡ (medium last).sectors
  either_is_as_long last found (inl cut) = cut.sectors
  either_is_as_long last found (inr same) = same_is_as_long last found same

  pub found_is_as_long : FoundIsAsLong medium
  found_is_as_long Finished last found finds = either_is_as_long last found finds
  found_is_as_long Stopped last found finds = either_is_as_long last found finds
  found_is_as_long (Failed cause) last found same = same_is_as_long last found same

  same_is_as_it_was : (last found : D) → found ≡ last → IsAsItWas (medium last) (medium found)
  same_is_as_it_was last found same = (
    ap (λ (d : D). (medium d).unsynced) same,
    (λ image shows. subst (λ (d : D). (medium d).shows image) (sym same) shows),
  )

  either_synced_or_same : (last found : D) → IsCutOrKilled medium last found
      → IsSyncedAfterCut (medium last) (medium found) ⊎ IsAsItWas (medium last) (medium found)
  either_synced_or_same last found (inl cut) =
      inl (cut_is_synced (medium last) (medium found) cut)
  either_synced_or_same last found (inr same) = inr (same_is_as_it_was last found same)

  pub found_synced_or_same : FoundSyncedOrSame medium
  found_synced_or_same Finished last found finds = either_synced_or_same last found finds
  found_synced_or_same Stopped last found finds = either_synced_or_same last found finds
  found_synced_or_same (Failed cause) last found same = same_is_as_it_was last found same

  pub no_worker_comes : NoWorkerComes medium
  no_worker_comes ends last found blank finds image leaves =
      blank image (found_was_crash_image ends last found image finds leaves)

  pub next_life_finds_it : NextLifeFindsIt medium
  next_life_finds_it m config promise ends last found keeps finds image leaves =
      keeps image (found_was_crash_image ends last found image finds leaves)

  pub next_life_is_within : NextLifeIsWithin medium
  next_life_is_within latest ends last found keeps finds image leaves =
      subst (λ (sectors : ℕ). IsBounded latest sectors image)
      (sym (found_is_as_long ends last found finds))
      (keeps image (found_was_crash_image ends last found image finds leaves))

  pub lives_on : PromisedLivesGoOn medium
  lives_on m config so_far [] [] disk keeps within lived = tt
  lives_on m config so_far [] (life ∷ lives) disk keeps within lived = elim lived [ ]
  lives_on m config so_far (inputs ∷ others) [] disk keeps within lived = elim lived [ ]
  lives_on m config so_far (inputs ∷ others) (life ∷ lives) disk keeps within
      (more {last = last} {next = next} lived finds rest) =
      let all = lived keeps within in
      let found = next_life_finds_it m config (promised_by so_far life) life.ends last next
      all.1 finds in
      let bounded = next_life_is_within (promised_by so_far life).events life.ends last next
      all.2 finds in
      (all.0, lives_on m config (promised_by so_far life) others lives next found bounded rest)

  pub lives_go_on : LivesGoOn medium
  lives_go_on m config inputs lives disk blank lived =
      lives_on m config nothing_yet inputs lives disk
      (λ image leaves. inl (refl, blank image leaves))
      (λ image leaves. blank_is_within image 0 (medium disk).sectors (blank image leaves)) lived
