-- Where the first sector of a journal shows a later generation.
use Rattle.std.proofs.Common.{◌≡◌, ℕ, ◌+◌, ◌<◌, ◌≤◌, Bool, true, List, [], length, sym, ap}
use Rattle.std.proofs.Common.{◌∙◌, subst, ⊎_elim, arith, add-zero}
use Rattle.std.specs.Prelude.{IsTrue, ◌↔◌}
use Rattle.std.proofs.lemmas.Bool.{cases_lt}
use Rattle.sector_disk.specs.rules.DiskImage.{DiskImage, sector_at}
use Rattle.disk_layout.specs.rules.Places.{Geometry, journal_place}
use Rattle.disk_layout.specs.rules.Sectors.{shown_generation}
use Rattle.disk_layout.specs.rules.Journal.{is_of}
use Rattle.disk_layout.specs.Scanned.{payloads_from}
use Rattle.disk_layout.proofs.JournalLemmas.{is_of_means, is_of_other}
use Rattle.journal.proofs.PackedLemmas.{pay_off}
use Rattle.journal.specs.rules.Steps.{ShowsLater}

-- it holds no payloads of this one
pub none_of_it : (geometry : Geometry) (g : ℕ) (image : DiskImage) → ShowsLater geometry g image
    → payloads_from image g (journal_place geometry) 1 geometry.journal_sectors ≡ []
none_of_it geometry g image shows =
    let later = shows.later in
    pay_off image g (journal_place geometry) 1 geometry.journal_sectors
    (is_of_other g 1 (sector_at image (journal_place geometry)) (λ same. absurd (omega
    (arith, later, same))))

-- so there are none where some were read
pub some_are_read : (geometry : Geometry) (g : ℕ) (image : DiskImage) (bytes : List ℕ)
    → payloads_from image g (journal_place geometry) 1 geometry.journal_sectors ≡ bytes
    → 0 < length bytes → ShowsLater geometry g image → ⊥
some_are_read geometry g image bytes are some shows =
    let none : length bytes ≡ 0 = ap length (sym are ∙ none_of_it geometry g image shows) in
    omega (arith, some, none)

-- the sectors before this one are of the generation
module _ (geometry : Geometry) (g at k : ℕ) (image : DiskImage)
    (placed : at ≡ journal_place geometry)
    (before : (i : ℕ) → i < k → is_of g (1 + i) (sector_at image (at + i)) ≡ true) where
  first_at : ShowsLater geometry g image → g < shown_generation 1 (sector_at image (at + 0))
  first_at shows =
      subst (λ n. g < shown_generation 1 (sector_at image n))
      (sym (add-zero at ∙ placed)) shows.later

  -- so the first one shows no later generation, if it is among them
  pub first_is_of_it : 0 < k → ShowsLater geometry g image → ⊥
  first_is_of_it some shows =
      let means = is_of_means g (1 + 0) (sector_at image (at + 0)) (before 0 some) in
      let same : shown_generation 1 (sector_at image (at + 0)) ≡ g = means.shows in
      let later = first_at shows in
      omega (arith, same, later)

  -- this one isn't
  pub ends_at_later : (sector : List ℕ) → sector_at image (at + k) ≡ sector
      → k < geometry.journal_sectors → (b : Bool)
      → (IsTrue b ↔ ((1 + k ≡ 1) × (g < shown_generation 1 sector)))
      → (IsTrue b ↔ ShowsLater geometry g image)
  ends_at_later sector here within b test = (
    λ yes.
        let means = test.0 yes in
        let first : k ≡ 0 = let e = means.0 in omega (arith, e) in
        let there : sector_at image (journal_place geometry) ≡ sector =
        ap (λ n. sector_at image n) (sym (ap (λ n. at + n) first ∙ add-zero at ∙ placed)) ∙ here in
        record {
          some = omega (arith, within, first);
          later = subst (λ (s : List ℕ). g < shown_generation 1 s) (sym there) means.1;
        },
    λ shows.
        ⊎_elim (λ (some : 0 < k). absurd (first_is_of_it some shows))
        (λ (none : k ≤ 0).
        let first : k ≡ 0 = omega (arith, none) in
        let there : sector_at image (at + 0) ≡ sector =
        ap (λ n. sector_at image (at + n)) (sym first) ∙ here in
        test.1 (
          omega (arith, first),
          subst (λ (s : List ℕ). g < shown_generation 1 s) there (first_at shows),
        ))
        (cases_lt 0 k),
  )
