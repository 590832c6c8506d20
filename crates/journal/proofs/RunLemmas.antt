-- What a journal's sectors hold after a run of packed sectors, torn or whole.
use Rattle.std.proofs.Common.{◌≡◌, ◌⊎◌, ℕ, ◌+◌, ◌-◌, ◌*◌, ◌^◌, ◌<◌, ◌≤◌, true, List, ◌++◌, length}
use Rattle.std.proofs.Common.{take, drop, sym, ap, ◌∙◌, subst, inl, ⊎_elim, arith, length-drop}
use Rattle.std.proofs.lemmas.Bool.{cases_lt}
use Rattle.std.proofs.lemmas.List.{length-take-le, take_all}
use Rattle.guest_memory.specs.rules.Bytes.{part}
use Rattle.sector_disk.specs.rules.DiskImage.{DiskImage, sector_at, front_over}
use Rattle.sector_disk.specs.rules.Run.{IsTornRun}
use Rattle.disk_layout.specs.rules.Places.{Geometry, journal_place}
use Rattle.disk_layout.specs.rules.Sectors.{shown_generation}
use Rattle.disk_layout.specs.rules.Journal.{journal_sector, is_of, payload_of_sector}
use Rattle.disk_layout.specs.Scanned.{payloads_from}
use Rattle.disk_layout.proofs.JournalLemmas.{IsUsedSector, is_of_true, is_of_means, IsNewSector}
use Rattle.disk_layout.proofs.JournalLemmas.{torn_sector, new_is_of, payload-journal_sector}
use Rattle.journal.specs.rules.Packed.{packed, sectors_for}
use Rattle.journal.specs.rules.Steps.{HoldsBytes, ShowsNoneAfter, SameOthers}
use Rattle.journal.proofs.HeldLemmas.{IsClean, held_payloads}
use Rattle.journal.proofs.PackedLemmas.{packed_at, payloads_joined, payloads_split, payloads_same}
use Rattle.journal.proofs.PackedLemmas.{torn_front, whole_run}

-- sectors that are written, or to come
pub none_after : (geometry : Geometry) (g used : ℕ) (bytes : List ℕ) (image : DiskImage)
    → HoldsBytes geometry g used bytes image → IsClean geometry g used image
    → ShowsNoneAfter geometry g image
none_after geometry g used bytes image holds clean k lt =
    ⊎_elim
    (λ (written : k < used). let is = is_of_means g (1 + k) (sector_at image (journal_place geometry
    + k)) (holds.written k written) in let s = is.shows in omega arith)
    (λ (later : used ≤ k). let c = clean k later lt in omega arith)
    (cases_lt k used)

-- a run of packed sectors after those that are written
pub record IsRun (geometry : Geometry) (g used n : ℕ) (bytes kept : List ℕ)
    (old : DiskImage) : Type 0 where
  pub holds_bytes : HoldsBytes geometry g used bytes old
  pub clean : IsClean geometry g used old
  pub count : n ≡ sectors_for (length kept)
  pub room : used + n ≤ geometry.journal_sectors
  pub full : (k : ℕ) → k < geometry.journal_sectors
      → length (sector_at old (journal_place geometry + k)) ≡ 512
  pub generation : g < 2 ^ 64
  pub places : used + n + 1 < 2 ^ 64

module _ (geometry : Geometry) (g used n : ℕ) (bytes kept : List ℕ) (old new : DiskImage)
    (run : IsRun geometry g used n bytes kept old) where
  pub is_new : (i : ℕ) → i < n → IsNewSector g (used + 1 + i) (part kept (494 * i) 494)
  is_new i lt =
      let count = run.count in
      let inside : 494 * i < length kept = omega arith in
      let behind = length-drop (494 * i) kept in
      let places = run.places in
      ⊎_elim
      (λ (long : 494 < length (drop (494 * i) kept)).
      let l = length-take-le 494 (drop (494 * i) kept) (omega arith) in
      record {
        some = omega (arith, l);
        most = omega (arith, l);
        generation = run.generation;
        fits = omega (arith, places);
      })
      (λ (short : length (drop (494 * i) kept) ≤ 494).
      let l = ap length (take_all 494 (drop (494 * i) kept) short) in
      record {
        some = omega (arith, l, behind);
        most = omega (arith, l);
        generation = run.generation;
        fits = omega (arith, places);
      })
      (cases_lt 494 (length (drop (494 * i) kept)))

  module _ (torn : IsTornRun (journal_place geometry + used) (packed g (used + 1) n kept) n old new)
    where
      -- each sector after those that are written
      pub behind_at : (i : ℕ) → i < geometry.journal_sectors - used
          → (shown_generation (1 + used + i) (sector_at new (journal_place geometry + used + i))
          < g)
          ⊎ (IsUsedSector g (1 + used + i) (sector_at new (journal_place geometry + used + i))
          × (payload_of_sector (sector_at new (journal_place geometry + used + i))
          ≡ part kept (494 * i) 494))
      behind_at i lt =
          let at : journal_place geometry + used + i ≡ journal_place geometry + (used + i) =
          omega arith in
          let p : 1 + used + i ≡ 1 + (used + i) = omega arith in
          let clean = run.clean (used + i) (omega arith) (omega arith) in
          let was : shown_generation (1 + used + i) (sector_at old (journal_place geometry + used
          + i)) < g =
          subst (λ (k : ℕ). shown_generation k (sector_at old (journal_place geometry + used + i))
          < g) (sym p) (subst (λ (k : ℕ). shown_generation (1 + (used + i)) (sector_at old k)
          < g) (sym at) clean) in
          ⊎_elim
          (λ (made : i < n).
          let each = torn.each i made in
          let q : used + 1 + i ≡ 1 + used + i = omega arith in
          let is = subst (λ (k : ℕ). IsNewSector g k (part kept (494 * i) 494)) q (is_new i made) in
          let meant = packed_at g (used + 1) n kept i made
          ∙ ap (λ k. journal_sector g k (part kept (494 * i) 494)) q in
          let full = ap (λ k. length (sector_at old k)) at ∙ run.full (used + i) (omega arith) in
          torn_sector g (1 + used + i) each.0 (part kept (494 * i) 494)
          (sector_at old (journal_place geometry + used + i))
          (sector_at new (journal_place geometry + used + i)) is full was each.1
          (each.2 ∙ ap (λ s. front_over each.0 s (sector_at old (journal_place geometry + used
          + i)))
          meant))
          (λ (other : n ≤ i).
          let same = torn.above (journal_place geometry + used + i) (omega arith) in
          inl (subst (λ (s : List ℕ). shown_generation (1 + used + i) s < g) (sym same) was))
          (cases_lt i n)

      -- the sectors that are written are as they were
      written_same : (k : ℕ) → k < used
          → sector_at new (journal_place geometry + k) ≡ sector_at old (journal_place geometry + k)
      written_same k lt = torn.below (journal_place geometry + k) (omega arith)

      pub still_written : (k : ℕ) → k < used
          → is_of g (1 + k) (sector_at new (journal_place geometry + k)) ≡ true
      still_written k lt = let holds = run.holds_bytes in ap (λ s. is_of g (1 + k) s)
          (written_same k lt) ∙ holds.written k lt

      pub still_holds : payloads_from new g (journal_place geometry) 1 used ≡ bytes
      still_holds = payloads_same new old g (journal_place geometry) 1 used written_same
          ∙ held_payloads geometry g used bytes old run.holds_bytes

      -- a prefix of what was kept
      pub front_of_kept : (c : ℕ)
          × (payloads_from new g (journal_place geometry) 1 geometry.journal_sectors ≡ bytes
          ++ take c kept)
      front_of_kept =
          let holds = run.holds_bytes in
          let rest = geometry.journal_sectors - used in
          let count : geometry.journal_sectors ≡ used + rest = let w = holds.within in omega arith
          in
          let front = torn_front new g (journal_place geometry + used) (1
          + used) rest kept behind_at
          in (
            front.0,
            ap (λ k. payloads_from new g (journal_place geometry) 1 k) count
                ∙ payloads_split new g (journal_place geometry) 1 used rest still_written
                ∙ ap (λ l. l
                ++ payloads_from new g (journal_place geometry + used) (1 + used) rest)
                still_holds ∙ ap (λ l. bytes ++ l) front.1,
          )

      pub none_later : ShowsNoneAfter geometry g new
      none_later k lt =
          ⊎_elim
          (λ (written : k < used).
          let is = is_of_means g (1 + k) (sector_at new (journal_place geometry + k))
          (still_written k written) in let s = is.shows in omega arith)
          (λ (later : used ≤ k).
          let i = k - used in
          let at : journal_place geometry + used + i ≡ journal_place geometry + k = omega arith in
          let p : 1 + used + i ≡ 1 + k = omega arith in
          let less : shown_generation (1 + used + i) (sector_at new (journal_place geometry + used
          + i)) ≤ g =
          ⊎_elim (λ (earlier : shown_generation (1 + used + i)
          (sector_at new (journal_place geometry
          + used + i)) < g). omega arith) (λ meant. let is = meant.0 in let s = is.shows in
          omega arith) (behind_at i (omega arith)) in
          subst (λ (t : ℕ). shown_generation (1 + k) (sector_at new t)
          ≤ g) at (subst (λ (q : ℕ).
          shown_generation q (sector_at new (journal_place geometry + used + i)) ≤ g) p less))
          (cases_lt k used)

      pub others_same : SameOthers geometry used old new
      others_same = record {
        count = torn.count;
        below = λ k lt. torn.below k lt;
        above = λ k le. torn.above k (let r = run.room in omega arith);
      }

      -- where each is whole
      module _ (whole : (i : ℕ) → i < n
          → sector_at new (journal_place geometry + used + i)
          ≡ sector_at (packed g (used + 1) n kept) i) where
        pub whole_at : (i : ℕ) → i < n
            → IsUsedSector g (1 + used + i) (sector_at new (journal_place geometry + used + i))
            × (payload_of_sector (sector_at new (journal_place geometry + used + i))
            ≡ part kept (494 * i) 494)
        whole_at i lt =
            let q : used + 1 + i ≡ 1 + used + i = omega arith in
            let is = subst (λ (k : ℕ). IsNewSector g k (part kept (494 * i) 494)) q (is_new i lt) in
            let e = whole i lt ∙ packed_at g (used + 1) n kept i lt
            ∙ ap (λ k. journal_sector g k (part kept (494 * i) 494)) q in
            subst (λ (s : List ℕ). IsUsedSector g (1 + used + i) s
            × (payload_of_sector s ≡ part kept (494 * i) 494)) (sym e) (
              new_is_of g (1 + used + i) (part kept (494 * i) 494) is,
              payload-journal_sector g (1 + used + i) (part kept (494 * i) 494) is.most,
            )

        all_written : (k : ℕ) → k < used + n
            → is_of g (1 + k) (sector_at new (journal_place geometry + k)) ≡ true
        all_written k lt =
            ⊎_elim (λ (before : k < used). still_written k before)
            (λ (later : used ≤ k).
            let i = k - used in
            let at : journal_place geometry + used + i ≡ journal_place geometry + k =
            omega arith in
            let p : 1 + used + i ≡ 1 + k = omega arith in
            let here = whole_at i (omega arith) in
            ap (λ t. is_of g (1 + k) (sector_at new t)) (sym at)
            ∙ ap (λ q. is_of g q (sector_at new (journal_place geometry + used + i))) (sym p)
            ∙ is_of_true g (1 + used + i) (sector_at new (journal_place geometry + used + i))
            here.0)
            (cases_lt k used)

        pub holds_all : HoldsBytes geometry g (used + n) (bytes ++ kept) new
        holds_all =
            let count = run.count in
            record {
              within = run.room;
              written = all_written;
              joined = payloads_joined new g (journal_place geometry) 1 (used + n) all_written
                  ∙ payloads_split new g (journal_place geometry) 1 used n still_written
                  ∙ ap (λ l. l
                  ++ payloads_from new g (journal_place geometry + used) (1 + used) n) still_holds
                  ∙ ap (λ l. bytes
                  ++ l) (whole_run new g (journal_place geometry + used) (1 + used) n kept
                  (omega arith) whole_at);
            }

        pub still_clean : IsClean geometry g (used + n) new
        still_clean k le lt =
            let same = torn.above (journal_place geometry + k) (omega arith) in
            subst (λ (s : List ℕ). shown_generation (1 + k) s < g) (sym same)
            (run.clean k (omega arith) lt)
