-- What sectors of a journal hold, by the payloads that are read of them one after another.
use Rattle.std.proofs.Common.{◌≡◌, ℕ, zero, suc, ◌+◌, ◌<◌, ◌≤◌, Bool, true, false, List, ◌++◌}
use Rattle.std.proofs.Common.{[], length, take, refl, sym, ◌∙◌, subst, ⊎_elim, arith}
use Rattle.std.proofs.lemmas.Bool.{cases_lt}
use Rattle.std.proofs.lemmas.List.{append-nil}
use Rattle.wasi_abi.specs.declared.version.Version.{Version}
use Rattle.sector_disk.specs.rules.DiskImage.{DiskImage, sector_at}
use Rattle.disk_layout.specs.rules.Places.{Geometry, journal_place}
use Rattle.disk_layout.specs.rules.Sectors.{shown_generation}
use Rattle.disk_layout.specs.rules.Journal.{Record, is_of}
use Rattle.disk_layout.specs.Scanned.{payloads_from, scan}
use Rattle.disk_layout.proofs.JournalLemmas.{is_of_other}
use Rattle.journal.specs.rules.Steps.{HoldsBytes, JournalHolds, SpellsRecords}
use Rattle.journal.specs.rules.Steps.{AllRecordsFit, records_bytes}
use Rattle.journal.specs.laws.Laws.{FreshHoldsNone, HoldsWhatIsStored, HoldsNoneOfLater}
use Rattle.journal.specs.laws.Laws.{HoldsOneList, ScansWhatIsHeld}
use Rattle.journal.proofs.PackedLemmas.{payloads_joined, payloads_end, payloads_are_bytes}
use Rattle.journal.proofs.PackedLemmas.{payloads_same}
use Rattle.journal.proofs.SpelledLemmas.{front_spelled, records_spelled, spells_one, nothing_begins}

-- what is read of all sectors
abbrev pub payloads_of : Geometry → ℕ → DiskImage → List ℕ
payloads_of geometry g image =
    payloads_from image g (journal_place geometry) 1 geometry.journal_sectors

-- the sector after so many isn't of the generation
abbrev pub EndsAt : Geometry → ℕ → ℕ → DiskImage → Type 0
EndsAt geometry g used image = used < geometry.journal_sectors
    → is_of g (1 + used) (sector_at image (journal_place geometry + used)) ≡ false

-- each sector after so many shows an earlier generation
abbrev pub IsClean : Geometry → ℕ → ℕ → DiskImage → Type 0
IsClean geometry g used image = (k : ℕ) → used ≤ k → k < geometry.journal_sectors
    → shown_generation (1 + k) (sector_at image (journal_place geometry + k)) < g

pub ends_where_clean : (geometry : Geometry) (g used : ℕ) (image : DiskImage)
    → IsClean geometry g used image → EndsAt geometry g used image
ends_where_clean geometry g used image clean some =
    let earlier = clean used (omega arith) some in
    is_of_other g (1 + used) (sector_at image (journal_place geometry + used))
    (λ e. absurd (omega (arith, earlier, e)))

-- ---- bytes that are held

pub held_payloads : (geometry : Geometry) (g used : ℕ) (bytes : List ℕ) (image : DiskImage)
    → HoldsBytes geometry g used bytes image
    → payloads_from image g (journal_place geometry) 1 used ≡ bytes
held_payloads geometry g used bytes image holds =
    sym (payloads_joined image g (journal_place geometry) 1 used holds.written) ∙ holds.joined

-- all that is read is in the sectors before the first that isn't of the generation
pub all_bytes : (geometry : Geometry) (g used : ℕ) (bytes : List ℕ) (image : DiskImage)
    → HoldsBytes geometry g used bytes image → EndsAt geometry g used image
    → payloads_of geometry g image ≡ bytes
all_bytes geometry g used bytes image holds ends =
    payloads_end image g (journal_place geometry) 1 used geometry.journal_sectors holds.within
    holds.written ends ∙ held_payloads geometry g used bytes image holds

-- how many of so many sectors are of the generation, and the first that isn't
record FrontIsOf (image : DiskImage) (g s p m : ℕ) : Type 0 where
  count : ℕ
  within : count ≤ m
  on : (k : ℕ) → k < count → is_of g (p + k) (sector_at image (s + k)) ≡ true
  off : count < m → is_of g (p + count) (sector_at image (s + count)) ≡ false

front_of : (image : DiskImage) (g s p m : ℕ) → FrontIsOf image g s p m
front_of image g s p zero = record {
  count = 0;
  within = omega arith;
  on = λ k lt. absurd (omega (arith, lt));
  off = λ lt. absurd (omega (arith, lt));
}
front_of image g s p (suc m) =
    next (front_of image g s p m) (is_of g (p + m) (sector_at image (s + m))) refl
  where
    ended : (b : Bool) → is_of g (p + m) (sector_at image (s + m)) ≡ b
        → ((k : ℕ) → k < m → is_of g (p + k) (sector_at image (s + k)) ≡ true)
        → FrontIsOf image g s p (suc m)
    ended false here before = record {
      count = m;
      within = omega arith;
      on = before;
      off = λ lt. here;
    }
    ended true here before = record {
      count = suc m;
      within = omega arith;
      on = λ k lt. ⊎_elim (λ (less : k < m). before k less)
          (λ (last : m ≤ k). let e : m ≡ k = omega (arith, lt, last) in
          subst (λ (n : ℕ). is_of g (p + n) (sector_at image (s + n)) ≡ true) e here)
          (cases_lt k m);
      off = λ lt. absurd (omega (arith, lt));
    }

    next : FrontIsOf image g s p m → (b : Bool) → is_of g (p + m) (sector_at image (s + m)) ≡ b
        → FrontIsOf image g s p (suc m)
    next front b here =
        ⊎_elim (λ (less : front.count < m). (let le = front.within in record {
          count = front.count;
          within = omega (arith, le);
          on = front.on;
          off = λ lt. front.off less;
        }))
        (λ (all : m ≤ front.count). ended b here (λ k lt. front.on k (omega (arith, lt, all))))
        (cases_lt front.count m)

-- the sectors that hold what is read
pub held_of : (geometry : Geometry) (g : ℕ) (bytes : List ℕ) (image : DiskImage)
    → payloads_of geometry g image ≡ bytes
    → (used : ℕ) × HoldsBytes geometry g used bytes image × EndsAt geometry g used image
held_of geometry g bytes image are =
    let j = journal_place geometry in
    let front = front_of image g j 1 geometry.journal_sectors in (
      front.count,
      record {
        within = front.within;
        written = front.on;
        joined = payloads_joined image g j 1 front.count front.on
            ∙ sym (payloads_end image g j 1 front.count geometry.journal_sectors front.within
            front.on front.off) ∙ are;
      },
      front.off,
    )

-- ---- records that are held

module _ (geometry : Geometry) (v : Version) (g : ℕ) (image : DiskImage) where
  pub records_held : (records : List Record) (bytes : List ℕ)
      → payloads_of geometry g image ≡ bytes → SpellsRecords v records bytes
      → JournalHolds geometry v g records image
  records_held records bytes are spells =
      let held = held_of geometry g bytes image are in
      record {
        used = held.0;
        bytes = bytes;
        holds_bytes = held.1;
        ends = held.2;
        spells = spells;
      }

  pub bytes_held : (records : List Record) (holds : JournalHolds geometry v g records image)
      → payloads_of geometry g image ≡ holds.bytes
  bytes_held records holds =
      all_bytes geometry g holds.used holds.bytes image holds.holds_bytes holds.ends

  -- records, and a prefix of the bytes of further ones
  pub front_held : (c : ℕ) (records kept : List Record)
      → AllRecordsFit v records → AllRecordsFit v kept
      → payloads_of geometry g image ≡ records_bytes v records ++ take c (records_bytes v kept)
      → (k : ℕ) × (k ≤ length kept) × JournalHolds geometry v g (records ++ take k kept) image
  front_held c records kept fit fit_kept are =
      let front = front_spelled v records kept c fit fit_kept in (
        front.count,
        front.within,
        records_held (records ++ take front.count kept)
            (records_bytes v records ++ take c (records_bytes v kept)) are front.spells,
      )

-- the same where the sectors of the journal are the same
pub holds_still : (geometry : Geometry) (v : Version) (g : ℕ) (records : List Record)
    (old new : DiskImage)
    → ((k : ℕ) → k < geometry.journal_sectors
    → sector_at new (journal_place geometry + k) ≡ sector_at old (journal_place geometry + k))
    → JournalHolds geometry v g records old → JournalHolds geometry v g records new
holds_still geometry v g records old new same holds =
    records_held geometry v g new records holds.bytes
    (payloads_same new old g (journal_place geometry) 1 geometry.journal_sectors same
    ∙ bytes_held geometry v g old records holds) holds.spells

-- ---- laws

pub fresh_holds_none : FreshHoldsNone
fresh_holds_none geometry v g image earlier = record {
  holds_bytes = record {
    within = omega arith;
    written = λ k lt. absurd (omega (arith, lt));
    joined = refl;
  };
  clean = λ k le lt. earlier k lt;
}

pub holds_what_is_stored : HoldsWhatIsStored
holds_what_is_stored geometry v g used records image holds fit =
    records_held geometry v g image records (records_bytes v records)
    (all_bytes geometry g used (records_bytes v records) image holds.holds_bytes
    (ends_where_clean geometry g used image holds.clean)) (record {
      rest = [];
      spelled = sym (append-nil (records_bytes v records));
      fit = fit;
      no_record = nothing_begins v;
    })

pub holds_none_of_later : HoldsNoneOfLater
holds_none_of_later geometry v g image earlier =
    holds_what_is_stored geometry v g 0 [] image (fresh_holds_none geometry v g image earlier) tt

pub holds_one_list : HoldsOneList
holds_one_list geometry v g records others image left right =
    let same : left.bytes ≡ right.bytes = sym (bytes_held geometry v g image records left)
    ∙ bytes_held geometry v g image others right in
    spells_one v records others right.bytes
    (subst (λ (l : List ℕ). SpellsRecords v records l) same left.spells) right.spells

pub scans_what_is_held : ScansWhatIsHeld
scans_what_is_held geometry v g records image are =
    let bytes : List ℕ = payloads_of geometry g image in
    let all = payloads_are_bytes image g (journal_place geometry) 1 geometry.journal_sectors are in
    let scanned : JournalHolds geometry v g (scan geometry v image g) image =
    records_held geometry v g image (scan geometry v image g) bytes refl
    (records_spelled v (length bytes) bytes (omega arith) all) in (
      λ holds. holds_one_list geometry v g (scan geometry v image g) records image scanned holds,
      λ same. subst (λ (l : List Record). JournalHolds geometry v g l image) same scanned,
    )
