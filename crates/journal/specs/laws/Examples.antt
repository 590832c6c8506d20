-- Worked examples of journals: what is in their sectors, and what a barrier may leave.
use Rattle.std.specs.Prelude.{◌≡◌, ◌-◌, ◌^◌, ℕ, false, List, [], ◌∷◌, ◌++◌, length, take, drop}
use Rattle.std.specs.Prelude.{replicate}
use Rattle.wasi_abi.specs.declared.answer.Answer.TheVariants as answer
use Rattle.wasi_abi.specs.declared.version.Version.TheVariants.{One, Two}
use Rattle.sector_disk.specs.rules.DiskImage.{DiskImage}
use Rattle.sector_disk.specs.declared.disk_call.DiskCall.TheVariants.{WriteOf, Sync}
use Rattle.disk_layout.specs.rules.Places.{Geometry}
use Rattle.disk_layout.specs.rules.Journal.{record_bytes, journal_sector}
use Rattle.disk_layout.specs.laws.Examples.{hello_record}
use Rattle.disk_layout.specs.laws.RecordExamples.{bare, bare_disk, end_record, spread, two_records}
use Rattle.disk_layout.specs.laws.RecordExamples.{two_wide_records, misread_hello}
use Rattle.journal.specs.rules.Packed.{sectors_for, packed}
use Rattle.journal.specs.rules.State.{state, room_of}
use Rattle.journal.specs.rules.Steps.{RecordFits, records_bytes, HoldsRecords, SameOthers}
use Rattle.journal.specs.rules.Steps.{JournalHolds, AppendsFront, ShowsLater, barrier_calls}

pub record PackingExamples : Type 0 where
  pub no_sector : sectors_for 0 ≡ 0
  pub full_sector : sectors_for 494 ≡ 1
  pub one_byte_more : sectors_for 495 ≡ 2
  pub packed_in_order : packed 5 2 2 (replicate 494 7 ++ (8 ∷ []))
      ≡ journal_sector 5 2 (replicate 494 7) ∷ journal_sector 5 3 (8 ∷ []) ∷ []
  pub room_behind_one : room_of bare (state One 5 1 (7 ∷ 8 ∷ []) false) ≡ 986
  pub no_room_behind_all : room_of bare (state One 5 3 [] false) ≡ 0
  pub records_in_order : records_bytes One (hello_record ∷ end_record ∷ []) ≡ two_records
  pub wide_in_order : records_bytes Two (hello_record ∷ end_record ∷ []) ≡ two_wide_records

-- what a barrier asks the disk for, the newest call first: sector 4 is the second of the journal
pub record BarrierCallExamples : Type 0 where
  pub nothing_kept : barrier_calls bare (state One 5 1 [] false) ≡ []
  pub one_byte : barrier_calls bare (state One 5 1 (7 ∷ []) false) ≡ Sync ∷ WriteOf 4 ∷ []
  pub full_sector : barrier_calls bare (state One 5 1 (replicate 494 7) false)
      ≡ Sync ∷ WriteOf 4 ∷ []
  pub two_sectors : barrier_calls bare (state One 5 1 (replicate 495 7) false)
      ≡ Sync ∷ WriteOf 5 ∷ WriteOf 4 ∷ []

-- what a journal takes: clocks and steps of 64 bits, and 4,096 bytes in version 1, or 65,536 in
-- version 2
pub record FittingExamples : Type 0 where
  pub last_step : RecordFits One (record { step = 2 ^ 64 - 1; answer = answer.End })
  pub no_step : RecordFits One (record { step = 2 ^ 64; answer = answer.End }) → ⊥
  pub last_time : RecordFits One (record { step = 0; answer = answer.Realtime (2 ^ 64 - 1) })
  pub no_time : RecordFits One (record { step = 0; answer = answer.Realtime (2 ^ 64) }) → ⊥
  pub no_count : RecordFits One (record { step = 0; answer = answer.Monotonic (2 ^ 64) }) → ⊥
  pub longest : (text : List ℕ) → length text ≡ 4096
      → RecordFits One (record { step = 0; answer = answer.Request text })
  pub too_long : (text : List ℕ) → length text ≡ 4097
      → RecordFits One (record { step = 0; answer = answer.Request text }) → ⊥
  pub too_many_bytes : (bytes : List ℕ) → length bytes ≡ 4097
      → RecordFits One (record { step = 0; answer = answer.Random bytes }) → ⊥
  pub longest_in_two : (text : List ℕ) → length text ≡ 65536
      → RecordFits Two (record { step = 0; answer = answer.Request text })
  pub too_long_in_two : (text : List ℕ) → length text ≡ 65537
      → RecordFits Two (record { step = 0; answer = answer.Request text }) → ⊥

-- ---- what is stored

-- two records in two sectors of generation 5, and after them one of this generation
abbrev pub before_one_of : ℕ → DiskImage
before_one_of g = bare_disk (journal_sector 5 1 (record_bytes One hello_record))
    (journal_sector 5 2 (record_bytes One end_record)) (journal_sector g 3 (7 ∷ []))

-- the same disk with a shorter journal
abbrev pub short : Geometry
short = record bare { journal_sectors = 1 }

pub record HoldingExamples : Type 0 where
  pub in_two_sectors : HoldsRecords bare One 5 2 (hello_record ∷ end_record
      ∷ []) (spread 12 two_records)
  pub in_fewer_sectors : HoldsRecords bare One 5 1 (hello_record ∷ []) (spread 16 two_records) → ⊥
  pub in_more_sectors : HoldsRecords bare One 5 3 (hello_record ∷ end_record ∷ [])
      (spread 12 two_records) → ⊥
  pub of_another_generation : HoldsRecords bare One 4 2 (hello_record ∷ end_record ∷ [])
      (spread 12 two_records) → ⊥
  pub before_one_of_earlier : HoldsRecords bare One 5 2 (hello_record ∷ end_record ∷ [])
      (before_one_of 4)
  pub before_a_later_one : HoldsRecords bare One 5 2 (hello_record ∷ end_record ∷ [])
      (before_one_of 6) → ⊥
  pub beyond_the_journal : HoldsRecords short One 5 2 (hello_record ∷ end_record ∷ [])
      (spread 12 two_records) → ⊥
  pub other_records : HoldsRecords bare One 5 2 (hello_record ∷ []) (spread 12 two_records) → ⊥
  pub in_two : HoldsRecords bare Two 5 2 (hello_record ∷ end_record ∷ [])
      (spread 12 two_wide_records)
  -- lengths of two bytes in a journal of version 2
  pub of_the_other_version : HoldsRecords bare Two 5 2 (hello_record ∷ end_record ∷ [])
      (spread 12 two_records) → ⊥

-- ---- what a journal holds

-- a record, and in a sector of generation g another one
abbrev pub hello_and_end : ℕ → DiskImage
hello_and_end g = bare_disk (journal_sector 5 1 (record_bytes One hello_record))
    (journal_sector g 2 (record_bytes One end_record)) []

pub record JournalHoldsExamples : Type 0 where
  pub in_two_sectors : JournalHolds bare One 5 (hello_record ∷ end_record ∷ [])
      (spread 12 two_records)
  -- a record is left out
  pub one_short : JournalHolds bare One 5 (hello_record ∷ []) (spread 12 two_records) → ⊥
  pub up_to_a_cut : JournalHolds bare One 5 (hello_record ∷ []) (spread 12 (take 26 two_records))
  pub up_to_a_sixth_kind : JournalHolds bare One 5 [] (spread 12 (6 ∷ drop 1 two_records))
  pub of_another_generation : JournalHolds bare One 4 [] (spread 12 two_records)
  pub up_to_an_earlier_one : JournalHolds bare One 5 (hello_record ∷ []) (hello_and_end 4)
  pub up_to_a_later_one : JournalHolds bare One 5 (hello_record ∷ []) (hello_and_end 6)
  -- the second record is of an earlier generation
  pub over_an_earlier_one : JournalHolds bare One 5 (hello_record ∷ end_record ∷ [])
      (hello_and_end 4) → ⊥
  pub in_two : JournalHolds bare Two 5 (hello_record ∷ end_record ∷ [])
      (spread 12 two_wide_records)
  pub in_the_wrong_version : JournalHolds bare One 5 (misread_hello ∷ [])
      (spread 12 two_wide_records)

-- ---- what a barrier may leave

-- a journal that holds one record, with these two sectors after it, and one sector more
abbrev pub behind_hello : List ℕ → List ℕ → DiskImage
behind_hello second third = [] ∷ [] ∷ [] ∷ journal_sector 5 1 (record_bytes One hello_record)
    ∷ second ∷ third ∷ (9 ∷ []) ∷ []

abbrev pub only_hello : DiskImage
only_hello = behind_hello [] []

-- the second record is written after it
abbrev pub whole_end : List ℕ
whole_end = journal_sector 5 2 (record_bytes One end_record)

abbrev pub torn_end : List ℕ
torn_end = take 7 whole_end

abbrev pub with_end : DiskImage
with_end = behind_hello whole_end []

-- a prefix of the kept record, which stays beside what stood
abbrev pub AppendsEnd : DiskImage → Type 0
AppendsEnd new = AppendsFront bare One 5 1 (hello_record ∷ []) (end_record ∷ []) only_hello new

pub record BarrierExamples : Type 0 where
  pub appended : AppendsEnd with_end
  pub nothing_yet : AppendsEnd only_hello
  pub torn : AppendsEnd (behind_hello torn_end [])
  pub lost : AppendsEnd ([] ∷ [] ∷ [] ∷ [] ∷ [] ∷ [] ∷ (9 ∷ []) ∷ []) → ⊥
  pub shows_a_later_one : AppendsEnd (behind_hello [] (journal_sector 6 3 (7 ∷ []))) → ⊥
  pub super_changed : AppendsEnd ((7 ∷ []) ∷ [] ∷ [] ∷
      journal_sector 5 1 (record_bytes One hello_record)
      ∷ [] ∷ [] ∷ (9 ∷ []) ∷ []) → ⊥
  pub changed_behind : AppendsEnd ([] ∷ [] ∷ [] ∷ journal_sector 5 1 (record_bytes One hello_record)
      ∷ [] ∷ [] ∷ (8 ∷ []) ∷ []) → ⊥
  pub longer : AppendsEnd (only_hello ++ [] ∷ []) → ⊥
  -- of the sectors in use none is changed
  pub used_changed : SameOthers bare 1 only_hello
      ([] ∷ [] ∷ [] ∷ (8 ∷ []) ∷ [] ∷ [] ∷ (9 ∷ []) ∷ []) → ⊥

-- ---- a later generation

-- the first sector of the journal is of generation 5
pub record LaterExamples : Type 0 where
  pub than_earlier : ShowsLater bare 4 only_hello
  pub than_its_own : ShowsLater bare 5 only_hello → ⊥
  -- its length doesn't count
  pub without_records : ShowsLater bare 4 (bare_disk (journal_sector 5 1 []) [] [])
  pub of_another_place : ShowsLater bare 4 (bare_disk (journal_sector 5 2 (7 ∷ [])) [] []) → ⊥
  pub in_the_second_sector : ShowsLater bare 5 (behind_hello (journal_sector 6 2 (7 ∷ [])) []) → ⊥
  pub without_a_journal : ShowsLater (record bare { journal_sectors = 0 }) 4 only_hello → ⊥
