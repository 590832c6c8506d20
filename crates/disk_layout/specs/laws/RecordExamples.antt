-- Worked examples of records, and of journals that are scanned.
use Rattle.std.specs.Prelude.{◌≡◌, ◌≤◌, ◌*◌, ℕ, List, [], ◌∷◌, ◌++◌, length, take, drop, Some, None}
use Rattle.wasi_abi.specs.declared.answer.Answer.{Answer}
use Rattle.wasi_abi.specs.declared.answer.Answer.TheVariants as answer
use Rattle.wasi_abi.specs.declared.version.Version.{Version}
use Rattle.wasi_abi.specs.declared.version.Version.TheVariants.{One, Two}
use Rattle.sector_disk.specs.rules.DiskImage.{DiskImage}
use Rattle.disk_layout.specs.rules.Places.{Geometry}
use Rattle.disk_layout.specs.rules.Journal.{Record, record_bytes, journal_sector, longest_record}
use Rattle.disk_layout.specs.rules.Journal.{TakesRecords}
use Rattle.disk_layout.specs.Scanned.{record_at, answer_of, payloads_from, scan}
use Rattle.disk_layout.specs.declared.journal_sectors.TheConstants.{PAYLOAD_SIZE}
use Rattle.disk_layout.specs.laws.Examples.{hello_record}

-- an answer that the step 258 took
abbrev pub at_258 : Answer → Record
at_258 a = record { step = 258; answer = a }

-- the bytes of a kind, of that step, and of the length of a payload
abbrev pub front_of : ℕ → ℕ → List ℕ
front_of kind len = kind ∷ 2 ∷ 1 ∷ 0 ∷ 0 ∷ 0 ∷ 0 ∷ 0 ∷ 0 ∷ len ∷ 0 ∷ []

-- the same of a request, whose length has these two bytes
abbrev pub front_of_long : ℕ → ℕ → List ℕ
front_of_long low high = 1 ∷ 2 ∷ 1 ∷ 0 ∷ 0 ∷ 0 ∷ 0 ∷ 0 ∷ 0 ∷ low ∷ high ∷ []

-- the same for version 2, whose lengths have four bytes: these are the first three
abbrev pub wide_front_of : ℕ → ℕ → ℕ → ℕ → List ℕ
wide_front_of kind low next third =
    kind ∷ 2 ∷ 1 ∷ 0 ∷ 0 ∷ 0 ∷ 0 ∷ 0 ∷ 0 ∷ low ∷ next ∷ third ∷ 0 ∷ []

-- 513 in eight bytes
abbrev pub clock_513 : List ℕ
clock_513 = 1 ∷ 2 ∷ 0 ∷ 0 ∷ 0 ∷ 0 ∷ 0 ∷ 0 ∷ []

pub record RecordExamples : Type 0 where
  pub request : record_bytes One (at_258 (answer.Request (7 ∷ []))) ≡ front_of 1 1 ++ (7 ∷ [])
  pub end : record_bytes One (at_258 answer.End) ≡ front_of 2 0
  pub realtime : record_bytes One (at_258 (answer.Realtime 513)) ≡ front_of 3 8 ++ clock_513
  pub monotonic : record_bytes One (at_258 (answer.Monotonic 513)) ≡ front_of 4 8 ++ clock_513
  pub random : record_bytes One (at_258 (answer.Random (7 ∷ []))) ≡ front_of 5 1 ++ (7 ∷ [])
  -- a payload is as long as its answer has it, and texts and bytes are no longer than the limit
  pub reads_a_request : answer_of 2 1 (6 ∷ 7 ∷ []) ≡ Some (answer.Request (6 ∷ 7 ∷ []))
  pub long_request : answer_of 1 1 (6 ∷ 7 ∷ []) ≡ None
  pub reads_an_end : answer_of 2 2 [] ≡ Some answer.End
  pub long_end : answer_of 2 2 (7 ∷ []) ≡ None
  pub reads_a_time : answer_of 2 3 clock_513 ≡ Some (answer.Realtime 513)
  pub short_time : answer_of 2 3 (take 7 clock_513) ≡ None
  pub reads_a_count : answer_of 2 4 clock_513 ≡ Some (answer.Monotonic 513)
  pub short_count : answer_of 2 4 (take 7 clock_513) ≡ None
  pub reads_random_bytes : answer_of 2 5 (6 ∷ 7 ∷ []) ≡ Some (answer.Random (6 ∷ 7 ∷ []))
  pub long_random_bytes : answer_of 1 5 (6 ∷ 7 ∷ []) ≡ None
  pub no_kind : answer_of 2 0 [] ≡ None
  pub sixth_kind : answer_of 2 6 [] ≡ None
  -- what is after a record isn't its own
  pub read_at_the_front : record_at One (front_of 1 1 ++ (7 ∷ 8 ∷ []))
      ≡ Some (at_258 (answer.Request (7 ∷ [])))
  pub no_record : record_at One [] ≡ None
  -- the same records in version 2
  pub wide_request : record_bytes Two (at_258 (answer.Request (7 ∷ [])))
      ≡ wide_front_of 1 1 0 0 ++ (7 ∷ [])
  pub wide_end : record_bytes Two (at_258 answer.End) ≡ wide_front_of 2 0 0 0
  pub wide_realtime : record_bytes Two (at_258 (answer.Realtime 513))
      ≡ wide_front_of 3 8 0 0 ++ clock_513
  -- 4,096 bytes in version 1 and no more, and 65,536 in version 2
  pub longest : (text : List ℕ) → length text ≡ 4096
      → record_at One (front_of_long 0 16 ++ text) ≡ Some (at_258 (answer.Request text))
  pub too_long : (text : List ℕ) → length text ≡ 4097
      → record_at One (front_of_long 1 16 ++ text) ≡ None
  pub long_in_two : (text : List ℕ) → length text ≡ 4097
      → record_at Two (wide_front_of 1 1 16 0 ++ text) ≡ Some (at_258 (answer.Request text))
  pub longest_in_two : (text : List ℕ) → length text ≡ 65536
      → record_at Two (wide_front_of 1 0 0 1 ++ text) ≡ Some (at_258 (answer.Request text))
  pub too_long_in_two : (text : List ℕ) → length text ≡ 65537
      → record_at Two (wide_front_of 1 1 0 1 ++ text) ≡ None
  -- 133 sectors take the longest record of version 2, and 132 don't
  pub takes_wide : TakesRecords Two 133
  pub too_few_for_wide : TakesRecords Two 132 → ⊥

-- ---- journals

-- A journal within the limits of a configuration, which takes the records of a version, has room
-- for the longest one.
abbrev pub JournalsHaveRoom : Type 0
JournalsHaveRoom = (v : Version) (sectors : ℕ) → 64 ≤ sectors → TakesRecords v sectors
    → longest_record v ≤ PAYLOAD_SIZE * sectors

-- a disk without module and areas, with a journal of three sectors
abbrev pub bare : Geometry
bare = record { config = 0; wasm = 0; module_sectors = 0; area_sectors = 0; journal_sectors = 3 }

abbrev pub bare_disk : List ℕ → List ℕ → List ℕ → DiskImage
bare_disk first second third = [] ∷ [] ∷ [] ∷ first ∷ second ∷ third ∷ []

-- the payloads of generation 5 on it
abbrev pub fifth_of : DiskImage → List ℕ
fifth_of image = payloads_from image 5 3 1 3

abbrev pub end_record : Record
end_record = record { step = 9; answer = answer.End }

-- two records in two sectors of generation 5, so many bytes of them in the first
abbrev pub spread : ℕ → List ℕ → DiskImage
spread n bytes = bare_disk (journal_sector 5 1 (take n bytes)) (journal_sector 5 2 (drop n bytes))
    (journal_sector 4 3 (7 ∷ []))

abbrev pub two_records : List ℕ
two_records = record_bytes One hello_record ++ record_bytes One end_record

-- the same two in version 2
abbrev pub two_wide_records : List ℕ
two_wide_records = record_bytes Two hello_record ++ record_bytes Two end_record

-- what a reader of version 1 takes for the first of them: two bytes of its length are text
abbrev pub misread_hello : Record
misread_hello = record { step = 6; answer = answer.Request (0 ∷ 0 ∷ 0x68 ∷ 0x65 ∷ 0x6c ∷ []) }

pub record JournalExamples : Type 0 where
  pub in_order : fifth_of (bare_disk (journal_sector 5 1 (6 ∷ 7 ∷ []))
      (journal_sector 5 2 (8 ∷ [])) (journal_sector 5 3 (9 ∷ []))) ≡ 6 ∷ 7 ∷ 8 ∷ 9 ∷ []
  pub until_another_generation : fifth_of (bare_disk (journal_sector 5 1 (6 ∷ []))
      (journal_sector 4 2 (7 ∷ [])) (journal_sector 5 3 (8 ∷ []))) ≡ 6 ∷ []
  pub until_another_place : fifth_of (bare_disk (journal_sector 5 1 (6 ∷ []))
      (journal_sector 5 1 (7 ∷ [])) (journal_sector 5 3 (8 ∷ []))) ≡ 6 ∷ []
  pub until_an_empty_one : fifth_of (bare_disk (journal_sector 5 1 (6 ∷ []))
      (journal_sector 5 2 []) (journal_sector 5 3 (8 ∷ []))) ≡ 6 ∷ []
  pub none_from_another_place : fifth_of (bare_disk (journal_sector 5 2 (6 ∷ []))
      (journal_sector 5 2 (7 ∷ [])) (journal_sector 5 3 (8 ∷ []))) ≡ []
  pub no_more_than_asked : payloads_from (spread 12 two_records) 5 3 1 1 ≡ take 12 two_records
  pub scanned : scan bare One (spread 12 two_records) 5 ≡ hello_record ∷ end_record ∷ []
  pub scanned_to_a_cut : scan bare One (spread 12 (take 26 two_records)) 5 ≡ hello_record ∷ []
  pub scanned_to_a_sixth_kind : scan bare One (spread 12 (6 ∷ drop 1 two_records)) 5 ≡ []
  pub scanned_of_another_generation : scan bare One (spread 12 two_records) 4 ≡ []
  pub scanned_wide : scan bare Two (spread 12 two_wide_records) 5 ≡ hello_record ∷ end_record ∷ []
  pub scanned_in_the_wrong_version : scan bare One (spread 12 two_wide_records) 5
      ≡ misread_hello ∷ []
