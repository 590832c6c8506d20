-- What a scan of a journal reads, step by step: the records of bytes, and the payloads of sectors.
-- Code and proofs speak of it; what a journal holds is said by `JournalHolds`.
use Rattle.std.specs.Prelude.{ℕ, zero, suc, ◌+◌, nat_le, ◌==◌, if◌then◌else◌, Bool, true, false}
use Rattle.std.specs.Prelude.{List, [], ◌∷◌, ◌++◌, length, drop, Option, Some, None, option_map}
use Rattle.guest_memory.specs.rules.Bytes.{number_of, part}
use Rattle.wasi_abi.specs.declared.answer.Answer.{Answer}
use Rattle.wasi_abi.specs.declared.answer.Answer.TheVariants as answer
use Rattle.wasi_abi.specs.declared.version.Version.{Version}
use Rattle.wasi_abi.specs.rules.Versions.{text_limit}
use Rattle.sector_disk.specs.rules.DiskImage.{DiskImage, sector_at}
use Rattle.disk_layout.specs.rules.Places.{Geometry, journal_place}
use Rattle.disk_layout.specs.rules.Journal.{Record, record_head_bytes, payload_length}
use Rattle.disk_layout.specs.rules.Journal.{is_of, payload_of_sector}
use Rattle.disk_layout.specs.declared.record.TheConstants.{REQUEST_KIND, END_KIND, REALTIME_KIND}
use Rattle.disk_layout.specs.declared.record.TheConstants.{MONOTONIC_KIND, RANDOM_KIND}
use Rattle.disk_layout.specs.declared.record_fields.TheConstants.{STEP_AT}

-- ---- records

-- this answer where the test holds, else none
abbrev pub answer_if : Bool → Answer → Option Answer
answer_if true a = Some a
answer_if false a = None

-- an answer by its kind and payload, if they are well formed; texts and bytes have at most so many
-- bytes
abbrev pub answer_of : ℕ → ℕ → List ℕ → Option Answer
answer_of limit kind payload =
    if kind == REQUEST_KIND then answer_if (nat_le (length payload) limit) (answer.Request payload)
    else if kind == END_KIND then answer_if (length payload == 0) answer.End
    else if kind == REALTIME_KIND
    then answer_if (length payload == 8) (answer.Realtime (number_of payload))
    else if kind == MONOTONIC_KIND
    then answer_if (length payload == 8) (answer.Monotonic (number_of payload))
    else if kind == RANDOM_KIND
    then answer_if (nat_le (length payload) limit) (answer.Random payload)
    else None

-- the record at the front, if it is whole and well formed
abbrev pub record_at : Version → List ℕ → Option Record
record_at v [] = None
record_at v (kind ∷ bytes) =
    if nat_le (record_head_bytes v + payload_length v (kind ∷ bytes)) (length (kind ∷ bytes))
    then option_map (λ a. record {
      step = number_of (part (kind ∷ bytes) STEP_AT 8);
      answer = a;
    })
    (answer_of (text_limit v) kind (part (kind ∷ bytes) (record_head_bytes v)
    (payload_length v (kind ∷ bytes))))
    else None

-- a record, if there is one, before the others
abbrev pub with_first : Option Record → List Record → List Record
with_first None others = []
with_first (Some r) others = r ∷ others

-- the records at the front, until one is cut or not well formed; so many at most
abbrev pub records_at : Version → ℕ → List ℕ → List Record
records_at v zero bytes = []
records_at v (suc n) bytes =
    with_first (record_at v bytes)
    (records_at v n (drop (record_head_bytes v + payload_length v bytes) bytes))

-- ---- sectors

-- the payloads from this sector on, whose places are counted from 1, as far as sectors are of this
-- generation
abbrev pub payloads_from : DiskImage → ℕ → ℕ → ℕ → ℕ → List ℕ
payloads_from image g sector place zero = []
payloads_from image g sector place (suc count) =
    if is_of g place (sector_at image sector)
    then payload_of_sector (sector_at image sector)
    ++ payloads_from image g (sector + 1) (place + 1) count
    else []

-- what the journal of generation g holds. Each record has a byte at least, so there are no more
-- than bytes
abbrev pub scan : Geometry → Version → DiskImage → ℕ → List Record
scan geometry v image g =
    let bytes : List ℕ = payloads_from image g (journal_place geometry) 1 geometry.journal_sectors
    in
    records_at v (length bytes) bytes
