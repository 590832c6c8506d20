-- Records of either version, and the sectors of the journal (this project's own).
use Rattle.std.specs.Prelude.{ℕ, ◌+◌, ◌-◌, ◌*◌, ◌≤◌, nat_le, nat_lt, ◌==◌, ◌&&◌, Bool}
use Rattle.std.specs.Prelude.{List, [], ◌∷◌, ◌++◌, length}
use Rattle.guest_memory.specs.rules.Bytes.{bytes_of, number_of, part}
use Rattle.disk_layout.specs.declared.record.Record.{Record as DeclaredRecord}
use Rattle.wasi_abi.specs.declared.answer.Answer.{Answer}
use Rattle.wasi_abi.specs.declared.answer.Answer.TheVariants as answer
use Rattle.wasi_abi.specs.declared.version.Version.{Version}
use Rattle.wasi_abi.specs.declared.version.Version.TheVariants.{One, Two}
use Rattle.wasi_abi.specs.rules.Versions.{text_limit, length_bytes}
use Rattle.wasi_abi.specs.rules.Layouts.{u16_bytes, u64_bytes, padding}
use Rattle.disk_layout.specs.rules.Sectors.{stamp_bytes, shown_generation}
use Rattle.disk_layout.specs.declared.record.TheConstants.{REQUEST_KIND, END_KIND, REALTIME_KIND}
use Rattle.disk_layout.specs.declared.record.TheConstants.{MONOTONIC_KIND, RANDOM_KIND}
use Rattle.disk_layout.specs.declared.record_fields.TheConstants.{PAYLOAD_LENGTH_AT}
use Rattle.disk_layout.specs.declared.journal_sectors.TheConstants.{PAYLOAD_SIZE, PAYLOAD_AT}

-- a step, and the answer that it took
abbrev pub Record : Type 0
Record = DeclaredRecord

-- the number of a record's kind
abbrev pub kind_number : Answer → ℕ
kind_number (answer.Request text) = REQUEST_KIND
kind_number answer.End = END_KIND
kind_number (answer.Realtime n) = REALTIME_KIND
kind_number (answer.Monotonic n) = MONOTONIC_KIND
kind_number (answer.Random bytes) = RANDOM_KIND

-- the bytes of a record's answer: a text, none, a time, or random bytes
abbrev pub payload_of : Answer → List ℕ
payload_of (answer.Request text) = text
payload_of answer.End = []
payload_of (answer.Realtime n) = u64_bytes n
payload_of (answer.Monotonic n) = u64_bytes n
payload_of (answer.Random bytes) = bytes

-- how many bytes are before a record's payload: kind, step, and the payload's length
abbrev pub record_head_bytes : Version → ℕ
record_head_bytes v = PAYLOAD_LENGTH_AT + length_bytes v

-- the most bytes of a record
abbrev pub longest_record : Version → ℕ
longest_record v = record_head_bytes v + text_limit v

-- A journal of so many sectors takes the longest record of this version. Each one within the limits
-- of a configuration takes those of version 1.
abbrev pub TakesRecords : Version → ℕ → Type 0
TakesRecords One sectors = Unit {0}
TakesRecords Two sectors = longest_record Two ≤ PAYLOAD_SIZE * sectors

-- kind, step, length of the payload, payload
abbrev pub record_bytes : Version → Record → List ℕ
record_bytes v r =
    kind_number r.answer ∷ (u64_bytes r.step
    ++ (bytes_of (length_bytes v) (length (payload_of r.answer)) ++ payload_of r.answer))

-- the length of the payload of the record at the front
abbrev pub payload_length : Version → List ℕ → ℕ
payload_length v bytes = number_of (part bytes PAYLOAD_LENGTH_AT (length_bytes v))

-- ---- the sectors of the journal

-- 0 used length, 2 payload and zeros, 496 generation, 504 place
abbrev pub journal_sector : ℕ → ℕ → List ℕ → List ℕ
journal_sector g place payload =
    u16_bytes (length payload)
    ++ (payload ++ (padding (PAYLOAD_SIZE - length payload)
    ++ stamp_bytes (record { generation = g; place = place })))

-- how many bytes of a journal sector are used: its first two bytes
abbrev pub used_length : List ℕ → ℕ
used_length sector = number_of (part sector 0 2)

-- whether a sector shows this generation at its place, with a used length in range
abbrev pub is_of : ℕ → ℕ → List ℕ → Bool
is_of g place sector = shown_generation place sector == g && nat_lt 0 (used_length sector)
    && nat_le (used_length sector) PAYLOAD_SIZE

-- a sector's payload: its bytes that are used
abbrev pub payload_of_sector : List ℕ → List ℕ
payload_of_sector sector = part sector PAYLOAD_AT (used_length sector)
