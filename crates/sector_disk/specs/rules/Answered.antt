-- What the answers of a file tell, if it is a disk that obeys the model.
use Rattle.std.specs.Prelude.{◌≡◌, ◌⊎◌, ◌≤◌, ◌+◌, ℕ, Bool, true, false, if◌then◌else◌, IsFalse}
use Rattle.std.specs.Prelude.{List, [], ◌∷◌, length, Result, Ok, Err}
use Rattle.sector_disk.specs.rules.DiskImage.{DiskImage, sector_at, with_sector, with_front}
use Rattle.sector_disk.specs.declared.file_call.TheConstants.{NO_BYTES}
use Rattle.sector_disk.specs.declared.disk_call.DiskCall.{DiskCall}
use Rattle.sector_disk.specs.declared.disk_call.DiskCall.TheVariants.{WriteOf, Sync}
use Rattle.sector_disk.specs.declared.fault.DiskFault.{DiskFault}
use Rattle.sector_disk.specs.declared.fault.DiskFault.TheVariants.{Range, Io}
use Rattle.sector_disk.specs.declared.file_call.FileCall.{FileCall}
use Rattle.sector_disk.specs.declared.file_call.FileCall.TheVariants.{Read, Wrote, Tore, Synced}
use Rattle.sector_disk.specs.declared.file_call.FileCall.TheVariants.{Failed}
use Rattle.sector_disk.specs.declared.file_call.Failure.TheVariants.{OfRead, OfSync, Refused}
use Rattle.sector_disk.specs.declared.sector.TheConstants.{SECTOR_SIZE}

-- the calls with their bytes, the newest first
abbrev pub AnsweredCalls : Type 0
AnsweredCalls = List (FileCall × List ℕ)

-- One call on: `shown` is what reads give, and `crashed` what a cut may leave. Before it they were
-- as `before` says.
abbrev pub OneOn : FileCall → List ℕ → (DiskImage → DiskImage → Type 0) → DiskImage
    → DiskImage → Type 0
OneOn (Read k) bytes before shown crashed = before shown crashed × (sector_at shown k ≡ bytes)
OneOn (Wrote k) bytes before shown crashed =
    (was_shown : DiskImage) × (was_crashed : DiskImage) × (front : ℕ) × before was_shown was_crashed
    × (front ≤ SECTOR_SIZE) × (length bytes ≡ SECTOR_SIZE)
    × (shown ≡ with_sector was_shown k bytes) × (crashed ≡ with_front was_crashed k front bytes)
OneOn (Tore k) bytes before shown crashed =
    (was_shown : DiskImage) × (was_crashed : DiskImage) × (most : ℕ) × (front : ℕ)
    × before was_shown was_crashed × (most ≤ SECTOR_SIZE) × (front ≤ most)
    × (length bytes ≡ SECTOR_SIZE) × (shown ≡ with_front was_shown k most bytes)
    × (crashed ≡ with_front was_crashed k front bytes)
OneOn Synced bytes before shown crashed = (was_crashed : DiskImage) × before shown was_crashed
    × (crashed ≡ shown)
OneOn (Failed which) bytes before shown crashed = before shown crashed

-- This was on the file as it was opened, and since then it gave these answers: reads may now give
-- `shown`, and then a cut may leave `crashed`.
abbrev pub Explains : DiskImage → AnsweredCalls → DiskImage → DiskImage → Type 0
Explains first [] shown crashed = (shown ≡ first) × (crashed ≡ first)
Explains first (answer ∷ answers) shown crashed =
    OneOn answer.0 answer.1 (Explains first answers) shown crashed

-- what reads give, one call on
abbrev pub ShowsOn : FileCall → List ℕ → (DiskImage → Type 0) → DiskImage → Type 0
ShowsOn (Read k) bytes before shown = before shown × (sector_at shown k ≡ bytes)
ShowsOn (Wrote k) bytes before shown = (was : DiskImage) × before was × (length bytes ≡ SECTOR_SIZE)
    × (shown ≡ with_sector was k bytes)
ShowsOn (Tore k) bytes before shown = (was : DiskImage) × (front : ℕ) × before was
    × (front ≤ SECTOR_SIZE) × (length bytes ≡ SECTOR_SIZE) × (shown ≡ with_front was k front bytes)
ShowsOn Synced bytes before shown = before shown
ShowsOn (Failed which) bytes before shown = before shown

-- The same, where a cut at a moment from t on may have left `crashed`.
abbrev pub ExplainsSince : DiskImage → ℕ → AnsweredCalls → DiskImage → DiskImage → Type 0
ExplainsSince first t [] crashed shown = (t ≤ 0) × Explains first [] shown crashed
ExplainsSince first t (answer ∷ answers) crashed shown =
    ((t ≤ length answers + 1) × Explains first (answer ∷ answers) shown crashed)
    ⊎ ShowsOn answer.0 answer.1 (ExplainsSince first t answers crashed) shown

-- 1 for a call of a file that failed, else 0
abbrev pub is_fault : FileCall → ℕ
is_fault (Tore k) = 1
is_fault (Failed which) = 1
is_fault call = 0

-- how many calls failed
abbrev pub faults_of : AnsweredCalls → ℕ
faults_of [] = 0
faults_of (answer ∷ answers) = is_fault answer.0 + faults_of answers

-- how many unsynced writes there are after this call
abbrev pub count_on : FileCall → ℕ → ℕ
count_on (Wrote k) n = n + 1
count_on (Tore k) n = n + 1
count_on Synced n = 0
count_on call n = n

-- how many writes there were since the last good sync
abbrev pub unsynced_of : AnsweredCalls → ℕ
unsynced_of [] = 0
unsynced_of (answer ∷ answers) = count_on answer.0 (unsynced_of answers)

-- the writes and syncs after this call, the newest first
abbrev pub call_on : FileCall → List DiskCall → List DiskCall
call_on (Wrote k) calls = WriteOf k ∷ calls
call_on (Tore k) calls = WriteOf k ∷ calls
call_on Synced calls = Sync ∷ calls
call_on call calls = calls

-- its writes and syncs, but those syncs that failed
abbrev pub file_calls : AnsweredCalls → List DiskCall
file_calls [] = []
file_calls (answer ∷ answers) = call_on answer.0 (file_calls answers)

-- whether a file is given up once it has answered so: it was, or this write or sync failed
abbrev pub gives_up_on : FileCall → Bool → Bool
gives_up_on (Tore k) was = true
gives_up_on (Failed OfSync) was = true
gives_up_on call was = was

-- A write or a sync has failed. What the file holds is then unknown for good: a later sync may
-- answer well and yet leave out what the failed one lost.
abbrev pub is_given_up : AnsweredCalls → Bool
is_given_up [] = false
is_given_up (answer ∷ answers) = gives_up_on answer.0 (is_given_up answers)

-- the answers after a call that failed: a file that is given up wasn't asked
abbrev pub after_failure : FileCall → List ℕ → AnsweredCalls → AnsweredCalls
after_failure call bytes old =
    (if is_given_up old then (Failed Refused, NO_BYTES) else (call, bytes)) ∷ old

-- what is logged of a call, by its answer: nothing where the sector is out of range
abbrev pub ReadLogged : Result (Unit {0}) DiskFault → ℕ → List ℕ → AnsweredCalls → AnsweredCalls
    → Type 0
ReadLogged (Ok x) k bytes old new = IsFalse (is_given_up old) × (new ≡ (Read k, bytes) ∷ old)
ReadLogged (Err Range) k bytes old new = new ≡ old
ReadLogged (Err Io) k bytes old new = new ≡ after_failure (Failed OfRead) NO_BYTES old
ReadLogged (Err other) k bytes old new = ⊥

-- what a write adds to the log, by its answer; a file that is given up is asked for none
abbrev pub WriteLogged : Result (Unit {0}) DiskFault → ℕ → List ℕ → AnsweredCalls → AnsweredCalls
    → Type 0
WriteLogged (Ok x) k bytes old new = IsFalse (is_given_up old) × (new ≡ (Wrote k, bytes) ∷ old)
WriteLogged (Err Range) k bytes old new = new ≡ old
WriteLogged (Err Io) k bytes old new = new ≡ after_failure (Tore k) bytes old
WriteLogged (Err other) k bytes old new = ⊥

-- what a sync adds to the log, by its answer
abbrev pub SyncLogged : Result (Unit {0}) DiskFault → AnsweredCalls → AnsweredCalls → Type 0
SyncLogged (Ok x) old new = IsFalse (is_given_up old) × (new ≡ (Synced, NO_BYTES) ∷ old)
SyncLogged (Err Io) old new = new ≡ after_failure (Failed OfSync) NO_BYTES old
SyncLogged (Err other) old new = ⊥
