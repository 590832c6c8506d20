-- What a journal holds beside its disk (this project's own).
use Rattle.std.specs.Prelude.{ℕ, ◌-◌, ◌*◌, Bool, true, List, length}
use Rattle.wasi_abi.specs.declared.version.Version.{Version}
use Rattle.disk_layout.specs.rules.Places.{Geometry}
use Rattle.disk_layout.specs.declared.journal_sectors.TheConstants.{PAYLOAD_SIZE}

-- the version of its records; the generation; how many sectors are written in it; the bytes of
-- records that only memory holds; whether a call has failed
pub record JournalState : Type 0 where
  pub version : Version
  pub generation : ℕ
  pub used : ℕ
  pub kept : List ℕ
  pub has_failed : Bool

-- a state of these parts
abbrev pub state : Version → ℕ → ℕ → List ℕ → Bool → JournalState
state version generation used kept has_failed = record {
  version = version;
  generation = generation;
  used = used;
  kept = kept;
  has_failed = has_failed;
}

-- a call has failed, and all else is as before
abbrev pub failed_journal : JournalState → JournalState
failed_journal s = record s { has_failed = true }

-- how many more bytes there is room for
abbrev pub room_of : Geometry → JournalState → ℕ
room_of geometry s = PAYLOAD_SIZE * (geometry.journal_sectors - s.used) - length s.kept
