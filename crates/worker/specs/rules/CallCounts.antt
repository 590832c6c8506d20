-- How many calls of the disk a life begins at most (this project's own).
use Rattle.std.specs.Prelude.{ℕ, ◌+◌, ◌*◌}
use Rattle.sector_disk.specs.rules.Medium.{Medium, CallsUpTo}
use Rattle.disk_layout.specs.rules.Places.{Geometry}

-- Behind configuration and module a recovery reads two heads, the image that the newest one names,
-- and the journal.
abbrev pub most_behind : Geometry → ℕ
most_behind places = places.area_sectors + 2 + places.journal_sectors

-- A commit reads and writes each sector of an area at most, and begins five other calls.
abbrev pub most_committing : Geometry → ℕ
most_committing places = 2 * places.area_sectors + 5

-- In a recovery that opens a worker of these places, on a disk of so many sectors. It syncs the
-- disk, reads configuration and module and what is behind them, and commits the process.
abbrev pub most_opening : Geometry → ℕ → ℕ
most_opening places sectors = 1 + sectors + most_behind places + most_committing places

-- in any recovery from a disk of so many sectors
abbrev pub most_recovering : ℕ → ℕ
most_recovering sectors = 3 * (sectors + 1)

-- in a creation on it
abbrev pub most_creating : ℕ → ℕ
most_creating sectors = sectors + 9

-- in a save: a barrier, and a commit
abbrev pub most_saving : ℕ → ℕ
most_saving sectors = 2 * (sectors + 1)

-- between two events of a life
abbrev pub most_calls : ℕ → ℕ
most_calls sectors = 4 * (sectors + 5)

-- no more calls than that before each of so many events
abbrev pub CallsForEvents : ℕ → Medium → Medium → Type 0
CallsForEvents events old new = CallsUpTo (events * most_calls old.sectors) old new
