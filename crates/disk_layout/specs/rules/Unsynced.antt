-- How many writes of a worker wait for a sync at once (this project's own).
use Rattle.std.specs.Prelude.{ℕ, ◌+◌}
use Rattle.disk_layout.specs.rules.Places.{Geometry}

-- the sectors of an area, of configuration and module, of the journal, and of the two heads
abbrev pub most_unsynced : Geometry → ℕ
most_unsynced geometry =
    geometry.area_sectors + geometry.module_sectors + geometry.journal_sectors + 2
