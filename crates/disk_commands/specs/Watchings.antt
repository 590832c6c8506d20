-- When a status line is due.
use Rattle.std.specs.Prelude.{◌⊎◌, ⊤, ◌+◌, ◌≤◌, ◌<◌, ℕ, Option, None, Some}

-- A worker that runs on is told again: a second after the last time, and where no time is known, or
-- the clock has gone back. Times are in nanoseconds.
abbrev pub IsDue : Option ℕ → ℕ → Type 0
IsDue (Some last) now = (now < last) ⊎ (last + 1000000000 ≤ now)
IsDue None now = ⊤
