-- What a worker on a disk is told to do (this project's own).
use Rattle.std.specs.Prelude.{ℕ, ◌≤◌, nat_le, if◌then◌else◌, List, [], ◌∷◌, ◌++◌, replicate}
use Rattle.worker.specs.rules.LifeWords.{Act, Slice, Batch, Checkpoint}

-- A slice of this fuel. Where one sync may serve more than one line it is a batch, in which fewer
-- than `most` may wait.
abbrev pub act_at : ℕ → ℕ → Act
act_at fuel most = if nat_le most 1 then Slice fuel else Batch fuel most

-- this act so many times, and a checkpoint
abbrev pub round_of : Act → ℕ → List Act
round_of act count = replicate count act ++ Checkpoint ∷ []

-- This act again and again, and a checkpoint after each so many of them. The last ones, which are
-- at least one and at most as many, have a checkpoint after them too.
pub data IsPaced (act : Act) (every : ℕ) : List Act → Type 0 where
  last : (count : ℕ) → 1 ≤ count → count ≤ every → IsPaced act every (round_of act count)
  more : (acts : List Act) → IsPaced act every acts
      → IsPaced act every (round_of act every ++ acts)
