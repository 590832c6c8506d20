-- Slices of a worker with a disk, one after another, with checkpoints between them or none.
use Rattle.std.specs.Prelude.{ℕ, ◌+◌}
use Rattle.record_replay.specs.rules.Calls.{Giving, Taking, Ports}
use Rattle.record_replay.specs.declared.slices.now.Now.{Now}
use Rattle.record_replay.specs.declared.slices.now.Now.TheVariants as now
use Rattle.record_replay.specs.rules.Slices.{Slices}
use Rattle.worker.specs.rules.Checkpoints.{IsSavedIn}
use Rattle.worker.specs.rules.DurableValues.{DurableValue, without_disk}

-- some checkpoints, one after another, each of which is done
pub data AreSavedIn : DurableValue → DurableValue → Type 0 where
  none : {w : DurableValue} → AreSavedIn w w
  one_more : {first second third : DurableValue} → AreSavedIn first second
      → IsSavedIn second third → AreSavedIn first third

-- A slice whose fuel is spent, any checkpoints, and another slice are one slice of the fuel of
-- both. It has the same process, and the same calls of source and outlet.
abbrev pub SlicesOnDiskAdd : {S O : Type 0} → Giving S → Taking O → Type 0
SlicesOnDiskAdd {S} {O} gives takes =
    (first second third last : DurableValue) (f g : ℕ) (why : Now) (a b c : Ports S O)
    → Slices gives takes (without_disk first) f now.Spent (without_disk second) a b
    → AreSavedIn second third
    → Slices gives takes (without_disk third) g why (without_disk last) b c
    → Slices gives takes (without_disk first) (f + g) why (without_disk last) a c
