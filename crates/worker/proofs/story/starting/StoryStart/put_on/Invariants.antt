use Rattle.std.proofs.Common.{◌-◌, length}
use Rattle.worker.proofs.KeptLemmas.{HasPut}
use Rattle.worker.proofs.story.starting.StoryStart.put_on.Given as goal

abbrev pub invariant-loop-place : goal.invariant-loop-place
invariant-loop-place l = HasPut l.self l.place l.disk

abbrev pub decreases-loop-place : goal.decreases-loop-place
decreases-loop-place l = length l.self.sectors.items - l.place
