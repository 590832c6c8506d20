-- Slices of a worker with a disk, one after another.
use Rattle.std.proofs.Common.{◌≡◌, refl, ◌∙◌, subst}
use Rattle.std.specs.Prelude.{Bool}
use Rattle.process.specs.rules.Values.{ProcessValue}
use Rattle.record_replay.specs.rules.Calls.{Giving, Taking}
use Rattle.record_replay.specs.rules.Slices.{Slices}
use Rattle.record_replay.specs.rules.Workers.{WorkerValue}
use Rattle.record_replay.proofs.Adding.{slices_add}
use Rattle.worker.specs.laws.Adding.{AreSavedIn, none, one_more, SlicesOnDiskAdd}
use Rattle.worker.specs.rules.DurableValues.{DurableValue, without_disk}

both_same : (v v' : ProcessValue) (b b' : Bool) → v' ≡ v → b' ≡ b
    → ◌≡◌ {A = WorkerValue} (record { process = v'; failed = b' })
    (record { process = v; failed = b })
both_same v v' b b' e f = rw (e, f) refl

-- checkpoints leave the process alone
saved_alike : {w w' : DurableValue} → AreSavedIn w w' → without_disk w' ≡ without_disk w
saved_alike none = refl
saved_alike (one_more {second = between} {third = last} earlier saved) =
    both_same between.process last.process between.has_failed last.has_failed saved.process
    saved.unfailed
    ∙ saved_alike earlier

pub slices_on_disk_add : {S O : Type 0} (gives : Giving S) (takes : Taking O)
    → SlicesOnDiskAdd gives takes
slices_on_disk_add gives takes first second third last f g why before between after one saved
    two =
    slices_add gives takes (without_disk first) (without_disk second) (without_disk last) f g why
    before between after one
    (subst (λ (w : WorkerValue). Slices gives takes w g why (without_disk last) between after)
    (saved_alike saved) two)
