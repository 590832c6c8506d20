-- How a life ended, and what it leaves to the next one.
use Rattle.std.specs.Prelude.{◌≡◌, Bool, false}
use Rattle.sector_disk.specs.declared.fault_disk.FaultDisk.{FaultDisk}
use Rattle.sector_disk.specs.declared.memory.MemDisk.{MemDisk}
use Rattle.sector_disk.specs.rules.FaultDisk.{call_counts_of, disk_below, torn_front_of}
use Rattle.sector_disk.specs.rules.Memory.{memory_medium}
use Rattle.sector_disk.specs.rules.Trouble.{call_number}
use Rattle.worker_store.specs.restart_theorem.Between.{IsFoundAfterCut}
use Rattle.worker.specs.declared.story.hearing.HeardLines.{HeardLines}
use Rattle.worker.specs.declared.story.life.PlannedLife.{PlannedLife}
use Rattle.worker.specs.declared.story.living.LivedOnce.{LivedOnce}
use Rattle.worker.specs.declared.story.report.LifeEnd.{LifeEnd}
use Rattle.worker.specs.declared.story.report.LifeEnd.TheVariants.{Finished, Stopped, Failed}
use Rattle.worker.specs.declared.story.report.LifeReport.{LifeReport}
use Rattle.worker.specs.rules.Planned.{call_at}
use Rattle.worker.specs.rules.StoryDisks.{IsNextDisk, StopSays, reported_end}

-- after an error the next life finds the same disk, and else what a cut leaves of it
abbrev pub IsFoundBehind : LifeEnd → MemDisk → MemDisk → Type 0
IsFoundBehind (Failed why) last next = next ≡ last
IsFoundBehind Finished last next = IsFoundAfterCut (memory_medium last) (memory_medium next)
IsFoundBehind Stopped last next = IsFoundAfterCut (memory_medium last) (memory_medium next)

-- The end of a life on this disk: no line of it was refused, all is told, and the power is cut
-- where the life says so.
pub record EndsLife (lived : LivedOnce) (disk : FaultDisk MemDisk) (heard : HeardLines)
    (life : PlannedLife) (report : LifeReport) (next : MemDisk) : Type 0 where
  pub unrefused : heard.has_refused ≡ false
  pub opened : report.opened ≡ lived.opened
  pub releases : report.releases ≡ heard.lines
  pub calls : report.calls ≡ call_number (call_counts_of disk)
  pub torn_front : report.has_torn_front ≡ torn_front_of disk
  pub stopped : Bool
  pub stops : StopSays stopped (call_at life.stop) (call_number (call_counts_of disk))
  pub ended : report.ended ≡ reported_end stopped lived.ended
  pub behind : IsFoundBehind report.ended (disk_below disk) next
  pub next_disk : IsNextDisk life.tears report.ended disk next
  pub room : (memory_medium next).room ≡ (memory_medium (disk_below disk)).room
