-- Where a disk is told to stop or to fail, and what a call meets there.
use Rattle.std.specs.Prelude.{◌≡◌, ◌<◌, ◌≤◌, IsTrue, ◌+◌, ◌-◌, ◌^◌, ◌++◌, ◌==◌, ◌||◌, ℕ, min, Bool}
use Rattle.std.specs.Prelude.{false, nat_lt, nat_le, List, [], ◌∷◌, Option, Some, None}
use Rattle.std.specs.Prelude.{if◌then◌else◌}
use Rattle.sector_disk.specs.rules.DiskImage.{IsFront, IsTornWithin}
use Rattle.sector_disk.specs.rules.Medium.{Medium, BothFollow, BeginsCalls, spare}
use Rattle.sector_disk.specs.declared.disk_call.DiskCall.TheVariants.{WriteOf}
use Rattle.sector_disk.specs.declared.fault.DiskFault.{DiskFault}
use Rattle.sector_disk.specs.declared.fault.DiskFault.TheVariants.{Io, Cut}
use Rattle.sector_disk.specs.declared.fault_point.FaultPoint.{FaultPoint}
use Rattle.sector_disk.specs.declared.trouble.Trouble.{Trouble}
use Rattle.sector_disk.specs.declared.trouble.Trouble.TheVariants.{Stops, Stopped, Fails}
use Rattle.sector_disk.specs.declared.sector.TheConstants.{SECTOR_SIZE}

-- a counter of 64 bits that counts one more; at its greatest number it stays
abbrev pub counted : ℕ → ℕ
counted n = min (n + 1) (2 ^ 64 - 1)

-- how many reads, writes and syncs have begun
pub record CallCounts : Type 0 where
  pub reads : ℕ
  pub writes : ℕ
  pub syncs : ℕ

-- the number of the last of them, from 1; it stays at the greatest number of 64 bits, too
abbrev pub call_number : CallCounts → ℕ
call_number calls = min (calls.reads + calls.writes + calls.syncs) (2 ^ 64 - 1)

-- the call of this number fails where it is told
abbrev pub failure_at : Option FaultPoint → ℕ → Option Trouble
failure_at None n = None
failure_at (Some point) n = if point.call == n then Some (Fails (min point.front SECTOR_SIZE))
    else None

-- it stops where it is told, and each later one finds the machine stopped
abbrev pub trouble_at : Option FaultPoint → Option FaultPoint → ℕ → Option Trouble
trouble_at None fail n = failure_at fail n
trouble_at (Some point) fail n = if nat_lt point.call n then Some Stopped
    else (if point.call == n then Some (Stops (min point.front SECTOR_SIZE)) else failure_at fail n)

-- what such a call answers
abbrev pub trouble_fault : Trouble → DiskFault
trouble_fault (Stops front) = Cut
trouble_fault Stopped = Cut
trouble_fault (Fails front) = Io

-- whether the call of this point has begun
abbrev pub has_begun : Option FaultPoint → ℕ → Bool
has_begun None n = false
has_begun (Some point) n = nat_le point.call n

-- whether a call that is told to stop or to fail has begun
abbrev pub is_met : Option FaultPoint → Option FaultPoint → CallCounts → Bool
is_met stop fail calls = has_begun stop (call_number calls) || has_begun fail (call_number calls)

-- a point as numbers
abbrev pub point_numbers : Option FaultPoint → List ℕ
point_numbers None = 0 ∷ []
point_numbers (Some point) = 1 ∷ point.call ∷ point.front ∷ []

-- the disk below, told where to stop and to fail, which has met trouble so often and begun so many
-- calls
abbrev pub troubled : Medium → Option FaultPoint → Option FaultPoint → ℕ → CallCounts → Medium
troubled below stop fail n begun =
    record below {
      fault_plan = point_numbers stop ++ point_numbers fail ++ below.fault_plan;
      faults = below.faults + n;
      counted = call_number begun;
    }

-- The given prefix of a write is left, and a cut may leave a prefix of that. A disk that fails may
-- leave less.
pub record LeavesFront (front k : ℕ) (bytes : List ℕ) (is_taken : Bool) (old new : Medium) :
    Type 0 where
  pub tears : BothFollow (IsTornWithin front k bytes) (IsTornWithin front k bytes) old new
  pub unsynced : new.unsynced ≤ old.unsynced + 1
  pub exactly : IsTrue is_taken
      → BothFollow (IsFront front k bytes) (IsTornWithin front k bytes) old new
  -- also where no byte is left, it counts as a write
  pub counts : IsTrue is_taken → new.unsynced ≡ old.unsynced + 1
  pub called : IsTrue is_taken → new.calls ≡ WriteOf k ∷ old.calls
  pub begun : BeginsCalls (WriteOf k ∷ []) old new
  pub taken : k < old.sectors → 0 < spare old → new.faults ≡ old.faults → IsTrue is_taken
