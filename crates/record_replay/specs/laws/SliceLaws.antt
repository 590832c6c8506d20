-- Slices, one after another.
use Rattle.std.specs.Prelude.{◌≡◌, ℕ, ◌+◌, List}
use Rattle.process_rules.specs.Processes.{ProcessState, Guest}
use Rattle.record_replay.specs.rules.Calls.{Giving, Taking, Ports, Exchange, asks_of, releases_of}
use Rattle.record_replay.specs.declared.slices.now.Now.{Now}
use Rattle.record_replay.specs.declared.slices.now.Now.TheVariants as now
use Rattle.record_replay.specs.rules.Workers.{WorkerValue}
use Rattle.record_replay.specs.declared.slices.fault.SliceFault.{SliceFault}
use Rattle.record_replay.specs.rules.Slices.{handed, SliceLeadsTo, IsNow, Slices}
use Rattle.record_replay.specs.rules.Faults.{SlicesInVain}

-- A slice whose fuel is spent and another one are one slice of the fuel of both. It has the same
-- process, and the same calls of source and outlet.
abbrev pub SlicesAdd : {S O : Type 0} → Giving S → Taking O → Type 0
SlicesAdd {S} {O} gives takes =
    (first second third : WorkerValue) (f g : ℕ) (why : Now) (a b c : Ports S O)
    → Slices gives takes first f now.Spent second a b
    → Slices gives takes second g why third b c → Slices gives takes first (f + g) why third a c

-- A slice that fails after one whose fuel is spent is one slice of the fuel of both that fails.
abbrev pub SlicesAddInVain : {S O : Type 0} → Giving S → Taking O → Type 0
SlicesAddInVain {S} {O} gives takes =
    (first second third : WorkerValue) (f g : ℕ) (why : SliceFault) (a b c : Ports S O)
    → Slices gives takes first f now.Spent second a b
    → SlicesInVain gives takes second g why third b c
    → SlicesInVain gives takes first (f + g) why third a c

-- Take two slices of the same fuel from the same process, to which the same answers were handed
-- over. They come to the same process, and are over for the same reason. They have released the
-- same lines under the same numbers.
abbrev pub OneSlice : Type 0
OneSlice =
    (guest : Guest) (p q r : ProcessState) (xs ys : List Exchange) (n m fuel : ℕ) (why other : Now)
    → SliceLeadsTo guest p xs n q → IsNow guest q xs n fuel why → SliceLeadsTo guest p ys m r
    → IsNow guest r ys m fuel other → handed (asks_of xs) ≡ handed (asks_of ys)
    → (q ≡ r) × (why ≡ other) × (releases_of xs ≡ releases_of ys)
