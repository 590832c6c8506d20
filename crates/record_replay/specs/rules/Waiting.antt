-- Lines that wait are released (this project's own).
use Rattle.std.specs.Prelude.{◌≡◌, ℕ, suc, List, ◌∷◌, ◌++◌, length}
use Rattle.wasi_calls_rules.specs.WasiStates.{Line}
use Rattle.process.specs.rules.Values.{ProcessValue, HasReleased, waiting_in}
use Rattle.record_replay.specs.rules.Calls.{Taking, Releases, all_taken, last_refused}

-- the number of the first line that waits
abbrev pub first_waiting : ProcessValue → ℕ
first_waiting v = suc v.host.released

-- all lines that waited were released, and wait no more
pub record ReleasesAll {O : Type 0} (takes : Taking O) (old new : ProcessValue)
    (outlet outlet' : O) : Type 0 where
  pub told : Releases takes outlet (all_taken (first_waiting old) (waiting_in old)) outlet'
  pub released : HasReleased (length (waiting_in old)) old new

-- some of them were released, and the next one was refused; they all still wait
pub record ReleasesSome {O : Type 0} (takes : Taking O) (old new : ProcessValue)
    (outlet outlet' : O) : Type 0 where
  pub told : List Line
  pub line : Line
  pub others : List Line
  pub waiting : waiting_in old ≡ told ++ (line ∷ others)
  pub refused : Releases takes outlet (last_refused (first_waiting old) told line) outlet'
  pub same : new ≡ old
