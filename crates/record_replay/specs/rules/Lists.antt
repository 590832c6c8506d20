-- The plain types of this crate, call by call.
use Rattle.std.specs.Prelude.{◌≡◌, ℕ, ◌-◌, ◌==◌, List, [], ◌∷◌, ◌++◌, Option, Some, None, Result}
use Rattle.std.specs.Prelude.{Ok, Err, if◌then◌else◌}
use Rattle.wasi_abi.specs.declared.answer.Answer.{Answer}
use Rattle.wasi_calls_rules.specs.WasiStates.{Line}
use Rattle.record_replay.specs.rules.Calls.{Taking}
use Rattle.record_replay.specs.declared.fault.SourceFault.{SourceFault}
use Rattle.record_replay.specs.declared.fault.OutletFault.{OutletFault}
use Rattle.record_replay.specs.declared.line_list.NumberedLine.{NumberedLine}
use Rattle.record_replay.specs.declared.refusing.RefusingOutlet.{RefusingOutlet}

-- the first answer is handed out, and the others are left; where there is none, nothing changes
abbrev pub HandsOut : List Answer → Result (Option Answer) SourceFault → List Answer → Type 0
HandsOut [] said answers_left = (said ≡ Ok None) × (answers_left ≡ [])
HandsOut (a ∷ answers) said answers_left = (said ≡ Ok (Some a)) × (answers_left ≡ answers)

-- a line with its number
abbrev pub numbered : ℕ → Line → NumberedLine
numbered number line = record { number = number; stream = line.stream; text = line.text }

-- a line that is taken is the last of those kept, and one that isn't changes nothing
abbrev pub KeepsLine : List NumberedLine → ℕ → Line → Result (Unit {0}) OutletFault
    → List NumberedLine → Type 0
KeepsLine kept number line (Ok x) new = new ≡ kept ++ numbered number line ∷ []
KeepsLine kept number line (Err e) new = new ≡ kept

module _ {O : Type 0} where
  -- the outlet inside
  abbrev pub inner_outlet : RefusingOutlet O → O
  inner_outlet o = o.inner

  -- which of the releases from now on, from 1, is answered by a fault
  abbrev pub until_fault : RefusingOutlet O → ℕ
  until_fault o = o.until_fault

-- The outlet inside took the line. What it said is handed on, or a fault in its place.
pub record Refuses {O : Type 0} (takes : Taking O) (old : RefusingOutlet O) (number : ℕ)
    (line : Line) (said : Result (Unit {0}) OutletFault) (new : RefusingOutlet O) : Type 0 where
  pub said_inside : Result (Unit {0}) OutletFault
  pub took : takes (inner_outlet old) number line said_inside (inner_outlet new)
  pub counted : until_fault new ≡ until_fault old - 1
  pub said_is : said ≡ (if until_fault old == 1 then Err (record {}) else said_inside)
