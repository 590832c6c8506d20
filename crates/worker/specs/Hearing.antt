-- Where the answers of a life come from, and where its lines go.
use Rattle.std.specs.Prelude.{◌≡◌, ℕ, Bool, true, List, Result, Ok, Err}
use Rattle.wasi_abi.specs.declared.answer.Answer.{Answer}
use Rattle.wasi_calls_rules.specs.WasiStates.{Line}
use Rattle.record_replay.specs.declared.fault.OutletFault.{OutletFault}
use Rattle.record_replay.specs.rules.Calls.{Giving, Taking}
use Rattle.record_replay.specs.declared.refusing.RefusingOutlet.{RefusingOutlet}
use Rattle.record_replay.specs.rules.Lists.{HandsOut, KeepsLine, Refuses}
use Rattle.worker.specs.declared.story.hearing.HeardLines.{HeardLines}

-- a list of answers, as a source
abbrev pub hands_out : Giving (List Answer)
hands_out = λ old question said new. HandsOut old said new

-- a refused line leaves a mark
abbrev pub MarksRefusal : Bool → Result (Unit {0}) OutletFault → Bool → Type 0
MarksRefusal old (Ok done) new = new ≡ old
MarksRefusal old (Err e) new = new ≡ true

-- a line that is taken is the last of those kept, and a refused one is marked
pub record HearsLine (old : HeardLines) (number : ℕ) (line : Line)
    (said : Result (Unit {0}) OutletFault) (new : HeardLines) : Type 0 where
  pub keeps : KeepsLine old.lines number line said new.lines
  pub marks : MarksRefusal old.has_refused said new.has_refused

-- lines that are heard, of which one may be refused, as an outlet
abbrev pub hears : Taking (RefusingOutlet HeardLines)
hears = λ old number line said new. Refuses
    (λ was n l answer is. HearsLine was n l answer is) old number line said new
