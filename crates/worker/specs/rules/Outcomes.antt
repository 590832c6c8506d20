-- What the last slice or batch of a life has answered (this project's own).
use Rattle.std.specs.Prelude.{List, Result}
use Rattle.sector_disk.specs.rules.Medium.{Medium}
use Rattle.record_replay.specs.rules.Calls.{Giving, Taking}
use Rattle.record_replay.specs.declared.slices.now.Now.{Now}
use Rattle.record_replay.specs.declared.slices.now.Now.TheVariants.{Spent}
use Rattle.worker.specs.declared.recover_fault.RecoverFault.{RecoverFault}
use Rattle.worker.specs.rules.DurableCalls.{Answered}
use Rattle.worker.specs.rules.LifeWords.{Act, Slice, Batch, Checkpoint, Upgrade}
use Rattle.worker.specs.rules.OneLife.{CallsInOrder, no_more, called, call_failed, Recipe}
use Rattle.worker.specs.rules.OneLife.{OneLife, IsOneLife, opened, unopened}
use Rattle.worker.specs.rules.Scenes.{Scene, Surroundings}

-- what the last slice or batch has answered, once a call of this act has answered this
abbrev pub outcome_of_act : (act : Act) → Now → Answered act → Now
outcome_of_act (Slice fuel) before said = said
outcome_of_act (Batch fuel most) before said = said
outcome_of_act Checkpoint before said = before
outcome_of_act Upgrade before said = before

-- What the last slice or batch of these calls has answered, of those without an error; where there
-- is none, what was answered before them.
abbrev pub outcome_after : {D S O : Type 0} {medium : D → Medium} {gives : Giving S}
    {takes : Taking O} {acts : List Act} {before : Scene D S O}
    {undone : Result (List Act) RecoverFault} {last : Surroundings D S O} → Now
    → CallsInOrder medium gives takes acts before undone last → Now
outcome_after before no_more = before
outcome_after before (called {act = act} said keeps others) =
    outcome_after (outcome_of_act act before said) others
outcome_after before (call_failed keeps cause) = before

-- the same of a life; where there is none, nothing has ended the worker
abbrev pub life_outcome : {D S O : Type 0} {medium : D → Medium} {gives : Giving S}
    {takes : Taking O} {made_of : Recipe} {acts : List Act} {found : Surroundings D S O}
    {life : OneLife D S O} → IsOneLife medium gives takes made_of acts found life → Now
life_outcome (opened begun calls) = outcome_after Spent calls
life_outcome (unopened begun) = Spent
