use Rattle.std.proofs.Common.{subst}
use Rattle.machine.specs.rules.Values.{MachineValue}
use Rattle.machine.specs.rules.Runs.{TellsEnd}
use Rattle.machine.proofs.Telling.{tells_end}
use Rattle.machine.proofs.running_machine.Machine.has_ended.Goals as goal

pub returns : goal.returns
returns c =
    let P : MachineValue → Type 0 = λ v. TellsEnd v c.is_empty.result in
    subst P c.self.view_is
    (tells_end c.self.inside.code c.self.inside.state c.self.inside.most_pages c.is_empty.result
    c.is_empty.ensures)
