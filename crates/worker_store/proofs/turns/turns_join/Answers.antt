use Rattle.worker_store.proofs.LawLemmas.TurnLemmas.{turns_join, turns_carry, rests_go_on}
use Rattle.worker_store.proofs.LawLemmas.TurnLemmas.{lines_carry}
use Rattle.worker_store.proofs.turns.turns_join.Goals as goal

pub returns-clause-joined : goal.returns-clause-joined
returns-clause-joined g c = turns_join g.D.Disk.medium

pub returns-clause-carried : goal.returns-clause-carried
returns-clause-carried g c = turns_carry g.D.Disk.medium

pub returns-clause-rests : goal.returns-clause-rests
returns-clause-rests g c = rests_go_on g.D.Disk.medium

pub returns-clause-lines : goal.returns-clause-lines
returns-clause-lines g c = lines_carry g.D.Disk.medium
