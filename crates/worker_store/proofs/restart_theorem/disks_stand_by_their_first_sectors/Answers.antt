use Rattle.worker_store.proofs.RestartLemmas.Disks.{stands_by_its_contents}
use Rattle.worker_store.proofs.RestartLemmas.Copies.{first_sectors_decide, lives_on_copies_go_on}
use Rattle.worker_store.proofs.RestartLemmas.Copies.{the_same_is_held, the_same_is_within}
use Rattle.worker_store.proofs.restart_theorem.disks_stand_by_their_first_sectors.Goals as goal

pub returns-clause-decide : goal.returns-clause-decide
returns-clause-decide g c = first_sectors_decide

pub returns-clause-contents : goal.returns-clause-contents
returns-clause-contents g c = stands_by_its_contents

pub returns-clause-held : goal.returns-clause-held
returns-clause-held g c = the_same_is_held

pub returns-clause-within : goal.returns-clause-within
returns-clause-within g c = the_same_is_within

pub returns-clause-lives : goal.returns-clause-lives
returns-clause-lives g c = lives_on_copies_go_on
