use Rattle.worker_store.proofs.LawLemmas.Creating.{first_commit_awaits_super, super_begins}
use Rattle.worker_store.proofs.LawLemmas.Creating.{whole_super_begins, fresh_stands_for_none}
use Rattle.worker_store.proofs.laws.creations_end_fresh.Goals as goal

pub returns-clause-awaits : goal.returns-clause-awaits
returns-clause-awaits c = first_commit_awaits_super

pub returns-clause-torn : goal.returns-clause-torn
returns-clause-torn c = super_begins

pub returns-clause-whole : goal.returns-clause-whole
returns-clause-whole c = whole_super_begins

pub returns-clause-fresh : goal.returns-clause-fresh
returns-clause-fresh c = fresh_stands_for_none
