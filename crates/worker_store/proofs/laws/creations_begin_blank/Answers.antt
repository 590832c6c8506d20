use Rattle.worker_store.proofs.LawLemmas.Creating.{no_super_is_blank, zeros_keep_blank}
use Rattle.worker_store.proofs.LawLemmas.Creating.{zeros_take_super, runs_keep_no_super}
use Rattle.worker_store.proofs.LawLemmas.Creating.{zeros_await_head, zero_runs_await_head}
use Rattle.worker_store.proofs.LawLemmas.Creating.{filling_awaits_head, first_commit_keeps_no_super}
use Rattle.worker_store.proofs.laws.creations_begin_blank.Goals as goal

pub returns-clause-blank : goal.returns-clause-blank
returns-clause-blank c = no_super_is_blank

pub returns-clause-torn : goal.returns-clause-torn
returns-clause-torn c = zeros_keep_blank

pub returns-clause-zeros : goal.returns-clause-zeros
returns-clause-zeros c = zeros_take_super

pub returns-clause-behind : goal.returns-clause-behind
returns-clause-behind c = runs_keep_no_super

pub returns-clause-awaits : goal.returns-clause-awaits
returns-clause-awaits c = zeros_await_head

pub returns-clause-runs : goal.returns-clause-runs
returns-clause-runs c = zero_runs_await_head

pub returns-clause-filled : goal.returns-clause-filled
returns-clause-filled c = filling_awaits_head

pub returns-clause-committed : goal.returns-clause-committed
returns-clause-committed c = first_commit_keeps_no_super
