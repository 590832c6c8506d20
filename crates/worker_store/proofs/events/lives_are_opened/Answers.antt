use Rattle.worker_store.proofs.LawLemmas.Reopening.{lines_are_retold, lines_are_retold_in_vain}
use Rattle.worker_store.proofs.LawLemmas.Reopening.{lives_open, fresh_holds_nothing}
use Rattle.worker_store.proofs.LawLemmas.Reopening.{fresh_lives_begin}
use Rattle.worker_store.proofs.events.lives_are_opened.Goals as goal

pub returns-clause-told : goal.returns-clause-told
returns-clause-told c = lines_are_retold

pub returns-clause-in_vain : goal.returns-clause-in_vain
returns-clause-in_vain c = lines_are_retold_in_vain

pub returns-clause-opens : goal.returns-clause-opens
returns-clause-opens c = lives_open

pub returns-clause-fresh : goal.returns-clause-fresh
returns-clause-fresh c = fresh_holds_nothing

pub returns-clause-begins : goal.returns-clause-begins
returns-clause-begins c = fresh_lives_begin
