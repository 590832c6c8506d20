use Rattle.worker_store.proofs.RestartLemmas.FileLives.{opened_after_cut, lives_on_files}
use Rattle.worker_store.proofs.RestartLemmas.FileLives.{promised_lives_on_files, zeros_are_blank}
use Rattle.worker_store.proofs.restart_theorem.lives_on_files_go_on.Goals as goal

pub returns-clause-found : goal.returns-clause-found
returns-clause-found g c = opened_after_cut

pub returns-clause-lives : goal.returns-clause-lives
returns-clause-lives g c = lives_on_files

pub returns-clause-promised : goal.returns-clause-promised
returns-clause-promised g c = promised_lives_on_files

pub returns-clause-made : goal.returns-clause-made
returns-clause-made g c = zeros_are_blank
