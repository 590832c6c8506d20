use Rattle.worker_store.proofs.LawLemmas.CallEnds.{spent_slices_end, ended_slices_end}
use Rattle.worker_store.proofs.LawLemmas.CallEnds.{waiting_slices_end, failed_slices_end}
use Rattle.worker_store.proofs.LawLemmas.CallEnds.{done_saves_end, failed_saves_end, slices_begin}
use Rattle.worker_store.proofs.LawLemmas.CallEnds.{calls_leave_between}
use Rattle.worker_store.proofs.events.calls_end.Goals as goal

pub returns-clause-spent : goal.returns-clause-spent
returns-clause-spent c = spent_slices_end

pub returns-clause-ended : goal.returns-clause-ended
returns-clause-ended c = ended_slices_end

pub returns-clause-waiting : goal.returns-clause-waiting
returns-clause-waiting c = waiting_slices_end

pub returns-clause-failed : goal.returns-clause-failed
returns-clause-failed c = failed_slices_end

pub returns-clause-saved : goal.returns-clause-saved
returns-clause-saved c = done_saves_end

pub returns-clause-not_saved : goal.returns-clause-not_saved
returns-clause-not_saved c = failed_saves_end

pub returns-clause-begins : goal.returns-clause-begins
returns-clause-begins c = slices_begin

pub returns-clause-between : goal.returns-clause-between
returns-clause-between c = calls_leave_between
