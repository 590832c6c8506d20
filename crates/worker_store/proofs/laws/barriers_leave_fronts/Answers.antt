use Rattle.worker_store.proofs.LawLemmas.Fronts.{recorded_once, barrier_leaves_front}
use Rattle.worker_store.proofs.LawLemmas.Fronts.{barrier_leaves_all, front_stands, barrier_stands}
use Rattle.worker_store.proofs.laws.barriers_leave_fronts.Goals as goal

pub returns-clause-recorded : goal.returns-clause-recorded
returns-clause-recorded c = recorded_once

pub returns-clause-front : goal.returns-clause-front
returns-clause-front c = barrier_leaves_front

pub returns-clause-all : goal.returns-clause-all
returns-clause-all c = barrier_leaves_all

pub returns-clause-stands : goal.returns-clause-stands
returns-clause-stands c = front_stands

pub returns-clause-answers : goal.returns-clause-answers
returns-clause-answers c = barrier_stands
