use Rattle.process_rules.proofs.Succeeding.{succeeds_once, successors_have_come_from}
use Rattle.process_rules.proofs.Succeeding.{each_may_succeed, one_successor, answers_join}
use Rattle.process_rules.proofs.laws.successors_come_first.Goals as goal

pub returns-clause-first : goal.returns-clause-first
returns-clause-first c = succeeds_once

pub returns-clause-on : goal.returns-clause-on
returns-clause-on c = successors_have_come_from

pub returns-clause-each : goal.returns-clause-each
returns-clause-each c = each_may_succeed

pub returns-clause-one : goal.returns-clause-one
returns-clause-one c = one_successor

pub returns-clause-answers : goal.returns-clause-answers
returns-clause-answers c = answers_join
