use Rattle.record_replay.proofs.OneRecording.{records_are_runs, one_recorded}
use Rattle.record_replay.proofs.laws.records_lead_to_one_process.Goals as goal

pub returns-clause-runs : goal.returns-clause-runs
returns-clause-runs c = records_are_runs

pub returns-clause-one : goal.returns-clause-one
returns-clause-one c = one_recorded
