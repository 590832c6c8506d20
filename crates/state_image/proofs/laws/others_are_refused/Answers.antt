use Rattle.state_image.proofs.RefusalsHold.{counts_refused, streams_refused, machines_refused}
use Rattle.state_image.proofs.RefusalsHold.{files_refused, descriptors_refused}
use Rattle.state_image.proofs.laws.others_are_refused.Goals as goal

pub returns-clause-counts : goal.returns-clause-counts
returns-clause-counts c = counts_refused

pub returns-clause-streams : goal.returns-clause-streams
returns-clause-streams c = streams_refused

pub returns-clause-files : goal.returns-clause-files
returns-clause-files c = files_refused

pub returns-clause-descriptors : goal.returns-clause-descriptors
returns-clause-descriptors c = descriptors_refused

pub returns-clause-machines : goal.returns-clause-machines
returns-clause-machines c = machines_refused
