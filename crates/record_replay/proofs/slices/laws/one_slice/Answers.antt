use Rattle.record_replay.proofs.Alike.{one_slice}
use Rattle.record_replay.proofs.slices.laws.one_slice.Goals as goal

pub returns : goal.returns
returns c = one_slice
