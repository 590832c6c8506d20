use Rattle.record_replay.proofs.OneRecording.{refused_on_the_way}
use Rattle.record_replay.proofs.laws.refused_replays_are_on_the_way.Goals as goal

pub returns : goal.returns
returns c = refused_on_the_way
