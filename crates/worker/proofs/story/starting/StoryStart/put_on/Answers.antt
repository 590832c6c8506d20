use Rattle.worker.proofs.KeptLemmas.{none_put}
use Rattle.worker.proofs.story.starting.StoryStart.put_on.Goals as goal

pub loop-place-init : goal.loop-place-init
loop-place-init c = none_put c.args.self.now c.args.disk.now c.requires.size c.requires.synced
