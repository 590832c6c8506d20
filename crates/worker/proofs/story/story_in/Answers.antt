use Rattle.worker.proofs.StartLemmas.{all_are_told}
use Rattle.worker.proofs.story.story_in.Goals as goal

pub returns : goal.returns
returns c =
    all_are_told c.args.wasm.now c.args.config.now c.args.lives.now c.new-told.result
    c.live_all.new.told c.in_ok-disk.disk c.in_ok-last.last c.new-told.ensures
    c.in_ok-disk.ensures c.in_ok-last.ensures.gone
