use Rattle.std.proofs.Common.{◌-◌, ◌++◌, ◌∙◌, List, ap, length, take, drop, take-append-drop}
use Rattle.std.proofs.lemmas.List.{take_rest}
use Rattle.worker.specs.declared.story.life.PlannedLife.{PlannedLife}
use Rattle.worker.proofs.StartLemmas.{halted_are_told, have_started}
use Rattle.worker.proofs.story.story_with_start.Goals as goal

pub returns-clause-told : goal.returns-clause-told
returns-clause-told c =
    let lives = c.args.lives.now in
    let place = c.args.place in
    halted_are_told c.args.wasm.now c.args.config.now lives (take place lives)
    (take (length lives - place) (drop place lives)) c.new-told.result c.live_all.new.told
    c.live_all-2.new.told c.in_ok-disk.disk c.in_ok-left.left c.of.new.disk c.in_ok-last.last
    c.new-told.ensures c.of.ensures.same
    (ap (λ (rest : List PlannedLife). take place lives ++ rest) (take_rest lives place)
    ∙ take-append-drop place lives) c.in_ok-disk.ensures c.in_ok-left.ensures.gone
    c.in_ok-last.ensures.gone

pub returns-clause-start : goal.returns-clause-start
returns-clause-start c =
    have_started c.args.wasm.now c.args.config.now c.args.lives.now _ c.args.place
    c.new-told.result c.live_all.new.told c.live_all-2.new.told c.in_ok-disk.disk
    c.in_ok-left.left c.in_ok-start.start c.requires c.new-told.ensures c.in_ok-disk.ensures
    c.in_ok-left.ensures.gone c.in_ok-left.ensures.more c.in_ok-last.ensures.more
    c.in_ok-start.ensures.kept
