use Rattle.std.proofs.Common.{List, subst}
use Rattle.worker.specs.declared.story.life.PlannedLife.{PlannedLife}
use Rattle.worker.specs.declared.story.report.LifeReport.{LifeReport}
use Rattle.worker.specs.rules.StoryDisks.{TellsLives}
use Rattle.command_words.specs.rules.Printers.{printers}
use Rattle.story_commands.specs.Said.{SaysLives}
use Rattle.story_commands.proofs.TellingLemmas.{lives_told}
use Rattle.story_commands.proofs.stories.telling.tell.Goals as goal

pub returns-in-Ok-story : goal.returns-in-Ok-story
returns-in-Ok-story g c =
    let wasm = c.args.wasm.now in
    let out = c.args.out.now in
    let out' = c.say_lives.new.out in
    let err = c.args.err.now in
    let err' = c.say_lives.new.err in
    let prepared = c.in-Ok-prepare.prepared in
    let told = c.in-Ok-story.told in
    let status = c.say_lives.result in
    lives_told c.args.script.now wasm c.args.sizes out out' err err' c.in-Ok.lives
    c.in-Ok.ensures.read prepared c.in-Ok-prepare.ensures.prepared told.lives
    (subst (λ (z : List PlannedLife). TellsLives wasm prepared.config z told.lives)
    c.as_slice.ensures c.in-Ok-story.ensures) status
    (subst (λ (z : List LifeReport). SaysLives z (printers out err) (printers out' err') status)
    c.as_slice-in-Ok-story.ensures c.say_lives.ensures)
