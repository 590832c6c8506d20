use Rattle.std.proofs.Common.{List, refl, subst, sym}
use Rattle.worker.specs.declared.story.life.PlannedLife.{PlannedLife}
use Rattle.command_words.specs.rules.Pieces.{lines_of}
use Rattle.story_commands.specs.rules.Sweeps.{AreSweptLives}
use Rattle.story_commands.proofs.SweepLemmas.Statuses.{ended_now, refused_now}
use Rattle.story_commands.proofs.sweeping.telling.sweep_read.Goals as goal

pub returns-in-Ok : goal.returns-in-Ok
returns-in-Ok g c = λ script spelled.
    let choice = c.args.choice in
    let place = c.args.swept.now.place in
    ended_now script c.args.wasm.now choice.sizes choice.fronts.now choice.life c.args.out.now
    c.say_end.new.out c.args.err.now c.sweep_lives-ended.new.err c.say_end.new.err
    c.as_slice.result.now place
    (subst (λ (lives : List PlannedLife). AreSweptLives (lines_of script) choice.life lives place)
    (sym c.as_slice.ensures) spelled)
    c.in-Ok.prepared c.in-Ok.ensures.prepared c.sweep_lives-ended.result
    c.sweep_lives-ended.ensures.swept c.sweep_lives-ended.ensures.failed
    c.sweep_lives-ended.ensures.heeded c.sweep_lives-ended.ensures.quiet c.say_end.result
    c.say_end.ensures

pub returns-in-Err : goal.returns-in-Err
returns-in-Err g c = λ script spelled.
    let choice = c.args.choice in
    refused_now script c.args.wasm.now choice.sizes choice.fronts.now choice.life c.args.out.now
    c.args.out.now c.args.err.now c.report_unprepared.new.err c.in-Err.fault
    c.report_unprepared.result c.report_unprepared.ensures.status refl
