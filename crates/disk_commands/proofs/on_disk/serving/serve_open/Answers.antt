use Rattle.std.proofs.Common.{◌∙◌, ap, refl, subst, sym, Ok, Err, None}
use Rattle.std.specs.Prelude.{IfSome}
use Rattle.disk_commands.specs.rules.TrapFrames.{IsModuleOn}
use Rattle.disk_commands.proofs.OnDiskLemmas.{says_over}
use Rattle.disk_commands.proofs.WatchingLemmas.{watches_fault, watches_end}
use Rattle.command_words.specs.FunctionNames.{lent_bytes}
use Rattle.disk_commands.proofs.on_disk.serving.serve_open.Goals as goal

pub returns-in-Ok-clause-serves : goal.returns-in-Ok-clause-serves
returns-in-Ok-clause-serves g c = (
  c.tell_recovered.new.err,
  Ok c.in-Ok.now,
  c.go_on.new.source.requests.taken,
  c.go_on.new.disk,
  c.tell_recovered.ensures,
  c.in-Ok.ensures.gone,
  c.module_of_trapped-module.ensures.reads,
  lent_bytes c.lent.result,
  subst (λ bytes. IfSome bytes (IsModuleOn (g.D.Disk.medium c.module_of_trapped-module.new.disk)))
      (sym c.lent.ensures) c.module_of_trapped-module.ensures.shown,
  says_over (lent_bytes c.lent.result) c.is_terminal-is_heard.result c.args.err.now.on_terminal
      c.taken-taken.result c.go_on.new.source.requests.taken c.in-Ok.now c.tell_recovered.new.err
      c.say-status.result c.say-status.new.err c.is_terminal-is_heard.ensures
      (c.taken-taken.ensures ∙ ap (λ r. r.taken) c.requests.ensures) c.say-status.ensures,
)

pub returns-in-Ok-clause-watched : goal.returns-in-Ok-clause-watched
returns-in-Ok-clause-watched g c =
    watches_end (g.T.Watcher.is_notified c.args.drive.watcher.now) c.say-status.result
    c.say-status.new.err c.go_on.new.worker c.in-Ok.now c.tell_recovered.new.err
    c.is_terminal-is_heard.result c.taken-taken.result (lent_bytes c.lent.result)
    c.in-Ok.ensures.told.0 c.in-Ok.ensures.told.1 c.say-status.ensures

pub returns-in-Err-clause-serves : goal.returns-in-Err-clause-serves
returns-in-Err-clause-serves g c = (
  c.tell_recovered.new.err,
  Err c.in-Err.fault,
  c.go_on.new.source.requests.taken,
  c.go_on.new.disk,
  c.tell_recovered.ensures,
  c.in-Err.ensures.gone,
  refl,
  None,
  tt,
  c.say_life_fault.ensures,
)

pub returns-in-Err-clause-watched : goal.returns-in-Err-clause-watched
returns-in-Err-clause-watched g c =
    watches_fault (g.T.Watcher.is_notified c.args.drive.watcher.now) c.say_life_fault.result
    c.say_life_fault.new.err c.in-Err.fault c.tell_recovered.new.err c.say_life_fault.ensures
