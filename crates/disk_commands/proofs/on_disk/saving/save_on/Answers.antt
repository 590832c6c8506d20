use Rattle.std.proofs.Common.{Ok, Err, ℕ, subst, refl}
use Rattle.command_words.specs.rules.Printers.{printers}
use Rattle.command_words.specs.rules.Reports.{SaysLine, SaysOnOutput}
use Rattle.command_words.specs.declared.status.Status.TheVariants as exit
use Rattle.disk_commands.specs.rules.SavedCopies.{saved_line}
use Rattle.disk_commands.proofs.SavedLemmas.{none_or_copy}
use Rattle.disk_commands.proofs.on_disk.saving.save_on.Goals as goal

pub returns-in-Ok : goal.returns-in-Ok
returns-in-Ok g c =
    let original = g.D.Disk.medium c.copy_disk.new.original in
    let old = g.C.Disk.medium c.args.copy.now in
    let new = g.C.Disk.medium c.copy_disk.new.copy in
    let copied = c.in-Ok.ensures in
    record {
      answer = Ok c.in-Ok.field-0;
      copied = copied.copied;
      all_synced = copied.all_synced;
      any_moment = none_or_copy original old new copied.any_moment;
      only_read = copied.only_read;
      calls = copied.calls;
      cause = copied.cause;
      says = subst (λ (n : ℕ). SaysOnOutput (saved_line n) exit.Done
          (printers c.args.out.now c.args.err.now)
          (printers c.say_saved.new.out c.say_saved.new.err) c.say_saved.result)
          c.sectors-sectors.ensures c.say_saved.ensures;
    }

pub returns-in-Err : goal.returns-in-Err
returns-in-Err g c =
    let original = g.D.Disk.medium c.copy_disk.new.original in
    let old = g.C.Disk.medium c.args.copy.now in
    let new = g.C.Disk.medium c.copy_disk.new.copy in
    let copied = c.in-Err.ensures in
    record {
      answer = Err c.in-Err.fault;
      copied = copied.copied;
      all_synced = copied.all_synced;
      any_moment = none_or_copy original old new copied.any_moment;
      only_read = copied.only_read;
      calls = copied.calls;
      cause = copied.cause;
      says = (
        subst (λ words. SaysLine words exit.IoError c.args.err.now c.say_line.result
            c.say_line.new.out) c.words_of_copy.ensures c.say_line.ensures,
        refl,
      );
    }
