use Rattle.std.proofs.lemmas.Result.{on_ok_weaker}
use Rattle.command_words.specs.FunctionNames.{lent_bytes}
use Rattle.disk_commands.specs.TrapFrames.{told_frame}
use Rattle.disk_commands.proofs.on_disk.trap_frames.print_frame.Goals as goal

pub returns-clause-printed : goal.returns-clause-printed
returns-clause-printed g c =
    on_ok_weaker c.print_line.result
    (λ printed. (
      told_frame c.args.frame (lent_bytes c.name_in.result),
      c.name_in.ensures,
      printed,
    )) c.print_line.ensures.printed
