use Rattle.std.proofs.Common.{arith}
use Rattle.std.proofs.lemmas.Result.{on_ok_weaker}
use Rattle.command_words.specs.FunctionNames.{lent_bytes}
use Rattle.disk_commands.proofs.TrapFrameLemmas.{frames_are_more, frames_begin, frames_end}
use Rattle.disk_commands.proofs.TrapFrameLemmas.{frames_go_on}
use Rattle.disk_commands.proofs.on_disk.trap_frames.print_frames.Goals as goal

pub loop-index-init : goal.loop-index-init
loop-index-init g c = frames_begin (lent_bytes c.args.module) c.args.err.now

pub returns-in_default-clause-printed : goal.returns-in_default-clause-printed
returns-in_default-clause-printed g c =
    frames_end (lent_bytes c.args.module) c.args.err.now c.loop-index.index c.loop-index.err
    c.loop-index.invariant (omega (arith, c.loop-index-test.true))

pub loop-index-preserved : goal.loop-index-preserved
loop-index-preserved g c =
    frames_go_on (lent_bytes c.args.module) c.args.err.now c.loop-index.index c.loop-index.err
    c.loop-index.invariant c.print_frame.new.err c.in_ok-print_frame.ensures.printed

pub returns-clause-printed : goal.returns-clause-printed
returns-clause-printed g c =
    on_ok_weaker c.print_more.result
    (frames_are_more (lent_bytes c.args.module) c.args.err.now c.loop-index.index c.loop-index.err
    c.loop-index.invariant (omega (arith, c.loop-index-test.false)) c.saturating_sub.result
    c.print_more.new.err)
    c.print_more.ensures.printed
