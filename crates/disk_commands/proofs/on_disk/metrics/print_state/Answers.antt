use Rattle.std.proofs.Common.{codes}
use Rattle.std.proofs.lemmas.Result.{on_ok_weaker}
use Rattle.command_words.proofs.PrinterLemmas.{prints_seven}
use Rattle.disk_commands.specs.rules.Metrics.{comment, exit_metric, flag}
use Rattle.disk_commands.proofs.on_disk.metrics.print_state.Goals as goal

pub returns-clause-printed : goal.returns-clause-printed
returns-clause-printed g c =
    let label = c.args.label.now in
    let is = c.args.state in
    on_ok_weaker c.print_flag-5.result
    (prints_seven c.args.out.now c.print_exit_code.new.out c.print_comment.new.out
    c.print_flag.new.out c.print_flag-2.new.out c.print_flag-3.new.out c.print_flag-4.new.out
    c.print_flag-5.new.out (exit_metric label is)
    (comment (codes "wasmhost_state") (codes "Whether the worker is in this state.")
    (codes "gauge"))
    (flag label (codes ",state=\"running\"} ") is 0)
    (flag label (codes ",state=\"waiting\"} ") is 1)
    (flag label (codes ",state=\"parked\"} ") is 2)
    (flag label (codes ",state=\"exited\"} ") is 3)
    (flag label (codes ",state=\"trapped\"} ") is 4)
    c.in_ok-print_exit_code.ensures.printed c.in_ok-print_comment.ensures.printed
    c.in_ok-print_flag.ensures.printed c.in_ok-print_flag-2.ensures.printed
    c.in_ok-print_flag-3.ensures.printed c.in_ok-print_flag-4.ensures.printed)
    c.print_flag-5.ensures.printed
