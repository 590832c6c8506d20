use Rattle.std.proofs.Common.{codes}
use Rattle.std.proofs.lemmas.Result.{on_ok_weaker}
use Rattle.command_words.proofs.PrinterLemmas.{prints_six}
use Rattle.disk_commands.specs.rules.Metrics.{left_metric, metric}
use Rattle.disk_commands.proofs.on_disk.metrics.print_numbers.Goals as goal

pub returns-clause-printed : goal.returns-clause-printed
returns-clause-printed g c =
    let label = c.args.label.now in
    let s = c.args.position.now in
    on_ok_weaker c.print_left_bytes.result
    (prints_six c.args.out.now c.print_metric.new.out c.print_metric-2.new.out
    c.print_metric-3.new.out c.print_metric-4.new.out c.print_metric-5.new.out
    c.print_left_bytes.new.out
    (metric (codes "wasmhost_generation") (codes "Number of the worker's newest snapshot.")
    (codes "gauge") label s.generation)
    (metric (codes "wasmhost_steps_total") (codes "Steps that the worker has taken.")
    (codes "counter") label s.steps)
    (metric (codes "wasmhost_answers_total") (codes "Answers that it has taken, requests too.")
    (codes "counter") label s.answers)
    (metric (codes "wasmhost_requests_total") (codes "Requests that it has taken.")
    (codes "counter") label s.requests)
    (metric (codes "wasmhost_lines_total") (codes "Lines that it has written.")
    (codes "counter") label s.lines) (left_metric label s.journal_left)
    c.in_ok-print_metric.ensures.printed c.in_ok-print_metric-2.ensures.printed
    c.in_ok-print_metric-3.ensures.printed c.in_ok-print_metric-4.ensures.printed
    c.in_ok-print_metric-5.ensures.printed)
    c.print_left_bytes.ensures.printed
