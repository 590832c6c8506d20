use Rattle.std.proofs.Common.{codes, subst}
use Rattle.std.proofs.lemmas.Result.{on_ok_weaker}
use Rattle.command_words.specs.rules.Printers.{IsPrinted}
use Rattle.command_words.proofs.LineLemmas.Printed.{prints_both}
use Rattle.disk_commands.specs.rules.Metrics.{comment, metric_sample}
use Rattle.disk_commands.proofs.on_disk.metrics.print_metric.Goals as goal

pub returns-clause-printed : goal.returns-clause-printed
returns-clause-printed g c =
    let name = c.args.name.now in
    let label = c.args.label.now in
    on_ok_weaker c.print_sample.result
    (λ printed. prints_both c.args.out.now c.print_comment.new.out c.print_sample.new.out
    (comment name c.args.help.now c.args.kind.now)
    (metric_sample name label (codes "} ") c.args.number) c.in_ok-print_comment.ensures.printed
    (subst (λ n. IsPrinted c.print_comment.new.out c.print_sample.new.out
    (metric_sample name label (codes "} ") n)) c.from.ensures printed))
    c.print_sample.ensures.printed
