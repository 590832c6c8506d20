use Rattle.std.proofs.Common.{codes, subst}
use Rattle.std.specs.Prelude.{OnOk}
use Rattle.command_words.specs.rules.Printers.{IsPrinted}
use Rattle.disk_commands.specs.rules.Metrics.{metric}
use Rattle.disk_commands.proofs.on_disk.metrics.print_exit_code.Goals as goal

pub returns-clause-printed : goal.returns-clause-printed
returns-clause-printed g c =
    subst (λ n. OnOk c.print_metric.result (IsPrinted c.args.out.now c.print_metric.new.out
    (metric (codes "wasmhost_exit_code") (codes "Code that it has exited with, or 0.")
    (codes "gauge") c.args.label.now n))) c.exit_code.ensures c.print_metric.ensures.printed
