use Rattle.std.proofs.lemmas.Result.{on_ok_weaker}
use Rattle.command_words.proofs.LineLemmas.Printed.{prints_both}
use Rattle.disk_commands.specs.rules.Metrics.{numbers_text, state_text}
use Rattle.disk_commands.proofs.on_disk.metrics.print_metrics.Goals as goal

pub returns-clause-printed : goal.returns-clause-printed
returns-clause-printed g c =
    let label = c.args.label.now in
    let seen = c.args.seen.now in
    on_ok_weaker c.print_state.result
    (prints_both c.args.out.now c.print_numbers.new.out c.print_state.new.out
    (numbers_text label seen.position) (state_text label seen.state)
    c.in_ok-print_numbers.ensures.printed)
    c.print_state.ensures.printed
