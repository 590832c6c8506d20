use Rattle.std.proofs.Common.{codes, ap, ◌∙◌}
use Rattle.std.specs.Prelude.{is_some}
use Rattle.std.proofs.lemmas.Result.{on_ok_weaker}
use Rattle.command_words.specs.rules.Texts.{named_number}
use Rattle.command_words.proofs.PrinterLemmas.{names_as, prints_four}
use Rattle.disk_commands.specs.rules.ServedOnDisk.{awaited_words}
use Rattle.disk_commands.proofs.on_disk.serving.print_recovered.Goals as goal

pub returns-clause-printed : goal.returns-clause-printed
returns-clause-printed g c =
    let w = c.args.worker.now in
    on_ok_weaker c.print_awaited.result
    (prints_four c.args.err.now c.print_number.new.out c.print_number-2.new.out
    c.print_number-3.new.out c.print_awaited.new.err
    (named_number (codes "recovered generation ") w.store.journal.generation)
    (named_number (codes " at step ") w.process.steps)
    (named_number (codes ", replayed ") w.replayed)
    (awaited_words (is_some w.process.ended) w.process.requests)
    (names_as c.args.err.now c.print_number.new.out (codes "recovered generation ")
    c.generation.result w.store.journal.generation c.generation.ensures
    c.in_ok-print_number.ensures.printed)
    (names_as c.print_number.new.out c.print_number-2.new.out (codes " at step ")
    c.steps.result w.process.steps
    (c.steps.ensures.value ∙ ap (λ p. p.steps) c.process.ensures)
    c.in_ok-print_number-2.ensures.printed)
    (names_as c.print_number-2.new.out c.print_number-3.new.out (codes ", replayed ")
    c.replayed.result w.replayed c.replayed.ensures c.in_ok-print_number-3.ensures.printed))
    c.print_awaited.ensures.printed
