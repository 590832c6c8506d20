use Rattle.std.proofs.Common.{codes, refl, subst, sym}
use Rattle.std.specs.Prelude.{OnOk}
use Rattle.command_words.specs.rules.Flaws.{flaw_line, flaw_words}
use Rattle.command_words.specs.rules.Printers.{IsPrinted}
use Rattle.disk_commands.proofs.LeavingLemmas.{no_flaw, then_printed}
use Rattle.disk_commands.proofs.on_disk.leaving.print_flaw_line.Goals as goal

pub returns-in_ok-print_flaw-in-Some-clause-printed
    : goal.returns-in_ok-print_flaw-in-Some-clause-printed
returns-in_ok-print_flaw-in-Some-clause-printed g c =
    subst (λ o. OnOk c.print_words.result (IsPrinted c.args.err.now c.print_words.new.err
    (flaw_line c.args.disk.now c.args.version o))) (sym c.in-Some.is)
    (then_printed c.print_words.result c.args.err.now c.print_flaw.new.err c.print_words.new.err
    (flaw_words c.args.disk.now c.args.version c.in-Some.flaw) (codes "\n")
    c.in_ok-print_flaw-in-Some.ensures.printed c.print_words.ensures.printed)

pub returns-in-None-clause-printed : goal.returns-in-None-clause-printed
returns-in-None-clause-printed g c =
    no_flaw c.args.disk.now c.args.version c.args.flaw c.args.err.now c.args.err.now c.in-None.is
    refl
