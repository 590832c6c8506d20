use Rattle.std.proofs.Common.{codes, ◌∙◌}
use Rattle.std.proofs.lemmas.Result.{on_ok_weaker}
use Rattle.wasi_abi.specs.rules.Versions.{version_number}
use Rattle.command_words.specs.rules.Texts.{named_number}
use Rattle.command_words.proofs.PrinterLemmas.{names_as, prints_seven, writes_so}
use Rattle.disk_commands.proofs.on_disk.showing.spell_survey.Goals as goal

pub returns-clause-printed : goal.returns-clause-printed
returns-clause-printed g c =
    let survey = c.args.survey.now in
    on_ok_weaker c.write_all.result
    (prints_seven c.args.out.now c.print_number.new.out c.print_number-2.new.out
    c.print_number-3.new.out c.print_number-4.new.out c.print_number-5.new.out
    c.print_number-6.new.out c.write_all.new.self
    (named_number (codes "generation ") survey.generation)
    (named_number (codes " steps ") survey.steps)
    (named_number (codes " answers ") survey.answers)
    (named_number (codes " lines ") survey.lines)
    (named_number (codes " records ") survey.records)
    (named_number (codes " version ") (version_number survey.version)) (codes "\n")
    c.in_ok-print_number.ensures.printed c.in_ok-print_number-2.ensures.printed
    c.in_ok-print_number-3.ensures.printed c.in_ok-print_number-4.ensures.printed
    c.in_ok-print_number-5.ensures.printed
    (names_as c.print_number-5.new.out c.print_number-6.new.out (codes " version ")
    c.from.result (version_number survey.version) (c.from.ensures ∙ c.number.ensures)
    c.in_ok-print_number-6.ensures.printed))
    (writes_so c.write_all.result c.print_number-6.new.out c.write_all.new.self (codes "\n")
    c.write_all.ensures.bytes c.write_all.ensures.steady)
