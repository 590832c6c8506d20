use Rattle.std.proofs.Common.{codes, ◌++◌}
use Rattle.std.proofs.lemmas.Result.{on_ok_weaker}
use Rattle.std.specs.Fmt.{decimal}
use Rattle.command_words.proofs.LineLemmas.Printed.{prints_both}
use Rattle.command_words.proofs.PrinterLemmas.{writes_so}
use Rattle.disk_commands.proofs.on_disk.metrics.print_sample.Goals as goal

pub returns-clause-printed : goal.returns-clause-printed
returns-clause-printed g c =
    let name = c.args.name.now in
    let label = c.args.label.now in
    let value = c.args.close.now ++ (decimal c.args.number ++ codes "\n") in
    on_ok_weaker c.writeln.result
    (prints_both c.args.out.now c.write_all.new.self c.writeln.new.self (name ++ label) value
    (prints_both c.args.out.now c.write.new.self c.write_all.new.self name label
    (c.in_ok-write.ensures.bytes, c.in_ok-write.ensures.steady)
    (c.in_ok-write_all.ensures.bytes, c.in_ok-write_all.ensures.steady)))
    (writes_so c.writeln.result c.write_all.new.self c.writeln.new.self value
    c.writeln.ensures.bytes c.writeln.ensures.steady)
