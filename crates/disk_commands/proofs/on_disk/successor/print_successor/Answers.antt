use Rattle.disk_commands.proofs.SuccessorLemmas.{successor_printed}
use Rattle.disk_commands.proofs.on_disk.successor.print_successor.Goals as goal

pub returns-clause-printed : goal.returns-clause-printed
returns-clause-printed g c =
    let numbers = c.args.numbers in
    successor_printed c.flush.result c.args.out.now c.writeln.new.self c.print_goes_on.new.out
    c.print_dropped.new.out c.flush.new.self c.args.sectors numbers.requests numbers.lines
    numbers.dropped c.in_ok-writeln.ensures.bytes c.in_ok-writeln.ensures.steady
    c.in_ok-print_goes_on.ensures.printed c.in_ok-print_dropped.ensures.printed
    c.flush.ensures.bytes c.flush.ensures.steady
