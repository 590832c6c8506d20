use Rattle.disk_commands.proofs.SuccessorLemmas.{goes_on_printed}
use Rattle.disk_commands.proofs.on_disk.successor.print_goes_on.Goals as goal

pub returns-clause-printed : goal.returns-clause-printed
returns-clause-printed g c =
    goes_on_printed c.writeln.result c.args.requests c.args.lines c.args.out.now
    c.writeln.new.self c.writeln.ensures.bytes c.writeln.ensures.steady
