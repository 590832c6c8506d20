use Rattle.std.proofs.Common.{◌++◌, codes}
use Rattle.std.specs.Fmt.{decimal}
use Rattle.command_words.proofs.ListingLemmas.{five_in_order, prints_as}
use Rattle.command_words.proofs.verdicts.listing.print_fault_in.Goals as goal

pub returns-in-Malformed-clause-printed : goal.returns-in-Malformed-clause-printed
returns-in-Malformed-clause-printed g c =
    let at = decimal c.in-Malformed.at in
    let number = decimal c.args.number in
    rw c.in-Malformed.is (prints_as c.writeln.result c.args.out.now c.writeln.new.self
    (codes "malformed at byte " ++ (at ++ (codes ", in function " ++ (number ++ codes "\n"))))
    (codes "malformed at byte " ++ at ++ codes ", in function " ++ number ++ codes "\n")
    (five_in_order (codes "malformed at byte ") at (codes ", in function ") number (codes "\n"))
    c.writeln.ensures.bytes c.writeln.ensures.steady)
