use Rattle.std.proofs.Common.{codes, ◌++◌}
use Rattle.std.proofs.lemmas.Result.{on_ok_weaker}
use Rattle.command_words.proofs.LineLemmas.Printed.{prints_both}
use Rattle.command_words.proofs.PrinterLemmas.{writes_so}
use Rattle.command_words.proofs.function_names.print_name.Goals as goal

pub returns-in_ok-write_all-in-Some-2-clause-printed :
    goal.returns-in_ok-write_all-in-Some-2-clause-printed
returns-in_ok-write_all-in-Some-2-clause-printed g c =
    let name = c.in-Some.name.now in
    let first = c.write_all.new.self in
    let second = c.write_all-in-Some.new.self in
    let third = c.write_all-in-Some-2 in
    rw c.in-Some.is (on_ok_weaker third.result
    (prints_both c.args.out.now second third.new.self (codes " (" ++ name) (codes ")")
    (prints_both c.args.out.now first second (codes " (") name
    (c.in_ok-write_all-in-Some.ensures.bytes, c.in_ok-write_all-in-Some.ensures.steady)
    (c.in_ok-write_all-in-Some-2.ensures.bytes, c.in_ok-write_all-in-Some-2.ensures.steady)))
    (writes_so third.result second third.new.self (codes ")") third.ensures.bytes
    third.ensures.steady))
