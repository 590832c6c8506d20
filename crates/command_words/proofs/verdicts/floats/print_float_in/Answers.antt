use Rattle.std.proofs.Common.{◌++◌, ◌∙◌, sym, ap, codes, ℕ, List, Option}
use Rattle.std.specs.Fmt.{decimal}
use Rattle.command_words.specs.rules.Floats.{float_at, float_name}
use Rattle.command_words.proofs.ListingLemmas.{prints_as, three_in_order, five_in_order}
use Rattle.command_words.proofs.verdicts.floats.print_float_in.Goals as goal

pub returns-in-Some-clause-printed : goal.returns-in-Some-clause-printed
returns-in-Some-clause-printed g c =
    let vt = c.in-Some.words.value_type.now in
    let op = c.in-Some.words.operation.now in
    let number = decimal c.args.number in
    let text : Option (List ℕ × List ℕ) → List ℕ =
    λ n. float_name n ++ codes " in function " ++ number ++ codes "\n" in
    prints_as c.writeln.result c.args.out.now c.writeln.new.self
    (vt ++ (op ++ (codes " in function " ++ (number ++ codes "\n"))))
    (text (float_at c.args.wasm.now c.args.at))
    (five_in_order vt op (codes " in function ") number (codes "\n")
    ∙ ap text (sym c.in-Some.ensures)) c.writeln.ensures.bytes c.writeln.ensures.steady

pub returns-in-None-clause-printed : goal.returns-in-None-clause-printed
returns-in-None-clause-printed g c =
    let number = decimal c.args.number in
    let text : Option (List ℕ × List ℕ) → List ℕ =
    λ n. float_name n ++ codes " in function " ++ number ++ codes "\n" in
    prints_as c.writeln-in-None.result c.args.out.now c.writeln-in-None.new.self
    (codes "a float in function " ++ (number ++ codes "\n"))
    (text (float_at c.args.wasm.now c.args.at))
    (three_in_order (codes "a float in function ") number (codes "\n")
    ∙ ap text (sym c.in-None.ensures)) c.writeln-in-None.ensures.bytes
    c.writeln-in-None.ensures.steady
