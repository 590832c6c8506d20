use Rattle.std.proofs.Common.{ℕ, List, [], ◌∷◌, ◌++◌, subst, ◌∙◌}
use Rattle.std.specs.Fmt.{decimal}
use Rattle.command_words.specs.rules.Texts.{letter_of}
use Rattle.command_words.specs.rules.Printers.{IsPrinted, StopsPrinting}
use Rattle.command_words.proofs.FrontLemmas.{writes, stops, stops_first, stops_then, prints_then}
use Rattle.command_words.proofs.LineLemmas.Printed.{prints_both}
use Rattle.command_words.proofs.lines.printing.write_parts.Goals as goal

pub returns-in_err-write_all : goal.returns-in_err-write_all
returns-in_err-write_all g c =
    let old = c.args.out.now in
    let new = c.write_all.new.self in
    let h = c.in_err-write_all.ensures in
    let digits = decimal c.args.number in
    let letter = letter_of c.args.stream in
    let text = c.args.text.now in
    let end : List ℕ = 10 ∷ [] in
    stops old new (digits ++ letter ++ text ++ end) c.from_residual.result
    c.from_residual.ensures.0
    (stops_first old new (digits ++ letter ++ text) end
    (stops_first old new (digits ++ letter) text
    (stops_first old new digits letter
    (subst (StopsPrinting old new) (c.as_bytes.ensures.value ∙ c.format.ensures.text)
    (h.front, h.failed)))))

pub returns-in_err-write_all-2 : goal.returns-in_err-write_all-2
returns-in_err-write_all-2 g c =
    let old = c.args.out.now in
    let one = c.write_all.new.self in
    let new = c.write_all-2.new.self in
    let h = c.in_ok-write_all.ensures in
    let k = c.in_err-write_all-2.ensures in
    let digits = decimal c.args.number in
    let letter = letter_of c.args.stream in
    let text = c.args.text.now in
    let end : List ℕ = 10 ∷ [] in
    stops old new (digits ++ letter ++ text ++ end) c.from_residual-in_err-write_all-2.result
    c.from_residual-in_err-write_all-2.ensures.0
    (stops_first old new (digits ++ letter ++ text) end
    (stops_first old new (digits ++ letter) text
    (stops_then old one new digits letter
    (subst (IsPrinted old one) (c.as_bytes.ensures.value ∙ c.format.ensures.text)
    (h.bytes, h.steady))
    (subst (StopsPrinting one new) c.letter.ensures (k.front, k.failed)))))

pub returns-in_err-write_all-3 : goal.returns-in_err-write_all-3
returns-in_err-write_all-3 g c =
    let old = c.args.out.now in
    let one = c.write_all.new.self in
    let two = c.write_all-2.new.self in
    let new = c.write_all-3.new.self in
    let h = c.in_ok-write_all.ensures in
    let i = c.in_ok-write_all-2.ensures in
    let k = c.in_err-write_all-3.ensures in
    let digits = decimal c.args.number in
    let letter = letter_of c.args.stream in
    let text = c.args.text.now in
    let end : List ℕ = 10 ∷ [] in
    stops old new (digits ++ letter ++ text ++ end) c.from_residual-in_err-write_all-3.result
    c.from_residual-in_err-write_all-3.ensures.0
    (stops_first old new (digits ++ letter ++ text) end
    (stops_then old two new (digits ++ letter) text
    (prints_both old one two digits letter
    (subst (IsPrinted old one) (c.as_bytes.ensures.value ∙ c.format.ensures.text)
    (h.bytes, h.steady))
    (subst (IsPrinted one two) c.letter.ensures (i.bytes, i.steady))) (k.front, k.failed)))

pub returns : goal.returns
returns g c =
    let old = c.args.out.now in
    let one = c.write_all.new.self in
    let two = c.write_all-2.new.self in
    let three = c.write_all-3.new.self in
    let new = c.write_all-4.new.self in
    let h = c.in_ok-write_all.ensures in
    let i = c.in_ok-write_all-2.ensures in
    let j = c.in_ok-write_all-3.ensures in
    let k = c.write_all-4.ensures in
    let digits = decimal c.args.number in
    let letter = letter_of c.args.stream in
    let text = c.args.text.now in
    let end : List ℕ = 10 ∷ [] in
    prints_then old three new (digits ++ letter ++ text) end
    (prints_both old two three (digits ++ letter) text
    (prints_both old one two digits letter
    (subst (IsPrinted old one) (c.as_bytes.ensures.value ∙ c.format.ensures.text)
    (h.bytes, h.steady))
    (subst (IsPrinted one two) c.letter.ensures (i.bytes, i.steady))) (j.bytes, j.steady))
    c.write_all-4.result
    (writes three new end c.write_all-4.result k.bytes k.front k.steady k.failed)
