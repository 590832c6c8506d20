use Rattle.std.proofs.Common.{◌≡◌, ◌∙◌, ap, sym, Some, true}
use Rattle.std.specs.Str.{bytes_eq}
use Rattle.std.proofs.lemmas.Slice.Eq.{bytes_eq-Decides}
use Rattle.machine.proofs.InstanceLemmas.Named.{found_there, found_only, further}
use Rattle.machine.proofs.instance.exports.find_export.Goals as goal

pub returns-then-eq-clause-there : goal.returns-then-eq-clause-there
returns-then-eq-clause-there c =
    let same = (bytes_eq-Decides c.as_slice.result.now c.args.name.now).0 (sym c.eq.ensures
    ∙ c.if-eq.true) in
    found_there c.args.exports.now c.loop-export.export-index c.loop-export-test.true
    c.export-item.is (sym c.as_slice.ensures ∙ same)

pub returns-then-eq-clause-only : goal.returns-then-eq-clause-only
returns-then-eq-clause-only c = λ distinct item x.
    let same = (bytes_eq-Decides c.as_slice.result.now c.args.name.now).0 (sym c.eq.ensures
    ∙ c.if-eq.true) in
    ap Some (found_only c.args.exports.now c.loop-export.export-index item c.loop-export-test.true
    c.export-item.is (sym c.as_slice.ensures ∙ same) distinct (c.loop-export.invariant item x))

pub loop-export-preserved : goal.loop-export-preserved
loop-export-preserved c = λ item x.
    further c.args.exports.now c.loop-export.export-index c.args.name.now item
    c.loop-export-test.true c.export-item.is (λ same.
    let met : bytes_eq c.as_slice.result.now c.args.name.now ≡ true =
    (bytes_eq-Decides c.as_slice.result.now c.args.name.now).1 (c.as_slice.ensures ∙ same) in
    let tested = c.eq.ensures in
    let failed = c.if-eq.false in
    cc)
    (c.loop-export.invariant item x)
