use Rattle.std.proofs.Common.{arith}
use Rattle.wasi_calls.proofs.Parts.{next_no_slash, names_cut, names_uncut}
use Rattle.wasi_calls.proofs.paths.form.split.Goals as goal

pub returns-then-bytes-index-eq47-clause-names : goal.returns-then-bytes-index-eq47-clause-names
returns-then-bytes-index-eq47-clause-names c =
    names_cut c.loop-index.index c.args.bytes.now c.loop-index.invariant c.loop-index-test.true
    c.if-bytes-index-eq47.true

pub loop-index-preserved : goal.loop-index-preserved
loop-index-preserved c =
    next_no_slash c.loop-index.index c.args.bytes.now c.loop-index.invariant
    c.if-bytes-index-eq47.false

pub returns-clause-names : goal.returns-clause-names
returns-clause-names c =
    let within = c.loop-index.auto.index-end in
    let at_end = c.loop-index-test.false in
    names_uncut c.loop-index.index c.args.bytes.now c.loop-index.invariant
    (omega (arith, within, at_end))
