use Rattle.std.proofs.Common.{rules}
use Rattle.std.proofs.lemmas.Result.{err_from_is_err_and}
use Rattle.wasm_syntax.specs.laws.ReadingWithin.{module_within_at}
use Rattle.wasm_decode.proofs.ItemLemmas.Fails.{fails_as}
use Rattle.wasm_decode.specs.Sections.{held}
use Rattle.wasm_decode.specs.Contents.{contents_read}
use Rattle.wasm_decode.proofs.Modules.{too_long, no_header, not_made, made, at_fault}
use Rattle.wasm_decode.proofs.whole.module.Goals as goal

pub returns-then-bytes-gt-MODULE_BYTES : goal.returns-then-bytes-gt-MODULE_BYTES
returns-then-bytes-gt-MODULE_BYTES c = too_long c.args.bytes.now c.if-bytes-gt-MODULE_BYTES.true

pub returns-in_err-header : goal.returns-in_err-header
returns-in_err-header c =
    (let none = no_header c.args.bytes.now (rw c.new-decoder.ensures at c.in_err-header.ensures) in
    rw none (search rules))

pub returns-in_err-module : goal.returns-in_err-module
returns-in_err-module c =
    let p = err_from_is_err_and c.from_residual-in_err-module.result
    c.from_residual-in_err-module.ensures.1 in
    let bodies = c.split-sections.result.bodies in
    let header = rw c.new-decoder.ensures at c.in_ok-header.ensures in
    rw (p.1, p.2) (fails_as c.in_err-module.field-0.0 (contents_read (held bodies))
    (module_within_at c.args.bytes.now) (λ none.
    not_made c.args.bytes.now c.header.new.decoder tt bodies c.split-sections.result.fault
    c.if-bytes-gt-MODULE_BYTES.false header c.split-sections.ensures none)
    c.in_err-module.ensures)

pub returns-in-None : goal.returns-in-None
returns-in-None c = (let header = rw c.new-decoder.ensures at c.in_ok-header.ensures in
    made c.args.bytes.now c.header.new.decoder tt c.split-sections.result.bodies
    c.split-sections.result.fault c.in_ok-module.module c.if-bytes-gt-MODULE_BYTES.false header
    c.in-None.is c.split-sections.ensures c.in_ok-module.ensures)

pub returns-in-Some : goal.returns-in-Some
returns-in-Some c = (let header = rw c.new-decoder.ensures at c.in_ok-header.ensures in
    at_fault c.args.bytes.now c.header.new.decoder tt c.split-sections.result.bodies
    c.split-sections.result.fault c.in-Some.refusal c.if-bytes-gt-MODULE_BYTES.false header
    c.in-Some.is c.split-sections.ensures)
