use Rattle.std.proofs.Common.{◌<◌, length}
use Rattle.command_words.proofs.VerdictLemmas.{none_before, one_more, read_there}
use Rattle.command_words.proofs.verdicts.imports.first_refused.Goals as goal

pub loop-import-init : goal.loop-import-init
loop-import-init c = none_before c.args.module.now.types c.args.module.now.imports

pub returns-then-not-is_offered : goal.returns-then-not-is_offered
returns-then-not-is_offered c =
    let m = c.args.module.now in
    let place = c.loop-import.import-index in
    let inside : place < length m.imports =
    rw c.as_slice-import-items.ensures at c.loop-import-test.true in
    record {
      place = place;
      is = read_there m.imports place c.import-item.result inside
          (rw c.as_slice-import-items.ensures at c.import-item.is);
      offered = c.loop-import.invariant;
      refused = λ offered.
          let yes = c.is_offered.ensures.1 (rw c.as_slice-types.ensures offered) in
          let no = c.if-not-is_offered.true in
          cc;
    }

pub loop-import-preserved : goal.loop-import-preserved
loop-import-preserved c =
    let m = c.args.module.now in
    let place = c.loop-import.import-index in
    let inside : place < length m.imports =
    rw c.as_slice-import-items.ensures at c.loop-import-test.true in
    one_more m.types m.imports place c.import-item.result
    (read_there m.imports place c.import-item.result inside
    (rw c.as_slice-import-items.ensures at c.import-item.is))
    (rw c.as_slice-types.ensures at (c.is_offered.ensures.0 c.if-not-is_offered.false))
    c.loop-import.invariant
