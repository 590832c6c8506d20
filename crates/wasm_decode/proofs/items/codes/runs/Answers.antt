use Rattle.std.proofs.Common.{[]}
use Rattle.std.proofs.lemmas.Result.{err_from_is_err_and}
use Rattle.wasm_decode.specs.Items.Entries.{runs_onto_at}
use Rattle.wasm_decode.proofs.ItemLemmas.Fails.{fails_as}
use Rattle.wasm_decode.proofs.ItemLemmas.Locals.{runs_go_on, runs_fail, runs_are_done}
use Rattle.wasm_decode.proofs.items.codes.runs.Goals as goal

pub returns-in_err-locals : goal.returns-in_err-locals
returns-in_err-locals c =
    let p = err_from_is_err_and c.from_residual.result c.from_residual.ensures.1 in
    let total = runs_onto_at c.args.count [] c.args.decoder.now in
    rw (p.1, p.2) (fails_as c.in_err-locals.field-0.0 _ total (λ h.
    runs_fail c.loop.locals c.args.count c.loop.counter c.loop.decoder total c.loop-test.true h
    c.loop.invariant.all) c.in_err-locals.ensures.gives)

pub loop-preserved : goal.loop-preserved
loop-preserved c =
    record {
      all = runs_go_on c.loop.locals c.args.count c.loop.counter c.loop.decoder
          (runs_onto_at c.args.count [] c.args.decoder.now) c.in_ok-locals.locals c.run.new.decoder
          c.loop-test.true c.in_ok-locals.ensures.gives c.loop.invariant.all;
      few = c.in_ok-locals.ensures.few;
    }

pub returns : goal.returns
returns c = runs_are_done c.loop.locals c.args.count c.loop.counter c.loop.decoder
    (runs_onto_at c.args.count [] c.args.decoder.now) c.loop-test.false c.loop.invariant.all
