use Rattle.std.proofs.Common.{[], get_or, arith, ◌∙◌, refl}
use Rattle.std.proofs.lemmas.List.{length-set}
use Rattle.sector_disk.specs.declared.write.Write.{Write}
use Rattle.sector_disk.specs.laws.Beside.{all_same, beside_more}
use Rattle.sector_disk.proofs.memory.show_durable.Goals as goal

pub loop-write-preserved : goal.loop-write-preserved
loop-write-preserved c =
    let d : Write = record { sector = 0; bytes = [] } in
    let w : Write = get_or c.args.writes.now c.loop-write.write-index d in
    let fits = c.requires.within c.loop-write.write-index d c.loop-write-test.true in (
      length-set c.loop-write.shown w.sector _ ∙ c.loop-write.invariant.0,
      beside_more c.args.writes.now c.loop-write.write-index d c.loop-write.shown
          c.args.durable.now _ c.loop-write-test.true
          (omega (arith, fits.within, c.loop-write.invariant.0)) refl c.loop-write.invariant.1,
    )

pub returns : goal.returns
returns c =
    all_same c.args.writes.now c.loop-write.write-index c.loop-write.shown c.args.durable.now
    (omega (arith, c.loop-write-test.false)) c.loop-write.invariant.0 c.loop-write.invariant.1
