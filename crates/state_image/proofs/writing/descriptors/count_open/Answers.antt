use Rattle.std.proofs.Common.{length, refl, arith}
use Rattle.std.proofs.lemmas.Option.{slice_get_read}
use Rattle.state_image.proofs.Opened.{count_more}
use Rattle.state_image.proofs.writing.descriptors.count_open.Goals as goal

pub loop-descriptor-preserved : goal.loop-descriptor-preserved
loop-descriptor-preserved c =
    let ds = c.args.descriptors.now in
    let i = c.loop-descriptor.descriptor-index in
    let o = c.descriptor-item.result in
    let is = slice_get_read ds (length ds) i o refl c.loop-descriptor-test.true
    c.descriptor-item.is in
    let more = count_more ds i o is in record {
      is = omega (arith, more, c.open_count-count.ensures.count, c.loop-descriptor.invariant.is);
      few = omega (arith, c.open_count-count.ensures.few, c.loop-descriptor.invariant.few);
    }
