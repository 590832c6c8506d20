use Rattle.std.proofs.Common.{◌∙◌, Err, arith, refl}
use Rattle.worker.proofs.KeptLemmas.{all_read, read_more, read_now}
use Rattle.worker.proofs.story.starting.sectors_of.Goals as goal

pub loop-place-init : goal.loop-place-init
loop-place-init c = (refl, c.new-sectors.ensures.items)

pub unreachable-requires : goal.unreachable-requires
unreachable-requires c =
    c.in_default.not-Ok tt
    (c.in_default.is
    ∙ read_now c.args.disk.now c.loop-place.disk c.loop-place.place (Err c.in_default.field-0)
    c.loop-place.invariant.0 (omega (arith, c.loop-place-test.true, c.sectors-place-end.ensures))
    c.in_default.ensures.answer)

pub returns-in_err-push-clause-same : goal.returns-in_err-push-clause-same
returns-in_err-push-clause-same c = c.in-Ok.ensures.same ∙ c.loop-place.invariant.0

pub loop-place-preserved : goal.loop-place-preserved
loop-place-preserved c = (
  c.in-Ok.ensures.same ∙ c.loop-place.invariant.0,
  read_more c.loop-place.disk c.args.disk.now c.loop-place.sectors.items c.push.new.self.items
      c.read.new.into c.loop-place.place c.loop-place.invariant.0
      (omega (arith, c.loop-place-test.true, c.sectors-place-end.ensures))
      c.loop-place.invariant.1 c.in-Ok.ensures.bytes c.in_ok-push.ensures.items,
)

pub returns-clause-same : goal.returns-clause-same
returns-clause-same c = c.loop-place.invariant.0

pub returns-clause-shown : goal.returns-clause-shown
returns-clause-shown c =
    all_read c.args.disk.now c.loop-place.sectors.items c.loop-place.place
    (omega (arith, c.loop-place-test.false, c.sectors-place-end.ensures)) c.loop-place.invariant.1
