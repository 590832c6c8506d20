use Rattle.state_image.proofs.RestoreLemmas.Lent.{fault_of}
use Rattle.state_image.proofs.RestoreLemmas.Loaded.{no_place_yet, place_more, places_refused}
use Rattle.state_image.proofs.restoring.machine_state.load_places.Goals as goal

pub loop-init : goal.loop-init
loop-init c = no_place_yet c.args.machine.now c.args.reader.now

pub loop-preserved : goal.loop-preserved
loop-preserved c =
    place_more c.loop.counter c.args.machine.now c.loop.machine c.load_place.new.machine
    c.args.reader.now c.loop.reader c.load_place.new.reader c.loop.invariant
    c.in_ok-load_place.ensures.made

pub returns-in_err-load_place-clause-refused : goal.returns-in_err-load_place-clause-refused
returns-in_err-load_place-clause-refused c refused places rest may is =
    places_refused c.loop.counter c.args.count c.args.machine.now c.loop.machine c.args.reader.now
    c.loop.reader c.loop-test.true c.loop.invariant
    (c.in_err-load_place.ensures.refused
    (fault_of c.from_residual.result _ c.from_residual.ensures.1 refused)) places rest may is
