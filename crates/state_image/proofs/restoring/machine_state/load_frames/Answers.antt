use Rattle.state_image.proofs.RestoreLemmas.Loaded.{no_number_of_places, places_counted}
use Rattle.state_image.proofs.RestoreLemmas.Loaded.{no_counted_places}
use Rattle.state_image.proofs.RestoreLemmas.MachineRead.{when_done}
use Rattle.state_image.proofs.restoring.machine_state.load_frames.Goals as goal

pub returns-in_default-clause-refused : goal.returns-in_default-clause-refused
returns-in_default-clause-refused c refused places rest may is =
    no_number_of_places c.args.machine.now.state.frames c.args.reader.now c.count.new.self
    c.in_default.ensures places rest may is

pub returns-clause-made : goal.returns-clause-made
returns-clause-made c =
    when_done c.load_places.result c.load_places.ensures.made (λ put.
    places_counted c.in-Some.count c.args.machine.now c.load_places.new.machine c.args.reader.now
    c.count.new.self c.load_places.new.reader c.in-Some.ensures put)

pub returns-clause-refused : goal.returns-clause-refused
returns-clause-refused c refused places rest may is =
    no_counted_places c.in-Some.count c.args.machine.now.state.frames c.args.reader.now
    c.count.new.self c.in-Some.ensures (c.load_places.ensures.refused refused) places rest may is
