use Rattle.std.proofs.Common.{arith}
use Rattle.worker_store.proofs.laws.process_images_fit_areas.Goals as goal

pub returns : goal.returns
returns c m config s wasm typed =
    let few = c.process_images_have_room.ensures.room m config s typed in omega (arith, few)
