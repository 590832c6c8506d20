-- What comes behind the last question of a call.
use Rattle.std.proofs.Common.{ℕ, List}
use Rattle.worker_store.specs.restart_theorem.Lives.{Act}
use Rattle.worker_store.specs.restart_theorem.Courses.{Phase, Shut, Unheard, Open, NoneThere}
use Rattle.worker_store.specs.restart_theorem.Courses.{Broken, Closed, HasLastAsked, IsInBatch}
use Rattle.worker_store.specs.restart_theorem.Courses.{IsWithinSlice, IsToldIn, IsAskedIn}

-- no question,
pub none_asked : (phase : Phase) (acts : List Act) (step steps : ℕ) → HasLastAsked phase
    → IsAskedIn phase acts step steps → ⊥
none_asked (NoneThere n) acts step steps asked again = again
none_asked (Broken cause) acts step steps asked again = again
none_asked Shut acts step steps asked again = asked
none_asked Unheard acts step steps asked again = asked
none_asked Open acts step steps asked again = asked
none_asked (Closed cause) acts step steps asked again = asked

-- lines only in a batch,
pub told_in_batch : (phase : Phase) (acts : List Act) (step steps : ℕ) → HasLastAsked phase
    → IsToldIn phase acts step steps → IsInBatch acts
told_in_batch (NoneThere n) acts step steps asked told = told.1
told_in_batch (Broken cause) acts step steps asked told = told.1
told_in_batch Shut acts step steps asked told = absurd asked
told_in_batch Unheard acts step steps asked told = absurd asked
told_in_batch Open acts step steps asked told = absurd asked
told_in_batch (Closed cause) acts step steps asked told = absurd asked

-- and there each line to whose step it has come
pub told_late : (phase : Phase) (acts : List Act) (step steps : ℕ) → HasLastAsked phase
    → IsInBatch acts → IsWithinSlice acts step steps → IsToldIn phase acts step steps
told_late (NoneThere n) acts step steps asked batch within = (asked, batch, within)
told_late (Broken cause) acts step steps asked batch within = (asked, batch, within)
told_late Shut acts step steps asked batch within = absurd asked
told_late Unheard acts step steps asked batch within = absurd asked
told_late Open acts step steps asked batch within = absurd asked
told_late (Closed cause) acts step steps asked batch within = absurd asked
