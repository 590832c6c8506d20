use Rattle.worker.proofs.succession.hand_over.Goals as goal

pub returns-then-not-is_parked : goal.returns-then-not-is_parked
returns-then-not-is_parked c = c.is_parked.ensures.at_work c.if-not-is_parked.true
