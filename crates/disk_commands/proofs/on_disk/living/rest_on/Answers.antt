use Rattle.std.proofs.Common.{refl}
use Rattle.disk_commands.proofs.on_disk.living.rest_on.Goals as goal

pub returns-in-Ok-clause-rested : goal.returns-in-Ok-clause-rested
returns-in-Ok-clause-rested g c =
    let saves = c.in-Ok.ensures.saves c.requires in
    (refl, saves.carries, saves.process)

pub returns-in-Err-clause-rested : goal.returns-in-Err-clause-rested
returns-in-Err-clause-rested g c =
    let saves = c.in-Err.ensures.saves c.requires in
    (saves.carries, record { shows = saves.keeps.shows; cause = saves.on_any_disk })
