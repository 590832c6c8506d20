use Rattle.worker.proofs.HandoverLemmas.{failed_sync_hands, found_hands, unfound_hands}
use Rattle.worker.proofs.succession.read_legacy.Goals as goal

pub returns-in-Err : goal.returns-in-Err
returns-in-Err g c =
    failed_sync_hands (g.D.Disk.medium c.args.disk.now) (g.D.Disk.medium c.sync.new.self)
    c.in-Err.fault c.from.result c.in-Err.ensures c.from.ensures

pub returns-in-Err-find : goal.returns-in-Err-find
returns-in-Err-find g c =
    let found = c.in-Err-find.ensures in
    unfound_hands (g.D.Disk.medium c.args.disk.now) (g.D.Disk.medium c.sync.new.self)
    (g.D.Disk.medium c.find.new.disk) c.in_default.field-0 c.in_default.ensures
    found.searches.reads found.searches.asks c.in-Err-find.fault found.finds
    found.searches.cause found.shows

pub hand_over-requires : goal.hand_over-requires
hand_over-requires g c = let found = c.in-Ok.ensures in found.searches.next

pub returns-in-Ok : goal.returns-in-Ok
returns-in-Ok g c =
    let found = c.in-Ok.ensures in
    found_hands (g.D.Disk.medium c.args.disk.now) (g.D.Disk.medium c.sync.new.self)
    (g.D.Disk.medium c.find.new.disk) c.in_default.field-0 c.in_default.ensures
    found.searches.reads found.searches.asks c.in-Ok.found found.finds found.shows
    c.hand_over.result c.hand_over.ensures
