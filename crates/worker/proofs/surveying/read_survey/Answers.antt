use Rattle.worker.proofs.SurveyLemmas.{failed_sync_surveys, unfound_surveys, found_surveys}
use Rattle.worker.proofs.surveying.read_survey.Goals as goal

pub returns-in-Err : goal.returns-in-Err
returns-in-Err g c =
    failed_sync_surveys (g.D.Disk.medium c.args.disk.now) (g.D.Disk.medium c.sync.new.self)
    c.in-Err.fault c.from.result c.in-Err.ensures c.from.ensures

pub returns-in-Err-find : goal.returns-in-Err-find
returns-in-Err-find g c =
    let found = c.in-Err-find.ensures in
    unfound_surveys (g.D.Disk.medium c.args.disk.now) (g.D.Disk.medium c.sync.new.self)
    (g.D.Disk.medium c.find.new.disk) c.in_default.field-0 c.in_default.ensures found.searches.reads
    found.searches.asks
    c.in-Err-find.fault found.finds found.marks found.searches.cause found.shows

pub returns-in-Ok : goal.returns-in-Ok
returns-in-Ok g c =
    let found = c.in-Ok.ensures in
    rw c.numbers_of-survey.ensures
    (found_surveys (g.D.Disk.medium c.args.disk.now) (g.D.Disk.medium c.sync.new.self)
    (g.D.Disk.medium c.find.new.disk) c.in_default.field-0 c.in_default.ensures found.searches.reads
    found.searches.asks
    c.in-Ok.found found.finds found.marks found.shows)
