use Rattle.std.proofs.Common.{◌∙◌, ap, arith, refl}
use Rattle.disk_layout.specs.rules.Journal.{longest_record}
use Rattle.std.proofs.lemmas.Result.{err_from_is_err_and}
use Rattle.worker.proofs.DurableLemmas.Rooms.{has_room, makes_room, makes_no_room}
use Rattle.worker.proofs.StoreTurnLemmas.{goes_none}
use Rattle.worker.proofs.running_worker.RunningWorker.make_room.Goals as goal

pub returns-in_err-save-clause-unmade : goal.returns-in_err-save-clause-unmade
returns-in_err-save-clause-unmade g c =
    let p = err_from_is_err_and c.from_residual.result c.from_residual.ensures.1 in
    rw (p.1, p.2) (makes_no_room g.D.Disk.medium c.args.self.now c.save.new.store c.args.disk.now
    c.save.new.disk c.process_images_fit_areas.ensures c.requires.shown
    c.in_err-save.ensures.any_moment c.in_err-save.field-0.0 c.in_err-save.ensures.on_any_disk
    (λ room. absurd (let test = c.if-room-longest_record.false in let is = c.room.ensures in
    let long = c.longest_record.ensures
    ∙ ap (λ v. longest_record v) c.version-version.ensures in omega (arith, test, is, long, room))))

pub returns-clause-made : goal.returns-clause-made
returns-clause-made g c =
    makes_room g.D.Disk.medium c.args.self.now c.save.new.store c.args.disk.now c.save.new.disk
    c.process_images_fit_areas.ensures c.requires.shown c.in_ok-save.ensures.any_moment
    c.in_ok-save.ensures.durable c.in_ok-save.ensures.fresh
    (λ room. absurd (let test = c.if-room-longest_record.false in let is = c.room.ensures in
    let long = c.longest_record.ensures
    ∙ ap (λ v. longest_record v) c.version-version.ensures in omega (arith, test, is, long, room)))

pub returns-then-room-longest_record-clause-made :
    goal.returns-then-room-longest_record-clause-made
returns-then-room-longest_record-clause-made g c =
    has_room g.D.Disk.medium c.args.self.now c.args.disk.now
    (let test = c.if-room-longest_record.true in let is = c.room.ensures in
    let long = c.longest_record.ensures
    ∙ ap (λ v. longest_record v) c.version-version.ensures in omega arith)

pub returns-in_err-save-clause-fault : goal.returns-in_err-save-clause-fault
returns-in_err-save-clause-fault g c =
    let p = err_from_is_err_and c.from_residual.result c.from_residual.ensures.1 in
    rw (p.1, p.2) (c.in_err-save.field-0.0, refl)

pub returns-then-room-longest_record-clause-runs :
    goal.returns-then-room-longest_record-clause-runs
returns-then-room-longest_record-clause-runs g c =
    goes_none c.args.self.now.store (g.D.Disk.medium c.args.disk.now)

pub returns-in_err-save-clause-runs : goal.returns-in_err-save-clause-runs
returns-in_err-save-clause-runs g c =
    let p = err_from_is_err_and c.from_residual.result c.from_residual.ensures.1 in
    rw (p.1, p.2) c.in_err-save.ensures.runs

pub returns-in_err-save-clause-lacking : goal.returns-in_err-save-clause-lacking
returns-in_err-save-clause-lacking g c =
    let p = err_from_is_err_and c.from_residual.result c.from_residual.ensures.1 in
    rw p.1 (λ room. absurd (let test = c.if-room-longest_record.false in
    let is = c.room.ensures in let long = c.longest_record.ensures
    ∙ ap (λ v. longest_record v) c.version-version.ensures in omega (arith, test, is, long, room)))
