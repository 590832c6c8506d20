use Rattle.std.proofs.Common.{◌+◌, ap, refl, inl}
use Rattle.std.proofs.lemmas.Result.{err_from_is_err_and}
use Rattle.worker.proofs.DurableLemmas.Advancing.{says_abreast}
use Rattle.worker.proofs.DurableLemmas.Asking.{asks_turn, asks_nothing, room_said, hears_abreast}
use Rattle.worker.proofs.DurableLemmas.Slicing.{once_if_ok}
use Rattle.worker.proofs.DurableLemmas.InVain.{hears_in_vain}
use Rattle.worker.proofs.DurableLemmas.AskingInBatch.{asks_holding, asks_none_holding}
use Rattle.worker.proofs.DurableLemmas.AskingInBatch.{room_no_source, source_heard}
use Rattle.worker.proofs.StoreTurnLemmas.{goes_join, hears_goes, hears_runs, runs_join}
use Rattle.worker.proofs.running_worker.RunningWorker.ask.Goals as goal

pub returns-in_err-make_room-clause-turn : goal.returns-in_err-make_room-clause-turn
returns-in_err-make_room-clause-turn g c =
    let p = err_from_is_err_and c.from_residual.result c.from_residual.ensures.1 in
    rw (p.1, p.2) (asks_nothing g.D.Disk.medium g.S.Source.gives c.args.self.now
    c.make_room.new.self c.args.question c.in_err-make_room.field-0.0 c.args.disk.now
    c.make_room.new.disk c.args.source.now c.in_err-make_room.ensures.unmade)

pub returns-clause-once : goal.returns-clause-once
returns-clause-once g c =
    once_if_ok g.S.Source.gives c.args.self.now (says_abreast c.make_room.new.self)
    c.hear.new.self c.args.question (c.steps-step.result + 1) c.hear.result c.args.source.now
    c.hear.new.source
    c.in_ok-make_room.ensures.same c.hear.ensures.hears

pub returns-clause-abreast : goal.returns-clause-abreast
returns-clause-abreast g c =
    hears_abreast g.S.Source.gives (says_abreast c.make_room.new.self) c.hear.new.self
    c.args.question (c.steps-step.result + 1) c.hear.result c.args.source.now c.hear.new.source
    c.hear.ensures.hears

pub returns-clause-turn : goal.returns-clause-turn
returns-clause-turn g c =
    asks_turn g.D.Disk.medium g.S.Source.gives c.args.self.now
    (says_abreast c.make_room.new.self) c.hear.new.self c.args.question (c.steps-step.result + 1)
    c.args.disk.now c.make_room.new.disk c.args.source.now c.hear.new.source
    (room_said g.D.Disk.medium c.args.self.now c.make_room.new.self c.args.disk.now
    c.make_room.new.disk c.in_ok-make_room.ensures.made) c.in_ok-make_room.ensures.same refl
    (ap (λ n. n + 1) c.steps-step.ensures.value) c.hear.result c.hear.ensures.hears

pub returns-in_err-make_room-clause-fault : goal.returns-in_err-make_room-clause-fault
returns-in_err-make_room-clause-fault g c =
    let p = err_from_is_err_and c.from_residual.result c.from_residual.ensures.1 in
    rw (p.1, p.2) (inl (
      c.in_err-make_room.ensures.fault,
      c.in_err-make_room.ensures.same,
      refl,
      c.in_err-make_room.ensures.lacking,
    ))

pub returns-clause-fault : goal.returns-clause-fault
returns-clause-fault g c =
    hears_in_vain g.S.Source.gives c.args.self.now (says_abreast c.make_room.new.self)
    c.hear.new.self c.args.question (c.steps-step.result + 1) c.hear.result c.args.source.now
    c.hear.new.source c.in_ok-make_room.ensures.same c.hear.ensures.hears

pub returns-in_err-make_room-clause-runs : goal.returns-in_err-make_room-clause-runs
returns-in_err-make_room-clause-runs g c =
    let p = err_from_is_err_and c.from_residual.result c.from_residual.ensures.1 in
    rw (p.1, p.2) c.in_err-make_room.ensures.runs

pub returns-clause-runs : goal.returns-clause-runs
returns-clause-runs g c =
    let disk = g.D.Disk.medium c.make_room.new.disk in
    runs_join c.args.self.now.store c.make_room.new.self.store (g.D.Disk.medium c.args.disk.now)
    disk c.in_ok-make_room.ensures.runs c.hear.new.self.store c.hear.result disk
    (hears_runs c.make_room.new.self.store c.hear.new.self.store c.hear.result disk
    c.hear.ensures.kept)

pub returns-in_err-make_room-clause-holding : goal.returns-in_err-make_room-clause-holding
returns-in_err-make_room-clause-holding g c =
    let p = err_from_is_err_and c.from_residual.result c.from_residual.ensures.1 in
    rw (p.1, p.2) (asks_none_holding g.D.Disk.medium g.S.Source.gives c.args.self.now
    c.make_room.new.self c.args.question c.in_err-make_room.field-0.0 c.args.disk.now
    c.make_room.new.disk c.args.source.now c.in_err-make_room.ensures.fault
    c.in_err-make_room.ensures.unmade)

pub returns-clause-holding : goal.returns-clause-holding
returns-clause-holding g c =
    asks_holding g.D.Disk.medium g.S.Source.gives c.args.self.now
    (says_abreast c.make_room.new.self) c.hear.new.self c.args.question (c.steps-step.result + 1)
    c.args.disk.now c.make_room.new.disk c.args.source.now c.hear.new.source
    (room_said g.D.Disk.medium c.args.self.now c.make_room.new.self c.args.disk.now
    c.make_room.new.disk c.in_ok-make_room.ensures.made) c.in_ok-make_room.ensures.same refl
    (ap (λ n. n + 1) c.steps-step.ensures.value) c.hear.result c.hear.ensures.hears

pub returns-in_err-make_room-clause-goes : goal.returns-in_err-make_room-clause-goes
returns-in_err-make_room-clause-goes g c =
    let p = err_from_is_err_and c.from_residual.result c.from_residual.ensures.1 in
    rw (p.1, p.2) (λ e. absurd (room_no_source c.in_err-make_room.field-0.0
    c.in_err-make_room.ensures.fault e))

pub returns-clause-goes : goal.returns-clause-goes
returns-clause-goes g c = λ e.
    let disk = g.D.Disk.medium c.make_room.new.disk in
    goes_join c.args.self.now.store c.make_room.new.self.store (g.D.Disk.medium c.args.disk.now)
    disk c.in_ok-make_room.ensures.runs c.hear.new.self.store disk
    (hears_goes c.make_room.new.self.store c.hear.new.self.store disk
    (source_heard g.S.Source.gives (says_abreast c.make_room.new.self) c.hear.new.self
    c.args.question (c.steps-step.result + 1) c.hear.result c.args.source.now c.hear.new.source
    c.hear.ensures.hears e))
