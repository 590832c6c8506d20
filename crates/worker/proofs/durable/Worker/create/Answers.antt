use Rattle.std.proofs.Common.{refl}
use Rattle.sector_disk.proofs.CountLemmas.{counts_same}
use Rattle.std.proofs.lemmas.Result.{err_from_is_err_and}
use Rattle.worker.proofs.CreationLemmas.{refused_keeps, refused_calls, short_enough, laid_created}
use Rattle.worker.proofs.CreationLemmas.{laid_refused, laid_untouched, laid_keeps, laid_calls}
use Rattle.worker.proofs.durable.Worker.create.Goals as goal

pub lay_out-laid-requires : goal.lay_out-laid-requires
lay_out-laid-requires g c =
    short_enough c.args.wasm.now c.args.config.now c.in_ok-process.process
    c.in_ok-process.ensures.begun

pub worker_of-requires-clause-none_waits : goal.worker_of-requires-clause-none_waits
worker_of-requires-clause-none_waits g c =
    let begun = c.in_ok-process.ensures.begun in begun.started.none_waits

pub returns-in_err-process-clause-refused : goal.returns-in_err-process-clause-refused
returns-in_err-process-clause-refused g c =
    let p = err_from_is_err_and c.from_residual.result c.from_residual.ensures.1 in
    rw (p.1, p.2) c.in_err-process.ensures.refused

pub returns-in_err-process-clause-untouched : goal.returns-in_err-process-clause-untouched
returns-in_err-process-clause-untouched g c =
    let p = err_from_is_err_and c.from_residual.result c.from_residual.ensures.1 in
    rw p.1 (λ refused. refl)

pub returns-in_err-process-clause-carries : goal.returns-in_err-process-clause-carries
returns-in_err-process-clause-carries g c =
    let p = err_from_is_err_and c.from_residual.result c.from_residual.ensures.1 in
    rw p.1 (refused_keeps g.D.Disk.medium c.args.wasm.now c.args.config.now p.0 c.args.disk.now)

pub returns-in_err-process-clause-calls : goal.returns-in_err-process-clause-calls
returns-in_err-process-clause-calls g c =
    let p = err_from_is_err_and c.from_residual.result c.from_residual.ensures.1 in
    rw p.1 (refused_calls c.args.wasm.now c.args.config.now p.0
    (g.D.Disk.medium c.args.disk.now))

pub returns-clause-created : goal.returns-clause-created
returns-clause-created g c =
    rw c.worker_of.ensures (laid_created g.D.Disk.medium c.args.wasm.now c.args.config.now
    c.in_ok-process.process c.process_images_fit_areas.ensures c.in_ok-process.ensures.within
    c.in_ok-process.ensures.texts c.in_ok-process.ensures.shows c.in_ok-process.ensures.begun
    c.lay_out-laid.result c.lay_out-laid.new.disk c.lay_out-laid.ensures.lays_out.durable)

pub returns-clause-refused : goal.returns-clause-refused
returns-clause-refused g c =
    rw c.worker_of.ensures (laid_refused g.D.Disk.medium c.args.wasm.now c.args.config.now
    c.in_ok-process.process c.process_images_fit_areas.ensures c.in_ok-process.ensures.within
    c.in_ok-process.ensures.texts c.in_ok-process.ensures.shows c.in_ok-process.ensures.begun
    c.lay_out-laid.result c.args.disk.now c.lay_out-laid.new.disk
    c.lay_out-laid.ensures.lays_out.cause)

pub returns-clause-untouched : goal.returns-clause-untouched
returns-clause-untouched g c =
    rw c.worker_of.ensures (laid_untouched g.D.Disk.medium c.args.wasm.now c.args.config.now
    c.in_ok-process.process c.process_images_fit_areas.ensures c.in_ok-process.ensures.within
    c.in_ok-process.ensures.texts c.in_ok-process.ensures.shows c.in_ok-process.ensures.begun
    c.lay_out-laid.result c.args.disk.now c.lay_out-laid.new.disk
    c.lay_out-laid.ensures.lays_out.cause
    (λ small. let refused = c.lay_out-laid.ensures.too_small small in refused.1)
    c.lay_out-laid.ensures.memory)

pub returns-clause-carries : goal.returns-clause-carries
returns-clause-carries g c =
    rw c.worker_of.ensures (laid_keeps g.D.Disk.medium c.args.wasm.now c.args.config.now
    c.in_ok-process.process c.process_images_fit_areas.ensures c.in_ok-process.ensures.within
    c.in_ok-process.ensures.texts c.in_ok-process.ensures.shows c.in_ok-process.ensures.begun
    c.lay_out-laid.result c.args.disk.now c.lay_out-laid.new.disk
    c.lay_out-laid.ensures.lays_out.any_moment c.lay_out-laid.ensures.lays_out.durable
    (λ small. let refused = c.lay_out-laid.ensures.too_small small in refused.1)
    c.lay_out-laid.ensures.lays_out.asks)

pub returns-clause-calls : goal.returns-clause-calls
returns-clause-calls g c =
    rw c.worker_of.ensures (laid_calls g.D.Disk.medium c.args.wasm.now c.args.config.now
    c.in_ok-process.process c.process_images_fit_areas.ensures c.in_ok-process.ensures.within
    c.in_ok-process.ensures.texts c.in_ok-process.ensures.shows c.in_ok-process.ensures.begun
    c.lay_out-laid.result (g.D.Disk.medium c.args.disk.now)
    (g.D.Disk.medium c.lay_out-laid.new.disk) c.lay_out-laid.ensures.lays_out.calls)

pub returns-in_err-process-clause-counts : goal.returns-in_err-process-clause-counts
returns-in_err-process-clause-counts g c = counts_same (g.D.Disk.medium c.args.disk.now) _

pub returns-clause-counts : goal.returns-clause-counts
returns-clause-counts g c = c.lay_out-laid.ensures.lays_out.counts
