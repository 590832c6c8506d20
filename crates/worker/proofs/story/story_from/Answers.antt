use Rattle.std.proofs.Common.{ℕ, [], ap, arith, subst}
use Rattle.sector_disk.specs.rules.Memory.{MemoryState}
use Rattle.worker.specs.Going.{HasSize}
use Rattle.worker.proofs.StartLemmas.{cut_has_size, told_from}
use Rattle.worker.proofs.story.story_from.Goals as goal

pub put_on-requires-clause-size : goal.put_on-requires-clause-size
put_on-requires-clause-size c =
    let start = c.args.start.now in
    subst (λ (n : ℕ). HasSize n start.writes c.into_cut-disk.result)
    (omega (arith, c.len.ensures, start.sectors.ok.0))
    (cut_has_size c.len.result start.writes c.in_ok-used.used c.into_cut-disk.result []
    c.in_ok-used.ensures c.into_cut-disk.ensures.cut c.into_cut-disk.ensures.crash_image)

pub put_on-requires-clause-synced : goal.put_on-requires-clause-synced
put_on-requires-clause-synced c =
    ap (λ (s : MemoryState). s.pending) c.into_cut-disk.ensures.cut

pub returns : goal.returns
returns c =
    told_from c.args.wasm.now c.args.config.now c.args.lives.now c.args.start.now c.new-told.result
    c.live_all.new.told c.put_on.new.disk c.in_ok-last.last c.new-told.ensures
    c.in_ok-put_on.ensures c.in_ok-last.ensures.gone
