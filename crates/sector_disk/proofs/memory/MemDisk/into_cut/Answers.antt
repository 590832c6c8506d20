use Rattle.std.proofs.Common.{◌∙◌, List, ap, arith, length, subst, sym}
use Rattle.sector_disk.specs.rules.Pending.{torn_by}
use Rattle.sector_disk.specs.laws.Beside.{AreSameBeside, cut_beside}
use Rattle.sector_disk.specs.laws.Pending.{torn_crashed}
use Rattle.sector_disk.specs.declared.write.Write.{Write}
use Rattle.sector_disk.proofs.MemoryLemmas.{shown_size}
use Rattle.sector_disk.proofs.memory.MemDisk.into_cut.Goals as goal

pub show_durable-requires-clause-size : goal.show_durable-requires-clause-size
show_durable-requires-clause-size c =
    ap length c.deref_mut.ensures.value
    ∙ omega (
      arith,
      shown_size c.args.self,
      c.leave_writes.ensures.image.count,
      ap length c.deref-2.ensures.value,
    )

pub show_durable-requires-clause-same : goal.show_durable-requires-clause-same
show_durable-requires-clause-same c =
    subst (λ (ws : List Write). AreSameBeside ws c.deref_mut.result.now c.deref-2.result.now)
    (sym c.deref-3.ensures.value)
    (cut_beside c.args.tears.now c.args.self.pending.items c.args.self.durable.items
    c.deref_mut.result.now c.deref-2.result.now (c.deref_mut.ensures.value ∙ c.args.self.replayed)
    (c.deref-2.ensures.value ∙ c.leave_writes.ensures.left
    ∙ ap (λ (ws : List Write). torn_by c.args.tears.now ws c.args.self.durable.items)
    c.deref.ensures.value))

pub returns-clause-crash_image : goal.returns-clause-crash_image
returns-clause-crash_image c =
    torn_crashed c.args.tears.now c.args.self.pending.items c.args.self.durable.items
