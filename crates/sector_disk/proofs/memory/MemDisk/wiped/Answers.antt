use Rattle.std.proofs.Common.{length, sym, ap, ◌∙◌, subst}
use Rattle.sector_disk.specs.rules.DiskImage.{IsDiskImage, zeros}
use Rattle.sector_disk.proofs.FirstImageLemmas.{zeros_are}
use Rattle.sector_disk.proofs.MemoryLemmas.{shown_size}
use Rattle.sector_disk.proofs.memory.MemDisk.wiped.Goals as goal

pub invariant_of-result-clause-full : goal.invariant_of-result-clause-full
invariant_of-result-clause-full c =
    let n = length c.args.self.durable.items in
    subst (λ image. IsDiskImage (length image) image) (sym c.wipe.ensures)
    (subst (λ count. IsDiskImage count (zeros n)) (sym (zeros_are n).count) (zeros_are n))

pub invariant_of-result-clause-replayed : goal.invariant_of-result-clause-replayed
invariant_of-result-clause-replayed c =
    rw c.clear.ensures.items
    (c.wipe-2.ensures ∙ ap zeros (shown_size c.args.self) ∙ sym c.wipe.ensures)

pub returns-clause-zeros : goal.returns-clause-zeros
returns-clause-zeros c = sym (c.wipe-2.ensures ∙ ap zeros (shown_size c.args.self))
