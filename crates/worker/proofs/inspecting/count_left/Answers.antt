use Rattle.std.proofs.Common.{sym, subst}
use Rattle.disk_layout.specs.rules.Places.{total_sectors}
use Rattle.worker.specs.declared.recover_fault.RecoverFault.{RecoverFault}
use Rattle.worker.specs.Findings.{HasSearchCause}
use Rattle.worker.proofs.EnoughLemmas.{with_enough}
use Rattle.worker.proofs.inspecting.count_left.Goals as goal

pub returns-in-Err-clause-cause : goal.returns-in-Err-clause-cause
returns-in-Err-clause-cause g c =
    let old = g.D.Disk.medium c.args.disk.now in
    let new = g.D.Disk.medium c.count_filled.new.disk in
    subst (λ (e : RecoverFault). HasSearchCause old new e) (sym c.from-in-Err.ensures)
    (with_enough old.sectors (total_sectors c.args.geometry.now) c.requires
    c.in-Err.ensures.cause)
