use Rattle.std.proofs.Common.{List, ℕ, [], ◌∷◌, subst}
use Rattle.sector_disk.specs.rules.Medium.{LeavesOnly, After}
use Rattle.sector_disk.specs.rules.Run.{IsTornRun}
use Rattle.disk_layout.proofs.stored.write_super.Goals as goal

pub returns-clause-any_moment : goal.returns-clause-any_moment
returns-clause-any_moment g c =
    let old = g.D.Disk.medium c.args.disk.now in
    let new = g.D.Disk.medium c.store_run.new.disk in
    subst (λ (s : List ℕ). LeavesOnly old new (After (IsTornRun 0 (s ∷ []) 1) old.crash_images))
    c.sector.ensures c.store_run.ensures.any_moment
