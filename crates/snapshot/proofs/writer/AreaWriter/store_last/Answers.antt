use Rattle.std.proofs.Common.{◌≡◌, ◌<◌, ◌+◌, ◌-◌, ◌*◌, ◌++◌, ◌∙◌, ℕ, List, [], take, drop}
use Rattle.std.proofs.Common.{replicate, sym, ap, subst, arith}
use Rattle.std.specs.Prelude.{Result, Ok}
use Rattle.std.proofs.lemmas.List.{append-nil, drop-replicate}
use Rattle.std.proofs.lemmas.Result.{on_ok_weaker}
use Rattle.sector_disk.specs.declared.fault.DiskFault.{DiskFault}
use Rattle.sector_disk.specs.rules.DiskImage.{IsWritten, IsTorn}
use Rattle.sector_disk.specs.rules.Medium.{BothFollow}
use Rattle.disk_layout.specs.rules.Places.{area_place, rounded_up}
use Rattle.disk_layout.specs.rules.Sectors.{bytes_from}
use Rattle.snapshot.specs.rules.Images.{part_behind, StoresSectors}
use Rattle.snapshot.proofs.AreaLemmas.{area_in}
use Rattle.snapshot.proofs.PushLemmas.{one_stored, stores_no_sector, stores_longer}
use Rattle.snapshot.proofs.WriterLemmas.{stored_more, zeros_held}
use Rattle.snapshot.proofs.writer.AreaWriter.store_last.Goals as goal

pub overflow_add-area_place : goal.overflow_add-area_place
overflow_add-area_place g c =
    let m = g.D.Disk.medium c.args.disk.now in
    let w = c.args.self.now in
    let geometry = c.args.geometry.now in
    let r = c.requires in
    let fits = m.fits in
    let some = c.if-self-eq0.false in
    let less : w.sectors < geometry.area_sectors = omega (arith, r, some) in
    omega (
      arith,
      area_in geometry w.generation w.sectors less,
      c.area_place.ensures,
      c.in_ok-test_sectors.ensures.enough,
      c.journal_place.ensures,
      fits,
    )

pub returns-then-self-eq0-clause-holds : goal.returns-then-self-eq0-clause-holds
returns-then-self-eq0-clause-holds g c = λ bytes given image shows.
    let w = c.args.self.now in
    let area = bytes_from image (area_place c.args.geometry.now w.generation) w.sectors in
    let e : take w.filled w.sector ≡ [] = ap (λ (n : ℕ). take n w.sector) c.if-self-eq0.true in
    let none = c.if-self-eq0.true in
    let n = given.count in
    zeros_held image (area_place c.args.geometry.now w.generation) w.sectors 0 bytes (omega (
      arith,
      n,
      none,
    )) (omega (arith, n, none))
    (sym (append-nil area) ∙ ap (λ (l : List ℕ). area ++ l) (sym e) ∙ given.held image shows
    ∙ sym (append-nil bytes))

pub returns-clause-holds : goal.returns-clause-holds
returns-clause-holds g c =
    let old = g.D.Disk.medium c.args.disk.now in
    let new = g.D.Disk.medium c.store_sector.new.disk in
    let w = c.args.self.now in
    let geometry = c.args.geometry.now in
    let place = area_place geometry w.generation in
    let some = c.if-self-eq0.false in
    let less : w.sectors < geometry.area_sectors = let r = c.requires in
    omega (arith, r, some) in
    let inside : place + w.sectors < old.sectors = let r = c.in_ok-test_sectors.ensures.enough in
    omega (arith, area_in geometry w.generation w.sectors less, r, c.journal_place.ensures) in
    on_ok_weaker c.store_sector.result
    (λ whole. λ bytes given image shows.
    let here = subst (λ (k : ℕ). BothFollow (IsWritten (k + w.sectors) c.pad-last.result)
    (IsTorn (k + w.sectors) c.pad-last.result) old new) c.area_place.ensures whole in
    let n = given.count in
    let filled = w.open in
    zeros_held image place (w.sectors + 1) (512 - w.filled) bytes (omega (
      arith,
      n,
      some,
      filled,
    )) (omega (arith, n, filled))
    (stored_more place w.sectors (take w.filled w.sector)
    (drop w.filled (replicate 512 0)) c.pad-last.result bytes old new inside c.pad-last.ensures
    here given.held image shows
    ∙ ap (λ (l : List ℕ). bytes ++ l) (drop-replicate w.filled 512 0)))
    c.store_sector.ensures.whole

pub returns-in_err-test_sectors-clause-stores : goal.returns-in_err-test_sectors-clause-stores
returns-in_err-test_sectors-clause-stores g c =
    let w = c.args.self.now in
    let said : Result (Unit {0}) DiskFault = Ok tt in
    let m = g.D.Disk.medium c.args.disk.now in
    stores_longer c.args.geometry.now w.generation w.writing w.sectors 0
    (rounded_up (512 * w.sectors + w.filled) - w.sectors) said c.from_residual.result m m
    (omega arith) c.from_residual.ensures.0
    (stores_no_sector c.args.geometry.now w.generation w.writing w.sectors said m)

pub returns-then-self-eq0-clause-stores : goal.returns-then-self-eq0-clause-stores
returns-then-self-eq0-clause-stores g c =
    let m = g.D.Disk.medium c.args.disk.now in
    let w = c.args.self.now in
    let none = c.if-self-eq0.true in
    let said : Result (Unit {0}) DiskFault = Ok tt in
    let same : 0 ≡ rounded_up (512 * w.sectors + w.filled) - w.sectors = omega (arith, none) in
    subst (λ n. StoresSectors c.args.geometry.now (part_behind w n) said m m) same
    (stores_no_sector c.args.geometry.now w.generation w.writing w.sectors said m)

pub returns-clause-stores : goal.returns-clause-stores
returns-clause-stores g c =
    let old = g.D.Disk.medium c.args.disk.now in
    let new = g.D.Disk.medium c.store_sector.new.disk in
    let w = c.args.self.now in
    let geometry = c.args.geometry.now in
    let some = c.if-self-eq0.false in
    let filled = w.open in
    let r = c.requires in
    let one : 1 ≡ rounded_up (512 * w.sectors + w.filled) - w.sectors = omega (arith, some, filled)
    in
    subst (λ n. StoresSectors geometry (part_behind w n) c.store_sector.result old new) one
    (one_stored geometry w.generation w.writing w.sectors (c.area_place.result + w.sectors)
    c.pad-last.result c.store_sector.result c.store_sector.result old new (λ P ok. ok)
    (omega (arith, c.area_place.ensures))
    (omega (arith, r, some)) (omega (
      arith,
      c.in_ok-test_sectors.ensures.enough,
      c.journal_place.ensures,
    )) c.store_sector.ensures)
