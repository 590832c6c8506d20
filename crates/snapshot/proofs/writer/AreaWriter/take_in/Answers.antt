use Rattle.std.proofs.Common.{◌≡◌, ◌≤◌, ◌<◌, ◌+◌, ◌++◌, ◌∙◌, ℕ, List, length, take, refl, sym}
use Rattle.std.proofs.Common.{subst, arith, length-append}
use Rattle.std.specs.Prelude.{Result, Ok}
use Rattle.std.proofs.lemmas.List.{append-nil, take_all}
use Rattle.sector_disk.specs.declared.fault.DiskFault.{DiskFault}
use Rattle.sector_disk.specs.rules.DiskImage.{IsWritten, IsTorn}
use Rattle.sector_disk.specs.rules.Medium.{BothFollow}
use Rattle.guest_memory.specs.rules.Bytes.{with_part}
use Rattle.disk_layout.specs.rules.Places.{area_place}
use Rattle.disk_layout.specs.rules.Sectors.{bytes_from}
use Rattle.snapshot.specs.declared.fault.SnapshotFault.{SnapshotFault}
use Rattle.snapshot.specs.rules.Images.{part_behind, StoresSectors}
use Rattle.snapshot.specs.rules.Snapshots.{filled_by}
use Rattle.snapshot.proofs.AreaLemmas.{area_in}
use Rattle.snapshot.proofs.PushLemmas.{on_err, one_stored, stores_no_sector}
use Rattle.snapshot.proofs.WriterLemmas.{stored_more, given_more, put_behind, length-put}
use Rattle.snapshot.proofs.writer.AreaWriter.take_in.Goals as goal

pub overflow_add-at : goal.overflow_add-at
overflow_add-at g c =
    let m = g.D.Disk.medium c.args.disk.now in
    let r = c.requires in
    let fits = m.fits in
    omega (
      arith,
      area_in c.args.geometry.now c.args.self.now.generation c.args.self.now.sectors r.room,
      c.area_place.ensures,
      r.places,
      fits,
    )

pub returns-then-filled-lt-SECTOR_SIZE-clause-pushes :
    goal.returns-then-filled-lt-SECTOR_SIZE-clause-pushes
returns-then-filled-lt-SECTOR_SIZE-clause-pushes g c =
    let m = g.D.Disk.medium c.args.disk.now in
    let w = c.args.self.now in
    let bytes = c.args.bytes.now in
    let r = c.requires in
    let less = c.if-filled-lt-SECTOR_SIZE.true in
    let none : 0 ≡ filled_by w (length bytes) = omega (arith, less) in
    let said : Result (Unit {0}) SnapshotFault = Ok tt in
    let place = area_place c.args.geometry.now w.generation in
    let room : w.filled + length bytes ≤ length w.sector = omega (arith, c.put.ensures.long, less)
    in
    record {
      stores = subst (λ n. StoresSectors c.args.geometry.now (part_behind w n) said m m) none
          (stores_no_sector c.args.geometry.now w.generation w.writing w.sectors said m);
      same = record { generation = refl; version = refl; writing = refl };
      pushed = λ before given. record {
        hashed = c.update.ensures before given.hashed;
        count = length-append before bytes ∙ (let n = given.count in omega (arith, n));
        held = λ image shows.
            subst (λ (l : List ℕ). bytes_from image place w.sectors
            ++ take (w.filled + length bytes) l ≡ before ++ bytes) (sym c.put.ensures.bytes)
            (given_more (bytes_from image place w.sectors) w.filled w.sector bytes before room
            (given.held image shows));
      };
      longer = omega arith;
      fits = λ fits. omega (arith, r.room, less);
    }

pub returns-in_err-store_sector-clause-pushes : goal.returns-in_err-store_sector-clause-pushes
returns-in_err-store_sector-clause-pushes g c =
    let old = g.D.Disk.medium c.args.disk.now in
    let new = g.D.Disk.medium c.store_sector.new.disk in
    let w = c.args.self.now in
    let geometry = c.args.geometry.now in
    let bytes = c.args.bytes.now in
    let r = c.requires in
    let least = c.if-filled-lt-SECTOR_SIZE.false in
    let one : 1 ≡ filled_by w (length bytes) = omega (arith, r.few, least) in
    let said = c.from_residual.result in
    let is_err = c.from_residual.ensures.0 in
    record {
      stores = subst (λ n. StoresSectors geometry (part_behind w n) said old new) one
          (one_stored geometry w.generation w.writing w.sectors
          (c.area_place.result + w.sectors) c.put.new.sector c.store_sector.result said old new
          (λ P ok. on_err P said is_err) (omega (arith, c.area_place.ensures)) r.room r.places
          c.store_sector.ensures);
      same = record { generation = refl; version = refl; writing = refl };
      pushed = on_err _ said is_err;
      longer = on_err _ said is_err;
      fits = on_err _ said is_err;
    }

pub returns-clause-pushes : goal.returns-clause-pushes
returns-clause-pushes g c =
    let old = g.D.Disk.medium c.args.disk.now in
    let new = g.D.Disk.medium c.store_sector.new.disk in
    let w = c.args.self.now in
    let geometry = c.args.geometry.now in
    let bytes = c.args.bytes.now in
    let r = c.requires in
    let place = area_place geometry w.generation in
    let long = c.put.ensures.long in
    let least = c.if-filled-lt-SECTOR_SIZE.false in
    let whole : w.filled + length bytes ≡ 512 = omega (arith, r.few, least) in
    let room : w.filled + length bytes ≤ length w.sector = omega (arith, whole, long) in
    let one : 1 ≡ filled_by w (length bytes) = omega (arith, whole) in
    let said : Result (Unit {0}) SnapshotFault = Ok tt in
    let told : Result (Unit {0}) DiskFault = Ok tt in
    let stored : c.put.new.sector ≡ take w.filled w.sector ++ bytes =
    c.put.ensures.bytes
    ∙ sym (take_all (w.filled + length bytes) (with_part w.sector w.filled bytes) (omega (
      arith,
      length-put w.filled w.sector bytes room,
      whole,
      long,
    )))
    ∙ put_behind w.filled w.sector bytes room in
    let inside : place + w.sectors < old.sectors =
    omega (arith, area_in geometry w.generation w.sectors r.room, r.places) in
    let here = subst (λ (k : ℕ). BothFollow (IsWritten (k + w.sectors) c.put.new.sector)
    (IsTorn (k + w.sectors) c.put.new.sector) old new) c.area_place.ensures
    c.in_ok-store_sector.ensures.whole in
    record {
      stores = subst (λ n. StoresSectors geometry (part_behind w n) said old new) one
          (one_stored geometry w.generation w.writing w.sectors
          (c.area_place.result + w.sectors) c.put.new.sector told said old new (λ P ok. ok)
          (omega (arith, c.area_place.ensures)) r.room r.places c.in_ok-store_sector.ensures);
      same = record { generation = refl; version = refl; writing = refl };
      pushed = λ before given. record {
        hashed = c.update.ensures before given.hashed;
        count = length-append before bytes ∙ (let n = given.count in omega (arith, n, whole));
        held = λ image shows.
            append-nil (bytes_from image place (w.sectors + 1))
            ∙ stored_more place w.sectors (take w.filled w.sector) bytes c.put.new.sector before old
            new inside stored here given.held image shows;
      };
      longer = omega (arith, whole);
      fits = λ fits. omega (arith, r.room);
    }
