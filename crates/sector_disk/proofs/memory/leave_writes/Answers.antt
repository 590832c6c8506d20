use Rattle.std.proofs.Common.{◌≡◌, ◌<◌, ◌≤◌, ◌+◌, ℕ, List, get_or, [], length, drop, sym, ap}
use Rattle.std.proofs.Common.{◌∙◌, subst, arith}
use Rattle.std.proofs.lemmas.List.{get_or_read}
use Rattle.sector_disk.specs.rules.DiskImage.{sector_at, with_sector, front_over, IsDiskImage}
use Rattle.sector_disk.specs.rules.Pending.{torn_by, first_front}
use Rattle.sector_disk.specs.laws.Fronts.{disk_image-with_front}
use Rattle.sector_disk.specs.laws.Pending.{torn_step}
use Rattle.sector_disk.specs.declared.write.Write.{Write}
use Rattle.sector_disk.proofs.memory.leave_writes.Goals as goal

pub index_mut-requires : goal.index_mut-requires
index_mut-requires c =
    let d : Write = record { sector = 0; bytes = [] } in
    let fits = c.requires.within c.loop-i.i d c.loop-i-test.true in
    omega (arith, fits.within, c.loop-i.invariant.image.count, c.loop-i.sectors.ok.0)

pub loop-i-preserved : goal.loop-i-preserved
loop-i-preserved c =
    let ws = c.args.writes.now in
    let d : Write = record { sector = 0; bytes = [] } in
    let w : Write = get_or ws c.loop-i.i d in
    let fits = c.requires.within c.loop-i.i d c.loop-i-test.true in
    let inside : w.sector < length c.loop-i.sectors.items =
    omega (arith, fits.within, c.loop-i.invariant.image.count) in
    let was : c.index_mut.result.now ≡ sector_at c.loop-i.sectors.items w.sector =
    get_or_read c.loop-i.sectors.items w.sector c.index_mut.result.now inside
    c.index_mut.ensures.value [] in
    let bytes : c.leave_front.new.sector
    ≡ front_over (first_front (drop c.loop-i.i c.args.tears.now)) w.bytes
    (sector_at c.loop-i.sectors.items w.sector) =
    c.leave_front.ensures
    ∙ ap (λ (f : ℕ). front_over f w.bytes c.index_mut.result.now) c.front_named.ensures.front
    ∙ ap (λ (l : List ℕ). front_over (first_front (drop c.loop-i.i c.args.tears.now)) w.bytes l)
    was in
    let le : first_front (drop c.loop-i.i c.args.tears.now) ≤ 512 =
    omega (arith, c.front_named.ensures.front, c.front_named.ensures.within) in
    record {
      image = subst (λ l. IsDiskImage (length c.args.sectors.now.items)
          (with_sector c.loop-i.sectors.items w.sector l)) (sym bytes)
          (disk_image-with_front _ c.loop-i.sectors.items w.sector _ w.bytes
          c.loop-i.invariant.image le (λ lt. fits.full));
      torn = ap (λ (l : List ℕ). torn_by (drop (c.loop-i.i + 1) c.args.tears.now)
          (drop (c.loop-i.i + 1) ws) (with_sector c.loop-i.sectors.items w.sector l)) bytes
          ∙ sym (torn_step c.args.tears.now c.loop-i.i ws d c.loop-i.sectors.items
          c.loop-i-test.true)
          ∙ c.loop-i.invariant.torn;
    }
