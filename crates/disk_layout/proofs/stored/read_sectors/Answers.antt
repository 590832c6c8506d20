use Rattle.std.proofs.Common.{◌++◌, ◌∙◌, length, ap, sym, arith, length-append}
use Rattle.disk_layout.specs.rules.Sectors.{bytes_from}
use Rattle.sector_disk.proofs.Moments.{stays_shows}
use Rattle.disk_layout.proofs.ReadLemmas.{read_more, bytes_from-more}
use Rattle.disk_layout.proofs.stored.read_sectors.Goals as goal

pub returns-in-Err-clause-reads : goal.returns-in-Err-clause-reads
returns-in-Err-clause-reads g c =
    read_more (g.D.Disk.medium c.args.disk.now) (g.D.Disk.medium c.loop-i.disk)
    (g.D.Disk.medium c.read.new.self) _ _ c.read.result c.loop-i.invariant.reads c.read.ensures

pub loop-i-preserved : goal.loop-i-preserved
loop-i-preserved g c =
    let old = g.D.Disk.medium c.args.disk.now in
    let mid = g.D.Disk.medium c.loop-i.disk in
    let new = g.D.Disk.medium c.read.new.self in
    let stays = c.read.ensures.stays in
    record {
      reads = read_more old mid new _ _ c.read.result c.loop-i.invariant.reads c.read.ensures;
      counted = omega (arith, c.loop-i.invariant.counted, c.read.ensures.counted);
      len = ap length c.in-Ok.ensures.items ∙ length-append c.loop-i.bytes.items c.read.new.into
          ∙ (let a = c.loop-i.invariant.len in let b = c.read.array_long in omega arith);
      bytes = λ image shows.
          let before = c.loop-i.invariant.bytes image (stays_shows mid new stays image shows) in
          let here = c.in_default.ensures.bytes image shows in
          c.in-Ok.ensures.items ∙ ap (λ l. l ++ c.read.new.into) before
          ∙ ap (λ l. bytes_from image c.args.at c.loop-i.i ++ l) (sym here)
          ∙ sym (bytes_from-more image c.args.at c.loop-i.i);
    }
