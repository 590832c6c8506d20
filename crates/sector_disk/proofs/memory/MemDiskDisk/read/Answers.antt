use Rattle.std.proofs.Common.{◌<◌, length, [], refl, sym, ap, ◌∙◌, arith, rules}
use Rattle.std.proofs.lemmas.List.{get_or_read}
use Rattle.sector_disk.specs.rules.DiskImage.{sector_at}
use Rattle.sector_disk.specs.rules.Memory.{memory_medium}
use Rattle.sector_disk.proofs.CountLemmas.{counts_same}
use Rattle.sector_disk.proofs.MemoryLemmas.{shown_size}
use Rattle.sector_disk.proofs.memory.MemDiskDisk.read.Goals as goal

pub index-requires : goal.index-requires
index-requires c = omega (arith, shown_size c.args.self.now, c.args.self.now.shown.ok.0)

pub returns-clause-reads : goal.returns-clause-reads
returns-clause-reads c =
    let lt : c.args.sector < length c.args.self.now.shown.items =
    omega (arith, shown_size c.args.self.now) in
    record {
      inside = omega arith;
      bytes = λ image e.
          rw e (sym (get_or_read c.args.self.now.shown.items c.args.sector c.index.result.now lt
          c.index.ensures []));
      stays = search rules;
      unsynced = refl;
      counts = counts_same (memory_medium c.args.self.now) _;
      calls = refl;
      counted = omega arith;
      passes = search rules;
      cause = search rules;
    }

pub returns-clause-bytes : goal.returns-clause-bytes
returns-clause-bytes c =
    let lt : c.args.sector < length c.args.self.now.shown.items =
    omega (arith, shown_size c.args.self.now) in
    get_or_read c.args.self.now.shown.items c.args.sector c.index.result.now lt c.index.ensures []
    ∙ ap (λ image. sector_at image c.args.sector) c.args.self.now.replayed
