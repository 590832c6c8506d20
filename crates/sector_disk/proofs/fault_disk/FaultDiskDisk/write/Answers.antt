use Rattle.std.proofs.Common.{inl, refl, arith, rules}
use Rattle.sector_disk.proofs.Moments.{torn_none}
use Rattle.sector_disk.proofs.fault_disk.FaultDiskDisk.write.Goals as goal

-- the disk below is as it was
pub returns-in-Some-Stopped-clause-writes : goal.returns-in-Some-Stopped-clause-writes
returns-in-Some-Stopped-clause-writes g c = record {
  inside = tt;
  whole = tt;
  tears = record {
    both = λ shown image both. (
      shown,
      image,
      both,
      torn_none 512 c.args.sector c.args.from.now shown,
      torn_none 512 c.args.sector c.args.from.now image,
    );
    unsynced = omega arith;
  };
  counts = record { keeps = λ t n le since. since; grows = λ t n le since. inl since };
  calls = record { all = tt; begun = (1, refl) };
  counted = omega arith;
  passes = search rules;
  cause = search rules;
}
