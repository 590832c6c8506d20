use Rattle.std.proofs.Common.{inr, ◌≡◌, ◌+◌, rules, ◌<◌, length, refl, sym, ap, ◌∙◌, subst, arith}
use Rattle.std.proofs.lemmas.List.{length_push}
use Rattle.std.proofs.lemmas.List.Elements.{All-push}
use Rattle.sector_disk.specs.rules.DiskImage.{DiskImage}
use Rattle.sector_disk.specs.rules.Memory.{memory_medium, calls_in}
use Rattle.sector_disk.specs.rules.Pending.{IsWriteWithin, Leaves}
use Rattle.sector_disk.specs.laws.Fronts.{whole-with_front}
use Rattle.sector_disk.specs.laws.Pending.{had_more, replayed_more, crashed_more}
use Rattle.sector_disk.specs.laws.Pending.{disk_image-replayed}
use Rattle.sector_disk.proofs.CountLemmas.{counts_same, had_keeps, had_grows}
use Rattle.sector_disk.proofs.Moments.{torn_none}
use Rattle.sector_disk.proofs.MemoryLemmas.{shown_size}
use Rattle.sector_disk.proofs.memory.MemDiskDisk.write.Goals as goal

pub index_mut-requires : goal.index_mut-requires
index_mut-requires c = omega (arith, shown_size c.args.self.now, c.args.self.now.shown.ok.0)

pub invariant_of-self-2-clause-within : goal.invariant_of-self-2-clause-within
invariant_of-self-2-clause-within c =
    let P = IsWriteWithin (length c.args.self.now.durable.items) in
    rw c.in-Ok.ensures.items (All-push P c.args.self.now.pending.items
    (record { sector = c.args.sector; bytes = c.args.from.now }) c.args.self.now.within
    (record { within = omega arith; full = c.told-from }))

pub invariant_of-self-2-clause-replayed : goal.invariant_of-self-2-clause-replayed
invariant_of-self-2-clause-replayed c =
    rw (
      c.in-Ok.ensures.items,
      c.args.self.now.replayed,
    )
    (sym (replayed_more c.args.self.now.pending.items (record {
      sector = c.args.sector;
      bytes = c.args.from.now;
    }) c.args.self.now.durable.items))

pub returns-clause-writes : goal.returns-clause-writes
returns-clause-writes c =
    let lt : c.args.sector < length c.args.self.now.durable.items = omega arith in
    let d = c.args.self.now in
    let w : Rattle.sector_disk.specs.declared.write.Write.Write = record {
      sector = c.args.sector;
      bytes = c.args.from.now;
    } in
    let image = subst (λ i. Rattle.sector_disk.specs.rules.DiskImage.IsDiskImage
    (length d.durable.items) i) (sym d.replayed) (disk_image-replayed _ d.pending.items
    d.durable.items d.full d.within) in
    let crashed = λ (new : DiskImage) (crashed : Leaves c.push.new.self.items d.durable.items new).
    crashed_more d.pending.items w d.durable.items new
    (subst (λ ws. Leaves ws d.durable.items new) c.in-Ok.ensures.items crashed) in
    let more : length c.push.new.self.items ≡ length d.pending.items + 1 =
    omega (arith, ap length c.in-Ok.ensures.items, length_push d.pending.items w) in
    record {
      inside = lt;
      whole = record {
        both = λ shown new both. let was = crashed new both.1 in
            (d.shown.items, was.0, (refl, was.1), both.0, was.2);
        unsynced = more;
      };
      tears = record {
        both = λ shown new both.
            let was = crashed new both.1 in (
              d.shown.items,
              was.0,
              (refl, was.1),
              record {
                front = 512;
                within = omega arith;
                is = both.0 ∙ sym
                    (whole-with_front _ d.shown.items c.args.sector c.args.from.now image lt
                    c.told-from);
              },
              was.2,
            );
        unsynced = omega arith;
      };
      counts = record {
        keeps = λ t n le since. had_keeps d.durable d.pending d.past.items c.and-past.result.items
            (length c.push.new.self.items) t n c.and-past.ensures le since;
        grows = λ t n le since. had_grows d.durable d.pending d.past.items c.and-past.result.items
            (length c.push.new.self.items) (length d.pending.items + 1) t n c.and-past.ensures
            (omega arith) since;
      };
      calls = record {
        all = ap calls_in c.and-self.ensures;
        begun = (0, ap calls_in c.and-self.ensures);
      };
      counted = omega arith;
      passes = search rules;
      cause = search rules;
    }

pub returns-clause-kept : goal.returns-clause-kept
returns-clause-kept c =
    λ t image le crashed.
    inr (had_more t c.args.self.now.durable c.args.self.now.pending c.args.self.now.past.items
    c.and-past.result.items image c.and-past.ensures le crashed)

pub returns-then-sector-sectors-clause-writes : goal.returns-then-sector-sectors-clause-writes
returns-then-sector-sectors-clause-writes c =
    let m = memory_medium c.args.self.now in
    record {
      inside = tt;
      whole = tt;
      tears = record {
        both = λ shown image both. (
          shown,
          image,
          both,
          torn_none 512 c.args.sector c.args.from.now shown,
          torn_none 512 c.args.sector c.args.from.now image,
        );
        unsynced = omega arith;
      };
      counts = counts_same m _;
      calls = record { all = tt; begun = (1, refl) };
      counted = omega arith;
      passes = search rules;
      cause = search rules;
    }
