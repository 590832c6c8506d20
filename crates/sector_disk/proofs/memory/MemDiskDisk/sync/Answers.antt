use Rattle.std.proofs.Common.{rules, inl, inr, ⊎_elim, ◌≡◌, List, [], length, sym, ap, ◌∙◌, subst}
use Rattle.std.proofs.Common.{arith}
use Rattle.sector_disk.specs.rules.DiskImage.{DiskImage, IsDiskImage}
use Rattle.sector_disk.specs.rules.Memory.{calls_in}
use Rattle.sector_disk.specs.rules.Pending.{Leaves, HadCrashImage, torn_by}
use Rattle.sector_disk.specs.laws.Pending.{had_more, had_less, whole_crashed, whole_by_none}
use Rattle.sector_disk.proofs.CountLemmas.{had_keeps, had_grows}
use Rattle.sector_disk.specs.declared.memory.MemDisk.{MemDisk}
use Rattle.sector_disk.specs.declared.write.Write.{Write}
use Rattle.sector_disk.proofs.memory.MemDiskDisk.sync.Goals as goal

-- every write is left whole, so that what reads give is durable
now_durable : (d : MemDisk) (new : DiskImage) (writes : List Write)
    → new ≡ torn_by [] writes d.durable.items → writes ≡ d.pending.items → new ≡ d.shown.items
now_durable d new writes left same =
    left ∙ ap (λ ws. torn_by [] ws d.durable.items) same
    ∙ whole_by_none _ d.pending.items d.durable.items d.full d.within ∙ sym d.replayed

pub invariant_of-self-clause-full : goal.invariant_of-self-clause-full
invariant_of-self-clause-full c =
    subst (λ n. IsDiskImage n c.leave_writes.new.sectors.items)
    (sym c.leave_writes.ensures.image.count) c.leave_writes.ensures.image

pub invariant_of-self-clause-replayed : goal.invariant_of-self-clause-replayed
invariant_of-self-clause-replayed c =
    rw c.clear.ensures.items (sym (now_durable c.args.self.now c.leave_writes.new.sectors.items
    c.deref.result.now c.leave_writes.ensures.left c.deref.ensures.value))

pub returns-clause-syncs : goal.returns-clause-syncs
returns-clause-syncs c =
    let d = c.args.self.now in
    let now = now_durable d c.leave_writes.new.sectors.items c.deref.result.now
    c.leave_writes.ensures.left c.deref.ensures.value in
    let only : (image : DiskImage)
    → Leaves c.clear.new.self.items c.leave_writes.new.sectors.items image
    → image ≡ c.leave_writes.new.sectors.items = λ image crashed.
    subst (λ ws. Leaves ws c.leave_writes.new.sectors.items image) c.clear.ensures.items crashed in
    let was : (image : DiskImage) → Leaves c.clear.new.self.items
    c.leave_writes.new.sectors.items image → Leaves d.pending.items d.durable.items image =
    λ image crashed. subst (λ i. Leaves d.pending.items d.durable.items i) (sym (only image crashed
    ∙ now ∙ d.replayed)) (whole_crashed _ d.pending.items d.durable.items d.full d.within) in
    record {
      all_synced = record {
        same = λ shown image both. only image both.1 ∙ now ∙ sym both.0;
        unsynced = ap length c.clear.ensures.items;
      };
      stays = record {
        crash_pairs = λ shown image both. (both.0, was image both.1);
        since = λ t shown image le both. (
          both.0,
          ⊎_elim
              (λ (crashed : Leaves c.clear.new.self.items c.leave_writes.new.sectors.items image).
              inl (was image crashed))
              (λ (had : HadCrashImage t c.and-past.result.items image).
              had_less t d.durable d.pending d.past.items c.and-past.result.items image
              c.and-past.ensures had)
              both.1,
        );
        unsynced = omega (arith, ap length c.clear.ensures.items);
      };
      unsynced = tt;
      counts = record {
        keeps = λ t n le since. had_keeps d.durable d.pending d.past.items c.and-past.result.items
            (length c.clear.new.self.items) t n c.and-past.ensures le since;
        grows = λ t n le since. had_grows d.durable d.pending d.past.items c.and-past.result.items
            (length c.clear.new.self.items) (length d.pending.items) t n c.and-past.ensures
            (omega (arith, ap length c.clear.ensures.items)) since;
      };
      calls = record {
        all = ap calls_in c.and-self.ensures;
        begun = (0, ap calls_in c.and-self.ensures);
      };
      counted = omega arith;
      passes = search rules;
      cause = search rules;
    }

pub returns-clause-kept : goal.returns-clause-kept
returns-clause-kept c =
    λ t image le crashed.
    inr (had_more t c.args.self.now.durable c.args.self.now.pending c.args.self.now.past.items
    c.and-past.result.items image c.and-past.ensures le crashed)
