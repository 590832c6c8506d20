use Rattle.std.proofs.Common.{◌≡◌, ◌+◌, length, refl, ap, inl, inr, ⊎_elim, arith, rules, Err}
use Rattle.std.proofs.lemmas.Grind.{common_steps}
use Rattle.sector_disk.specs.declared.fault.DiskFault.TheVariants.{Range}
use Rattle.journal.specs.declared.fault.JournalFault.TheVariants as of_journal
use Rattle.journal.specs.rules.Packed.{sectors_for}
use Rattle.journal.specs.rules.State.{JournalState}
use Rattle.worker_store.specs.declared.fault.StoreFault.TheVariants.{Full, Disk}
use Rattle.worker_store.specs.declared.store.WorkerStore.{WorkerStore}
use Rattle.worker_store.proofs.AppendLemmas.{store_refuses}
use Rattle.worker_store.proofs.StoreLemmas.{barrier_leaves, barrier_stores, barrier_fails_so}
use Rattle.worker_store.proofs.StoreLemmas.{barrier_asks, told_fault}
use Rattle.worker_store.proofs.store.WorkerStore.barrier.Goals as goal

pub returns-in-Err-clause-stores : goal.returns-in-Err-clause-stores
returns-in-Err-clause-stores g c =
    record {
      any_moment = barrier_leaves g.D.Disk.medium c.args.self.now c.args.disk.now c.barrier.new.disk
          c.barrier.ensures.stores.any_moment;
      durable = first_of (search rules, grind (arith, common_steps));
      stored = first_of (search rules, grind (arith, common_steps));
      all_synced = search rules;
      calls = search rules;
      cause = barrier_fails_so c.args.self.now c.barrier.new.self (g.D.Disk.medium c.args.disk.now)
          (g.D.Disk.medium c.barrier.new.disk) c.in-Err.fault c.from.result c.from.ensures
          c.in-Err.ensures.stores;
      fails = ap (λ (j : JournalState). j.has_failed) c.in-Err.ensures.stores.err;
      stays = record {
        geometry = refl;
        generation = ap (λ (j : JournalState). j.generation) c.in-Err.ensures.stores.err;
      };
      passes = search rules;
      asks = barrier_asks g.D.Disk.medium c.args.self.now.geometry c.args.disk.now
          c.barrier.new.disk (λ few. (c.barrier.ensures.too_few few).0)
          c.barrier.ensures.stores.asks;
      counts = first_of (search rules, grind (arith, common_steps));
    }

pub returns-clause-stores : goal.returns-clause-stores
returns-clause-stores g c =
    record {
      any_moment = barrier_leaves g.D.Disk.medium c.args.self.now c.args.disk.now c.barrier.new.disk
          c.barrier.ensures.stores.any_moment;
      durable = let before = c.args.self.now in
          let journal = before.journal in
          let after : WorkerStore = record {
            geometry = before.geometry;
            journal = c.barrier.new.self;
          } in
          barrier_stores g.D.Disk.medium before c.args.disk.now c.barrier.new.disk
          c.barrier.ensures.stores.any_moment after (journal.used + sectors_for
          (length journal.kept))
          c.in_default.ensures.stores.ok refl c.in_default.ensures.stores.durable
          c.in_default.ensures.stores.all_synced c.in_default.ensures.quiet;
      stored = first_of (search rules, grind (arith, common_steps));
      all_synced = search rules;
      calls = search rules;
      cause = first_of (search rules, grind (arith, common_steps));
      fails = search rules;
      stays = record {
        geometry = refl;
        generation = ap (λ (j : JournalState). j.generation) c.in_default.ensures.stores.ok;
      };
      passes = search rules;
      asks = barrier_asks g.D.Disk.medium c.args.self.now.geometry c.args.disk.now
          c.barrier.new.disk (λ few. (c.barrier.ensures.too_few few).0)
          c.barrier.ensures.stores.asks;
      counts = first_of (search rules, grind (arith, common_steps));
    }

-- ---- on a disk with too few sectors

pub returns-in-Err-clause-too_few : goal.returns-in-Err-clause-too_few
returns-in-Err-clause-too_few g c few =
    let small = c.in-Err.ensures.too_few few in (
      small.0,
      λ works some.
          ⊎_elim (λ (full : c.from.result ≡ Full). (let e = ap Err full in inl e))
          (λ (range : c.from.result ≡ Disk Range). (let e = ap Err range in inr e))
          (told_fault c.in-Err.fault c.from.result c.from.ensures
          (⊎_elim (λ full. (let e : c.in-Err.fault ≡ of_journal.Full = cc in inl e))
          (λ range. (let e : c.in-Err.fault ≡ of_journal.Disk Range = cc in inr e))
          (small.1 works some))),
    )

pub returns-clause-too_few : goal.returns-clause-too_few
returns-clause-too_few g c few =
    let small = c.in_default.ensures.too_few few in (
      small.0,
      λ works some.
          absurd (⊎_elim (λ full. (let no : ⊥ = cc in no)) (λ range. (let no : ⊥ = cc in no))
          (small.1 works some)),
    )

pub returns-in-Err-clause-refused : goal.returns-in-Err-clause-refused
returns-in-Err-clause-refused g c failed =
    let before : WorkerStore = c.args.self.now in
    let refused = c.in-Err.ensures.refused failed in (
      store_refuses c.in-Err.fault c.from.result c.from.ensures refused.0,
      ap (λ (j : JournalState). record before { journal = j }) refused.1,
      refused.2,
    )

pub returns-clause-refused : goal.returns-clause-refused
returns-clause-refused g c failed =
    let refused = c.in_default.ensures.refused failed in
    let no = refused.0 in
    absurd (cc)
