use Rattle.std.proofs.Common.{◌≡◌, ◌<◌, ◌≤◌, ◌+◌, ◌^◌, false, length, arith, rules, sym, ap, ◌∙◌}
use Rattle.std.proofs.Common.{inl}
use Rattle.std.proofs.lemmas.Bool.{eqb-false}
use Rattle.journal.specs.rules.Packed.{sectors_for}
use Rattle.journal.proofs.BarrierLemmas.{nothing_written, any_moment_at, durable_at, room_for, goes}
use Rattle.journal.proofs.BarrierLemmas.{goes_not, none_kept, still_held}
use Rattle.sector_disk.proofs.CallLemmas.{no_calls}
use Rattle.disk_layout.specs.rules.Places.{total_sectors}
use Rattle.journal.specs.rules.Steps.{barrier_calls}
use Rattle.journal.proofs.journal.Journal.barrier.Goals as goal

pub returns-then-self-clause-stores : goal.returns-then-self-clause-stores
returns-then-self-clause-stores g c =
    let m = g.D.Disk.medium c.args.disk.now in
    let s = c.args.self.now in
    record {
      ok = search rules;
      err = search rules;
      failed = search rules;
      full = search rules;
      cause = search rules;
      no_memory = search rules;
      not_too_long = search rules;
      any_moment = λ records kept on.
          nothing_written c.args.geometry.now s.version s.generation s.used s.kept records kept m
          on;
      durable = search rules;
      passes = goes_not m;
      all_synced = search rules;
      unsynced = search rules;
      calls = record { all = tt; begun = no_calls (barrier_calls c.args.geometry.now s) m };
      together = search rules;
      counts = search rules;
      asks = search rules;
    }

pub returns-then-is_empty-clause-stores : goal.returns-then-is_empty-clause-stores
returns-then-is_empty-clause-stores g c =
    let m = g.D.Disk.medium c.args.disk.now in
    let s = c.args.self.now in
    let none : length s.kept ≡ 0 = search rules in
    let works : s.has_failed ≡ false = search rules in
    record {
      ok = none_kept s.version s.generation s.used s.kept s.has_failed none works;
      err = search rules;
      failed = search rules;
      full = search rules;
      cause = search rules;
      no_memory = search rules;
      not_too_long = search rules;
      any_moment = λ records kept on.
          nothing_written c.args.geometry.now s.version s.generation s.used s.kept records kept m
          on;
      durable = λ records kept on image crashed.
          still_held c.args.geometry.now s.version s.generation s.used s.kept records kept m on
          none image crashed;
      passes = goes_not m;
      all_synced = search rules;
      unsynced = search rules;
      calls = search rules;
      together = search rules;
      counts = search rules;
      asks = search rules;
    }

pub returns-then-count-unwritten-clause-stores : goal.returns-then-count-unwritten-clause-stores
returns-then-count-unwritten-clause-stores g c =
    let m = g.D.Disk.medium c.args.disk.now in
    let s = c.args.self.now in
    record {
      ok = search rules;
      err = search rules;
      failed = search rules;
      full = search rules;
      cause = search rules;
      no_memory = search rules;
      not_too_long = search rules;
      any_moment = λ records kept on.
          nothing_written c.args.geometry.now s.version s.generation s.used s.kept records kept m
          on;
      durable = search rules;
      passes = goes_not m;
      all_synced = search rules;
      unsynced = search rules;
      calls = record { all = tt; begun = no_calls (barrier_calls c.args.geometry.now s) m };
      together = search rules;
      counts = search rules;
      asks = search rules;
    }

pub returns-in-Err-clause-stores : goal.returns-in-Err-clause-stores
returns-in-Err-clause-stores g c =
    let m = g.D.Disk.medium c.args.disk.now in
    let s = c.args.self.now in
    let few : m.sectors < total_sectors c.args.geometry.now =
    let f = c.in-Err.ensures.too_few.1 in let n = c.total_sectors.ensures in omega (arith, f, n) in
    record {
      ok = search rules;
      err = search rules;
      failed = search rules;
      full = search rules;
      cause = λ fault same. inl few;
      no_memory = search rules;
      not_too_long = search rules;
      any_moment = λ records kept on.
          nothing_written c.args.geometry.now s.version s.generation s.used s.kept records kept m
          on;
      durable = search rules;
      passes = goes_not m;
      all_synced = search rules;
      unsynced = search rules;
      calls = record {
        all = search rules;
        begun = no_calls (barrier_calls c.args.geometry.now s) m;
      };
      together = search rules;
      counts = search rules;
      asks = search rules;
    }

pub returns-in-Err-stored-clause-stores : goal.returns-in-Err-stored-clause-stores
returns-in-Err-stored-clause-stores g c =
    let old = g.D.Disk.medium c.args.disk.now in
    let new = g.D.Disk.medium c.store_packed-stored.new.disk in
    let s = c.args.self.now in
    let geometry = c.args.geometry.now in
    let view = c.self.view_is in
    let bytes : c.as_slice.result.now ≡ s.kept = c.as_slice.ensures.value ∙ ap (λ x. x.kept) view in
    let used : c.self.inside.used ≡ s.used = ap (λ x. x.used) view in
    let len : c.len.result ≡ length s.kept = c.len.ensures ∙ sym c.as_slice.ensures.len
    ∙ ap length bytes in
    let counted : c.sectors_for-count.result ≡ sectors_for (length s.kept) =
    c.sectors_for-count.ensures ∙ ap sectors_for len in
    let some : length s.kept ≡ 0 → ⊥ =
    λ e. eqb-false _ _ (sym c.is_empty.ensures ∙ c.if-is_empty.false) (sym c.len.ensures ∙ len
    ∙ e) in
    let room : s.used + sectors_for (length s.kept) ≤ geometry.journal_sectors =
    room_for s.used geometry.journal_sectors (length s.kept) c.sectors_for-count.result counted some
    (let f = c.if-count-unwritten.false in let u = c.saturating_sub-unwritten.ensures in
    let j = c.from.ensures in omega arith) in
    let bound : geometry.journal_sectors < 2 ^ 32 = search rules in
    let size : total_sectors geometry ≤ old.sectors =
    let f = c.in_default.ensures.enough in let n = c.total_sectors.ensures in omega (arith, f, n) in
    record {
      ok = search rules;
      err = search rules;
      failed = search rules;
      full = search rules;
      cause = search rules;
      no_memory = search rules;
      not_too_long = search rules;
      any_moment = λ records kept on.
          any_moment_at geometry s.version s.generation s.used s.kept records kept old new
          c.journal_place.result c.self.inside.generation c.self.inside.used c.as_slice.result.now
          c.journal_place.ensures (ap (λ x. x.generation) view) used bytes on size room bound
          c.store_packed-stored.ensures.any_moment;
      durable = search rules;
      passes = goes old new _ c.store_packed-stored.ensures.any_moment;
      all_synced = search rules;
      unsynced = search rules;
      calls = search rules;
      together = search rules;
      counts = search rules;
      asks = search rules;
    }

pub returns-clause-stores : goal.returns-clause-stores
returns-clause-stores g c =
    let old = g.D.Disk.medium c.args.disk.now in
    let new = g.D.Disk.medium c.store_packed-stored.new.disk in
    let s = c.args.self.now in
    let geometry = c.args.geometry.now in
    let view = c.self.view_is in
    let bytes : c.as_slice.result.now ≡ s.kept = c.as_slice.ensures.value ∙ ap (λ x. x.kept) view in
    let used : c.self.inside.used ≡ s.used = ap (λ x. x.used) view in
    let len : c.len.result ≡ length s.kept = c.len.ensures ∙ sym c.as_slice.ensures.len
    ∙ ap length bytes in
    let counted : c.sectors_for-count.result ≡ sectors_for (length s.kept) =
    c.sectors_for-count.ensures ∙ ap sectors_for len in
    let some : length s.kept ≡ 0 → ⊥ =
    λ e. eqb-false _ _ (sym c.is_empty.ensures ∙ c.if-is_empty.false) (sym c.len.ensures ∙ len
    ∙ e) in
    let room : s.used + sectors_for (length s.kept) ≤ geometry.journal_sectors =
    room_for s.used geometry.journal_sectors (length s.kept) c.sectors_for-count.result counted some
    (let f = c.if-count-unwritten.false in let u = c.saturating_sub-unwritten.ensures in
    let j = c.from.ensures in omega arith) in
    let bound : geometry.journal_sectors < 2 ^ 32 = search rules in
    let size : total_sectors geometry ≤ old.sectors =
    let f = c.in_default.ensures.enough in let n = c.total_sectors.ensures in omega (arith, f, n) in
    record {
      ok = search rules;
      err = search rules;
      failed = search rules;
      full = search rules;
      cause = search rules;
      no_memory = search rules;
      not_too_long = search rules;
      any_moment = λ records kept on.
          any_moment_at geometry s.version s.generation s.used s.kept records kept old new
          c.journal_place.result c.self.inside.generation c.self.inside.used c.as_slice.result.now
          c.journal_place.ensures (ap (λ x. x.generation) view) used bytes on size room bound
          c.store_packed-stored.ensures.any_moment;
      durable = λ records kept on.
          durable_at geometry s.version s.generation s.used s.kept records kept old new
          c.self.inside.version c.journal_place.result c.self.inside.generation c.self.inside.used
          c.sectors_for-count.result c.as_slice.result.now (ap (λ x. x.version) view)
          c.journal_place.ensures (ap (λ x. x.generation) view) used bytes counted on size
          room bound c.in_default-stored.ensures.stored;
      passes = goes old new _ c.store_packed-stored.ensures.any_moment;
      all_synced = search rules;
      unsynced = search rules;
      calls = search rules;
      together = search rules;
      counts = search rules;
      asks = search rules;
    }
