use Rattle.std.proofs.Common.{◌≡◌, ◌⊎◌, ◌≤◌, ◌+◌, ◌*◌, max, min, ◌-◌, ◌∙◌, ℕ, List, [], ◌∷◌}
use Rattle.std.proofs.Common.{length, sym, ap, subst, arith, rules}
use Rattle.std.proofs.lemmas.Grind.{common_steps}
use Rattle.std.proofs.lemmas.Result.{on_ok_weaker}
use Rattle.sector_disk.specs.rules.DiskImage.{DiskImage, IsTorn, IsWritten}
use Rattle.sector_disk.specs.rules.Medium.{After, Follows, LeavesOnly, PerformsCalls}
use Rattle.sector_disk.specs.declared.disk_call.DiskCall.TheVariants.{WriteOf, Sync}
use Rattle.sector_disk.proofs.CallLemmas.{performed_then}
use Rattle.sector_disk.proofs.CountLemmas.{unsynced_within, counts_more, counts_then}
use Rattle.disk_layout.specs.rules.Places.{head_place, area_place, rounded_up}
use Rattle.snapshot.specs.Writing.{SparesSectors}
use Rattle.snapshot.specs.rules.Steps.{HoldsWithZeros, Fills, Commits, Replaces}
use Rattle.snapshot.proofs.PushLemmas.{on_err}
use Rattle.snapshot.proofs.SnapshotLemmas.{filled_commits}
use Rattle.snapshot.proofs.SpareLemmas.{spares_head}
use Rattle.snapshot.proofs.StoreCalls.{no_head}
use Rattle.snapshot.proofs.WriterLemmas.{is_head, finished, replaced}
use Rattle.snapshot.proofs.writer.AreaWriter.finish.Goals as goal

pub returns-in_err-store_last-clause-ends : goal.returns-in_err-store_last-clause-ends
returns-in_err-store_last-clause-ends g c =
    let old = g.D.Disk.medium c.args.disk.now in
    let new = g.D.Disk.medium c.store_last.new.disk in
    let w = c.args.self in
    let said = c.from_residual.result in
    let is_err = c.from_residual.ensures.0 in
    let s = c.store_last.ensures.stores in
    let made = s.calls in
    let open_one = w.open in
    let taken = rounded_up (512 * w.sectors + w.filled) in
    let begun = no_head w.writing (area_place c.args.geometry.now w.generation + w.sectors)
    (taken - w.sectors) w.generation old new (made.0, made.1, made.2.begun) in
    record {
      any_moment = λ bytes given.
          filled_commits c.args.geometry.now w.generation w.version bytes old new s.any_moment;
      done = on_err _ said is_err;
      all_synced = on_err _ said is_err;
      counts = counts_more (old.unsynced
          + min (taken - w.sectors) (c.args.geometry.now.area_sectors - w.sectors))
          (old.unsynced + 1) old new (omega (arith, open_one)) s.counts;
      spared = λ is. on_err _ said is_err;
      whole = λ is some. on_err _ said is_err;
      calls = (begun.0, begun.1, record { all = on_err _ said is_err; begun = begun.2 });
      cause = first_of (search rules, grind (arith, common_steps));
      asks = omega (arith, s.asks, open_one);
    }

pub returns-clause-ends : goal.returns-clause-ends
returns-clause-ends g c =
    let old = g.D.Disk.medium c.args.disk.now in
    let mid = g.D.Disk.medium c.store_last.new.disk in
    let new = g.D.Disk.medium c.write_durably.new.disk in
    let w = c.args.self in
    let h = c.head-head.result in
    let said = c.write_durably.result in
    let geometry = c.args.geometry.now in
    let place = area_place geometry w.generation in
    let taken = rounded_up (512 * w.sectors + w.filled) in
    let generation = c.head-head.ensures.generation in
    let s = c.in_ok-store_last.ensures.stores in
    let made = s.calls in
    let open_one = w.open in
    let leaves = s.any_moment in
    let p = leaves.passes in
    let inside : 3 ≤ mid.sectors = let r = c.in_ok-store_last.ensures.enough in
    omega (arith, p.sectors, r) in
    let one = subst (λ (n : ℕ). LeavesOnly old mid (After (Fills geometry n) old.crash_images))
    (sym generation) leaves in
    let counts = counts_more (old.unsynced
    + min (taken - w.sectors) (geometry.area_sectors - w.sectors)) (old.unsynced + 1) old mid
    (omega (arith, open_one)) s.counts in
    let few = unsynced_within (old.unsynced + 1) old mid (omega arith) p.later counts in
    let k = c.head_place.result in
    let here : k ≡ head_place w.generation = c.head_place.ensures
    ∙ ap (λ (n : ℕ). head_place n) generation in
    record {
      any_moment = λ bytes given.
          let digest = c.head-head.ensures.digest bytes given.hashed in
          let is = is_head h bytes digest c.head-head.ensures.small in
          let len = c.head-head.ensures.length ∙ sym given.count in
          let holds : (image : DiskImage) → mid.shows image
          → HoldsWithZeros geometry h.generation bytes image =
          λ image shows. subst (λ (n : ℕ). HoldsWithZeros geometry n bytes image) (sym generation)
          (c.in_ok-store_last.ensures.holds bytes given image shows) in
          let few : rounded_up (length bytes) ≤ geometry.area_sectors = let n = given.count in
          let r = c.requires in omega (arith, n, r) in
          let placed =
          subst (λ (k : ℕ). LeavesOnly mid new (λ image. mid.crash_images image
          ⊎ After (IsTorn k c.sector.result) mid.shows image)) c.head_place.ensures
          c.write_durably.ensures.any_moment in
          let two = subst (λ (l : List ℕ). LeavesOnly mid new (λ image. mid.crash_images image
          ⊎ After (IsTorn (head_place h.generation) l) mid.shows image)) c.sector.ensures placed in
          let done = finished geometry h bytes is len digest few old mid new inside one holds two in
          let at = subst (λ (n : ℕ).
          LeavesOnly old new (After (Commits geometry n h.version bytes) old.crash_images))
          generation done in
          subst (λ (v : ℕ).
          LeavesOnly old new (After (Commits geometry w.generation v bytes) old.crash_images))
          c.head-head.ensures.version at;
      done = on_ok_weaker said
          (λ written. λ bytes given.
          let digest = c.head-head.ensures.digest bytes given.hashed in
          let is = is_head h bytes digest c.head-head.ensures.small in
          let len = c.head-head.ensures.length ∙ sym given.count in
          let holds : (image : DiskImage) → mid.shows image
          → HoldsWithZeros geometry h.generation bytes image =
          λ image shows. subst (λ (n : ℕ). HoldsWithZeros geometry n bytes image) (sym generation)
          (c.in_ok-store_last.ensures.holds bytes given image shows) in
          let few : rounded_up (length bytes) ≤ geometry.area_sectors = let n = given.count in
          let r = c.requires in omega (arith, n, r) in
          let placed =
          subst (λ (k : ℕ). Follows (IsWritten k c.sector.result) mid.shows new.crash_images)
          c.head_place.ensures written in
          let two = subst (λ (l : List ℕ).
          Follows (IsWritten (head_place h.generation) l) mid.shows new.crash_images)
          c.sector.ensures placed in
          let done = replaced geometry h bytes is len digest few old mid new inside one holds two in
          let at = subst (λ (n : ℕ).
          Follows (Replaces geometry n h.version bytes) old.crash_images new.crash_images)
          generation done in
          subst (λ (v : ℕ). Follows (Replaces geometry w.generation v bytes) old.crash_images
          new.crash_images) c.head-head.ensures.version at)
          c.write_durably.ensures.written;
      all_synced = c.write_durably.ensures.all_synced;
      counts = counts_then (old.unsynced + 1) (max mid.unsynced 1) (old.unsynced + 1) old mid new
          (omega arith) (omega (arith, few)) p.later counts c.write_durably.ensures.counts;
      spared = λ is.
          let behind : w.sectors + (taken - w.sectors) ≡ taken = omega (arith, open_one) in
          let stored = subst (λ (n : ℕ). SparesSectors place w.sectors n old mid) behind
          (s.spared is) in
          on_ok_weaker said
          (λ written. spares_head place w.sectors taken k c.sector.result old mid new
          (omega (arith, c.head_place.ensures)) p.later stored written
          c.write_durably.ensures.counts)
          c.write_durably.ensures.written;
      whole = λ is some.
          let stored = s.whole is in
          let one : mid.unsynced ≡ old.unsynced + 1 = omega (arith, stored, some, open_one) in
          let more = c.write_durably.ensures.counts in
          on_ok_weaker said
          (λ all_synced. subst (λ (n : ℕ). new.unsynced_since old.moment n) one
          (more.keeps old.moment mid.unsynced p.later (mid.count_now old.moment p.later)))
          c.write_durably.ensures.all_synced;
      calls =
          let head = performed_then made.0 (Sync ∷ WriteOf k ∷ Sync ∷ []) said old mid new
          made.2.all c.write_durably.ensures.calls in (
            made.0,
            made.1,
            subst (λ (j : ℕ).
                PerformsCalls (Sync ∷ WriteOf j ∷ Sync ∷ made.0) said old new) here head,
          );
      cause = first_of (search rules, grind (arith, common_steps));
      asks = omega (arith, s.asks, open_one, c.write_durably.ensures.counted);
    }
