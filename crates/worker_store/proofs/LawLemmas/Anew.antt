-- A worker that is created, and opens.
use Rattle.std.proofs.Common.{◌≡◌, ◌⊎◌, List, [], length, ap, subst, inl, inr, ⊎_elim, arith}
use Rattle.std.proofs.Math.Nat.{le-max_right}
use Rattle.process_rules.specs.Runs.{Kept}
use Rattle.state_image.specs.rules.ProcessImage.{Saved}
use Rattle.sector_disk.specs.rules.DiskImage.{DiskImage}
use Rattle.sector_disk.specs.rules.Medium.{Medium}
use Rattle.sector_disk.proofs.Moments.{leaves_weaker}
use Rattle.worker_store.specs.restart_theorem.Stands.{IsBlank}
use Rattle.worker_store.specs.restart_theorem.Lives.{Opened}
use Rattle.worker_store.specs.restart_theorem.Promises.{Promise, after}
use Rattle.worker_store.specs.restart_theorem.Holds.{IsNothingYet, DiskImageHolds}
use Rattle.worker_store.specs.rules.Savepoints.{BeginsAtPoint}
use Rattle.worker_store.specs.rules.Carried.{IsHeldAt}
use Rattle.worker_store.specs.laws.Carried.{PromisesNoMore}
use Rattle.worker_store.specs.laws.Anew.{CreationOpens}
use Rattle.worker_store.proofs.LawLemmas.Carrying.{held_at_holds_promise, fresh_is_held}
use Rattle.worker_store.proofs.LawLemmas.Carrying.{opening_is_held, less_is_held}

-- where nothing was promised, an opening takes nothing back
pub opening_promises_no_less : (promise : Promise) (shown : Saved) → IsNothingYet promise
    → PromisesNoMore promise (after promise (Opened 0 shown))
opening_promises_no_less promise shown nothing =
    let none_synced : promise.synced ≡ 0 = ap (λ (p : Promise). p.synced) nothing in
    record {
      answers = le-max_right 0 promise.answers;
      steps = le-max_right shown.steps promise.steps;
      passed = le-max_right shown.lines promise.passed;
      begun = omega arith;
      synced = omega (arith, none_synced);
    }

module _ {D : Type 0} (medium : D → Medium) where
  pub creation_opens : CreationOpens medium
  creation_opens m config promise shown first old new nothing created empty no_lines same leaves
      stands =
      let none_taken : length first.front ≡ 0 = ap (λ (l : List Kept). length l) empty in
      let more : Promise = after promise (Opened 0 shown) in
      let held : IsHeldAt (after promise (Opened 0 shown)) first [] first.process =
      subst (λ (s : Saved). IsHeldAt (after promise (Opened 0 s)) first [] first.process) same
      (subst (λ n. IsHeldAt (after promise (Opened n first.saved)) first [] first.process)
      none_taken
      (opening_is_held m config promise first
      (fresh_is_held m config promise first nothing created empty no_lines))) in
      let P : DiskImage → Type 0 = λ disk. IsBlank disk ⊎ BeginsAtPoint first disk in
      let holds : (disk : DiskImage) → P disk → DiskImageHolds m config promise more disk =
      λ disk at. ⊎_elim
      (λ (blank : IsBlank disk). inl (nothing, blank))
      (λ (begins : BeginsAtPoint first disk).
      inr (less_is_held m config promise more more disk
      (opening_promises_no_less promise shown nothing)
      (held_at_holds_promise m config more first [] first.process disk held begins.at))) at in
      record {
        carries = record {
          at_any_moment = leaves_weaker (medium old) (medium new) P
              (DiskImageHolds m config promise more) leaves holds;
          in_the_end = λ disk crashed. inr
              (held_at_holds_promise m config more first [] first.process disk held
              (stands disk crashed));
        };
        held = held;
      }
