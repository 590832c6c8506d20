-- Zeros that are written to sectors one after another.
use Rattle.std.proofs.Common.{◌≡◌, ◌<◌, ◌≤◌, ◌⊎◌, ◌+◌, ◌++◌, ℕ, List, length, sym, ◌∙◌}
use Rattle.std.proofs.Common.{subst, arith, replicate}
use Rattle.std.specs.Prelude.{Result, Ok, Err}
use Rattle.std.proofs.lemmas.Bool.{false≢true}
use Rattle.std.proofs.lemmas.List.{get_or-replicate, length-replicate}
use Rattle.wasi_abi.specs.rules.Layouts.{padding}
use Rattle.sector_disk.specs.rules.DiskImage.{sector_at}
use Rattle.sector_disk.specs.rules.Medium.{Medium, After, BothFollow, BeginsCalls, CountsUpTo}
use Rattle.sector_disk.specs.rules.Medium.{CallsUpTo, FailsInside, PerformsCalls, Passes, spare}
use Rattle.sector_disk.specs.rules.Calls.{rising_writes}
use Rattle.sector_disk.specs.rules.Run.{IsTornRun, IsWrittenRun, WritesRun}
use Rattle.sector_disk.specs.declared.fault.DiskFault.{DiskFault}
use Rattle.sector_disk.specs.declared.fault.DiskFault.TheVariants.{Range, Memory}
use Rattle.sector_disk.proofs.RunLemmas.{run_leaves_only}
use Rattle.snapshot.proofs.PushLemmas.{ok_no_err}

-- so many sectors of zeros
abbrev pub zero_sectors : ℕ → List (List ℕ)
zero_sectors n = replicate n (padding 512)

pub zero_at : (count n : ℕ) → n < count → sector_at (zero_sectors count) n ≡ padding 512
zero_at count n below = get_or-replicate count n (padding 512) _ below

-- so many writes were made
abbrev MadeRising : ℕ → ℕ → Medium → Medium → Type 0
MadeRising at n old new =
    PerformsCalls {T = Unit {0}} {E = DiskFault} (rising_writes at n) (Ok tt) old new

-- all of them are written
pub zeros_written : (at count n : ℕ) (old new : Medium) → n ≡ count
    → BothFollow (IsWrittenRun at (zero_sectors count) n) (IsTornRun at (zero_sectors count) n) old
    new
    → BothFollow (IsTornRun at (zero_sectors count) n) (IsTornRun at (zero_sectors count) n) old new
    → new.unsynced ≤ old.unsynced + n → CountsUpTo (old.unsynced + n) old new
    → new.calls ≡ rising_writes at n ++ old.calls
    → Passes old new (After (IsTornRun at (zero_sectors count) count) old.crash_images)
    → CallsUpTo n old new → WritesRun {T = Unit {0}} at (zero_sectors count) (Ok tt) old new
zeros_written at count n old new all whole tears unsynced counts calls passes counted =
    let sectors : List (List ℕ) = zero_sectors count in
    let long : n ≡ length sectors = all ∙ sym (length-replicate count (padding 512)) in
    let many : count ≡ length sectors = sym (length-replicate count (padding 512)) in
    record {
      whole = subst (λ k. BothFollow (IsWrittenRun at sectors k) (IsTornRun at sectors k) old new)
          long whole;
      tears = subst (λ k. BothFollow (IsTornRun at sectors k) (IsTornRun at sectors k) old new)
          long tears;
      unsynced = subst (λ k. new.unsynced ≤ old.unsynced + k) long unsynced;
      counts = subst (λ k. CountsUpTo (old.unsynced + k) old new) long counts;
      calls = subst (λ k. MadeRising at k old new) long
          (record { all = calls; begun = (0, calls) });
      counted = omega (arith, long, counted);
      any_moment = run_leaves_only at sectors (length sectors) old new
          (subst (λ k. Passes old new (After (IsTornRun at sectors k)
          old.crash_images)) many passes);
      cause = λ none. absurd (false≢true none);
      which_fault = record {
        no_range = λ none. ok_no_err tt Range none;
        no_memory = λ none. ok_no_err tt Memory none;
      };
    }

-- some of them are
pub zeros_cut : (at count : ℕ) (said : Result (Unit {0}) DiskFault) (fault : DiskFault)
    (old new : Medium) → said ≡ Err fault
    → BothFollow (IsTornRun at (zero_sectors count) count) (IsTornRun at (zero_sectors count) count)
    old new
    → new.unsynced ≤ old.unsynced + count → CountsUpTo (old.unsynced + count) old new
    → BeginsCalls (rising_writes at count) old new
    → Passes old new (After (IsTornRun at (zero_sectors count) count) old.crash_images)
    → (spare old < count) ⊎ (old.faults < new.faults) → FailsInside {T = Unit {0}} (Err fault)
    → CallsUpTo count old new → WritesRun at (zero_sectors count) said old new
zeros_cut at count said fault old new same tears unsynced counts calls passes cause
    which_fault counted =
    let sectors : List (List ℕ) = zero_sectors count in
    let many : count ≡ length sectors = sym (length-replicate count (padding 512)) in
    subst (λ (r : Result (Unit {0}) DiskFault). WritesRun at sectors r old new) (sym same) (record {
      whole = tt;
      tears = subst (λ k. BothFollow (IsTornRun at sectors k) (IsTornRun at sectors k) old new)
          many tears;
      unsynced = subst (λ k. new.unsynced ≤ old.unsynced + k) many unsynced;
      counts = subst (λ k. CountsUpTo (old.unsynced + k) old new) many counts;
      calls = record {
        all = tt;
        begun = subst (λ k. BeginsCalls (rising_writes at k) old new) many calls;
      };
      counted = omega (arith, many, counted);
      any_moment = run_leaves_only at sectors (length sectors) old new
          (subst (λ k. Passes old new (After (IsTornRun at sectors k)
          old.crash_images)) many passes);
      cause = λ _. subst (λ k. (spare old < k) ⊎ (old.faults < new.faults)) many cause;
      which_fault = which_fault;
    })
