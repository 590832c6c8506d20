-- A file that gave one answer more, a failed one.
use Rattle.std.proofs.Common.{◌≡◌, ◌<◌, ◌+◌, ◌^◌, ℕ, List, ◌∷◌, Bool, true, false, length}
use Rattle.std.proofs.Common.{if◌then◌else◌, Err, refl, ap, sym, ◌∙◌, subst, inr}
use Rattle.std.proofs.Common.{inl, ⊎_elim, arith}
use Rattle.sector_disk.specs.rules.Medium.{Reads, Writes, SyncsMedium, Stays, CountsUpTo, Passes}
use Rattle.sector_disk.specs.rules.Medium.{HasCause}
use Rattle.sector_disk.specs.rules.DiskImage.{DiskImage, IsDiskImage}
use Rattle.sector_disk.specs.rules.Answered.{AnsweredCalls, Explains, ExplainsSince, faults_of}
use Rattle.sector_disk.specs.rules.Answered.{is_fault}
use Rattle.sector_disk.specs.rules.Answered.{unsynced_of, file_calls, is_given_up, after_failure}
use Rattle.sector_disk.specs.rules.File.{answered_medium}
use Rattle.sector_disk.specs.laws.Answered.{failed_since, since_on}
use Rattle.sector_disk.specs.declared.fault.DiskFault.TheVariants.{Io}
use Rattle.sector_disk.specs.declared.file_call.FileCall.{FileCall}
use Rattle.sector_disk.specs.declared.file_call.FileCall.TheVariants.{Failed}
use Rattle.sector_disk.specs.declared.file_call.Failure.{Failure}
use Rattle.sector_disk.specs.declared.file_call.Failure.TheVariants.{Refused}
use Rattle.sector_disk.specs.declared.file_call.TheConstants.{NO_BYTES}
use Rattle.sector_disk.proofs.CountLemmas.{answered_keeps, answered_grows, counts_more}
use Rattle.sector_disk.proofs.Moments.{no_write}

-- what is logged of a failure, by whether the file was given up before
module _ (call : FileCall) (bytes : List ℕ) (old new : AnsweredCalls) where
  abbrev of : Bool → Type 0
  of given_up = new ≡ (if given_up then (Failed Refused, NO_BYTES) else (call, bytes)) ∷ old

  pub refused_after : (given_up : Bool) → given_up ≡ is_given_up old → given_up ≡ true
      → new ≡ (Failed Refused, NO_BYTES) ∷ old → new ≡ after_failure call bytes old
  refused_after given_up is was e = subst of (sym was ∙ is) e

  pub failed_after : (given_up : Bool) → given_up ≡ is_given_up old → given_up ≡ false
      → new ≡ (call, bytes) ∷ old → new ≡ after_failure call bytes old
  failed_after given_up is was e = subst of (sym was ∙ is) e

-- one answer more
module _ (n : ℕ) (fits fits-new : n < 2 ^ 64) (first : DiskImage)
    (whole whole-new : IsDiskImage n first) (answer : FileCall × List ℕ) (old new : AnsweredCalls)
    (is : new ≡ answer ∷ old) where
  pub passes_on : Passes (answered_medium n fits first whole old)
      (answered_medium n fits-new first whole-new new)
      (answered_medium n fits-new first whole-new new).crash_images
  passes_on = record {
    sectors = refl;
    fault_plan = refl;
    room = refl;
    faults = let e : faults_of new ≡ is_fault answer.0 + faults_of old = ap faults_of is in
        omega arith;
    later = let e : length new ≡ length (answer ∷ old) = ap length is in omega arith;
    nothing_else = λ t image le crashed. ⊎_elim
        (λ (was : (was : DiskImage) × ExplainsSince first t old image was). inl was)
        (λ (now : (now : DiskImage) × Explains first (answer ∷ old) now image). inr (
          now.0,
          subst (λ (a : AnsweredCalls). Explains first a now.0 image) (sym is) now.1,
        ))
        (since_on first t answer old image crashed.0
        (subst (λ (a : AnsweredCalls). ExplainsSince first t a image crashed.0) is crashed.1));
  }

-- a call that failed and wrote nothing
module _ (n : ℕ) (fits fits-new : n < 2 ^ 64) (first : DiskImage)
    (whole whole-new : IsDiskImage n first) {which : Failure} {bytes : List ℕ}
    (old new : AnsweredCalls)
    (is : new ≡ (Failed which, bytes) ∷ old) where
  fewer : unsynced_of new ≡ unsynced_of old
  fewer = ap unsynced_of is

  faults : faults_of new ≡ 1 + faults_of old
  faults = ap faults_of is

  later : length new ≡ length old + 1
  later = let e : length new ≡ length ((Failed which, bytes) ∷ old) = ap length is in omega arith

  failed_stays : Stays (answered_medium n fits first whole old)
      (answered_medium n fits-new first whole-new new)
  failed_stays = record {
    crash_pairs = λ shown image both.
        subst (λ (a : AnsweredCalls). Explains first a shown image) is both;
    since = λ t shown image le both. failed_since first t new old image shown is le both;
    unsynced = let e = fewer in omega arith;
  }

  failed_counts : CountsUpTo (unsynced_of old) (answered_medium n fits first whole old)
      (answered_medium n fits-new first whole-new new)
  failed_counts = record {
    keeps = λ t count le since. answered_keeps old new _ t count is since;
    grows = λ t count le since.
        answered_grows old new _ (unsynced_of old) t count is (omega arith) since;
  }

  failed_passes : Passes (answered_medium n fits first whole old)
      (answered_medium n fits-new first whole-new new)
      (answered_medium n fits-new first whole-new new).crash_images
  failed_passes = record {
    sectors = refl;
    fault_plan = refl;
    room = refl;
    faults = let e = faults in omega arith;
    later = let e = later in omega arith;
    nothing_else = λ t image le crashed. inl (
      crashed.0,
      failed_since first t new old image crashed.0 is le crashed.1,
    );
  }

  failed_cause : {T : Type 0} (is_out is_full : Type 0) → HasCause {T = T} is_out is_full (Err Io)
      (answered_medium n fits first whole old) (answered_medium n fits-new first whole-new new)
  failed_cause {T} is_out is_full = record {
    fault = λ err. inr (let e = faults in omega arith);
    range = λ e. absurd (cc);
    no_memory = λ e. cc;
  }

  pub failed_reads : (k : ℕ) (into : List ℕ) → Reads {T = Unit {0}} k into (Err Io)
      (answered_medium n fits first whole old) (answered_medium n fits-new first whole-new new)
  failed_reads k into = record {
    inside = tt;
    bytes = tt;
    stays = failed_stays;
    unsynced = fewer;
    counts = failed_counts;
    calls = ap file_calls is;
    counted = omega arith;
    passes = failed_passes;
    cause = failed_cause _ _;
  }

  pub failed_syncs : SyncsMedium {T = Unit {0}} (Err Io) (answered_medium n fits first whole old)
      (answered_medium n fits-new first whole-new new)
  failed_syncs = record {
    all_synced = tt;
    stays = failed_stays;
    unsynced = fewer;
    counts = failed_counts;
    calls = record { all = tt; begun = (1, ap file_calls is) };
    counted = omega arith;
    passes = failed_passes;
    cause = failed_cause _ _;
  }

  pub failed_writes : (k : ℕ) (from : List ℕ) → Writes {T = Unit {0}} k from (Err Io)
      (answered_medium n fits first whole old) (answered_medium n fits-new first whole-new new)
  failed_writes k from = record {
    inside = tt;
    whole = tt;
    tears = record {
      both = no_write (answered_medium n fits first whole old)
          (answered_medium n fits-new first whole-new new) 512 k from
          failed_stays;
      unsynced = let e = fewer in omega arith;
    };
    counts = counts_more (unsynced_of old) (unsynced_of old + 1)
        (answered_medium n fits first whole old)
        (answered_medium n fits-new first whole-new new) (omega arith) failed_counts;
    calls = record { all = tt; begun = (1, ap file_calls is) };
    counted = omega arith;
    passes = failed_passes;
    cause = failed_cause _ _;
  }
