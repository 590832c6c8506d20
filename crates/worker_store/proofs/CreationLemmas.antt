-- The calls of a creation, one after another.
use Rattle.std.proofs.Common.{◌≡◌, ◌<◌, ◌≤◌, ◌⊎◌, ℕ, List, [], ◌∷◌, ◌++◌, length, replicate}
use Rattle.std.proofs.Common.{sym, ap, ◌∙◌, subst, ⊎_elim, inl, inr, arith, append_assoc}
use Rattle.std.specs.Prelude.{Result, Ok, Err, IsErr}
use Rattle.std.proofs.lemmas.Bool.{false≢true}
use Rattle.std.proofs.lemmas.List.{length-append, length-replicate}
use Rattle.wasi_abi.specs.rules.Configs.{Settings}
use Rattle.sector_disk.specs.rules.DiskImage.{DiskImage}
use Rattle.sector_disk.specs.rules.Medium.{Medium, After, Follows, IsAllSynced, LeavesOnly, Passes}
use Rattle.sector_disk.specs.rules.Medium.{BeginsCalls, PerformsCalls, Stays, spare}
use Rattle.sector_disk.specs.declared.disk_call.DiskCall.{DiskCall}
use Rattle.sector_disk.specs.declared.disk_call.DiskCall.TheVariants.{Sync}
use Rattle.sector_disk.specs.rules.Calls.{rising_writes, synced_writes}
use Rattle.sector_disk.proofs.CallLemmas.{begun_first, begun_then, performed_then}
use Rattle.sector_disk.specs.rules.Run.{IsTornRun, IsWrittenRun}
use Rattle.sector_disk.proofs.Moments.{goes_on, weaker, leaves_weaker, shows_crashed}
use Rattle.sector_disk.proofs.Moments.{synced_only, stays_shows, stays_leaves_only}
use Rattle.disk_layout.specs.declared.geometry.Geometry.{Geometry}
use Rattle.disk_layout.specs.rules.Places.{config_bytes, geometry_of, journal_place, rounded_up}
use Rattle.disk_layout.specs.rules.Sectors.{SectorsHold}
use Rattle.disk_layout.specs.rules.Contents.{contents_sectors}
use Rattle.disk_layout.proofs.ContentsLemmas.{holds_what_is_written}
use Rattle.worker_store.specs.restart_theorem.Stands.{IsBlank}
use Rattle.worker_store.specs.laws.Creations.{AwaitsHead, HasNoSuper, zero_sector}
use Rattle.worker_store.specs.rules.Savepoints.{LeavesAll}
use Rattle.worker_store.proofs.LawLemmas.Creating.{zeros_keep_blank, zeros_take_super}
use Rattle.worker_store.proofs.LawLemmas.Creating.{runs_keep_no_super}
use Rattle.worker_store.proofs.LawLemmas.Creating.{no_super_is_blank, zero_runs_await_head}
use Rattle.worker_store.specs.rules.Creations.{behind_calls, contents_calls}
use Rattle.worker_store.proofs.LawLemmas.Passing.{step_at_any_moment, crashed_in_the_end}

-- one call, and then another
pub leaves_on : (a b c : Medium) (P Q R : DiskImage → Type 0) → LeavesOnly a b P → LeavesOnly b c Q
    → ((image : DiskImage) → P image → R image) → ((image : DiskImage) → Q image → R image)
    → LeavesOnly a c R
leaves_on a b c P Q R one two first second =
    let p = one.passes in
    let q = two.passes in
    record {
      each = λ image since.
          ⊎_elim (λ past. first image (one.each image past)) (λ now. second image now)
          (q.nothing_else a.moment image p.later since);
      passes = goes_on a b c R Q (weaker a b P R p first) q second;
    }

-- ---- the super's zeros

pub zeros_leave_blank : (a b : Medium) → LeavesAll a IsBlank
    → LeavesOnly a b (After (IsTornRun 0 (zero_sector ∷ []) 1) a.crash_images)
    → LeavesOnly a b IsBlank
zeros_leave_blank a b all leaves =
    step_at_any_moment a b (IsTornRun 0 (zero_sector ∷ []) 1) IsBlank IsBlank all
    (λ x y blank run. zeros_keep_blank x y blank run) leaves

pub zeros_leave_none : (a b : Medium)
    → Follows (IsWrittenRun 0 (zero_sector ∷ []) 1) a.shows b.crash_images → LeavesAll b HasNoSuper
zeros_leave_none a b follows image crashed =
    let after = follows image crashed in
    zeros_take_super after.0 image after.2

-- ---- behind the super

pub run_leaves_none : (at n : ℕ) (sectors : DiskImage) (a b : Medium) → 1 ≤ at
    → LeavesAll a HasNoSuper → LeavesOnly a b (After (IsTornRun at sectors n) a.crash_images)
    → LeavesOnly a b HasNoSuper
run_leaves_none at n sectors a b from all leaves =
    step_at_any_moment a b (IsTornRun at sectors n) HasNoSuper HasNoSuper all
    (λ x y none run. runs_keep_no_super at n sectors x y from none run) leaves

-- one, and then another
pub both_leave_none : (a b c : Medium) → LeavesOnly a b HasNoSuper → LeavesOnly b c HasNoSuper
    → LeavesOnly a c HasNoSuper
both_leave_none a b c one two =
    leaves_on a b c HasNoSuper HasNoSuper HasNoSuper one two (λ i p. p) (λ i p. p)

-- two runs, and three
pub two_leave_none : (n : ℕ) (sectors zeros : DiskImage) (a b c : Medium) → LeavesAll a HasNoSuper
    → LeavesOnly a b (After (IsTornRun 3 sectors n) a.crash_images)
    → LeavesOnly b c (After (IsTornRun 1 zeros 2) b.crash_images) → LeavesOnly a c HasNoSuper
two_leave_none n sectors zeros a b c all one two =
    let first = run_leaves_none 3 n sectors a b (omega arith) all one in
    both_leave_none a b c first
    (run_leaves_none 1 2 zeros b c (omega arith) (crashed_in_the_end a b HasNoSuper first) two)

pub three_leave_none : (n k at : ℕ) (sectors zeros journal : DiskImage) (a b c d : Medium) → 1 ≤ at
    → LeavesAll a HasNoSuper
    → LeavesOnly a b (After (IsTornRun 3 sectors n) a.crash_images)
    → LeavesOnly b c (After (IsTornRun 1 zeros 2) b.crash_images)
    → LeavesOnly c d (After (IsTornRun at journal k) c.crash_images) → LeavesOnly a d HasNoSuper
three_leave_none n k at sectors zeros journal a b c d from all one two three =
    let first = two_leave_none n sectors zeros a b c all one two in
    both_leave_none a c d first
    (run_leaves_none at k journal c d from (crashed_in_the_end a c HasNoSuper first) three)

pub none_crashed : (a b : Medium) → LeavesOnly a b HasNoSuper → LeavesAll b HasNoSuper
none_crashed a b leaves = crashed_in_the_end a b HasNoSuper leaves

-- what reads give after all three
pub behind_awaits : (settings : Settings) (config wasm : List ℕ) (geometry : Geometry)
    (a b c d : Medium) (at : ℕ) → at ≡ journal_place geometry → config ≡ config_bytes settings
    → geometry ≡ geometry_of settings (length wasm) → LeavesAll a HasNoSuper
    → Follows (IsWrittenRun 3 (contents_sectors (config ++ wasm))
    (length (contents_sectors (config ++ wasm)))) a.shows b.shows
    → Follows (IsWrittenRun 1 (zero_sector ∷ zero_sector ∷ []) 2) b.shows c.shows
    → Follows (IsWrittenRun at (replicate geometry.journal_sectors zero_sector)
    (length (replicate geometry.journal_sectors zero_sector))) c.shows d.shows
    → (image : DiskImage) → d.shows image → AwaitsHead settings wasm image
behind_awaits settings config wasm geometry a b c d at there spelled placed none first second third
    image shown =
    let three = third image shown in
    let two = second three.0 three.1 in
    let one = first two.0 two.1 in
    let bytes : List ℕ = config_bytes settings ++ wasm in
    let written : IsWrittenRun 3 (contents_sectors bytes) (length (contents_sectors bytes)) one.0
    two.0 =
    subst (λ l. IsWrittenRun 3 (contents_sectors (l ++ wasm))
    (length (contents_sectors (l ++ wasm))) one.0 two.0) spelled one.2 in
    let own : Geometry = geometry_of settings (length wasm) in
    let holds : SectorsHold two.0 3 own.module_sectors bytes =
    subst (λ n. SectorsHold two.0 3 (rounded_up n) bytes)
    (length-append (config_bytes settings) wasm)
    (holds_what_is_written bytes one.0 two.0 written) in
    let no_super : HasNoSuper two.0 =
    written.below 0 (omega arith) ∙ none one.0 (shows_crashed a one.0 one.1) in
    let zeros : IsWrittenRun (journal_place own) (replicate own.journal_sectors zero_sector)
    own.journal_sectors three.0 image =
    subst (λ (g : Geometry). IsWrittenRun (journal_place g)
    (replicate g.journal_sectors zero_sector) g.journal_sectors three.0 image) placed
    (subst (λ k. IsWrittenRun k (replicate geometry.journal_sectors zero_sector)
    geometry.journal_sectors three.0 image) there
    (subst (λ n. IsWrittenRun at (replicate geometry.journal_sectors zero_sector) n three.0 image)
    (length-replicate geometry.journal_sectors zero_sector) three.2)) in
    zero_runs_await_head settings wasm two.0 three.0 image no_super holds two.2 zeros

-- ---- and a sync

pub synced_none : (a b : Medium) → LeavesAll a HasNoSuper → Stays a b → Passes a b b.crash_images
    → LeavesOnly a b HasNoSuper
synced_none a b all stays passes =
    leaves_weaker a b a.crash_images HasNoSuper (stays_leaves_only a b stays passes) all

pub synced_awaits : (settings : Settings) (wasm : List ℕ) (a b : Medium)
    → ((image : DiskImage) → a.shows image → AwaitsHead settings wasm image) → Stays a b
    → IsAllSynced b → LeavesAll b (AwaitsHead settings wasm)
synced_awaits settings wasm a b all stays all_synced image crashed =
    all image (stays_shows a b stays image (synced_only b all_synced image crashed))

-- blank, and then without a super
pub blank_on : (a b c : Medium) → LeavesOnly a b IsBlank → LeavesOnly b c HasNoSuper
    → LeavesOnly a c IsBlank
blank_on a b c one two =
    leaves_on a b c IsBlank HasNoSuper IsBlank one two (λ i p. p) (λ i none.
    no_super_is_blank i none)

-- ---- the calls

-- calls that were begun, where an error is answered
pub err_calls : {T E : Type 0} (calls : List DiskCall) (r : Result T E) (old new : Medium)
    → IsErr r → BeginsCalls calls old new → PerformsCalls calls r old new
err_calls calls (Ok done) old new is_err begun = absurd (false≢true is_err)
err_calls calls (Err fault) old new is_err begun = record { all = tt; begun = begun }

-- calls, and others after them
both_performed : (first second : List DiskCall) (a b c : Medium) → b.calls ≡ first ++ a.calls
    → c.calls ≡ second ++ b.calls → c.calls ≡ (second ++ first) ++ a.calls
both_performed first second a b c one two =
    two ∙ ap (λ (l : List DiskCall). second ++ l) one ∙ sym (append_assoc second first a.calls)

module _ (geometry : Geometry) where
  abbrev contents : List DiskCall
  contents = rising_writes 3 geometry.module_sectors

  abbrev heads : List DiskCall
  heads = rising_writes 1 2

  abbrev journal : List DiskCall
  journal = rising_writes (journal_place geometry) geometry.journal_sectors

  pub behind_first : (a b : Medium) → BeginsCalls (rising_writes 3 geometry.module_sectors) a b
      → BeginsCalls (behind_calls geometry) a b
  behind_first a b begun =
      begun_first (heads ++ contents) journal a b (begun_first contents heads a b begun)

  pub behind_second : (a b c : Medium)
      → b.calls ≡ rising_writes 3 geometry.module_sectors ++ a.calls
      → BeginsCalls (rising_writes 1 2) b c → BeginsCalls (behind_calls geometry) a c
  behind_second a b c made begun =
      begun_first (heads ++ contents) journal a c (begun_then contents heads a b c made begun)

  pub behind_all : {T E : Type 0} (r : Result T E) (a b c d : Medium)
      → b.calls ≡ rising_writes 3 geometry.module_sectors ++ a.calls
      → c.calls ≡ rising_writes 1 2 ++ b.calls
      → PerformsCalls (rising_writes (journal_place geometry) geometry.journal_sectors) r c d
      → PerformsCalls (behind_calls geometry) r a d
  behind_all r a b c d one two made =
      performed_then (heads ++ contents) journal r a c d (both_performed contents heads a b
      c one two) made

  pub contents_first : (a b : Medium) → BeginsCalls (synced_writes 0 1) a b
      → BeginsCalls (contents_calls geometry) a b
  contents_first a b begun =
      begun_first (synced_writes 0 1) (Sync ∷ behind_calls geometry) a b begun

  pub contents_second : (a b c : Medium) → b.calls ≡ synced_writes 0 1 ++ a.calls
      → BeginsCalls (behind_calls geometry) b c → BeginsCalls (contents_calls geometry) a c
  contents_second a b c made begun =
      begun_first (behind_calls geometry ++ synced_writes 0 1) (Sync ∷ []) a c
      (begun_then (synced_writes 0 1) (behind_calls geometry) a b c made begun)

  pub contents_all : {T E : Type 0} (r : Result T E) (a b c d : Medium)
      → b.calls ≡ synced_writes 0 1 ++ a.calls → c.calls ≡ behind_calls geometry ++ b.calls
      → PerformsCalls (Sync ∷ []) r c d → PerformsCalls (contents_calls geometry) r a d
  contents_all r a b c d one two made =
      performed_then (behind_calls geometry ++ synced_writes 0 1) (Sync ∷ []) r a c d
      (both_performed (synced_writes 0 1) (behind_calls geometry) a b c one two) made

-- ---- why it fails

-- on a disk that was synced
pub cause_behind : (n : ℕ) (a b c : Medium) → IsAllSynced b → b.room ≡ a.room
    → a.faults ≤ b.faults → (spare b < n) ⊎ (b.faults < c.faults)
    → (spare a ≡ 0) ⊎ (a.room < n) ⊎ (a.faults < c.faults)
cause_behind n a b c all_synced room later cause =
    let none = all_synced.unsynced in
    ⊎_elim (λ less. inr (inl (omega (arith, less, none, room))))
    (λ more. inr (inr (omega (arith, more, later)))) cause
