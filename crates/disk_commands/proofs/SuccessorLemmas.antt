-- A worker that succeeds another one, or why there is none.
use Rattle.std.proofs.Common.{◌≡◌, ◌≢◌, ℕ, Bool, List, [], ◌∷◌, ◌++◌, Result, Ok, Err, subst}
use Rattle.std.proofs.Common.{Option, Some, None, ap, refl, sym, ◌∙◌, append_assoc, inl, inr}
use Rattle.std.specs.Fmt.{decimal}
use Rattle.std.specs.Io.KnownBytes.{Appends, Keeps}
use Rattle.std.specs.Prelude.{IsTrue, OnOk, codes}
use Rattle.wasi_abi.specs.rules.Answers.{newline}
use Rattle.wasi_abi.specs.rules.Configs.{Settings}
use Rattle.process.specs.rules.Legacies.{LegacyValue}
use Rattle.sector_disk.specs.declared.file.FileDisk.{FileDisk}
use Rattle.sector_disk.specs.rules.File.{file_medium}
use Rattle.sector_disk.specs.rules.Known.{KnownFiles, KnownHandles}
use Rattle.sector_disk.specs.rules.Medium.{Medium}
use Rattle.sector_disk.specs.rules.Open.{IsOpenedAt}
use Rattle.record_replay.specs.declared.slices.fault.SliceFault.TheVariants as slice
use Rattle.worker.specs.declared.fault.WorkFault.{WorkFault}
use Rattle.worker.specs.declared.fault.WorkFault.TheVariants as work
use Rattle.worker.specs.declared.handover.Handover.{Handover}
use Rattle.worker.specs.declared.leave_fault.LeaveFault.{LeaveFault}
use Rattle.worker.specs.rules.Successions.{IsNotCreatedFrom, ReadsLegacy}
use Rattle.command_words.specs.rules.Printers.{PrinterState, HeedsBoth, IsPrinted, IsSaid, printers}
use Rattle.command_words.specs.rules.Reports.{SaysLine}
use Rattle.command_words.specs.declared.status.Status.{Status}
use Rattle.command_words.specs.declared.status.Status.TheVariants as exit
use Rattle.command_words.proofs.LineLemmas.Printed.{prints_both}
use Rattle.command_words.proofs.PrinterLemmas.{heeds_err}
use Rattle.disk_commands.specs.declared.on_disk.fault.OnDiskFault.{OnDiskFault}
use Rattle.disk_commands.specs.rules.Creations.{NewDiskValue, created_line}
use Rattle.disk_commands.specs.rules.DiskStatuses.{status_of_call, status_on_disk, call_fault}
use Rattle.disk_commands.specs.rules.SuccessorDisks.{BeginsOnDisk, SucceedsDisk, crowded_words}
use Rattle.disk_commands.specs.rules.SuccessorDisks.{dropped_line, goes_on_line, restless_words}
use Rattle.disk_commands.specs.rules.SuccessorDisks.{spent_words}
use Rattle.disk_commands.specs.rules.SuccessorDisks.{succession_of, successor_text, units_for}
use Rattle.disk_commands.specs.SuccessorDisks.{IsTakenOver, SucceedsOpened, TakesLegacy}

module _ (bytes : List ℕ) (config : Settings) (left : LegacyValue) (old new : Medium) where
  -- nothing is released in a creation
  none_released : (why : WorkFault) → IsNotCreatedFrom bytes config left old new why
      → status_of_call why ≢ exit.Unwritten
  none_released (work.Work slice.Source) refused = λ is. cc
  none_released (work.Work slice.Outlet) refused = λ is. refused
  none_released (work.Work slice.Memory) refused = λ is. cc
  none_released (work.Work slice.Failed) refused = λ is. cc
  none_released (work.Work (slice.Refused why)) refused = λ is. cc
  none_released (work.Disk fault) refused = λ is. cc
  none_released (work.Store fault) refused = λ is. cc
  none_released (work.Upgrade fault) refused = λ is. cc

  pub unsucceeded_heeded : (why : WorkFault) → IsNotCreatedFrom bytes config left old new why
      → (told : OnDiskFault) → told ≡ call_fault why → (out err : PrinterState) (status : Status)
      (err' : PrinterState) → IsSaid (status_on_disk told) err status err'
      → HeedsBoth (printers out err) (printers out err') status
  unsucceeded_heeded why refused told tells out err status err' says =
      heeds_err (status_of_call why) err status err' out (none_released why refused)
      (subst (λ (t : OnDiskFault). IsSaid (status_on_disk t) err status err') tells says)

module _ {F : Type 0} (handles : KnownHandles F) (files : KnownFiles F) (from : List ℕ)
    (on_device : Bool) (made : NewDiskValue) (old new : FileDisk F) where
  abbrev Opened : PrinterState → PrinterState → PrinterState → PrinterState → Status → Type 0
  Opened out out' err err' status =
      SucceedsOpened handles files (succession_of from on_device made) old new (printers out err)
      (printers out' err') status

  -- what was left was taken over, and a worker goes on from it
  pub succeeds_taken : (left : Handover) (out out' err between err' : PrinterState)
      (status : Status)
      → IsTakenOver from made.prepared.config (file_medium old) (file_medium new) err (Ok left)
      between
      → BeginsOnDisk handles files made (Some left) (printers out between) (printers out' err')
      status on_device
      → Opened out out' err err' status
  succeeds_taken left out out' err between err' status taken makes =
      go taken.left taken.reads taken.takes
    where
      go : (read : Result Handover LeaveFault)
          → ReadsLegacy read (file_medium old) (file_medium new)
          → TakesLegacy from made.prepared.config read err (Ok left) between
          → Opened out out' err err' status
      go (Err why) reads takes = absurd takes
      go (Ok was) reads takes = record {
        left = Ok was;
        reads = reads;
        goes_on = inr (
          takes.1,
          subst (λ (l : Handover). BeginsOnDisk handles files made (Some l) (printers out err)
              (printers out' err') status on_device) takes.0
              (subst (λ (e : PrinterState). BeginsOnDisk handles files made (Some left)
              (printers out e) (printers out' err') status on_device) takes.2 makes),
        );
      }

  -- nothing was left, or it doesn't fit
  pub succeeds_none : (out err err' : PrinterState) (status : Status)
      → IsTakenOver from made.prepared.config (file_medium old) (file_medium new) err (Err status)
      err'
      → Opened out out err err' status
  succeeds_none out err err' status taken = go taken.left taken.reads taken.takes
    where
      go : (read : Result Handover LeaveFault)
          → ReadsLegacy read (file_medium old) (file_medium new)
          → TakesLegacy from made.prepared.config read err (Err status) err'
          → Opened out out err err' status
      go (Err why) reads takes = record {
        left = Err why;
        reads = reads;
        goes_on = (takes, refl);
      }
      go (Ok was) reads takes = record {
        left = Ok was;
        reads = reads;
        goes_on = inl (takes, refl);
      }

  -- the old disk was opened, without a word
  pub succeeds_on_opened : (out out' err between err' : PrinterState) (status : Status)
      → IsOpenedAt handles files from old → IsTrue (files.closed new) → between ≡ err
      → Opened out out' between err' status
      → SucceedsDisk handles files (succession_of from on_device made) (printers out err)
      (printers out' err') status
  succeeds_on_opened out out' err between err' status opened closed quiet succeeds =
      let here = subst (λ (e : PrinterState). Opened out out' e err' status) quiet succeeds in
      inr (record {
        old = old;
        old' = new;
        opened = opened;
        closed = closed;
        left = here.left;
        reads = here.reads;
        goes_on = here.goes_on;
      })

-- ---- texts as they are written

pub goes_on_printed : {T E : Type 0} (r : Result T E) (requests lines : ℕ) (old new : PrinterState)
    → OnOk r (Appends old.contents new.contents (codes "goes on after request "
    ++ (decimal requests ++ (codes ", line " ++ (decimal lines ++ codes "\n")))))
    → OnOk r (new.failed ≡ old.failed)
    → OnOk r (IsPrinted old new (goes_on_line requests lines))
goes_on_printed (Err why) requests lines old new bytes steady = tt
goes_on_printed (Ok done) requests lines old new bytes steady =
    let text : codes "goes on after request "
    ++ (decimal requests ++ (codes ", line " ++ (decimal lines ++ codes "\n")))
    ≡ goes_on_line requests lines =
    ap (λ t. codes "goes on after request " ++ t)
    (sym (append_assoc (decimal requests) (codes ", line " ++ decimal lines) (codes "\n"))) in
    (subst (λ t. Appends old.contents new.contents t) text bytes, steady)

-- a flush adds nothing
appends_kept : (a b c : Option (List ℕ)) (text : List ℕ) → Appends a b text → Keeps b c
    → Appends a c text
appends_kept None b c text appends kept = tt
appends_kept (Some xs) None c text appends kept = absurd appends
appends_kept (Some xs) (Some ys) None text appends kept = absurd kept
appends_kept (Some xs) (Some ys) (Some zs) text appends kept = kept ∙ appends

pub successor_printed : {T E : Type 0} (r : Result T E) (a b c d e : PrinterState)
    (sectors requests lines dropped : ℕ)
    → Appends a.contents b.contents (codes "created " ++ (decimal sectors ++ codes " sectors\n"))
    → b.failed ≡ a.failed → IsPrinted b c (goes_on_line requests lines)
    → IsPrinted c d (dropped_line dropped) → Keeps d.contents e.contents
    → OnOk r (e.failed ≡ d.failed)
    → OnOk r (IsPrinted a e (successor_text sectors requests lines dropped))
successor_printed (Err why) a b c d e sectors requests lines dropped bytes steady goes drops kept
    flushed = tt
successor_printed (Ok done) a b c d e sectors requests lines dropped bytes steady goes drops kept
    flushed =
    let on = goes_on_line requests lines in
    let two = prints_both a b c (created_line sectors) on (bytes, steady) goes in
    let three = prints_both a c d (created_line sectors ++ on) (dropped_line dropped) two drops in
    (appends_kept a.contents d.contents e.contents _ three.0 kept, flushed ∙ three.1)

pub restless_said : (path : List ℕ) (old new : PrinterState)
    → Appends old.contents new.contents (codes "failed N9 NotParked\n" ++ (path
    ++ codes ": isn't at rest: run it without requests, and keep its lines\n"))
    → new.failed ≡ old.failed → SaysLine (restless_words path) exit.Refused old exit.Refused new
restless_said path old new bytes steady =
    let text : codes "failed N9 NotParked\n" ++ (path
    ++ codes ": isn't at rest: run it without requests, and keep its lines\n")
    ≡ restless_words path ++ newline ∷ [] =
    ap (λ t. codes "failed N9 NotParked\n" ++ t)
    (sym (append_assoc path
    (codes ": isn't at rest: run it without requests, and keep its lines") (newline ∷ []))) in
    inl (refl, (subst (λ t. Appends old.contents new.contents t) text bytes, steady))

pub spent_said : (path : List ℕ) (old new : PrinterState)
    → Appends old.contents new.contents (codes "failed P3 StepsSpent\n" ++ (path
    ++ codes ": its steps can't be counted further: nothing can succeed it\n"))
    → new.failed ≡ old.failed → SaysLine (spent_words path) exit.Refused old exit.Refused new
spent_said path old new bytes steady =
    let text : codes "failed P3 StepsSpent\n" ++ (path
    ++ codes ": its steps can't be counted further: nothing can succeed it\n")
    ≡ spent_words path ++ newline ∷ [] =
    ap (λ t. codes "failed P3 StepsSpent\n" ++ t)
    (sym (append_assoc path
    (codes ": its steps can't be counted further: nothing can succeed it") (newline ∷ []))) in
    inl (refl, (subst (λ t. Appends old.contents new.contents t) text bytes, steady))

pub crowded_said : (units bytes : ℕ) (old new : PrinterState) → units ≡ units_for bytes
    → Appends old.contents new.contents (codes "failed F4 NoRoom\nits files take "
    ++ (decimal units ++ (codes " units: --files " ++ (decimal units ++ codes "\n"))))
    → new.failed ≡ old.failed → SaysLine (crowded_words (units_for bytes)) exit.Refused old
    exit.Refused new
crowded_said units bytes old new is written steady =
    let text : codes "failed F4 NoRoom\nits files take "
    ++ (decimal units ++ (codes " units: --files " ++ (decimal units ++ codes "\n")))
    ≡ crowded_words units ++ newline ∷ [] =
    ap (λ t. codes "failed F4 NoRoom\nits files take " ++ t)
    (sym (append_assoc (decimal units) (codes " units: --files " ++ decimal units)
    (newline ∷ []))) in
    subst (λ n. SaysLine (crowded_words n) exit.Refused old exit.Refused new) is
    (inl (refl, (subst (λ t. Appends old.contents new.contents t) text written, steady)))
