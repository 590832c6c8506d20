-- A worker that goes on from what was read follows the one that has left it.
use Rattle.std.proofs.Common.{◌≡◌, ℕ, List, true≢false, ap, ◌∙◌, refl, inl, inr, Result, Ok, Err}
use Rattle.std.specs.Prelude.{is_ok}
use Rattle.wasm_syntax.specs.declared.module.Module.{Module}
use Rattle.wasi_abi.specs.rules.Configs.{Settings}
use Rattle.process.specs.rules.Legacies.{legacy_of}
use Rattle.process_rules.specs.Runs.{Kept}
use Rattle.sector_disk.specs.rules.DiskImage.{DiskImage}
use Rattle.sector_disk.specs.rules.Medium.{Medium}
use Rattle.worker_store.specs.restart_theorem.Stands.{StandsFor}
use Rattle.worker.specs.declared.handover.Handover.{Handover}
use Rattle.worker.specs.declared.leave_fault.LeaveFault.TheVariants as leave
use Rattle.worker.specs.laws.Followings.{SuccessorsFollow, origin_left}
use Rattle.worker.specs.rules.Successions.{HandsOver, HandsOverAt, IsParked, ReadsLegacy}
use Rattle.worker.specs.rules.Successions.{handed_over}

no_err : {T E : Type 0} (x : T) (e : E) → Ok x ≡ Err e → ⊥
no_err {T} {E} x e is = true≢false (ap (λ (r : Result T E). is_ok r) is)

-- what is shown was handed over
handed : (old new : Medium) (left : Handover) → ReadsLegacy (Ok left) old new
    → (image : DiskImage) → new.shows image → HandsOver old.sectors image (Ok left)
handed old new left (inl failed) image shown =
    absurd (no_err left (leave.Recover failed.0) failed.1)
handed old new left (inr reads) image shown = reads.2 image shown

-- It is what the process leaves that the image has saved.
left_of : {disk : DiskImage} {m : Module} {config : Settings} {kept : List Kept} {n : ℕ}
    (stands : StandsFor disk m config kept n) (left : Handover) → left ≡ handed_over stands.saved
    → left.legacy ≡ legacy_of stands.saved.version (origin_left stands.process)
left_of stands left is = ap (λ (l : Handover). l.legacy) is
    ∙ rw (
      stands.shown.files,
      stands.shown.lines,
      stands.shown.steps,
      stands.shown.answers,
      stands.shown.requests,
      stands.shown.last_monotonic,
    ) refl

pub successors_follow : {D N : Type 0} (medium : D → Medium) (next_medium : N → Medium)
    → SuccessorsFollow medium next_medium
successors_follow medium next_medium old old' new new' left bytes settings m next config promise
    image holds reads shown room keeps accepted =
    let at : HandsOverAt holds.stands (Ok left) =
    (handed (medium old) (medium old') left reads image shown).stands m config _ _ holds.stands
    room in
    let parked : IsParked holds.stands.records holds.stands.reached.guest holds.stands.process =
    at.0 in
    record {
      left = record {
        holds = holds;
        no_records = parked.no_records;
        at_rest = parked.at_rest;
        is = refl;
      };
      keeps = (keeps next holds.stands.saved.version (origin_left holds.stands.process) accepted
          (left_of holds.stands left at.1)).1;
    }
