-- From images to what a cut may leave of a disk.
use Rattle.sector_disk.specs.rules.DiskImage.{DiskImage}
use Rattle.sector_disk.specs.rules.Medium.{Medium, After, Follows, LeavesOnly}
use Rattle.sector_disk.proofs.Moments.{leaves_weaker, shows_crashed}
use Rattle.worker_store.specs.rules.Savepoints.{LeavesAll}
use Rattle.worker_store.specs.laws.Moments.{FillAtAnyMoment, CommitAtAnyMoment}
use Rattle.worker_store.specs.laws.Moments.{FillKeepsAtAnyMoment, CommitKeepsAtAnyMoment}
use Rattle.worker_store.specs.laws.Moments.{CommitKeepsInTheEnd, CommitInTheEnd, ZerosAtAnyMoment}
use Rattle.worker_store.specs.laws.Moments.{ZerosInTheEnd, ZeroRunsInTheEnd, RunAtAnyMoment}
use Rattle.worker_store.specs.laws.Moments.{FirstFillAtAnyMoment, FirstCommitAtAnyMoment}
use Rattle.worker_store.specs.laws.Moments.{FirstCommitInTheEnd, SuperAtAnyMoment, SuperInTheEnd}
use Rattle.worker_store.proofs.LawLemmas.Replacing.{filling_keeps_point, commit_leaves_one_of_two}
use Rattle.worker_store.proofs.LawLemmas.Replacing.{commit_begins_next}
use Rattle.worker_store.proofs.LawLemmas.Before.{filling_keeps_worker, commit_keeps_worker}
use Rattle.worker_store.proofs.LawLemmas.Before.{replacing_begins}
use Rattle.worker_store.proofs.LawLemmas.Creating.{zeros_keep_blank, zeros_take_super}
use Rattle.worker_store.proofs.LawLemmas.Creating.{runs_keep_no_super, zero_runs_await_head}
use Rattle.worker_store.proofs.LawLemmas.Creating.{filling_awaits_head, first_commit_keeps_no_super}
use Rattle.worker_store.proofs.LawLemmas.Creating.{first_commit_awaits_super, super_begins}
use Rattle.worker_store.proofs.LawLemmas.Creating.{whole_super_begins}

-- ---- any step

-- at any moment of a call
pub step_at_any_moment : (old new : Medium) (step : DiskImage → DiskImage
    → Type 0) (P Q : DiskImage → Type 0) → LeavesAll old P → ((a b : DiskImage) → P a
    → step a b → Q b) → LeavesOnly old new (After step old.crash_images) → LeavesOnly old new Q
step_at_any_moment old new step P Q all leads leaves =
    leaves_weaker old new (After step old.crash_images) Q leaves
    (λ image after. leads after.0 image (all after.0 after.1) after.2)

-- once it has answered
pub step_in_the_end : (old new : Medium) (step : DiskImage → DiskImage
    → Type 0) (P Q : DiskImage → Type 0) → LeavesAll old P → ((a b : DiskImage) → P a
    → step a b → Q b) → Follows step old.crash_images new.crash_images → LeavesAll new Q
step_in_the_end old new step P Q all leads follows image crashed =
    let after = follows image crashed in
    leads after.0 image (all after.0 after.1) after.2

-- from what reads gave
pub shown_in_the_end : (old new : Medium) (step : DiskImage → DiskImage
    → Type 0) (P Q : DiskImage → Type 0) → LeavesAll old P → ((a b : DiskImage) → P a
    → step a b → Q b) → Follows step old.shows new.crash_images → LeavesAll new Q
shown_in_the_end old new step P Q all leads follows image crashed =
    let after = follows image crashed in
    leads after.0 image (all after.0 (shows_crashed old after.0 after.1)) after.2

-- a cut now is one at some moment since
pub crashed_in_the_end : (old new : Medium) (P : DiskImage → Type 0) → LeavesOnly old new P
    → LeavesAll new P
crashed_in_the_end old new P leaves image crashed =
    let passes = leaves.passes in
    leaves.each image (new.counts_now old.moment image passes.later crashed)

module _ {D : Type 0} (medium : D → Medium) where
  pub fill_at_any_moment : FillAtAnyMoment medium
  fill_at_any_moment m config point records last old new all leaves =
      step_at_any_moment (medium old) (medium new) _ _ _ all
      (λ a b at fills. filling_keeps_point m config point records last a b at fills) leaves

  pub commit_at_any_moment : CommitAtAnyMoment medium
  commit_at_any_moment m config point next records last old new all is_next leaves =
      step_at_any_moment (medium old) (medium new) _ _ _ all
      (λ a b at commits.
      commit_leaves_one_of_two m config point next records last a b at is_next commits) leaves

  pub commit_in_the_end : CommitInTheEnd medium
  commit_in_the_end m config point next records last old new all is_next follows =
      step_in_the_end (medium old) (medium new) _ _ _ all
      (λ a b at replaces.
      commit_begins_next m config point next records last a b at is_next replaces) follows

  pub fill_keeps_at_any_moment : FillKeepsAtAnyMoment medium
  fill_keeps_at_any_moment m config next kept n old new all leaves =
      step_at_any_moment (medium old) (medium new) _ _ _ all
      (λ a b before fills. filling_keeps_worker m config next kept n a b before fills) leaves

  pub commit_keeps_at_any_moment : CommitKeepsAtAnyMoment medium
  commit_keeps_at_any_moment m config next kept n old new all leaves =
      step_at_any_moment (medium old) (medium new) _ _ _ all
      (λ a b before commits.
      commit_keeps_worker m config next kept n a b before commits) leaves

  pub commit_keeps_in_the_end : CommitKeepsInTheEnd medium
  commit_keeps_in_the_end m config next kept n old new all follows =
      step_in_the_end (medium old) (medium new) _ _ _ all
      (λ a b before replaces. replacing_begins m config next kept n a b before replaces)
      follows

  pub zeros_at_any_moment : ZerosAtAnyMoment medium
  zeros_at_any_moment old new all leaves =
      step_at_any_moment (medium old) (medium new) _ _ _ all
      (λ a b blank run. zeros_keep_blank a b blank run) leaves

  pub zeros_in_the_end : ZerosInTheEnd medium
  zeros_in_the_end old new follows image crashed =
      let after = follows image crashed in
      zeros_take_super after.0 image after.2

  pub run_at_any_moment : RunAtAnyMoment medium
  run_at_any_moment at n sectors old new from all leaves =
      step_at_any_moment (medium old) (medium new) _ _ _ all
      (λ a b none run. runs_keep_no_super at n sectors a b from none run) leaves

  pub zero_runs_in_the_end : ZeroRunsInTheEnd medium
  zero_runs_in_the_end config wasm first second third synced begun heads journal crashed disk now =
      let behind = journal disk (crashed disk now) in
      let before = heads behind.0 behind.1 in
      let there = begun before.0 before.1 in
      zero_runs_await_head config wasm before.0 behind.0 disk there.0 there.1 before.2 behind.2

  pub first_fill_at_any_moment : FirstFillAtAnyMoment medium
  first_fill_at_any_moment config wasm old new all leaves =
      step_at_any_moment (medium old) (medium new) _ _ _ all
      (λ a b awaits fills. filling_awaits_head config wasm a b awaits fills) leaves

  pub first_commit_at_any_moment : FirstCommitAtAnyMoment medium
  first_commit_at_any_moment geometry version bytes old new all leaves =
      step_at_any_moment (medium old) (medium new) _ _ _ all
      (λ a b none commits.
      first_commit_keeps_no_super geometry version bytes a b none commits) leaves

  pub first_commit_in_the_end : FirstCommitInTheEnd medium
  first_commit_in_the_end m config point old new first numbers all follows =
      step_in_the_end (medium old) (medium new) _ _ _ all
      (λ a b awaits replaces.
      first_commit_awaits_super m config point a b first numbers awaits replaces) follows

  pub super_at_any_moment : SuperAtAnyMoment medium
  super_at_any_moment m config point old new all leaves =
      step_at_any_moment (medium old) (medium new) _ _ _ all
      (λ a b awaits run. super_begins m config point a b awaits run) leaves

  pub super_in_the_end : SuperInTheEnd medium
  super_in_the_end m config point old new all follows =
      shown_in_the_end (medium old) (medium new) _ _ _ all
      (λ a b awaits run. whole_super_begins m config point a b awaits run) follows
