-- What an act answers, case by case.
use Rattle.std.proofs.Common.{◌≡◌, ◌⊎◌, ℕ, ◌+◌, ◌≤◌, inl, inr, List, arith}
use Rattle.wasi_abi.specs.rules.Configs.{Settings}
use Rattle.process_rules.specs.Runs.{Kept}
use Rattle.state_image.specs.rules.ProcessImage.{Saved}
use Rattle.worker_store.specs.restart_theorem.Lives.{Act, Slice, Batch, Checkpoint, Upgrade, Cause}
use Rattle.worker_store.specs.restart_theorem.Lives.{OfDisk, OfSource, OfAnswer, OfOutlet, OfMemory}
use Rattle.worker_store.specs.restart_theorem.Lives.{OfBounds, OfJournal, OfLines, Reply, Spent}
use Rattle.worker_store.specs.restart_theorem.Lives.{Waits, Over, Done, Fails}
use Rattle.worker_store.specs.restart_theorem.Courses.{Phase, Stage, Open, NoneThere, phase_ended}
use Rattle.worker_store.specs.restart_theorem.Courses.{HasLastAsked, MayFail, MayFailBatch}
use Rattle.worker_store.specs.restart_theorem.Promises.{MayPlead, fuel_of, IsReply, IsOneOf}
use Rattle.worker_store.specs.restart_theorem.Promises.{IsCaughtUp}

-- Any call might have failed so, or an upgrade has something of its own to say, in an open life.
pub fails_or_open : (config : Settings) (kept : List Kept) (stage : Stage) (cause : Cause)
    → MayPlead config kept stage Upgrade cause
    → MayFail stage.phase cause ⊎ (stage.phase ≡ Open)
fails_or_open config kept stage OfDisk may = inl may
fails_or_open config kept stage OfSource may = inl may
fails_or_open config kept stage OfAnswer may = inl may
fails_or_open config kept stage OfOutlet may = inl may
fails_or_open config kept stage OfMemory may = inl may
fails_or_open config kept stage OfBounds may = inl may
fails_or_open config kept stage OfJournal may = inr may.0
fails_or_open config kept stage OfLines may = inr may.0

-- Any call might have failed so, or it is behind the last question of a batch.
pub fails_or_last : (phase : Phase) (cause : Cause) → MayFailBatch phase cause
    → MayFail phase cause ⊎ HasLastAsked phase
fails_or_last phase OfDisk may = may
fails_or_last phase OfSource may = inl may
fails_or_last phase OfAnswer may = inl may
fails_or_last phase OfOutlet may = inl may
fails_or_last phase OfMemory may = inl may
fails_or_last phase OfBounds may = inl may
fails_or_last phase OfJournal may = inl may
fails_or_last phase OfLines may = inl may

-- A batch may fail as any call.
pub batch_fails : (phase : Phase) (cause : Cause) → MayFail phase cause → MayFailBatch phase cause
batch_fails phase OfDisk may = inl may
batch_fails phase OfSource may = may
batch_fails phase OfAnswer may = may
batch_fails phase OfOutlet may = may
batch_fails phase OfMemory may = may
batch_fails phase OfBounds may = may
batch_fails phase OfJournal may = may
batch_fails phase OfLines may = may

-- An act that has not failed is within its steps, in a life that was open or whose source had none,
-- and has caught up.
pub in_order : (config : Settings) (kept : List Kept) (stage : Stage) (held : ℕ) (shown : Saved)
    (act : Act) (reply : Reply) → phase_ended reply ≡ Open
    → IsReply config kept stage held shown act reply
    → (shown.steps ≤ stage.step + fuel_of act)
    × ((stage.phase ≡ Open) ⊎ (stage.phase ≡ NoneThere shown.steps))
    × IsCaughtUp kept stage held shown
in_order config kept stage held shown (Slice fuel) Spent opens is =
    ((let e = is.1 in omega (arith, e)), inl is.0, is.3)
in_order config kept stage held shown (Slice fuel) Waits opens is =
    ((let e = is.1 in omega (arith, e)), inr is.0, is.3)
in_order config kept stage held shown (Slice fuel) (Over why) opens is = (is.1, inl is.0, is.3)
in_order config kept stage held shown (Slice fuel) Done opens is = absurd is
in_order config kept stage held shown (Batch fuel most) Spent opens is =
    ((let e = is.1 in omega (arith, e)), inl is.0, is.3)
in_order config kept stage held shown (Batch fuel most) Waits opens is =
    ((let e = is.1 in omega (arith, e)), inr is.0, is.3)
in_order config kept stage held shown (Batch fuel most) (Over why) opens is =
    (is.1, inl is.0, is.3)
in_order config kept stage held shown (Batch fuel most) Done opens is = absurd is
in_order config kept stage held shown Checkpoint Spent opens is = absurd is
in_order config kept stage held shown Checkpoint Waits opens is = absurd is
in_order config kept stage held shown Checkpoint (Over why) opens is = absurd is
in_order config kept stage held shown Checkpoint Done opens is =
    ((let e = is.1 in omega (arith, e)), inl is.0, is.2)
in_order config kept stage held shown Upgrade Spent opens is = absurd is
in_order config kept stage held shown Upgrade Waits opens is = absurd is
in_order config kept stage held shown Upgrade (Over why) opens is = absurd is
in_order config kept stage held shown Upgrade Done opens is =
    ((let e = is.1 in omega (arith, e)), inl is.0, is.3)
in_order config kept stage held shown act (Fails cause) opens is = absurd cc

-- One that has failed has a plea.
pub in_vain : (config : Settings) (kept : List Kept) (stage : Stage) (held : ℕ) (shown : Saved)
    (act : Act) (cause : Cause) → IsReply config kept stage held shown act (Fails cause)
    → MayPlead config kept stage act cause × (shown.steps ≤ stage.step + fuel_of act)
    × IsOneOf stage.line shown.lines
in_vain config kept stage held shown (Slice fuel) cause is = is
in_vain config kept stage held shown (Batch fuel most) cause is = is
in_vain config kept stage held shown Checkpoint cause is = is
in_vain config kept stage held shown Upgrade cause is = is
