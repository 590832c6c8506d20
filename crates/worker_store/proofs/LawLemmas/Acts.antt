-- Acts that save a worker, case by case.
use Rattle.std.proofs.Common.{◌≡◌, ◌≢◌, ⊎_elim, ℕ, suc, ◌≤◌, List, [], ◌∷◌, ◌++◌, inl, inr, ap}
use Rattle.std.proofs.Common.{refl, sym, ◌∙◌, subst, arith}
use Rattle.std.proofs.lemmas.List.{append-nil}
use Rattle.wasi_abi.specs.declared.version.Version.{Version}
use Rattle.wasi_abi.specs.declared.version.Version.TheVariants.{One, Two}
use Rattle.wasi_abi.specs.rules.Configs.{Settings}
use Rattle.process_rules.specs.Runs.{Kept, Wider, version_after}
use Rattle.process_rules.specs.Behind.{IsNarrowTo}
use Rattle.state_image.specs.rules.ProcessImage.{Saved}
use Rattle.worker_store.specs.restart_theorem.Lives.{Act, Slice, Batch, Checkpoint, Upgrade, Reply}
use Rattle.worker_store.specs.restart_theorem.Lives.{Spent, Waits, Over, Done, Fails, Cause, OfDisk}
use Rattle.worker_store.specs.restart_theorem.Lives.{OfSource, OfAnswer, OfOutlet, OfMemory}
use Rattle.worker_store.specs.restart_theorem.Lives.{OfBounds, OfJournal, OfLines, Ended}
use Rattle.worker_store.specs.restart_theorem.Lives.{kept_by_widening, kept_by_end}
use Rattle.worker_store.specs.restart_theorem.Courses.{Phase, Stage, Open, MayFail}
use Rattle.worker_store.specs.restart_theorem.Promises.{Promise, after, MayPlead, IsReply}
use Rattle.worker_store.specs.restart_theorem.Promises.{IsCaughtUp, IsOneOf}
use Rattle.worker_store.proofs.RestartLemmas.Pleas.{batch_fails}
use Rattle.worker_store.proofs.RestartLemmas.Widenings.{AddsWidening, end_keeps, wider_by}
use Rattle.worker_store.specs.laws.Acts.{TakesSteps, IsSaving, ShowsItsVersion, SavesWith}
use Rattle.worker_store.specs.laws.Acts.{keeping_more, CheckpointsSave, SavingEndsAlike}
use Rattle.worker_store.specs.laws.Acts.{UpgradesWiden, UpgradesSave, ActsMayFail}

-- ---- what is promised in its end

as_checkpoint : (promise : Promise) (more : List Kept) (shown : Saved) (reply : Reply) (held : ℕ)
    → SavesWith promise Upgrade more shown
    → record (after promise (Ended Checkpoint reply held shown)) {
      kept = kept_by_end Upgrade shown promise.kept;
    }
    ≡ after (keeping_more promise more) (Ended Checkpoint reply held shown)
as_checkpoint promise more shown reply held saves =
    ap (λ (l : List Kept). record (after promise (Ended Checkpoint reply held shown)) { kept = l })
    (saves.kept reply held)

pub saving_ends_alike : SavingEndsAlike
saving_ends_alike promise (Slice fuel) more shown reply held saves = absurd saves.saving
saving_ends_alike promise (Batch fuel most) more shown reply held saves = absurd saves.saving
saving_ends_alike promise Checkpoint more shown reply held saves =
    ap (λ (l : List Kept). record (after promise (Ended Checkpoint reply held shown)) { kept = l })
    (saves.kept reply held)
saving_ends_alike promise Upgrade more shown Spent held saves =
    as_checkpoint promise more shown Spent held saves
saving_ends_alike promise Upgrade more shown Waits held saves =
    as_checkpoint promise more shown Waits held saves
saving_ends_alike promise Upgrade more shown (Over why) held saves =
    as_checkpoint promise more shown (Over why) held saves
saving_ends_alike promise Upgrade more shown Done held saves =
    as_checkpoint promise more shown Done held saves
saving_ends_alike promise Upgrade more shown (Fails cause) held saves =
    as_checkpoint promise more shown (Fails cause) held saves

-- Acts that take steps promise the same in their end.
pub steps_end_alike : (act : Act) (promise : Promise) (reply : Reply) (held : ℕ) (shown : Saved)
    → TakesSteps act
    → after promise (Ended act reply held shown) ≡ after promise (Ended (Slice 0) reply held shown)
steps_end_alike (Slice fuel) promise reply held shown stepping = refl
steps_end_alike (Batch fuel most) promise reply held shown stepping = refl
steps_end_alike Checkpoint promise reply held shown stepping = absurd stepping
steps_end_alike Upgrade promise reply held shown stepping = absurd stepping

-- ---- what is kept besides

-- a checkpoint keeps nothing besides
pub checkpoints_save : CheckpointsSave
checkpoints_save promise shown = record {
  saving = tt;
  kept = λ reply held. sym (append-nil promise.kept);
  may = record { up_to = tt; emitted = inl (λ step. tt) };
}

-- an upgrade a widening
pub upgrades_widen : UpgradesWiden
upgrades_widen promise shown more narrow wide is told =
    subst (λ (l : List Kept). SavesWith promise Upgrade l shown) (sym is) (record {
      saving = tt;
      kept = λ reply held.
          wider_by (version_after promise.kept) shown.version shown.steps promise.kept narrow wide;
      may = record { up_to = omega arith; emitted = inr told };
    })

none_by : (before now : Version) (steps : ℕ) (kept : List Kept) → before ≡ now
    → kept_by_widening before now steps kept ≡ kept
none_by One One steps kept e = refl
none_by One Two steps kept e = absurd (cc)
none_by Two One steps kept e = refl
none_by Two Two steps kept e = refl

-- or nothing
pub upgrades_save : UpgradesSave
upgrades_save promise shown more same is =
    subst (λ (l : List Kept). SavesWith promise Upgrade l shown) (sym is) (record {
      saving = tt;
      kept = λ reply held.
          none_by (version_after promise.kept) shown.version shown.steps promise.kept same
          ∙ sym (append-nil promise.kept);
      may = record { up_to = tt; emitted = inl (λ step. tt) };
    })

pub same_rest : (kept left right : List Kept) → kept ++ left ≡ kept ++ right → left ≡ right
same_rest [] left right e = e
same_rest (x ∷ kept) left right e =
    let others : kept ++ left ≡ kept ++ right = cc in
    same_rest kept left right others

-- Where it keeps a widening, the process has emitted all lines that were begun.
pub lines_emitted : (promise : Promise) (act : Act) (more : List Kept) (shown : Saved)
    → SavesWith promise act more shown → kept_by_end act shown promise.kept ≢ promise.kept
    → promise.begun ≤ shown.lines
lines_emitted promise act more shown saves differs =
    ⊎_elim
    (λ (never : (step : ℕ) → IsNarrowTo more step). ⊎_elim
    (λ (same : kept_by_end act shown promise.kept ≡ promise.kept). absurd (differs same))
    (λ (adds : AddsWidening act shown promise.kept).
    let is : more ≡ Wider shown.steps ∷ [] =
    same_rest promise.kept more (Wider shown.steps ∷ []) (sym (saves.kept Done 0) ∙ adds.kept_is)
    in
    let late : suc shown.steps ≤ shown.steps =
    subst (λ (l : List Kept). IsNarrowTo l (suc shown.steps)) is (never (suc shown.steps)) in
    absurd (omega (arith, late)))
    (end_keeps act shown promise.kept))
    (λ (told : promise.begun ≤ shown.lines). told)
    saves.may.emitted

-- ---- what it answers

pub acts_may_fail : ActsMayFail
acts_may_fail config kept stage (Slice fuel) cause opened may =
    subst (λ (q : Phase). MayFail q cause) (sym opened) may
acts_may_fail config kept stage (Batch fuel most) cause opened may =
    batch_fails stage.phase cause (subst (λ (q : Phase). MayFail q cause) (sym opened) may)
acts_may_fail config kept stage Checkpoint cause opened may =
    subst (λ (q : Phase). MayFail q cause) (sym opened) may
acts_may_fail config kept stage Upgrade OfDisk opened may =
    subst (λ (q : Phase). MayFail q OfDisk) (sym opened) tt
acts_may_fail config kept stage Upgrade OfMemory opened may =
    subst (λ (q : Phase). MayFail q OfMemory) (sym opened) tt
acts_may_fail config kept stage Upgrade OfBounds opened may =
    subst (λ (q : Phase). MayFail q OfBounds) (sym opened) tt
acts_may_fail config kept stage Upgrade OfSource opened may = absurd may
acts_may_fail config kept stage Upgrade OfAnswer opened may = absurd may
acts_may_fail config kept stage Upgrade OfOutlet opened may = absurd may
acts_may_fail config kept stage Upgrade OfJournal opened may = absurd may
acts_may_fail config kept stage Upgrade OfLines opened may = absurd may

pub done_reply : (config : Settings) (kept : List Kept) (stage : Stage) (held : ℕ) (shown : Saved)
    (act : Act) → IsSaving act → ShowsItsVersion act shown → stage.phase ≡ Open
    → shown.steps ≡ stage.step → IsCaughtUp kept stage held shown
    → IsReply config kept stage held shown act Done
done_reply config kept stage held shown (Slice fuel) saving version opened steps caught =
    absurd saving
done_reply config kept stage held shown (Batch fuel most) saving version opened steps caught =
    absurd saving
done_reply config kept stage held shown Checkpoint saving version opened steps caught =
    (opened, steps, caught)
done_reply config kept stage held shown Upgrade saving version opened steps caught =
    (opened, steps, version, caught)

pub failed_reply : (config : Settings) (kept : List Kept) (stage : Stage) (held : ℕ)
    (shown : Saved) (act : Act) (cause : Cause) → IsSaving act
    → MayPlead config kept stage act cause → shown.steps ≡ stage.step
    → IsOneOf stage.line shown.lines → IsReply config kept stage held shown act (Fails cause)
failed_reply config kept stage held shown (Slice fuel) cause saving may steps told = absurd saving
failed_reply config kept stage held shown (Batch fuel most) cause saving may steps told =
    absurd saving
failed_reply config kept stage held shown Checkpoint cause saving may steps told =
    (may, omega (arith, steps), told)
failed_reply config kept stage held shown Upgrade cause saving may steps told =
    (may, omega (arith, steps), told)
