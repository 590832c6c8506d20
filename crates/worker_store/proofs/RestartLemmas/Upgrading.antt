-- What an upgrade holds for good, and that nothing else changes the version.
use Rattle.std.proofs.Common.{◌≡◌, ⊎_elim, ℕ, ◌≤◌, Some, None, Ok, Err, List, [], ◌∷◌}
use Rattle.std.proofs.Common.{◌++◌, Bool, true, false, take, refl, sym, ap, ◌∙◌, subst, arith}
use Rattle.std.proofs.Math.Seq.{take-length}
use Rattle.std.specs.Prelude.{max}
use Rattle.wasm_syntax.specs.declared.module.Module.{Module}
use Rattle.wasi_abi.specs.declared.version.Version.TheVariants.{One, Two}
use Rattle.wasi_abi.specs.rules.Configs.{Settings}
use Rattle.process_rules.specs.Runs.{Kept, version_after}
use Rattle.state_image.specs.rules.ProcessImage.{Saved}
use Rattle.worker_store.specs.restart_theorem.Lives.{Act, Slice, Batch, Checkpoint, Upgrade}
use Rattle.worker_store.specs.restart_theorem.Lives.{SourceSaid, Reply, Done, Event, Told, Asked}
use Rattle.worker_store.specs.restart_theorem.Lives.{Opened, Ended, kept_of_said, kept_by_end}
use Rattle.worker_store.specs.restart_theorem.Courses.{Open, phase_ended}
use Rattle.worker_store.specs.restart_theorem.Promises.{Promise, after, promised, saved_by, IsAt}
use Rattle.worker_store.specs.restart_theorem.laws.Upgrades.{UpgradeNone, ShowOne}
use Rattle.worker_store.specs.restart_theorem.laws.Upgrades.{OpenInTwo, EndInTwo}
use Rattle.worker_store.proofs.RestartLemmas.Pleas.{in_order}
use Rattle.worker_store.proofs.RestartLemmas.Promised.{IsKeptSomewhere, AreKeptSomewhere}
use Rattle.worker_store.proofs.RestartLemmas.Widenings.{wide_cut, wide_longer, wide_whole}
use Rattle.worker_store.proofs.RestartLemmas.Widenings.{wide_more, narrow_front, narrow_more}
use Rattle.worker_store.proofs.RestartLemmas.Widenings.{at_version, AddsWidening, end_keeps}
use Rattle.worker_store.proofs.RestartLemmas.Widenings.{one_is_not_two}

-- ---- until an upgrade ends

said_is_narrow : (said : SourceSaid) (fits : Bool) → version_after (kept_of_said said fits) ≡ One
said_is_narrow (Ok (Some a)) true = refl
said_is_narrow (Ok (Some a)) false = refl
said_is_narrow (Ok None) fits = refl
said_is_narrow (Err e) fits = refl

module _ (m : Module) (config : Settings) where
  -- what a prefix of them shows
  shows_one : (kept : List Kept) (held : ℕ) (shown : Saved) → version_after kept ≡ One
      → IsAt m config (take held kept) shown.steps shown → shown.version ≡ One
  shows_one kept held shown narrow at =
      at_version m config (take held kept) shown.steps shown at ∙ narrow_front held kept narrow

  pub show_one : (so_far : Promise) (earlier later : List Event) → version_after so_far.kept ≡ One
      → AreKeptSomewhere m config so_far (earlier ++ later) → UpgradeNone earlier → ShowOne earlier
  show_one so_far [] later narrow kept no_upgrade = tt
  show_one so_far (Told r t ∷ earlier) later narrow kept no_upgrade =
      show_one (after so_far (Told r t)) earlier later narrow kept.1 no_upgrade
  show_one so_far (Asked n k said fits ∷ earlier) later narrow kept no_upgrade =
      show_one (after so_far (Asked n k said fits)) earlier later
      (narrow_more so_far.kept (kept_of_said said fits) narrow (said_is_narrow said fits)) kept.1
      no_upgrade
  show_one so_far (Opened held shown ∷ earlier) later narrow kept no_upgrade = (
    shows_one so_far.kept held shown narrow kept.0.kept.at,
    show_one (after so_far (Opened held shown)) earlier later (narrow_front held so_far.kept narrow)
        kept.1 no_upgrade,
  )
  show_one so_far (Ended (Slice fuel) reply held shown ∷ earlier) later narrow kept no_upgrade = (
    shows_one so_far.kept held shown narrow kept.0.kept.at,
    show_one (after so_far (Ended (Slice fuel) reply held shown)) earlier later narrow kept.1
        no_upgrade,
  )
  show_one so_far (Ended (Batch n most) reply held shown ∷ earlier) later narrow kept no_upgrade = (
    shows_one so_far.kept held shown narrow kept.0.kept.at,
    show_one (after so_far (Ended (Batch n most) reply held shown)) earlier later narrow kept.1
        no_upgrade,
  )
  show_one so_far (Ended Checkpoint reply held shown ∷ earlier) later narrow kept no_upgrade = (
    shows_one so_far.kept held shown narrow kept.0.kept.at,
    show_one (after so_far (Ended Checkpoint reply held shown)) earlier later narrow kept.1
        no_upgrade,
  )
  show_one so_far (Ended Upgrade reply held shown ∷ earlier) later narrow kept no_upgrade =
      absurd no_upgrade

-- ---- once one is done

-- the answers that each later life has lead to version 2
abbrev pub IsWide : Promise → Type 0
IsWide so_far = version_after (take so_far.answers so_far.kept) ≡ Two

-- it stays so where a call ends
wide_at_end : (so_far : Promise) (act : Act) (reply : Reply) (held : ℕ) (shown : Saved)
    → IsWide so_far → IsWide (after so_far (Ended act reply held shown))
wide_at_end so_far act reply held shown wide =
    let saved : ℕ = max (saved_by act reply held) so_far.answers in
    wide_longer so_far.answers saved (kept_by_end act shown so_far.kept) (omega arith)
    (⊎_elim
    (λ (same : kept_by_end act shown so_far.kept ≡ so_far.kept).
    subst (λ (l : List Kept). version_after (take so_far.answers l) ≡ Two) (sym same) wide)
    (λ (adds : AddsWidening act shown so_far.kept).
    absurd (one_is_not_two (version_after so_far.kept) adds.narrow
    (wide_whole so_far.answers so_far.kept wide)))
    (end_keeps act shown so_far.kept))

module _ (m : Module) (config : Settings) where
  pub open_in_two : (so_far : Promise) (a n : ℕ) (events : List Event)
      → AreKeptSomewhere m config so_far events → a ≤ so_far.answers → n ≤ so_far.steps
      → IsWide so_far → OpenInTwo a n events
  open_in_two so_far a n [] kept h k wide = tt
  open_in_two so_far a n (Told r t ∷ events) kept h k wide =
      open_in_two (after so_far (Told r t)) a n events kept.1 h k wide
  open_in_two so_far a n (Asked steps question said fits ∷ events) kept h k wide =
      open_in_two (after so_far (Asked steps question said fits)) a n events kept.1 h k
      (wide_more so_far.answers so_far.kept (kept_of_said said fits) wide)
  open_in_two so_far a n (Opened held shown ∷ events) kept h k wide =
      let answers : so_far.answers ≤ held = kept.0.kept.holds.answers in
      let steps : so_far.steps ≤ shown.steps = kept.0.kept.holds.steps_held in (
        at_version m config (take held so_far.kept) shown.steps shown kept.0.kept.at
            ∙ wide_longer so_far.answers held so_far.kept answers wide,
        omega (arith, h, answers),
        omega (arith, k, steps),
        open_in_two (after so_far (Opened held shown)) a n events kept.1 (omega (arith, h))
            (omega (arith, k))
            (wide_cut so_far.answers (max held so_far.answers) held so_far.kept (omega arith)
            answers wide),
      )
  open_in_two so_far a n (Ended act reply held shown ∷ events) kept h k wide =
      open_in_two (after so_far (Ended act reply held shown)) a n events kept.1
      (omega (arith, h)) (omega (arith, k)) (wide_at_end so_far act reply held shown wide)

  -- ---- calls that have not failed

  ends_in_two : (so_far : Promise) (act : Act) (reply : Reply) (held : ℕ) (shown : Saved)
      → IsKeptSomewhere m config so_far (Ended act reply held shown) → IsWide so_far
      → phase_ended reply ≡ Open → shown.version ≡ Two
  ends_in_two so_far act reply held shown somewhere wide opens =
      let kept : List Kept = kept_by_end act shown so_far.kept in
      let then : Promise = after so_far (Ended act reply held shown) in
      let caught = (in_order config kept somewhere.stage held shown act reply opens
      somewhere.kept.reply).2 in
      at_version m config (take held kept) shown.steps shown somewhere.kept.at
      ∙ ap (λ n. version_after (take n kept)) caught.all_taken
      ∙ ap (λ l. version_after l) (take-length kept)
      ∙ wide_whole then.answers kept (wide_at_end so_far act reply held shown wide)

  pub end_in_two : (so_far : Promise) (events : List Event)
      → AreKeptSomewhere m config so_far events → IsWide so_far → EndInTwo events
  end_in_two so_far [] kept wide = tt
  end_in_two so_far (Told r t ∷ events) kept wide =
      end_in_two (after so_far (Told r t)) events kept.1 wide
  end_in_two so_far (Asked n k said fits ∷ events) kept wide =
      end_in_two (after so_far (Asked n k said fits)) events kept.1
      (wide_more so_far.answers so_far.kept (kept_of_said said fits) wide)
  end_in_two so_far (Opened held shown ∷ events) kept wide =
      end_in_two (after so_far (Opened held shown)) events kept.1
      (wide_cut so_far.answers (max held so_far.answers) held so_far.kept (omega arith)
      kept.0.kept.holds.answers wide)
  end_in_two so_far (Ended act reply held shown ∷ events) kept wide = (
    ends_in_two so_far act reply held shown kept.0 wide,
    end_in_two (after so_far (Ended act reply held shown)) events kept.1
        (wide_at_end so_far act reply held shown wide),
  )

  -- ---- in the middle of the lives

  pub this_kept : (so_far : Promise) (earlier : List Event) (e : Event) (later : List Event)
      → AreKeptSomewhere m config so_far (earlier ++ e ∷ later)
      → IsKeptSomewhere m config (promised so_far earlier) e
  this_kept so_far [] e later kept = kept.0
  this_kept so_far (d ∷ earlier) e later kept = this_kept (after so_far d) earlier e later kept.1

  -- where an upgrade is done
  pub done_is_wide : (so_far : Promise) (held : ℕ) (shown : Saved)
      → IsKeptSomewhere m config so_far (Ended Upgrade Done held shown)
      → IsWide (after so_far (Ended Upgrade Done held shown))
  done_is_wide so_far held shown somewhere =
      let kept : List Kept = kept_by_end Upgrade shown so_far.kept in
      wide_longer held (max held so_far.answers) kept (omega arith)
      (sym (at_version m config (take held kept) shown.steps shown somewhere.kept.at)
      ∙ somewhere.kept.reply.2)

  -- and where a life opens in version 2
  pub opened_is_wide : (so_far : Promise) (held : ℕ) (shown : Saved)
      → IsKeptSomewhere m config so_far (Opened held shown) → shown.version ≡ Two
      → IsWide (after so_far (Opened held shown))
  opened_is_wide so_far held shown somewhere two =
      wide_cut held (max held so_far.answers) held so_far.kept (omega arith) (omega arith)
      (sym (at_version m config (take held so_far.kept) shown.steps shown somewhere.kept.at) ∙ two)
