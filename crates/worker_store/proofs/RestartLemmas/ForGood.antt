-- What a restart has at least stays so in all later lives.
use Rattle.std.proofs.Common.{◌⊎◌, inl, inr, ℕ, ◌<◌, ◌≤◌, List, [], ◌∷◌, ◌++◌, arith}
use Rattle.std.specs.Prelude.{max}
use Rattle.wasm_syntax.specs.declared.module.Module.{Module}
use Rattle.wasi_abi.specs.rules.Configs.{Settings}
use Rattle.process_rules.specs.Behind.{AnswersBehindSync}
use Rattle.worker_store.specs.restart_theorem.Lives.{Reply, Spent, Waits, Over, Done, Fails, Event}
use Rattle.worker_store.specs.restart_theorem.Lives.{Told, Asked, Opened, Ended, kept_of_said}
use Rattle.worker_store.specs.restart_theorem.Promises.{Promise, after, promised, synced_by}
use Rattle.worker_store.specs.restart_theorem.laws.Laws.{OpenWith, HasReturned, TellBeyond}
use Rattle.worker_store.proofs.RestartLemmas.Fronts.{said_widens_none}
use Rattle.worker_store.proofs.RestartLemmas.Widenings.{behind_more, sync_at_end}
use Rattle.worker_store.proofs.RestartLemmas.Promised.{AreKeptSomewhere}

-- ---- answers and steps

pub opens_with : (m : Module) (config : Settings) (so_far : Promise) (a n : ℕ) (events : List Event)
    → AreKeptSomewhere m config so_far events → a ≤ so_far.answers → n ≤ so_far.steps
    → OpenWith a n events
opens_with m config so_far a n [] kept h k = tt
opens_with m config so_far a n (Told r t ∷ events) kept h k =
    opens_with m config (after so_far (Told r t)) a n events kept.1 h k
opens_with m config so_far a n (Asked steps question said fits ∷ events) kept h k =
    opens_with m config (after so_far (Asked steps question said fits)) a n events kept.1 h k
opens_with m config so_far a n (Opened held shown ∷ events) kept h k =
    let more_answers : so_far.answers ≤ held = kept.0.kept.holds.answers in
    let more_steps : so_far.steps ≤ shown.steps = kept.0.kept.holds.steps_held in (
      omega (arith, h, more_answers),
      omega (arith, k, more_steps),
      opens_with m config (after so_far (Opened held shown)) a n events kept.1
          (omega (arith, h)) (omega (arith, k)),
    )
opens_with m config so_far a n (Ended act reply held shown ∷ events) kept h k =
    opens_with m config (after so_far (Ended act reply held shown)) a n events kept.1
    (omega (arith, h)) (omega (arith, k))

-- ---- lines

pub tells_beyond : (m : Module) (config : Settings) (so_far : Promise) (n : ℕ) (events : List Event)
    → AreKeptSomewhere m config so_far events → n ≤ so_far.passed → TellBeyond n events
tells_beyond m config so_far n [] kept h = tt
tells_beyond m config so_far n (Told r t ∷ events) kept h =
    let beyond : so_far.passed < r.number = kept.0.kept.not_passed in (
      omega (arith, h, beyond),
      tells_beyond m config (after so_far (Told r t)) n events kept.1 h,
    )
tells_beyond m config so_far n (Asked steps question said fits ∷ events) kept h =
    tells_beyond m config (after so_far (Asked steps question said fits)) n events kept.1 h
tells_beyond m config so_far n (Opened held shown ∷ events) kept h =
    tells_beyond m config (after so_far (Opened held shown)) n events kept.1 (omega (arith, h))
tells_beyond m config so_far n (Ended act reply held shown ∷ events) kept h =
    tells_beyond m config (after so_far (Ended act reply held shown)) n events kept.1
    (omega (arith, h))

-- ---- syncs

-- a guest sync has returned, or its answers are among those that a restart has
abbrev IsHeld : Module → Settings → Promise → ℕ → ℕ → Type 0
IsHeld m config so_far k a = ((k ≤ so_far.synced) × AnswersBehindSync m config so_far.kept k a)
    ⊎ (a ≤ so_far.answers)

pub syncs_held : (m : Module) (config : Settings) (so_far : Promise) (k a : ℕ) (events : List Event)
    → AreKeptSomewhere m config so_far events → IsHeld m config so_far k a → OpenWith a 0 events
syncs_held m config so_far k a [] kept held = tt
syncs_held m config so_far k a (Told r t ∷ events) kept held =
    syncs_held m config (after so_far (Told r t)) k a events kept.1 held
syncs_held m config so_far k a (Opened count shown ∷ events) kept (inl held) =
    let there : a ≤ count = kept.0.kept.holds.syncs k a held.0 held.1 in (
      there,
      omega arith,
      syncs_held m config (after so_far (Opened count shown)) k a events kept.1
          (inr (omega (arith, there))),
    )
syncs_held m config so_far k a (Opened count shown ∷ events) kept (inr held) =
    let there : so_far.answers ≤ count = kept.0.kept.holds.answers in (
      omega (arith, there, held),
      omega arith,
      syncs_held m config (after so_far (Opened count shown)) k a events kept.1
          (inr (omega (arith, held))),
    )
syncs_held m config so_far k a (Asked n question said fits ∷ events) kept (inl held) =
    let before : k ≤ so_far.synced = held.0 in
    syncs_held m config (after so_far (Asked n question said fits)) k a events kept.1
    (inl (
      omega (arith, before),
      behind_more m config so_far.kept (kept_of_said said fits) k a (said_widens_none said fits k)
          held.1,
    ))
syncs_held m config so_far k a (Asked n question said fits ∷ events) kept (inr held) =
    syncs_held m config (after so_far (Asked n question said fits)) k a events kept.1 (inr held)
syncs_held m config so_far k a (Ended act reply count shown ∷ events) kept (inl held) =
    let before : k ≤ so_far.synced = held.0 in
    syncs_held m config (after so_far (Ended act reply count shown)) k a events kept.1
    (inl (
      omega (arith, before),
      sync_at_end m config so_far.kept act shown k a
          (λ differs.
          (let early = (kept.0.kept.widens differs).syncs in omega (arith, early, before)))
          held.1,
    ))
syncs_held m config so_far k a (Ended act reply count shown ∷ events) kept (inr held) =
    syncs_held m config (after so_far (Ended act reply count shown)) k a events kept.1
    (inr (omega (arith, held)))

-- ---- in the middle of the lives

-- that the later events keep what is promised after this one
pub later_kept : (m : Module) (config : Settings) (so_far : Promise) (earlier : List Event)
    (e : Event) (later : List Event) → AreKeptSomewhere m config so_far (earlier ++ e ∷ later)
    → AreKeptSomewhere m config (after (promised so_far earlier) e) later
later_kept m config so_far [] e later kept = kept.1
later_kept m config so_far (d ∷ earlier) e later kept =
    later_kept m config (after so_far d) earlier e later kept.1

pub returned_by : (reply : Reply) (k steps synced : ℕ) → HasReturned reply k steps
    → k ≤ max (synced_by reply steps) synced
returned_by Spent k steps synced h = omega (arith, h)
returned_by Waits k steps synced h = omega (arith, h)
returned_by (Over why) k steps synced h = omega (arith, h)
returned_by Done k steps synced h = omega (arith, h)
returned_by (Fails cause) k steps synced h = omega (arith, h)

pub returned_within : (reply : Reply) (k steps : ℕ) → HasReturned reply k steps → k ≤ steps
returned_within Spent k steps h = h
returned_within Waits k steps h = h
returned_within (Over why) k steps h = h
returned_within Done k steps h = h
returned_within (Fails cause) k steps h = omega (arith, h)
