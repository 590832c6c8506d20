-- What is for good in the lives of a worker.
use Rattle.std.proofs.Common.{◌≡◌, inl, ℕ, ◌≤◌, List, ◌∷◌, ◌++◌, sym, subst, arith}
use Rattle.wasm_syntax.specs.declared.module.Module.{Module}
use Rattle.wasi_abi.specs.declared.version.Version.TheVariants.{Two}
use Rattle.wasi_abi.specs.rules.Configs.{Settings}
use Rattle.process_rules.specs.Behind.{AnswersBehindSync}
use Rattle.state_image.specs.rules.ProcessImage.{Saved}
use Rattle.worker_store.specs.restart_theorem.Lives.{Act, Checkpoint, Upgrade, Inputs, Reply, Done}
use Rattle.worker_store.specs.restart_theorem.Lives.{Event, Opened, Ended, Life, events_of}
use Rattle.worker_store.specs.restart_theorem.Lives.{kept_after}
use Rattle.worker_store.specs.restart_theorem.Promises.{Promise, nothing_yet, after, promised}
use Rattle.worker_store.specs.restart_theorem.Promises.{GoesOn}
use Rattle.worker_store.specs.restart_theorem.laws.ForGood.{StaysForGood, WhatIsForGood}
use Rattle.worker_store.specs.restart_theorem.laws.Laws.{HasReturned, OpenWith}
use Rattle.worker_store.specs.restart_theorem.laws.Upgrades.{OpenInTwo}
use Rattle.worker_store.proofs.RestartLemmas.ForGood.{opens_with, tells_beyond, syncs_held}
use Rattle.worker_store.proofs.RestartLemmas.ForGood.{later_kept, returned_by, returned_within}
use Rattle.worker_store.proofs.RestartLemmas.Promised.{AreKeptSomewhere, kept_of_promised}
use Rattle.worker_store.proofs.RestartLemmas.Promised.{lives_kept_from}
use Rattle.worker_store.proofs.RestartLemmas.Upgrading.{IsWide, show_one, open_in_two, end_in_two}
use Rattle.worker_store.proofs.RestartLemmas.Upgrading.{this_kept, done_is_wide, opened_is_wide}
use Rattle.worker_store.proofs.RestartLemmas.Widenings.{sync_at_end}

module _ (m : Module) (config : Settings) (so_far : Promise) (lives : List Life)
    (kept : AreKeptSomewhere m config so_far (events_of lives)) where
  -- the events up to one of them, and those after it
  split_kept : (events : List Event) → events_of lives ≡ events
      → AreKeptSomewhere m config so_far events
  split_kept events split = subst (λ z. AreKeptSomewhere m config so_far z) split kept

  behind : (earlier : List Event) (e : Event) (later : List Event)
      → events_of lives ≡ earlier ++ e ∷ later
      → AreKeptSomewhere m config (after (promised so_far earlier) e) later
  behind earlier e later split =
      later_kept m config so_far earlier e later (split_kept (earlier ++ e ∷ later) split)

  -- ---- answers, steps and lines

  opened_or_saved : (earlier later : List Event) (e : Event) (a n : ℕ)
      → events_of lives ≡ earlier ++ e ∷ later
      → a ≤ (after (promised so_far earlier) e).answers
      → n ≤ (after (promised so_far earlier) e).steps → OpenWith a n later
  opened_or_saved earlier later e a n split =
      opens_with m config (after (promised so_far earlier) e) a n later
      (behind earlier e later split)

  syncs : (earlier later : List Event) (act : Act) (reply : Reply) (held : ℕ) (shown : Saved)
      (k a : ℕ) → events_of lives ≡ earlier ++ Ended act reply held shown ∷ later
      → HasReturned reply k shown.steps
      → AnswersBehindSync m config (kept_after so_far.kept earlier) k a → OpenWith a 0 later
  syncs earlier later act reply held shown k a split returned needed =
      let then : Promise = promised so_far earlier in
      let there : AnswersBehindSync m config then.kept k a =
      subst (λ z. AnswersBehindSync m config z k a) (sym (kept_of_promised so_far earlier)) needed
      in
      syncs_held m config (after then (Ended act reply held shown)) k a later
      (behind earlier (Ended act reply held shown) later split)
      (inl (
        returned_by reply k shown.steps then.synced returned,
        sync_at_end m config then.kept act shown k a
            (λ differs. returned_within reply k shown.steps returned) there,
      ))

  -- ---- versions

  done_wide : (earlier later : List Event) (held : ℕ) (shown : Saved)
      → events_of lives ≡ earlier ++ Ended Upgrade Done held shown ∷ later
      → IsWide (after (promised so_far earlier) (Ended Upgrade Done held shown))
  done_wide earlier later held shown split =
      let e : Event = Ended Upgrade Done held shown in
      done_is_wide m config (promised so_far earlier) held shown
      (this_kept m config so_far earlier e later (split_kept (earlier ++ e ∷ later) split))

  wide_openings : (earlier later : List Event) (held : ℕ) (shown : Saved)
      → events_of lives ≡ earlier ++ Opened held shown ∷ later → shown.version ≡ Two
      → OpenInTwo held shown.steps later
  wide_openings earlier later held shown split two =
      let e : Event = Opened held shown in
      let then : Promise = promised so_far earlier in
      open_in_two m config (after then e) held shown.steps later (behind earlier e later split)
      (omega arith) (omega arith)
      (opened_is_wide m config then held shown
      (this_kept m config so_far earlier e later (split_kept (earlier ++ e ∷ later) split)) two)

  stays_for_good : StaysForGood m config so_far lives
  stays_for_good = record {
    openings = λ earlier later held shown split.
        opened_or_saved earlier later (Opened held shown) held shown.steps split (omega arith)
        (omega arith);
    checkpoints = λ earlier later held shown split.
        opened_or_saved earlier later (Ended Checkpoint Done held shown) held shown.steps split
        (omega arith) (omega arith);
    syncs = syncs;
    opened_lines = λ earlier later held shown split.
        tells_beyond m config (after (promised so_far earlier) (Opened held shown)) shown.lines
        later (behind earlier (Opened held shown) later split) (omega arith);
    saved_lines = λ earlier later held shown split.
        tells_beyond m config (after (promised so_far earlier) (Ended Checkpoint Done held shown))
        shown.lines later (behind earlier (Ended Checkpoint Done held shown) later split)
        (omega arith);
    upgraded_lines = λ earlier later held shown split.
        tells_beyond m config (after (promised so_far earlier) (Ended Upgrade Done held shown))
        shown.lines later (behind earlier (Ended Upgrade Done held shown) later split)
        (omega arith);
    upgrades = λ earlier later held shown split.
        open_in_two m config (after (promised so_far earlier) (Ended Upgrade Done held shown)) held
        shown.steps later (behind earlier (Ended Upgrade Done held shown) later split)
        (omega arith) (omega arith) (done_wide earlier later held shown split);
    wide_openings = wide_openings;
    upgraded_calls = λ earlier later held shown split.
        end_in_two m config (after (promised so_far earlier) (Ended Upgrade Done held shown)) later
        (behind earlier (Ended Upgrade Done held shown) later split)
        (done_wide earlier later held shown split);
    only_upgrades = λ earlier later narrow split.
        show_one m config so_far earlier later narrow (split_kept (earlier ++ later) split);
  }

pub what_is_for_good : WhatIsForGood
what_is_for_good m config so_far inputs lives goes =
    stays_for_good m config so_far lives (lives_kept_from m config so_far inputs lives goes)

-- Of a worker from its creation on this is said clause by clause.
pub from_creation : (m : Module) (config : Settings) (inputs : List Inputs) (lives : List Life)
    → GoesOn m config inputs lives → StaysForGood m config nothing_yet lives
from_creation m config inputs lives goes = what_is_for_good m config nothing_yet inputs lives goes
