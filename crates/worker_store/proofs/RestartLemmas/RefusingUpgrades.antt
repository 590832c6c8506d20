-- Why the restart theorem refuses upgrades that nobody wants.
use Rattle.std.proofs.Common.{◌≡◌, ◌≢◌, ⊎_elim, ◌≤◌, ℕ, Bool, true, false, List, []}
use Rattle.std.proofs.Common.{◌∷◌, ◌++◌, length, take, Some, Ok, refl, sym, ap, ◌∙◌, subst, arith}
use Rattle.wasm_syntax.specs.declared.module.Module.{Module}
use Rattle.wasi_abi.specs.declared.answer.Question.TheVariants as questions
use Rattle.wasi_abi.specs.declared.answer.Answer.TheVariants as answer
use Rattle.wasi_abi.specs.declared.version.Version.TheVariants.{One, Two}
use Rattle.wasi_abi.specs.rules.Answers.{IsRequestText}
use Rattle.wasi_abi.specs.rules.Configs.{Settings}
use Rattle.wasi_abi.specs.rules.Versions.{text_limit}
use Rattle.process_rules.specs.Runs.{Kept, Wider, version_after}
use Rattle.process_rules.proofs.ReachedStates.{reached_versions}
use Rattle.disk_layout.specs.rules.Journal.{TakesRecords}
use Rattle.state_image.specs.rules.ProcessImage.{Saved}
use Rattle.worker_store.specs.restart_theorem.Lives.{Act, Upgrade, Cause, OfDisk, OfSource}
use Rattle.worker_store.specs.restart_theorem.Lives.{OfAnswer, OfOutlet, OfMemory, OfBounds}
use Rattle.worker_store.specs.restart_theorem.Lives.{OfJournal, OfLines, Reply, Done, Fails}
use Rattle.worker_store.specs.restart_theorem.Lives.{Creates, Event, Asked, Opened, Ended}
use Rattle.worker_store.specs.restart_theorem.Lives.{kept_by_end}
use Rattle.worker_store.specs.restart_theorem.Courses.{Phase, Open, Stage, IsToldIn, IsAskedIn}
use Rattle.worker_store.specs.restart_theorem.Courses.{MayFail}
use Rattle.worker_store.specs.restart_theorem.Courses.{at_beginning, next_stage, stage_after}
use Rattle.worker_store.specs.restart_theorem.Promises.{Promise, promised, as_begun, after, IsAt}
use Rattle.worker_store.specs.restart_theorem.Promises.{MayWiden, IsKept, AreKept}
use Rattle.worker_store.specs.restart_theorem.laws.Refused.{IsOfUpgrades, journal, lines}
use Rattle.worker_store.specs.restart_theorem.laws.Refused.{created_life, recovered_life}
use Rattle.worker_store.specs.restart_theorem.laws.Refused.{RefusedUpgrades, RefusedUpgraders}
use Rattle.worker_store.proofs.RestartLemmas.Abreast.{at_its_end, stays_abreast, kept_behind}
use Rattle.worker_store.proofs.RestartLemmas.Refusing.{within_fuel}
use Rattle.worker_store.proofs.RestartLemmas.StaysForGood.{from_creation}
use Rattle.worker_store.proofs.RestartLemmas.Widenings.{one_is_not_two, at_version, narrow_front}
use Rattle.worker_store.proofs.RestartLemmas.Widenings.{AddsWidening}
use Rattle.worker_store.proofs.RestartLemmas.Widenings.{adds_one, end_keeps, wider_by, one_longer}

true_is_not_false : (b : Bool) → b ≡ true → b ≡ false → ⊥
true_is_not_false b e f = cc

-- ---- events

-- 132 sectors are too few for a record of version 2, and 133 are enough
too_few : (sectors : ℕ) → sectors ≤ 132 → TakesRecords Two sectors → ⊥
too_few sectors few takes = omega (arith, few, takes)

enough : (sectors : ℕ) → 133 ≤ sectors → TakesRecords Two sectors
enough sectors many = omega (arith, many)

-- an upgrade that shows version 2 adds a widening to what leads to version 1,
widens_it : (kept : List Kept) (shown : Saved) → version_after kept ≡ One → shown.version ≡ Two
    → kept_by_end Upgrade shown kept ≢ kept
widens_it kept shown narrow wide =
    adds_one Upgrade shown kept (record {
      is_upgrade = refl;
      narrow = narrow;
      wide = wide;
      kept_is = wider_by (version_after kept) shown.version shown.steps kept narrow wide;
    })

-- and nothing to what leads to version 2
adds_none : (kept : List Kept) (shown : Saved) → version_after kept ≡ Two
    → kept_by_end Upgrade shown kept ≡ kept
adds_none kept shown wide =
    ⊎_elim
    (λ (same : kept_by_end Upgrade shown kept ≡ kept). same)
    (λ (adds : AddsWidening Upgrade shown kept).
    absurd (one_is_not_two (version_after kept) adds.narrow wide))
    (end_keeps Upgrade shown kept)

-- it never takes any away
no_shorter : (kept : List Kept) (shown : Saved)
    → length kept ≤ length (kept_by_end Upgrade shown kept)
no_shorter kept shown =
    ⊎_elim
    (λ (same : kept_by_end Upgrade shown kept ≡ kept).
    (let e = ap (λ (l : List Kept). length l) same in omega (arith, e)))
    (λ (adds : AddsWidening Upgrade shown kept).
    (let e = ap (λ (l : List Kept). length l) adds.kept_is in
    let one = one_longer kept shown.steps in
    omega (arith, e, one)))
    (end_keeps Upgrade shown kept)

module _ (m : Module) (config : Settings) (so_far : Promise) (stage : Stage) where
  -- so it has to be one that may
  may_widen : (reply : Reply) (held : ℕ) (shown : Saved) → version_after so_far.kept ≡ One
      → shown.version ≡ Two → IsKept m config so_far stage (Ended Upgrade reply held shown)
      → MayWiden config so_far shown
  may_widen reply held shown narrow wide kept =
      kept.widens (widens_it so_far.kept shown narrow wide)

  -- what a front shows of that which doesn't widen
  pub shows_wide : (held : ℕ) (shown : Saved) → version_after so_far.kept ≡ One
      → shown.version ≡ Two → IsAt m config (take held so_far.kept) shown.steps shown → ⊥
  shows_wide held shown narrow wide at =
      one_is_not_two shown.version
      (at_version m config (take held so_far.kept) shown.steps shown at
      ∙ narrow_front held so_far.kept narrow) wide

  -- an error of an upgrade, in another call that nobody has failed
  no_plea : (cause : Cause) → IsOfUpgrades cause → stage.phase ≡ Open → MayFail stage.phase cause
      → ⊥
  no_plea OfJournal journal is may = subst (λ (q : Phase). MayFail q OfJournal) is may
  no_plea OfLines lines is may = subst (λ (q : Phase). MayFail q OfLines) is may
  no_plea OfDisk of_upgrades is may = elim of_upgrades [ ]
  no_plea OfSource of_upgrades is may = elim of_upgrades [ ]
  no_plea OfAnswer of_upgrades is may = elim of_upgrades [ ]
  no_plea OfOutlet of_upgrades is may = elim of_upgrades [ ]
  no_plea OfMemory of_upgrades is may = elim of_upgrades [ ]
  no_plea OfBounds of_upgrades is may = elim of_upgrades [ ]

  -- a line or a question in an upgrade
  tells : (phase : Phase) (acts : List Act) (steps : ℕ) → phase ≡ Open
      → (rest : List Act) → acts ≡ Upgrade ∷ rest → IsToldIn phase acts stage.step steps → ⊥
  tells phase acts steps opens rest is told =
      subst (λ (l : List Act). IsToldIn Open l stage.step steps) is
      (subst (λ (q : Phase). IsToldIn q acts stage.step steps) opens told)

  asks_in : (phase : Phase) (acts : List Act) (steps : ℕ) → phase ≡ Open
      → (rest : List Act) → acts ≡ Upgrade ∷ rest → IsAskedIn phase acts stage.step steps → ⊥
  asks_in phase acts steps opens rest is asked =
      (subst (λ (l : List Act). IsAskedIn Open l stage.step steps) is
      (subst (λ (q : Phase). IsAskedIn q acts stage.step steps) opens asked)).0

  pub refused_upgrades : RefusedUpgrades m config so_far stage
  refused_upgrades = record {
    stays_in_version_1 = λ held shown one kept.
        one_is_not_two shown.version one kept.reply.2;
    leaves_an_answer = λ held shown less kept.
        (let all = kept.reply.3.all_taken in
        let longer = no_shorter so_far.kept shown in
        omega (arith, less, all, longer));
    takes_a_step = λ reply held shown more kept.
        (let few = within_fuel m config so_far stage (kept_by_end Upgrade shown so_far.kept) Upgrade
        reply held shown kept.reply in
        omega (arith, few, more));
    tells_a_line = λ acts r is_taken opens is kept.
        tells stage.phase stage.acts kept.is_line.steps opens acts is kept.in_time;
    asks = λ acts steps question said fits opens is kept.
        asks_in stage.phase stage.acts steps opens acts is kept.in_time;
    widens_before_a_line = λ reply held shown narrow wide fewer kept.
        (let told = (may_widen reply held shown narrow wide kept).lines in
        omega (arith, told, fewer));
    widens_before_a_sync = λ reply held shown narrow wide fewer kept.
        (let synced = (may_widen reply held shown narrow wide kept).syncs in
        omega (arith, synced, fewer));
    widens_with_132_sectors = λ reply held shown narrow wide few kept.
        too_few config.journal few (may_widen reply held shown narrow wide kept).room;
    widens_twice = λ reply held shown wide more kept.
        (let within = kept.within in
        let long : length (kept_by_end Upgrade shown so_far.kept) ≡ length so_far.kept =
        ap (λ l. length l) (adds_none so_far.kept shown wide) in
        omega (arith, within, long, more));
    pleads_133_sectors = λ held shown many kept. kept.reply.0.1 (enough config.journal many);
    pleads_lines_abreast = λ held shown abreast kept.
        true_is_not_false stage.is_abreast abreast kept.reply.0.2;
    pleads_lines_in_version_2 = λ held shown wide kept.
        one_is_not_two (version_after (kept_by_end Upgrade shown so_far.kept)) kept.reply.0.1
        (ap (λ l. version_after l) (adds_none so_far.kept shown wide) ∙ wide);
    slice_pleads = λ fuel cause held shown opens of_upgrades kept.
        no_plea cause of_upgrades opens kept.reply.0;
    checkpoint_pleads = λ cause held shown opens of_upgrades kept.
        no_plea cause of_upgrades opens kept.reply.0;
    opening_widens = λ held shown narrow wide kept. shows_wide held shown narrow wide kept.at;
    slice_widens = λ fuel reply held shown narrow wide kept.
        shows_wide held shown narrow wide kept.at;
    checkpoint_widens = λ reply held shown narrow wide kept.
        shows_wide held shown narrow wide kept.at;
    refuses_a_long_text = λ steps text wide is kept.
        refuses text steps wide is kept;
  }
    where
      refuses : (text : List ℕ) (steps : ℕ) → version_after so_far.kept ≡ Two
          → IsRequestText 65536 text → IsKept m config so_far stage
          (Asked steps questions.Request (Ok (Some (answer.Request text))) false) → ⊥
      refuses text steps wide is kept =
          let two = reached_versions m config so_far.kept steps kept.process kept.reached ∙ wide in
          kept.fitting (subst (λ v. IsRequestText (text_limit v) text) (sym two) is)

-- ---- lives

module _ (m : Module) (config : Settings) where
  -- where a life is abreast, no upgrade speaks of lines beyond its process
  never_pleads : (so_far : Promise) (stage : Stage) (before rest : List Event) (held : ℕ)
      (shown : Saved) → stage.is_abreast ≡ true
      → AreKept m config so_far stage (before ++ Ended Upgrade (Fails OfLines) held shown ∷ rest)
      → ⊥
  never_pleads so_far stage before rest held shown abreast kept =
      let pleads = kept_behind m config so_far stage before
      (Ended Upgrade (Fails OfLines) held shown ∷ rest) kept in
      true_is_not_false (stage_after stage before).is_abreast (stays_abreast stage before abreast)
      pleads.0.reply.0.2

  pub refused_upgraders : RefusedUpgraders m config
  refused_upgraders = record {
    keeps_nothing = λ i j held less calls more ends others first last second rest one goes.
        one_is_not_two second.version one
        ((from_creation m config (i ∷ j ∷ [])
        (created_life (Opened 0 first ∷ Ended Upgrade Done held last ∷ []) calls ends
        ∷ recovered_life (Opened less second ∷ rest) more others ∷ []) goes).upgrades
        (Opened 0 first ∷ []) (Opened less second ∷ rest ++ []) held last refl).0;
    widens_twice = λ inputs held calls ends first second third rest goes.
        (let wide : second.version ≡ Two = goes.0.kept.1.0.reply.2 in
        let again = goes.0.kept.1.1.0 in
        two_are_too_many second third wide again.within);
    changes_a_line = λ i j calls more held ends others first second third r is_taken rest fewer
        goes.
        (let ended = goes.1.0.kept.1.0 in
        let told = (ended.widens (widens_it [] third refl ended.reply.2)).lines in
        omega (arith, told, fewer));
    pleads_after_a_question = λ inputs steps fuel held late calls question said fits
        ends first second third rest goes.
        true_is_not_false true refl goes.0.kept.1.1.1.0.reply.0.2;
    created_worker_is_never_upgraded = λ so_far inputs before rest held calls ends shown lived.
        never_pleads (as_begun Creates so_far) (at_beginning Creates inputs) before rest held shown
        refl lived.kept;
    ended_worker_is_never_upgraded = λ so_far inputs begins told before rest held late calls ends
        why first shown ended lived.
        (let begun : Promise = as_begun begins so_far in
        let start : Stage = at_beginning begins inputs in
        let there = kept_behind m config begun start told (Opened held first
        ∷ (before ++ Ended Upgrade (Fails OfLines) late shown ∷ rest)) lived.kept in
        never_pleads (after (promised begun told) (Opened held first))
        (next_stage (stage_after start told) (Opened held first)) before rest late shown
        (at_its_end first.ended why (stage_after start told).is_abreast ended) there.1);
    created_wide = λ inputs held calls ends shown rest wide goes.
        (let at = goes.0.kept.0.at in
        one_is_not_two shown.version
        (at_version m config (take held []) shown.steps shown at ∙ narrow_front held [] refl) wide);
  }
    where
      two_are_too_many : (second third : Saved) → second.version ≡ Two
          → 2 ≤ length (kept_by_end Upgrade third (kept_by_end Upgrade second [])) → ⊥
      two_are_too_many second third wide within =
          let one : kept_by_end Upgrade second [] ≡ Wider second.steps ∷ [] =
          wider_by One second.version second.steps [] refl wide in
          let none_more = adds_none (kept_by_end Upgrade second []) third
          (ap (λ (l : List Kept). version_after l) one) in
          let long = ap (λ (l : List Kept). length l) none_more in
          let single = ap (λ (l : List Kept). length l) one in
          omega (arith, within, long, single)
