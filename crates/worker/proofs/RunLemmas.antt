-- A life is run on the disk that it finds.
use Rattle.std.proofs.Common.{◌≡◌, ℕ, ◌+◌, ◌≤◌, List, [], length, refl, sym, ◌∙◌, subst, inl, inr}
use Rattle.std.specs.Prelude.{Result, Ok, Err, IfOk, map}
use Rattle.wasm_syntax.specs.declared.module.Module.{Module}
use Rattle.wasi_abi.specs.declared.answer.Answer.{Answer}
use Rattle.wasi_abi.specs.rules.Configs.{Settings}
use Rattle.process_rules.specs.Runs.{Kept}
use Rattle.sector_disk.specs.declared.fault_disk.FaultDisk.{FaultDisk}
use Rattle.sector_disk.specs.declared.memory.MemDisk.{MemDisk}
use Rattle.sector_disk.specs.rules.DiskImage.{DiskImage}
use Rattle.sector_disk.specs.rules.Medium.{Stays}
use Rattle.sector_disk.specs.laws.Memory.{memory_stays}
use Rattle.sector_disk.specs.rules.Memory.{memory_medium}
use Rattle.disk_layout.specs.rules.Places.{geometry_of, total_sectors}
use Rattle.worker_store.specs.restart_theorem.Stands.{StandsFor}
use Rattle.record_replay.specs.declared.refusing.RefusingOutlet.{RefusingOutlet}
use Rattle.record_replay.specs.rules.Lists.{inner_outlet, until_fault}
use Rattle.worker.specs.declared.story.LivedOn.{LivedOn}
use Rattle.worker.specs.declared.story.fault.StoryFault.{StoryFault}
use Rattle.worker.specs.declared.story.hearing.HeardLines.{HeardLines}
use Rattle.worker.specs.declared.story.life.PlannedAct.{PlannedAct}
use Rattle.worker.specs.declared.story.life.PlannedLife.{PlannedLife}
use Rattle.worker.specs.declared.story.living.LivedOnce.{LivedOnce}
use Rattle.worker.specs.declared.story.report.LifeReport.{LifeReport}
use Rattle.worker.specs.declared.story.report.Opening.{Opening}
use Rattle.worker.specs.declared.story.report.Opening.TheVariants.{Created, Recovered, Unopened}
use Rattle.worker.specs.rules.OneLife.{shown_first, recipe}
use Rattle.worker.specs.rules.Scenes.{surroundings}
use Rattle.worker.specs.rules.DurableValues.{DurableValue}
use Rattle.worker.specs.rules.Planned.{act_of, call_at, number_refused}
use Rattle.worker.specs.rules.ShownDisks.{Recovers}
use Rattle.worker.specs.rules.StoryDisks.{story_medium, IsBegunOn, IsNextGeneration}
use Rattle.worker.specs.rules.StoryDisks.{IsRunOn, StopSays}
use Rattle.worker.specs.rules.Told.{TellsOpening}
use Rattle.worker.specs.Endings.{EndsLife}
use Rattle.worker.specs.Hearing.{hands_out, hears}
use Rattle.worker.specs.LifeCalls.{LivesOnce, LeavesSome, IsOfRecovery}
use Rattle.worker.proofs.EndLemmas.{stopping_leaves_some}

-- what reads give stays where the disk is only synced and read
shown_still : (old new : FaultDisk MemDisk) (image : DiskImage)
    → Stays (story_medium old) (story_medium new) → (memory_medium old.inner).shows image
    → (story_medium new).shows image
shown_still old new image stays shows =
    let may = stays.crash_pairs new.inner.shown.items new.inner.shown.items
    (refl, memory_stays new.inner) in
    shows ∙ sym may.0

-- the generation of a worker that a recovery opens
next_after : (w : DurableValue) (found disk : FaultDisk MemDisk)
    (heard heard' : RefusingOutlet HeardLines)
    (image : DiskImage) (m : Module) (config : Settings) (kept : List Kept) (n : ℕ)
    → Recovers story_medium hears (Ok w) found disk heard heard'
    → (memory_medium found.inner).shows image → (stands : StandsFor image m config kept n)
    → total_sectors (geometry_of config (length stands.wasm))
    ≤ (memory_medium found.inner).sectors
    → w.store.journal.generation ≡ stands.generation + 1
next_after w found disk heard heard' image m config kept n (inl failed_sync) shows stands fits =
    let e = failed_sync.is in absurd (cc)
next_after w found disk heard heard' image m config kept n (inr by) shows stands fits =
    let synced = by.1 in
    let from = (by.2 image (shown_still found by.0 image synced.stays shows)).0 in
    let revived = (from.revives m config kept n stands fits).0 in
    revived.generation

generation_so : (found : FaultDisk MemDisk) (heard : RefusingOutlet HeardLines) (told : Opening)
    → IsOfRecovery story_medium hears found heard told
    → IsNextGeneration (memory_medium found.inner) told
generation_so found heard (Recovered generation steps answers lines bytes) by =
    λ image m config kept n shows stands fits.
    by.3 ∙ next_after by.0 found by.1 heard by.2 image m config kept n by.4 shows stands fits
generation_so found heard (Created bytes) by = tt
generation_so found heard Unopened by = tt

one_life_is_run : (bytes : List ℕ) (config : Settings) (planned : PlannedLife)
    (found next : MemDisk) (report : LifeReport) (first last : FaultDisk MemDisk)
    (heard heard' : RefusingOutlet HeardLines) (answers_left : List Answer) (lived : LivedOnce)
    → IsBegunOn planned found first → (inner_outlet heard).lines ≡ []
    → until_fault heard ≡ number_refused planned.refuse
    → LivesOnce story_medium hands_out hears (recipe bytes config) (map act_of planned.acts)
    (surroundings first planned.answers heard) lived (surroundings last answers_left heard')
    → EndsLife lived last (inner_outlet heard') planned report next
    → IsRunOn bytes config planned report found next
one_life_is_run bytes config planned found next report first last heard heard'
    answers_left lived begun
    unheard refuses once ends = record {
      first = first;
      begun = begun;
      last = last;
      counted = ends.calls;
      torn_front = ends.torn_front;
      begins = once.begins;
      worker = once.worker;
      ended = lived.ended;
      unasked = answers_left;
      unheard = heard;
      none_heard = unheard;
      refuse = refuses;
      heard = heard';
      calls = once.calls;
      opened = subst (λ (o : Opening). TellsOpening once.begins (shown_first once.worker) o)
          (sym ends.opened) once.told;
      generation = subst (λ (d : MemDisk). IsNextGeneration (memory_medium d) report.opened)
          begun.below
          (subst (λ (o : Opening). IsNextGeneration (memory_medium first.inner) o) (sym ends.opened)
          (generation_so first heard lived.opened once.generation));
      releases = ends.releases;
      is_stopped = ends.stopped;
      stops = subst (λ (n : ℕ). StopSays ends.stopped (call_at planned.stop) n) (sym ends.calls)
          ends.stops;
      told_end = ends.ended;
      next_disk = ends.next_disk;
    }

pub ended_lives_are_run : (bytes : List ℕ) (config : Settings) (planned : PlannedLife)
    (found : MemDisk) (first last : FaultDisk MemDisk) (heard heard' : RefusingOutlet HeardLines)
    (answers_left answers : List Answer) (acts : List PlannedAct) (lived : LivedOnce)
    (result : Result LivedOn StoryFault) → IsBegunOn planned found first
    → (inner_outlet heard).lines ≡ [] → until_fault heard ≡ number_refused planned.refuse
    → answers ≡ planned.answers → acts ≡ planned.acts
    → (LeavesSome story_medium → LivesOnce story_medium hands_out hears (recipe bytes config)
    (map act_of acts) (surroundings first answers heard) lived
    (surroundings last answers_left heard'))
    → IfOk result (λ on. EndsLife lived last (inner_outlet heard') planned on.report on.disk)
    → IfOk result (λ on. IsRunOn bytes config planned on.report found on.disk)
ended_lives_are_run bytes config planned found first last heard heard' answers_left
    answers acts lived (Ok on) begun unheard refuses answers_are acts_are once ends =
    one_life_is_run bytes config planned found on.disk on.report first last heard
    heard' answers_left lived begun unheard refuses
    (subst (λ (a : List Answer). LivesOnce story_medium hands_out hears (recipe bytes config)
    (map act_of planned.acts) (surroundings first a heard) lived
    (surroundings last answers_left heard')) answers_are
    (subst (λ (a : List PlannedAct). LivesOnce story_medium hands_out hears (recipe bytes config)
    (map act_of a) (surroundings first answers heard) lived (surroundings last answers_left heard'))
    acts_are (once stopping_leaves_some))) ends
ended_lives_are_run bytes config planned found first last heard heard' answers_left
    answers acts lived (Err why) begun unheard refuses answers_are acts_are once ends = tt
