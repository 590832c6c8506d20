-- Lives go on, one after another.
use Rattle.std.proofs.Common.{◌≡◌, ℕ, ◌<◌, ◌≤◌, ◌+◌, ◌++◌, List, [], ◌∷◌, length, refl, sym, ap}
use Rattle.std.proofs.Common.{◌∙◌, subst, inl, arith, ◌^◌, ◌*◌}
use Rattle.std.specs.Prelude.{Result, Ok, Err, Option, map, replicate, IfOk}
use Rattle.std.proofs.lemmas.List.{length-replicate}
use Rattle.std.proofs.Math.Nat.{le_refl}
use Rattle.wasm_syntax.specs.declared.module.Module.{Module}
use Rattle.wasm_rules.specs.Acceptance.{IsAccepted}
use Rattle.wasi_abi.specs.declared.answer.Answer.{Answer}
use Rattle.wasi_abi.specs.rules.Configs.{Settings}
use Rattle.machine.specs.rules.Offers.{offer}
use Rattle.state_image.specs.rules.ProcessImage.{Saved}
use Rattle.sector_disk.specs.declared.fault_disk.FaultDisk.{FaultDisk}
use Rattle.sector_disk.specs.declared.memory.MemDisk.{MemDisk}
use Rattle.sector_disk.specs.declared.sector.TheConstants.{SECTOR_SIZE}
use Rattle.sector_disk.specs.rules.DiskImage.{DiskImage}
use Rattle.sector_disk.specs.rules.Pending.{Leaves}
use Rattle.sector_disk.specs.rules.FaultDisk.{call_counts_of}
use Rattle.sector_disk.specs.rules.Memory.{memory_medium, MemoryState}
use Rattle.sector_disk.specs.rules.Trouble.{CallCounts, call_number}
use Rattle.disk_layout.specs.rules.Places.{geometry_of, total_sectors}
use Rattle.disk_layout.specs.rules.Unsynced.{most_unsynced}
use Rattle.record_replay.specs.declared.line_list.NumberedLine.{NumberedLine}
use Rattle.record_replay.specs.rules.Calls.{Exchange, Exchanges}
use Rattle.worker_store.specs.restart_theorem.Stands.{IsBlank}
use Rattle.worker_store.specs.restart_theorem.Lives.{Inputs, Life, Beginning, Release}
use Rattle.worker_store.specs.restart_theorem.Promises.{Promise, nothing_yet, promised_by, IsLived}
use Rattle.worker_store.specs.restart_theorem.Promises.{GoOn}
use Rattle.worker_store.specs.restart_theorem.Holds.{KeepsPromise, KeepsBounds}
use Rattle.worker_store.specs.restart_theorem.Between.{IsLivedOn}
use Rattle.worker_store.proofs.RestartLemmas.Disks.{blank_is_within}
use Rattle.worker_store.proofs.RestartLemmas.NextLives.{found_is_as_long, next_life_finds_it}
use Rattle.worker_store.proofs.RestartLemmas.NextLives.{next_life_is_within}
use Rattle.worker.specs.declared.recover_fault.RecoverFault.{RecoverFault}
use Rattle.worker.specs.rules.OneLife.{opened_in, shown_first, undone_acts, recipe, one_life}
use Rattle.worker.specs.rules.Scenes.{surroundings}
use Rattle.worker.specs.laws.OneLife.{CameTrue, IsLifeOver, IsLifeOf, IsLater, CallsMakeLives}
use Rattle.worker.specs.laws.OneLife.{released_in}
use Rattle.worker.specs.declared.story.LivedOn.{LivedOn}
use Rattle.worker.specs.declared.story.fault.StoryFault.{StoryFault}
use Rattle.worker.specs.declared.story.hearing.HeardLines.{HeardLines}
use Rattle.worker.specs.declared.story.life.PlannedAct.{PlannedAct}
use Rattle.worker.specs.declared.story.life.PlannedLife.{PlannedLife}
use Rattle.worker.specs.declared.story.living.LivedOnce.{LivedOnce}
use Rattle.worker.specs.declared.story.report.Opening.{Opening}
use Rattle.worker.specs.declared.story.report.LifeEnd.{LifeEnd}
use Rattle.worker.specs.declared.story.report.LifeReport.{LifeReport}
use Rattle.worker.specs.rules.Planned.{inputs_of, act_of, said_of, takes_but, number_refused}
use Rattle.worker_store.specs.rules.BetweenCalls.{Foretell}
use Rattle.record_replay.specs.declared.refusing.RefusingOutlet.{RefusingOutlet}
use Rattle.record_replay.specs.rules.Lists.{inner_outlet, until_fault}
use Rattle.worker.specs.rules.CallCounts.{most_calls, CallsForEvents}
use Rattle.worker.specs.rules.Told.{TellsLife, TellsEach, TellsOpening, TellsLifeEnd, BeginFewCalls}
use Rattle.worker.specs.rules.Told.{told_line}
use Rattle.worker.specs.rules.StoryDisks.{IsEmptyDisk, IsEmptyDiskFor, IsRunOn, none, one_more}
use Rattle.worker.specs.rules.StoryDisks.{story_medium}
use Rattle.worker.specs.LifeCalls.{LivesOnce, LeavesSome}
use Rattle.worker.specs.Endings.{EndsLife}
use Rattle.worker.specs.Going.{HasAllRoom, IsKeptOn, IsReportedOn, LivesOn, GoneOn}
use Rattle.worker_store.specs.restart_theorem.Successions.{promised_by_all}
use Rattle.worker.specs.Hearing.{hands_out, hears}
use Rattle.worker_store.proofs.RestartLemmas.FileLives.{zeros_are_blank}
use Rattle.worker.proofs.HeardLemmas.{said_so, heard_all}
use Rattle.worker.proofs.EndLemmas.{tells_end, next_finds, faults_as_planned, stopping_leaves_some}

-- ---- the empty disk

empty_is_blank : (sectors writes : ℕ) (disk : MemDisk) → IsEmptyDisk sectors writes disk
    → (image : DiskImage) → (memory_medium disk).crash_images image → IsBlank image
empty_is_blank sectors writes disk empty image leaves =
    let crashed : Leaves [] (replicate sectors (replicate SECTOR_SIZE 0)) image =
    subst (λ (s : MemoryState). Leaves s.pending s.durable image) empty leaves in
    subst (λ (i : DiskImage). IsBlank i) (sym crashed) (zeros_are_blank sectors)

empty_has_room : (bytes : List ℕ) (config : Settings) (disk : MemDisk)
    → IsEmptyDiskFor bytes config disk
    → HasAllRoom bytes config (memory_medium disk)
empty_has_room bytes config disk empty =
    let total : ℕ = total_sectors (geometry_of config (length bytes)) in
    let sectors : length disk.durable.items ≡ total =
    ap (λ (s : MemoryState). length s.durable) empty
    ∙ length-replicate total (replicate SECTOR_SIZE 0) in
    let most : ℕ = most_unsynced (geometry_of config (length bytes)) in
    let limit : disk.limit ≡ most = ap (λ (s : MemoryState). s.limit) empty in
    record {
      sectors = sym sectors;
      writes = subst (λ (n : ℕ). most ≤ n) (sym limit) (le_refl most);
    }

-- no life so far
none_has_gone : (bytes : List ℕ) (config : Settings) (disk : MemDisk)
    → (length bytes < 2 ^ 32 → IsEmptyDiskFor bytes config disk)
    → GoneOn bytes config [] [] disk
none_has_gone bytes config disk made m accepted =
    let few : length bytes ≤ 2097152 = accepted.limits.size in
    let empty = made (omega (arith, few)) in
    let blank = empty_is_blank (total_sectors (geometry_of config (length bytes)))
    (most_unsynced (geometry_of config (length bytes))) disk empty in
    record {
      lives = [];
      go_on = tt;
      told = tt;
      first = disk;
      empty = empty;
      run = none;
      few = tt;
      kept = record {
        keeps = λ image leaves. inl (refl, blank image leaves);
        within = λ image leaves.
            blank_is_within image 0 (memory_medium disk).sectors (blank image leaves);
        room = empty_has_room bytes config disk empty;
      };
    }

pub no_life_so_far : (bytes : List ℕ) (config : Settings) (reports : List LifeReport)
    (disk : MemDisk) → reports ≡ []
    → (length bytes < 2 ^ 32 → IsEmptyDiskFor bytes config disk)
    → GoneOn bytes config [] reports disk
no_life_so_far bytes config reports disk none_told made =
    subst (λ (r : List LifeReport). GoneOn bytes config [] r disk) (sym none_told)
    (none_has_gone bytes config disk made)

-- ---- one life more

module _ (m : Module) (config : Settings) where
  go_on_more : (so_far : Promise) (inputs : List Inputs) (lives : List Life) (one : Inputs)
      (life : Life) → GoOn m config so_far inputs lives
      → IsLived m config (promised_by_all so_far lives) one life
      → GoOn m config so_far (inputs ++ one ∷ []) (lives ++ life ∷ [])
  go_on_more so_far [] [] one life go_on lived = (lived, tt)
  go_on_more so_far [] (l ∷ lives) one life go_on lived = absurd go_on
  go_on_more so_far (i ∷ inputs) [] one life go_on lived = absurd go_on
  go_on_more so_far (i ∷ inputs) (l ∷ lives) one life go_on lived =
      (go_on.0, go_on_more (promised_by so_far l) inputs lives one life go_on.1 lived)

tells_more : (lives : List Life) (reports : List LifeReport) (life : Life) (report : LifeReport)
    → TellsEach lives reports → TellsLife life report
    → TellsEach (lives ++ life ∷ []) (reports ++ report ∷ [])
tells_more [] [] life report told one = (one, tt)
tells_more [] (r ∷ reports) life report told one = absurd told
tells_more (l ∷ lives) [] life report told one = absurd told
tells_more (l ∷ lives) (r ∷ reports) life report told one =
    (told.0, tells_more lives reports life report told.1 one)

few_more : (sectors : ℕ) (lives : List Life) (life : Life) → BeginFewCalls sectors lives
    → life.calls ≤ (length life.events + 1) * most_calls sectors
    → BeginFewCalls sectors (lives ++ life ∷ [])
few_more sectors [] life few one = (one, tt)
few_more sectors (l ∷ lives) life few one = (few.0, few_more sectors lives life few.1 one)

promised_more : (so_far : Promise) (lives : List Life) (life : Life)
    → promised_by_all so_far (lives ++ life ∷ []) ≡ promised_by (promised_by_all so_far lives) life
promised_more so_far [] life = refl
promised_more so_far (l ∷ lives) life = promised_more (promised_by so_far l) lives life

inputs_more : (planned : List PlannedLife) (one : PlannedLife)
    → map inputs_of (planned ++ one ∷ []) ≡ map inputs_of planned ++ inputs_of one ∷ []
inputs_more [] one = refl
inputs_more (p ∷ planned) one = ap (λ (l : List Inputs). inputs_of p ∷ l) (inputs_more planned one)

module _ (bytes : List ℕ) (config : Settings) (planned : List PlannedLife)
    (reports : List LifeReport) (found next : MemDisk) (one : PlannedLife) (report : LifeReport)
  where
    pub one_more_has_gone : GoneOn bytes config planned reports found
        → LivesOn bytes config one found report next
        → IsRunOn bytes config one report found next
        → GoneOn bytes config (planned ++ one ∷ []) (reports ++ report ∷ []) next
    one_more_has_gone so_far lives run m accepted =
        let gone = so_far m accepted in
        let promise : Promise = promised_by_all nothing_yet gone.lives in
        let on = lives m promise accepted gone.kept in
        let all : List Life = gone.lives ++ on.life ∷ [] in
        record {
          lives = all;
          go_on = subst (λ (i : List Inputs). GoOn m config nothing_yet i all)
              (sym (inputs_more planned one))
              (go_on_more m config nothing_yet (map inputs_of planned) gone.lives (inputs_of one)
              on.life gone.go_on on.lived);
          told = tells_more gone.lives reports on.life report gone.told on.told;
          first = gone.first;
          empty = gone.empty;
          run = one_more one report gone.run run;
          few = few_more (total_sectors (geometry_of config (length bytes))) gone.lives on.life
              gone.few on.few;
          kept = subst (λ (p : Promise). IsKeptOn m bytes config p next)
              (sym (promised_more nothing_yet gone.lives on.life)) on.kept;
        }

-- ---- one life

-- a life has begun few calls where its disk counts few more than none
few_of_all : (times : ℕ) (first last : CallCounts) (calls : ℕ) (sectors : DiskImage)
    → first ≡ record { reads = 0; writes = 0; syncs = 0 } → calls ≡ call_number last
    → call_number last ≤ call_number first + times * most_calls (length sectors)
    → calls ≤ times * most_calls (length sectors)
few_of_all times first last calls sectors none_begun counted few =
    below (call_number first) (call_number last) calls (times * most_calls (length sectors))
    (ap (λ (c : CallCounts). call_number c) none_begun) counted few
  where
    below : (a b c n : ℕ) → a ≡ 0 → c ≡ b → b ≤ a + n → c ≤ n
    below a b c n nothing same few = omega (arith, nothing, same, few)

over_by : (inputs : Inputs) (calls : ℕ) (ended : Result (Unit {0}) RecoverFault)
    → IsLifeOver inputs calls (undone_acts ended)
over_by inputs calls (Ok done) = tt
over_by inputs calls (Err why) = tt

opening_told : (begins begins' : Beginning) (shown shown' : Option Saved)
    (first second : Opening) → begins' ≡ begins → shown' ≡ shown → second ≡ first
    → TellsOpening begins shown first → TellsOpening begins' shown' second
opening_told begins begins' shown shown' first second b s o told =
    subst (λ (x : Beginning). TellsOpening x shown' second) (sym b)
    (subst (λ (x : Option Saved). TellsOpening begins x second) (sym s)
    (subst (λ (x : Opening). TellsOpening begins shown x) (sym o) told))

module _ (bytes : List ℕ) (config : Settings) (planned : PlannedLife) (found next : MemDisk)
    (report : LifeReport) (first last : FaultDisk MemDisk)
    (heard heard' : RefusingOutlet HeardLines)
    (answers_left : List Answer) (lived : LivedOnce) (below : first.inner ≡ found)
    (stop : first.stop ≡ planned.stop) (fail : first.fail ≡ planned.fail)
    (begun : call_counts_of first ≡ record { reads = 0; writes = 0; syncs = 0 })
    (unheard : (inner_outlet heard).lines ≡ [])
    (refuses : until_fault heard ≡ number_refused planned.refuse)
    (once : LivesOnce story_medium hands_out hears (recipe bytes config) (map act_of planned.acts)
    (surroundings first planned.answers heard) lived (surroundings last answers_left heard'))
    (ends : EndsLife lived last (inner_outlet heard') planned report next) (m : Module)
    (so_far : Promise) where
  calls_of : ℕ
  calls_of = call_number (call_counts_of last)

  met : (exchanges : List Exchange)
      → Exchanges hands_out hears planned.answers heard exchanges answers_left heard'
      → HasAllRoom bytes config (story_medium first)
      → CameTrue bytes config (inputs_of planned) exchanges (undone_acts lived.ended) calls_of
      (story_medium first) (story_medium last)
  unfolding calls_of
  met exchanges are room = record {
    foretold = subst (λ (n : ℕ). Foretell (map said_of planned.answers) (takes_but n) exchanges)
        refuses (said_so exchanges planned.answers answers_left heard heard' are.asked are.released
        ends.unrefused);
    sectors = (let all = room.sectors in omega (arith, all));
    room = room.writes;
    faults = λ later fell. faults_as_planned first last planned.stop planned.fail stop fail later
        fell;
    over = over_by (inputs_of planned) calls_of lived.ended;
  }

  -- what the law says of it
  told_so : (exchanges : List Exchange)
      → Exchanges hands_out hears planned.answers heard exchanges answers_left heard'
      → HasAllRoom bytes config (story_medium first)
      → KeepsPromise m config so_far (story_medium first)
      → KeepsBounds so_far.events (story_medium first) → (life : Life)
      → IsLifeOf (inputs_of planned) once.begins exchanges once.worker (undone_acts lived.ended)
      calls_of life
      → IsLivedOn m config so_far (inputs_of planned) life (story_medium first)
      (story_medium last)
      → IsLater (story_medium first) (story_medium last)
      → CallsForEvents (length life.events + 1) (story_medium first) (story_medium last)
      → IsReportedOn m bytes config planned so_far report next
  unfolding calls_of
  told_so exchanges are room keeps within life is lives later few =
      let all = lives keeps within in
      let told : TellsLifeEnd life.ends report.ended =
      subst (λ (e : LifeEnd). TellsLifeEnd life.ends e) (sym ends.ended)
      (tells_end (inputs_of planned) calls_of lived.ended ends.stopped life.ends ends.stops
      is.ends) in
      let finds = next_finds life.ends report.ended last.inner next told ends.behind in
      let promise : Promise = promised_by so_far life in
      let long = found_is_as_long memory_medium life.ends last.inner next finds in
      record {
        life = life;
        lived = all.0;
        told = record {
          opened = opening_told once.begins life.begins (shown_first once.worker)
              (opened_in life.events) lived.opened report.opened is.begins_so is.shown ends.opened
              once.told;
          releases = ends.releases ∙ heard_all exchanges heard heard' are.released ends.unrefused
              ∙ ap (λ (l : List NumberedLine). l ++ map told_line (released_in exchanges)) unheard
              ∙ ap (λ (l : List Release). map told_line l) (sym is.told);
          ended = told;
          calls = ends.calls ∙ sym is.counted;
        };
        few = subst (λ (n : ℕ). life.calls ≤ (length life.events + 1) * most_calls n)
            (sym room.sectors)
            (few_of_all (length life.events + 1) (call_counts_of first) (call_counts_of last)
            life.calls (first.inner.durable.items) begun is.counted few);
        kept = record {
          keeps = next_life_finds_it memory_medium m config promise life.ends last.inner next all.1
              finds;
          within = next_life_is_within memory_medium promise.events life.ends last.inner next all.2
              finds;
          room = record {
            sectors = subst (λ (n : ℕ). total_sectors (geometry_of config (length bytes)) ≡ n)
                (sym (long ∙ later.sectors)) room.sectors;
            writes = subst (λ (n : ℕ). most_unsynced (geometry_of config (length bytes)) ≤ n)
                (sym (ends.room ∙ later.room)) room.writes;
          };
        };
      }

  told_on : CallsMakeLives story_medium hands_out hears
      → IsAccepted offer config.pages bytes m → IsKeptOn m bytes config so_far first.inner
      → IsReportedOn m bytes config planned so_far report next
  told_on law accepted kept =
      let room : HasAllRoom bytes config (story_medium first) =
      record { sectors = kept.room.sectors; writes = kept.room.writes } in
      let made = law m config bytes so_far (map act_of planned.acts)
      (surroundings first planned.answers heard)
      (one_life once.begins once.worker (undone_acts lived.ended)
      (surroundings last answers_left heard')) accepted once.calls kept.keeps kept.within in
      let life = made.2 (inputs_of planned) calls_of refl (met made.0 made.1 room) in
      told_so made.0 made.1 room kept.keeps kept.within life.0 life.1 life.2 life.3 life.4

-- one life is told, whatever was promised before it
one_life_is_told : (bytes : List ℕ) (config : Settings) (planned : PlannedLife)
    (found next : MemDisk) (report : LifeReport) (first last : FaultDisk MemDisk)
    (heard heard' : RefusingOutlet HeardLines) (answers_left : List Answer) (lived : LivedOnce)
    → first.inner ≡ found → first.stop ≡ planned.stop → first.fail ≡ planned.fail
    → call_counts_of first ≡ record { reads = 0; writes = 0; syncs = 0 }
    → (inner_outlet heard).lines ≡ [] → until_fault heard ≡ number_refused planned.refuse
    → LivesOnce story_medium hands_out hears (recipe bytes config) (map act_of planned.acts)
    (surroundings first planned.answers heard) lived (surroundings last answers_left heard')
    → EndsLife lived last (inner_outlet heard') planned report next
    → CallsMakeLives story_medium hands_out hears
    → LivesOn bytes config planned found report next
one_life_is_told bytes config planned found next report first last heard heard'
    answers_left lived below stop fail begun unheard refuses once ends law m so_far accepted kept =
    told_on bytes config planned found next report first last heard heard' answers_left
    lived below stop fail begun unheard refuses once ends m so_far law accepted
    (subst (λ (d : MemDisk). IsKeptOn m bytes config so_far d) (sym below) kept)

pub ended_lives_are_told : (bytes : List ℕ) (config : Settings) (planned : PlannedLife)
    (found : MemDisk) (first last : FaultDisk MemDisk)
    (heard heard' : RefusingOutlet HeardLines)
    (answers_left answers : List Answer) (acts : List PlannedAct) (lived : LivedOnce)
    (result : Result LivedOn StoryFault) → first.inner ≡ found → first.stop ≡ planned.stop
    → first.fail ≡ planned.fail → call_counts_of first ≡ record { reads = 0; writes = 0; syncs = 0 }
    → (inner_outlet heard).lines ≡ [] → until_fault heard ≡ number_refused planned.refuse
    → answers ≡ planned.answers → acts ≡ planned.acts
    → (LeavesSome story_medium → LivesOnce story_medium hands_out hears (recipe bytes config)
    (map act_of acts) (surroundings first answers heard) lived
    (surroundings last answers_left heard'))
    → IfOk result (λ on. EndsLife lived last (inner_outlet heard') planned on.report on.disk)
    → CallsMakeLives story_medium hands_out hears
    → IfOk result (λ on. LivesOn bytes config planned found on.report on.disk)
ended_lives_are_told bytes config planned found first last heard heard' answers_left
    answers acts lived (Ok on) below stop fail begun unheard refuses answers_are acts_are
    once ends law = one_life_is_told bytes config planned found on.disk on.report first last heard
    heard' answers_left
    lived below stop fail begun unheard refuses
    (subst (λ (a : List Answer). LivesOnce story_medium hands_out hears (recipe bytes config)
    (map act_of planned.acts) (surroundings first a heard) lived
    (surroundings last answers_left heard')) answers_are
    (subst (λ (a : List PlannedAct). LivesOnce story_medium hands_out hears (recipe bytes config)
    (map act_of a) (surroundings first answers heard) lived (surroundings last answers_left heard'))
    acts_are (once stopping_leaves_some))) ends law
ended_lives_are_told bytes config planned found first last heard heard' answers_left
    answers acts lived (Err why) below stop fail begun unheard refuses answers_are acts_are
    once ends law = tt
