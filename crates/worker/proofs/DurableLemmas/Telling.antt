-- Lines that may be told: of an act that is under way, or behind the last question of a batch.
use Rattle.std.proofs.Common.{◌≡◌, ℕ, suc, List, ◌∷◌, ◌++◌, length, drop, refl, sym, ◌∙◌}
use Rattle.std.proofs.Common.{subst, inl, inr, Some, ◌≤◌}
use Rattle.wasm_syntax.specs.declared.module.Module.{Module}
use Rattle.wasi_abi.specs.rules.Configs.{Settings}
use Rattle.wasi_calls_rules.specs.WasiStates.{Line}
use Rattle.process_rules.specs.Processes.{ProcessState, Guest}
use Rattle.process.specs.rules.Values.{ShowsProcess}
use Rattle.sector_disk.specs.rules.Medium.{Medium}
use Rattle.state_image.specs.rules.Saving.{saved_of}
use Rattle.record_replay.specs.rules.Calls.{Begun, all_taken, last_refused}
use Rattle.worker_store.specs.restart_theorem.Lives.{Act, Batch, Fails, OfDisk, OfOutlet}
use Rattle.worker_store.specs.restart_theorem.Courses.{Stage, Phase, Open, Broken, HasLastAsked}
use Rattle.worker_store.specs.restart_theorem.Courses.{IsInBatch}
use Rattle.worker_store.specs.restart_theorem.Promises.{Promise, IsEnding}
use Rattle.worker_store.specs.laws.Underway.{IsUnderWay, IsBroken, IsInItsSlice, standstill}
use Rattle.worker_store.specs.laws.Telling.{ArePerformed}
use Rattle.worker_store.specs.rules.BetweenCalls.{IsForetold}
use Rattle.worker_store.proofs.LawLemmas.AtHand.{shown_is_saved}
use Rattle.worker_store.proofs.LawLemmas.CallEnds.{late_faults_end}
use Rattle.worker_store.proofs.LawLemmas.Telling.{all_lines_are_told, lines_are_told_in_vain}
use Rattle.worker_store.proofs.LawLemmas.Telling.{rest_is_told, rest_is_told_in_vain}
use Rattle.worker_store.proofs.LawLemmas.Underway.{among_first, left_is_broken}
use Rattle.worker.specs.declared.running_worker.RunningWorker.{RunningWorker}
use Rattle.worker.specs.DurableTurns.{Course, Running, IsWithinAct, IsRunningOn, running_on}
use Rattle.worker.specs.DurableTurns.{told_lines_of}
use Rattle.worker.specs.BatchTurns.{IsTellingOn, MayTell}
use Rattle.worker.proofs.DurableLemmas.Ends.{failed_end}

-- ---- one that runs may tell

-- one that is within an act in one way is so in another one, which follows
within_so : {May Other : Module → Settings → Guest → Promise → Stage → Act → ℕ → ProcessState
    → Type 0} {c : Course} {promise : Promise} {stage : Stage} {p : ProcessState}
    {step latest : ℕ} {here : Running} → IsWithinAct May c promise stage p step latest here
    → ((told : ℕ) → May c.code c.config c.guest promise stage c.act told p
    → Other c.code c.config c.guest promise stage c.act told p)
    → IsWithinAct Other c promise stage p step latest here
within_so within other = record {
  opened = within.opened;
  texts = within.texts;
  shows = within.shows;
  module_is = within.module_is;
  told = within.told;
  counted = within.counted;
  queued = within.queued;
  way = other within.told within.way;
  began = within.began;
  on_disk = within.on_disk;
  synced = within.synced;
  abreast = within.abreast;
}

pub telling_of : (c : Course) (promise : Promise) (stage : Stage) (p : ProcessState)
    (step latest : ℕ) (lines_held : List Begun) (w : RunningWorker) (disk : Medium)
    → IsRunningOn c promise stage p step latest (running_on lines_held w disk)
    → IsTellingOn c promise stage p step latest (running_on lines_held w disk)
telling_of c promise stage p step latest lines_held w disk running =
    within_so running (λ told way. inl way)

not_last : (phase : Phase) → phase ≡ Open → HasLastAsked phase → ⊥
not_last phase is asked = subst HasLastAsked is asked

-- where no question has ended it, it is under way
pub way_of : (c : Course) (promise : Promise) (stage : Stage) (p : ProcessState) (told : ℕ)
    → stage.phase ≡ Open → MayTell c.code c.config c.guest promise stage c.act told p
    → IsUnderWay c.code c.config c.guest promise stage c.act told p
way_of c promise stage p told is (inl way) = way
way_of c promise stage p told is (inr left) = absurd (not_last stage.phase is left.asked)

pub running_of : (c : Course) (promise : Promise) (stage : Stage) (p : ProcessState)
    (step latest : ℕ) (lines_held : List Begun) (w : RunningWorker) (disk : Medium)
    → stage.phase ≡ Open → IsTellingOn c promise stage p step latest (running_on lines_held w disk)
    → IsRunningOn c promise stage p step latest (running_on lines_held w disk)
running_of c promise stage p step latest lines_held w disk is telling =
    within_so telling (λ told. way_of c promise stage p told is)

-- a batch is in a batch
pub in_batch : (stage : Stage) (act : Act) (acts : List Act) (fuel most : ℕ)
    → stage.acts ≡ act ∷ acts → act ≡ Batch fuel most → IsInBatch stage.acts
in_batch stage act acts fuel most next is =
    subst IsInBatch (sym next) (subst (λ (a : Act). IsInBatch (a ∷ acts)) (sym is) tt)

module _ (c : Course) (promise : Promise) (stage : Stage) (p : ProcessState) (told : ℕ) where
  -- what both have
  pub record IsToldUpTo : Type 0 where
    pub in_slice : IsInItsSlice c.code c.config c.guest promise stage c.act
        (length promise.kept) p
    pub line : stage.line ≡ Some told
    pub heard : told ≤ promise.heard
    pub passed : promise.passed ≤ told

  pub told_up_to : MayTell c.code c.config c.guest promise stage c.act told p → IsToldUpTo
  told_up_to (inl way) = record {
    in_slice = way.in_slice;
    line = way.line;
    heard = way.heard;
    passed = way.passed;
  }
  told_up_to (inr left) = record {
    in_slice = left.in_slice;
    line = left.line;
    heard = left.heard;
    passed = left.passed;
  }

  -- what is under way, or has lines left, is where it was
  pub broken_there : MayTell c.code c.config c.guest promise stage c.act told p
      → IsBroken c.code c.config c.guest promise stage c.act
      (standstill (length promise.kept) p stage.phase)
  broken_there (inl way) = record {
    in_slice = way.in_slice;
    is = refl;
    told = among_first stage.line told (length p.host.lines) way.line way.emitted;
  }
  broken_there (inr left) =
      left_is_broken c.code c.config c.guest promise stage c.act told p left

  -- ---- an end by the disk

  pub disk_ends : (w : RunningWorker)
      → MayTell c.code c.config c.guest promise stage c.act told p
      → ShowsProcess w.process c.guest p → w.process.machine.guest ≡ c.code
      → IsEnding c.code c.config promise stage (record {
        act = c.act;
        reply = Fails OfDisk;
        held = length promise.kept;
        shown = saved_of w.process;
      })
  disk_ends w (inl way) shows module_is =
      failed_end c promise stage p w Open (length promise.kept) OfDisk (record {
        in_slice = way.in_slice;
        is = way.is_open;
        told = among_first stage.line told (length p.host.lines) way.line way.emitted;
      }) shows module_is tt tt
  disk_ends w (inr left) shows module_is =
      late_faults_end c.code c.config c.guest promise stage c.act (length promise.kept) p
      (saved_of w.process) (left_is_broken c.code c.config c.guest promise stage c.act told p left)
      (shown_is_saved c.code c.config c.guest w.process p shows module_is) left.batch left.asked

  -- ---- lines

  -- where they lead that are told
  pub record AreTold (begun : List Begun) : Type 0 where
    pub made : ArePerformed c.code c.config promise stage (length p.host.lines)
        (told_lines_of begun)
    pub may : MayTell c.code c.config c.guest made.promise' made.stage' c.act
        (length p.host.lines) p
    pub phase : made.stage'.phase ≡ stage.phase

  all_told : (lines : List Line) → MayTell c.code c.config c.guest promise stage c.act told p
      → drop told p.host.lines ≡ lines
      → IsForetold stage (told_lines_of (all_taken (suc told) lines))
      → AreTold (all_taken (suc told) lines)
  all_told lines (inl way) are foretold =
      let r = all_lines_are_told c.code c.config c.guest promise stage c.act told p lines way are
      foretold in
      record {
        made = r.0;
        may = inl r.1;
        phase = (let now = r.1 in now.is_open ∙ sym way.is_open);
      }
  all_told lines (inr left) are foretold =
      let r = rest_is_told c.code c.config c.guest promise stage c.act told p lines left are
      foretold in
      record { made = r.0; may = inr r.1; phase = r.2 }

  pub told_so : (begun : List Begun) → begun ≡ all_taken (suc told) (drop told p.host.lines)
      → MayTell c.code c.config c.guest promise stage c.act told p
      → IsForetold stage (told_lines_of begun) → AreTold begun
  told_so begun is may foretold =
      subst AreTold (sym is) (all_told (drop told p.host.lines) may refl
      (subst (λ (z : List Begun). IsForetold stage (told_lines_of z)) is foretold))

  -- where they lead of which one is refused
  pub record AreRefused (begun : List Begun) : Type 0 where
    pub made : ArePerformed c.code c.config promise stage (length p.host.lines)
        (told_lines_of begun)
    pub broken : IsBroken c.code c.config c.guest made.promise' made.stage' c.act
        (standstill (length promise.kept) p (Broken OfOutlet))

  one_refused : (first others : List Line) (line : Line)
      → MayTell c.code c.config c.guest promise stage c.act told p
      → drop told p.host.lines ≡ first ++ (line ∷ others)
      → IsForetold stage (told_lines_of (last_refused (suc told) first line))
      → AreRefused (last_refused (suc told) first line)
  one_refused first others line (inl way) are foretold =
      let r = lines_are_told_in_vain c.code c.config c.guest promise stage c.act told p first
      others line way are foretold in
      record { made = r.0; broken = r.1 }
  one_refused first others line (inr left) are foretold =
      let r = rest_is_told_in_vain c.code c.config c.guest promise stage c.act told p first others
      line left are foretold in
      record { made = r.0; broken = r.1 }

  pub refused_so : (begun : List Begun) (first others : List Line) (line : Line)
      → begun ≡ last_refused (suc told) first line
      → MayTell c.code c.config c.guest promise stage c.act told p
      → drop told p.host.lines ≡ first ++ (line ∷ others)
      → IsForetold stage (told_lines_of begun) → AreRefused begun
  refused_so begun first others line is may are foretold =
      subst AreRefused (sym is) (one_refused first others line may are
      (subst (λ (z : List Begun). IsForetold stage (told_lines_of z)) is foretold))
