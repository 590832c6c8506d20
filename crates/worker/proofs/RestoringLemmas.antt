-- The process of a savepoint, made again of the bytes of its module and of its image.
use Rattle.std.proofs.Common.{◌≡◌, ◌≢◌, ℕ, ◌+◌, ◌<◌, ◌≤◌, ◌^◌, List, Bool, true, false, refl, sym}
use Rattle.std.proofs.Common.{ap, ◌∙◌, subst, arith}
use Rattle.std.specs.Prelude.{Result, Err, Vec}
use Rattle.std.specs.declared.alloc.Global.{Global}
use Rattle.guest_memory.proofs.Lists.{all_with}
use Rattle.wasm_syntax.specs.declared.module.Module.{Module}
use Rattle.wasm_syntax.specs.rules.Modules.{IsModule}
use Rattle.wasm_syntax.proofs.Grammar.Exact.{some_is}
use Rattle.wasm_syntax.proofs.Grammar.Whole.{module_complete}
use Rattle.wasi_abi.specs.declared.version.Version.{Version}
use Rattle.wasi_abi.specs.rules.Answers.{AreBytes}
use Rattle.wasi_abi.specs.rules.Configs.{Settings, IsText, IsEnvironmentEntry}
use Rattle.wasi_abi.specs.rules.Configs.{AreSettingsWithinLimits}
use Rattle.wasi_calls_rules.specs.laws.Laws.{IsOfBytes}
use Rattle.process_rules.specs.Processes.{ProcessState, host_of}
use Rattle.process_rules.proofs.Growing.{runs_count}
use Rattle.machine.specs.rules.Values.{MachineValue}
use Rattle.machine.specs.rules.Runs.{HasBegun}
use Rattle.machine.specs.declared.from_bytes.fault.ModuleFault.{ModuleFault}
use Rattle.machine.specs.rules.Acceptance.{Accepts, ModuleFaultDenies, HasNoAcceptedModule, is_want}
use Rattle.machine.proofs.Wants.{no_want}
use Rattle.sector_disk.specs.rules.DiskImage.{DiskImage}
use Rattle.disk_layout.specs.declared.reading.contents.Contents.{Contents}
use Rattle.disk_layout.specs.rules.Journal.{Record}
use Rattle.process.specs.rules.Values.{ProcessValue, ShowsProcess, IsProcess}
use Rattle.state_image.specs.declared.restoring.fault.RestoreFault.{RestoreFault}
use Rattle.state_image.specs.declared.restoring.fault.RestoreFault.TheVariants as restore
use Rattle.state_image.specs.laws.Laws.{RestoredShowsReached}
use Rattle.state_image.specs.rules.ProcessImage.{Saved, process_image}
use Rattle.state_image.specs.rules.Restored.{IsRestored}
use Rattle.state_image.specs.rules.Saving.{saved_of}
use Rattle.state_image.specs.rules.WellTyped.{IsWellTyped}
use Rattle.state_image.proofs.ReachedWellTyped.{reached_is_well_typed}
use Rattle.worker_store.specs.restart_theorem.Stands.{IsNumbered}
use Rattle.worker_store.proofs.RestartLemmas.NumbersKept.{records_keep_numbers}
use Rattle.worker_store.specs.rules.Savepoints.{Savepoint, IsAtSavepoint}
use Rattle.worker.specs.declared.recover_fault.RecoverFault.TheVariants as recover
use Rattle.worker.specs.rules.Recoveries.{SaysNothing}
use Rattle.worker.specs.Findings.{IsContentOf, IsFoundAt}

abbrev pub unrestored : RestoreFault → Result ProcessValue RestoreFault
unrestored fault = Err fault

-- ---- a savepoint

pub few_pages : (pages : ℕ) → pages ≤ 256 → pages ≤ 2 ^ 16
few_pages pages few = omega (arith, few)

fewer_steps : (a b c : ℕ) → c ≡ a + b → c < 2 ^ 63 → b < 2 ^ 63
fewer_steps a b c is small = omega (arith, is, small)

-- what a host begins with is of bytes, since the texts of a configuration are
begins_of_bytes : (config : Settings) → AreSettingsWithinLimits config → IsOfBytes (host_of config)
begins_of_bytes config limits =
    let texts = limits.texts in
    record {
      files = (record { path = tt; content = tt }, tt);
      unread = tt;
      arguments = all_with IsText IsText AreBytes config.arguments (λ text is _. is.are_bytes)
          texts.arguments texts.arguments;
      environment = all_with IsEnvironmentEntry IsEnvironmentEntry AreBytes config.environment
          (λ text is _. is.0.are_bytes) texts.environment texts.environment;
    }

module _ {m : Module} {config : Settings} {point : Savepoint m config} {records : List Record}
    {last : ProcessState} {disk : DiskImage} (at : IsAtSavepoint point records last disk) where
  its_texts : IsOfBytes (host_of config)
  its_texts = begins_of_bytes config point.settings

  few : config.pages ≤ 2 ^ 16
  few = let within = point.settings in let range = within.in_range in
      let pages = range.pages in few_pages config.pages pages.1

  -- the saved process has its numbers, since the last one has
  numbers : IsNumbered point.process
  numbers = records_keep_numbers point.reached.guest point.process last records at.recorded
      at.numbers

  small : point.steps < 2 ^ 63
  small = let reached = point.reached in
      fewer_steps reached.start.steps point.steps point.process.steps
      (runs_count reached.guest reached.start point.process point.front point.steps reached.runs)
      numbers.steps

  -- its image is an accepted one
  typed_point : IsWellTyped m config point.saved
  typed_point =
      reached_is_well_typed point.wasm m config point.functions point.front point.steps
      point.process point.table point.saved point.accepted few its_texts point.reached small
      numbers.lines point.function_types point.shown

  -- what is restored of it is its process
  restored_point : RestoredShowsReached → (v : ProcessValue)
      → IsRestored m config (process_image point.saved) v
      → (saved_of v ≡ point.saved) × ShowsProcess v point.reached.guest point.process
  restored_point law v restored =
      law point.wasm m config point.functions point.front point.steps
      point.process point.table point.saved v point.accepted few its_texts point.reached small
      numbers.lines point.function_types point.shown restored

-- ---- the module

-- the same bytes spell one module
one_module : (bytes : List ℕ) (m n : Module) → IsModule bytes m → IsModule bytes n → m ≡ n
one_module bytes m n is_m is_n =
    some_is m n (sym (module_complete bytes m is_m) ∙ module_complete bytes n is_n)

-- the machine is linked under the pages of its configuration
pub begun_machine : (config : Settings) (pages : ℕ) (wasm : List ℕ) (machine : MachineValue)
    → pages ≡ config.pages → Accepts pages wasm machine
    → HasBegun config.pages machine.guest machine
begun_machine config pages wasm machine same accepts =
    let begun = accepts.begun in
    subst (λ n. HasBegun n machine.guest machine) same
    (subst (λ (m : Module). HasBegun pages m machine) (sym begun.guest) begun)

-- ---- what was read where a savepoint is

module _ {m : Module} {config : Settings} {point : Savepoint m config} {records : List Record}
    {last : ProcessState} {disk : DiskImage} (at : IsAtSavepoint point records last disk)
    (contents : Contents) (content : IsContentOf point contents) (pages : ℕ) (wasm : List ℕ)
    (same_pages : pages ≡ contents.config.pages) (same_wasm : wasm ≡ contents.wasm) where
  its_wasm : contents.wasm ≡ point.wasm
  its_wasm = ap (λ (c : Contents). c.wasm) content

  its_config : contents.config ≡ config
  its_config = ap (λ (c : Contents). c.config) content

  -- a refused module is that of no savepoint
  refused_by : (fault : ModuleFault) → ModuleFaultDenies fault (HasNoAcceptedModule pages wasm)
      → (want : Bool) → is_want fault ≡ want → SaysNothing (recover.Module fault)
  refused_by fault denies true is = is
  refused_by fault denies false is =
      absurd (subst (λ n. HasNoAcceptedModule n point.wasm)
      (same_pages ∙ ap (λ (s : Settings). s.pages) its_config)
      (subst (λ (w : List ℕ). HasNoAcceptedModule pages w) (same_wasm ∙ its_wasm)
      (no_want fault (HasNoAcceptedModule pages wasm) is denies)) m point.accepted)

  pub unaccepted : (fault : ModuleFault) → ModuleFaultDenies fault (HasNoAcceptedModule pages wasm)
      → SaysNothing (recover.Module fault)
  unaccepted fault denies = refused_by fault denies (is_want fault) refl

  module _ (machine : MachineValue) (accepts : Accepts pages wasm machine) (bytes : List ℕ)
      (same_bytes : bytes ≡ process_image point.saved) where
    -- the machine is of the savepoint's module
    linked : machine.guest ≡ m
    linked =
        let begun = accepts.begun in
        let accepted = accepts.accepted in
        let is_accepted = point.accepted in
        begun.guest
        ∙ one_module point.wasm accepts.spelled m
        (subst (λ (w : List ℕ). IsModule w accepts.spelled) (same_wasm ∙ its_wasm)
        accepted.spelled)
        is_accepted.spelled

    -- no other image is that of a savepoint
    pub unmade : (fault : RestoreFault)
        → (unrestored fault ≡ Err restore.NotAnImage → (s : Saved)
        → IsWellTyped machine.guest contents.config s → bytes ≢ process_image s)
        → SaysNothing (recover.ProcessImage fault)
    unmade restore.Memory refused = tt
    unmade restore.NotAnImage refused =
        absurd (refused refl point.saved
        (subst (λ (s : Settings). IsWellTyped machine.guest s point.saved) (sym its_config)
        (subst (λ (z : Module). IsWellTyped z config point.saved) (sym linked)
        (typed_point at))) same_bytes)

    -- its process was made again
    module _ (law : RestoredShowsReached) (v : ProcessValue)
        (restored : IsRestored machine.guest contents.config bytes v) where
      again : (saved_of v ≡ point.saved) × ShowsProcess v point.reached.guest point.process
      again =
          let one = subst (λ (b : List ℕ). IsRestored machine.guest contents.config b v)
          same_bytes restored in
          let two = subst (λ (s : Settings). IsRestored machine.guest s
          (process_image point.saved) v) its_config one in
          restored_point at law v
          (subst (λ (z : Module). IsRestored z config (process_image point.saved) v) linked two)

      pub its_version : (known : Version) → known ≡ (saved_of v).version
          → known ≡ point.saved.version
      its_version known same = same ∙ ap (λ (s : Saved). s.version) again.0

      -- and its records were read
      pub found_at : (generation : ℕ) → generation ≡ point.generation → (image : List ℕ)
          (read : Vec Record Global) → read.items ≡ records → IsProcess v
          → IsFoundAt contents.wasm point records (record {
            geometry = contents.geometry;
            generation = generation;
            process_image = image;
            process = v;
            records = read;
          })
      found_at generation numbered image read are some = record {
        spelled = sym its_wasm;
        geometry = ap (λ (c : Contents). c.geometry) content;
        generation = numbered;
        records_are = are;
        saved = again.0;
        shows = again.1;
        module_is = restored.guest ∙ linked;
        some = some;
        none_waits = restored.none_waits;
        texts = its_texts at;
      }
