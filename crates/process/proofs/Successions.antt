-- A process that goes on from what another one has left.
use Rattle.std.proofs.Common.{◌≡◌, ℕ, ◌+◌, ◌*◌, ◌≤◌, List, [], ◌∷◌, ◌++◌, length}
use Rattle.std.proofs.Common.{refl, sym, ap, ◌∙◌, subst, arith}
use Rattle.std.specs.List.{AllByRecursion}
use Rattle.std.proofs.lemmas.List.{append-nil}
use Rattle.wasm_syntax.specs.declared.module.Module.{Module}
use Rattle.wasm_rules.specs.Configuration.{Thread}
use Rattle.wasi_abi.specs.declared.version.Version.{Version}
use Rattle.wasi_abi.specs.declared.version.Version.TheVariants.{One, Two}
use Rattle.wasi_abi.specs.rules.Answers.{IsTime}
use Rattle.wasi_abi.specs.rules.Configs.{Settings}
use Rattle.file_tree.specs.declared.limits.TheConstants.{UNIT_BYTES}
use Rattle.file_tree.specs.rules.Files.{Files, IsFiles, used, only_named}
use Rattle.wasi_calls_rules.specs.WasiStates.{Line, WasiState, first_descriptors}
use Rattle.wasi_calls_rules.specs.Lines.{lines_ended}
use Rattle.wasi_calls_rules.specs.laws.Laws.{IsNodeOfBytes}
use Rattle.wasi_calls.specs.rules.Held.{ShowsWasiState, held_succeeding}
use Rattle.process_rules.specs.Processes.{ProcessState, Guest, IsStart, host_of, closed_at}
use Rattle.process_rules.specs.Origins.{Origin, IsOrigin, succeeding}
use Rattle.process_rules.specs.laws.Laws.{in_version}
use Rattle.process_rules.proofs.ReachedStates.{beginning}
use Rattle.process_rules.proofs.Succeeding.{each_may_succeed}
use Rattle.process.specs.Successions.{widened_to, value_succeeding}
use Rattle.process.specs.rules.Legacies.{LegacyValue, legacy_of, IsLegacy, HasSucceeded}
use Rattle.process.specs.rules.Values.{ProcessValue, ShowsProcess, IsProcess, HasStarted}
use Rattle.process.specs.rules.Values.{waiting_in}
use Rattle.process.proofs.Widening.{shows_widened, is_widened}

-- ---- origins

-- all but the lines is the same
record IsAlike (a b : Origin) : Type 0 where
  files : a.files ≡ b.files
  steps : a.steps ≡ b.steps
  answers : a.answers ≡ b.answers
  requests : a.requests ≡ b.requests
  last_monotonic : a.last_monotonic ≡ b.last_monotonic

alike_origin : (room more : ℕ) (a b : Origin) → IsAlike a b → used b.files ≤ more
    → IsOrigin room a → IsOrigin more b
alike_origin room more a b same within h =
    let number : a.files.next ≡ b.files.next = ap (λ (fs : Files). fs.next) same.files in
    let steps = same.steps in
    let answers = same.answers in
    let requests = same.requests in
    let some_steps = h.some_steps in
    let next = h.next in
    let few_answers = h.answers in
    let few_requests = h.requests in
    record {
      files = subst IsFiles same.files h.files;
      of_bytes = subst (λ (fs : Files). AllByRecursion IsNodeOfBytes fs.nodes) same.files
          h.of_bytes;
      named = subst (λ (fs : Files). only_named fs ≡ fs) same.files h.named;
      within = within;
      some_steps = omega (arith, steps, some_steps);
      next = omega (arith, steps, number, next);
      answers = omega (arith, steps, answers, few_answers);
      requests = omega (arith, answers, requests, few_requests);
      time = subst IsTime same.last_monotonic h.time;
    }

-- ---- the start

start_host : (m : Module) (config : Settings) (guest : Guest) (p : ProcessState)
    → IsStart m config guest p → p.host ≡ host_of config
start_host m config guest p s =
    ap (λ (z : ProcessState). z.host) s.is ∙ closed_host s.first.thread s.first.later where
      closed_host : (thread : Thread) (later : List ℕ)
          → (closed_at thread later (beginning s.first config)).host ≡ host_of config
      closed_host [] [] = refl
      closed_host [] (f ∷ later) = refl
      closed_host (frame ∷ frames) [] = refl
      closed_host (frame ∷ frames) (f ∷ later) = refl

-- what is held of the first host is that host
held_first : (m : Module) (config : Settings) (v : ProcessValue) → HasStarted m config v
    → v.host.host ≡ host_of config
held_first m config v started =
    let first = started.first in
    let shows = started.shows started.first_guest first started.is_first in
    let is = sym (start_host m config started.first_guest first started.is_first)
    ∙ shows.host.is in
    ap (λ (ls : List Line). record v.host.host { lines = ls }) started.none_waits
    ∙ sym (ap (λ (h : WasiState). record h { lines = [] }) is)

-- the value before it is widened
abbrev narrow_succeeding : LegacyValue → ProcessValue → ProcessValue
narrow_succeeding left v = record v {
  host = held_succeeding left.files left.last_monotonic left.lines v.host;
  steps = left.steps;
  answers = left.answers;
  requests = left.requests;
}

module _ (m : Module) (config : Settings) (v : ProcessValue) (started : HasStarted m config v)
    (left : LegacyValue) (legacy : IsLegacy left) (room : used left.files
    ≤ config.files * UNIT_BYTES) where
  is_first : v.host.host ≡ host_of config
  is_first = held_first m config v started

  pub opened : v.host.host.descriptors ≡ first_descriptors
  opened = ap (λ (h : WasiState). h.descriptors) is_first

  pub has_room : used left.files ≤ v.host.host.room
  has_room = subst (λ (n : ℕ). used left.files ≤ n)
      (sym (ap (λ (h : WasiState). h.room) is_first)) room

  pub narrow : v.host.host.version ≡ One
  narrow = ap (λ (h : WasiState). h.version) is_first

  origin_left : (version : Version) (o : Origin) → left ≡ legacy_of version o
      → IsOrigin (host_of config).room o
  origin_left version o e =
      let same : legacy_of left.version legacy.origin ≡ legacy_of version o = sym legacy.is ∙ e in
      alike_origin (used left.files) (config.files * UNIT_BYTES) legacy.origin o (record {
        files = ap (λ (l : LegacyValue). l.files) same;
        steps = ap (λ (l : LegacyValue). l.steps) same;
        answers = ap (λ (l : LegacyValue). l.answers) same;
        requests = ap (λ (l : LegacyValue). l.requests) same;
        last_monotonic = ap (λ (l : LegacyValue). l.last_monotonic) same;
      }) (subst (λ (l : LegacyValue). used l.files ≤ config.files * UNIT_BYTES) e room)
      legacy.is_origin

  -- ---- what is shown

  shown : ShowsProcess v started.first_guest started.first
  shown = started.shows started.first_guest started.first started.is_first

  -- the host of the rules with what was left
  abbrev host_left : Origin → WasiState → List Line → WasiState
  host_left o h ls =
      record h { files = o.files; lines = ls; last_monotonic = o.last_monotonic }

  host_shown : (version : Version) (o : Origin)
      → ShowsWasiState (narrow_succeeding (legacy_of version o) v).host
      (succeeding o started.first).host
  host_shown version o = record {
    before = o.lines;
    count = refl;
    is = ap (λ (h : WasiState). host_left o h o.lines)
        (start_host m config started.first_guest started.first started.is_first ∙ sym is_first)
        ∙ ap (λ (ls : List Line). host_left o v.host.host ls)
        (sym (append-nil o.lines) ∙ ap (λ (ls : List Line). o.lines ++ ls)
        (sym started.none_waits));
  }

  shows_narrow : (version : Version) (o : Origin)
      → ShowsProcess (narrow_succeeding (legacy_of version o) v) started.first_guest
      (succeeding o started.first)
  shows_narrow version o = record {
    calls = shown.calls;
    configuration = shown.configuration;
    host = host_shown version o;
    steps = refl;
    answers = refl;
    requests = refl;
    ended = shown.ended;
    closed = shown.closed;
  }

  shows_in : (version : Version) (value : ProcessValue) (p : ProcessState)
      → ShowsProcess value started.first_guest p
      → ShowsProcess (widened_to version value) started.first_guest (in_version version p)
  shows_in One value p shows = shows
  shows_in Two value p shows = shows_widened value started.first_guest p shows

  shows_succeeding : (version : Version) (o : Origin) → left ≡ legacy_of version o
      → ShowsProcess (value_succeeding left v) started.first_guest
      (in_version version (succeeding o started.first))
  shows_succeeding version o e =
      subst (λ (l : LegacyValue). ShowsProcess (value_succeeding l v) started.first_guest
      (in_version version (succeeding o started.first))) (sym e)
      (shows_in version (narrow_succeeding (legacy_of version o) v) (succeeding o started.first)
      (shows_narrow version o))

  same_guest : (version : Version) (value : ProcessValue) → value.machine.guest ≡ m
      → (widened_to version value).machine.guest ≡ m
  same_guest One value e = e
  same_guest Two value e = e

  same_lines : (version : Version) (value : ProcessValue) → waiting_in value ≡ []
      → waiting_in (widened_to version value) ≡ []
  same_lines One value e = e
  same_lines Two value e = e

  pub has_succeeded : HasSucceeded m config left (value_succeeding left v)
  has_succeeded = record {
    linkable = started.linkable;
    guest = same_guest left.version (narrow_succeeding left v) started.guest;
    none_waits = same_lines left.version (narrow_succeeding left v) started.none_waits;
    shows = λ version o e. (
      in_version version (succeeding o started.first),
      record {
        guest = started.first_guest;
        start = started.first;
        begins = started.is_first;
        runs = each_may_succeed m config started.first_guest started.first version o
            started.is_first (origin_left version o e);
      },
      shows_succeeding version o e,
    );
  }

  -- ---- it is a process

  none_more : (h : WasiState) → h ≡ host_of config → length (lines_ended (record h {
    files = left.files;
    last_monotonic = left.last_monotonic;
  })).lines ≡ 0
  none_more h e =
      subst (λ (z : WasiState). length (lines_ended (record z {
        files = left.files;
        last_monotonic = left.last_monotonic;
      })).lines ≡ 0) (sym e) refl

  pub is_narrow_process : IsProcess (narrow_succeeding left v)
  is_narrow_process =
      let o = legacy.origin in
      let steps : left.steps ≡ o.steps = ap (λ (l : LegacyValue). l.steps) legacy.is in
      let answers : left.answers ≡ o.answers = ap (λ (l : LegacyValue). l.answers) legacy.is in
      let requests : left.requests ≡ o.requests = ap (λ (l : LegacyValue). l.requests) legacy.is
      in
      let few_answers = legacy.is_origin.answers in
      let few_requests = legacy.is_origin.requests in
      let few_lines = legacy.few_lines in
      let none = none_more v.host.host is_first in
      record {
        guest = started.first_guest;
        process = succeeding o started.first;
        shows = subst (λ (l : LegacyValue). ShowsProcess (narrow_succeeding l v)
            started.first_guest (succeeding o started.first)) (sym legacy.is)
            (shows_narrow left.version o);
        few_steps = legacy.few_steps;
        few_answers = omega (arith, steps, answers, few_answers);
        few_requests = omega (arith, answers, requests, few_requests);
        few_lines = omega (arith, few_lines, none);
      }

  in_its_version : (version : Version) (value : ProcessValue) → value.host.host.version ≡ One
      → IsProcess value → IsProcess (widened_to version value)
  in_its_version One value was_narrow is = is
  in_its_version Two value was_narrow is = is_widened value was_narrow is

  pub is_process : IsProcess (value_succeeding left v)
  is_process = in_its_version left.version (narrow_succeeding left v) narrow is_narrow_process
