-- What a worker goes on from stays the first of its answers, and what it is where it goes on.
use Rattle.std.proofs.Common.{◌≡◌, ⊎_elim, ℕ, zero, suc, ◌+◌, ◌≤◌, Bool, true, false, List, []}
use Rattle.std.proofs.Common.{◌∷◌, ◌++◌, length, take, Some, None, Ok, Err, refl, sym, ap, ◌∙◌}
use Rattle.std.proofs.Common.{subst, arith, append_assoc}
use Rattle.std.proofs.lemmas.List.{append-nil}
use Rattle.wasm_syntax.specs.declared.module.Module.{Module}
use Rattle.wasi_abi.specs.declared.version.Version.{Version}
use Rattle.wasi_abi.specs.declared.version.Version.TheVariants.{One, Two}
use Rattle.wasi_abi.specs.rules.Configs.{Settings}
use Rattle.wasi_calls_rules.specs.WasiStates.{Line}
use Rattle.process_rules.specs.Processes.{ProcessState, Guest}
use Rattle.process_rules.specs.Origins.{Origin, succeeding}
use Rattle.process_rules.specs.Runs.{Kept, Given, Wider, Succeeds, widened, Runs, Reaches, none}
use Rattle.process_rules.specs.Runs.{step, take as takes, widen, succeed, first_kept, answers_in}
use Rattle.process_rules.specs.Runs.{version_after}
use Rattle.process_rules.proofs.Growing.{runs_emit}
use Rattle.process_rules.proofs.OneProcess.{succeeds_first}
use Rattle.state_image.specs.rules.ProcessImage.{Saved}
use Rattle.worker_store.specs.restart_theorem.Lives.{Act, SourceSaid, Event, Told, Asked, Opened}
use Rattle.worker_store.specs.restart_theorem.Lives.{Ended, events_of, kept_after, kept_of_said}
use Rattle.worker_store.specs.restart_theorem.Lives.{kept_by_end}
use Rattle.worker_store.specs.restart_theorem.Promises.{Promise, after, promised}
use Rattle.worker_store.specs.restart_theorem.Successions.{promised_from, SucceedNone}
use Rattle.worker_store.specs.restart_theorem.laws.Successions.{OriginsStay, PlainSucceedNone}
use Rattle.worker_store.proofs.RestartLemmas.Promised.{AreKeptSomewhere, lives_kept_from}
use Rattle.worker_store.proofs.RestartLemmas.Successions.{kept_through}
use Rattle.worker_store.proofs.RestartLemmas.Widenings.{AddsWidening, end_keeps}

-- ---- none else is kept

both_none : (first then : List Kept) → SucceedNone first → SucceedNone then
    → SucceedNone (first ++ then)
both_none [] then one two = two
both_none (Given a ∷ first) then one two = both_none first then one two
both_none (Wider s ∷ first) then one two = both_none first then one two
both_none (Succeeds o ∷ first) then one two = absurd one

front_none : (n : ℕ) (kept : List Kept) → SucceedNone kept → SucceedNone (take n kept)
front_none zero kept some = tt
front_none (suc n) [] some = tt
front_none (suc n) (Given a ∷ kept) some = front_none n kept some
front_none (suc n) (Wider s ∷ kept) some = front_none n kept some
front_none (suc n) (Succeeds o ∷ kept) some = absurd some

said_none : (said : SourceSaid) (fits : Bool) → SucceedNone (kept_of_said said fits)
said_none (Ok (Some a)) true = tt
said_none (Ok (Some a)) false = tt
said_none (Ok None) fits = tt
said_none (Err e) fits = tt

-- what the end of a call adds to what is kept
record EndAdds (act : Act) (shown : Saved) (kept : List Kept) : Type 0 where
  more : List Kept
  is : kept_by_end act shown kept ≡ kept ++ more
  none_succeeds : SucceedNone more

end_adds : (act : Act) (shown : Saved) (kept : List Kept) → EndAdds act shown kept
end_adds act shown kept =
    ⊎_elim
    (λ (same : kept_by_end act shown kept ≡ kept). record {
      more = [];
      is = same ∙ sym (append-nil kept);
      none_succeeds = tt;
    })
    (λ (adds : AddsWidening act shown kept). record {
      more = Wider shown.steps ∷ [];
      is = adds.kept_is;
      none_succeeds = tt;
    })
    (end_keeps act shown kept)

kept_none : (kept : List Kept) (events : List Event) → SucceedNone kept
    → SucceedNone (kept_after kept events)
kept_none kept [] some = some
kept_none kept (Told r t ∷ events) some = kept_none kept events some
kept_none kept (Asked steps k said fits ∷ events) some =
    kept_none (kept ++ kept_of_said said fits) events
    (both_none kept (kept_of_said said fits) some (said_none said fits))
kept_none kept (Opened held shown ∷ events) some =
    kept_none (take held kept) events (front_none held kept some)
kept_none kept (Ended act reply held shown ∷ events) some =
    let adds = end_adds act shown kept in
    kept_none (kept_by_end act shown kept) events
    (subst (λ l. SucceedNone l) (sym adds.is) (both_none kept adds.more some adds.none_succeeds))

pub plain_succeed_none : PlainSucceedNone
plain_succeed_none lives = kept_none [] (events_of lives) tt

-- ---- the first ones stay

-- what is kept begins with these, which each later life has, and then with no other origin
record BeginsWith (first : List Kept) (so_far : Promise) : Type 0 where
  rest : List Kept
  is : so_far.kept ≡ first ++ rest
  none_succeeds : SucceedNone rest
  held : length first ≤ so_far.answers

-- a front that is long enough
record FrontBehind (n : ℕ) (first rest : List Kept) : Type 0 where
  count : ℕ
  is : take n (first ++ rest) ≡ first ++ take count rest

front_behind : (n : ℕ) (first rest : List Kept) → length first ≤ n → FrontBehind n first rest
front_behind n [] rest long = record { count = n; is = refl }
front_behind zero (x ∷ first) rest long = absurd (omega (arith, long))
front_behind (suc n) (x ∷ first) rest long =
    let behind = front_behind n first rest (omega (arith, long)) in
    record { count = behind.count; is = ap (λ l. x ∷ l) behind.is }

stays_first : (m : Module) (config : Settings) (first : List Kept) (so_far : Promise)
    (events : List Event) → AreKeptSomewhere m config so_far events → BeginsWith first so_far
    → BeginsWith first (promised so_far events)
stays_first m config first so_far [] kept begins = begins
stays_first m config first so_far (Told r t ∷ events) kept begins =
    stays_first m config first (after so_far (Told r t)) events kept.1 (record {
      rest = begins.rest;
      is = begins.is;
      none_succeeds = begins.none_succeeds;
      held = begins.held;
    })
stays_first m config first so_far (Asked steps k said fits ∷ events) kept begins =
    let more : List Kept = kept_of_said said fits in
    stays_first m config first (after so_far (Asked steps k said fits)) events kept.1 (record {
      rest = begins.rest ++ more;
      is = ap (λ l. l ++ more) begins.is ∙ append_assoc first begins.rest more;
      none_succeeds = both_none begins.rest more begins.none_succeeds (said_none said fits);
      held = begins.held;
    })
stays_first m config first so_far (Opened held shown ∷ events) kept begins =
    let all : so_far.answers ≤ held = kept.0.kept.holds.answers in
    let few = begins.held in
    let behind = front_behind held first begins.rest (omega (arith, all, few)) in
    stays_first m config first (after so_far (Opened held shown)) events kept.1 (record {
      rest = take behind.count begins.rest;
      is = ap (λ l. take held l) begins.is ∙ behind.is;
      none_succeeds = front_none behind.count begins.rest begins.none_succeeds;
      held = omega (arith, few);
    })
stays_first m config first so_far (Ended act reply held shown ∷ events) kept begins =
    let adds = end_adds act shown so_far.kept in
    let few = begins.held in
    stays_first m config first (after so_far (Ended act reply held shown)) events kept.1 (record {
      rest = begins.rest ++ adds.more;
      is = adds.is ∙ ap (λ l. l ++ adds.more) begins.is
          ∙ append_assoc first begins.rest adds.more;
      none_succeeds = both_none begins.rest adds.more begins.none_succeeds adds.none_succeeds;
      held = omega (arith, few);
    })

pub origins_stay : OriginsStay
origins_stay m config v o inputs lives goes =
    let from : Promise = promised_from v o in
    let stays = stays_first m config (first_kept v o) from (events_of lives)
    (lives_kept_from m config from inputs lives goes) (record {
      rest = [];
      is = sym (append-nil (first_kept v o));
      none_succeeds = tt;
      held = omega arith;
    }) in
    (stays.rest, kept_through from lives ∙ stays.is, stays.none_succeeds)

-- ---- what is reached on them

-- what is kept after what a process of this version goes on from
abbrev widening_of : Version → Origin → List Kept
widening_of One o = []
widening_of Two o = Wider o.steps ∷ []

first_is : (v : Version) (o : Origin) → first_kept v o ≡ Succeeds o ∷ widening_of v o
first_is One o = refl
first_is Two o = refl

pub some_first : (v : Version) (o : Origin) → 1 ≤ length (first_kept v o)
some_first One o = omega arith
some_first Two o = omega arith

pub first_version : (v : Version) (o : Origin) → version_after (first_kept v o) ≡ v
first_version One o = refl
first_version Two o = refl

first_answers : (v : Version) (o : Origin)
    → answers_in (first_kept v o) ≡ o.answers + answers_in (widening_of v o)
first_answers One o = refl
first_answers Two o = refl

-- without a step all but the version stays, and the count of the answers
record StaysAsLeft (p q : ProcessState) (kept : List Kept) : Type 0 where
  files : q.host.files ≡ p.host.files
  lines : q.host.lines ≡ p.host.lines
  last_monotonic : q.host.last_monotonic ≡ p.host.last_monotonic
  answers : q.answers ≡ p.answers + answers_in kept
  requests : q.requests ≡ p.requests

no_steps_stay : (guest : Guest) (p q : ProcessState) (kept : List Kept) (n : ℕ)
    → Runs guest p kept n q → n ≡ 0 → StaysAsLeft p q kept
no_steps_stay guest p q kept n (none {p = p'}) e = record {
  files = refl;
  lines = refl;
  last_monotonic = refl;
  answers = omega arith;
  requests = refl;
}
no_steps_stay guest p q kept n (step moves rest) e = absurd (omega (arith, e))
no_steps_stay guest p q kept n (takes moves rest) e = absurd (omega (arith, e))
no_steps_stay guest p q kept n (widen {p = p'} {kept = kept'} {n = k} at rest) e =
    let stays = no_steps_stay guest (widened p') q kept' k rest e in
    let answers = stays.answers in
    record {
      files = stays.files;
      lines = stays.lines;
      last_monotonic = stays.last_monotonic;
      answers = omega (arith, answers);
      requests = stays.requests;
    }
no_steps_stay guest p q kept n (succeed at sum rest) e =
    let some = at.origin.some_steps in absurd (omega (arith, e, sum, some))

-- A process that is reached on what it goes on from has emitted those lines. At that step it is as
-- it was left.
pub record IsFromOrigin (v : Version) (o : Origin) (n : ℕ) (p : ProcessState) : Type 0 where
  pub more : List Line
  pub emitted : p.host.lines ≡ o.lines ++ more
  pub files : n ≡ o.steps → p.host.files ≡ o.files
  pub lines : n ≡ o.steps → p.host.lines ≡ o.lines
  pub last_monotonic : n ≡ o.steps → p.host.last_monotonic ≡ o.last_monotonic
  pub answers : n ≡ o.steps → p.answers ≡ answers_in (first_kept v o)
  pub requests : n ≡ o.steps → p.requests ≡ o.requests

pub reached_from : (m : Module) (config : Settings) (v : Version) (o : Origin) (n : ℕ)
    (p : ProcessState) → Reaches m config (first_kept v o) n p → IsFromOrigin v o n p
reached_from m config v o n p reached =
    let guest : Guest = reached.guest in
    let on = succeeds_first guest reached.start p (first_kept v o) (widening_of v o) n o
    reached.runs (first_is v o) in
    let begins : ProcessState = succeeding o reached.start in
    let emits = runs_emit guest begins p (widening_of v o) on.steps on.runs in
    let stays : n ≡ o.steps → StaysAsLeft begins p (widening_of v o) =
    λ here. no_steps_stay guest begins p (widening_of v o) on.steps on.runs
    (no_more n o.steps on.steps on.sum here) in
    record {
      more = emits.lines;
      emitted = emits.are;
      files = λ here. (stays here).files;
      lines = λ here. (stays here).lines;
      last_monotonic = λ here. (stays here).last_monotonic;
      answers = λ here. (stays here).answers ∙ sym (first_answers v o);
      requests = λ here. (stays here).requests;
    }
  where
    no_more : (n a b : ℕ) → n ≡ a + b → n ≡ a → b ≡ 0
    no_more n a b sum here = omega (arith, sum, here)
