-- What the last slice or batch of a life has answered, from the calls of that life.
use Rattle.std.proofs.Common.{◌≡◌, ◌⊎◌, inl, inr, ℕ, List, [], ◌∷◌, ◌++◌, refl, sym, ap, ◌∙◌}
use Rattle.std.proofs.Common.{subst, Ok, Err, append_assoc, append-nil}
use Rattle.std.specs.Prelude.{Result, map}
use Rattle.wasm_syntax.specs.declared.module.Module.{Module}
use Rattle.wasi_abi.specs.rules.Configs.{Settings}
use Rattle.process_rules.specs.Processes.{ProcessState, Guest}
use Rattle.state_image.specs.rules.ProcessImage.{Saved}
use Rattle.state_image.specs.rules.Saving.{saved_of}
use Rattle.sector_disk.specs.rules.Medium.{Medium}
use Rattle.record_replay.specs.rules.Calls.{Giving, Taking, Exchange, Tells, Exchanges}
use Rattle.record_replay.proofs.Following.{exchanges_join}
use Rattle.record_replay.specs.declared.slices.now.Now.{Now}
use Rattle.record_replay.specs.declared.slices.now.Now.TheVariants as now
use Rattle.worker_store.specs.restart_theorem.Lives.{Act, Slice, Batch, Checkpoint, Upgrade, Reply}
use Rattle.worker_store.specs.restart_theorem.Lives.{Spent, Event, Told, Asked, Opened, Ended}
use Rattle.worker_store.specs.restart_theorem.Lives.{told_in, Inputs, Beginning}
use Rattle.worker_store.specs.restart_theorem.Courses.{Stage, at_beginning, stage_after}
use Rattle.worker_store.specs.restart_theorem.Courses.{without_first}
use Rattle.worker_store.specs.restart_theorem.Promises.{Promise, as_begun, after, promised, IsKept}
use Rattle.worker_store.specs.restart_theorem.Promises.{AreKept}
use Rattle.worker_store.specs.restart_theorem.Exchanges as exchanged
use Rattle.worker_store.specs.restart_theorem.Exchanges.{AreEvents}
use Rattle.worker_store.proofs.RestartLemmas.Promised.{calls_join}
use Rattle.worker_store.specs.laws.Acts.{TakesSteps}
use Rattle.worker_store.specs.rules.BetweenCalls.{IsForetold}
use Rattle.worker_store.proofs.LawLemmas.Pieces.{parts_are_foretold}
use Rattle.worker.specs.declared.recover_fault.RecoverFault.{RecoverFault}
use Rattle.worker.specs.rules.DurableValues.{DurableValue}
use Rattle.worker.specs.rules.OpenWorkers.{IsOpenOn}
use Rattle.worker.specs.rules.DurableCalls.{Answered, IsReplyOf, IsReplyTo, CallCarries}
use Rattle.worker.specs.rules.DurableCalls.{call_events, invocation}
use Rattle.worker.specs.rules.OneLife.{CallsInOrder, no_more, called, call_failed, opened, unopened}
use Rattle.worker.specs.rules.Scenes.{Scene, scene, site, Surroundings}
use Rattle.worker.specs.laws.OneLife.{released_in}
use Rattle.worker.specs.laws.Uncut.{uncut}
use Rattle.worker.proofs.LifeLemmas.Joined.{stage_join, told_join, told_are, acts_stay}
use Rattle.worker.proofs.LifeLemmas.Joined.{kept_split, released_join, promised_join}
use Rattle.worker.proofs.LifeLemmas.Called.{answers_go}
use Rattle.worker.proofs.LifeLemmas.Opening.{opening}
use Rattle.worker.proofs.LifeLemmas.Living.{anything_comes_true, told_alone}
use Rattle.worker.specs.rules.Outcomes.{outcome_after, outcome_of_act}
use Rattle.worker.specs.laws.Replies.{reply_of, reply_after, LastSliceEnds, LivesEndAsSaid}

-- ---- events

reply_is : (said : Now) (reply : Reply) → IsReplyOf (Ok said) reply → reply ≡ reply_of said
reply_is now.Spent reply is = is
reply_is now.Waiting reply is = is
reply_is (now.Ended how) reply is = is

reply_to : (act : Act) (said : Answered act) (before : Now) (reply : Reply) (held : ℕ)
    (shown : Saved) → IsReplyTo act (Ok said) reply
    → reply_after (reply_of before) (Ended act reply held shown ∷ [])
    ≡ reply_of (outcome_of_act act before said)
reply_to (Slice fuel) said before reply held shown is = reply_is said reply is
reply_to (Batch fuel most) said before reply held shown is = reply_is said reply is
reply_to Checkpoint said before reply held shown is = refl
reply_to Upgrade said before reply held shown is = refl

reply_join : (before : Reply) (first rest : List Event)
    → reply_after before (first ++ rest) ≡ reply_after (reply_after before first) rest
reply_join before [] rest = refl
reply_join before (Told r t ∷ first) rest = reply_join before first rest
reply_join before (Asked n k said fits ∷ first) rest = reply_join before first rest
reply_join before (Opened held shown ∷ first) rest = reply_join before first rest
reply_join before (Ended (Slice fuel) reply held shown ∷ first) rest = reply_join reply first rest
reply_join before (Ended (Batch fuel most) reply held shown ∷ first) rest =
    reply_join reply first rest
reply_join before (Ended Checkpoint reply held shown ∷ first) rest = reply_join before first rest
reply_join before (Ended Upgrade reply held shown ∷ first) rest = reply_join before first rest

-- exchanges end no call
none_ends : (before : Reply) (exchanges : List Exchange) (events : List Event)
    → AreEvents exchanges events → reply_after before events ≡ before
none_ends before exchanges events exchanged.none = refl
none_ends before exchanges events (exchanged.told {exchanges = others} {events = rest} are) =
    none_ends before others rest are
none_ends before exchanges events (exchanged.asked {exchanges = others} {events = rest} are) =
    none_ends before others rest are

-- a call with these exchanges, and its end
call_says : (before : Reply) (act : Act) (reply : Reply) (held : ℕ) (w : DurableValue)
    (exchanges : List Exchange) (events : List Event) → AreEvents exchanges events
    → reply_after before (call_events events act reply held w)
    ≡ reply_after before (Ended act reply held (saved_of w.process) ∷ [])
call_says before act reply held w exchanges events are =
    reply_join before events (Ended act reply held (saved_of w.process) ∷ [])
    ∙ ap (λ b. reply_after b (Ended act reply held (saved_of w.process) ∷ []))
    (none_ends before exchanges events are)

-- ---- calls

module _ (m : Module) (config : Settings) (guest : Guest) (promise : Promise) (stage : Stage)
    (act : Act) (reply : Reply) (w : DurableValue) (old new : Medium) (exchanges : List Exchange)
    (carries : CallCarries (invocation m config guest act) promise stage reply w old new
    exchanges) where
  abbrev all_events : List Event
  all_events = call_events carries.events act reply carries.held w

  acts_left : (acts : List Act) → stage.acts ≡ act ∷ acts
      → (stage_after stage all_events).acts ≡ acts
  acts_left acts is =
      ap (λ (s : Stage). s.acts)
      (stage_join stage carries.events (Ended act reply carries.held (saved_of w.process) ∷ []))
      ∙ ap without_first (acts_stay stage exchanges carries.events carries.are)
      ∙ ap without_first is

  still_foretold : (rest : List Exchange) → IsForetold stage (exchanges ++ rest)
      → IsForetold (stage_after stage all_events) rest
  still_foretold rest foretold =
      let end : Event = Ended act reply carries.held (saved_of w.process) in
      let first = parts_are_foretold m config promise (promised promise carries.events) stage
      (stage_after stage carries.events) exchanges rest foretold in
      subst (λ (s : Stage). IsForetold s rest) (sym (stage_join stage carries.events (end ∷ [])))
      (first.0 (record {
        events = carries.events;
        are = carries.are;
        kept = (kept_split m config promise stage carries.events (end ∷ []) carries.kept).0;
        promised_is = refl;
        stage_is = refl;
      }))

  told_all : told_in all_events ≡ released_in exchanges
  told_all = told_join carries.events (Ended act reply carries.held (saved_of w.process) ∷ [])
      ∙ append-nil (told_in carries.events) ∙ told_are exchanges carries.events carries.are

-- the events of calls without an error
record EventsSay (m : Module) (config : Settings) (promise : Promise) (stage : Stage)
    (exchanges : List Exchange) (outcome : Now → Now) : Type 0 where
  events : List Event
  kept : AreKept m config promise stage events
  told : told_in events ≡ released_in exchanges
  says : (before : Now) → reply_after (reply_of before) events ≡ reply_of (outcome before)

abbrev CallsSay : {S O : Type 0} → Giving S → Taking O → List Act → DurableValue → Medium → S → S
    → O → O → (Now → Now) → Type 0
CallsSay gives takes acts w disk source source' outlet outlet' outcome =
    (exchanges : List Exchange) × Exchanges gives takes source outlet exchanges source' outlet'
    × ((m : Module) (config : Settings) (guest : Guest) (promise : Promise) (stage : Stage)
    (p : ProcessState) → IsOpenOn m config guest promise stage p w disk → stage.acts ≡ acts
    → IsForetold stage exchanges → EventsSay m config promise stage exchanges outcome)

-- a call, and those after it
says_on : (m : Module) (config : Settings) (promise : Promise) (stage : Stage)
    (first rest : List Exchange) (outcome outcome' : Now → Now) (events : List Event)
    → AreKept m config promise stage events → told_in events ≡ released_in first
    → ((before : Now) → (now : Now) × (reply_after (reply_of before) events ≡ reply_of now)
    × (outcome' now ≡ outcome before))
    → EventsSay m config (promised promise events) (stage_after stage events) rest outcome'
    → EventsSay m config promise stage (first ++ rest) outcome
says_on m config promise stage first rest outcome outcome' events kept told_so one more =
    let joined = calls_join m config promise stage events more.events kept more.kept in
    record {
      events = events ++ more.events;
      kept = joined.0;
      told = told_join events more.events ∙ ap (λ l. l ++ told_in more.events) told_so
          ∙ ap (λ l. released_in first ++ l) more.told ∙ sym (released_join first rest);
      says = λ before.
          let o = one before in
          reply_join (reply_of before) events more.events
          ∙ ap (λ b. reply_after b more.events) o.1 ∙ more.says o.0 ∙ ap reply_of o.2;
    }

module _ {D S O : Type 0} (medium : D → Medium) (gives : Giving S) (takes : Taking O) where
  calls_say : (acts : List Act) (from : Scene D S O) (undone : Result (List Act) RecoverFault)
      (last : Surroundings D S O) (calls : CallsInOrder medium gives takes acts from undone last)
      → undone ≡ Ok []
      → CallsSay gives takes acts from.worker (medium from.disk) from.source last.source
      from.outlet last.outlet (λ before. outcome_after before calls)
  calls_say acts from undone last no_more is = (
    [],
    record { asked = refl; released = refl },
    λ m config guest promise stage p open_on acts_are foretold. record {
      events = [];
      kept = tt;
      told = refl;
      says = λ before. refl;
    },
  )
  calls_say acts from undone last (called {act = act} {acts = others} {after = mid} said call more)
      is =
      let rest = calls_say others mid undone last more is in (
        call.0 ++ rest.0,
        exchanges_join gives takes from.source last.source mid.source from.outlet last.outlet
            mid.outlet call.0 rest.0 call.1 rest.1,
        λ m config guest promise stage p open_on acts_are foretold.
            let first = parts_are_foretold m config promise promise stage stage call.0 rest.0
            foretold in
            let did = call.2 m config guest promise stage p others open_on acts_are first.1 in
            let again = did.3.goes_on (answers_go act said did.0 did.1) in
            let w : DurableValue = mid.worker in
            let old : Medium = medium from.disk in
            let new : Medium = medium mid.disk in
            let all : List Event =
            all_events m config guest promise stage act did.0 w old new call.0 did.3 in
            says_on m config promise stage call.0 rest.0
            (λ before. outcome_after (outcome_of_act act before said) more)
            (λ before. outcome_after before more) all did.3.kept
            (told_all m config guest promise stage act did.0 w old new call.0 did.3)
            (λ before. (
              outcome_of_act act before said,
              call_says (reply_of before) act did.0 did.3.held w call.0 did.3.events did.3.are
                  ∙ reply_to act said before did.0 did.3.held (saved_of w.process) did.1,
              refl,
            ))
            (rest.2 m config guest (promised promise all) (stage_after stage all) again.0 again.1
            (acts_left m config guest promise stage act did.0 w old new call.0 did.3 others
            acts_are)
            (still_foretold m config guest promise stage act did.0 w old new call.0 did.3 rest.0
            foretold)),
      )
  calls_say acts from undone last (call_failed call fails) is = absurd (cc)

-- ---- the slice that ends last

module _ (m : Module) (config : Settings) (so_far : Promise) (begins : Beginning)
    (inputs : Inputs) where
  -- it ends last, where none that takes steps ends after it
  ends_last : (front : List Event) (act : Act) (reply : Reply) (held : ℕ) (shown : Saved)
      (events : List Event) → TakesSteps act
      → IsKept m config (promised so_far front) (stage_after (at_beginning begins inputs) front)
      (Ended act reply held shown)
      → ((b : Reply) → reply_after b events ≡ b)
      → LastSliceEnds m config so_far begins inputs
      (front ++ (Ended act reply held shown ∷ events)) (reply_after reply events)
  ends_last front act reply held shown events stepping kept none =
      subst (λ r. LastSliceEnds m config so_far begins inputs
      (front ++ (Ended act reply held shown ∷ events)) r) (sym (none reply)) (record {
        front = front;
        back = events;
        act = act;
        takes_steps = stepping;
        held = held;
        shown = shown;
        is = refl;
        none_later = none;
        ends = kept;
      })

  -- the first of these, where none ends after it
  first_ends : (front : List Event) (e : Event) (events : List Event) (before : Reply)
      → IsKept m config (promised so_far front) (stage_after (at_beginning begins inputs) front) e
      → ((b : Reply) → reply_after b events ≡ b)
      → ((b : Reply) → reply_after b (e ∷ events) ≡ b)
      ⊎ LastSliceEnds m config so_far begins inputs (front ++ (e ∷ events))
      (reply_after before (e ∷ events))
  first_ends front (Told r t) events before kept none = inl none
  first_ends front (Asked n k said fits) events before kept none = inl none
  first_ends front (Opened held shown) events before kept none = inl none
  first_ends front (Ended Checkpoint reply held shown) events before kept none = inl none
  first_ends front (Ended Upgrade reply held shown) events before kept none = inl none
  first_ends front (Ended (Slice fuel) reply held shown) events before kept none =
      inr (ends_last front (Slice fuel) reply held shown events tt kept none)
  first_ends front (Ended (Batch fuel most) reply held shown) events before kept none =
      inr (ends_last front (Batch fuel most) reply held shown events tt kept none)

  -- among events that keep what was promised none ends, or one ends last
  last_ends : (front events : List Event) (before : Reply)
      → AreKept m config (promised so_far front)
      (stage_after (at_beginning begins inputs) front) events
      → ((b : Reply) → reply_after b events ≡ b)
      ⊎ LastSliceEnds m config so_far begins inputs (front ++ events) (reply_after before events)
  last_ends front [] before kept = inl (λ b. refl)
  last_ends front (e ∷ events) before kept =
      by (last_ends (front ++ (e ∷ [])) events (reply_after before (e ∷ []))
      (subst (λ p. AreKept m config p
      (stage_after (at_beginning begins inputs) (front ++ (e ∷ []))) events)
      (sym (promised_join so_far front (e ∷ [])))
      (subst (λ s. AreKept m config (after (promised so_far front) e) s events)
      (sym (stage_join (at_beginning begins inputs) front (e ∷ []))) kept.1)))
    where
      by : ((b : Reply) → reply_after b events ≡ b)
          ⊎ LastSliceEnds m config so_far begins inputs ((front ++ (e ∷ [])) ++ events)
          (reply_after (reply_after before (e ∷ [])) events)
          → ((b : Reply) → reply_after b (e ∷ events) ≡ b)
          ⊎ LastSliceEnds m config so_far begins inputs (front ++ (e ∷ events))
          (reply_after before (e ∷ events))
      by (inl none) = first_ends front e events before kept.0 none
      by (inr last) =
          inr (subst (λ r. LastSliceEnds m config so_far begins inputs (front ++ (e ∷ events)) r)
          (sym (reply_join before (e ∷ []) events))
          (subst (λ l. LastSliceEnds m config so_far begins inputs l
          (reply_after (reply_after before (e ∷ [])) events))
          (append_assoc front (e ∷ []) events) last))

-- ---- the law

-- the answers differ
goes_on_alone : (outcome : Now) → reply_of outcome ≡ Spent → outcome ≡ now.Spent
goes_on_alone now.Spent e = refl
goes_on_alone now.Waiting e = absurd (cc)
goes_on_alone (now.Ended how) e = absurd (cc)

answered_so : (m : Module) (config : Settings) (so_far : Promise) (begins : Beginning)
    (inputs : Inputs) (front events : List Event) (outcome : Now)
    → AreKept m config (promised so_far front)
    (stage_after (at_beginning begins inputs) front) events
    → reply_after Spent events ≡ reply_of outcome
    → (outcome ≡ now.Spent)
    ⊎ LastSliceEnds m config so_far begins inputs (front ++ events) (reply_of outcome)
answered_so m config so_far begins inputs front events outcome kept says =
    by (last_ends m config so_far begins inputs front events Spent kept)
  where
    by : ((b : Reply) → reply_after b events ≡ b)
        ⊎ LastSliceEnds m config so_far begins inputs (front ++ events) (reply_after Spent events)
        → (outcome ≡ now.Spent)
        ⊎ LastSliceEnds m config so_far begins inputs (front ++ events) (reply_of outcome)
    by (inl none) = inl (goes_on_alone outcome (sym says ∙ none Spent))
    by (inr last) =
        inr (subst (λ r. LastSliceEnds m config so_far begins inputs (front ++ events) r) says last)

module _ {D S O : Type 0} (medium : D → Medium) (gives : Giving S) (takes : Taking O) where
  pub lives_end_as_said : LivesEndAsSaid medium gives takes
  lives_end_as_said m config bytes so_far acts found one accepted
      (opened {begins = begins} {w = w} {disk = disk} {outlet = inside} {undone = undone}
      {last = last} starts calls) is sectors room keeps bounded =
      let o = opening m config so_far medium takes bytes found.disk found.outlet
      (site disk inside) begins (Ok w) accepted keeps bounded starts in
      let c = calls_say medium gives takes acts (scene w disk found.source inside) undone last
      calls is in
      let all : List Exchange = map Tells o.0 ++ c.0 in
      let inputs : Inputs = uncut acts all in
      let stage : Stage = at_beginning begins inputs in
      let heard = parts_are_foretold m config so_far so_far stage stage (map Tells o.0) c.0
      (anything_comes_true all) in
      let op = o.2 inputs sectors room heard.1 in
      let first : Promise = as_begun begins so_far in
      let more = c.2 m config op.guest (promised first op.events) (stage_after stage op.events)
      op.process op.opened op.acts (op.foretold c.0 (anything_comes_true all)) in (
        all,
        exchanges_join gives takes found.source last.source found.source found.outlet last.outlet
            inside (map Tells o.0) c.0
            (told_alone gives takes found.source found.outlet inside o.0 o.1) c.1,
        record {
          events = op.events ++ more.events;
          kept = (calls_join m config first stage op.events more.events op.kept more.kept).0;
          told = told_join op.events more.events ∙ ap (λ l. l ++ told_in more.events) op.told
              ∙ ap (λ l. released_in (map Tells o.0) ++ l) more.told
              ∙ sym (released_join (map Tells o.0) c.0);
          answered = answered_so m config first begins inputs op.events more.events
              (outcome_after now.Spent calls) more.kept (more.says now.Spent);
        },
      )
  lives_end_as_said m config bytes so_far acts found one accepted (unopened {why = why} starts) is
      sectors room keeps bounded =
      let failed : ◌≡◌ {A = Result (List Act) RecoverFault} (Err why) (Ok []) = is in absurd (cc)
