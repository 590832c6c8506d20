-- Events of a life, one list after another.
use Rattle.std.proofs.Common.{◌≡◌, ℕ, ◌≤◌, List, [], ◌∷◌, ◌++◌, length, refl, ap, arith}
use Rattle.std.specs.Prelude.{Some, None}
use Rattle.wasm_syntax.specs.declared.module.Module.{Module}
use Rattle.wasi_abi.specs.rules.Configs.{Settings}
use Rattle.state_image.specs.rules.ProcessImage.{Saved}
use Rattle.record_replay.specs.rules.Calls.{Exchange, Asks, Tells}
use Rattle.worker_store.specs.restart_theorem.Lives.{Act, Reply, Event, Told, Asked, Opened, Ended}
use Rattle.worker_store.specs.restart_theorem.Lives.{told_in}
use Rattle.worker_store.specs.restart_theorem.Courses.{Stage, next_stage, stage_after}
use Rattle.worker_store.specs.restart_theorem.Promises.{Promise, after, promised, AreKept}
use Rattle.worker_store.specs.restart_theorem.Exchanges.{release_of, was_taken, AreEvents, none}
use Rattle.worker_store.specs.restart_theorem.Exchanges.{told, asked}
use Rattle.worker.specs.rules.OneLife.{opened_in}
use Rattle.worker.specs.laws.OneLife.{released_in}

pub stage_join : (stage : Stage) (first rest : List Event)
    → stage_after stage (first ++ rest) ≡ stage_after (stage_after stage first) rest
stage_join stage [] rest = refl
stage_join stage (e ∷ first) rest = stage_join (next_stage stage e) first rest

pub promised_join : (so_far : Promise) (first rest : List Event)
    → promised so_far (first ++ rest) ≡ promised (promised so_far first) rest
promised_join so_far [] rest = refl
promised_join so_far (e ∷ first) rest = promised_join (after so_far e) first rest

-- what both keep each keeps
pub kept_split : (m : Module) (config : Settings) (so_far : Promise) (stage : Stage)
    (first rest : List Event) → AreKept m config so_far stage (first ++ rest)
    → AreKept m config so_far stage first
    × AreKept m config (promised so_far first) (stage_after stage first) rest
kept_split m config so_far stage [] rest kept = (tt, kept)
kept_split m config so_far stage (e ∷ first) rest kept =
    let later = kept_split m config (after so_far e) (next_stage stage e) first rest kept.1 in
    ((kept.0, later.0), later.1)

-- what happens is counted
pub counts_grow : (so_far : Promise) (events : List Event)
    → so_far.events ≤ (promised so_far events).events
counts_grow so_far [] = omega arith
counts_grow so_far (Told r t ∷ events) =
    let more = counts_grow (after so_far (Told r t)) events in omega (arith, more)
counts_grow so_far (Asked n k said fits ∷ events) =
    let more = counts_grow (after so_far (Asked n k said fits)) events in omega (arith, more)
counts_grow so_far (Opened held shown ∷ events) =
    let more = counts_grow (after so_far (Opened held shown)) events in omega (arith, more)
counts_grow so_far (Ended act reply held shown ∷ events) =
    let more = counts_grow (after so_far (Ended act reply held shown)) events in
    omega (arith, more)

-- each exchange is an event
pub events_as_many : (exchanges : List Exchange) (events : List Event) → AreEvents exchanges events
    → length events ≡ length exchanges
events_as_many exchanges events none = refl
events_as_many exchanges events (told {exchanges = others} {events = rest} are) =
    let more = events_as_many others rest are in omega (arith, more)
events_as_many exchanges events (asked {exchanges = others} {events = rest} are) =
    let more = events_as_many others rest are in omega (arith, more)

-- ---- what is read off them

pub told_join : (first rest : List Event) → told_in (first ++ rest) ≡ told_in first ++ told_in rest
told_join [] rest = refl
told_join (Told r t ∷ first) rest = ap (λ l. r ∷ l) (told_join first rest)
told_join (Asked n k said fits ∷ first) rest = told_join first rest
told_join (Opened held shown ∷ first) rest = told_join first rest
told_join (Ended act reply held shown ∷ first) rest = told_join first rest

pub released_join : (first rest : List Exchange)
    → released_in (first ++ rest) ≡ released_in first ++ released_in rest
released_join [] rest = refl
released_join (Tells begun ∷ first) rest = ap (λ l. release_of begun ∷ l) (released_join first rest)
released_join (Asks ask ∷ first) rest = released_join first rest

pub opened_behind : (first rest : List Event) → opened_in first ≡ None
    → opened_in (first ++ rest) ≡ opened_in rest
opened_behind [] rest shut = refl
opened_behind (Told r t ∷ first) rest shut = opened_behind first rest shut
opened_behind (Asked n k said fits ∷ first) rest shut = opened_behind first rest shut
opened_behind (Opened held shown ∷ first) rest shut = absurd (cc)
opened_behind (Ended act reply held shown ∷ first) rest shut = opened_behind first rest shut

pub opened_before : (first rest : List Event) (shown : Saved) → opened_in first ≡ Some shown
    → opened_in (first ++ rest) ≡ Some shown
opened_before [] rest s is = absurd (cc)
opened_before (Told r t ∷ first) rest s is = opened_before first rest s is
opened_before (Asked n k said fits ∷ first) rest s is = opened_before first rest s is
opened_before (Opened held shown ∷ first) rest s is = is
opened_before (Ended act reply held shown ∷ first) rest s is = opened_before first rest s is

-- a list after which nothing opens shows the same
pub shown_before : (events : List Event) (act : Act) (reply : Reply) (held : ℕ) (shown : Saved)
    → opened_in (events ++ Ended act reply held shown ∷ []) ≡ opened_in events
shown_before [] act reply held shown = refl
shown_before (Told r t ∷ events) act reply held shown = shown_before events act reply held shown
shown_before (Asked n k said fits ∷ events) act reply held shown =
    shown_before events act reply held shown
shown_before (Opened first s ∷ events) act reply held shown = refl
shown_before (Ended a r h s ∷ events) act reply held shown =
    shown_before events act reply held shown

-- ---- events of exchanges

pub told_are : (exchanges : List Exchange) (events : List Event) → AreEvents exchanges events
    → told_in events ≡ released_in exchanges
told_are exchanges events none = refl
told_are exchanges events (told {begun = begun} {exchanges = others} {events = rest} are) =
    ap (λ l. release_of begun ∷ l) (told_are others rest are)
told_are exchanges events (asked {exchanges = others} {events = rest} are) =
    told_are others rest are

pub none_opens : (exchanges : List Exchange) (events : List Event) → AreEvents exchanges events
    → opened_in events ≡ None
none_opens exchanges events none = refl
none_opens exchanges events (told {exchanges = others} {events = rest} are) =
    none_opens others rest are
none_opens exchanges events (asked {exchanges = others} {events = rest} are) =
    none_opens others rest are

pub acts_stay : (stage : Stage) (exchanges : List Exchange) (events : List Event)
    → AreEvents exchanges events → (stage_after stage events).acts ≡ stage.acts
acts_stay stage exchanges events none = refl
acts_stay stage exchanges events (told {begun = begun} {exchanges = others} {events = rest} are) =
    acts_stay (next_stage stage (Told (release_of begun) (was_taken begun.said))) others rest are
acts_stay stage exchanges events
    (asked {ask = ask} {steps = steps} {fits = fits} {exchanges = others} {events = rest} are) =
    acts_stay (next_stage stage (Asked steps ask.question ask.said fits)) others rest are

pub opened_stays : (promise : Promise) (exchanges : List Exchange) (events : List Event)
    → AreEvents exchanges events → (promised promise events).has_opened ≡ promise.has_opened
opened_stays promise exchanges events none = refl
opened_stays promise exchanges events
    (told {begun = begun} {exchanges = others} {events = rest} are) =
    opened_stays (after promise (Told (release_of begun) (was_taken begun.said))) others rest are
opened_stays promise exchanges events
    (asked {ask = ask} {steps = steps} {fits = fits} {exchanges = others} {events = rest} are) =
    opened_stays (after promise (Asked steps ask.question ask.said fits)) others rest are
