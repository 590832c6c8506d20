-- Parts of a call, one after another.
use Rattle.std.proofs.Common.{Bool, List, [], ◌∷◌, ◌++◌, sym, ap, ◌∙◌, subst}
use Rattle.record_replay.specs.rules.Calls.{Exchange, Asks, Tells}
use Rattle.worker_store.specs.restart_theorem.Lives.{SourceSaid, Event}
use Rattle.worker_store.specs.restart_theorem.Courses.{Stage, without_first}
use Rattle.worker_store.specs.restart_theorem.Courses.{next_stage, stage_after}
use Rattle.worker_store.specs.restart_theorem.Promises.{after, promised, AreKept, IsKept}
use Rattle.worker_store.specs.restart_theorem.Exchanges.{AreEvents, none, told, asked}
use Rattle.worker_store.proofs.RestartLemmas.Promised.{calls_join}
use Rattle.worker_store.specs.rules.BetweenCalls.{Foretell, IsForetold}
use Rattle.worker_store.specs.laws.Pieces.{PartsJoin, PartsAreForetold, EndsJoin}

events_join : (first rest : List Exchange) (events others : List Event) → AreEvents first events
    → AreEvents rest others → AreEvents (first ++ rest) (events ++ others)
events_join first rest events others none more = more
events_join first rest events others (told are) more =
    told (events_join _ rest _ others are more)
events_join first rest events others (asked are) more =
    asked (events_join _ rest _ others are more)

pub parts_join : PartsJoin
parts_join m config promise between promise' stage inside stage' first rest a b =
    let further : AreKept m config (promised promise a.events) (stage_after stage a.events)
    b.events =
    subst (λ z. AreKept m config z (stage_after stage a.events) b.events) a.promised_is
    (subst (λ z. AreKept m config between z b.events) a.stage_is b.kept) in
    let joined = calls_join m config promise stage a.events b.events a.kept further in
    record {
      events = a.events ++ b.events;
      are = events_join first rest a.events b.events a.are b.are;
      kept = joined.0;
      promised_is = b.promised_is ∙ (ap (λ z. promised z b.events) a.promised_is
          ∙ sym joined.1);
      stage_is = b.stage_is ∙ (ap (λ z. stage_after z b.events) a.stage_is ∙ sym joined.2);
    }

-- ---- what is foretold

front_foretold : (says : List SourceSaid) (takes : List Bool) (first rest : List Exchange)
    → Foretell says takes (first ++ rest) → Foretell says takes first
front_foretold says takes [] rest h = tt
front_foretold says takes (Tells begun ∷ first) rest h =
    (h.0, front_foretold says (without_first takes) first rest h.1)
front_foretold says takes (Asks ask ∷ first) rest h =
    (h.0, front_foretold (without_first says) takes first rest h.1)

rest_foretold : (stage : Stage) (first rest : List Exchange) (events : List Event)
    → AreEvents first events → IsForetold stage (first ++ rest)
    → IsForetold (stage_after stage events) rest
rest_foretold stage first rest events none h = h
rest_foretold stage first rest events (told {begun = begun} {exchanges = exchanges} are) h =
    rest_foretold _ exchanges rest _ are h.1
rest_foretold stage first rest events (asked {ask = ask} {exchanges = exchanges} are) h =
    rest_foretold _ exchanges rest _ are h.1

pub parts_are_foretold : PartsAreForetold
parts_are_foretold m config promise between stage inside first rest h = (
  (λ done. subst (λ z. IsForetold z rest) (sym done.stage_is)
      (rest_foretold stage first rest done.events done.are h)),
  front_foretold stage.says stage.takes first rest h,
)

pub ends_join : EndsJoin
ends_join m config promise between stage inside exchanges end done is =
    let here : IsKept m config (promised promise done.events) (stage_after stage done.events)
    end =
    subst (λ z. IsKept m config z (stage_after stage done.events) end) done.promised_is
    (subst (λ z. IsKept m config between z end) done.stage_is is) in
    let joined =
    calls_join m config promise stage done.events (end ∷ []) done.kept (here, tt) in (
      joined.0,
      (joined.1 ∙ ap (λ z. after z end) (sym done.promised_is)),
      (joined.2 ∙ ap (λ z. next_stage z end) (sym done.stage_is)),
    )
