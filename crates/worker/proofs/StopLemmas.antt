-- Where a slice or a batch stops that its disk or its store has failed, and what it has told then.
use Rattle.std.proofs.Common.{◌⊎◌, inl, inr, ℕ, List, [], sym, append-nil}
use Rattle.process_rules.specs.Processes.{ProcessState, Guest}
use Rattle.record_replay.specs.rules.Calls.{Taking, Begun, Exchange}
use Rattle.worker_store.specs.declared.fault.StoreFault.{StoreFault}
use Rattle.worker_store.specs.declared.fault.StoreFault.TheVariants as store
use Rattle.worker.specs.declared.fault.WorkFault.TheVariants.{Store}
use Rattle.worker.specs.rules.Batches.{IsBatchCause, StopsBatch, TellsFront, ToldUpTo}
use Rattle.worker.specs.rules.DurableFailures.{StopsAtStore, IsDiskCause}

-- whatever the store refuses, it stops where the store is wanted
pub stops_at_store : (guest : Guest) (p : ProcessState) (fuel : ℕ) (exchanges : List Exchange)
    (steps : ℕ) (q : ProcessState) (why : StoreFault)
    → IsDiskCause guest p fuel exchanges steps q (Store why)
    → StopsAtStore guest p exchanges steps q
stops_at_store guest p fuel exchanges steps q store.TooBig h = inl (inr h.4)
stops_at_store guest p fuel exchanges steps q store.Full h = h.1
stops_at_store guest p fuel exchanges steps q store.TooLong h = h.1
stops_at_store guest p fuel exchanges steps q store.Damaged h = h.1
stops_at_store guest p fuel exchanges steps q (store.Layout why) h = h.1
stops_at_store guest p fuel exchanges steps q (store.Disk why) h = h.1
stops_at_store guest p fuel exchanges steps q store.Memory h = h.1
stops_at_store guest p fuel exchanges steps q store.Failed h = h.1

-- a batch stops there, or where the lines that waited are told
pub batch_stops_at_store : (guest : Guest) (p : ProcessState) (fuel : ℕ)
    (exchanges : List Exchange) (steps : ℕ) (q : ProcessState) (why : StoreFault)
    → IsBatchCause guest p fuel exchanges steps q (Store why)
    → StopsAtStore guest p exchanges steps q ⊎ StopsBatch guest p exchanges steps q
batch_stops_at_store guest p fuel exchanges steps q store.Full h = h.1
batch_stops_at_store guest p fuel exchanges steps q store.TooBig h =
    inl (stops_at_store guest p fuel exchanges steps q store.TooBig h)
batch_stops_at_store guest p fuel exchanges steps q store.TooLong h =
    inl (stops_at_store guest p fuel exchanges steps q store.TooLong h)
batch_stops_at_store guest p fuel exchanges steps q store.Damaged h =
    inl (stops_at_store guest p fuel exchanges steps q store.Damaged h)
batch_stops_at_store guest p fuel exchanges steps q (store.Layout why) h =
    inl (stops_at_store guest p fuel exchanges steps q (store.Layout why) h)
batch_stops_at_store guest p fuel exchanges steps q (store.Disk why) h =
    inl (stops_at_store guest p fuel exchanges steps q (store.Disk why) h)
batch_stops_at_store guest p fuel exchanges steps q store.Memory h =
    inl (stops_at_store guest p fuel exchanges steps q store.Memory h)
batch_stops_at_store guest p fuel exchanges steps q store.Failed h =
    inl (stops_at_store guest p fuel exchanges steps q store.Failed h)

-- where the store has failed a batch, the first of its lines were told, none to all
pub store_tells_front : {O : Type 0} (takes : Taking O) (untaken : Type 0) (why : StoreFault)
    (all : List Begun) (outlet outlet' : O) → ToldUpTo takes untaken (Store why) all outlet outlet'
    → TellsFront takes all outlet outlet'
store_tells_front takes untaken store.TooBig all outlet outlet' h =
    (all, [], sym (append-nil all), h)
store_tells_front takes untaken store.Full all outlet outlet' h = h
store_tells_front takes untaken store.TooLong all outlet outlet' h = h
store_tells_front takes untaken store.Damaged all outlet outlet' h = h
store_tells_front takes untaken (store.Layout why) all outlet outlet' h = h
store_tells_front takes untaken (store.Disk why) all outlet outlet' h = h
store_tells_front takes untaken store.Memory all outlet outlet' h = h
store_tells_front takes untaken store.Failed all outlet outlet' h = h
