use Rattle.wasi_calls.proofs.Listings.{ListsOn}
use Rattle.wasi_calls.proofs.listing.put_entries.Given as goal

abbrev pub invariant-loop-place : goal.invariant-loop-place
invariant-loop-place l =
    ListsOn l.host.host.files l.directory l.cookie l.initial.into l.into l.done l.entry l.place
