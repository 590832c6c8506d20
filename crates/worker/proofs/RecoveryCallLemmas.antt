-- How many calls of the disk a recovery begins after its reads, and for what it has room then.
use Rattle.std.proofs.Common.{◌+◌, ◌≤◌, ℕ, subst, sym, arith, inl, inr}
use Rattle.std.specs.Prelude.{Result, Ok, Err, IfOk}
use Rattle.sector_disk.specs.rules.Medium.{Medium, CallsUpTo}
use Rattle.disk_layout.specs.rules.Places.{Geometry, total_sectors}
use Rattle.record_replay.specs.rules.Calls.{Taking}
use Rattle.worker.specs.Revivals.{RevivesFound}
use Rattle.worker.specs.declared.found.Found.{Found}
use Rattle.worker.specs.declared.recover_fault.RecoverFault.{RecoverFault}
use Rattle.worker.specs.rules.DurableValues.{DurableValue}

pub none_called : (few : ℕ) (m : Medium) → CallsUpTo few m m
none_called few m = omega arith

-- those of the next generation, or none
pub revival_calls : {D O : Type 0} (medium : D → Medium) (takes : Taking O) (found : Found)
    (result : Result DurableValue RecoverFault) (mid new : D) (outlet outlet' : O)
    → RevivesFound medium takes found result mid new outlet outlet'
    → CallsUpTo ((medium mid).sectors + 2) (medium mid) (medium new)
revival_calls medium takes found (Ok w) mid new outlet outlet' revives =
    let opens = revives.1 in
    let writes = opens.writes in
    writes.counted
revival_calls medium takes found (Err why) mid new outlet outlet' (inl stops) =
    subst (λ d. CallsUpTo ((medium mid).sectors + 2) (medium mid) (medium d)) (sym stops.same)
    (none_called ((medium mid).sectors + 2) (medium mid))
revival_calls medium takes found (Err why) mid new outlet outlet' (inr for) =
    let none = for.none in
    let writes = none.writes in
    writes.counted

-- the worker has the places of what was found
pub revival_room : {D O : Type 0} (medium : D → Medium) (takes : Taking O) (found : Found)
    (result : Result DurableValue RecoverFault) (mid new : D) (outlet outlet' : O)
    → total_sectors found.geometry ≤ (medium mid).sectors
    → RevivesFound medium takes found result mid new outlet outlet'
    → IfOk result (λ w. total_sectors w.store.geometry ≤ (medium new).sectors)
revival_room medium takes found (Ok w) mid new outlet outlet' room revives =
    let opens = revives.1 in
    let writes = opens.writes in
    let passes = writes.passes in
    let sectors = passes.sectors in
    subst (λ (g : Geometry). total_sectors g ≤ (medium new).sectors) (sym opens.placed)
    (omega (arith, room, sectors))
revival_room medium takes found (Err why) mid new outlet outlet' room revives = tt
