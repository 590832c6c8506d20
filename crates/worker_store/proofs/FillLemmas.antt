-- Pushes into an area, one after another.
use Rattle.std.proofs.Common.{◌≡◌, ◌⊎◌, ◌<◌, ◌≤◌, ℕ, List, [], ◌++◌, refl, inl, inr, ⊎_elim, arith}
use Rattle.std.specs.Prelude.{Result, Ok, Err}
use Rattle.std.proofs.lemmas.Bool.{false≢true}
use Rattle.std.proofs.lemmas.List.{length-append}
use Rattle.sector_disk.specs.rules.Medium.{Medium}
use Rattle.sector_disk.specs.declared.fault.DiskFault.{DiskFault}
use Rattle.disk_layout.specs.declared.geometry.Geometry.{Geometry}
use Rattle.disk_layout.specs.rules.Places.{journal_place}
use Rattle.snapshot.specs.declared.fault.SnapshotFault.{SnapshotFault}
use Rattle.snapshot.specs.declared.fault.SnapshotFault.TheVariants.{TooBig, Disk}
use Rattle.snapshot.specs.declared.snapshots.Snapshots.{Snapshots}
use Rattle.snapshot.specs.rules.Images.{PushesBytes, FailsInArea}
use Rattle.snapshot.proofs.PushLemmas.{pushes_none, pushes_then, pushes_longer, fails_then}
use Rattle.snapshot.proofs.PushLemmas.{ok_no_err}
use Rattle.worker_store.specs.Filling.{TakesBytes}

-- one piece
pub takes_one : (geometry : Geometry) (bytes : List ℕ) (said : Result (Unit {0}) SnapshotFault)
    (was now : Snapshots) (old new : Medium) → journal_place geometry ≤ old.sectors
    → PushesBytes geometry bytes said was now old new
    → TakesBytes geometry bytes said was now old new
takes_one geometry bytes said was now old new room one = record {
  into = λ w begun.
      let pushed = one.pushes w begun in
      let within = pushed.1 in
      let big = within.too_big in
      record {
        image = pushed.0;
        is = pushed.2;
        pushes = within.pushes;
        too_big = big.0;
        cause = λ is_err.
            ⊎_elim (λ is. inl is) (λ (d : (fault : DiskFault) × (said ≡ Err (Disk fault))
            × ((old.sectors < journal_place geometry) ⊎ FailsInArea geometry w old new)). inr (
              d.0,
              d.1,
              ⊎_elim (λ (less : old.sectors < journal_place geometry). absurd (omega (
                arith,
                less,
                room,
              ))) (λ fails. fails) d.2,
            ))
            (within.cause is_err);
      };
}

-- no byte
pub takes_none : (geometry : Geometry) (s : Snapshots) (m : Medium)
    → TakesBytes geometry [] (Ok tt) s s m m
takes_none geometry s m = record {
  into = λ w begun. record {
    image = w;
    is = begun;
    pushes = pushes_none geometry w m;
    too_big = λ same. absurd (ok_no_err tt TooBig same);
    cause = λ none. absurd (false≢true none);
  };
}

-- these bytes, and then others
pub takes_then : (geometry : Geometry) (x y : List ℕ) (said : Result (Unit {0}) SnapshotFault)
    (a b c : Snapshots) (old mid new : Medium) → TakesBytes geometry x (Ok tt) a b old mid
    → TakesBytes geometry y said b c mid new → TakesBytes geometry (x ++ y) said a c old new
takes_then geometry x y said a b c old mid new one two = record {
  into = λ w begun.
      let first = one.into w begun in
      let next = two.into first.image first.is in
      let done = first.pushes in
      record {
        image = next.image;
        is = next.is;
        pushes = pushes_then geometry x y said w first.image next.image old mid new first.pushes
            next.pushes;
        too_big = λ big. omega (arith, next.too_big big, done.longer, length-append x y);
        cause = λ is_err.
            ⊎_elim (λ big. inl big)
            (λ (d : (fault : DiskFault) × (said ≡ Err (Disk fault))
            × FailsInArea geometry first.image mid new). inr (
              d.0,
              d.1,
              fails_then geometry x w first.image old mid new first.pushes d.2,
            ))
            (next.cause is_err);
      };
}

-- after an error the bytes after are as good as pushed
pub takes_longer : (geometry : Geometry) (x y : List ℕ) (fault : SnapshotFault) (a b : Snapshots)
    (old new : Medium) → TakesBytes geometry x (Err fault) a b old new
    → TakesBytes geometry (x ++ y) (Err fault) a b old new
takes_longer geometry x y fault a b old new one = record {
  into = λ w begun.
      let all = one.into w begun in
      let long = length-append x y in
      let said : Result (Unit {0}) SnapshotFault = Err fault in
      record {
        image = all.image;
        is = tt;
        pushes = pushes_longer geometry x (x ++ y) said said w all.image old new
            (omega (arith, long)) refl all.pushes;
        too_big = λ big. omega (arith, all.too_big big, long);
        cause = all.cause;
      };
}
