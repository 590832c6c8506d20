-- Pushes into the sink of an area, one after another.
use Rattle.std.proofs.Common.{◌≡◌, ℕ, List, [], ◌∷◌, ◌++◌, refl, sym, ap, ◌∙◌, subst, append_assoc}
use Rattle.std.specs.Prelude.{Result, Ok, Err}
use Rattle.std.proofs.lemmas.List.{append-nil}
use Rattle.sector_disk.specs.declared.disk.Disk.{Ghosts}
use Rattle.disk_layout.specs.declared.geometry.Geometry.{Geometry}
use Rattle.snapshot.specs.declared.fault.SnapshotFault.{SnapshotFault}
use Rattle.state_image.specs.rules.Sinks.{joined, TakesPieces, Pushes}
use Rattle.worker_store.specs.declared.area_sink.AreaSink.{AreaSink}
use Rattle.worker_store.specs.Filling.{TakesBytes}
use Rattle.worker_store.specs.AreaSinks.{TakesPiece}
use Rattle.worker_store.proofs.FillLemmas.{takes_none, takes_then, takes_longer}

module _ {D : Type 0} {disk : Ghosts D} where
  piece_none : (a : AreaSink D disk) → TakesPiece a [] (Ok tt) a
  piece_none a = record {
    geometry = refl;
    same_snapshots = refl;
    same_disk = refl;
    takes = takes_none a.geometry a.snapshots.now (disk.medium a.disk.now);
  }

  piece_then : (a b c : AreaSink D disk) (x y : List ℕ) (said : Result (Unit {0}) SnapshotFault)
      → TakesPiece a x (Ok tt) b → TakesPiece b y said c → TakesPiece a (x ++ y) said c
  piece_then a b c x y said one two = record {
    geometry = two.geometry ∙ one.geometry;
    same_snapshots = two.same_snapshots ∙ one.same_snapshots;
    same_disk = two.same_disk ∙ one.same_disk;
    takes =
        takes_then a.geometry x y said a.snapshots.now b.snapshots.now c.snapshots.now
        (disk.medium a.disk.now) (disk.medium b.disk.now) (disk.medium c.disk.now) one.takes
        (subst (λ (g : Geometry).
        TakesBytes g y said b.snapshots.now c.snapshots.now (disk.medium b.disk.now)
        (disk.medium c.disk.now)) one.geometry two.takes);
  }

  piece_longer : (a b : AreaSink D disk) (x y : List ℕ) (fault : SnapshotFault)
      → TakesPiece a x (Err fault) b → TakesPiece a (x ++ y) (Err fault) b
  piece_longer a b x y fault one = record {
    geometry = one.geometry;
    same_snapshots = one.same_snapshots;
    same_disk = one.same_disk;
    takes = takes_longer a.geometry x y fault a.snapshots.now b.snapshots.now
        (disk.medium a.disk.now) (disk.medium b.disk.now) one.takes;
  }

  pieces_taken : (a z : AreaSink D disk) (pieces : List (List ℕ))
      → TakesPieces TakesPiece a pieces z → TakesPiece a (joined pieces) (Ok tt) z
  pieces_taken a z [] same = subst (λ (s : AreaSink D disk). TakesPiece a [] (Ok tt) s) (sym same)
      (piece_none a)
  pieces_taken a z (piece ∷ pieces) all =
      piece_then a all.0 z piece (joined pieces) (Ok tt) all.1 (pieces_taken all.0 z pieces all.2)

  -- all pushes of a call
  pub pushes_taken : (a z : AreaSink D disk) (bytes : List ℕ)
      (said : Result (Unit {0}) SnapshotFault) → Pushes TakesPiece a bytes said z
      → TakesPiece a bytes said z
  pushes_taken a z bytes (Ok done) pushed =
      let all : bytes ≡ joined pushed.taken =
      pushed.is ∙ ap (λ l. joined pushed.taken ++ l) pushed.stops.0
      ∙ append-nil (joined pushed.taken) in
      let taken = pieces_taken a pushed.between pushed.taken pushed.all in
      subst (λ (s : AreaSink D disk). TakesPiece a bytes (Ok tt) s) (sym pushed.stops.1)
      (subst (λ (l : List ℕ). TakesPiece a l (Ok tt) pushed.between) (sym all) taken)
  pushes_taken a z bytes (Err fault) pushed =
      let front : List ℕ = joined pushed.taken in
      let piece : List ℕ = pushed.stops.0 in
      let behind : List ℕ = pushed.stops.1 in
      let all : bytes ≡ (front ++ piece) ++ behind =
      pushed.is ∙ ap (λ l. front ++ l) pushed.stops.2 ∙ sym (append_assoc front piece behind) in
      let taken = pieces_taken a pushed.between pushed.taken pushed.all in
      subst (λ (l : List ℕ). TakesPiece a l (Err fault) z) (sym all)
      (piece_longer a z (front ++ piece) behind fault
      (piece_then a pushed.between z front piece (Err fault) taken pushed.stops.3))
