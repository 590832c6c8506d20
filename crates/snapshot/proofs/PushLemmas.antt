-- Sectors that are stored, and bytes that are pushed, one call after another.
use Rattle.std.proofs.Common.{◌≡◌, ◌<◌, ◌≤◌, ℕ, ◌+◌, ◌-◌, min, List, [], ◌++◌, length, refl, sym}
use Rattle.std.proofs.Common.{inl, inr, ⊎_elim, ◌∙◌, ap, subst, arith, append_assoc, length-append}
use Rattle.std.specs.Prelude.{Result, Ok, Err, OnOk, IsErr, IsTrue}
use Rattle.std.proofs.lemmas.Bool.{false≢true}
use Rattle.std.proofs.lemmas.Result.{IfOk-from_err, on_ok_weaker}
use Rattle.std.proofs.lemmas.List.{append-nil}
use Rattle.sector_disk.specs.rules.Medium.{Medium, spare}
use Rattle.sector_disk.proofs.CallLemmas.{no_calls}
use Rattle.sector_disk.proofs.CountLemmas.{counts_same, counts_more, counts_then, unsynced_within}
use Rattle.disk_layout.specs.declared.geometry.Geometry.{Geometry}
use Rattle.disk_layout.specs.rules.Places.{area_place, journal_place}
use Rattle.sector_disk.specs.declared.fault.DiskFault.{DiskFault}
use Rattle.snapshot.specs.Store.{IsStoredAs, StoresSector}
use Rattle.snapshot.specs.Writing.{written_length, IsGiven, SparesSectors}
use Rattle.snapshot.specs.declared.writer.AreaWriter.{AreaWriter}
use Rattle.snapshot.specs.declared.writing.Writing.{Writing}
use Rattle.snapshot.specs.rules.Images.{AreaPart, part_behind, StoresSectors, PushesNext}
use Rattle.snapshot.specs.rules.Images.{FailsInArea, EndsImage}
use Rattle.snapshot.specs.declared.fault.SnapshotFault.{SnapshotFault}
use Rattle.snapshot.specs.declared.fault.SnapshotFault.TheVariants.{TooBig, Disk}
use Rattle.snapshot.specs.declared.snapshots.Snapshots.{Snapshots}
use Rattle.snapshot.specs.declared.snapshots.SaveState.{SaveState}
use Rattle.snapshot.specs.declared.snapshots.SaveState.TheVariants as state
use Rattle.snapshot.specs.rules.Snapshots.{filled_by, has_failed, is_failed, FitsArea, IsBegun}
use Rattle.snapshot.specs.rules.Snapshots.{CanEnd}
use Rattle.snapshot.proofs.AreaLemmas.{area_in}
use Rattle.snapshot.proofs.SpareLemmas.{spares_none, spares_one, spares_then}
use Rattle.snapshot.proofs.StoreCalls.{stores_none, begun_longer, performs_at, performs_then}
use Rattle.snapshot.proofs.WriterLemmas.{store_fills, none_fills, more_fills}

pub on_err : {T E : Type 0} (P : Type 0) (r : Result T E) → IsErr r → OnOk r P
on_err P r is_err = IfOk-from_err r (λ _. P) is_err

pub always : {T E P : Type 0} (r : Result T E) → P → OnOk r P
always (Ok x) p = p
always (Err e) p = tt

-- ---- sectors

abbrev pub part : ℕ → Writing → ℕ → ℕ → AreaPart
part g writing from count = record {
  generation = g;
  writing = writing;
  from = from;
  count = count;
}

pub stores_no_sector : {T E : Type 0} (geometry : Geometry) (g : ℕ) (writing : Writing) (from : ℕ)
    (r : Result T E) (m : Medium) → StoresSectors geometry (part g writing from 0) r m m
stores_no_sector geometry g writing from r m =
    let at : ℕ = area_place geometry g in
    let none : from ≡ from + 0 = omega arith in
    record {
      any_moment = none_fills geometry g m;
      unsynced = always r (omega arith);
      whole = λ is. always r (omega arith);
      spared = λ is. always r (subst (λ n. SparesSectors at from n m m) none
          (spares_none at from m));
      counts = counts_same m _;
      calls = (
        [],
        stores_none writing (at + from),
        record {
          all = always r refl;
          begun = no_calls [] m;
        },
      );
      asks = omega arith;
    }

-- after an error the sectors behind are as good as begun
pub stores_longer : {T U E F : Type 0} (geometry : Geometry) (g : ℕ) (writing : Writing)
    (from n m : ℕ) (q : Result U F) (r : Result T E) (old new : Medium) → n ≤ m → IsErr r
    → StoresSectors geometry (part g writing from n) q old new
    → StoresSectors geometry (part g writing from m) r old new
stores_longer geometry g writing from n m q r old new le is_err one =
    let room : ℕ = geometry.area_sectors - from in
    let made = one.calls in
    let begun = begun_longer writing (area_place geometry g + from) n m old new le (
      made.0,
      made.1,
      made.2.begun,
    ) in
    record {
      any_moment = one.any_moment;
      unsynced = on_err _ r is_err;
      whole = λ is. on_err _ r is_err;
      spared = λ is. on_err _ r is_err;
      counts = counts_more (old.unsynced + min n room) (old.unsynced + min m room) old new
          (omega (arith, le)) one.counts;
      calls = (begun.0, begun.1, record { all = on_err _ r is_err; begun = begun.2 });
      asks = omega (arith, le, one.asks);
    }

-- One sector that was stored. Its answer may be handed on under another type of errors.
pub one_stored : {T U E : Type 0} (geometry : Geometry) (g : ℕ) (writing : Writing) (from k : ℕ)
    (bytes : List ℕ) (q : Result U DiskFault) (r : Result T E) (old new : Medium)
    → ((P : Type 0) → OnOk q P → OnOk r P) → k ≡ area_place geometry g + from
    → from < geometry.area_sectors → journal_place geometry ≤ old.sectors
    → StoresSector k bytes writing q old new
    → StoresSectors geometry (part g writing from 1) r old new
one_stored geometry g writing from k bytes q r old new ok at below places stored =
    let place : ℕ = area_place geometry g in
    let one = subst (λ j. StoresSector j bytes writing q old new) at stored in
    let made = one.calls in
    let inside : place + from < old.sectors =
    omega (arith, area_in geometry g from below, places) in
    record {
      any_moment = store_fills geometry g (place + from) bytes old new (omega arith)
          (omega (arith, below)) one.any_moment;
      unsynced = always r one.unsynced;
      whole = λ is. ok _ (subst (λ (x : Writing). IsStoredAs x (place + from) bytes q old new) is
          one.told);
      spared = λ is. ok _ (on_ok_weaker q
          (λ whole. spares_one place from bytes old new inside whole
          (subst (λ (x : Writing). IsStoredAs x (place + from) bytes q old new) is one.told))
          one.whole);
      counts = counts_more (old.unsynced + 1)
          (old.unsynced + min 1 (geometry.area_sectors - from)) old new (omega (arith, below))
          one.counts;
      calls = (made.0, made.1, record { all = ok _ made.2.all; begun = made.2.begun });
      asks = omega (arith, below, one.counted);
    }

pub stores_then : {T E F : Type 0} (geometry : Geometry) (g : ℕ) (writing : Writing)
    (from n m : ℕ) (r : Result T E) (old mid new : Medium)
    → StoresSectors {T = Unit {0}} {E = F} geometry (part g writing from n) (Ok tt) old mid
    → StoresSectors geometry (part g writing (from + n) m) r mid new
    → StoresSectors geometry (part g writing from (n + m)) r old new
stores_then geometry g writing from n m r old mid new one two =
    let leaves = one.any_moment in
    let p = leaves.passes in
    let at : ℕ = area_place geometry g in
    let room : ℕ = geometry.area_sectors - from in
    let rest : ℕ = geometry.area_sectors - (from + n) in
    let few : mid.unsynced ≤ old.unsynced + min n room =
    unsynced_within (old.unsynced + min n room) old mid (omega arith) p.later one.counts in
    let made = one.calls in
    let first : at + (from + n) ≡ at + from + n = omega arith in
    let last : from + n + m ≡ from + (n + m) = omega arith in
    record {
      any_moment = more_fills geometry g old mid new leaves two.any_moment;
      unsynced = on_ok_weaker r (λ (next : new.unsynced ≤ mid.unsynced + m).
          omega (arith, next, one.unsynced)) two.unsynced;
      whole = λ is. let first = one.whole is in on_ok_weaker r
          (λ (next : new.unsynced ≡ mid.unsynced + m). omega (arith, next, first)) (two.whole is);
      spared = λ is. on_ok_weaker r (λ (next : SparesSectors at (from + n) (from + n + m) mid new).
          subst (λ k. SparesSectors at from k old new) last
          (spares_then at from (from + n) (from + n + m) old mid new
          (omega arith) (omega arith) p.later (one.spared is) next)) (two.spared is);
      counts = counts_then (old.unsynced + min n room) (mid.unsynced + min m rest)
          (old.unsynced + min (n + m) room) old mid new (omega arith)
          (omega (arith, few, one.unsynced)) p.later one.counts two.counts;
      calls = performs_then writing (at + from) n m old mid new (made.0, made.1, made.2.all) r
          (performs_at r mid new
          (ap (λ k. record { writing = writing; first = k; count = m }) first) two.calls);
      asks = omega (arith, one.asks, two.asks);
    }

-- ---- bytes

-- how many sectors are full then
pub full_then : (a b : AreaWriter) (n : ℕ) → written_length b ≡ written_length a + n
    → b.sectors ≡ a.sectors + filled_by a n
full_then a b n longer = let x = a.open in let y = b.open in omega (arith, longer, x, y)

filled_both : (a b : AreaWriter) (n m : ℕ) → written_length b ≡ written_length a + n
    → filled_by a n + filled_by b m ≡ filled_by a (n + m)
filled_both a b n m longer = let x = a.open in let y = b.open in omega (arith, longer, x, y)

pub pushes_none : {E : Type 0} (geometry : Geometry) (w : AreaWriter) (m : Medium)
    → PushesNext {T = Unit {0}} {E = E} geometry [] (Ok tt) w w m m
pushes_none {E = E} geometry w m =
    let open_one = w.open in
    let none : 0 ≡ filled_by w 0 = omega (arith, open_one) in
    let r : Result (Unit {0}) E = Ok tt in
    record {
      stores = subst (λ n. StoresSectors geometry (part_behind w n) r m m) none
          (stores_no_sector geometry w.generation w.writing w.sectors r m);
      same = record { generation = refl; version = refl; writing = refl };
      pushed = λ before given. subst (λ (l : List ℕ). IsGiven geometry m w l)
          (sym (append-nil before)) given;
      longer = omega arith;
      fits = λ fits. fits;
    }

pub pushes_then : {T E F : Type 0} (geometry : Geometry) (x y : List ℕ) (r : Result T E)
    (a b c : AreaWriter) (old mid new : Medium)
    → PushesNext {T = Unit {0}} {E = F} geometry x (Ok tt) a b old mid
    → PushesNext geometry y r b c mid new
    → PushesNext geometry (x ++ y) r a c old new
pushes_then geometry x y r a b c old mid new one two =
    let first = one.same in
    let next = two.same in
    let long = length-append x y in
    let n : ℕ = filled_by a (length x) in
    let m : ℕ = filled_by b (length y) in
    let count : n + m ≡ filled_by a (length (x ++ y)) =
    filled_both a b (length x) (length y) one.longer ∙ ap (λ k. filled_by a k) (sym long) in
    let full : b.sectors ≡ a.sectors + n = full_then a b (length x) one.longer in
    let behind : part_behind b m ≡ part a.generation a.writing (a.sectors + n) m =
    rw (first.generation, first.writing, full) refl in
    record {
      stores = subst (λ k. StoresSectors geometry (part_behind a k) r old new) count
          (stores_then geometry a.generation a.writing a.sectors n m r old mid new one.stores
          (subst (λ (p : AreaPart). StoresSectors geometry p r mid new) behind two.stores));
      same = record {
        generation = next.generation ∙ first.generation;
        version = next.version ∙ first.version;
        writing = next.writing ∙ first.writing;
      };
      pushed = on_ok_weaker r
          (λ (more : (before : List ℕ) → IsGiven geometry mid b before
          → IsGiven geometry new c (before ++ y)). λ before given.
          subst (λ (l : List ℕ). IsGiven geometry new c l) (append_assoc before x y)
          (more (before ++ x) (one.pushed before given))) two.pushed;
      longer = on_ok_weaker r (λ (more : written_length c ≡ written_length b + length y).
          omega (arith, more, one.longer, long)) two.longer;
      fits = on_ok_weaker r (λ (more : FitsArea geometry b → FitsArea geometry c). λ fits.
          more (one.fits fits)) two.fits;
    }

-- what fails behind bytes that were pushed
pub fails_then : {F : Type 0} (geometry : Geometry) (x : List ℕ) (a b : AreaWriter)
    (old mid new : Medium) → PushesNext {T = Unit {0}} {E = F} geometry x (Ok tt) a b old mid
    → FailsInArea geometry b mid new → FailsInArea geometry a old new
fails_then geometry x a b old mid new one fails =
    let stores = one.stores in
    let leaves = stores.any_moment in
    let p = leaves.passes in
    let full = full_then a b (length x) one.longer in
    let few = stores.unsynced in
    ⊎_elim
    (λ (less : spare mid + b.sectors < geometry.area_sectors).
    (let r : FailsInArea geometry a old new = inl (omega (arith, less, p.room, few, full)) in r))
    (λ (more : mid.faults < new.faults). inr (omega (arith, more, p.faults)))
    fails

-- after an error more bytes are as good as pushed
pub pushes_longer : {T U E F : Type 0} (geometry : Geometry) (x all : List ℕ) (q : Result U F)
    (r : Result T E) (a b : AreaWriter) (old new : Medium) → length x ≤ length all → IsErr r
    → PushesNext geometry x q a b old new → PushesNext geometry all r a b old new
pushes_longer geometry x all q r a b old new le is_err one = record {
  stores = stores_longer geometry a.generation a.writing a.sectors (filled_by a (length x))
      (filled_by a (length all)) q r old new (omega (arith, le)) is_err one.stores;
  same = one.same;
  pushed = on_err _ r is_err;
  longer = on_err _ r is_err;
  fits = on_err _ r is_err;
}

-- no byte, and then an error
pub pushes_nothing : {T E : Type 0} (geometry : Geometry) (bytes : List ℕ) (r : Result T E)
    (w : AreaWriter) (m : Medium) → IsErr r → PushesNext geometry bytes r w w m m
pushes_nothing {E = E} geometry bytes r w m is_err =
    let none : Result (Unit {0}) E = Ok tt in
    pushes_longer geometry [] bytes none r w w m m (omega arith) is_err (pushes_none geometry w m)

-- ---- the image that is begun

pub one_image : (t : SaveState) (a b : AreaWriter) → t ≡ state.Begun a → t ≡ state.Begun b → a ≡ b
one_image t a b one other = cc

pub ok_no_err : {T E : Type 0} (x : T) (e : E) → Ok x ≡ Err e → ⊥
ok_no_err x e same = cc

pub disk_no_big : (r : Result (Unit {0}) SnapshotFault) (fault : DiskFault) → r ≡ Err (Disk fault)
    → r ≡ Err TooBig → ⊥
disk_no_big r fault disk big = cc

pub can_end : (geometry : Geometry) (s : Snapshots) (w : AreaWriter) → IsBegun s w
    → FitsArea geometry w → CanEnd geometry s.state
can_end geometry s w begun fits = subst (λ t. CanEnd geometry t) (sym begun) fits

pub begun_works : (s : Snapshots) (w : AreaWriter) → IsBegun s w → IsTrue (is_failed s) → ⊥
begun_works s w begun failed = false≢true (sym (ap (λ t. has_failed t) begun) ∙ failed)

-- what was ended, under another type of errors
pub ends_as : {T U E F : Type 0} (geometry : Geometry) (q : Result U F) (r : Result T E)
    (w : AreaWriter) (old new : Medium) → ((P : Type 0) → OnOk q P → OnOk r P)
    → (IsErr r → IsErr q) → EndsImage geometry q w old new → EndsImage geometry r w old new
ends_as geometry q r w old new ok err one = let made = one.calls in record {
  any_moment = one.any_moment;
  done = ok _ one.done;
  all_synced = ok _ one.all_synced;
  counts = one.counts;
  spared = λ is. ok _ (one.spared is);
  whole = λ is some. ok _ (one.whole is some);
  calls = (made.0, made.1, record { all = ok _ made.2.all; begun = made.2.begun });
  cause = λ is_err. one.cause (err is_err);
  asks = one.asks;
}
