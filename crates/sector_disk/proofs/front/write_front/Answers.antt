use Rattle.std.proofs.Common.{List, [], ◌∷◌, ℕ, IsTrue, ap, ◌∙◌, subst, sym, arith, rules}
use Rattle.sector_disk.specs.rules.Medium.{Holds, Writes}
use Rattle.sector_disk.proofs.Moments.{no_write}
use Rattle.sector_disk.proofs.FrontLemmas.{merged_tears, merged_takes, taken_of, takes_of, made_of}
use Rattle.sector_disk.proofs.CallLemmas.{begun_since, none_begun}
use Rattle.sector_disk.specs.declared.disk_call.DiskCall.TheVariants.{WriteOf}
use Rattle.sector_disk.proofs.front.write_front.Goals as goal

pub returns-clause-leaves : goal.returns-clause-leaves
returns-clause-leaves g c =
    let old = g.D.Disk.medium c.args.disk.now in
    let mid = g.D.Disk.medium c.read.new.self in
    let new = g.D.Disk.medium c.write.new.self in
    let k = c.args.sector in
    let r = c.read.ensures in
    let holds : Holds mid k c.read.new.into =
    search (rules, c.if-is_err.ensures, c.read.ensures.bytes) in
    let writes =
    subst (λ (l : List ℕ). Writes k l c.write.result mid new) c.leave_front.ensures
    c.write.ensures in
    let takes = λ (taken : IsTrue c.is_ok.result). takes_of c.write.result k _ mid new writes
    (subst IsTrue c.is_ok.ensures.value taken) in
    record {
      tears = merged_tears old mid new k c.args.front c.args.from.now c.read.new.into c.requires
          c.told-from c.read.array_long r.stays holds writes.tears;
      unsynced = let t = writes.tears in let a = t.unsynced in let b = r.unsynced in omega arith;
      exactly = λ taken. merged_takes old mid new k c.args.front c.args.from.now c.read.new.into
          c.requires c.told-from c.read.array_long r.stays holds (takes taken);
      counts = λ taken. let t = takes taken in let a = t.unsynced in let b = r.unsynced in
          omega arith;
      called = λ taken. let all =
          made_of c.write.result k _ mid new writes (subst IsTrue c.is_ok.ensures.value taken) in
          all ∙ ap (λ l. WriteOf k ∷ l) r.calls;
      begun = begun_since (WriteOf k ∷ []) old mid new r.calls writes.calls.begun;
      taken = λ lt room same.
          let p = r.passes in
          let q = writes.passes in
          let sectors = p.sectors in
          let rooms = p.room in
          let unsynced = r.unsynced in
          let before = p.faults in
          let after = q.faults in
          subst IsTrue (sym c.is_ok.ensures.value) (taken_of c.write.result k _ mid new writes
          (omega arith) (omega arith) (omega arith));
    }

pub returns-then-is_err-clause-leaves : goal.returns-then-is_err-clause-leaves
returns-then-is_err-clause-leaves g c =
    let old = g.D.Disk.medium c.args.disk.now in
    let mid = g.D.Disk.medium c.read.new.self in
    let r = c.read.ensures in
    record {
      tears = no_write old mid c.args.front c.args.sector c.args.from.now r.stays;
      unsynced = omega (arith, r.unsynced);
      exactly = search rules;
      counts = search rules;
      called = search rules;
      begun = none_begun (WriteOf c.args.sector ∷ []) old mid r.calls;
      taken = search rules;
    }
