use Rattle.std.proofs.Common.{◌≡◌, ◌+◌, ap, ◌∙◌, subst, inl, inr, refl, arith, rules}
use Rattle.sector_disk.specs.rules.DiskImage.{DiskImage}
use Rattle.sector_disk.specs.rules.Answered.{AnsweredCalls, Explains, unsynced_of, file_calls}
use Rattle.sector_disk.specs.rules.Answered.{faults_of}
use Rattle.sector_disk.specs.laws.Answered.{disk_images, whole_front}
use Rattle.sector_disk.proofs.CountLemmas.{answered_keeps, answered_grows}
use Rattle.sector_disk.specs.declared.file_call.FileCall.TheVariants.{Tore}
use Rattle.sector_disk.specs.rules.File.{answers_of}
use Rattle.sector_disk.proofs.Moments.{torn_none}
use Rattle.sector_disk.proofs.AnswerLemmas.{passes_on, failed_writes, refused_after}
use Rattle.sector_disk.proofs.file.FileDiskDisk.write.Goals as goal

pub returns-in-Ok-clause-writes : goal.returns-in-Ok-clause-writes
returns-in-Ok-clause-writes g c =
    let d = c.args.self.now in
    let now = c.and-self-in-Ok.result.log.items in
    let is = c.and-self-in-Ok.ensures in
    let on = λ (shown image : DiskImage) (both : Explains d.first.image now shown image).
    subst (λ (a : AnsweredCalls). Explains d.first.image a shown image) is both in
    let more : unsynced_of now ≡ unsynced_of d.past.log.items + 1 =
    ap unsynced_of is in
    record {
      inside = omega arith;
      whole = record {
        both = λ shown image both. let was = on shown image both in
            (was.0, was.1, was.3, was.6, record { front = was.2; within = was.4; is = was.7 });
        unsynced = more;
      };
      tears = record {
        both = λ shown image both.
            let was = on shown image both in
            let are = disk_images d.count d.first.image d.whole d.past.log.items was.0 was.1 was.3
            in (
              was.0,
              was.1,
              was.3,
              record {
                front = 512;
                within = omega arith;
                is = was.6 ∙ whole_front d.count was.0 c.args.sector c.args.from.now are.0
                    c.told-from;
              },
              record { front = was.2; within = was.4; is = was.7 },
            );
        unsynced = omega arith;
      };
      counts = record {
        keeps = λ t n le since.
            answered_keeps d.past.log.items now _ t n is since;
        grows = λ t n le since. answered_grows d.past.log.items now _
            (unsynced_of d.past.log.items + 1) t n is (omega arith) since;
      };
      calls = record {
        all = ap file_calls is;
        begun = (0, ap file_calls is);
      };
      counted = omega arith;
      passes = passes_on d.count _ _ d.first.image _ _ _ d.past.log.items now is;
      cause = search rules;
    }

-- nothing is asked past the last sector
pub returns-then-sector-self-clause-writes : goal.returns-then-sector-self-clause-writes
returns-then-sector-self-clause-writes g c = let past = c.if-sector-self.true in record {
  inside = tt;
  whole = tt;
  tears = record {
    both = λ shown image both. (
      shown,
      image,
      both,
      torn_none 512 c.args.sector c.args.from.now shown,
      torn_none 512 c.args.sector c.args.from.now image,
    );
    unsynced = omega arith;
  };
  counts = record { keeps = λ t n le since. since; grows = λ t n le since. inl since };
  calls = record { all = tt; begun = (1, refl) };
  counted = omega arith;
  passes = record {
    sectors = refl;
    fault_plan = refl;
    room = refl;
    faults = omega arith;
    later = omega arith;
    nothing_else = λ t image le crashed. inl crashed;
  };
  cause = record {
    fault = λ err. inl (inl (omega (arith, past)));
    range = λ e. omega (arith, past);
    no_memory = λ e. cc;
  };
}

-- a write that failed
pub returns-in-Err-clause-writes : goal.returns-in-Err-clause-writes
returns-in-Err-clause-writes g c =
    let d = c.args.self.now in
    let now = c.and-self-in-Err.result.log.items in
    let is = c.and-self-in-Err.ensures in
    let on = λ (shown image : DiskImage) (both : Explains d.first.image now shown image).
    subst (λ (a : AnsweredCalls). Explains d.first.image a shown image) is both in
    let more : unsynced_of now ≡ unsynced_of d.past.log.items + 1 = ap unsynced_of is in
    let faults : faults_of now ≡ 1 + faults_of d.past.log.items = ap faults_of is in
    record {
      inside = tt;
      whole = tt;
      tears = record {
        both = λ shown image both. let was = on shown image both in (
          was.0,
          was.1,
          was.4,
          record { front = was.2; within = was.5; is = was.8 },
          record {
            front = was.3;
            within = let most = was.5 in let front = was.6 in omega (arith, most, front);
            is = was.9;
          },
        );
        unsynced = omega (arith, more);
      };
      counts = record {
        keeps = λ t n le since.
            answered_keeps d.past.log.items now _ t n is since;
        grows = λ t n le since. answered_grows d.past.log.items now _
            (unsynced_of d.past.log.items + 1) t n is (omega arith) since;
      };
      calls = record { all = tt; begun = (0, ap file_calls is) };
      counted = omega arith;
      passes = passes_on d.count _ _ d.first.image _ _ _ d.past.log.items now is;
      cause = record {
        fault = λ err. inr (omega (arith, faults));
        range = λ e. absurd (cc);
        no_memory = λ e. cc;
      };
    }

pub returns-then-is_given_up-clause-writes : goal.returns-then-is_given_up-clause-writes
returns-then-is_given_up-clause-writes g c =
    let d = c.args.self.now in
    let now = c.and-self.result.log.items in
    failed_writes d.count _ _ d.first.image _ _ (answers_of d) now c.and-self.ensures
    c.args.sector _

pub returns-then-is_given_up-clause-logged : goal.returns-then-is_given_up-clause-logged
returns-then-is_given_up-clause-logged g c =
    refused_after (Tore c.args.sector) c.args.from.now (answers_of c.args.self.now)
    c.and-self.result.log.items
    c.is_given_up.result c.is_given_up.ensures c.if-is_given_up.true c.and-self.ensures
