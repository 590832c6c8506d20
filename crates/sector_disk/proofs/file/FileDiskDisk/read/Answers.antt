use Rattle.std.proofs.Common.{◌≡◌, ap, subst, arith, rules}
use Rattle.sector_disk.specs.rules.Answered.{AnsweredCalls, Explains, unsynced_of, file_calls}
use Rattle.sector_disk.specs.laws.Answered.{read_since}
use Rattle.sector_disk.proofs.CountLemmas.{answered_keeps, answered_grows}
use Rattle.sector_disk.specs.declared.file_call.FileCall.TheVariants.{Failed}
use Rattle.sector_disk.specs.declared.file_call.Failure.TheVariants.{OfRead}
use Rattle.sector_disk.specs.declared.file_call.TheConstants.{NO_BYTES}
use Rattle.sector_disk.specs.rules.File.{answers_of}
use Rattle.sector_disk.proofs.AnswerLemmas.{passes_on, failed_reads, refused_after, failed_after}
use Rattle.sector_disk.proofs.file.FileDiskDisk.read.Goals as goal

pub returns-in-Ok-clause-reads : goal.returns-in-Ok-clause-reads
returns-in-Ok-clause-reads g c =
    let d = c.args.self.now in
    let now = c.and-self-in-Ok.result.log.items in
    let is = c.and-self-in-Ok.ensures in
    let same : unsynced_of now ≡ unsynced_of d.past.log.items =
    ap unsynced_of is in
    record {
      inside = omega arith;
      bytes = λ image shows. let on =
          subst (λ (a : AnsweredCalls). Explains d.first.image a image shows.0) is shows.1
          in on.1;
      stays = record {
        crash_pairs = λ shown image both. let on =
            subst (λ (a : AnsweredCalls). Explains d.first.image a shown image) is both in
            on.0;
        since = λ t shown image le both.
            read_since d.first.image t now d.past.log.items image shown is
            le both;
        unsynced = omega arith;
      };
      unsynced = same;
      counts = record {
        keeps = λ t n le since.
            answered_keeps d.past.log.items now _ t n is since;
        grows = λ t n le since. answered_grows d.past.log.items now _
            (unsynced_of d.past.log.items) t n is (omega arith) since;
      };
      calls = ap file_calls is;
      counted = omega arith;
      passes = passes_on d.count _ _ d.first.image _ _ _ d.past.log.items now is;
      cause = search rules;
    }

pub returns-then-is_given_up-clause-reads : goal.returns-then-is_given_up-clause-reads
returns-then-is_given_up-clause-reads g c =
    let d = c.args.self.now in
    let now = c.and-self.result.log.items in
    failed_reads d.count _ _ d.first.image _ _ (answers_of d) now c.and-self.ensures c.args.sector _

pub returns-in-Err-clause-reads : goal.returns-in-Err-clause-reads
returns-in-Err-clause-reads g c =
    let d = c.args.self.now in
    let now = c.and-self-in-Err.result.log.items in
    failed_reads d.count _ _ d.first.image _ _ (answers_of d) now c.and-self-in-Err.ensures
    c.args.sector _

pub returns-then-is_given_up-clause-logged : goal.returns-then-is_given_up-clause-logged
returns-then-is_given_up-clause-logged g c =
    refused_after (Failed OfRead) NO_BYTES (answers_of c.args.self.now)
    c.and-self.result.log.items
    c.is_given_up.result c.is_given_up.ensures c.if-is_given_up.true c.and-self.ensures

pub returns-in-Err-clause-logged : goal.returns-in-Err-clause-logged
returns-in-Err-clause-logged g c =
    failed_after (Failed OfRead) NO_BYTES (answers_of c.args.self.now)
    c.and-self-in-Err.result.log.items
    c.is_given_up.result c.is_given_up.ensures c.if-is_given_up.false c.and-self-in-Err.ensures
