use Rattle.std.proofs.Common.{◌≡◌, ap, sym, subst, arith, rules}
use Rattle.sector_disk.specs.rules.DiskImage.{DiskImage}
use Rattle.sector_disk.specs.rules.Answered.{AnsweredCalls, Explains, unsynced_of, file_calls}
use Rattle.sector_disk.specs.laws.Answered.{stays, synced_since}
use Rattle.sector_disk.proofs.CountLemmas.{answered_keeps, answered_grows}
use Rattle.sector_disk.specs.declared.file_call.FileCall.TheVariants.{Failed}
use Rattle.sector_disk.specs.declared.file_call.Failure.TheVariants.{OfSync}
use Rattle.sector_disk.specs.declared.file_call.TheConstants.{NO_BYTES}
use Rattle.sector_disk.specs.rules.File.{answers_of}
use Rattle.sector_disk.proofs.AnswerLemmas.{passes_on, failed_syncs, refused_after, failed_after}
use Rattle.sector_disk.proofs.file.FileDiskDisk.sync.Goals as goal

pub returns-in-Ok-clause-syncs : goal.returns-in-Ok-clause-syncs
returns-in-Ok-clause-syncs g c =
    let d = c.args.self.now in
    let now = c.and-self-in-Ok.result.log.items in
    let is = c.and-self-in-Ok.ensures in
    let on = λ (shown image : DiskImage) (both : Explains d.first.image now shown image).
    subst (λ (a : AnsweredCalls). Explains d.first.image a shown image) is both in
    let none : unsynced_of now ≡ 0 = ap unsynced_of is in
    record {
      all_synced = record {
        same = λ shown image both. let was = on shown image both in was.2;
        unsynced = none;
      };
      stays = record {
        crash_pairs = λ shown image both.
            let was = on shown image both in
            subst (λ (i : DiskImage). Explains d.first.image d.past.log.items shown i) (sym was.2)
            (stays d.count d.first.image d.whole d.past.log.items shown was.0 was.1);
        since = λ t shown image le both.
            synced_since d.count t d.first.image d.whole now d.past.log.items image shown
            is le both;
        unsynced = omega arith;
      };
      unsynced = tt;
      counts = record {
        keeps = λ t n le since.
            answered_keeps d.past.log.items now _ t n is since;
        grows = λ t n le since. answered_grows d.past.log.items now _
            (unsynced_of d.past.log.items) t n is (omega arith) since;
      };
      calls = record {
        all = ap file_calls is;
        begun = (0, ap file_calls is);
      };
      counted = omega arith;
      passes = passes_on d.count _ _ d.first.image _ _ _ d.past.log.items now is;
      cause = search rules;
    }

pub returns-then-is_given_up-clause-syncs : goal.returns-then-is_given_up-clause-syncs
returns-then-is_given_up-clause-syncs g c =
    let d = c.args.self.now in
    let now = c.and-self.result.log.items in
    failed_syncs d.count _ _ d.first.image _ _ (answers_of d) now c.and-self.ensures

pub returns-in-Err-clause-syncs : goal.returns-in-Err-clause-syncs
returns-in-Err-clause-syncs g c =
    let d = c.args.self.now in
    let now = c.and-self-in-Err.result.log.items in
    failed_syncs d.count _ _ d.first.image _ _ (answers_of d) now c.and-self-in-Err.ensures

pub returns-then-is_given_up-clause-logged : goal.returns-then-is_given_up-clause-logged
returns-then-is_given_up-clause-logged g c =
    refused_after (Failed OfSync) NO_BYTES (answers_of c.args.self.now)
    c.and-self.result.log.items
    c.is_given_up.result c.is_given_up.ensures c.if-is_given_up.true c.and-self.ensures

pub returns-in-Err-clause-logged : goal.returns-in-Err-clause-logged
returns-in-Err-clause-logged g c =
    failed_after (Failed OfSync) NO_BYTES (answers_of c.args.self.now)
    c.and-self-in-Err.result.log.items
    c.is_given_up.result c.is_given_up.ensures c.if-is_given_up.false c.and-self-in-Err.ensures
