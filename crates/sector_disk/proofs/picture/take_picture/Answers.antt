use Rattle.std.proofs.Common.{◌≡◌, ◌∙◌, ◌<◌, ◌++◌, min, arith, inl, length, rules, subst, sym, take}
use Rattle.sector_disk.specs.rules.File.{answers_of}
use Rattle.sector_disk.specs.rules.Pictures.{reads_of}
use Rattle.sector_disk.proofs.PictureLemmas.{changes_again, fails_later, stays_again}
use Rattle.sector_disk.proofs.PictureLemmas.{was_read, was_read_on}
use Rattle.sector_disk.proofs.picture.take_picture.Goals as goal

pub returns-in-Ok-false : goal.returns-in-Ok-false
returns-in-Ok-false g c =
    let read = c.in-Ok.ensures.read in
    let image = c.in-Ok.sectors.items in
    let count = min c.args.most c.args.disk.now.count in
    let m = c.min.result in
    let there : m ≡ min c.args.again count = search rules in
    let h = changes_again count m image (answers_of c.args.disk.now)
    (answers_of c.read_front.new.disk) (answers_of c.gives_again.new.disk) (search rules)
    (omega (arith, there)) (search rules) (search rules) in
    record {
      pictured = (
        image,
        h.0,
        h.1,
        search rules,
        subst (λ n. h.0 < n) there h.2,
        h.3,
        h.4,
      );
    }

pub returns-in-Err-gives_again : goal.returns-in-Err-gives_again
returns-in-Err-gives_again g c =
    record {
      pictured = fails_later c.min-count.result c.in-Ok.sectors.items
          (answers_of c.args.disk.now) (answers_of c.read_front.new.disk)
          (answers_of c.gives_again.new.disk) c.in-Err-gives_again.fault
          c.in-Ok.ensures.read.1 c.in-Err-gives_again.ensures.failed;
    }

pub returns-in-Err-from_sectors : goal.returns-in-Err-from_sectors
returns-in-Err-from_sectors g c =
    let image = c.in-Ok.sectors.items in
    let count = min c.args.most c.args.disk.now.count in
    let again = take c.min.result image in
    let old = answers_of c.args.disk.now in
    let mid = answers_of c.read_front.new.disk in
    record {
      pictured = (
        was_read_on old mid (answers_of c.gives_again.new.disk)
            (was_read count image old mid (search rules))
            (was_read (length again) again mid (answers_of c.gives_again.new.disk) (search rules)),
        inl (search rules),
      );
    }

pub returns-in-Ok-from_sectors : goal.returns-in-Ok-from_sectors
returns-in-Ok-from_sectors g c =
    let image = c.in-Ok.sectors.items in
    let count = min c.args.most c.args.disk.now.count in
    let there : c.min.result ≡ min c.args.again count = search rules in
    let made = c.in-Ok-from_sectors.ensures in
    let again = stays_again count c.min.result image (answers_of c.args.disk.now)
    (answers_of c.read_front.new.disk) (answers_of c.gives_again.new.disk) (search rules)
    (omega (arith, there)) (search rules) (search rules) in
    record {
      pictured = (
        image,
        search rules,
        record {
          shows = λ shown shows. shows ∙ sym made.shows;
          there = made.shows;
          synced = made.all_synced;
        },
        subst (λ n. answers_of c.gives_again.new.disk
            ≡ reads_of n image ++ reads_of count image ++ answers_of c.args.disk.now) there again,
      );
    }
