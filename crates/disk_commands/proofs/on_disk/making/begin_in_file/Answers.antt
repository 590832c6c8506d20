use Rattle.std.proofs.Common.{inr, subst}
use Rattle.disk_commands.specs.rules.Openings.{EndsInFile}
use Rattle.disk_commands.proofs.on_disk.making.begin_in_file.Goals as goal

pub returns : goal.returns
returns g c =
    let files = g.R.DiskFiles.known c.args.files.now in
    let began = c.begin_on-status in
    inr (record {
      disk = c.in-Ok.made.0;
      disk' = began.new.disk;
      made = c.in-Ok.ensures.made;
      closed = c.close.ensures;
      begins = began.ensures;
      begun = began.result;
      told = began.new.err;
      ends = subst (λ p. EndsInFile files p began.new.disk began.result began.new.err
          c.keep_if_created-ended.result c.keep_if_created-ended.new.err) c.in-Ok.ensures.there
          c.keep_if_created-ended.ensures;
    })
