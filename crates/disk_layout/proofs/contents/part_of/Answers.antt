use Rattle.disk_layout.proofs.ContentsLemmas.{part_lent}
use Rattle.disk_layout.proofs.contents.part_of.Goals as goal

pub returns-clause-value : goal.returns-clause-value
returns-clause-value c =
    part_lent c.args.bytes.now c.args.start c.args.most c.min-start.result c.min-end.result
    c.min-start.ensures c.min-end.ensures
