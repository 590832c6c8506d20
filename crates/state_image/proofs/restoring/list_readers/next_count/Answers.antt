use Rattle.state_image.proofs.RestoreLemmas.ListReads.{integer_lent}
use Rattle.state_image.proofs.restoring.list_readers.next_count.Goals as goal

pub returns : goal.returns
returns c =
    integer_lent 4 c.count.result c.args.reader.now c.count.new.self
    (rw c.rest.ensures at c.are_bytes.ensures) c.count.ensures
