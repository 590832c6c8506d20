use Rattle.state_image.proofs.RestoreLemmas.ListReads.{integer_lent}
use Rattle.state_image.proofs.restoring.list_readers.next_number.Goals as goal

pub returns : goal.returns
returns c =
    integer_lent 8 c.u64.result c.args.reader.now c.u64.new.self
    (rw c.rest.ensures at c.are_bytes.ensures) c.u64.ensures
