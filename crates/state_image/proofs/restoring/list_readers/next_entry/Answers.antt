use Rattle.state_image.proofs.RestoreLemmas.ListReads.{entry_lent}
use Rattle.state_image.proofs.restoring.list_readers.next_entry.Goals as goal

pub returns : goal.returns
returns c =
    entry_lent c.read_entry.result c.args.reader.now c.read_entry.new.reader
    (rw c.rest.ensures at c.are_bytes.ensures) c.read_entry.ensures
