use Rattle.state_image.proofs.RestoreLemmas.ListReads.{front_lent}
use Rattle.state_image.proofs.restoring.list_readers.next_front.Goals as goal

pub returns : goal.returns
returns c =
    front_lent c.read_node.result c.args.reader.now c.read_node.new.reader
    (rw c.rest.ensures at c.are_bytes.ensures) c.read_node.ensures
