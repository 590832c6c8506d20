use Rattle.state_image.proofs.RestoreLemmas.Lent.{fault_of}
use Rattle.state_image.proofs.RestoreLemmas.WasiStateAgain.{no_files_of_host}
use Rattle.state_image.proofs.RestoreLemmas.WasiStateAgain.{no_descriptors_of_host}
use Rattle.state_image.proofs.restoring.host.read_parts.Goals as goal

pub returns-in_err-tree-clause-refused : goal.returns-in_err-tree-clause-refused
returns-in_err-tree-clause-refused c refused h rest is next stands =
    no_files_of_host c.args.reader.now
    (c.in_err-tree.ensures.refused
    (fault_of c.from_residual.result _ c.from_residual.ensures.1 refused)) h rest is next stands

pub returns-in_err-descriptors-clause-refused : goal.returns-in_err-descriptors-clause-refused
returns-in_err-descriptors-clause-refused c refused h rest is next stands =
    no_descriptors_of_host c.in_ok-tree.tree c.args.reader.now c.restore_files.new.reader
    c.in_ok-tree.ensures.files c.in_ok-tree.ensures.next c.in_ok-tree.ensures.made
    (c.in_err-descriptors.ensures.refused
    (fault_of c.from_residual-in_err-descriptors.result _
    c.from_residual-in_err-descriptors.ensures.1 refused)) h rest is next stands
