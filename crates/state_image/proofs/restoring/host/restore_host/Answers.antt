use Rattle.state_image.proofs.RestoreLemmas.Lent.{fault_of}
use Rattle.state_image.proofs.RestoreLemmas.WasiStateAgain.{fault_of_host, host_of_parts}
use Rattle.state_image.proofs.restoring.host.restore_host.Goals as goal

pub returns-in_err-parts-clause-refused : goal.returns-in_err-parts-clause-refused
returns-in_err-parts-clause-refused c refused h rest is next told stands =
    c.in_err-parts.ensures.refused
    (fault_of c.from_residual.result _ c.from_residual.ensures.1 refused) h rest is next stands

pub returns-in_err-from_parts-clause-refused : goal.returns-in_err-from_parts-clause-refused
returns-in_err-from_parts-clause-refused c refused h rest is next told stands =
    c.in_err-from_parts.ensures.refused
    (fault_of_host c.from_residual-in_err-from_parts.result _
    c.from_residual-in_err-from_parts.ensures.1 refused)
    (host_of_parts c.args.config c.args.progress
    c.in_ok-parts.parts c.args.reader.now c.read_parts.new.reader c.in_ok-parts.ensures.made h rest
    is next told stands)
