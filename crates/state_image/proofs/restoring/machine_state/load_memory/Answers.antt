use Rattle.std.proofs.Common.{subst}
use Rattle.machine.specs.rules.Values.{least_of}
use Rattle.machine.specs.rules.Loading.{BytesDenied}
use Rattle.state_image.proofs.RestoreLemmas.Loaded.{unfit_of}
use Rattle.state_image.proofs.RestoreLemmas.MachineRead.{no_memory, no_memory_bytes}
use Rattle.state_image.proofs.restoring.machine_state.load_memory.Goals as goal

pub returns-in_default-clause-refused : goal.returns-in_default-clause-refused
returns-in_default-clause-refused c refused x rest may is =
    no_memory_bytes (least_of c.args.machine.now.guest) c.args.machine.now.most_pages
    c.args.reader.now c.read_memory.new.reader
    c.in_default.ensures x rest may is

pub returns-in_err-set_memory-clause-refused : goal.returns-in_err-set_memory-clause-refused
returns-in_err-set_memory-clause-refused c refused x rest may is =
    let bytes = c.in-Some.bytes.now in
    let least = least_of c.args.machine.now.guest in
    let most = c.args.machine.now.most_pages in
    no_memory least most bytes c.args.reader.now c.read_memory.new.reader c.in-Some.ensures
    (subst (BytesDenied bytes least most)
    (unfit_of c.from_residual.result _ c.from_residual.ensures.1 refused)
    c.in_err-set_memory.ensures.refused) x rest may is

pub returns-clause-made : goal.returns-clause-made
returns-clause-made c = record {
  field = c.in-Some.bytes.now;
  has = c.in-Some.ensures;
  is = c.in_ok-set_memory.ensures.set;
}
