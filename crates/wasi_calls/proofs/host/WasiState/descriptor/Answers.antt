use Rattle.wasi_calls.proofs.Descriptors.{open_is}
use Rattle.wasi_calls.proofs.host.WasiState.descriptor.Goals as goal

pub returns-clause-is : goal.returns-clause-is
returns-clause-is c =
    open_is c.args.self.now.host c.args.fd c.in_ok-descriptor.descriptor.now
    c.find_descriptor.ensures.shape c.in_ok-descriptor.ensures.gives
