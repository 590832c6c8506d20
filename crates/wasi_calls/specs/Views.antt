-- What the code's descriptors stand for.
use Rattle.wasi_calls_rules.specs.WasiStates.{Target, Stream, Node}
use Rattle.wasi_calls.specs.declared.descriptor.Names.{Names}
use Rattle.wasi_calls.specs.declared.descriptor.Names.TheVariants as names

abbrev pub target_of : Names → Target
target_of (names.Stream s) = Stream s
target_of (names.Node k) = Node k
