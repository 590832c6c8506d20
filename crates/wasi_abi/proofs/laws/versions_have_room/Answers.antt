use Rattle.wasi_abi.proofs.VersionLemmas.{own_number, lengths_fit}
use Rattle.wasi_abi.proofs.laws.versions_have_room.Goals as goal

pub returns : goal.returns
returns c = record { own = own_number; room = lengths_fit }
