use Rattle.guest_memory.proofs.ByteLemmas.{number_of-bytes_of, bytes_of-number_of}
use Rattle.wasi_abi.proofs.laws.bytes_spell_numbers.Goals as goal

pub returns : goal.returns
returns c = record { numbers = number_of-bytes_of; bytes = bytes_of-number_of }
