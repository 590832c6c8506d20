use Rattle.std.proofs.Common.{arith}
use Rattle.wasi_abi.proofs.ByteLemmas.{all_bytes}
use Rattle.command_words.proofs.lines.numbered.text_answer.Goals as goal

pub returns-clause-bytes : goal.returns-clause-bytes
returns-clause-bytes c = all_bytes c.args.text.now (λ k. omega (arith, c.type_inv.text k))
