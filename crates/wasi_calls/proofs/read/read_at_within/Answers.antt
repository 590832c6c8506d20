use Rattle.std.proofs.Common.{◌+◌, ◌∙◌, sym, ap, arith, length}
use Rattle.std.specs.Prelude.{Ok}
use Rattle.wasi_abi.specs.rules.Layouts.{u32_bytes}
use Rattle.guest_memory.specs.rules.Bytes.{with_part}
use Rattle.wasi_calls_rules.specs.Checks.{Bytes}
use Rattle.wasi_calls_rules.specs.Moving.{file_read}
use Rattle.wasi_calls.specs.Moves.{total_len}
use Rattle.wasi_calls.proofs.MovedCallRules.{pread_is, cell_put}
use Rattle.wasi_calls.proofs.read.read_at_within.Goals as goal

pub returns-clause-done : goal.returns-clause-done
returns-clause-done g c =
    let a = c.args.arguments in
    let m = c.args.memory.now.bytes in
    let h = c.args.host.now.host in
    let bs = c.check_placed.new.buffers in
    let passed = c.in_ok-node.ensures.passed in
    let named = c.in_ok-node.ensures.file.named passed.descriptor passed.is_open in
    let bytes : Bytes = file_read h c.in_ok-node.node a.offset (total_len bs) in
    let stored = (rw c.unwrap.ensures at c.store_u32.ensures.stored) in
    let count = (rw c.buffers.ensures at c.read_file-moved.ensures.count) in
    let read = (rw c.buffers.ensures at c.read_file-moved.ensures.read) in
    let put = cell_put c.read_file-moved.new.memory c.store_u32.new.self (a.ret + 0) a.ret
    c.read_file-moved.result (length bytes) stored (omega arith) count in
    rw (pread_is a.fd a.iovecs a.count a.offset a.ret m h, passed.is, named)
    (ap (λ (x : Bytes). Ok (record {
      memory = with_part x a.ret (u32_bytes (length bytes));
      host = h;
    })) (sym read)
    ∙ ap (λ (x : Bytes). Ok (record { memory = x; host = h })) (sym put))
