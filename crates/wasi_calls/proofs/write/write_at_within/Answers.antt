use Rattle.std.proofs.Common.{◌+◌, sym, ap, arith}
use Rattle.std.specs.Prelude.{Ok}
use Rattle.std.proofs.lemmas.Result.{err_from_is_err_and}
use Rattle.wasi_abi.specs.rules.Layouts.{u32_bytes}
use Rattle.guest_memory.specs.rules.Bytes.{with_part}
use Rattle.wasi_calls_rules.specs.WasiStates.{WasiState}
use Rattle.wasi_calls_rules.specs.Checks.{Bytes, gathered}
use Rattle.wasi_calls_rules.specs.Moving.{file_written}
use Rattle.wasi_calls.specs.Moves.{total_len}
use Rattle.wasi_calls.proofs.MovedCallRules.{pwrite_is, stops_after, cell_put}
use Rattle.wasi_calls.proofs.write.write_at_within.Goals as goal

pub returns-in_err-write_file-clause-stopped : goal.returns-in_err-write_file-clause-stopped
returns-in_err-write_file-clause-stopped g c =
    let a = c.args.arguments in
    let m = c.args.memory.now.bytes in
    let h = c.args.host.now.host in
    let bs = c.check_placed.new.buffers in
    let passed = c.in_ok-node.ensures.passed in
    let named = c.in_ok-node.ensures.file.named passed.descriptor passed.is_open in
    let p = err_from_is_err_and c.from_residual-in_err-write_file.result
    c.from_residual-in_err-write_file.ensures.1 in
    rw (p.1, p.2, pwrite_is a.fd a.iovecs a.count a.offset a.ret m h, passed.is, named)
    (stops_after c.in_err-write_file.field-0.0
    (file_written c.in_ok-node.node a.offset (gathered m bs) h)
    (λ (after : WasiState). record {
      memory = with_part m a.ret (u32_bytes (total_len bs));
      host = after;
    })
    (rw c.buffers-buffers.ensures at c.in_err-write_file.ensures.stopped))

pub returns-clause-done : goal.returns-clause-done
returns-clause-done g c =
    let a = c.args.arguments in
    let m = c.args.memory.now.bytes in
    let h = c.args.host.now.host in
    let bs = c.check_placed.new.buffers in
    let passed = c.in_ok-node.ensures.passed in
    let named = c.in_ok-node.ensures.file.named passed.descriptor passed.is_open in
    let len = (rw c.buffers-buffers.ensures at c.len.ensures.value) in
    let done = (rw c.buffers-buffers.ensures at c.in_ok-write_file.ensures.done) in
    let stored = (rw c.unwrap.ensures at c.store_u32.ensures.stored) in
    let put = cell_put c.args.memory.now c.store_u32.new.self (a.ret + 0) a.ret c.len.result
    (total_len bs) stored (omega arith) len in
    rw (
      pwrite_is a.fd a.iovecs a.count a.offset a.ret m h,
      passed.is,
      named,
      done,
    )
    (ap (λ (x : Bytes). Ok (record { memory = x; host = c.write_file.new.self.host })) (sym put))
