use Rattle.std.proofs.Common.{◌+◌, sym, ap, arith}
use Rattle.std.specs.Prelude.{Ok}
use Rattle.std.proofs.lemmas.Result.{err_from_is_err_and}
use Rattle.wasi_abi.specs.rules.Layouts.{u32_bytes}
use Rattle.guest_memory.specs.rules.Bytes.{with_part}
use Rattle.wasi_calls_rules.specs.WasiStates.{WasiState}
use Rattle.wasi_calls_rules.specs.Checks.{Bytes, gathered}
use Rattle.wasi_calls_rules.specs.Moving.{target_written}
use Rattle.wasi_calls.specs.Moves.{total_len}
use Rattle.wasi_calls.proofs.MovedCallRules.{write_is, stops_after, cell_put}
use Rattle.wasi_calls.proofs.write.write_within.Goals as goal

pub returns-in_err-put-clause-stopped : goal.returns-in_err-put-clause-stopped
returns-in_err-put-clause-stopped g c =
    let a = c.args.arguments in
    let m = c.args.memory.now.bytes in
    let h = c.args.host.now.host in
    let bs = c.check.new.buffers in
    let passed = c.in_ok-check.ensures.passed in
    let d = passed.descriptor in
    let p = err_from_is_err_and c.from_residual-in_err-put.result
    c.from_residual-in_err-put.ensures.1 in
    rw (p.1, p.2, write_is a.fd a.iovecs a.count a.ret m h, passed.is)
    (stops_after c.in_err-put.field-0.0 (target_written d.target a.fd d (gathered m bs) h)
    (λ (after : WasiState). record {
      memory = with_part m a.ret (u32_bytes (total_len bs));
      host = after;
    })
    (rw c.buffers-buffers.ensures at (c.in_err-put.ensures.stopped d passed.is_open)))

pub returns-clause-done : goal.returns-clause-done
returns-clause-done g c =
    let a = c.args.arguments in
    let m = c.args.memory.now.bytes in
    let h = c.args.host.now.host in
    let bs = c.check.new.buffers in
    let passed = c.in_ok-check.ensures.passed in
    let d = passed.descriptor in
    let stored = (rw c.unwrap.ensures at c.store_u32.ensures.stored) in
    let len = (rw c.buffers-buffers.ensures at c.len.ensures.value) in
    let done = (rw c.buffers-buffers.ensures at (c.in_ok-put.ensures.done d passed.is_open)) in
    let put = cell_put c.args.memory.now c.store_u32.new.self (a.ret + 0) a.ret c.len.result
    (total_len bs) stored (omega arith) len in
    rw (
      write_is a.fd a.iovecs a.count a.ret m h,
      passed.is,
      done,
    )
    (ap (λ (x : Bytes). Ok (record { memory = x; host = c.put.new.self.host })) (sym put))
