use Rattle.std.proofs.Common.{◌+◌, ◌∙◌, sym, ap, arith, length}
use Rattle.std.specs.Prelude.{Ok, option_copied}
use Rattle.std.proofs.lemmas.Result.{err_from_is_err_and}
use Rattle.wasi_abi.specs.rules.Layouts.{u32_bytes}
use Rattle.guest_memory.specs.rules.Bytes.{with_part}
use Rattle.wasi_calls_rules.specs.Checks.{Bytes, scattered}
use Rattle.wasi_calls_rules.specs.Moving.{Got, target_read}
use Rattle.wasi_calls.specs.Moves.{total_len}
use Rattle.wasi_calls.proofs.MovedCallRules.{read_is, stops_after, cell_put}
use Rattle.wasi_calls.proofs.read.read_within.Goals as goal

pub returns-in_err-moved-clause-stopped : goal.returns-in_err-moved-clause-stopped
returns-in_err-moved-clause-stopped g c =
    let a = c.args.arguments in
    let m = c.args.memory.now.bytes in
    let h = c.args.host.now.host in
    let given = option_copied c.args.answer in
    let bs = c.check.new.buffers in
    let passed = c.in_ok-check.ensures.passed in
    let d = passed.descriptor in
    let p = err_from_is_err_and c.from_residual-in_err-moved.result
    c.from_residual-in_err-moved.ensures.1 in
    rw (p.1, p.2, read_is a.fd a.iovecs a.count a.ret given m h, passed.is)
    (stops_after c.in_err-moved.field-0.0 (target_read d.target a.fd d (total_len bs) given h)
    (λ (got : Got). record {
      memory = with_part (scattered m bs got.bytes) a.ret (u32_bytes (length got.bytes));
      host = got.host;
    })
    (rw c.buffers.ensures at (c.in_err-moved.ensures.stopped d passed.is_open)))

pub returns-clause-done : goal.returns-clause-done
returns-clause-done g c =
    let a = c.args.arguments in
    let m = c.args.memory.now.bytes in
    let h = c.args.host.now.host in
    let given = option_copied c.args.answer in
    let bs = c.check.new.buffers in
    let passed = c.in_ok-check.ensures.passed in
    let d = passed.descriptor in
    let reads = (rw c.buffers.ensures at (c.in_ok-moved.ensures.done d passed.is_open)) in
    let stored = (rw c.unwrap.ensures at c.store_u32.ensures.stored) in
    let put = cell_put c.take.new.memory c.store_u32.new.self (a.ret + 0) a.ret c.in_ok-moved.moved
    (length reads.bytes) stored (omega arith) reads.count in
    rw (read_is a.fd a.iovecs a.count a.ret given m h, passed.is, reads.is)
    (ap (λ (x : Bytes). Ok (record {
      memory = with_part x a.ret (u32_bytes (length reads.bytes));
      host = c.take.new.self.host;
    })) (sym reads.put)
    ∙ ap (λ (x : Bytes). Ok (record { memory = x; host = c.take.new.self.host })) (sym put))
