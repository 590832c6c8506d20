use Rattle.std.proofs.Common.{length, sym, ◌∙◌}
use Rattle.std.specs.Prelude.{None}
use Rattle.guest_memory.specs.rules.Bytes.{with_part}
use Rattle.wasi_abi.specs.rules.Layouts.{u32_bytes}
use Rattle.wasi_calls_rules.specs.Checks.{scattered}
use Rattle.wasi_calls_rules.specs.Moving.{Got, target_read}
use Rattle.wasi_calls.specs.Moves.{total_len}
use Rattle.wasi_calls.proofs.MovedCallRules.{read_is}
use Rattle.wasi_calls.proofs.Questions.{question_after}
use Rattle.wasi_calls.proofs.question.wanted_by_read_within.Goals as goal

pub returns : goal.returns
returns g c =
    let a = c.args.arguments in
    let m = c.args.memory.now.bytes in
    let h = c.args.host.now.host in
    let bs = c.check.new.buffers in
    let passed = c.in-Ok.ensures.passed in
    let d = passed.descriptor in
    let asked = (rw (c.len.ensures.value, c.buffers.ensures) at
    (c.wanted_input.ensures d passed.is_open)) in
    rw (read_is a.fd a.iovecs a.count a.ret None m h, passed.is)
    (asked ∙ sym (question_after (target_read d.target a.fd d (total_len bs) None h)
    (λ (got : Got). record {
      memory = with_part (scattered m bs got.bytes) a.ret (u32_bytes (length got.bytes));
      host = got.host;
    })))
