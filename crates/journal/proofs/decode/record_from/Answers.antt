use Rattle.std.proofs.Common.{◌≡◌, ◌≤◌, ◌+◌, ◌-◌, ℕ, Some, option_map, length, take, drop, get_or}
use Rattle.std.proofs.Common.{sym, ap, ◌∙◌, arith}
use Rattle.wasi_abi.specs.rules.Layouts.{u64_at}
use Rattle.disk_layout.specs.rules.Journal.{payload_length, record_head_bytes}
use Rattle.disk_layout.specs.Scanned.{answer_of}
use Rattle.wasi_abi.specs.rules.Versions.{text_limit}
use Rattle.journal.proofs.RecordLemmas.{record_of, record_at_parts}
use Rattle.journal.proofs.decode.record_from.Goals as goal

pub returns-clause-value : goal.returns-clause-value
returns-clause-value c =
    let v = c.args.version in
    let bytes = c.args.bytes.now in
    let head = c.record_head_bytes-head.ensures.value in
    let limit = c.text_limit-limit.ensures in
    let len = c.payload_length.ensures.value in
    let whole : record_head_bytes v + payload_length v bytes ≤ length bytes =
    let f = c.if-bytes-end.false in omega arith in
    let lent : c.record_head_bytes-head.result + c.payload_length.result
    - c.record_head_bytes-head.result ≡ payload_length v bytes = omega arith in
    let step = ap (λ (n : ℕ). Some (record_of n c.in-Some.answer)) c.record_step.ensures in
    let found = sym c.in-Some.is ∙ c.in_ok-answer.ensures
    ∙ ap (λ (n : ℕ). answer_of c.text_limit-limit.result (get_or bytes 0 0)
    (take n (drop c.record_head_bytes-head.result bytes))) lent
    ∙ ap (λ (n : ℕ). answer_of n (get_or bytes 0 0)
    (take (payload_length v bytes) (drop c.record_head_bytes-head.result bytes))) limit
    ∙ ap (λ (n : ℕ). answer_of (text_limit v) (get_or bytes 0 0)
    (take (payload_length v bytes) (drop n bytes))) head
    in
    step ∙ ap (λ o. option_map (record_of (u64_at bytes 1)) o) found
    ∙ sym (record_at_parts v bytes whole)
