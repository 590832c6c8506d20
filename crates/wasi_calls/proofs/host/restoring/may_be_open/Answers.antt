use Rattle.wasi_calls.proofs.host.restoring.may_be_open.Goals as goal

pub returns-then-is_descriptor : goal.returns-then-is_descriptor
returns-then-is_descriptor c =
    rw c.in-Some.is (
      λ own. record {
        descriptor = c.is_descriptor.ensures.0 c.if-is_descriptor.true;
        stream = c.is_own_stream.ensures.0 own;
      },
      λ may. c.is_own_stream.ensures.1 may.stream,
    )
