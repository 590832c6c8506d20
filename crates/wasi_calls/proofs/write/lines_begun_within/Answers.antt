use Rattle.std.proofs.Common.{◌≡◌, length, ap, ◌∙◌, sym}
use Rattle.std.specs.Prelude.{Ok}
use Rattle.wasi_calls_rules.specs.WasiStates.{Target, Stream, Node, Descriptor}
use Rattle.wasi_calls_rules.specs.Checks.{Bytes, gathered, open_descriptor}
use Rattle.wasi_calls_rules.specs.declared.output_stream.OutputStream.{OutputStream}
use Rattle.wasi_calls.specs.Moves.{Wanted}
use Rattle.wasi_calls.specs.Views.{target_of}
use Rattle.wasi_calls.specs.Writes.{unfinished_of}
use Rattle.wasi_calls.specs.rules.Outputs.{count_begun}
use Rattle.wasi_calls.proofs.Emitted.{write_adds, begun_on}
use Rattle.wasi_calls.proofs.write.lines_begun_within.Goals as goal

pub returns-in-Stream-clause-count : goal.returns-in-Stream-clause-count
returns-in-Stream-clause-count g c = λ h done s e.
    let a = c.args.arguments in
    let m = c.args.memory.now.bytes in
    let old = c.args.host.now in
    let bs = c.check.new.buffers in
    let passed = c.in-Ok.ensures.passed in
    let d = passed.descriptor in
    let own = c.unwrap.result.now in
    let is : open_descriptor old.host a.fd ≡ Ok own =
    rw c.unwrap.ensures at c.descriptor.ensures.gives in
    let both : Ok own ≡ Ok d = sym is ∙ passed.is_open in
    let same : own ≡ d = cc in
    let named : d.target ≡ Stream c.in-Stream.number =
    ap (λ (x : Descriptor). x.target) (sym same) ∙ sym c.names.ensures ∙ ap target_of c.in-Stream.is
    in
    let w : Wanted = record { descriptor = d; buffers = bs } in
    let counted = (rw c.buffers.ensures at c.count_begun.ensures.value)
    ∙ ap (λ (x : Bytes). count_begun (length x) (gathered m bs)) c.unfinished_line.ensures
    ∙ ap (λ (o : OutputStream). count_begun (length (unfinished_of o old.host)) (gathered m bs))
    c.output_stream-stream.ensures
    ∙ ap (λ (t : Target). begun_on t (gathered m bs) old.host) (sym named) in
    write_adds a.fd a.iovecs a.count a.ret m old h s w passed.is done c.count_begun.result e counted

pub returns-in-Node-clause-count : goal.returns-in-Node-clause-count
returns-in-Node-clause-count g c = λ h done s e.
    let a = c.args.arguments in
    let m = c.args.memory.now.bytes in
    let old = c.args.host.now in
    let bs = c.check.new.buffers in
    let passed = c.in-Ok.ensures.passed in
    let d = passed.descriptor in
    let own = c.unwrap.result.now in
    let is : open_descriptor old.host a.fd ≡ Ok own =
    rw c.unwrap.ensures at c.descriptor.ensures.gives in
    let both : Ok own ≡ Ok d = sym is ∙ passed.is_open in
    let same : own ≡ d = cc in
    let named : d.target ≡ Node c.in-Node.field-0 =
    ap (λ (x : Descriptor). x.target) (sym same) ∙ sym c.names.ensures ∙ ap target_of c.in-Node.is
    in
    let w : Wanted = record { descriptor = d; buffers = bs } in
    let counted = ap (λ (t : Target). begun_on t (gathered m bs) old.host) (sym named) in
    write_adds a.fd a.iovecs a.count a.ret m old h s w passed.is done 0 e counted
