use Rattle.std.proofs.Common.{◌≡◌, ◌∙◌, ap, sym, false, true}
use Rattle.std.specs.Str.{bytes_eq}
use Rattle.wasi_abi.specs.rules.Calls.{module_name, all_calls}
use Rattle.command_words.proofs.VerdictLemmas.{not_false, not_true}
use Rattle.machine.proofs.InstanceLemmas.Offered.{found_among, another_module, their_module}
use Rattle.machine.proofs.InstanceLemmas.Offered.{call_found, call_passed, no_call}
use Rattle.command_words.proofs.verdicts.imports.call_of.Goals as goal

pub returns-then-ne : goal.returns-then-ne
returns-then-ne c =
    let i = c.args.import.now in
    let e : bytes_eq c.as_slice.result.now c.as_bytes.result.now ≡ false =
    not_true _ (sym c.ne.ensures ∙ c.if-ne.true) in
    another_module i.module_name i.name (ap (λ n. bytes_eq n module_name) (sym c.as_slice.ensures)
    ∙ (ap (bytes_eq c.as_slice.result.now) (sym c.as_bytes.ensures.value) ∙ e))

pub returns-then-eq : goal.returns-then-eq
returns-then-eq c =
    let i = c.args.import.now in
    let name = c.as_slice-name.result.now in
    let e : bytes_eq c.as_slice.result.now c.as_bytes.result.now ≡ true =
    not_false _ (sym c.ne.ensures ∙ c.if-ne.false) in
    let theirs =
    their_module i.module_name i.name (ap (λ n. bytes_eq n module_name) (sym c.as_slice.ensures)
    ∙ (ap (bytes_eq c.as_slice.result.now) (sym c.as_bytes.ensures.value) ∙ e)) in
    let found = call_found name c.as_bytes-in-loop-call.result.now c.loop-call.call-index
    c.loop-call-test.true (c.as_bytes-in-loop-call.ensures.value
    ∙ c.name.ensures) (sym c.eq.ensures ∙ c.if-eq.true) c.loop-call.invariant in
    found ∙ (ap (found_among all_calls) c.as_slice-name.ensures ∙ sym theirs)

pub loop-call-preserved : goal.loop-call-preserved
loop-call-preserved c =
    call_passed c.as_slice-name.result.now c.as_bytes-in-loop-call.result.now c.loop-call.call-index
    c.loop-call-test.true (c.as_bytes-in-loop-call.ensures.value
    ∙ c.name.ensures) (sym c.eq.ensures ∙ c.if-eq.false) c.loop-call.invariant

pub returns : goal.returns
returns c =
    let i = c.args.import.now in
    let e : bytes_eq c.as_slice.result.now c.as_bytes.result.now ≡ true =
    not_false _ (sym c.ne.ensures ∙ c.if-ne.false) in
    let theirs =
    their_module i.module_name i.name (ap (λ n. bytes_eq n module_name) (sym c.as_slice.ensures)
    ∙ (ap (bytes_eq c.as_slice.result.now) (sym c.as_bytes.ensures.value) ∙ e)) in
    no_call c.as_slice-name.result.now c.loop-call.call-index c.loop-call-test.false
    c.loop-call.invariant ∙ (ap (found_among all_calls) c.as_slice-name.ensures ∙ sym theirs)
