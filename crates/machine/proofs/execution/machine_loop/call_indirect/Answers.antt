use Rattle.std.proofs.Common.{ℕ, List, [], ◌∷◌, Some, refl, ap, ◌∙◌}
use Rattle.wasm_syntax.specs.declared.value.Trap.TheVariants as trap
use Rattle.machine.specs.declared.execution.state.State.{State}
use Rattle.machine.proofs.CycleLemmas.Codes.{read_at, none_at}
use Rattle.machine.proofs.CycleLemmas.CalledCycles.{trapped, arguments_there, asked, enough}
use Rattle.machine.proofs.CycleLemmas.CalledCycles.{more_locals, few_locals, entered}
use Rattle.machine.proofs.CycleLemmas.Indirect.{names_at, one_word, entry, others_are, undefined}
use Rattle.machine.proofs.CycleLemmas.Indirect.{uninitialized, have_signatures, mismatched}
use Rattle.machine.proofs.CycleLemmas.Indirect.{indirect_import, indirect_own}
use Rattle.machine.proofs.execution.machine_loop.call_indirect.Goals as goal

pub top-place-requires : goal.top-place-requires
top-place-requires c = one_word c.requires.stands.stands c.requires.here

pub returns-in_default-clause-cycles : goal.returns-in_default-clause-cycles
returns-in_default-clause-cycles c = λ functions program d stands.
    let past = none_at c.top-place.result c.as_slice.ensures.value c.in_default.ensures.lookup.3 in
    trapped stands trap.UndefinedElement c.args.fuel c.trap.new.state c.requires.some
    (undefined stands c.requires.here c.top-place.ensures past) c.trap.ensures.traps
    c.trap.ensures.cleared

pub returns-in_default-entry-clause-cycles : goal.returns-in_default-entry-clause-cycles
returns-in_default-entry-clause-cycles c = λ functions program d stands.
    let there = read_at c.top-place.result c.as_slice.ensures.value c.in-Some.ensures.lookup.3.0
    c.in-Some.ensures.lookup.1 in
    trapped stands trap.UninitializedElement c.args.fuel c.trap-in_default-entry.new.state
    c.requires.some (uninitialized stands c.requires.here c.top-place.ensures
    (there ∙ ap Some c.in_default-entry.is)) c.trap-in_default-entry.ensures.traps
    c.trap-in_default-entry.ensures.cleared

pub has_signature-requires : goal.has_signature-requires
has_signature-requires c =
    let named = names_at c.top-place.result c.as_slice.ensures.value c.in-Some.ensures.lookup.3.0
    c.in-Some.ensures.lookup.1 c.in-Some-entry.is in
    have_signatures c.requires.stands.stands c.requires.here c.top-place.ensures named

pub returns-then-not-has_signature-clause-cycles : goal.returns-then-not-has_signature-clause-cycles
returns-then-not-has_signature-clause-cycles c = λ functions program d stands.
    let named = names_at c.top-place.result c.as_slice.ensures.value c.in-Some.ensures.lookup.3.0
    c.in-Some.ensures.lookup.1 c.in-Some-entry.is in
    trapped stands trap.IndirectCallTypeMismatch c.args.fuel c.trap-then-not-has_signature.new.state
    c.requires.some (mismatched stands c.requires.here c.top-place.ensures named
    c.has_signature.result c.has_signature.ensures c.if-not-has_signature.true)
    c.trap-then-not-has_signature.ensures.traps c.trap-then-not-has_signature.ensures.cleared

pub ask-requires : goal.ask-requires
ask-requires c =
    let named = names_at c.top-place.result c.as_slice.ensures.value c.in-Some.ensures.lookup.3.0
    c.in-Some.ensures.lookup.1 c.in-Some-entry.is in
    let there = read_at c.in-Some-entry.function c.as_slice-2.ensures.value
    c.in-Some-get.ensures.lookup.3.0 c.in-Some-get.ensures.lookup.1 in
    arguments_there c.requires.stands.stands 1 (c.top-place.result ∷ []) (indirect_import
    c.requires.stands.stands c.requires.here c.top-place.ensures named c.has_signature.result
    c.has_signature.ensures c.if-not-has_signature.false there) (entry c.requires.stands.stands
    c.requires.here c.top-place.ensures).words_are refl

pub routine_of-requires : goal.routine_of-requires
routine_of-requires c =
    let r = c.requires.stands in
    let named = names_at c.top-place.result c.as_slice.ensures.value c.in-Some.ensures.lookup.3.0
    c.in-Some.ensures.lookup.1 c.in-Some-entry.is in
    let there = none_at c.in-Some-entry.function c.as_slice-2.ensures.value
    c.in-None.ensures.lookup.3 in
    let own = indirect_own r.stands c.requires.here c.top-place.ensures named c.has_signature.result
    c.has_signature.ensures c.if-not-has_signature.false there in
    record {
      functions = r.functions;
      program = r.program;
      is_code = r.stands.is_code;
      own = own.own;
    }

pub enter_or_trap-requires-clause-parameters : goal.enter_or_trap-requires-clause-parameters
enter_or_trap-requires-clause-parameters c =
    let named = names_at c.top-place.result c.as_slice.ensures.value c.in-Some.ensures.lookup.3.0
    c.in-Some.ensures.lookup.1 c.in-Some-entry.is in
    let there = none_at c.in-Some-entry.function c.as_slice-2.ensures.value
    c.in-None.ensures.lookup.3 in
    let own = indirect_own c.requires.stands.stands c.requires.here c.top-place.ensures named
    c.has_signature.result c.has_signature.ensures c.if-not-has_signature.false there in
    let few = enough c.requires.stands.stands own c.routine_of.ensures in
    rw (others_are c.requires.stands.stands c.requires.here c.top-place.ensures c.pop.ensures.last)
    few

pub enter_or_trap-requires-clause-locals : goal.enter_or_trap-requires-clause-locals
enter_or_trap-requires-clause-locals c =
    let named = names_at c.top-place.result c.as_slice.ensures.value c.in-Some.ensures.lookup.3.0
    c.in-Some.ensures.lookup.1 c.in-Some-entry.is in
    let there = none_at c.in-Some-entry.function c.as_slice-2.ensures.value
    c.in-None.ensures.lookup.3 in
    let own = indirect_own c.requires.stands.stands c.requires.here c.top-place.ensures named
    c.has_signature.result c.has_signature.ensures c.if-not-has_signature.false there in
    more_locals c.requires.stands.stands own c.routine_of.ensures

pub enter_or_trap-requires-clause-few : goal.enter_or_trap-requires-clause-few
enter_or_trap-requires-clause-few c =
    let named = names_at c.top-place.result c.as_slice.ensures.value c.in-Some.ensures.lookup.3.0
    c.in-Some.ensures.lookup.1 c.in-Some-entry.is in
    let there = none_at c.in-Some-entry.function c.as_slice-2.ensures.value
    c.in-None.ensures.lookup.3 in
    let own = indirect_own c.requires.stands.stands c.requires.here c.top-place.ensures named
    c.has_signature.result c.has_signature.ensures c.if-not-has_signature.false there in
    few_locals c.requires.stands.stands own c.routine_of.ensures

pub returns-in-Some-get-clause-cycles : goal.returns-in-Some-get-clause-cycles
returns-in-Some-get-clause-cycles c = λ functions program d stands.
    let named = names_at c.top-place.result c.as_slice.ensures.value c.in-Some.ensures.lookup.3.0
    c.in-Some.ensures.lookup.1 c.in-Some-entry.is in
    let there = read_at c.in-Some-entry.function c.as_slice-2.ensures.value
    c.in-Some-get.ensures.lookup.3.0 c.in-Some-get.ensures.lookup.1 in
    asked stands 1 c.args.fuel (c.top-place.result ∷ []) c.ask.result c.requires.some there
    (indirect_import stands c.requires.here c.top-place.ensures named c.has_signature.result
    c.has_signature.ensures c.if-not-has_signature.false there)
    (entry stands c.requires.here c.top-place.ensures).words_are refl c.ask.ensures.asks

pub returns-in-None-clause-cycles : goal.returns-in-None-clause-cycles
returns-in-None-clause-cycles c = λ functions program d stands.
    let named = names_at c.top-place.result c.as_slice.ensures.value c.in-Some.ensures.lookup.3.0
    c.in-Some.ensures.lookup.1 c.in-Some-entry.is in
    let there = none_at c.in-Some-entry.function c.as_slice-2.ensures.value
    c.in-None.ensures.lookup.3 in
    let own = indirect_own stands c.requires.here c.top-place.ensures named c.has_signature.result
    c.has_signature.ensures c.if-not-has_signature.false there in
    let popped : State = record c.args.state.now { slots = c.pop.new.self } in
    entered stands own c.routine_of.ensures c.args.fuel popped c.enter_or_trap.new.state
    c.enter_or_trap.result c.requires.some (ap
    (λ (z : List ℕ). record c.args.state.now { slots = z }) (others_are stands c.requires.here
    c.top-place.ensures c.pop.ensures.last)) c.enter_or_trap.ensures
