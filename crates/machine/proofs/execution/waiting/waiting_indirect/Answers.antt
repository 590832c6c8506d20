use Rattle.std.proofs.Common.{[], ◌∷◌, Some, refl, ap, ◌∙◌}
use Rattle.wasm_syntax.specs.declared.value.Trap.TheVariants as trap
use Rattle.machine.proofs.CycleLemmas.Codes.{read_at, none_at}
use Rattle.machine.proofs.CycleLemmas.CalledCycles.{arguments_there}
use Rattle.machine.proofs.CycleLemmas.Indirect.{names_at, one_word, entry, undefined, uninitialized}
use Rattle.machine.proofs.CycleLemmas.Indirect.{have_signatures, mismatched, indirect_import}
use Rattle.machine.proofs.CycleLemmas.Indirect.{indirect_own}
use Rattle.machine.proofs.CycleLemmas.WaitingCalls.{none_where_trapped, none_where_own, told_asked}
use Rattle.machine.proofs.execution.waiting.waiting_indirect.Goals as goal

pub top-place-requires : goal.top-place-requires
top-place-requires c = one_word c.requires.stands.stands c.requires.here

pub returns-in_default : goal.returns-in_default
returns-in_default c = λ functions program d stands.
    let past = none_at c.top-place.result c.as_slice.ensures.value c.in_default.ensures.lookup.3 in
    none_where_trapped program d trap.UndefinedElement
    (undefined stands c.requires.here c.top-place.ensures past)

pub returns-in_default-entry : goal.returns-in_default-entry
returns-in_default-entry c = λ functions program d stands.
    let there = read_at c.top-place.result c.as_slice.ensures.value c.in-Some.ensures.lookup.3.0
    c.in-Some.ensures.lookup.1 in
    none_where_trapped program d trap.UninitializedElement (uninitialized stands c.requires.here
    c.top-place.ensures (there ∙ ap Some c.in_default-entry.is))

pub has_signature-requires : goal.has_signature-requires
has_signature-requires c =
    let named = names_at c.top-place.result c.as_slice.ensures.value c.in-Some.ensures.lookup.3.0
    c.in-Some.ensures.lookup.1 c.in-Some-entry.is in
    have_signatures c.requires.stands.stands c.requires.here c.top-place.ensures named

pub returns-then-not-has_signature : goal.returns-then-not-has_signature
returns-then-not-has_signature c = λ functions program d stands.
    let named = names_at c.top-place.result c.as_slice.ensures.value c.in-Some.ensures.lookup.3.0
    c.in-Some.ensures.lookup.1 c.in-Some-entry.is in
    none_where_trapped program d trap.IndirectCallTypeMismatch (mismatched stands c.requires.here
    c.top-place.ensures named c.has_signature.result c.has_signature.ensures
    c.if-not-has_signature.true)

pub call_below-requires : goal.call_below-requires
call_below-requires c =
    let named = names_at c.top-place.result c.as_slice.ensures.value c.in-Some.ensures.lookup.3.0
    c.in-Some.ensures.lookup.1 c.in-Some-entry.is in
    let there = read_at c.in-Some-entry.function c.as_slice-2.ensures.value
    c.in-Some-get.ensures.lookup.3.0 c.in-Some-get.ensures.lookup.1 in
    arguments_there c.requires.stands.stands 1 (c.top-place.result ∷ []) (indirect_import
    c.requires.stands.stands c.requires.here c.top-place.ensures named c.has_signature.result
    c.has_signature.ensures c.if-not-has_signature.false there) (entry c.requires.stands.stands
    c.requires.here c.top-place.ensures).words_are refl

pub returns-in-Some-get : goal.returns-in-Some-get
returns-in-Some-get c = λ functions program d stands.
    let named = names_at c.top-place.result c.as_slice.ensures.value c.in-Some.ensures.lookup.3.0
    c.in-Some.ensures.lookup.1 c.in-Some-entry.is in
    let there = read_at c.in-Some-entry.function c.as_slice-2.ensures.value
    c.in-Some-get.ensures.lookup.3.0 c.in-Some-get.ensures.lookup.1 in
    told_asked stands (c.top-place.result ∷ []) 1 c.call_below.result there (indirect_import stands
    c.requires.here c.top-place.ensures named c.has_signature.result c.has_signature.ensures
    c.if-not-has_signature.false there) (entry stands c.requires.here c.top-place.ensures).words_are
    refl c.call_below.ensures

pub returns-in-None : goal.returns-in-None
returns-in-None c = λ functions program d stands.
    let named = names_at c.top-place.result c.as_slice.ensures.value c.in-Some.ensures.lookup.3.0
    c.in-Some.ensures.lookup.1 c.in-Some-entry.is in
    let there = none_at c.in-Some-entry.function c.as_slice-2.ensures.value
    c.in-None.ensures.lookup.3 in
    none_where_own (indirect_own stands c.requires.here c.top-place.ensures named
    c.has_signature.result c.has_signature.ensures c.if-not-has_signature.false there)
