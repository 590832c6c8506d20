use Rattle.std.proofs.Common.{length, refl, ap, ◌∙◌}
use Rattle.machine.proofs.CycleLemmas.Codes.{not_imported_there, function_within, opcodes_read}
use Rattle.machine.proofs.execution.functions.opcodes_of.Goals as goal

pub overflow_sub-place : goal.overflow_sub-place
overflow_sub-place c =
    not_imported_there c.requires (length c.as_slice.result.now) c.as_slice.ensures.value refl

pub bounds-own-place : goal.bounds-own-place
bounds-own-place c =
    function_within c.requires (length c.as_slice.result.now) c.as_slice.ensures.value refl
    (c.as_slice-own.ensures ∙ ap (λ m. m.functions) c.module.ensures.same)

pub returns : goal.returns
returns c =
    opcodes_read c.requires (length c.as_slice.result.now) c.as_slice.ensures.value refl
    (c.as_slice-own.ensures ∙ ap (λ m. m.functions) c.module.ensures.same) c.index-own-place.is
    c.as_slice-2.ensures
