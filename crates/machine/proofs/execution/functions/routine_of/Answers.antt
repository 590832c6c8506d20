use Rattle.std.proofs.Common.{length, refl}
use Rattle.machine.proofs.CycleLemmas.Codes.{not_imported_there, routine_within, routine_read}
use Rattle.machine.proofs.execution.functions.routine_of.Goals as goal

pub overflow_sub-place : goal.overflow_sub-place
overflow_sub-place c =
    not_imported_there c.requires (length c.as_slice.result.now) c.as_slice.ensures.value refl

pub bounds-as_slice-place : goal.bounds-as_slice-place
bounds-as_slice-place c =
    routine_within c.requires (length c.as_slice.result.now) c.as_slice.ensures.value refl
    c.as_slice-2.ensures.value

pub returns : goal.returns
returns c =
    routine_read c.requires (length c.as_slice.result.now) c.as_slice.ensures.value refl
    c.as_slice-2.ensures.value c.index-as_slice-place.is
