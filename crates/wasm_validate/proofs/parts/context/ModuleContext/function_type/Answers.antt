use Rattle.std.proofs.Common.{◌≡◌, ◌<◌, ◌≤◌, length, get_or, ◌∙◌, sym, ap}
use Rattle.std.specs.Prelude.{option_copied}
use Rattle.wasm_validate.proofs.PartLemmas.Lookups.{slice_get-types_at, slice_get-types_past}
use Rattle.wasm_validate.proofs.parts.context.ModuleContext.function_type.Goals as goal

pub returns-in_err-function_type : goal.returns-in_err-function_type
returns-in_err-function_type c = λ t is.
    let indices = c.args.self.now.function_types.items in
    let past : length indices ≤ c.args.x =
    rw c.deref.ensures.value at c.in_err-function_type.ensures.lookup.3 in
    ap option_copied c.from_residual.ensures
    ∙ sym (slice_get-types_past t.types indices t.functions c.args.x is.functions past)

pub returns : goal.returns
returns c = λ t is.
    let indices = c.args.self.now.function_types.items in
    let i = c.in_ok-function_type.function_type.now in
    let found = c.in_ok-function_type.ensures.lookup.3 in
    let within : c.args.x < length indices = rw c.deref.ensures.value at found.0 in
    let at : get_or indices c.args.x 0 ≡ i =
    ap (λ xs. get_or xs c.args.x 0) (sym c.deref.ensures.value) ∙ sym (found.1 0) in
    c.type_at.ensures t is
    ∙ sym (slice_get-types_at t.types indices t.functions c.args.x i is.functions within at)
