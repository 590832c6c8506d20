use Rattle.std.proofs.Common.{◌≡◌, None, refl, rules}
use Rattle.wasm_places.proofs.uses.next_declared.Goals as goal

pub returns-in_err-import-in-Imports : goal.returns-in_err-import-in-Imports
returns-in_err-import-in-Imports c =
    let none : c.from_residual.result ≡ None = search rules in
    rw (none, c.in-Imports.is, c.in_err-import-in-Imports.ensures) refl

pub returns-in_err-function_type-in-Own : goal.returns-in_err-function_type-in-Own
returns-in_err-function_type-in-Own c =
    let none : c.from_residual-in_err-function_type-in-Own.result ≡ None = search rules in
    rw (none, c.in-Own.is, c.in_err-function_type-in-Own.ensures) refl

pub returns-in_ok-import-in-Imports : goal.returns-in_ok-import-in-Imports
returns-in_ok-import-in-Imports c =
    rw (
      c.in-Imports.is,
      c.in_ok-import-in-Imports.ensures,
      c.imported_function.ensures,
    ) refl

pub returns-in_ok-function_type-in-Own : goal.returns-in_ok-function_type-in-Own
returns-in_ok-function_type-in-Own c =
    rw (c.in-Own.is, c.in_ok-function_type-in-Own.ensures) refl
