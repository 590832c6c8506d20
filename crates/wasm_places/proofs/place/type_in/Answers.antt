use Rattle.std.proofs.Common.{◌≡◌, None, rules}
use Rattle.wasm_places.proofs.place.type_in.Goals as goal

pub returns-in_err-number : goal.returns-in_err-number
returns-in_err-number c =
    let none : c.from_residual.result ≡ None = search rules in
    rw none (λ number h. c.in_err-number.ensures number h.entry)
