use Rattle.std.proofs.Common.{◌≡◌, None, rules}
use Rattle.wasm_places.proofs.place.function_in.Goals as goal

pub returns-in_err-own : goal.returns-in_err-own
returns-in_err-own c =
    let none : c.from_residual-in_err-own.result ≡ None = search rules in
    rw none (λ number h. c.in_err-own.ensures h.own h.entry)
