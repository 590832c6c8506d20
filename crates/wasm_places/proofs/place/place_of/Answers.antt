use Rattle.std.proofs.Common.{◌≡◌, None, rules}
use Rattle.wasm_places.proofs.PlaceLemmas.{no_place, place_is}
use Rattle.wasm_places.proofs.place.place_of.Goals as goal

pub returns-in_err-around : goal.returns-in_err-around
returns-in_err-around c =
    let none : c.from_residual.result ≡ None = search rules in
    rw none (no_place c.args.module.now c.args.at c.in_err-around.ensures)

pub returns : goal.returns
returns c =
    place_is c.args.module.now c.args.at c.in_ok-around.around c.in_ok-around.ensures
    c.place_in.result c.place_in.ensures
