-- Floats that are told with their place, piece by piece.
use Rattle.std.proofs.Common.{◌≡◌, ℕ, List, ◌++◌, Option, None, Some}
use Rattle.std.specs.Prelude.{Result, Ok, Err, MatchOption, OnOk}
use Rattle.std.specs.Borrow.{Bor}
use Rattle.std.specs.Io.KnownBytes.{Appends}
use Rattle.wasm_places.specs.declared.place.ModulePlace.{ModulePlace}
use Rattle.wasm_places.specs.declared.uses.TypeUse.{TypeUse}
use Rattle.wasm_places.specs.rules.Places.{LiesAt}
use Rattle.wasm_places.specs.rules.FunctionNames.{IsGoodOf, LacksGood, ModuleNames}
use Rattle.command_words.specs.FunctionNames.{lent_bytes}
use Rattle.command_words.specs.rules.Floats.{IsNameAt, IsUseAt, TellsOfFloat, float_at, float_hint}
use Rattle.command_words.specs.rules.Floats.{place_text}
use Rattle.command_words.specs.rules.FunctionNames.{IsNameIn}
use Rattle.command_words.specs.rules.Printers.{PrinterState, IsPrinted}
use Rattle.command_words.proofs.LineLemmas.Printed.{prints_both}

-- a text, and one more by what is called last
pub prints_on : {T E : Type 0} (r : Result T E) (a b c : PrinterState) (p q : List ℕ)
    → IsPrinted a b p → OnOk r (IsPrinted b c q) → OnOk r (IsPrinted a c (p ++ q))
prints_on (Ok done) a b c p q h k = prints_both a b c p q h k
prints_on (Err why) a b c p q h k = tt

-- three texts one after the other, the last of them by a write
pub prints_three : {T E : Type 0} (r : Result T E) (a b c d : PrinterState) (p q t : List ℕ)
    → IsPrinted a b p → IsPrinted b c q → OnOk r (Appends c.contents d.contents t)
    → OnOk r (d.failed ≡ c.failed) → OnOk r (IsPrinted a d (p ++ q ++ t))
prints_three (Ok done) a b c d p q t h i bytes steady =
    prints_both a c d (p ++ q) t (prints_both a b c p q h i) (bytes, steady)
prints_three (Err why) a b c d p q t h i bytes steady = tt

-- what is told of floats with this name, at this place
pub float_told : {T E : Type 0} (r : Result T E) (bytes : List ℕ) (at : ℕ)
    (value_type operation : List ℕ) (lies : Option ModulePlace) (called : Option (List ℕ))
    (found : TypeUse) (old new : PrinterState)
    → float_at bytes at ≡ Some (value_type, operation) → LiesAt bytes at lies
    → IsNameAt bytes lies called → IsUseAt bytes lies found
    → OnOk r (IsPrinted old new (value_type ++ operation ++ place_text lies called found
    ++ float_hint))
    → OnOk r (TellsOfFloat bytes at old new)
float_told (Ok done) bytes at value_type operation lies called found old new named is names used
    printed =
    rw named (lies, is, found, used, called, names, printed)
float_told (Err why) bytes at value_type operation lies called found old new named is names used
    printed = tt

-- ---- the name of a function

pub named_in : (bytes : List ℕ) (function : ℕ) (name : Option (Bor (List ℕ)))
    → MatchOption name (LacksGood (ModuleNames bytes function))
    (λ n. IsGoodOf (ModuleNames bytes function) n.now)
    → IsNameIn (Some bytes) function (lent_bytes name)
named_in bytes function (Some name) h = h
named_in bytes function None h = h
