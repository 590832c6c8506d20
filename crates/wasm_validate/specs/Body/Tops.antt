-- What is done to the innermost open sequence, as a step of all of them. Where none is open nothing
-- can be taken, and what is pushed is lost.
use Rattle.std.specs.Prelude.{List, [], ◌∷◌, Option, Some, None}
use Rattle.wasm_syntax.specs.declared.types.ValueType.{ValueType}
use Rattle.wasm_syntax.specs.declared.types.ValueType.TheVariants.{I32}
use Rattle.wasm_syntax.specs.laws.ReadingItems.{◌>>=◌, check}
use Rattle.wasm_validate.specs.laws.Checking.{Known, Level, popped, agrees, pushed, all_pushed}
use Rattle.wasm_validate.specs.laws.Checking.{level_unreached, Arrow, Fixed, Jump, Dropping}
use Rattle.wasm_validate.specs.laws.Checking.{Selecting, Refused, met, has_no_operands}

abbrev pub top_popped : List Level → Option (Known × List Level)
top_popped [] = None
top_popped (l ∷ levels) = popped l >>= λ o. Some (o.0, o.1 ∷ levels)

abbrev pub top_pushed : Known → List Level → List Level
top_pushed k [] = []
top_pushed k (l ∷ levels) = pushed k l ∷ levels

abbrev pub top_all_pushed : List ValueType → List Level → List Level
top_all_pushed ts [] = []
top_all_pushed ts (l ∷ levels) = all_pushed ts l ∷ levels

abbrev pub top_unreached : List Level → List Level
top_unreached [] = []
top_unreached (l ∷ levels) = level_unreached l ∷ levels

abbrev pub top_taken : ValueType → List Level → Option (List Level)
top_taken t levels = top_popped levels >>= λ o. check (agrees t o.0) >>= λ _. Some o.1

abbrev pub top_all_taken : List ValueType → List Level → Option (List Level)
top_all_taken [] levels = Some levels
top_all_taken (t ∷ ts) levels = top_taken t levels >>= λ levels'. top_all_taken ts levels'

abbrev pub top_selected : List Level → Option (List Level)
top_selected levels =
    top_taken I32 levels >>= λ a. top_popped a >>= λ second. top_popped second.1
    >>= λ first. met second.0 first.0 >>= λ k. Some (top_pushed k first.1)

abbrev pub top_applied : Arrow → List Level → Option (List Level)
top_applied (Fixed takes gives) levels = top_all_taken takes levels
    >>= λ levels'. Some (top_all_pushed gives levels')
top_applied (Jump takes) levels = top_all_taken takes levels
    >>= λ levels'. Some (top_unreached levels')
top_applied Dropping levels = top_popped levels >>= λ o. Some o.1
top_applied Selecting levels = top_selected levels
top_applied Refused levels = None

abbrev pub top_closed : List Level → Option (List Level)
top_closed [] = None
top_closed (l ∷ levels) = check (has_no_operands l.operands) >>= λ _. Some levels
