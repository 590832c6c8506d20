-- A step of all open sequences is one of the innermost.
use Rattle.std.proofs.Common.{◌≡◌, ◌≢◌, Bool, true, false, List, [], ◌∷◌, Option, Some, None, refl}
use Rattle.std.proofs.Common.{sym, ap, ◌∙◌}
use Rattle.wasm_syntax.specs.declared.types.ValueType.{ValueType}
use Rattle.wasm_syntax.specs.declared.types.ValueType.TheVariants.{I32}
use Rattle.wasm_syntax.specs.declared.instruction.Instruction.{Instruction}
use Rattle.wasm_syntax.specs.declared.instruction.Instruction.TheVariants as instr
use Rattle.wasm_syntax.specs.rules.Sequence.{IsPlain}
use Rattle.wasm_syntax.specs.laws.ReadingItems.{◌>>=◌, check}
use Rattle.wasm_rules.specs.Typing.{Context}
use Rattle.wasm_validate.specs.laws.Checking.{Known, Level, popped, agrees, operand_taken}
use Rattle.wasm_validate.specs.laws.Checking.{all_operands_taken, pushed, all_pushed}
use Rattle.wasm_validate.specs.laws.Checking.{level_unreached, Arrow, Fixed, Jump, Dropping}
use Rattle.wasm_validate.specs.laws.Checking.{Selecting, Refused, met, operands_selected, applied}
use Rattle.wasm_validate.specs.laws.Checking.{arrow_of, labels_of, levels_after}
use Rattle.wasm_validate.specs.Body.Tops.{top_popped, top_pushed, top_all_pushed, top_unreached}
use Rattle.wasm_validate.specs.Body.Tops.{top_taken, top_all_taken, top_selected, top_applied}

-- a level put on top of the others
abbrev pub onto : List Level → Level → Option (List Level)
onto levels l = Some (l ∷ levels)

abbrev topped : List Level → Known × Level → Option (Known × List Level)
topped levels p = Some (p.0, p.1 ∷ levels)

popped_onto : (o : Option (Known × Level)) (levels : List Level) (f : Known → Level
    → Option Level) (g : Known → List Level → Option (List Level))
    → ((k : Known) (l : Level) → g k (l ∷ levels) ≡ (f k l >>= onto levels))
    → ((o >>= topped levels) >>= λ p. g p.0 p.1) ≡ ((o >>= λ p. f p.0 p.1) >>= onto levels)
popped_onto None levels f g e = refl
popped_onto (Some p) levels f g e = e p.0 p.1

checked_onto : (b : Bool) (l : Level) (levels : List Level)
    → (check b >>= λ _. Some (l ∷ levels)) ≡ ((check b >>= λ _. Some l) >>= onto levels)
checked_onto true l levels = refl
checked_onto false l levels = refl

pub top_taken_is : (t : ValueType) (l : Level) (levels : List Level)
    → top_taken t (l ∷ levels) ≡ (operand_taken t l >>= onto levels)
top_taken_is t l levels = popped_onto (popped l) levels (λ k l. check (agrees t k)
    >>= λ _. Some l) (λ k ls. check (agrees t k)
    >>= λ _. Some ls) (λ k l. checked_onto (agrees t k) l levels)

taken_onto : (o : Option Level) (levels : List Level) (f : Level → Option Level) (g : List Level
    → Option (List Level)) → ((l : Level) → g (l ∷ levels) ≡ (f l >>= onto levels))
    → ((o >>= onto levels) >>= g) ≡ ((o >>= f) >>= onto levels)
taken_onto None levels f g e = refl
taken_onto (Some l) levels f g e = e l

pub top_all_taken_is : (ts : List ValueType) (l : Level) (levels : List Level)
    → top_all_taken ts (l ∷ levels) ≡ (all_operands_taken ts l >>= onto levels)
top_all_taken_is [] l levels = refl
top_all_taken_is (t ∷ ts) l levels =
    ap (λ z. z >>= λ ls. top_all_taken ts ls) (top_taken_is t l levels)
    ∙ taken_onto (operand_taken t l) levels (λ l'. all_operands_taken ts l') (λ ls.
    top_all_taken ts ls) (λ l'. top_all_taken_is ts l' levels)

met_onto : (o : Option Known) (l : Level) (levels : List Level)
    → (o >>= λ k. Some (top_pushed k (l ∷ levels))) ≡ ((o >>= λ k. Some (pushed k l))
    >>= onto levels)
met_onto None l levels = refl
met_onto (Some k) l levels = refl

first_onto : (second : Known) (l : Level) (levels : List Level)
    → (top_popped (l ∷ levels) >>= λ first. met second first.0 >>= λ k. Some (top_pushed k first.1))
    ≡ ((popped l >>= λ first. met second first.0 >>= λ k. Some (pushed k first.1)) >>= onto levels)
first_onto second l levels = popped_onto (popped l) levels (λ k l. met second k
    >>= λ m. Some (pushed m l)) (λ k ls. met second k
    >>= λ m. Some (top_pushed m ls)) (λ k l. met_onto (met second k) l levels)

operands_onto : (l : Level) (levels : List Level)
    → (top_popped (l ∷ levels) >>= λ second. top_popped second.1 >>= λ first. met second.0 first.0
    >>= λ k. Some (top_pushed k first.1))
    ≡ ((popped l >>= λ second. popped second.1 >>= λ first. met second.0 first.0
    >>= λ k. Some (pushed k first.1)) >>= onto levels)
operands_onto l levels = popped_onto (popped l) levels (λ k l. popped l >>= λ first. met k first.0
    >>= λ m. Some (pushed m first.1)) (λ k ls. top_popped ls >>= λ first. met k first.0
    >>= λ m. Some (top_pushed m first.1)) (λ k l. first_onto k l levels)

pub top_selected_is : (l : Level) (levels : List Level)
    → top_selected (l ∷ levels) ≡ (operands_selected l >>= onto levels)
top_selected_is l levels =
    ap (λ z. z >>= λ a. top_popped a >>= λ second. top_popped second.1
    >>= λ first. met second.0 first.0
    >>= λ k. Some (top_pushed k first.1)) (top_taken_is I32 l levels)
    ∙ taken_onto (operand_taken I32 l) levels (λ a. popped a >>= λ second. popped second.1
    >>= λ first. met second.0 first.0 >>= λ k. Some (pushed k first.1))
    (λ a. top_popped a >>= λ second. top_popped second.1 >>= λ first. met second.0 first.0
    >>= λ k. Some (top_pushed k first.1)) (λ l'. operands_onto l' levels)

dropped_onto : (o : Option (Known × Level)) (levels : List Level)
    → ((o >>= topped levels) >>= λ p. Some p.1) ≡ ((o >>= λ p. Some p.1) >>= onto levels)
dropped_onto None levels = refl
dropped_onto (Some p) levels = refl

pub top_applied_is : (a : Arrow) (l : Level) (levels : List Level)
    → top_applied a (l ∷ levels) ≡ (applied a l >>= onto levels)
top_applied_is (Fixed takes gives) l levels =
    ap (λ z. z >>= λ ls. Some (top_all_pushed gives ls)) (top_all_taken_is takes l levels)
    ∙ taken_onto (all_operands_taken takes l) levels (λ l'. Some (all_pushed gives l')) (λ ls.
    Some (top_all_pushed gives ls)) (λ l'. refl)
top_applied_is (Jump takes) l levels =
    ap (λ z. z >>= λ ls. Some (top_unreached ls)) (top_all_taken_is takes l levels)
    ∙ taken_onto (all_operands_taken takes l) levels (λ l'. Some (level_unreached l')) (λ ls.
    Some (top_unreached ls)) (λ l'. refl)
top_applied_is Dropping l levels = dropped_onto (popped l) levels
top_applied_is Selecting l levels = top_selected_is l levels
top_applied_is Refused l levels = refl

-- ---- opcodes

pub after_plain : (c : Context) (i : Instruction) (l : Level) (levels : List Level) → IsPlain i
    → levels_after c i (l ∷ levels)
    ≡ (applied (arrow_of c (labels_of (l ∷ levels)) i) l >>= onto levels)
after_plain c (instr.Block t) l levels h = absurd h
after_plain c (instr.Loop t) l levels h = absurd h
after_plain c (instr.If t) l levels h = absurd h
after_plain c instr.Else l levels h = absurd h
after_plain c instr.End l levels h = absurd h
after_plain c i l levels h = refl

pub after_is : (c : Context) (i : Instruction) (levels : List Level) → levels ≢ [] → IsPlain i
    → top_applied (arrow_of c (labels_of levels) i) levels ≡ levels_after c i levels
after_is c i [] some h = absurd (some refl)
after_is c i (l ∷ levels) some h = top_applied_is (arrow_of c (labels_of (l ∷ levels)) i) l levels
    ∙ sym (after_plain c i l levels h)
