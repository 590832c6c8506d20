-- A typed frame is ready for the instruction that its types allow, and its words are those of its
-- slots.
use Rattle.std.proofs.Common.{◌≡◌, ℕ, ◌+◌, ◌≤◌, ◌^◌, List, [], ◌∷◌, ◌++◌, length, sym, ap, ◌∙◌}
use Rattle.std.proofs.Common.{arith, append_assoc, length-append}
use Rattle.std.specs.Prelude.{map, reverse}
use Rattle.std.proofs.lemmas.List.{reverse-append, reverse-reverse, map-append, length-map}
use Rattle.std.proofs.lemmas.List.{length-reverse}
use Rattle.wasm_syntax.specs.declared.types.ValueType.{ValueType}
use Rattle.wasm_syntax.specs.declared.types.ValueType.TheVariants.{I32, I64}
use Rattle.wasm_syntax.specs.declared.value.Value.{Value}
use Rattle.wasm_syntax.specs.declared.value.Value.TheVariants as value
use Rattle.wasm_syntax.specs.declared.instruction.Instruction.{Instruction}
use Rattle.wasm_rules.specs.Types.{AreOf, number_in}
use Rattle.wasm_rules.specs.Typing.{Context, HasInstructionType}
use Rattle.wasm_rules.specs.Configuration.{Program, Store, Label}
use Rattle.wasm_rules.specs.Effects.{Effect, Gives, Fails, Wrong, effect, IsEffect}
use Rattle.wasm_rules.specs.Typed.{IsTypedStore}
use Rattle.wasm_rules.proofs.Soundness.EffectSound.{EffectHas, effect_has}
use Rattle.machine_slots.specs.rules.Places.{slots_of, all_below}
use Rattle.machine_slots.specs.Frames.{frame_words, AllNumbersFit, ShowsStore, IsNotWrong, IsReady}
use Rattle.machine_slots.specs.Frames.{Cells}
use Rattle.machine_slots.proofs.Families.{map-reverse}

-- values of any types are in range
pub typed_fit : (types : List ValueType) (vs : List Value) → AreOf types vs → AllNumbersFit vs
typed_fit [] [] h = tt
typed_fit [] (v ∷ vs) h = absurd h
typed_fit (t ∷ types) [] h = absurd h
typed_fit (I32 ∷ types) (value.I32 n ∷ vs) h = (h.0, typed_fit types vs h.1)
typed_fit (I32 ∷ types) (value.I64 n ∷ vs) h = absurd h.0
typed_fit (I64 ∷ types) (value.I32 n ∷ vs) h = absurd h.0
typed_fit (I64 ∷ types) (value.I64 n ∷ vs) h = (h.0, typed_fit types vs h.1)

typed_not_wrong : (c : Context) (program : Program) (few : program.most_pages
    ≤ 2 ^ 16) (after : List ValueType) (e : Effect) → EffectHas c program few after e → IsNotWrong e
typed_not_wrong c program few after (Gives s ls vs) h = tt
typed_not_wrong c program few after (Fails why) h = tt
typed_not_wrong c program few after Wrong h = absurd h

pub typed_ready : (c : Context) (program : Program) (labels : List (List ValueType))
    (i : Instruction) (p q types : List ValueType) (before : Cells) (store : Store)
    (ls vs : List Value) (below callers : List ℕ)
    → program.most_pages ≤ 2 ^ 16 → IsEffect i → HasInstructionType c labels i p q
    → IsTypedStore c program store → AreOf c.locals ls → AreOf (p ++ types) vs
    → before.words ≡ frame_words ls vs below callers
    → ShowsStore program store before.globals before.memory
    → IsReady program i before store ls vs below callers
typed_ready c program labels i p q types before store ls vs below callers few is typing typed
    locals operands words_are shown =
    record {
      words_are = words_are;
      shown = shown;
      fits = typed_fit (p ++ types) vs operands;
      has = typed_not_wrong c program few (q ++ types) (effect program i store ls vs)
          (effect_has c program few labels i p q types store ls vs is typing typed locals operands);
    }

-- how many words a frame has, with those of the frames that wait
pub length-frame_words : (ls vs : List Value) (below callers : List ℕ)
    → length (frame_words ls vs below callers)
    ≡ length vs + (length below + (length ls + length callers))
length-frame_words ls vs below callers =
    omega (
      arith,
      length-append (map number_in vs) (below ++ (map number_in (reverse ls) ++ callers)),
      length-append below (map number_in (reverse ls) ++ callers),
      length-append (map number_in (reverse ls)) callers,
      length-map vs number_in,
      length-map (reverse ls) number_in,
      length-reverse ls,
    )

-- the slots of a frame above those of the frames that wait, from the top down
pub slots_words : (ls : List Value) (labels : List Label) (vs : List Value) (callers : List ℕ)
    → reverse (callers ++ slots_of ls labels vs)
    ≡ frame_words ls vs (map number_in (all_below labels)) (reverse callers)
slots_words ls labels vs callers =
    let operands : List Value = vs ++ all_below labels in
    let A : List ℕ = map number_in vs in
    let B : List ℕ = map number_in (all_below labels) in
    let L : List ℕ = map number_in (reverse ls) in
    let turned : reverse (map number_in (ls ++ reverse operands)) ≡ (A ++ B) ++ L =
    sym (map-reverse number_in (ls ++ reverse operands))
    ∙ ap (map number_in) (reverse-append ls (reverse operands)
    ∙ ap (λ z. z ++ reverse ls) (reverse-reverse operands))
    ∙ map-append number_in operands (reverse ls)
    ∙ ap (λ z. z ++ L) (map-append number_in vs (all_below labels)) in
    reverse-append callers (slots_of ls labels vs)
    ∙ ap (λ z. z ++ reverse callers) turned
    ∙ append_assoc (A ++ B) L (reverse callers)
    ∙ append_assoc A B (L ++ reverse callers)

-- and back
pub words_slots : (ls : List Value) (labels : List Label) (vs : List Value) (callers words : List ℕ)
    → words ≡ frame_words ls vs (map number_in (all_below labels)) (reverse callers)
    → reverse words ≡ callers ++ slots_of ls labels vs
words_slots ls labels vs callers words e =
    ap reverse (e ∙ sym (slots_words ls labels vs callers))
    ∙ reverse-reverse (callers ++ slots_of ls labels vs)
