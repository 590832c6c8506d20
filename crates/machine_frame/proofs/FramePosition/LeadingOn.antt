-- An opcode that stays in its sequence, or begins one, leads to the next position, or where
-- the table says.
use Rattle.std.proofs.Common.{◌≡◌, ℕ, suc, List, [], ◌∷◌, ◌++◌, drop, Option, Some, refl, sym, ap}
use Rattle.std.proofs.Common.{◌∙◌, subst}
use Rattle.wasm_syntax.specs.declared.types.ValueType.{ValueType}
use Rattle.wasm_syntax.specs.declared.types.ValueType.TheVariants.{I32}
use Rattle.wasm_syntax.specs.declared.value.Value.{Value}
use Rattle.wasm_syntax.specs.declared.value.Value.TheVariants as value
use Rattle.wasm_syntax.specs.rules.Sequence.{Sequence}
use Rattle.wasm_rules.specs.Types.{AreOf, results_of}
use Rattle.wasm_rules.specs.Typing.{Context}
use Rattle.wasm_rules.specs.Configuration.{Part, Main, Second, Label}
use Rattle.wasm_rules.specs.Shapes.{Shape, LabelShape, ShapeOf, types_behind}
use Rattle.wasm_rules.specs.laws.TypedShapes.{IsTypedShape}
use Rattle.wasm_rules.specs.Steps.{block_label}
use Rattle.wasm_rules.specs.Effects.{Gives}
use Rattle.wasm_rules.proofs.TypedShape.{reached_shapes_typed}
use Rattle.wasm_rules.proofs.Soundness.EffectSound.{EffectHas, effect_has}
use Rattle.machine_slots.specs.rules.Places.{HaveShape}
use Rattle.machine_jumps.specs.Jumps.{HasShape, JumpsTo}
use Rattle.machine_jumps.specs.Moves.{IsTypedBody}
use Rattle.machine_jumps.specs.Tables.{HasJump, entry}
use Rattle.machine_jumps.proofs.MovesHold.{plain_leads_on, block_leads_in, loop_leads_in}
use Rattle.machine_jumps.proofs.MovesHold.{if_leads_in, choice_leads_in}
use Rattle.machine_frame.specs.rules.FramePosition.{IsTypedAt}
use Rattle.machine_frame.specs.laws.FramePosition.{Condition, EffectsLeadOn, BlocksLeadIn}
use Rattle.machine_frame.specs.laws.FramePosition.{LoopsLeadIn, IfsLeadIn, ChoicesLeadIn}
use Rattle.machine_frame.proofs.FramePosition.Effects.{effect_behind, table_stays}

-- ---- what typing knows of a frame

-- what is there, as one shape
abbrev pub shape_of : {c : Context} {body : Sequence} {p : ℕ} {ls vs : List Value}
    {labels : List Label} {rest : Sequence} → IsTypedAt c body p ls labels vs rest → Shape
shape_of {labels} {rest} s = record {
  labels = s.shapes;
  operands = s.types;
  rest = rest;
}

pub typed_there : {c : Context} {body : Sequence} {p : ℕ} {ls vs : List Value} {labels : List Label}
    {rest : Sequence} → IsTypedBody c body → (s : IsTypedAt c body p ls labels vs rest)
    → IsTypedShape c (shape_of s)
typed_there {c} {body} {p} typed s =
    reached_shapes_typed c body p (shape_of s) typed s.reached

-- a condition on top, with what is below it
pub condition_on : {ts : List ValueType} (below : List ValueType) (vs : List Value) → ts ≡ I32 ∷
    below → AreOf ts vs
    → (on : Condition vs) × AreOf (drop 1 ts) on.below × AreOf below on.below
condition_on {ts} below vs e o = by_values vs (subst (λ z. AreOf z vs) e o)
  where
    by_values : (vs : List Value) → AreOf (I32 ∷ below) vs → (on : Condition vs)
        × AreOf (drop 1 ts) on.below × AreOf below on.below
    by_values [] h = absurd h
    by_values (value.I64 n ∷ rest) h = absurd h.0
    by_values (value.I32 n ∷ rest) h = (
      record { number = n; below = rest; is = refl; fits = h.0 },
      subst (λ z. AreOf z rest) (sym (ap (drop 1) e)) h.1,
      h.1,
    )

-- ---- opcodes that are no jumps and no calls

pub effects_lead_on : EffectsLeadOn
effects_lead_on c program body p i store store' ls ls' vs vs' labels rest typed few is sound s e =
    let t = typed_there typed s in
    let h = t.typed_rest in
    let operands : AreOf (h.0 ++ h.2) vs = subst (λ z. AreOf z vs) h.3 s.operands in
    let has : EffectHas c program few (h.1 ++ h.2) (Gives store' ls' vs') =
    subst (λ z. EffectHas c program few (h.1 ++ h.2) z) e
    (effect_has c program few t.branches i h.0 h.1 h.2 store ls vs is h.4 sound s.locals
    operands) in
    let goes : types_behind c i (h.0 ++ h.2) ≡ Some (h.1 ++ h.2) =
    effect_behind c program store store' ls ls' vs vs' t.branches i h.0 h.1 h.2 is h.4 e in (
      record {
        shapes = s.shapes;
        types = h.1 ++ h.2;
        reached = plain_leads_on c body p s.shapes s.types (h.1
            ++ h.2) i rest typed s.reached (ap (types_behind c i) h.3 ∙ goes);
        labels_are = s.labels_are;
        operands = has.2;
        locals = has.1;
      },
      has.0,
      table_stays program i store store' ls ls' vs vs' e,
    )

-- ---- blocks

pub blocks_lead_in : BlocksLeadIn
blocks_lead_in c body p t ls vs labels inner rest typed s = record {
  shapes = ShapeOf (results_of t) rest s.types rest Main ∷ s.shapes;
  types = [];
  reached = block_leads_in c body p s.shapes s.types t inner rest typed s.reached;
  labels_are = (refl, refl, s.operands, refl, refl, s.labels_are);
  operands = tt;
  locals = s.locals;
}

pub loops_lead_in : LoopsLeadIn
loops_lead_in c body p t ls vs labels inner rest typed s = record {
  shapes = ShapeOf [] _ s.types rest Main ∷ s.shapes;
  types = [];
  reached = loop_leads_in c body p s.shapes s.types t inner rest typed s.reached;
  labels_are = (refl, refl, s.operands, refl, refl, s.labels_are);
  operands = tt;
  locals = s.locals;
}

-- either part of an `if`, above the values below the condition
part_typed : (c : Context) (body : Sequence) (q : ℕ) (which : Part) (t : Option ValueType)
    (ls below : List Value) (labels : List Label) (part rest : Sequence) (shapes : List LabelShape)
    (ts : List ValueType) → AreOf c.locals ls → AreOf ts below → HaveShape shapes labels
    → HasShape c body q (ShapeOf (results_of t) rest ts rest which ∷ shapes) [] part
    → IsTypedAt c body q ls (block_label which t below rest ∷ labels) [] part
part_typed c body q which t ls below labels part rest shapes ts l o h e = record {
  shapes = ShapeOf (results_of t) rest ts rest which ∷ shapes;
  types = [];
  reached = e;
  labels_are = (refl, refl, o, refl, refl, h);
  operands = tt;
  locals = l;
}

pub ifs_lead_in : IfsLeadIn
ifs_lead_in c body table p t ls vs labels first rest typed right s =
    let shape = typed_there typed s in
    let on = condition_on shape.typed_rest.0 vs shape.typed_rest.1 s.operands in
    let jump : HasJump (entry table p 0) (JumpsTo c body [] (drop 1 s.types) s.shapes rest) =
    right p (shape_of s) s.reached in (
      on.0,
      part_typed c body (suc p) Main t ls on.0.below labels first rest s.shapes
          (drop 1 s.types) s.locals on.1 s.labels_are
          (if_leads_in c body p s.shapes s.types t first rest typed s.reached).1,
      (
        jump.0,
        jump.1,
        record {
          shapes = s.shapes;
          types = drop 1 s.types;
          reached = jump.2.reached;
          labels_are = s.labels_are;
          operands = on.1;
          locals = s.locals;
        },
      ),
    )

pub choices_lead_in : ChoicesLeadIn
choices_lead_in c body table p t ls vs labels first second rest typed right s =
    let shape = typed_there typed s in
    let on = condition_on shape.typed_rest.0 vs shape.typed_rest.1 s.operands in
    let jump : HasJump (entry table p 0)
    (JumpsTo c body [] [] (ShapeOf (results_of t) rest (drop 1 s.types) rest Second
    ∷ s.shapes) second) = right p (shape_of s) s.reached in (
      on.0,
      part_typed c body (suc p) Main t ls on.0.below labels first rest s.shapes
          (drop 1 s.types) s.locals on.1 s.labels_are
          (choice_leads_in c body p s.shapes s.types t first second rest typed s.reached),
      (
        jump.0,
        jump.1,
        part_typed c body jump.0.to Second t ls on.0.below labels second rest s.shapes
            (drop 1 s.types) s.locals on.1 s.labels_are jump.2.reached,
      ),
    )
