-- An end leads out of its sequence, and an `else` where the table says.
use Rattle.std.proofs.Common.{◌≡◌, ℕ, zero, suc, List, [], ◌∷◌, ◌++◌, Some, sym, subst}
use Rattle.std.specs.Prelude.{slice_get}
use Rattle.wasm_syntax.specs.declared.types.ValueType.{ValueType}
use Rattle.wasm_syntax.specs.declared.value.Value.{Value}
use Rattle.wasm_syntax.specs.declared.instruction.Instruction.{Instruction}
use Rattle.wasm_syntax.specs.declared.instruction.Instruction.TheVariants as instr
use Rattle.wasm_syntax.specs.rules.Sequence.{Sequence, Stop, spelled}
use Rattle.wasm_rules.specs.Types.{AreOf}
use Rattle.wasm_rules.specs.Typing.{Context}
use Rattle.wasm_rules.specs.Configuration.{Part, Label, LabelOf}
use Rattle.wasm_rules.specs.Shapes.{LabelShape, ShapeOf}
use Rattle.wasm_rules.proofs.Soundness.Values.{are_both}
use Rattle.machine_slots.specs.rules.Places.{HaveShape}
use Rattle.machine_jumps.specs.Jumps.{HasShape, IsExit}
use Rattle.machine_jumps.specs.Tables.{HasJump, entry}
use Rattle.machine_jumps.proofs.MovesHold.{end_leads_out}
use Rattle.machine_frame.specs.rules.FramePosition.{IsTypedAt}
use Rattle.machine_frame.specs.laws.FramePosition.{EndsLeadOut, PartsLeadOut}

-- The values at the end of a sequence have joined those below its label, of the types that they
-- have there.
module _ (c : Context) (body : Sequence) (ls vs below : List Value) (keeps : ℕ)
    (target after : Sequence) (which : Part) (labels : List Label) (ts : List ValueType) where
  joined : (q : ℕ) (takes types : List ValueType) (target' after' : Sequence) (which' : Part)
      (shapes : List LabelShape) → AreOf c.locals ls → AreOf ts vs
      → HaveShape (ShapeOf takes target' types after' which'
      ∷ shapes) (LabelOf keeps target below after which ∷ labels)
      → HasShape c body q shapes (ts ++ types) after'
      → IsTypedAt c body q ls labels (vs ++ below) after
  joined q takes types target' after' which' shapes l o h e = record {
    shapes = shapes;
    types = ts ++ types;
    reached = subst (λ z. HasShape c body q shapes (ts ++ types) z) (sym h.3) e;
    labels_are = h.5;
    operands = are_both ts types vs below o h.2;
    locals = l;
  }

pub ends_lead_out : EndsLeadOut
ends_lead_out c body p keeps ls vs below target after which labels typed s o =
    by_shapes s.shapes s.reached s.labels_are
  where
    by_shapes : (shapes : List LabelShape) → HasShape c body p shapes s.types Stop
        → HaveShape shapes (LabelOf keeps target below after which ∷ labels)
        → IsTypedAt c body (suc p) ls labels (vs ++ below) after
    by_shapes [] e h = absurd h
    by_shapes (ShapeOf takes target' types after' which' ∷ shapes) e h =
        joined c body ls vs below keeps target after which labels s.types
        (suc p) takes types target' after' which' shapes s.locals s.operands h
        (end_leads_out c body p takes types target' after' which' shapes s.types typed e o)

-- an `else` is no end of a body
not_last : (opcodes : List Instruction) (p : ℕ)
    → slice_get (opcodes ++ (instr.End ∷ [])) p ≡ Some instr.Else
    → slice_get opcodes p ≡ Some instr.Else
not_last [] zero e = absurd (cc)
not_last [] (suc p) e = absurd (cc)
not_last (i ∷ opcodes) zero e = e
not_last (i ∷ opcodes) (suc p) e = not_last opcodes p e

pub parts_lead_out : PartsLeadOut
parts_lead_out c body table p keeps ls vs below target after which labels typed right s o =
    by_shapes s.shapes s.labels_are (right p (record {
      labels = s.shapes;
      operands = s.types;
      rest = Stop;
    }) s.reached (not_last (spelled body) p o))
  where
    by_shapes : (shapes : List LabelShape)
        → HaveShape shapes (LabelOf keeps target below after which ∷ labels)
        → HasJump (entry table p 0) (IsExit c body shapes s.types)
        → HasJump (entry table p 0) (λ jump. IsTypedAt c body jump.to ls labels (vs ++ below) after)
    by_shapes [] h j = absurd h
    by_shapes (ShapeOf takes target' types after' which' ∷ shapes) h j = (
      j.0,
      j.1,
      joined c body ls vs below keeps target after which labels s.types j.0.to takes
          types target' after' which' shapes s.locals s.operands h j.2.reached,
    )
