-- A branch leads where the table says.
use Rattle.std.proofs.Common.{◌≡◌, ℕ, zero, suc, ◌+◌, ◌-◌, ◌≤◌, List, [], ◌∷◌, ◌++◌, length, drop}
use Rattle.std.proofs.Common.{Bool, true, false, Option, Some, None, refl, sym, ap, ◌∙◌, subst}
use Rattle.std.proofs.Common.{arith, append_assoc, if◌then◌else◌, ◌==◌}
use Rattle.std.specs.Prelude.{nat_le, slice_get}
use Rattle.std.specs.Option.{option_and_then}
use Rattle.std.specs.List.{AllByRecursion}
use Rattle.wasm_syntax.specs.declared.types.ValueType.{ValueType}
use Rattle.wasm_syntax.specs.declared.types.ValueType.TheVariants.{I32}
use Rattle.wasm_syntax.specs.declared.value.Value.{Value}
use Rattle.wasm_syntax.specs.declared.instruction.Instruction.TheVariants as instr
use Rattle.wasm_syntax.specs.rules.Sequence.{Sequence, Stop, Plain, InBlock, InLoop, InIf, InIfElse}
use Rattle.wasm_syntax.specs.rules.Sequence.{spelled}
use Rattle.wasm_rules.specs.Types.{AreOf, results_of}
use Rattle.wasm_rules.specs.Typing.{Context, IsLabel}
use Rattle.wasm_rules.specs.Configuration.{Part, Main, Second, Label, LabelOf}
use Rattle.wasm_rules.specs.Shapes.{Shape, LabelShape, ShapeOf, types_behind, shape_at, body_shape}
use Rattle.wasm_rules.specs.laws.TypedShapes.{AreTypedShapes}
use Rattle.wasm_rules.specs.Steps.{held_below}
use Rattle.wasm_rules.specs.laws.Laws.{labels_height}
use Rattle.wasm_rules.proofs.Soundness.Values.{are_both, topmost_are}
use Rattle.machine_slots.specs.rules.Places.{HaveShape}
use Rattle.machine_slots.proofs.Branches.{held_all}
use Rattle.machine_jumps.specs.declared.jump.Jump.{Jump}
use Rattle.machine_jumps.specs.Jumps.{HasShape, IsJump}
use Rattle.machine_jumps.specs.Tables.{HasJump, entry}
use Rattle.machine_jumps.proofs.MovesHold.{plain_leads_on}
use Rattle.machine_frame.specs.rules.FramePosition.{IsTypedAt}
use Rattle.machine_frame.specs.laws.FramePosition.{Branches, BranchesLead, ConditionsLead}
use Rattle.machine_frame.specs.laws.FramePosition.{TablesLead}
use Rattle.machine_frame.proofs.FramePosition.Counts.{below_count}
use Rattle.machine_frame.proofs.FramePosition.LeadingOn.{shape_of, typed_there, condition_on}
use Rattle.machine_jumps.proofs.Low.{one_result as result_one}
use Rattle.machine_frame.proofs.Threads.Words.{values_count}

-- ---- what branches to the labels take

-- a branch to any of these labels takes one value at most
abbrev TakeOne : List LabelShape → Type 0
TakeOne [] = Unit {0}
TakeOne (ShapeOf takes target below after which ∷ shapes) = (length takes ≤ 1) × TakeOne shapes

abbrev TakeOneIf : Option Shape → Type 0
TakeOneIf None = Unit {0}
TakeOneIf (Some s) = TakeOne s.labels

one_after : (f : List ValueType → Option Shape) (o : Option (List ValueType))
    → ((us : List ValueType) → TakeOneIf (f us)) → TakeOneIf (option_and_then f o)
one_after f None h = tt
one_after f (Some us) h = h us

one_either : (b : Bool) (x y : Option Shape) → TakeOneIf x → TakeOneIf y
    → TakeOneIf (if b then x else y)
one_either true x y h k = h
one_either false x y h k = k

labels_take_one : (c : Context) (labels : List LabelShape) (s : Sequence) (ts : List ValueType)
    (n : ℕ) → TakeOne labels → TakeOneIf (shape_at c labels s ts n)
labels_take_one c labels s ts zero h = h
labels_take_one c labels Stop ts (suc n) h = tt
labels_take_one c labels (Plain i rest) ts (suc n) h =
    one_after (λ us. shape_at c labels rest us n) (types_behind c i ts) (λ us.
    labels_take_one c labels rest us n h)
labels_take_one c labels (InBlock t inner rest) ts (suc n) h =
    one_either (nat_le n (length (spelled inner))) _ _
    (labels_take_one c (ShapeOf (results_of t) rest ts rest Main ∷ labels) inner [] n (
      result_one t,
      h,
    ))
    (labels_take_one c labels rest (results_of t ++ ts) (n - (length (spelled inner) + 1)) h)
labels_take_one c labels (InLoop t inner rest) ts (suc n) h =
    one_either (nat_le n (length (spelled inner))) _ _
    (labels_take_one c (ShapeOf [] (InLoop t inner rest) ts rest Main
    ∷ labels) inner [] n (omega arith, h))
    (labels_take_one c labels rest (results_of t ++ ts) (n - (length (spelled inner) + 1)) h)
labels_take_one c labels (InIf t first rest) ts (suc n) h =
    one_either (nat_le n (length (spelled first))) _ _
    (labels_take_one c (ShapeOf (results_of t) rest (drop 1 ts) rest Main
    ∷ labels) first [] n (result_one t, h))
    (labels_take_one c labels rest (results_of t ++ drop 1 ts) (n - (length (spelled first) + 1)) h)
labels_take_one c labels (InIfElse t first second rest) ts (suc n) h =
    one_either (nat_le n (length (spelled first))) _ _
    (labels_take_one c (ShapeOf (results_of t) rest (drop 1 ts) rest Main
    ∷ labels) first [] n (result_one t, h))
    (one_either (nat_le (n - (length (spelled first) + 1)) (length (spelled second))) _ _
    (labels_take_one c (ShapeOf (results_of t) rest (drop 1 ts) rest Second ∷ labels) second [] (n
    - (length (spelled first) + 1)) (result_one t, h))
    (labels_take_one c labels rest (results_of t ++ drop 1 ts) (n - (length (spelled first) + 1)
    - (length (spelled second) + 1)) h))

last_takes_none : (c : Context) (b : Bool)
    → TakeOneIf (if b then Some (record { labels = []; operands = c.returns; rest = Stop })
    else None)
last_takes_none c true = tt
last_takes_none c false = tt

body_takes_one : (c : Context) (body : Sequence) (p : ℕ) → length c.returns ≤ 1
    → TakeOneIf (body_shape c body p)
body_takes_one c body p one =
    one_either (nat_le p (length (spelled body))) _ _
    (labels_take_one c (ShapeOf c.returns Stop [] Stop Main ∷ []) body [] p (one, tt))
    (last_takes_none c (p == length (spelled body) + 1))

-- ---- one branch

module _ (c : Context) (body : Sequence) (f : ℕ) (ls vs : List Value) (locals : AreOf c.locals ls)
    (jump : Jump) where
  -- to the innermost label
  branch_here : (labels : List Label) (shapes : List LabelShape) (keeps : ℕ)
      (target target' after after' : Sequence) (which which' : Part)
      (takes types rest : List ValueType) (below : List Value)
      → HaveShape (ShapeOf takes target types after which
      ∷ shapes) (LabelOf keeps target' below after' which' ∷ labels) → length takes ≤ 1
      → AreOf (takes ++ rest) vs
      → IsJump c body (ShapeOf takes target types after which ∷ shapes) 0 jump
      → Branches c body f 0 ls (LabelOf keeps target' below after' which' ∷ labels) vs jump
  branch_here labels shapes keeps target target' after after' which which' takes types rest below h
      one o j =
      let r = topmost_are takes rest vs o in
      let under : held_below labels ≡ labels_height shapes =
      held_all labels ∙ below_count shapes labels h.5 in
      record {
        outer = labels;
        values = r.0 ++ below;
        target = target';
        goes = rw (h.0, r.1) refl;
        is_there = record {
          shapes = shapes;
          types = takes ++ types;
          reached = subst (λ z. HasShape c body jump.to shapes (takes ++ types) z)
              (sym h.1) j.reached;
          labels_are = h.5;
          operands = are_both takes types r.0 below r.2 h.2;
          locals = locals;
        };
        keeps = j.keeps ∙ sym h.0;
        height = omega (arith, j.height, under, values_count types below h.2);
        one = omega (arith, j.keeps, one);
      }

  -- to any of them
  branch_typed : (l : ℕ) (branches : List (List ValueType)) (shapes : List LabelShape)
      (labels : List Label) (ts rest out : List ValueType) → IsLabel branches ts l
      → AreTypedShapes c branches shapes out → HaveShape shapes labels → TakeOne shapes
      → AreOf (ts ++ rest) vs → IsJump c body shapes l jump → Branches c body f l ls labels vs jump
  branch_typed l branches [] labels ts rest out is typed h one o j = absurd j
  branch_typed l [] (ShapeOf takes target types after which
      ∷ shapes) labels ts rest out is typed h one o j = absurd typed
  branch_typed l (us ∷ branches) (ShapeOf takes target types after which
      ∷ shapes) [] ts rest out is typed h one o j = absurd h
  branch_typed zero (us ∷ branches) (ShapeOf takes target types after which
      ∷ shapes) (LabelOf keeps target' below after' which'
      ∷ labels) ts rest out is typed h one o j =
      let first : us ≡ ts = cc in
      let same : takes ≡ ts = typed.1 ∙ first in
      branch_here labels shapes keeps target target' after after' which which' takes types rest
      below h one.0 (subst (λ z. AreOf (z ++ rest) vs) (sym same) o) j
  branch_typed (suc l) (us ∷ branches) (ShapeOf takes target types after which
      ∷ shapes) (LabelOf keeps target' below after' which'
      ∷ labels) ts rest out is typed h one o j =
      let r = branch_typed l branches shapes labels ts rest typed.0 is typed.4 h.5 one.1 o j in
      record {
        outer = r.outer;
        values = r.values;
        target = r.target;
        goes = r.goes;
        is_there = r.is_there;
        keeps = r.keeps;
        height = r.height;
        one = r.one;
      }

-- ---- a branch of a frame

module _ {c : Context} {body : Sequence} {p : ℕ} (f : ℕ) {ls vs : List Value} {labels : List Label}
    {rest : Sequence} (s : IsTypedAt c body p ls labels vs rest) (one : length c.returns ≤ 1) where
  -- to a label that takes these types, which are on top of the values that are left
  leads_there : (jumps : Option Jump) (l : ℕ) (branches : List (List ValueType))
      (ts others out : List ValueType) (values_left : List Value) → IsLabel branches ts l
      → AreTypedShapes c branches s.shapes out → AreOf (ts ++ others) values_left
      → HasJump jumps (IsJump c body s.shapes l)
      → HasJump jumps (Branches c body f l ls labels values_left)
  leads_there jumps l branches ts others out values_left is typed o j =
      let taken : TakeOne s.shapes = (rw s.reached at (body_takes_one c body p one)) in (
        j.0,
        j.1,
        branch_typed c body f ls values_left s.locals j.0 l branches s.shapes labels ts others
            out is typed s.labels_are taken o j.2,
      )

pub branches_lead : BranchesLead
branches_lead c body opcodes table p f l ls vs labels rest routine s =
    let shape = typed_there routine.typed s in
    let h = shape.typed_rest in
    let jump : HasJump (entry table p 0) (IsJump c body s.shapes l) =
    routine.right p (shape_of s) s.reached in
    let types : s.types ≡ h.4.0 ++ (h.4.1 ++ h.2) = h.3 ∙ ap (λ z. z ++ h.2) h.4.3
    ∙ append_assoc h.4.0 h.4.1 h.2 in
    leads_there f s routine.one (entry table p 0) l shape.branches h.4.0 (h.4.1 ++ h.2) shape.out vs
    h.4.2 shape.typed_labels (subst (λ z. AreOf z vs) types s.operands) jump

pub conditions_lead : ConditionsLead
conditions_lead c body opcodes table p f l ls vs labels rest routine s =
    let shape = typed_there routine.typed s in
    let h = shape.typed_rest in
    let jump : HasJump (entry table p 0) (IsJump c body s.shapes l) =
    routine.right p (shape_of s) s.reached in
    let types : s.types ≡ I32 ∷ (h.4.0 ++ h.2) = h.3 ∙ ap (λ z. z ++ h.2) h.4.2 in
    let on = condition_on (h.4.0 ++ h.2) vs types s.operands in (
      on.0,
      record {
        shapes = s.shapes;
        types = drop 1 s.types;
        reached = plain_leads_on c body p s.shapes s.types (drop 1 s.types)
            (instr.BrIf l) rest routine.typed s.reached refl;
        labels_are = s.labels_are;
        operands = on.1;
        locals = s.locals;
      },
      leads_there f s routine.one (entry table p 0) l shape.branches h.4.0 h.2 shape.out on.0.below
          h.4.1 shape.typed_labels on.2 jump,
    )

-- each label of a table takes the types that all of them take
table_label : (branches : List (List ValueType)) (ts : List ValueType) (choices : List ℕ)
    (last k : ℕ) {l : ℕ} → AllByRecursion (IsLabel branches ts) choices → IsLabel branches ts last
    → slice_get (choices ++ (last ∷ [])) k ≡ Some l → IsLabel branches ts l
table_label branches ts [] last zero {l} h is e = let same : last ≡ l = cc in
    subst (λ z. IsLabel branches ts z) same is
table_label branches ts [] last (suc k) h is e = absurd (cc)
table_label branches ts (x ∷ choices) last zero {l} h is e = let same : x ≡ l = cc in
    subst (λ z. IsLabel branches ts z) same h.0
table_label branches ts (x ∷ choices) last (suc k) h is e =
    table_label branches ts choices last k h.1 is e

pub tables_lead : TablesLead
tables_lead c body opcodes table p f last choices ls vs labels rest routine s =
    let now : Sequence = Plain (instr.BrTable choices last) rest in
    let shape = typed_there routine.typed s in
    let h = shape.typed_rest in
    let jumps : ((k l : ℕ) → slice_get (choices ++ (last ∷ [])) k ≡ Some l
    → HasJump (entry table p k) (IsJump c body s.shapes l)) = routine.right p (shape_of
    s) s.reached in
    let types : s.types ≡ I32 ∷ (h.4.0 ++ (h.4.1 ++ h.2)) = h.3 ∙ ap (λ z. z ++ h.2) h.4.4
    ∙ ap (λ z. I32 ∷ z) (append_assoc h.4.0 h.4.1 h.2) in
    let on = condition_on (h.4.0 ++ (h.4.1 ++ h.2)) vs types s.operands in (
      on.0,
      λ k l e. leads_there f s routine.one (entry table p k) l shape.branches h.4.0 (h.4.1 ++ h.2)
          shape.out on.0.below (table_label shape.branches h.4.0 choices last k h.4.2 h.4.3 e)
          shape.typed_labels on.2 (jumps k l e),
    )
