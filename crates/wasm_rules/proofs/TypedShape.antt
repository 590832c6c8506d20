-- In a typed body the shape at each position that typing reaches is typed.
use Rattle.std.proofs.Common.{◌≡◌, ℕ, zero, suc, ◌+◌, ◌-◌, List, [], ◌∷◌, ◌++◌, length, drop}
use Rattle.std.proofs.Common.{Option, Some, None, refl, sym, ap, subst, Bool, true, false}
use Rattle.std.proofs.Common.{if◌then◌else◌, ◌==◌, length-append}
use Rattle.std.specs.Prelude.{nat_le, slice_get}
use Rattle.std.specs.Option.{option_map, option_and_then}
use Rattle.std.proofs.lemmas.List.{append-nil}
use Rattle.wasm_syntax.specs.declared.types.ValueType.{ValueType}
use Rattle.wasm_syntax.specs.declared.types.ValueType.TheVariants.{I32, I64}
use Rattle.wasm_syntax.specs.declared.types.GlobalType.{GlobalType}
use Rattle.wasm_syntax.specs.declared.value.Value.{Value}
use Rattle.wasm_syntax.specs.declared.value.Value.TheVariants as value
use Rattle.wasm_syntax.specs.declared.instruction.Instruction.{Instruction}
use Rattle.wasm_syntax.specs.declared.instruction.Instruction.TheVariants as instr
use Rattle.wasm_syntax.specs.rules.Sequence.{Sequence, Stop, Plain, InBlock, InLoop, InIf, InIfElse}
use Rattle.wasm_syntax.specs.rules.Sequence.{spelled}
use Rattle.wasm_rules.specs.Configuration.{Main, Second}
use Rattle.wasm_rules.specs.Types.{IsOf, takes_of, gives_of, results_of}
use Rattle.wasm_rules.specs.Typing.{Context, HasInstructionType, HasType}
use Rattle.wasm_rules.specs.Shapes.{Shape, LabelShape, ShapeOf, type_of, in_place_of}
use Rattle.wasm_rules.specs.Shapes.{types_behind, shape_at, body_shape}
use Rattle.wasm_rules.specs.laws.TypedShapes.{AreTypedShapes, IsTypedShape, ReachedShapesAreTyped}

-- typed, where there is a shape
abbrev pub IsTypedIf : Context → Option Shape → Type 0
IsTypedIf c None = Unit {0}
IsTypedIf c (Some s) = IsTypedShape c s

-- these types, where typing goes on
abbrev pub IsBehind : Option (List ValueType) → List ValueType → Type 0
IsBehind None ts = Unit {0}
IsBehind (Some us) ts = us ≡ ts

pub drop_front : (xs ys : List ValueType) → drop (length xs) (xs ++ ys) ≡ ys
drop_front [] ys = refl
drop_front (x ∷ xs) ys = drop_front xs ys

pub closed_length : (xs ys : List Instruction) (y : Instruction)
    → length (xs ++ (y ∷ ys)) ≡ length xs + suc (length ys)
closed_length xs ys y = length-append xs (y ∷ ys)

some_behind : {X : Type 0} (o : Option X) (x : X) (go : X → List ValueType) (ts : List ValueType)
    → o ≡ Some x → go x ≡ ts → IsBehind (option_map go o) ts
some_behind None x go ts e h = tt
some_behind (Some y) x go ts e h = let same : y ≡ x = cc in rw same h

pub value_type : (t : ValueType) (v : Value) → IsOf t v → type_of v ≡ t
value_type I32 (value.I32 n) h = refl
value_type I32 (value.I64 n) h = absurd h
value_type I64 (value.I32 n) h = absurd h
value_type I64 (value.I64 n) h = refl

-- the types after an instruction are those of its rule
pub typed_behind : (c : Context) (labels : List (List ValueType)) (i : Instruction)
    (p q below : List ValueType) → HasInstructionType c labels i p q
    → IsBehind (types_behind c i (p ++ below)) (q ++ below)
typed_behind c labels instr.Unreachable p q below h = tt
typed_behind c labels instr.Nop p q below h = rw (h.0, h.1) refl
typed_behind c labels (instr.Br l) p q below h = tt
typed_behind c labels (instr.BrIf l) p q below h = rw (h.2, h.3) refl
typed_behind c labels (instr.BrTable table last) p q below h = tt
typed_behind c labels instr.Return p q below h = tt
typed_behind c labels (instr.Call x) p q below h =
    rw (h.2, h.3) (some_behind (slice_get c.functions x) h.0 (λ f.
    in_place_of (takes_of f) (gives_of f) (takes_of h.0 ++ below)) (gives_of h.0
    ++ below) h.1 (ap (λ z. gives_of h.0 ++ z) (drop_front (takes_of h.0) below)))
typed_behind c labels (instr.CallIndirect x) p q below h =
    rw (h.3, h.4) (some_behind (slice_get c.types x) h.0 (λ f. in_place_of (takes_of f) (gives_of f)
    (takes_of h.0 ++ below)) (gives_of h.0 ++ below) h.1 (ap (λ z. gives_of h.0
    ++ z) (drop_front (takes_of h.0) below)))
typed_behind c labels instr.Drop p q below h = rw (h.1, h.2) refl
typed_behind c labels instr.Select p q below h = rw (h.1, h.2) refl
typed_behind c labels (instr.LocalGet x) p q below h =
    rw (h.2, h.3) (some_behind (slice_get c.locals x) h.0 (λ t. t ∷ below) (h.0 ∷ below) h.1 refl)
typed_behind c labels (instr.LocalSet x) p q below h = rw (h.2, h.3) refl
typed_behind c labels (instr.LocalTee x) p q below h = rw (h.2, h.3) refl
typed_behind c labels (instr.GlobalGet x) p q below h =
    rw (h.2, h.3) (some_behind (slice_get c.globals x) h.0 (λ (g : GlobalType). g.value_type
    ∷ below) (h.0.value_type ∷ below) h.1 refl)
typed_behind c labels (instr.GlobalSet x) p q below h = rw (h.3, h.4) refl
typed_behind c labels (instr.Load o m) p q below h = rw (h.2, h.3) refl
typed_behind c labels (instr.Store o m) p q below h = rw (h.2, h.3) refl
typed_behind c labels instr.MemorySize p q below h = rw (h.1, h.2) refl
typed_behind c labels instr.MemoryGrow p q below h = rw (h.1, h.2) refl
typed_behind c labels instr.MemoryCopy p q below h = rw (h.1, h.2) refl
typed_behind c labels instr.MemoryFill p q below h = rw (h.1, h.2) refl
typed_behind c labels (instr.Const v) p q below h =
    rw (h.2, h.3) (ap (λ t. t ∷ below) (value_type h.0 v h.1))
typed_behind c labels (instr.Eqz t) p q below h = rw (h.0, h.1) refl
typed_behind c labels (instr.Compare t o) p q below h = rw (h.0, h.1) refl
typed_behind c labels (instr.Unary t o) p q below h = rw (h.0, h.1) refl
typed_behind c labels (instr.Binary t o) p q below h = rw (h.0, h.1) refl
typed_behind c labels (instr.Convert o) p q below h = rw (h.0, h.1) refl
typed_behind c labels _ p q below h = absurd h

either_typed : (c : Context) (b : Bool) (x y : Option Shape) → IsTypedIf c x → IsTypedIf c y
    → IsTypedIf c (if b then x else y)
either_typed c true x y fx fy = fx
either_typed c false x y fx fy = fy

behind_typed : (c : Context) (f : List ValueType
    → Option Shape) (o : Option (List ValueType)) (ts : List ValueType) → IsBehind o ts
    → IsTypedIf c (f ts) → IsTypedIf c (option_and_then f o)
behind_typed c f None ts h t = tt
behind_typed c f (Some us) ts h t = rw h t

pub shape_typed : (c : Context) (branches : List (List ValueType)) (labels : List LabelShape)
    (s : Sequence) (ts out : List ValueType) (n : ℕ) → HasType c branches s ts out
    → AreTypedShapes c branches labels out → IsTypedIf c (shape_at c labels s ts n)
shape_typed c branches labels s ts out zero h t = record {
  branches = branches;
  out = out;
  typed_rest = h;
  typed_labels = t;
}
shape_typed c branches labels Stop ts out (suc n) h t = tt
shape_typed c branches labels (Plain i rest) ts out (suc n) h t =
    rw h.3 (behind_typed c (λ us. shape_at c labels rest us n) (types_behind c i (h.0 ++ h.2)) (h.1
    ++ h.2) (typed_behind c branches i h.0 h.1 h.2 h.4) (shape_typed c branches labels rest (h.1
    ++ h.2) out n h.5 t))
shape_typed c branches labels (InBlock b body rest) ts out (suc n) h t =
    either_typed c (nat_le n (length (spelled body))) _ _ (shape_typed c (results_of b
    ∷ branches) (ShapeOf (results_of b) rest ts rest Main ∷ labels) body [] (results_of b) n h.0
    (out, refl, h.1, h.1, t)) (shape_typed c branches labels rest (results_of b
    ++ ts) out (n - (length (spelled body) + 1)) h.1 t)
shape_typed c branches labels (InLoop b body rest) ts out (suc n) h t =
    either_typed c (nat_le n (length (spelled body))) _ _ (shape_typed c ([]
    ∷ branches) (ShapeOf [] (InLoop b body rest) ts rest Main
    ∷ labels) body [] (results_of b) n h.0 (
      out,
      refl,
      h.1,
      h,
      t,
    )) (shape_typed c branches labels rest (results_of b
    ++ ts) out (n - (length (spelled body) + 1)) h.1 t)
shape_typed c branches labels (InIf b first rest) ts out (suc n) h t =
    let below : h.0 ≡ drop 1 ts = sym (ap (drop 1) h.1) in
    let rest_typed : HasType c branches rest (drop 1 ts) out =
    subst (λ z. HasType c branches rest z out) below h.4 in
    let after : HasType c branches rest (results_of b ++ drop 1 ts) out =
    subst (λ z. HasType c branches rest (results_of z ++ drop 1 ts) out) (sym h.2) rest_typed in
    let inside : HasType c (results_of b ∷ branches) first [] (results_of b) =
    subst (λ z. HasType c (results_of z ∷ branches) first [] (results_of z)) (sym h.2) h.3 in
    either_typed c (nat_le n (length (spelled first))) _ _
    (shape_typed c (results_of b ∷ branches) (ShapeOf (results_of b) rest (drop 1 ts) rest Main
    ∷ labels) first [] (results_of b) n inside (out, refl, after, after, t))
    (shape_typed c branches labels rest (results_of b
    ++ drop 1 ts) out (n - (length (spelled first) + 1)) after t)
shape_typed c branches labels (InIfElse b first second rest) ts out (suc n) h t =
    let below : h.0 ≡ drop 1 ts = sym (ap (drop 1) h.1) in
    let after : HasType c branches rest (results_of b ++ drop 1 ts) out =
    subst (λ z. HasType c branches rest (results_of b ++ z) out) below h.4 in
    either_typed c (nat_le n (length (spelled first))) _ _
    (shape_typed c (results_of b ∷ branches) (ShapeOf (results_of b) rest (drop 1 ts) rest Main
    ∷ labels) first [] (results_of b) n h.2 (out, refl, after, after, t))
    (either_typed c (nat_le (n - (length (spelled first) + 1)) (length (spelled second))) _ _
    (shape_typed c (results_of b ∷ branches) (ShapeOf (results_of b) rest (drop 1 ts) rest Second
    ∷ labels) second [] (results_of b) (n - (length (spelled first) + 1)) h.3 (
      out,
      refl,
      after,
      after,
      t,
    ))
    (shape_typed c branches labels rest (results_of b
    ++ drop 1 ts) out (n - (length (spelled first) + 1)
    - (length (spelled second) + 1)) after t))

-- after the last end are the results
returns_typed : (c : Context) (b : Bool)
    → IsTypedIf c (if b then Some (record { labels = []; operands = c.returns; rest = Stop })
    else None)
returns_typed c true = record {
  branches = [];
  out = c.returns;
  typed_rest = refl;
  typed_labels = refl;
}
returns_typed c false = tt

body_typed : (c : Context) (body : Sequence) (p : ℕ) → HasType c (c.returns ∷ []) body [] c.returns
    → IsTypedIf c (body_shape c body p)
body_typed c body p h =
    either_typed c (nat_le p (length (spelled body))) _ _
    (shape_typed c (c.returns ∷ []) (ShapeOf c.returns Stop [] Stop Main ∷ []) body [] c.returns p h
    (c.returns, refl, append-nil c.returns, append-nil c.returns, refl))
    (returns_typed c (p == length (spelled body) + 1))

pub reached_shapes_typed : ReachedShapesAreTyped
reached_shapes_typed c body p s h e = rw e at (body_typed c body p h)
