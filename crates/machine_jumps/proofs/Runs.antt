-- Where the shapes of a stretch of positions are those of a typed sequence, and how a stretch falls
-- into parts.
use Rattle.std.proofs.Common.{◌≡◌, ℕ, suc, ◌+◌, ◌-◌, ◌<◌, ◌≤◌, List, [], ◌∷◌, ◌++◌, length, drop}
use Rattle.std.proofs.Common.{Option, Some, refl, sym, ap, ◌∙◌, subst, arith}
use Rattle.std.specs.Prelude.{nat_le, if◌then◌else◌}
use Rattle.std.specs.Option.{option_and_then}
use Rattle.std.proofs.lemmas.Bool.{lt-leb}
use Rattle.wasm_syntax.specs.declared.types.ValueType.{ValueType}
use Rattle.wasm_syntax.specs.declared.instruction.Instruction.{Instruction}
use Rattle.wasm_syntax.specs.declared.instruction.Instruction.TheVariants as instr
use Rattle.wasm_syntax.specs.rules.Sequence.{Sequence, Plain, InBlock, InLoop, InIf, InIfElse}
use Rattle.wasm_syntax.specs.rules.Sequence.{spelled}
use Rattle.wasm_rules.specs.Configuration.{Main, Second}
use Rattle.wasm_rules.specs.Types.{results_of}
use Rattle.wasm_rules.specs.Typing.{Context, HasType}
use Rattle.wasm_rules.specs.Shapes.{Shape, LabelShape, ShapeOf, types_behind, shape_at, body_shape}
use Rattle.wasm_rules.proofs.TypedShape.{IsBehind, typed_behind, closed_length}
use Rattle.wasm_validate.proofs.Algorithm.Reaching.{chosen}

-- what branches to the labels take
abbrev pub branches_of : List LabelShape → List (List ValueType)
branches_of [] = []
branches_of (ShapeOf takes target below after which ∷ labels) = takes ∷ branches_of labels

-- from position p on, up to the one with this number from there, the shapes are these
pub record Agrees (c : Context) (body : Sequence) (p len : ℕ) (shapes : ℕ
    → Option Shape) : Type 0 where
  pub at : (n : ℕ) → n ≤ len → body_shape c body (p + n) ≡ shapes n

passed : (n m : ℕ) (x y : Option Shape) → m < n → (if nat_le n m then x else y) ≡ y
passed n m x y h = let e = lt-leb n m h in rw e refl

module _ {c : Context} {body : Sequence} where
  pub agrees_behind : {p len : ℕ} (m : ℕ) {f : ℕ → Option Shape} → Agrees c body p len f → len ≡ suc
      m
      → Agrees c body (suc p) m (λ n. f (suc n))
  agrees_behind {p} m a e = record {
    at = λ n h. let same : suc p + n ≡ p + suc n = omega arith in ap (λ z. body_shape c body z) same
        ∙ a.at (suc n) (omega arith);
  }

  pub agrees_first : {q len : ℕ} (L R : ℕ) {f : ℕ → Option Shape} (x y : ℕ → Option Shape) → Agrees
      c body q len f
      → len ≡ L + suc R → ((n : ℕ) → f n ≡ (if nat_le n L then x n else y (n - (L + 1))))
      → Agrees c body q L x
  agrees_first L R x y a e parts = record {
    at = λ n h. a.at n (omega arith) ∙ parts n
        ∙ chosen n L (x n) (y (n - (L + 1))) h;
  }

  pub agrees_second : {q len : ℕ} (L R : ℕ) {f : ℕ → Option Shape} (x y : ℕ → Option Shape) → Agrees
      c body q len f
      → len ≡ L + suc R → ((n : ℕ) → f n ≡ (if nat_le n L then x n else y (n - (L + 1))))
      → Agrees c body (suc (q + L)) R y
  agrees_second {q} L R x y a e parts = record {
    at = λ n h.
        let same : suc (q + L) + n ≡ q + (L + suc n) = omega arith in
        let back : L + suc n - (L + 1) ≡ n = omega arith in
        ap (λ z. body_shape c body z) same ∙ a.at (L + suc n) (omega arith) ∙ parts (L + suc n)
        ∙ passed (L + suc n) L (x (L + suc n)) (y (L + suc n - (L + 1))) (omega arith)
        ∙ ap y back;
  }

-- at position p a sequence begins or goes on that makes what it gives of operands of these types
pub record RunsFrom (c : Context) (body : Sequence) (p : ℕ) (labels : List LabelShape)
    (rest : Sequence) (ts gives : List ValueType) : Type 0 where
  pub typed : HasType c (branches_of labels) rest ts gives
  pub covers : Agrees c body p (length (spelled rest)) (λ n. shape_at c labels rest ts n)

-- what is there
pub runs_here : {c : Context} {body : Sequence} {p : ℕ} {labels : List LabelShape} {rest : Sequence}
    {ts gives : List ValueType} → RunsFrom c body p labels rest ts gives
    → body_shape c body p ≡ Some (record { labels = labels; operands = ts; rest = rest })
runs_here {c} {body} {p} r = let same : p ≡ p + 0 = omega arith in
    ap (λ z. body_shape c body z) same ∙ r.covers.at 0 (omega arith)

module _ (c : Context) (body : Sequence) (p : ℕ) (labels : List LabelShape)
    (ts gives : List ValueType) where
  pub run_plain : (i : Instruction) (rest : Sequence) {us : List ValueType}
      → RunsFrom c body p labels (Plain i rest) ts gives → types_behind c i ts ≡ Some us
      → RunsFrom c body (suc p) labels rest us gives
  run_plain i rest {us} r e =
      let h = r.typed in
      let b : IsBehind (types_behind c i ts) (h.1 ++ h.2) =
      subst (λ z. IsBehind (types_behind c i z) (h.1 ++ h.2)) (sym h.3)
      (typed_behind c (branches_of labels) i h.0 h.1 h.2 h.4) in
      let same : us ≡ h.1 ++ h.2 = rw e at b in
      let a = agrees_behind (length (spelled rest)) r.covers refl in
      record {
        typed = subst (λ z. HasType c (branches_of labels) rest z gives) (sym same) h.5;
        covers = record {
          at = λ n k. a.at n k
              ∙ ap (λ o. option_and_then (λ us. shape_at c labels rest us n) o) e;
        };
      }

  -- a sequence in a block, closed by its end, and what follows
  module _ (t : Option ValueType) (inner rest : Sequence) where
    pub run_block_in : RunsFrom c body p labels (InBlock t inner rest) ts gives
        → RunsFrom c body (suc p) (ShapeOf (results_of t) rest ts rest Main
        ∷ labels) inner [] (results_of t)
    run_block_in r =
        let L = length (spelled inner) in let R = length (spelled rest) in
        let len = closed_length (spelled inner) (spelled rest) instr.End in
        record {
          typed = r.typed.0;
          covers = agrees_first L R (λ n.
              shape_at c (ShapeOf (results_of t) rest ts rest Main ∷ labels) inner [] n) (λ n.
              shape_at c labels rest (results_of t ++ ts) n) (agrees_behind (L + suc R) r.covers
              (ap suc len)) refl (λ n.
              refl);
        }

    pub run_block_behind : RunsFrom c body p labels (InBlock t inner rest) ts gives
        → RunsFrom c body (suc (suc p + length (spelled inner))) labels rest (results_of t
        ++ ts) gives
    run_block_behind r =
        let L = length (spelled inner) in let R = length (spelled rest) in
        let len = closed_length (spelled inner) (spelled rest) instr.End in
        record {
          typed = r.typed.1;
          covers = agrees_second L R (λ n.
              shape_at c (ShapeOf (results_of t) rest ts rest Main ∷ labels) inner [] n) (λ n.
              shape_at c labels rest (results_of t ++ ts) n) (agrees_behind (L + suc R) r.covers
              (ap suc len)) refl (λ n.
              refl);
        }

    pub run_loop_in : RunsFrom c body p labels (InLoop t inner rest) ts gives
        → RunsFrom c body (suc p) (ShapeOf [] (InLoop t inner rest) ts rest Main
        ∷ labels) inner [] (results_of t)
    run_loop_in r =
        let L = length (spelled inner) in let R = length (spelled rest) in
        let len = closed_length (spelled inner) (spelled rest) instr.End in
        record {
          typed = r.typed.0;
          covers = agrees_first L R (λ n.
              shape_at c (ShapeOf [] (InLoop t inner rest) ts rest Main ∷ labels) inner [] n) (λ n.
              shape_at c labels rest (results_of t ++ ts) n) (agrees_behind (L + suc R) r.covers
              (ap suc len)) refl (λ n.
              refl);
        }

    pub run_loop_behind : RunsFrom c body p labels (InLoop t inner rest) ts gives
        → RunsFrom c body (suc (suc p + length (spelled inner))) labels rest (results_of t
        ++ ts) gives
    run_loop_behind r =
        let L = length (spelled inner) in let R = length (spelled rest) in
        let len = closed_length (spelled inner) (spelled rest) instr.End in
        record {
          typed = r.typed.1;
          covers = agrees_second L R (λ n.
              shape_at c (ShapeOf [] (InLoop t inner rest) ts rest Main ∷ labels) inner [] n) (λ n.
              shape_at c labels rest (results_of t ++ ts) n) (agrees_behind (L + suc R) r.covers
              (ap suc len)) refl (λ n.
              refl);
        }

    pub run_if_in : RunsFrom c body p labels (InIf t inner rest) ts gives
        → RunsFrom c body (suc p) (ShapeOf (results_of t) rest (drop 1 ts) rest Main
        ∷ labels) inner [] (results_of t)
    run_if_in r =
        let L = length (spelled inner) in let R = length (spelled rest) in
        let len = closed_length (spelled inner) (spelled rest) instr.End in
        let h = r.typed in
        record {
          typed = subst (λ z. HasType c (results_of z ∷ branches_of labels) inner [] (results_of z))
              (sym h.2) h.3;
          covers = agrees_first L R (λ n.
              shape_at c (ShapeOf (results_of t) rest (drop 1 ts) rest Main ∷ labels) inner [] n) (λ
              n. shape_at c labels rest (results_of t ++ drop 1 ts) n) (agrees_behind (L + suc R)
              r.covers (ap suc len)) refl (λ n.
              refl);
        }

    pub run_if_behind : RunsFrom c body p labels (InIf t inner rest) ts gives
        → RunsFrom c body (suc (suc p + length (spelled inner))) labels rest (results_of t
        ++ drop 1 ts) gives
    run_if_behind r =
        let L = length (spelled inner) in let R = length (spelled rest) in
        let len = closed_length (spelled inner) (spelled rest) instr.End in
        let h = r.typed in
        let below : h.0 ≡ drop 1 ts = sym (ap (drop 1) h.1) in
        let rest_typed : HasType c (branches_of labels) rest (drop 1 ts) gives =
        subst (λ z. HasType c (branches_of labels) rest z gives) below h.4 in
        record {
          typed = subst (λ z. HasType c (branches_of labels) rest (results_of z ++ drop 1 ts) gives)
              (sym h.2) rest_typed;
          covers = agrees_second L R (λ n.
              shape_at c (ShapeOf (results_of t) rest (drop 1 ts) rest Main ∷ labels) inner [] n) (λ
              n. shape_at c labels rest (results_of t ++ drop 1 ts) n) (agrees_behind (L + suc R)
              r.covers (ap suc len)) refl (λ n.
              refl);
        }

  -- an `if` with two parts, and what follows
  module _ (t : Option ValueType) (first second rest : Sequence) where
    -- the positions from the second part on
    from_second : ℕ → Option Shape
    from_second n = if nat_le n (length (spelled second))
        then shape_at c (ShapeOf (results_of t) rest (drop 1 ts) rest Second ∷ labels) second [] n
        else shape_at c labels rest (results_of t ++ drop 1 ts) (n - (length (spelled second) + 1))

    choice_length : length (spelled first
        ++ (instr.Else ∷ (spelled second ++ (instr.End ∷ spelled rest))))
        ≡ length (spelled first) + suc (length (spelled second) + suc (length (spelled rest)))
    choice_length = let len = closed_length (spelled second) (spelled rest) instr.End in
        closed_length (spelled first) (spelled second ++ (instr.End ∷ spelled rest)) instr.Else
        ∙ ap (λ z. length (spelled first) + suc z) len

    behind_if : RunsFrom c body p labels (InIfElse t first second rest) ts gives
        → Agrees c body (suc p) (length (spelled first)
        + suc (length (spelled second) + suc (length (spelled rest)))) (λ n.
        shape_at c labels (InIfElse t first second rest) ts (suc n))
    behind_if r =
        agrees_behind _ r.covers (ap suc choice_length)

    behind_else : RunsFrom c body p labels (InIfElse t first second rest) ts gives
        → Agrees c body (suc (suc p + length (spelled first))) (length (spelled second)
        + suc (length (spelled rest))) from_second
    unfolding from_second
    behind_else r =
        agrees_second (length (spelled first))
        (length (spelled second) + suc (length (spelled rest))) (λ n.
        shape_at c (ShapeOf (results_of t) rest (drop 1 ts) rest Main
        ∷ labels) first [] n) from_second (behind_if r) refl (λ n. refl)

    pub run_choice_first : RunsFrom c body p labels (InIfElse t first second rest) ts gives
        → RunsFrom c body (suc p) (ShapeOf (results_of t) rest (drop 1 ts) rest Main
        ∷ labels) first [] (results_of t)
    unfolding from_second
    run_choice_first r = record {
      typed = r.typed.2;
      covers = agrees_first (length (spelled first))
          (length (spelled second) + suc (length (spelled rest))) (λ n.
          shape_at c (ShapeOf (results_of t) rest (drop 1 ts) rest Main
          ∷ labels) first [] n) from_second (behind_if r) refl (λ n. refl);
    }

    pub run_choice_second : RunsFrom c body p labels (InIfElse t first second rest) ts gives
        → RunsFrom c body (suc (suc p + length (spelled first)))
        (ShapeOf (results_of t) rest (drop 1 ts) rest Second ∷ labels) second [] (results_of t)
    unfolding from_second
    run_choice_second r = record {
      typed = r.typed.3;
      covers = agrees_first (length (spelled second)) (length (spelled rest)) (λ n. shape_at c
          (ShapeOf (results_of t) rest (drop 1 ts) rest Second ∷ labels) second [] n)
          (λ n. shape_at c labels rest (results_of t ++ drop 1 ts) n) (behind_else r) refl
          (λ n. refl);
    }

    pub run_choice_behind : RunsFrom c body p labels (InIfElse t first second rest) ts gives
        → RunsFrom c body (suc (suc (suc p + length (spelled first)) + length (spelled second)))
        labels rest (results_of t ++ drop 1 ts) gives
    unfolding from_second
    run_choice_behind r =
        let h = r.typed in
        let below : h.0 ≡ drop 1 ts = sym (ap (drop 1) h.1) in
        record {
          typed = subst (λ z. HasType c (branches_of labels) rest (results_of t
              ++ z) gives) below h.4;
          covers = agrees_second (length (spelled second)) (length (spelled rest)) (λ n.
              shape_at c (ShapeOf (results_of t) rest (drop 1 ts) rest Second ∷ labels) second [] n)
              (λ n. shape_at c labels rest (results_of t ++ drop 1 ts) n) (behind_else r) refl (λ n.
              refl);
        }
