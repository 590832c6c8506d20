-- At a position of a body there are no more values than opcodes before it.
use Rattle.std.proofs.Common.{◌≡◌, ℕ, zero, suc, ◌+◌, ◌-◌, ◌≤◌, List, [], ◌∷◌, ◌++◌, length, drop}
use Rattle.std.proofs.Common.{Option, Some, None, refl, Bool, true, false, if◌then◌else◌, ◌==◌}
use Rattle.std.proofs.Common.{arith, length-append, length-drop}
use Rattle.std.specs.Prelude.{nat_le, slice_get}
use Rattle.std.proofs.lemmas.Bool.Decides.{nat_tests}
use Rattle.std.specs.Option.{option_map, option_and_then}
use Rattle.std.specs.List.{AllByRecursion}
use Rattle.std.proofs.lemmas.List.{length-reverse}
use Rattle.wasm_syntax.specs.declared.types.ValueType.{ValueType}
use Rattle.wasm_syntax.specs.declared.types.FunctionType.{FunctionType}
use Rattle.wasm_syntax.specs.declared.types.GlobalType.{GlobalType}
use Rattle.wasm_syntax.specs.declared.instruction.Instruction.{Instruction}
use Rattle.wasm_syntax.specs.declared.instruction.Instruction.TheVariants as instr
use Rattle.wasm_syntax.specs.rules.Sequence.{Sequence, Stop, Plain, InBlock, InLoop, InIf, InIfElse}
use Rattle.wasm_syntax.specs.rules.Sequence.{spelled}
use Rattle.wasm_rules.specs.Configuration.{Main, Second}
use Rattle.wasm_rules.specs.Types.{takes_of, gives_of, results_of}
use Rattle.wasm_rules.specs.Typing.{Context}
use Rattle.wasm_rules.specs.Shapes.{Shape, LabelShape, ShapeOf, in_place_of, types_behind}
use Rattle.wasm_rules.specs.Shapes.{shape_at, body_shape}
use Rattle.wasm_rules.specs.laws.Laws.{labels_height, height, GivesOneAtMost, HeightsAreSmall}

-- so many values at most, where there are any
abbrev pub AreFew : Option (List ValueType) → ℕ → Type 0
AreFew None n = Unit {0}
AreFew (Some ts) n = length ts ≤ n

abbrev pub IsLow : Option Shape → ℕ → Type 0
IsLow None n = Unit {0}
IsLow (Some s) n = height s ≤ n

pub one_given : (fs : List FunctionType) (x : ℕ) (f : FunctionType)
    → AllByRecursion GivesOneAtMost fs → slice_get fs x ≡ Some f → length f.results ≤ 1
one_given [] x f h e = absurd (cc)
one_given (g ∷ fs) zero f h e = let same : g ≡ f = cc in rw same at h.0
one_given (g ∷ fs) (suc x) f h e = one_given fs x f h.1 e

gives_one : (f : FunctionType) → length f.results ≤ 1 → length (gives_of f) ≤ 1
gives_one f h = rw (length-reverse f.results) h

called_few : (o : Option FunctionType) (ts : List ValueType) (n : ℕ)
    → ((f : FunctionType) → o ≡ Some f → length f.results ≤ 1) → length ts ≤ n
    → AreFew (option_map (λ f. in_place_of (takes_of f) (gives_of f) ts) o) (n + 1)
called_few None ts n one h = tt
called_few (Some f) ts n one h = let g = gives_one f (one f refl) in
    simp (length-append, length-drop) (omega arith)

pushed_few : {X : Type 0} (o : Option X) (t : X → ValueType) (ts : List ValueType)
    → AreFew (option_map (λ x. t x ∷ ts) o) (length ts + 1)
pushed_few None t ts = tt
pushed_few (Some x) t ts = omega arith

drop_few : (n : ℕ) (ts : List ValueType) → length (drop n ts) ≤ length ts
drop_few n ts = simp length-drop (omega arith)

behind_few : (c : Context) → AllByRecursion GivesOneAtMost c.types
    → AllByRecursion GivesOneAtMost c.functions → (i : Instruction) (ts : List ValueType)
    → AreFew (types_behind c i ts) (length ts + 1)
behind_few c types functions instr.Nop ts = omega arith
behind_few c types functions (instr.BrIf l) ts = let d = drop_few 1 ts in omega arith
behind_few c types functions (instr.Call x) ts =
    called_few (slice_get c.functions x) ts (length ts) (λ f e.
    one_given c.functions x f functions e) (omega arith)
behind_few c types functions (instr.CallIndirect x) ts =
    called_few (slice_get c.types x) (drop 1 ts) (length ts) (λ f e. one_given c.types x f types e)
    (drop_few 1 ts)
behind_few c types functions instr.Drop ts = let d = drop_few 1 ts in omega arith
behind_few c types functions instr.Select ts = let d = drop_few 2 ts in omega arith
behind_few c types functions (instr.LocalGet x) ts = pushed_few (slice_get c.locals x) (λ t. t) ts
behind_few c types functions (instr.LocalSet x) ts = let d = drop_few 1 ts in omega arith
behind_few c types functions (instr.LocalTee x) ts = omega arith
behind_few c types functions (instr.GlobalGet x) ts =
    pushed_few (slice_get c.globals x) (λ (g : GlobalType). g.value_type) ts
behind_few c types functions (instr.GlobalSet x) ts = let d = drop_few 1 ts in omega arith
behind_few c types functions (instr.Load o m) ts = let d = drop_few 1 ts in omega arith
behind_few c types functions (instr.Store o m) ts = let d = drop_few 2 ts in omega arith
behind_few c types functions instr.MemorySize ts = omega arith
behind_few c types functions instr.MemoryGrow ts = omega arith
behind_few c types functions instr.MemoryCopy ts = let d = drop_few 3 ts in omega arith
behind_few c types functions instr.MemoryFill ts = let d = drop_few 3 ts in omega arith
behind_few c types functions (instr.Const v) ts = omega arith
behind_few c types functions (instr.Eqz t) ts = let d = drop_few 1 ts in omega arith
behind_few c types functions (instr.Compare t o) ts = let d = drop_few 2 ts in omega arith
behind_few c types functions (instr.Unary t o) ts = omega arith
behind_few c types functions (instr.Binary t o) ts = let d = drop_few 1 ts in omega arith
behind_few c types functions (instr.Convert o) ts = let d = drop_few 1 ts in omega arith
behind_few c types functions _ ts = tt

low_after : (f : List ValueType → Option Shape) (o : Option (List ValueType)) (n k : ℕ) → AreFew o n
    → ((us : List ValueType) → length us ≤ n → IsLow (f us) k) → IsLow (option_and_then f o) k
low_after f None n k a h = tt
low_after f (Some us) n k a h = h us a

either_low : (b : Bool) (x y : Option Shape) (n : ℕ) → IsLow x n → IsLow y n
    → IsLow (if b then x else y) n
either_low true x y n h k = h
either_low false x y n h k = k

lower : (o : Option Shape) (m n : ℕ) → IsLow o m → m ≤ n → IsLow o n
lower None m n h e = tt
lower (Some s) m n h e = let low = h in omega arith

results_few : (t : Option ValueType) (ts : List ValueType)
    → length (results_of t ++ ts) ≤ length ts + 1
results_few None ts = omega arith
results_few (Some t) ts = omega arith

module _ (c : Context) (types : AllByRecursion GivesOneAtMost c.types)
    (functions : AllByRecursion GivesOneAtMost c.functions) where
  pub shape_low : (labels : List LabelShape) (s : Sequence) (ts : List ValueType) (n : ℕ)
      → IsLow (shape_at c labels s ts n) (length ts + labels_height labels + n)
  shape_low labels s ts zero = omega arith
  shape_low labels Stop ts (suc n) = tt
  shape_low labels (Plain i rest) ts (suc n) =
      low_after (λ us. shape_at c labels rest us n) (types_behind c i ts) (length ts + 1) (length ts
      + labels_height labels + suc n) (behind_few c types functions i ts)
      (λ us few. lower (shape_at c labels rest us n) (length us + labels_height labels + n)
      (length ts + labels_height labels + suc n) (shape_low labels rest us n) (omega arith))
  shape_low labels (InBlock t body rest) ts (suc n) =
      either_low (nat_le n (length (spelled body))) _ _ (length ts + labels_height labels + suc n)
      (lower _ _ _ (shape_low (ShapeOf (results_of t) rest ts rest Main ∷ labels) body [] n)
      (omega arith))
      (lower _ _ _ (shape_low labels rest (results_of t ++ ts) (n - (length (spelled body) + 1)))
      (let r = results_few t ts in omega arith))
  shape_low labels (InLoop t body rest) ts (suc n) =
      either_low (nat_le n (length (spelled body))) _ _ (length ts + labels_height labels + suc n)
      (lower _ _ _ (shape_low (ShapeOf [] (InLoop t body rest) ts rest Main ∷ labels) body [] n)
      (omega arith))
      (lower _ _ _ (shape_low labels rest (results_of t ++ ts) (n - (length (spelled body) + 1)))
      (let r = results_few t ts in omega arith))
  shape_low labels (InIf t first rest) ts (suc n) =
      let d = drop_few 1 ts in let r = results_few t (drop 1 ts) in
      either_low (nat_le n (length (spelled first))) _ _ (length ts + labels_height labels + suc n)
      (lower _ _ _ (shape_low (ShapeOf (results_of t) rest (drop 1 ts) rest Main
      ∷ labels) first [] n) (omega arith))
      (lower _ _ _ (shape_low labels rest (results_of t
      ++ drop 1 ts) (n - (length (spelled first) + 1))) (omega arith))
  shape_low labels (InIfElse t first second rest) ts (suc n) =
      let d = drop_few 1 ts in let r = results_few t (drop 1 ts) in
      either_low (nat_le n (length (spelled first))) _ _ (length ts + labels_height labels + suc n)
      (lower _ _ _ (shape_low (ShapeOf (results_of t) rest (drop 1 ts) rest Main
      ∷ labels) first [] n) (omega arith))
      (either_low (nat_le (n - (length (spelled first) + 1)) (length (spelled second))) _ _
      (length ts + labels_height labels + suc n)
      (lower _ _ _ (shape_low (ShapeOf (results_of t) rest (drop 1 ts) rest Second
      ∷ labels) second [] (n - (length (spelled first) + 1))) (omega arith))
      (lower _ _ _ (shape_low labels rest (results_of t
      ++ drop 1 ts) (n - (length (spelled first) + 1) - (length (spelled second) + 1)))
      (omega arith)))

behind_end : (c : Context) (p n : ℕ) → length c.returns ≤ 1 → (b : Bool) → (p == n + 1) ≡ b
    → IsLow (if b then Some (record { labels = []; operands = c.returns; rest = Stop }) else None) p
behind_end c p n one true e = let at : p ≡ n + 1 = grind (arith, nat_tests) in omega arith
behind_end c p n one false e = tt

body_low : (c : Context) (body : Sequence) (p : ℕ) → AllByRecursion GivesOneAtMost c.types
    → AllByRecursion GivesOneAtMost c.functions → length c.returns ≤ 1
    → IsLow (body_shape c body p) p
body_low c body p types functions one =
    either_low (nat_le p (length (spelled body))) _ _ p
    (lower _ _ _ (shape_low c types functions (ShapeOf c.returns Stop [] Stop Main ∷ []) body [] p)
    (omega arith))
    (behind_end c p (length (spelled body)) one (p == length (spelled body) + 1) refl)

pub heights_small : HeightsAreSmall
heights_small c body p s types functions one e = rw e at (body_low c body p types functions one)
