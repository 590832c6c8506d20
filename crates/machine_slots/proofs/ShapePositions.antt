-- The shape at a position tells which position it is.
use Rattle.std.proofs.Common.{◌≡◌, ◌⊎◌, inl, inr, ⊎_elim, ℕ, zero, suc, ◌+◌, ◌-◌, ◌≤◌, ◌<◌, List}
use Rattle.std.proofs.Common.{[], ◌∷◌, ◌++◌, length, drop, Bool, true, false, Option, Some, None}
use Rattle.std.proofs.Common.{refl, sym, ap, subst, ◌∙◌, arith, append_assoc, length-append}
use Rattle.std.proofs.Common.{if◌then◌else◌, ◌==◌}
use Rattle.std.specs.Prelude.{nat_le, map}
use Rattle.std.specs.Option.{option_and_then}
use Rattle.std.proofs.lemmas.Bool.Decides.{nat_tests}
use Rattle.wasm_syntax.specs.declared.types.ValueType.{ValueType}
use Rattle.wasm_syntax.specs.declared.instruction.Instruction.TheVariants as instr
use Rattle.wasm_syntax.specs.rules.Sequence.{Sequence, Stop, Plain, InBlock, InLoop, InIf, InIfElse}
use Rattle.wasm_syntax.specs.rules.Sequence.{spelled}
use Rattle.wasm_rules.specs.Types.{results_of}
use Rattle.wasm_rules.specs.Typing.{Context}
use Rattle.wasm_rules.specs.Configuration.{Part, Main, Second, Label, LabelOf}
use Rattle.wasm_rules.specs.Shapes.{Shape, LabelShape, ShapeOf, types_behind, shape_at, body_shape}
use Rattle.wasm_rules.proofs.TypedShape.{closed_length}
use Rattle.machine_slots.specs.rules.Places.{HaveShape}
use Rattle.machine_slots.specs.laws.Laws.{ShapesTellPositions, LabelsTellPositions}

-- ---- where a shape is

-- what of a label tells its place: what follows the block, and which part of its instruction this
-- is
record Mark : Type 0 where
  after : Sequence
  which : Part

abbrev mark_of : LabelShape → Mark
mark_of (ShapeOf takes target below after which) = record { after = after; which = which }

-- the labels by what tells their places, and how many opcodes remain
record Seen : Type 0 where
  marks : List Mark
  more : ℕ

abbrev seen : Shape → Seen
seen s = record { marks = map mark_of s.labels; more = length (spelled s.rest) }

abbrev SeenAt : Option Shape → Seen → Type 0
SeenAt o v = (s : Shape) × (o ≡ Some s) × (seen s ≡ v)

-- how many opcodes follow the block of a label
abbrev after_length : Mark → ℕ
after_length mark = length (spelled mark.after)

-- at the level of a sequence of m opcodes, before all but n of which the sequence remains
abbrev IsLevel : List Mark → ℕ → ℕ → Seen → Type 0
IsLevel marks n m v = (v.marks ≡ marks) × (v.more + n ≡ m)

-- inside of this mark
abbrev IsUnder : Mark → List Mark → Seen → Type 0
IsUnder mark marks v = (inner : List Mark) × (v.marks ≡ inner ++ (mark ∷ marks))

-- inside of a block of a sequence of m opcodes
abbrev IsDeeper : List Mark → ℕ → Seen → Type 0
IsDeeper marks m v = (mark : Mark) × (after_length mark < m) × IsUnder mark marks v

abbrev IsFrom : List Mark → ℕ → ℕ → Seen → Type 0
IsFrom marks n m v = IsLevel marks n m v ⊎ IsDeeper marks m v

-- the same as a part of a longer sequence
as_part : (marks : List Mark) (n m n' m' : ℕ) (v : Seen) → n + m' ≡ n' + m → m ≤ m'
    → IsFrom marks n m v → IsFrom marks n' m' v
as_part marks n m n' m' v e l h =
    ⊎_elim
    (λ (k : IsLevel marks n m v). inl (k.0, omega (arith, k.1)))
    (λ (k : IsDeeper marks m v). inr (k.0, omega (arith, k.1), k.2))
    h

-- whatever is in a block is inside of its mark
in_block : (mark : Mark) (marks : List Mark) (n m : ℕ) (v : Seen) → IsFrom (mark ∷ marks) n m v
    → IsUnder mark marks v
in_block mark marks n m v h =
    ⊎_elim
    (λ (k : IsLevel (mark ∷ marks) n m v). ([], k.0))
    (λ (k : IsDeeper (mark ∷ marks) m v). (
      k.2.0 ++ (k.0 ∷ []),
      k.2.1
          ∙ sym (append_assoc k.2.0 (k.0 ∷ []) (mark ∷ marks)),
    ))
    h

-- ---- one outermost mark

no_longer : (inner : List Mark) {marks : List Mark} (mark : Mark) → marks ≡ inner ++ (mark ∷ marks)
    → ⊥
no_longer inner {marks} mark e = let lengths = ap length e in
    omega (arith, lengths, length-append inner (mark ∷ marks))

one_outermost : (inner others marks : List Mark) (mark other : Mark)
    → inner ++ (mark ∷ marks) ≡ others ++ (other ∷ marks) → mark ≡ other
one_outermost [] [] marks mark other e = cc
one_outermost [] (x ∷ others) marks mark other e =
    let tails : marks ≡ others ++ (other ∷ marks) = cc in
    absurd (no_longer others other tails)
one_outermost (x ∷ inner) [] marks mark other e = let tails : marks ≡ inner ++ (mark ∷ marks) = cc
    in absurd (no_longer inner mark tails)
one_outermost (x ∷ inner) (y ∷ others) marks mark other e =
    one_outermost inner others marks mark other (cc)

one_under : (mark other : Mark) (marks : List Mark) (v : Seen) → IsUnder mark marks v
    → IsUnder other marks v → mark ≡ other
one_under mark other marks v h k = one_outermost h.0 k.0 marks mark other (sym h.1 ∙ k.1)

-- a level tells its position
level_tells : (marks : List Mark) (n m k : ℕ) (v : Seen) → IsLevel marks n k v → IsFrom marks m k v
    → n ≡ m
level_tells marks n m k v h other =
    ⊎_elim (λ (g : IsLevel marks m k v). omega (arith, h.1, g.1)) (λ (g : IsDeeper marks k v).
    absurd (no_longer g.2.0 g.0 (sym h.0 ∙ g.2.1))) other

-- what is in a block doesn't be after it
apart : (mark : Mark) (marks : List Mark) (n m : ℕ) (v : Seen) → IsUnder mark marks v
    → IsFrom marks n m v → m ≤ after_length mark → ⊥
apart mark marks n m v h other few =
    ⊎_elim (λ (g : IsLevel marks n m v). no_longer h.0 mark (sym g.0 ∙ h.1))
    (λ (g : IsDeeper marks m v). let same : after_length mark
    ≡ after_length g.0 = ap after_length (one_under mark g.0 marks v h g.2) in
    omega (arith, g.1, same, few))
    other

-- the two parts of an `if` are told apart
abbrev mark_at : Sequence → Part → Mark
mark_at after which = record { after = after; which = which }

main_or_second : Main ≡ Second → ⊥
main_or_second e = cc

parts_apart : (after after' : Sequence) → mark_at after Main ≡ mark_at after' Second → ⊥
parts_apart after after' e = main_or_second (ap (λ (m : Mark). m.which) e)

-- ---- choices

bind_some : (f : List ValueType → Option Shape) (o : Option (List ValueType)) (v : Seen)
    → SeenAt (option_and_then f o) v → (us : List ValueType) × (o ≡ Some us) × SeenAt (f us) v
bind_some f None v e = let none = e.1 in absurd (cc)
bind_some f (Some us) v e = (us, refl, e)

chosen : (n m : ℕ) (x y : Option Shape) (v : Seen) → SeenAt (if nat_le n m then x else y) v
    → ((n ≤ m) × SeenAt x v) ⊎ ((m < n) × SeenAt y v)
chosen n m x y v e = by_test (nat_le n m) refl e
  where
    by_test : (b : Bool) → nat_le n m ≡ b → SeenAt (if b then x else y) v → ((n ≤ m) × SeenAt x v)
        ⊎ ((m < n) × SeenAt y v)
    by_test true t e = inl (grind (arith, nat_tests), e)
    by_test false t e = inr (grind (arith, nat_tests), e)

-- of two stretches, the first of L + 1 positions, each tells the position, and no shape is in both
module _ (L n m : ℕ) (f g : ℕ → Option Shape) (v : Seen) where
  one_of_two : (SeenAt (f n) v → SeenAt (f m) v → n ≡ m)
      → (SeenAt (g (n - (L + 1))) v → SeenAt (g (m - (L + 1))) v → n - (L + 1) ≡ m - (L + 1))
      → (SeenAt (f n) v → SeenAt (g (m - (L + 1))) v → ⊥)
      → (SeenAt (f m) v → SeenAt (g (n - (L + 1))) v → ⊥)
      → SeenAt (if nat_le n L then f n else g (n - (L + 1))) v
      → SeenAt (if nat_le m L then f m else g (m - (L + 1))) v → n ≡ m
  one_of_two first behind never nor d e =
      ⊎_elim
      (λ (h : (n ≤ L) × (SeenAt (f n) v)).
      ⊎_elim
      (λ (k : (m ≤ L) × (SeenAt (f m) v)). first h.1 k.1)
      (λ (k : (L < m) × (SeenAt (g (m - (L + 1))) v)). absurd (never h.1 k.1))
      (chosen m L _ _ v e))
      (λ (h : (L < n) × (SeenAt (g (n - (L + 1))) v)).
      ⊎_elim
      (λ (k : (m ≤ L) × (SeenAt (f m) v)). absurd (nor k.1 h.1))
      (λ (k : (L < m) × (SeenAt (g (m - (L + 1))) v)). let same = behind h.1 k.1 in
      omega (arith, h.0, k.0, same))
      (chosen m L _ _ v e))
      (chosen n L _ _ v d)

-- ---- sequences

abbrev shape_of : List LabelShape → List ValueType → Sequence → Shape
shape_of labels ts rest = record { labels = labels; operands = ts; rest = rest }

module _ (c : Context) where
  -- what is in a block, or after it
  module _ (label : LabelShape) (labels : List LabelShape) (inner rest : Sequence)
      (us : List ValueType) (v : Seen) where
    block_shape : ℕ → Option Shape
    block_shape n = if nat_le n (length (spelled inner)) then shape_at c (label ∷ labels) inner [] n
        else shape_at c labels rest us (n - (length (spelled inner) + 1))

    from_block : (n m k : ℕ) → m ≡ suc (length (spelled inner) + suc (length (spelled rest)))
        → k ≡ suc n → after_length (mark_of label) ≡ length (spelled rest)
        → (SeenAt (shape_at c (label ∷ labels) inner [] n) v
        → IsFrom (mark_of label ∷ map mark_of labels) n (length (spelled inner)) v)
        → (SeenAt (shape_at c labels rest us (n - (length (spelled inner) + 1))) v
        → IsFrom (map mark_of labels) (n - (length (spelled inner) + 1)) (length (spelled rest)) v)
        → SeenAt (block_shape n) v → IsFrom (map mark_of labels) k m v
    unfolding block_shape
    from_block n m k size at after first behind e =
        let L = length (spelled inner) in let R = length (spelled rest) in
        ⊎_elim
        (λ (h : (n ≤ L) × SeenAt (shape_at c (label ∷ labels) inner [] n) v). inr (
          mark_of label,
          omega (arith, after, size),
          in_block (mark_of label) (map mark_of labels) n L v (first h.1),
        ))
        (λ (h : (L < n) × (SeenAt (shape_at c labels rest us (n - (L + 1))) v)).
        as_part (map mark_of labels) (n - (L + 1)) R k m v (omega (
          arith,
          h.0,
          size,
          at,
        )) (omega (arith, size)) (behind h.1))
        (chosen n L _ _ v e)

    one_in_block : (n m : ℕ) → after_length (mark_of label) ≡ length (spelled rest)
        → ((k : ℕ) → SeenAt (shape_at c (label ∷ labels) inner [] k) v
        → IsFrom (mark_of label ∷ map mark_of labels) k (length (spelled inner)) v)
        → ((k : ℕ) → SeenAt (shape_at c labels rest us k) v
        → IsFrom (map mark_of labels) k (length (spelled rest)) v)
        → (SeenAt (shape_at c (label ∷ labels) inner [] n) v
        → SeenAt (shape_at c (label ∷ labels) inner [] m) v → n ≡ m)
        → ((k l : ℕ) → SeenAt (shape_at c labels rest us k) v
        → SeenAt (shape_at c labels rest us l) v → k ≡ l) → SeenAt (block_shape n) v
        → SeenAt (block_shape m) v → n ≡ m
    unfolding block_shape
    one_in_block n m after first behind in_first in_rest d e =
        let L = length (spelled inner) in
        let never : (k l : ℕ) → SeenAt (shape_at c (label ∷ labels) inner [] k) v
        → SeenAt (shape_at c labels rest us l) v → ⊥ =
        (λ k l a b. apart (mark_of label) (map mark_of labels) l (length (spelled rest)) v
        (in_block (mark_of label) (map mark_of labels) k L v (first k a)) (behind l b)
        (omega (arith, after))) in
        one_of_two L n m (λ k. shape_at c (label ∷ labels) inner [] k) (λ k.
        shape_at c labels rest us k) v
        in_first (in_rest (n - (L + 1)) (m - (L + 1))) (never n (m - (L + 1)))
        (never m (n - (L + 1))) d e

  where_is : (labels : List LabelShape) (r : Sequence) (ts : List ValueType) (n : ℕ) (v : Seen)
      → SeenAt (shape_at c labels r ts n) v → IsFrom (map mark_of labels) n (length (spelled r)) v
  unfolding block_shape
  where_is labels r ts zero v e =
      let shape = e.1 in let there : shape_of labels ts r ≡ e.0 = cc in
      let same : seen (shape_of labels ts r) ≡ v = ap seen there ∙ e.2 in
      subst (λ (z : Seen). IsFrom (map mark_of labels) 0 (length (spelled r)) z) same (inl (
        refl,
        omega arith,
      ))
  where_is labels Stop ts (suc n) v e = let none = e.1 in absurd (cc)
  where_is labels (Plain i rest) ts (suc n) v e =
      let b = bind_some (λ us. shape_at c labels rest us n) (types_behind c i ts) v e in
      as_part (map mark_of labels) n (length (spelled rest)) (suc n) (suc (length (spelled rest))) v
      (omega arith) (omega arith) (where_is labels rest b.0 n v b.2)
  where_is labels (InBlock t inner rest) ts (suc n) v e =
      let label : LabelShape = ShapeOf (results_of t) rest ts rest Main in
      from_block label labels inner rest (results_of t
      ++ ts) v n (length (spelled (InBlock t inner rest))) (suc n)
      (ap suc (closed_length (spelled inner) (spelled rest) instr.End)) refl refl
      (λ h. where_is (label ∷ labels) inner [] n v h) (λ h. where_is labels rest (results_of t
      ++ ts) (n - (length (spelled inner) + 1)) v h) e
  where_is labels (InLoop t inner rest) ts (suc n) v e =
      let label : LabelShape = ShapeOf [] (InLoop t inner rest) ts rest Main in
      from_block label labels inner rest (results_of t
      ++ ts) v n (length (spelled (InLoop t inner rest))) (suc n)
      (ap suc (closed_length (spelled inner) (spelled rest) instr.End)) refl refl
      (λ h. where_is (label ∷ labels) inner [] n v h) (λ h. where_is labels rest (results_of t
      ++ ts) (n - (length (spelled inner) + 1)) v h) e
  where_is labels (InIf t inner rest) ts (suc n) v e =
      let label : LabelShape = ShapeOf (results_of t) rest (drop 1 ts) rest Main in
      from_block label labels inner rest (results_of t
      ++ drop 1 ts) v n (length (spelled (InIf t inner rest))) (suc n)
      (ap suc (closed_length (spelled inner) (spelled rest) instr.End)) refl refl
      (λ h. where_is (label ∷ labels) inner [] n v h) (λ h. where_is labels rest (results_of t
      ++ drop 1 ts) (n - (length (spelled inner) + 1)) v h) e
  where_is labels (InIfElse t first second rest) ts (suc n) v e =
      let L = length (spelled first) in let M = length (spelled second) in
      let R = length (spelled rest) in
      let label : LabelShape = ShapeOf (results_of t) rest (drop 1 ts) rest Main in
      let other : LabelShape = ShapeOf (results_of t) rest (drop 1 ts) rest Second in
      let us : List ValueType = results_of t ++ drop 1 ts in
      let size : length (spelled (InIfElse t first second rest)) ≡ suc (L + suc (M + suc R)) =
      ap suc (closed_length (spelled first) (spelled second
      ++ (instr.End ∷ spelled rest)) instr.Else
      ∙ ap (λ z. L + suc z) (closed_length (spelled second) (spelled rest) instr.End)) in
      ⊎_elim
      (λ (h : (n ≤ L) × (SeenAt (shape_at c (label ∷ labels) first [] n) v)).
      inr (
        mark_of label,
        omega (arith, size),
        in_block (mark_of label) (map mark_of labels) n L v (where_is (label
            ∷ labels) first [] n v h.1),
      ))
      (λ (h : (L < n) × SeenAt (if nat_le (n - (L + 1)) M
      then shape_at c (other ∷ labels) second [] (n - (L + 1))
      else shape_at c labels rest us (n - (L + 1) - (M + 1))) v).
      as_part (map mark_of labels) (suc (n - (L + 1))) (suc (M + suc R)) (suc n)
      (length (spelled (InIfElse t first second rest))) v (omega (
        arith,
        h.0,
        size,
      )) (omega (arith, size))
      (from_block other labels second rest us v (n - (L + 1)) (suc (M + suc R))
      (suc (n - (L + 1))) refl refl refl
      (λ k. where_is (other ∷ labels) second [] (n - (L + 1)) v k) (λ k.
      where_is labels rest us (n - (L + 1) - (M + 1)) v k) h.1))
      (chosen n L _ _ v e)

  one_place : (labels : List LabelShape) (r : Sequence) (ts : List ValueType) (n m : ℕ) (v : Seen)
      → SeenAt (shape_at c labels r ts n) v → SeenAt (shape_at c labels r ts m) v → n ≡ m
  unfolding block_shape
  one_place labels r ts zero m v d e =
      let shape = d.1 in let there : shape_of labels ts r ≡ d.0 = cc in
      let same : seen (shape_of labels ts r) ≡ v = ap seen there ∙ d.2 in
      level_tells (map mark_of labels) 0 m (length (spelled r)) v
      (subst (λ (z : Seen). IsLevel (map mark_of labels) 0 (length (spelled r)) z) same (
        refl,
        omega arith,
      )) (where_is labels r ts m v e)
  one_place labels r ts (suc n) zero v d e =
      let shape = e.1 in let there : shape_of labels ts r ≡ e.0 = cc in
      let same : seen (shape_of labels ts r) ≡ v = ap seen there ∙ e.2 in
      sym (level_tells (map mark_of labels) 0 (suc n) (length (spelled r)) v
      (subst (λ (z : Seen). IsLevel (map mark_of labels) 0 (length (spelled r)) z) same (
        refl,
        omega arith,
      )) (where_is labels r ts (suc n) v d))
  one_place labels Stop ts (suc n) (suc m) v d e = let none = e.1 in absurd (cc)
  one_place labels (Plain i rest) ts (suc n) (suc m) v d e =
      let a = bind_some (λ us. shape_at c labels rest us n) (types_behind c i ts) v d in
      let b = bind_some (λ us. shape_at c labels rest us m) (types_behind c i ts) v e in
      let h = a.1 in let k = b.1 in
      let same : b.0 ≡ a.0 = cc in
      ap suc (one_place labels rest a.0 n m v a.2
      (subst (λ us. SeenAt (shape_at c labels rest us m) v) same b.2))
  one_place labels (InBlock t inner rest) ts (suc n) (suc m) v d e =
      let label : LabelShape = ShapeOf (results_of t) rest ts rest Main in
      ap suc (one_in_block label labels inner rest (results_of t ++ ts) v n m refl
      (λ k h. where_is (label ∷ labels) inner [] k v h) (λ k h. where_is labels rest (results_of t
      ++ ts) k v h)
      (λ h k. one_place (label ∷ labels) inner [] n m v h k) (λ l k g h.
      one_place labels rest (results_of t ++ ts) l k v g h) d e)
  one_place labels (InLoop t inner rest) ts (suc n) (suc m) v d e =
      let label : LabelShape = ShapeOf [] (InLoop t inner rest) ts rest Main in
      ap suc (one_in_block label labels inner rest (results_of t ++ ts) v n m refl
      (λ k h. where_is (label ∷ labels) inner [] k v h) (λ k h. where_is labels rest (results_of t
      ++ ts) k v h)
      (λ h k. one_place (label ∷ labels) inner [] n m v h k) (λ l k g h.
      one_place labels rest (results_of t ++ ts) l k v g h) d e)
  one_place labels (InIf t inner rest) ts (suc n) (suc m) v d e =
      let label : LabelShape = ShapeOf (results_of t) rest (drop 1 ts) rest Main in
      ap suc (one_in_block label labels inner rest (results_of t ++ drop 1 ts) v n m refl
      (λ k h. where_is (label ∷ labels) inner [] k v h) (λ k h. where_is labels rest (results_of t
      ++ drop 1 ts) k v h)
      (λ h k. one_place (label ∷ labels) inner [] n m v h k) (λ l k g h.
      one_place labels rest (results_of t ++ drop 1 ts) l k v g h) d e)
  one_place labels (InIfElse t first second rest) ts (suc n) (suc m) v d e =
      let L = length (spelled first) in let M = length (spelled second) in
      let R = length (spelled rest) in
      let label : LabelShape = ShapeOf (results_of t) rest (drop 1 ts) rest Main in
      let other : LabelShape = ShapeOf (results_of t) rest (drop 1 ts) rest Second in
      let us : List ValueType = results_of t ++ drop 1 ts in
      let never : (k l : ℕ) → SeenAt (shape_at c (label ∷ labels) first [] k) v
      → SeenAt (block_shape other labels second rest us v l) v → ⊥ =
      (λ k l a b.
      let h : IsUnder (mark_of label) (map mark_of labels) v =
      in_block (mark_of label) (map mark_of labels) k L v (where_is (label
      ∷ labels) first [] k v a) in
      ⊎_elim
      (λ (g : (l ≤ M) × (SeenAt (shape_at c (other ∷ labels) second [] l) v)).
      let same : mark_of label ≡ mark_of other =
      one_under (mark_of label) (mark_of other) (map mark_of labels) v h
      (in_block (mark_of other) (map mark_of labels) l M v (where_is (other
      ∷ labels) second [] l v g.1)) in absurd (parts_apart rest rest same))
      (λ (g : (M < l) × (SeenAt (shape_at c labels rest us (l - (M + 1))) v)).
      apart (mark_of label) (map mark_of labels) (l - (M + 1)) R v h (where_is labels rest us (l
      - (M + 1)) v g.1) (omega arith))
      (chosen l M _ _ v b)) in
      ap suc (one_of_two L n m (λ k. shape_at c (label ∷ labels) first [] k) (λ l.
      block_shape other labels second rest us v l) v
      (λ h k. one_place (label ∷ labels) first [] n m v h k)
      (λ g h. one_in_block other labels second rest us v (n - (L + 1)) (m - (L + 1)) refl
      (λ k a. where_is (other ∷ labels) second [] k v a) (λ k a. where_is labels rest us k v a)
      (λ a b. one_place (other ∷ labels) second [] (n - (L + 1)) (m - (L + 1)) v a b) (λ l k a b.
      one_place labels rest us l k v a b) g h)
      (never n (m - (L + 1))) (never m (n - (L + 1))) d e)

-- ---- bodies

abbrev ending : Context → ℕ → ℕ → Option Shape
ending c n p = if p == n + 1 then Some (shape_of [] c.returns Stop) else None

behind_end : (c : Context) (p n : ℕ) (v : Seen) → SeenAt (ending c n p) v
    → (p ≡ n + 1) × (v.marks ≡ [])
behind_end c p n v e = by_test (p == n + 1) refl e
  where
    by_test : (b : Bool) → (p == n + 1) ≡ b → SeenAt (if b then Some (shape_of [] c.returns Stop)
        else None) v → (p ≡ n + 1) × (v.marks ≡ [])
    by_test true t e =
        let shape = e.1 in
        let there : shape_of [] c.returns Stop ≡ e.0 = cc in
        let same : seen (shape_of [] c.returns Stop) ≡ v = ap seen there ∙ e.2 in
        (grind (arith, nat_tests), subst (λ (z : Seen). z.marks ≡ []) same refl)
    by_test false t e = let none = e.1 in absurd (cc)

none_under : (mark : Mark) (v : Seen) → IsUnder mark [] v → v.marks ≡ [] → ⊥
none_under mark v h e = let lengths = ap length (sym e ∙ h.1) in
    omega (arith, lengths, length-append h.0 (mark ∷ []))

one_in_body : (c : Context) (body : Sequence) (p q : ℕ) (v : Seen) → SeenAt (body_shape c body p) v
    → SeenAt (body_shape c body q) v → p ≡ q
one_in_body c body p q v d e =
    let N = length (spelled body) in
    let root : LabelShape = ShapeOf c.returns Stop [] Stop Main in
    let inside : (n : ℕ) → SeenAt (shape_at c (root ∷ []) body [] n) v
    → IsUnder (mark_of root) [] v = λ n h. in_block (mark_of root) [] n N v (where_is c (root
    ∷ []) body [] n v h) in
    ⊎_elim
    (λ (h : (p ≤ N) × SeenAt (shape_at c (root ∷ []) body [] p) v).
    ⊎_elim
    (λ (k : (q ≤ N) × SeenAt (shape_at c (root ∷ []) body [] q) v). one_place c (root
    ∷ []) body [] p q v h.1 k.1)
    (λ (k : (N < q) × SeenAt (ending c N q) v).
    absurd (none_under (mark_of root) v (inside p h.1) (behind_end c q N v k.1).1))
    (chosen q N _ _ v e))
    (λ (h : (N < p) × SeenAt (ending c N p) v).
    ⊎_elim
    (λ (k : (q ≤ N) × SeenAt (shape_at c (root ∷ []) body [] q) v).
    absurd (none_under (mark_of root) v (inside q k.1) (behind_end c p N v h.1).1))
    (λ (k : (N < q) × SeenAt (ending c N q) v). (behind_end c p N v h.1).0
    ∙ sym (behind_end c q N v k.1).0)
    (chosen q N _ _ v e))
    (chosen p N _ _ v d)

-- ---- shapes and labels

pub shapes_tell : ShapesTellPositions
shapes_tell c body p q s d e = one_in_body c body p q (seen s) (s, d, refl) (s, e, refl)

-- labels of a configuration have one shape but for what they take
same_marks : (shapes others : List LabelShape) (labels : List Label) → HaveShape shapes labels
    → HaveShape others labels → map mark_of shapes ≡ map mark_of others
same_marks [] [] [] h k = refl
same_marks [] (other ∷ others) [] h k = absurd k
same_marks [] others (label ∷ labels) h k = absurd h
same_marks (shape ∷ shapes) others [] h k = absurd h
same_marks (shape ∷ shapes) [] (label ∷ labels) h k = absurd k
same_marks (ShapeOf takes target types after which
    ∷ shapes) (ShapeOf takes' target' types' after' which'
    ∷ others) (LabelOf keeps goal below next part ∷ labels) h k =
    let follows : after ≡ after' = sym h.3 ∙ k.3 in
    let parts : which ≡ which' = sym h.4 ∙ k.4 in
    let inner = same_marks shapes others labels h.5 k.5 in
    rw (follows, parts, inner) refl

pub labels_tell : LabelsTellPositions
labels_tell c body p q s t labels d e h k more =
    let marks : map mark_of t.labels ≡ map mark_of s.labels =
    sym (same_marks s.labels t.labels labels h k) in
    let rest : length (spelled t.rest) ≡ length (spelled s.rest) = sym more in
    let same : seen t ≡ seen s = rw (marks, rest) refl in
    one_in_body c body p q (seen s) (s, d, refl) (t, e, same)
