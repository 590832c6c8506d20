-- Checking a typed body comes at each position to what typing gives there.
use Rattle.std.proofs.Common.{◌≡◌, inl, inr, ℕ, zero, suc, ◌+◌, ◌-◌, ◌<◌, ◌≤◌, Bool, true, false}
use Rattle.std.proofs.Common.{List, [], ◌∷◌, ◌++◌, length, take, drop, Option, Some, None, refl}
use Rattle.std.proofs.Common.{sym, ap, ◌∙◌, subst, arith, append_assoc, length-append}
use Rattle.std.specs.Prelude.{nat_le, map, ◌&&◌, if◌then◌else◌}
use Rattle.std.specs.Option.{option_and_then}
use Rattle.std.proofs.lemmas.Bool.{le-leb}
use Rattle.std.proofs.lemmas.Bool.Decides.{nat_tests}
use Rattle.std.proofs.lemmas.List.{take-append-le, map-append}
use Rattle.std.proofs.Math.Seq.{take-append-add}
use Rattle.wasm_syntax.specs.declared.types.ValueType.{ValueType}
use Rattle.wasm_syntax.specs.declared.types.ValueType.TheVariants.{I32}
use Rattle.wasm_syntax.specs.declared.instruction.Instruction.{Instruction}
use Rattle.wasm_syntax.specs.declared.instruction.Instruction.TheVariants as instr
use Rattle.wasm_syntax.specs.rules.Sequence.{Sequence, Stop, Plain, InBlock, InLoop, InIf, InIfElse}
use Rattle.wasm_syntax.specs.rules.Sequence.{spelled, IsPlain, IsNested}
use Rattle.wasm_syntax.specs.laws.ReadingItems.{◌>>=◌, check}
use Rattle.wasm_syntax.proofs.Grammar.Rising.{both as both_true}
use Rattle.wasm_rules.specs.Configuration.{Main, Second}
use Rattle.wasm_rules.specs.Types.{results_of}
use Rattle.wasm_rules.specs.Typing.{Context, HasInstructionType, HasType}
use Rattle.wasm_rules.specs.Shapes.{Shape, LabelShape, ShapeOf, types_behind, shape_at}
use Rattle.wasm_validate.specs.rules.Operands.{types_below}
use Rattle.wasm_validate.specs.laws.Checking.{Level, operand_taken, arrow_of, applied, all_pushed}
use Rattle.wasm_validate.specs.laws.Checking.{labels_of, new_level, level_closed, may_end}
use Rattle.wasm_validate.specs.laws.Checking.{result_returned, levels_after, checked}
use Rattle.wasm_validate.specs.laws.Remaining.{FitsOperands}
use Rattle.wasm_validate.specs.laws.Reached.{are_reached, all_operands, LevelsStandFor, PassesTo}
use Rattle.wasm_validate.specs.laws.Reached.{CheckingFindsShapes}
use Rattle.wasm_validate.proofs.Algorithm.Arrows.{arrow_of_type}
use Rattle.wasm_validate.proofs.Algorithm.Certain.{IsSure, known_types, taken_stays}
use Rattle.wasm_validate.proofs.Algorithm.Certain.{all_pushed_stays, Leads, typed_leads, IsBehind}
use Rattle.wasm_validate.proofs.Algorithm.Certain.{applied_leads}
use Rattle.wasm_validate.proofs.Algorithm.Complete.{closed_on, after_plain}
use Rattle.wasm_validate.proofs.Algorithm.Fitting.{FitsLevel, Keeps, keeps_same, keeps_on}
use Rattle.wasm_validate.proofs.Algorithm.Fitting.{pushed_fit, taken_on, applied_on}

-- ---- opcodes one behind the other

module _ (c : Context) where
  checked_on : (a b : List Instruction) (levels : List Level)
      → checked c (a ++ b) levels ≡ (checked c a levels >>= λ m. checked c b m)
  checked_on [] b levels = refl
  checked_on (i ∷ a) b levels = through (levels_after c i levels) (λ m. checked_on a b m)
    where
      through : (o : Option (List Level)) → ((m : List Level)
          → checked c (a ++ b) m ≡ (checked c a m >>= λ m. checked c b m))
          → (o >>= λ m. checked c (a ++ b) m) ≡ ((o >>= λ m. checked c a m) >>= λ m. checked c b m)
      through None go = refl
      through (Some m) go = go m

  -- opcodes with one that closes them have passed
  passed_on : (a b : List Instruction) (e : Instruction) (start mid : List Level)
      → checked c (a ++ (e ∷ [])) start ≡ Some mid
      → checked c (a ++ (e ∷ b)) start ≡ checked c b mid
  passed_on a b e start mid h =
      ap (λ z. checked c z start) (sym (append_assoc a (e ∷ []) b))
      ∙ checked_on (a ++ (e ∷ [])) b start ∙ ap (λ z. z >>= λ m. checked c b m) h

  -- a stretch, the opcode that closes it, and what follows
  pub closed_comes : (a b : List Instruction) (e : Instruction) (n : ℕ) (start mid : List Level)
      (x y : ℕ → Option Shape) (z : Bool) → checked c (a ++ (e ∷ [])) start ≡ Some mid
      → n ≤ length (a ++ (e ∷ b))
      → (n ≤ length a → PassesTo c a n start (if z then x n else None))
      → (n - (length a + 1) ≤ length b → PassesTo c b (n - (length a + 1)) mid
      (if z then y (n - (length a + 1)) else None))
      → PassesTo c (a ++ (e ∷ b)) n start (if z
      then (if nat_le n (length a) then x n else y (n - (length a + 1))) else None)
  closed_comes a b e n start mid x y z closed small inside behind =
      by_test (nat_le n (length a)) refl
    where
      total : length (a ++ (e ∷ b)) ≡ length a + suc (length b)
      total = simp length-append (omega arith)

      by_test : (t : Bool) → nat_le n (length a) ≡ t
          → PassesTo c (a ++ (e ∷ b)) n start
          (if z then (if t then x n else y (n - (length a + 1))) else None)
      by_test true t =
          let low : n ≤ length a = grind (arith, nat_tests) in
          let r = inside low in
          record {
            new = r.new;
            is = ap (λ w. checked c w start) (take-append-le n a (e ∷ b) low)
                ∙ r.is;
            stands = r.stands;
          }
      by_test false t =
          let high : length a < n = grind (arith, nat_tests) in
          let m = n - (length a + 1) in
          let at : n ≡ length a + suc (n - (length a + 1)) = omega arith in
          let all : length (a ++ (e ∷ b)) ≡ length a + suc (length b) = total in
          let r = behind (omega arith) in
          record {
            new = r.new;
            is = ap (λ w. checked c (take w (a ++ (e ∷ b))) start) at
                ∙ ap (λ w. checked c w start) (take-append-add a (e ∷ b) (suc m))
                ∙ passed_on a (take m b) e start mid closed ∙ r.is;
            stands = r.stands;
          }

-- ---- whole sequences

-- a whole sequence passes, and leaves what it makes
abbrev Whole : Context → Sequence → Level → List Level → List ValueType → Type 0
Whole c s l levels out = (new : Level) × (checked c (spelled s) (l ∷ levels)
    ≡ Some (new ∷ levels)) × FitsLevel new out × Keeps l new

module _ (c : Context) where
  ended : (l : Level) (levels : List Level) → may_end l.is_first l.gives ≡ true
      → FitsLevel l (results_of l.gives) → levels_after c instr.End (l ∷ levels)
      ≡ Some (result_returned l.gives levels)
  ended l levels may f =
      let d = closed_on l f in
      ap (λ z. check z >>= λ _. level_closed l >>= λ _. Some (result_returned l.gives levels)) may
      ∙ ap (λ z. z >>= λ _. Some (result_returned l.gives levels)) d.1

  parted : (l : Level) (levels : List Level) → l.is_first ≡ true
      → FitsLevel l (results_of l.gives) → levels_after c instr.Else (l ∷ levels)
      ≡ Some (new_level l.takes l.gives false ∷ levels)
  parted l levels first f =
      let d = closed_on l f in
      ap (λ z. check z >>= λ _. level_closed l >>= λ _. Some
      (new_level l.takes l.gives false ∷ levels)) first
      ∙ ap (λ z. z >>= λ _. Some (new_level l.takes l.gives false ∷ levels)) d.1

  -- with its end
  whole_ended : (s : Sequence) (takes gives : Option ValueType) (first : Bool)
      (levels : List Level) → may_end first gives ≡ true
      → Whole c s (new_level takes gives first) levels (results_of gives)
      → checked c (spelled s ++ (instr.End ∷ [])) (new_level takes gives first ∷ levels)
      ≡ Some (result_returned gives levels)
  whole_ended s takes gives first levels may (l, e, f, k) =
      let may' : may_end l.is_first l.gives ≡ true = rw (k.is_first, k.gives) may in
      let fits : FitsLevel l (results_of l.gives) =
      subst (λ z. FitsLevel l (results_of z)) (sym k.gives) f in
      checked_on c (spelled s) (instr.End ∷ []) (new_level takes gives first ∷ levels)
      ∙ ap (λ z. z >>= λ m. checked c (instr.End ∷ []) m) e
      ∙ ap (λ z. z >>= λ m. checked c [] m) (ended l levels may' fits)
      ∙ ap (λ z. Some (result_returned z levels)) k.gives

  -- with the `else` after it
  whole_parted : (s : Sequence) (t : Option ValueType) (levels : List Level)
      → Whole c s (new_level t t true) levels (results_of t)
      → checked c (spelled s ++ (instr.Else ∷ [])) (new_level t t true ∷ levels)
      ≡ Some (new_level t t false ∷ levels)
  whole_parted s t levels (l, e, f, k) =
      let fits : FitsLevel l (results_of l.gives) =
      subst (λ z. FitsLevel l (results_of z)) (sym k.gives) f in
      checked_on c (spelled s) (instr.Else ∷ []) (new_level t t true ∷ levels)
      ∙ ap (λ z. z >>= λ m. checked c (instr.Else ∷ []) m) e
      ∙ ap (λ z. z >>= λ m. checked c [] m) (parted l levels k.is_first fits)
      ∙ ap (λ z. Some (new_level z l.gives false ∷ levels)) k.takes
      ∙ ap (λ z. Some (new_level t z false ∷ levels)) k.gives

  -- labels around stay, where only operands and reach of the innermost sequence change
  typed_in : (l new : Level) (levels : List Level) (s : Sequence) (ts out : List ValueType)
      → Keeps l new → HasType c (labels_of (l ∷ levels)) s ts out
      → HasType c (labels_of (new ∷ levels)) s ts out
  typed_in l new levels s ts out k h = subst (λ z. HasType c
      (results_of z ∷ labels_of levels) s ts out) (sym k.takes) h

  inner_typed : (l new : Level) (levels : List Level) (s : Sequence)
      (takes ts out : List ValueType) → Keeps l new
      → HasType c (takes ∷ labels_of (l ∷ levels)) s ts out
      → HasType c (takes ∷ labels_of (new ∷ levels)) s ts out
  inner_typed l new levels s takes ts out k h =
      subst (λ z. HasType c (takes ∷ results_of z ∷ labels_of levels) s ts out) (sym k.takes) h

  keeps_pushed : (ts : List ValueType) (l : Level) → Keeps l (all_pushed ts l)
  keeps_pushed ts l = record { takes = refl; gives = refl; is_first = refl }

  -- an instruction that stays in its sequence
  plain_passes : (i : Instruction) (l : Level) (levels : List Level)
      (ts p q below : List ValueType) → IsPlain i → FitsLevel l ts → ts ≡ p ++ below
      → HasInstructionType c (labels_of (l ∷ levels)) i p q
      → (new : Level) × (levels_after c i (l ∷ levels) ≡ Some (new ∷ levels))
      × (applied (arrow_of c (labels_of (l ∷ levels)) i) l ≡ Some new)
      × FitsLevel new (q ++ below) × Keeps l new
  plain_passes i l levels ts p q below plain f e rule =
      let a = applied_on (arrow_of c (labels_of (l ∷ levels)) i) l p q below
      (arrow_of_type c (labels_of (l ∷ levels)) p q i rule) (subst (λ z. FitsLevel l z) e f) in (
        a.0,
        after_plain c l levels i plain ∙ ap
            (λ z. z >>= λ m. Some (m ∷ levels)) a.1,
        a.1,
        a.2,
        a.3,
      )

  -- the condition of an `if`
  condition_taken : (l : Level) (levels : List Level) (t : Option ValueType)
      (ts below : List ValueType) → FitsLevel l ts → ts ≡ I32 ∷ below
      → (new : Level) × (levels_after c (instr.If t) (l ∷ levels)
      ≡ Some (new_level t t true ∷ new ∷ levels)) × (operand_taken I32 l ≡ Some new)
      × FitsLevel new below × Keeps l new
  condition_taken l levels t ts below f e =
      let o = taken_on I32 l below (subst (λ z. FitsLevel l z) e f) in
      (o.0, ap (λ z. z >>= λ m. Some (new_level t t true ∷ m ∷ levels)) o.1, o.1, o.2, o.3)

  whole : (s : Sequence) (l : Level) (levels : List Level) (ts out : List ValueType)
      → HasType c (labels_of (l ∷ levels)) s ts out → IsNested s → FitsLevel l ts
      → Whole c s l levels out
  whole Stop l levels ts out typed nested f = (
    l,
    refl,
    subst
        (λ z. FitsLevel l z) typed f,
    keeps_same l,
  )
  whole (Plain i rest) l levels ts out typed nested f =
      let a = plain_passes i l levels ts typed.0 typed.1 typed.2 nested.0 f typed.3 typed.4 in
      let r = whole rest a.0 levels (typed.1 ++ typed.2) out
      (typed_in l a.0 levels rest (typed.1 ++ typed.2) out a.4 typed.5) nested.1 a.3 in (
        r.0,
        ap (λ z. z >>= λ m. checked c (spelled rest) m) a.1
            ∙ r.1,
        r.2,
        keeps_on l a.0 r.0 a.4 r.3,
      )
  whole (InBlock t body rest) l levels ts out typed nested f =
      let closed = whole_ended body t t false (l ∷ levels) refl
      (whole body (new_level t t false) (l ∷ levels) [] (results_of t) typed.0 nested.0 tt) in
      let r = whole rest (all_pushed (results_of t) l) levels
      (results_of t ++ ts) out typed.1 nested.1 (pushed_fit (results_of t) l ts f) in (
        r.0,
        passed_on c (spelled body) (spelled rest) instr.End (new_level t t false ∷ l ∷ levels)
            (all_pushed (results_of t) l ∷ levels) closed
            ∙ r.1,
        r.2,
        keeps_on l (all_pushed (results_of t) l) r.0
            (keeps_pushed (results_of t) l) r.3,
      )
  whole (InLoop t body rest) l levels ts out typed nested f =
      let closed = whole_ended body None t false (l ∷ levels) refl
      (whole body (new_level None t false) (l ∷ levels) [] (results_of t) typed.0 nested.0 tt) in
      let r = whole rest (all_pushed (results_of t) l) levels
      (results_of t ++ ts) out typed.1 nested.1 (pushed_fit (results_of t) l ts f) in (
        r.0,
        passed_on c (spelled body) (spelled rest) instr.End
            (new_level None t false ∷ l ∷ levels) (all_pushed (results_of t) l ∷ levels) closed
            ∙ r.1,
        r.2,
        keeps_on l (all_pushed (results_of t) l) r.0
            (keeps_pushed (results_of t) l) r.3,
      )
  whole (InIf t first rest) l levels ts out typed nested f =
      let o = condition_taken l levels t ts typed.0 f typed.1 in
      let inside : HasType c (results_of t ∷ labels_of (l ∷ levels)) first [] (results_of t) =
      subst (λ z. HasType c (results_of z ∷ labels_of (l ∷ levels)) first [] (results_of z))
      (sym typed.2) typed.3 in
      let behind : HasType c (labels_of (l ∷ levels)) rest (results_of t ++ typed.0) out =
      subst (λ z. HasType c (labels_of (l ∷ levels)) rest (results_of z ++ typed.0) out)
      (sym typed.2) typed.4 in
      let may : may_end true t ≡ true = subst (λ z. may_end true z ≡ true) (sym typed.2) refl in
      let closed = whole_ended first t t true (o.0 ∷ levels) may
      (whole first (new_level t t true) (o.0 ∷ levels) [] (results_of t)
      (inner_typed l o.0 levels first (results_of t) [] (results_of t) o.4 inside) nested.0 tt) in
      let r = whole rest (all_pushed (results_of t) o.0) levels (results_of t ++ typed.0) out
      (typed_in l o.0 levels rest (results_of t ++ typed.0) out o.4 behind) nested.1
      (pushed_fit (results_of t) o.0 typed.0 o.3) in (
        r.0,
        ap (λ z. z >>= λ m. checked c (spelled first ++ (instr.End ∷ spelled rest)) m) o.1
            ∙ passed_on c (spelled first) (spelled rest) instr.End
            (new_level t t true ∷ o.0 ∷ levels) (all_pushed (results_of t) o.0 ∷ levels) closed
            ∙ r.1,
        r.2,
        keeps_on l o.0 r.0 o.4 (keeps_on o.0 (all_pushed (results_of t) o.0) r.0
            (keeps_pushed (results_of t) o.0) r.3),
      )
  whole (InIfElse t first second rest) l levels ts out typed nested f =
      let o = condition_taken l levels t ts typed.0 f typed.1 in
      let closed = whole_parted first t (o.0 ∷ levels)
      (whole first (new_level t t true) (o.0 ∷ levels) [] (results_of t)
      (inner_typed l o.0 levels first (results_of t) []
      (results_of t) o.4 typed.2) nested.0 tt) in
      let ending = whole_ended second t t false (o.0 ∷ levels) refl
      (whole second (new_level t t false) (o.0 ∷ levels) [] (results_of t)
      (inner_typed l o.0 levels second (results_of t) []
      (results_of t) o.4 typed.3) nested.1 tt) in
      let r = whole rest (all_pushed (results_of t) o.0) levels (results_of t ++ typed.0) out
      (typed_in l o.0 levels rest (results_of t ++ typed.0) out o.4 typed.4) nested.2
      (pushed_fit (results_of t) o.0 typed.0 o.3) in (
        r.0,
        ap (λ z. z >>= λ m. checked c (spelled first ++
            (instr.Else ∷ (spelled second ++ (instr.End ∷ spelled rest)))) m) o.1
            ∙ passed_on c (spelled first) (spelled second ++
            (instr.End ∷ spelled rest)) instr.Else (new_level t t true ∷ o.0 ∷ levels)
            (new_level t t false ∷ o.0 ∷ levels) closed
            ∙ passed_on c (spelled second) (spelled rest) instr.End
            (new_level t t false ∷ o.0 ∷ levels) (all_pushed (results_of t) o.0 ∷ levels) ending
            ∙ r.1,
        r.2,
        keeps_on l o.0 r.0 o.4 (keeps_on o.0 (all_pushed (results_of t) o.0) r.0
            (keeps_pushed (results_of t) o.0) r.3),
      )

-- ---- what levels stand for

-- the open sequences around are those of the labels, if a jump is before in none
abbrev IsAbove : List Level → List LabelShape → Type 0
IsAbove levels labels = are_reached levels ≡ true
    → all_operands levels ≡ map (λ t. Some t) (types_below labels)

-- nothing but the shape, where a jump is before in none
abbrev shape_if : Bool → Option Shape → Option Shape
shape_if b o = if b then o else None

level_types : (l : Level) (ts : List ValueType) → l.is_reached ≡ true → IsSure l → FitsLevel l ts
    → l.operands ≡ map (λ t. Some t) ts
level_types l ts r sure f = known_types l.operands ts (sure r)
    (subst (λ z. FitsOperands z l.operands ts) r f)

with_operands : (l : Level) (levels : List Level) (labels : List LabelShape) (ts : List ValueType)
    → FitsLevel l ts → IsSure l → IsAbove levels labels → are_reached (l ∷ levels) ≡ true
    → all_operands (l ∷ levels) ≡ map (λ t. Some t) (ts ++ types_below labels)
with_operands l levels labels ts f sure above r =
    let b = both_true l.is_reached (are_reached levels) r in
    ap (λ z. z ++ all_operands levels) (level_types l ts b.0 sure f)
    ∙ ap (λ z. map (λ t. Some t) ts ++ z) (above b.1)
    ∙ sym (map-append (λ t. Some t) ts (types_below labels))

stands_here : (l : Level) (levels : List Level) (labels : List LabelShape) (ts : List ValueType)
    (s : Sequence) → FitsLevel l ts → IsSure l → IsAbove levels labels
    → LevelsStandFor (l ∷ levels) (shape_if (are_reached (l ∷ levels))
    (Some (record { labels = labels; operands = ts; rest = s })))
stands_here l levels labels ts s f sure above = by_reach (are_reached (l ∷ levels)) refl
  where
    by_reach : (b : Bool) → are_reached (l ∷ levels) ≡ b
        → LevelsStandFor (l ∷ levels)
        (shape_if b (Some (record { labels = labels; operands = ts; rest = s })))
    by_reach true r = (r, with_operands l levels labels ts f sure above r)
    by_reach false r = r

no_shape : (b : Bool) (levels : List Level) → are_reached levels ≡ false
    → LevelsStandFor levels (shape_if b None)
no_shape true levels e = e
no_shape false levels e = e

-- after an instruction that stays in its sequence
plain_stands : (go : List ValueType → Option Shape) (l new : Level) (levels after : List Level)
    (o : Option (List ValueType)) (us : List ValueType) → IsBehind l new o us
    → LevelsStandFor after (shape_if (are_reached (new ∷ levels)) (go us))
    → LevelsStandFor after (shape_if (are_reached (l ∷ levels)) (option_and_then go o))
plain_stands go l new levels after o us (inl (e, r)) h =
    let same : LevelsStandFor after (shape_if (l.is_reached && are_reached levels) (go us)) =
    subst (λ z. LevelsStandFor after (shape_if (z && are_reached levels) (go us))) r h in
    subst (λ z. LevelsStandFor after (shape_if (are_reached (l ∷ levels)) (option_and_then go z)))
    (sym e) same
plain_stands go l new levels after o us (inr (e, r)) h =
    let none : are_reached after ≡ false = subst
    (λ z. LevelsStandFor after (shape_if (z && are_reached levels) (go us))) r h in
    subst (λ z. LevelsStandFor after (shape_if (are_reached (l ∷ levels)) (option_and_then go z)))
    (sym e) (no_shape (are_reached (l ∷ levels)) after none)

-- ---- all positions of a sequence

-- what is at a position of a sequence, on top of these levels
abbrev Comes : Context → Sequence → ℕ → Level → List Level → List LabelShape → List ValueType
    → Type 0
Comes c s n l levels labels ts = PassesTo c (spelled s) n (l ∷ levels)
    (shape_if (are_reached (l ∷ levels)) (shape_at c labels s ts n))

module _ (c : Context) where
  -- the opcode in front of the others has passed
  comes_behind : (i : Instruction) (opcodes : List Instruction) (n : ℕ) (levels next : List Level)
      (o : Option Shape) → levels_after c i levels ≡ Some next → PassesTo c opcodes n next o
      → PassesTo c (i ∷ opcodes) (suc n) levels o
  comes_behind i opcodes n levels next o e r =
      record {
        new = r.new;
        is = ap (λ z. z >>= λ m. checked c (take n opcodes) m) e
            ∙ r.is;
        stands = r.stands;
      }

  -- the condition of an `if` has passed
  comes_inside : (opcodes : List Instruction) (t : Option ValueType) (n : ℕ) (l new : Level)
      (levels : List Level) (o : Option Shape) → operand_taken I32 l ≡ Some new
      → levels_after c (instr.If t) (l ∷ levels) ≡ Some (new_level t t true ∷ new ∷ levels)
      → PassesTo c opcodes n (new_level t t true ∷ new ∷ levels)
      (shape_if (are_reached (new ∷ levels)) o)
      → PassesTo c (instr.If t ∷ opcodes) (suc n) (l ∷ levels)
      (shape_if (are_reached (l ∷ levels)) o)
  comes_inside opcodes t n l new levels o taken e r =
      let start : List Level = new_level t t true ∷ new ∷ levels in
      comes_behind (instr.If t) opcodes n (l ∷ levels) start
      (shape_if (are_reached (l ∷ levels)) o) e
      (subst (λ z. PassesTo c opcodes n start (shape_if (z && are_reached levels) o))
      (taken_stays I32 l new taken).reached r)

  comes : (s : Sequence) (l : Level) (levels : List Level) (labels : List LabelShape)
      (ts out : List ValueType) (n : ℕ) → HasType c (labels_of (l ∷ levels)) s ts out → IsNested s
      → FitsLevel l ts → IsSure l → IsAbove levels labels → n ≤ length (spelled s)
      → Comes c s n l levels labels ts
  comes s l levels labels ts out zero typed nested f sure above small =
      let stands = stands_here l levels labels ts s f sure above in
      record { new = l ∷ levels; is = refl; stands = stands }
  comes Stop l levels labels ts out (suc n) typed nested f sure above small = absurd (omega arith)
  comes (Plain i rest) l levels labels ts out (suc n) typed nested f sure above small =
      let a = plain_passes c i l levels ts typed.0 typed.1 typed.2 nested.0 f typed.3 typed.4 in
      let leads = subst (λ z. Leads (arrow_of c (labels_of (l ∷ levels)) i) (types_behind c i z)
      (typed.1 ++ typed.2)) (sym typed.3) (typed_leads c
      (labels_of (l ∷ levels)) typed.0 typed.1 typed.2 i typed.4) in
      let b = applied_leads (arrow_of c (labels_of (l ∷ levels)) i) l a.0 (types_behind c i ts)
      (typed.1 ++ typed.2) a.2 leads in
      let r = comes rest a.0 levels labels (typed.1 ++ typed.2) out n
      (typed_in c l a.0 levels rest (typed.1 ++ typed.2) out a.4 typed.5) nested.1 a.3
      (b.1 sure) above (omega arith) in
      comes_behind i (spelled rest) n (l ∷ levels) (a.0 ∷ levels)
      (shape_if (are_reached (l ∷ levels)) (shape_at c labels (Plain i rest) ts (suc n))) a.1
      (record {
        new = r.new;
        is = r.is;
        stands = plain_stands (λ us. shape_at c labels rest us n) l a.0 levels r.new
            (types_behind c i ts) (typed.1 ++ typed.2) b.0 r.stands;
      })
  comes (InBlock t body rest) l levels labels ts out (suc n) typed nested f sure above small =
      let start : List Level = new_level t t false ∷ l ∷ levels in
      let behind : Level = all_pushed (results_of t) l in
      comes_behind (instr.Block t) (spelled body ++ (instr.End ∷ spelled rest)) n
      (l ∷ levels) start (shape_if (are_reached (l ∷ levels))
      (shape_at c labels (InBlock t body rest) ts (suc n))) refl
      (closed_comes c (spelled body) (spelled rest) instr.End n start (behind ∷ levels)
      (λ n. shape_at c (ShapeOf (results_of t) rest ts rest Main ∷ labels) body [] n)
      (λ n. shape_at c labels rest (results_of t ++ ts) n) (are_reached (l ∷ levels))
      (whole_ended c body t t false (l ∷ levels) refl
      (whole c body (new_level t t false) (l ∷ levels) [] (results_of t) typed.0 nested.0 tt))
      (omega arith)
      (λ low. comes body (new_level t t false) (l ∷ levels)
      (ShapeOf (results_of t) rest ts rest Main ∷ labels) [] (results_of t) n typed.0 nested.0 tt
      (λ r. tt) (with_operands l levels labels ts f sure above) low)
      (λ low. comes rest behind levels labels (results_of t ++ ts) out
      (n - (length (spelled body) + 1)) typed.1 nested.1 (pushed_fit (results_of t) l ts f)
      ((all_pushed_stays (results_of t) l).sure sure) above low))
  comes (InLoop t body rest) l levels labels ts out (suc n) typed nested f sure above small =
      let start : List Level = new_level None t false ∷ l ∷ levels in
      let behind : Level = all_pushed (results_of t) l in
      comes_behind (instr.Loop t) (spelled body ++ (instr.End ∷ spelled rest)) n
      (l ∷ levels) start (shape_if (are_reached (l ∷ levels))
      (shape_at c labels (InLoop t body rest) ts (suc n))) refl
      (closed_comes c (spelled body) (spelled rest) instr.End n start (behind ∷ levels)
      (λ n. shape_at c (ShapeOf [] (InLoop t body rest) ts rest Main ∷ labels) body [] n)
      (λ n. shape_at c labels rest (results_of t ++ ts) n) (are_reached (l ∷ levels))
      (whole_ended c body None t false (l ∷ levels) refl
      (whole c body (new_level None t false) (l ∷ levels) [] (results_of t) typed.0 nested.0 tt))
      (omega arith)
      (λ low. comes body (new_level None t false) (l ∷ levels)
      (ShapeOf [] (InLoop t body rest) ts rest Main ∷ labels) []
      (results_of t) n typed.0 nested.0 tt (λ r. tt)
      (with_operands l levels labels ts f sure above) low)
      (λ low. comes rest behind levels labels (results_of t ++ ts) out
      (n - (length (spelled body) + 1)) typed.1 nested.1 (pushed_fit (results_of t) l ts f)
      ((all_pushed_stays (results_of t) l).sure sure) above low))
  comes (InIf t first rest) l levels labels ts out (suc n) typed nested f sure above small =
      let below : typed.0 ≡ drop 1 ts = sym (ap (drop 1) typed.1) in
      let o = condition_taken c l levels t ts (drop 1 ts) f (typed.1 ∙ ap (λ z. I32 ∷ z) below) in
      let new : Level = o.0 in
      let stays = taken_stays I32 l new o.2 in
      let start : List Level = new_level t t true ∷ new ∷ levels in
      let behind : Level = all_pushed (results_of t) new in
      let inside : HasType c (results_of t ∷ labels_of (l ∷ levels)) first [] (results_of t) =
      subst (λ z. HasType c (results_of z ∷ labels_of (l ∷ levels)) first [] (results_of z))
      (sym typed.2) typed.3 in
      let rest_typed : HasType c (labels_of (l ∷ levels)) rest (drop 1 ts) out =
      subst (λ z. HasType c (labels_of (l ∷ levels)) rest z out) below typed.4 in
      let after : HasType c (labels_of (l ∷ levels)) rest (results_of t ++ drop 1 ts) out =
      subst (λ z. HasType c (labels_of (l ∷ levels)) rest (results_of z ++ drop 1 ts) out)
      (sym typed.2) rest_typed in
      let may : may_end true t ≡ true = subst (λ z. may_end true z ≡ true) (sym typed.2) refl in
      let inside' = inner_typed c l new levels first (results_of t) []
      (results_of t) o.4 inside in
      comes_inside (spelled first ++ (instr.End ∷ spelled rest)) t n l new levels
      (shape_at c labels (InIf t first rest) ts (suc n)) o.2 o.1
      (closed_comes c (spelled first) (spelled rest) instr.End n start (behind ∷ levels)
      (λ n. shape_at c (ShapeOf (results_of t) rest (drop 1 ts) rest Main ∷ labels) first [] n)
      (λ n. shape_at c labels rest (results_of t ++ drop 1 ts) n) (are_reached (new ∷ levels))
      (whole_ended c first t t true (new ∷ levels) may
      (whole c first (new_level t t true) (new ∷ levels) [] (results_of t) inside' nested.0 tt))
      (omega arith)
      (λ low. comes first (new_level t t true) (new ∷ levels)
      (ShapeOf (results_of t) rest (drop 1 ts) rest Main ∷ labels) []
      (results_of t) n inside' nested.0 tt (λ r. tt)
      (with_operands new levels labels (drop 1 ts) o.3 (stays.sure sure) above) low)
      (λ low. comes rest behind levels labels (results_of t ++ drop 1 ts) out
      (n - (length (spelled first) + 1)) (typed_in c l new levels rest
      (results_of t ++ drop 1 ts) out o.4 after) nested.1
      (pushed_fit (results_of t) new (drop 1 ts) o.3)
      ((all_pushed_stays (results_of t) new).sure (stays.sure sure)) above low))
  comes (InIfElse t first second rest) l levels labels ts out
      (suc n) typed nested f sure above small =
      let below : typed.0 ≡ drop 1 ts = sym (ap (drop 1) typed.1) in
      let o = condition_taken c l levels t ts (drop 1 ts) f (typed.1 ∙ ap (λ z. I32 ∷ z) below) in
      let new : Level = o.0 in
      let stays = taken_stays I32 l new o.2 in
      let start : List Level = new_level t t true ∷ new ∷ levels in
      let middle : List Level = new_level t t false ∷ new ∷ levels in
      let behind : Level = all_pushed (results_of t) new in
      let after : HasType c (labels_of (l ∷ levels)) rest (results_of t ++ drop 1 ts) out =
      subst (λ z. HasType c (labels_of (l ∷ levels)) rest
      (results_of t ++ z) out) below typed.4 in
      let first_typed = inner_typed c l new levels first (results_of t) []
      (results_of t) o.4 typed.2 in
      let second_typed = inner_typed c l new levels second (results_of t) []
      (results_of t) o.4 typed.3 in
      let around = with_operands new levels labels (drop 1 ts) o.3 (stays.sure sure) above in
      comes_inside (spelled first ++ (instr.Else ∷
      (spelled second ++ (instr.End ∷ spelled rest)))) t n l new levels
      (shape_at c labels (InIfElse t first second rest) ts (suc n)) o.2 o.1
      (closed_comes c (spelled first) (spelled second ++
      (instr.End ∷ spelled rest)) instr.Else n start middle
      (λ n. shape_at c (ShapeOf (results_of t) rest (drop 1 ts) rest Main ∷ labels) first [] n)
      (λ n. if nat_le n (length (spelled second))
      then shape_at c (ShapeOf (results_of t) rest (drop 1 ts) rest Second ∷ labels) second [] n
      else shape_at c labels rest (results_of t ++ drop 1 ts) (n - (length (spelled second) + 1)))
      (are_reached (new ∷ levels))
      (whole_parted c first t (new ∷ levels) (whole c first (new_level t t true) (new ∷ levels) []
      (results_of t) first_typed nested.0 tt))
      (omega arith)
      (λ low. comes first (new_level t t true) (new ∷ levels)
      (ShapeOf (results_of t) rest (drop 1 ts) rest Main ∷ labels) []
      (results_of t) n first_typed nested.0 tt (λ r. tt) around low)
      (λ low. closed_comes c (spelled second) (spelled rest) instr.End
      (n - (length (spelled first) + 1)) middle (behind ∷ levels)
      (λ n. shape_at c (ShapeOf (results_of t) rest (drop 1 ts) rest Second ∷ labels) second [] n)
      (λ n. shape_at c labels rest (results_of t ++ drop 1 ts) n) (are_reached (new ∷ levels))
      (whole_ended c second t t false (new ∷ levels) refl
      (whole c second (new_level t t false) (new ∷ levels) []
      (results_of t) second_typed nested.1 tt))
      low
      (λ low. comes second (new_level t t false) (new ∷ levels)
      (ShapeOf (results_of t) rest (drop 1 ts) rest Second ∷ labels) [] (results_of t)
      (n - (length (spelled first) + 1)) second_typed nested.1 tt (λ r. tt) around low)
      (λ low. comes rest behind levels labels (results_of t ++ drop 1 ts) out
      (n - (length (spelled first) + 1) - (length (spelled second) + 1))
      (typed_in c l new levels rest (results_of t ++ drop 1 ts) out o.4 after) nested.2
      (pushed_fit (results_of t) new (drop 1 ts) o.3)
      ((all_pushed_stays (results_of t) new).sure (stays.sure sure)) above low)))

pub chosen : (n m : ℕ) (x y : Option Shape) → n ≤ m → (if nat_le n m then x else y) ≡ x
chosen n m x y h = let e = le-leb n m h in rw e refl

pub finds_shapes : CheckingFindsShapes
finds_shapes c body r p nested typed is small =
    let start : Level = new_level r r false in
    let labels : List LabelShape = ShapeOf c.returns Stop [] Stop Main ∷ [] in
    let in_context : HasType c (results_of r ∷ []) body [] c.returns =
    subst (λ z. HasType c (z ∷ []) body [] c.returns) (sym is) typed in
    let here = comes c body start [] labels [] c.returns p in_context nested tt (λ r. tt)
    (λ r. refl) small in
    subst (λ z. PassesTo c (spelled body) p (start ∷ []) z)
    (sym (chosen p (length (spelled body)) (shape_at c labels body [] p) _ small)) here
