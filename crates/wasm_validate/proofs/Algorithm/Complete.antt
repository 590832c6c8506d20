-- What is typed passes the check.
use Rattle.std.proofs.Common.{◌≡◌, inl, inr, Bool, true, false, List, [], ◌∷◌, ◌++◌, Option, Some}
use Rattle.std.proofs.Common.{None, refl, sym, ap, ◌∙◌, subst, append_assoc}
use Rattle.std.proofs.lemmas.List.{append-nil}
use Rattle.wasm_syntax.specs.declared.types.ValueType.{ValueType}
use Rattle.wasm_syntax.specs.declared.types.ValueType.TheVariants.{I32}
use Rattle.wasm_syntax.specs.declared.instruction.Instruction.{Instruction}
use Rattle.wasm_syntax.specs.declared.instruction.Instruction.TheVariants as instr
use Rattle.wasm_syntax.specs.rules.Sequence.{Sequence, Stop, Plain, InBlock, InLoop, InIf, InIfElse}
use Rattle.wasm_syntax.specs.rules.Sequence.{spelled, IsPlain, IsNested}
use Rattle.wasm_syntax.specs.laws.ReadingItems.{◌>>=◌, check}
use Rattle.wasm_rules.specs.Types.{results_of}
use Rattle.wasm_rules.specs.Typing.{Context, HasInstructionType, HasType}
use Rattle.wasm_validate.specs.laws.Checking.{Known, Level, arrow_of, applied, labels_of, new_level}
use Rattle.wasm_validate.specs.laws.Checking.{has_no_operands, level_closed, may_end}
use Rattle.wasm_validate.specs.laws.Checking.{result_returned, levels_after, checked}
use Rattle.wasm_validate.specs.laws.Remaining.{FitsOperands, Closes, Ends, Remains}
use Rattle.wasm_validate.proofs.Algorithm.Arrows.{arrow_of_type}
use Rattle.wasm_validate.proofs.Algorithm.Sound.{in_front, parted, EndsOf}
use Rattle.wasm_validate.proofs.Algorithm.Fitting.{FitsLevel, Keeps, pushed_fit, taken_on}
use Rattle.wasm_validate.proofs.Algorithm.Fitting.{all_taken_on, applied_on}

no_end : (front : List Instruction) (i : Instruction) (rest : List Instruction)
    → [] ≡ front ++ (i ∷ rest) → ⊥
no_end [] i rest e = absurd (cc)
no_end (j ∷ front) i rest e = absurd (cc)

fits_empty : (reached : Bool) (ks : List Known) → FitsOperands reached ks []
    → has_no_operands ks ≡ true
fits_empty reached [] f = refl
fits_empty reached (k ∷ ks) f = absurd f

-- a sequence whose operands are what it gives can be closed
pub closed_on : (l : Level) → FitsLevel l (results_of l.gives)
    → (l' : Level) × (level_closed l ≡ Some l')
closed_on l f =
    let r = all_taken_on (results_of l.gives) l []
    (subst (λ z. FitsLevel l z) (sym (append-nil (results_of l.gives))) f) in
    let e = fits_empty r.0.is_reached r.0.operands r.2 in (
      r.0,
      ap (λ z. z >>= λ l'. check (has_no_operands l'.operands) >>= λ _. Some l') r.1
          ∙ ap (λ z. check z >>= λ _. Some r.0) e,
    )

pushed_remains : (c : Context) (t : Option ValueType) (levels : List Level)
    (opcodes : List Instruction) → Remains c (results_of t) levels opcodes
    → Remains c [] (result_returned t levels) opcodes
pushed_remains c t [] opcodes h = h
pushed_remains c t (l ∷ levels) opcodes h =
    (results_of t ++ h.0, pushed_fit (results_of t) l h.0 h.1, h.2)

ends_kept : (c : Context) (levels : List Level) (types : List ValueType)
    (opcodes : List Instruction) (l l' : Level) → Keeps l l'
    → EndsOf c levels types opcodes l.takes l.gives l.is_first
    → EndsOf c levels types opcodes l'.takes l'.gives l'.is_first
ends_kept c levels types opcodes l l' k h =
    subst (λ z. EndsOf c levels types opcodes z l'.gives l'.is_first) (sym k.takes)
    (subst (λ z. EndsOf c levels types opcodes l.takes z l'.is_first) (sym k.gives)
    (subst (λ z. EndsOf c levels types opcodes l.takes l.gives z) (sym k.is_first) h))

-- ---- what is behind

module _ (c : Context) (labels : List (List ValueType)) (is_first : Bool) (gives : Option ValueType)
    (then : List Instruction → Type 0) where
  -- where opcodes are a sequence and what closes it, they are the first part of its spelling, and
  -- then what closes the rest
  closes_rest : (front : List Instruction) (rest new : Sequence) (opcodes : List Instruction)
      → spelled new ≡ front ++ spelled rest → Closes c labels is_first gives then new opcodes
      → (after : List Instruction) × (opcodes ≡ front ++ after) × Closes c labels is_first gives
      then rest after
  closes_rest front rest new opcodes e (inl h) = (
    spelled rest ++ (instr.End ∷ h.next),
    h.is ∙ ap (λ z. z ++ (instr.End ∷ h.next)) e
        ∙ append_assoc front (spelled rest) (instr.End ∷ h.next),
    inl (record {
      next = h.next;
      is = refl;
      may = h.may;
      follows = h.follows;
    }),
  )
  closes_rest front rest new opcodes e (inr h) =
      let tail : List Instruction = instr.Else ∷ (spelled h.second ++ (instr.End ∷ h.next)) in (
        spelled rest ++ tail,
        h.is ∙ ap (λ z. z ++ tail) e ∙ append_assoc front (spelled rest) tail,
        inr (record {
          second = h.second;
          next = h.next;
          is = refl;
          first = h.first;
          nested = h.nested;
          typed = h.typed;
          follows = h.follows;
        }),
      )

-- ---- each form of the sequence that remains

-- a check of one opcode passes, and what is left remains
abbrev pub Passes : Context → Instruction → List Instruction → List Level → Type 0
Passes c i opcodes levels = (levels' : List Level) × (levels_after c i levels ≡ Some levels')
    × Remains c [] levels' opcodes

passes_as : (c : Context) (i j : Instruction) (opcodes rest : List Instruction)
    (levels : List Level) → i ∷ opcodes ≡ j ∷ rest → Passes c j rest levels
    → Passes c i opcodes levels
passes_as c i j opcodes rest levels e h =
    let head : j ≡ i = cc in let tail : rest ≡ opcodes = cc in
    subst (λ z. Passes c z opcodes levels) head (subst (λ z. Passes c j z levels) tail h)

module _ (c : Context) (l : Level) (levels : List Level) where
  pub after_plain : (i : Instruction) → IsPlain i
      → levels_after c i (l ∷ levels) ≡ (applied (arrow_of c (labels_of (l ∷ levels)) i) l
      >>= λ l'. Some (l' ∷ levels))
  after_plain (instr.Block t) h = absurd h
  after_plain (instr.Loop t) h = absurd h
  after_plain (instr.If t) h = absurd h
  after_plain instr.Else h = absurd h
  after_plain instr.End h = absurd h
  after_plain i h = refl

  end_passes : (opcodes : List Instruction) → may_end l.is_first l.gives ≡ true
      → FitsLevel l (results_of l.gives) → Remains c (results_of l.gives) levels opcodes
      → Passes c instr.End opcodes (l ∷ levels)
  end_passes opcodes may f h =
      let d = closed_on l f in (
        result_returned l.gives levels,
        ap (λ z. check z >>= λ _. level_closed l
            >>= λ _. Some (result_returned l.gives levels)) may
            ∙ ap (λ z. z >>= λ _. Some (result_returned l.gives levels)) d.1,
        pushed_remains c l.gives levels opcodes h,
      )

  else_passes : (second : Sequence) (next : List Instruction) → l.is_first ≡ true
      → FitsLevel l (results_of l.gives) → IsNested second
      → HasType c (labels_of (l ∷ levels)) second [] (results_of l.gives)
      → Remains c (results_of l.gives) levels next
      → Passes c instr.Else (spelled second ++ (instr.End ∷ next)) (l ∷ levels)
  else_passes second next first f nested typed h =
      let d = closed_on l f in
      let ends : Ends c (labels_of (l ∷ levels)) false l.gives (λ next.
      Remains c (results_of l.gives) levels next) [] (spelled second ++ (instr.End ∷ next)) =
      record {
        rest = second;
        nested = nested;
        typed = typed;
        closes = inl (record { next = next; is = refl; may = refl; follows = h });
      } in (
        new_level l.takes l.gives false ∷ levels,
        ap (λ z. check z >>= λ _. level_closed l
            >>= λ _. Some (new_level l.takes l.gives false ∷ levels)) first
            ∙ ap (λ z. z >>= λ _. Some (new_level l.takes l.gives false ∷ levels)) d.1,
        ([], tt, ends),
      )

  plain_passes : (i : Instruction) (types p q below : List ValueType) (opcodes : List Instruction)
      → IsPlain i → FitsLevel l types → types ≡ p ++ below
      → HasInstructionType c (labels_of (l ∷ levels)) i p q
      → EndsOf c levels (q ++ below) opcodes l.takes l.gives l.is_first
      → Passes c i opcodes (l ∷ levels)
  plain_passes i types p q below opcodes plain f e rule ends =
      let a = applied_on (arrow_of c (labels_of (l ∷ levels)) i) l p q below
      (arrow_of_type c (labels_of (l ∷ levels)) p q i rule) (subst (λ z. FitsLevel l z) e f) in (
        a.0 ∷ levels,
        after_plain i plain ∙ ap (λ z. z >>= λ l'. Some (l' ∷ levels)) a.1,
        (q ++ below, a.2, ends_kept c levels (q ++ below) opcodes l a.0 a.3 ends),
      )

  block_passes : (t : Option ValueType) (body : Sequence) (types : List ValueType)
      (next : List Instruction) → FitsLevel l types → IsNested body
      → HasType c (results_of t ∷ labels_of (l ∷ levels)) body [] (results_of t)
      → EndsOf c levels (results_of t ++ types) next l.takes l.gives l.is_first
      → Passes c (instr.Block t) (spelled body ++ (instr.End ∷ next)) (l ∷ levels)
  block_passes t body types next f nested typed h = (
    new_level t t false ∷ l ∷ levels,
    refl,
    (
      [],
      tt,
      record {
        rest = body;
        nested = nested;
        typed = typed;
        closes = inl (record { next = next; is = refl; may = refl; follows = (types, f, h) });
      },
    ),
  )

  loop_passes : (t : Option ValueType) (body : Sequence) (types : List ValueType)
      (next : List Instruction) → FitsLevel l types → IsNested body
      → HasType c ([] ∷ labels_of (l ∷ levels)) body [] (results_of t)
      → EndsOf c levels (results_of t ++ types) next l.takes l.gives l.is_first
      → Passes c (instr.Loop t) (spelled body ++ (instr.End ∷ next)) (l ∷ levels)
  loop_passes t body types next f nested typed h = (
    new_level None t false ∷ l ∷ levels,
    refl,
    (
      [],
      tt,
      record {
        rest = body;
        nested = nested;
        typed = typed;
        closes = inl (record { next = next; is = refl; may = refl; follows = (types, f, h) });
      },
    ),
  )

  -- labels around the parts of an `if`, whose condition was taken
  same_labels : (l' : Level) → Keeps l l' → labels_of (l ∷ levels) ≡ labels_of (l' ∷ levels)
  same_labels l' k = ap (λ z. results_of z ∷ labels_of levels) (sym k.takes)

  if_passes : (t : Option ValueType) (first : Sequence) (below : List ValueType)
      (next : List Instruction) → FitsLevel l (I32 ∷ below) → t ≡ None → IsNested first
      → HasType c ([] ∷ labels_of (l ∷ levels)) first [] []
      → EndsOf c levels below next l.takes l.gives l.is_first
      → Passes c (instr.If t) (spelled first ++ (instr.End ∷ next)) (l ∷ levels)
  if_passes t first below next f none nested typed h =
      let o = taken_on I32 l below f in
      let typed' = subst (λ z. HasType c ([] ∷ z) first [] []) (same_labels o.0 o.3) typed in (
        new_level t t true ∷ o.0 ∷ levels,
        ap (λ z. z >>= λ l'. Some (new_level t t true ∷ l' ∷ levels)) o.1,
        (
          [],
          tt,
          record {
            rest = first;
            nested = nested;
            typed = subst (λ z. HasType c (results_of z ∷ labels_of (o.0 ∷ levels)) first []
                (results_of z)) (sym none) typed';
            closes = inl (record {
              next = next;
              is = refl;
              may = subst (λ z. may_end true z ≡ true) (sym none) refl;
              follows = (
                below,
                o.2,
                ends_kept c levels (results_of t
                    ++ below) next l o.0 o.3 (subst (λ z. EndsOf c levels (results_of z
                    ++ below) next l.takes l.gives l.is_first) (sym none) h),
              );
            });
          },
        ),
      )

  if_else_passes : (t : Option ValueType) (first second : Sequence) (below : List ValueType)
      (next : List Instruction) → FitsLevel l (I32 ∷ below) → IsNested first → IsNested second
      → HasType c (results_of t ∷ labels_of (l ∷ levels)) first [] (results_of t)
      → HasType c (results_of t ∷ labels_of (l ∷ levels)) second [] (results_of t)
      → EndsOf c levels (results_of t ++ below) next l.takes l.gives l.is_first
      → Passes c (instr.If t) (spelled first
      ++ (instr.Else ∷ (spelled second ++ (instr.End ∷ next)))) (l ∷ levels)
  if_else_passes t first second below next f nested_first nested_second typed_first typed_second h =
      let o = taken_on I32 l below f in
      let same = same_labels o.0 o.3 in (
        new_level t t true ∷ o.0 ∷ levels,
        ap (λ z. z >>= λ l'. Some (new_level t t true ∷ l' ∷ levels)) o.1,
        (
          [],
          tt,
          record {
            rest = first;
            nested = nested_first;
            typed = subst (λ z. HasType c (results_of t ∷ z) first [] (results_of t)) same
                typed_first;
            closes = inr (record {
              second = second;
              next = next;
              is = refl;
              first = refl;
              nested = nested_second;
              typed = subst (λ z. HasType c (results_of t ∷ z) second [] (results_of t)) same
                  typed_second;
              follows = (below, o.2, ends_kept c levels (results_of t ++ below) next l o.0 o.3 h);
            });
          },
        ),
      )

  -- the sequence that remains says which opcode comes
  step_passes : (i : Instruction) (opcodes : List Instruction) (types : List ValueType)
      → FitsLevel l types → (rest : Sequence) → IsNested rest
      → HasType c (labels_of (l ∷ levels)) rest types (results_of l.gives)
      → Closes c (labels_of (l ∷ levels)) l.is_first l.gives (λ next.
      Remains c (results_of l.gives) levels next) rest (i ∷ opcodes)
      → Passes c i opcodes (l ∷ levels)
  step_passes i opcodes types f Stop nested typed (inl h) =
      passes_as c i instr.End opcodes h.next (l
      ∷ levels) h.is (end_passes h.next h.may (subst (λ z. FitsLevel l z) typed f) h.follows)
  step_passes i opcodes types f Stop nested typed (inr h) =
      passes_as c i instr.Else opcodes (spelled h.second ++ (instr.End ∷ h.next)) (l
      ∷ levels) h.is (else_passes h.second h.next h.first (subst (λ z. FitsLevel l z) typed f)
      h.nested h.typed h.follows)
  step_passes i opcodes types f (Plain j rest) nested typed closes =
      let r = closes_rest c (labels_of (l ∷ levels)) l.is_first l.gives (λ next.
      Remains c (results_of l.gives) levels next) (j ∷ []) rest (Plain j rest) (i
      ∷ opcodes) refl closes in
      passes_as c i j opcodes r.0 (l
      ∷ levels) r.1 (plain_passes j types typed.0 typed.1 typed.2 r.0 nested.0 f typed.3 typed.4
      (record { rest = rest; nested = nested.1; typed = typed.5; closes = r.2 }))
  step_passes i opcodes types f (InBlock t body rest) nested typed closes =
      let r = closes_rest c (labels_of (l ∷ levels)) l.is_first l.gives (λ next.
      Remains c (results_of l.gives) levels next) (instr.Block t ∷ (spelled body
      ++ (instr.End ∷ []))) rest (InBlock t body rest) (i
      ∷ opcodes) (in_front (instr.Block t) instr.End (spelled body) (spelled rest)) closes in
      passes_as c i (instr.Block t) opcodes (spelled body ++ (instr.End ∷ r.0)) (l ∷ levels) (r.1
      ∙ sym (in_front (instr.Block t) instr.End (spelled body) r.0))
      (block_passes t body types r.0 f nested.0 typed.0 (record {
        rest = rest;
        nested = nested.1;
        typed = typed.1;
        closes = r.2;
      }))
  step_passes i opcodes types f (InLoop t body rest) nested typed closes =
      let r = closes_rest c (labels_of (l ∷ levels)) l.is_first l.gives (λ next.
      Remains c (results_of l.gives) levels next) (instr.Loop t ∷ (spelled body
      ++ (instr.End ∷ []))) rest (InLoop t body rest) (i
      ∷ opcodes) (in_front (instr.Loop t) instr.End (spelled body) (spelled rest)) closes in
      passes_as c i (instr.Loop t) opcodes (spelled body ++ (instr.End ∷ r.0)) (l ∷ levels) (r.1
      ∙ sym (in_front (instr.Loop t) instr.End (spelled body) r.0))
      (loop_passes t body types r.0 f nested.0 typed.0 (record {
        rest = rest;
        nested = nested.1;
        typed = typed.1;
        closes = r.2;
      }))
  step_passes i opcodes types f (InIf t first rest) nested typed closes =
      let r = closes_rest c (labels_of (l ∷ levels)) l.is_first l.gives (λ next.
      Remains c (results_of l.gives) levels next) (instr.If t ∷ (spelled first
      ++ (instr.End ∷ []))) rest (InIf t first rest) (i
      ∷ opcodes) (in_front (instr.If t) instr.End (spelled first) (spelled rest)) closes in
      passes_as c i (instr.If t) opcodes (spelled first ++ (instr.End ∷ r.0)) (l ∷ levels) (r.1
      ∙ sym (in_front (instr.If t) instr.End (spelled first) r.0))
      (if_passes t first typed.0 r.0 (subst (λ z. FitsLevel l z) typed.1 f) typed.2 nested.0 typed.3
      (record { rest = rest; nested = nested.1; typed = typed.4; closes = r.2 }))
  step_passes i opcodes types f (InIfElse t first second rest) nested typed closes =
      let r = closes_rest c (labels_of (l ∷ levels)) l.is_first l.gives (λ next.
      Remains c (results_of l.gives) levels next) (instr.If t ∷ (spelled first
      ++ (instr.Else ∷ (spelled second ++ (instr.End ∷ []))))) rest
      (InIfElse t first second rest) (i
      ∷ opcodes) (parted (instr.If t) (spelled first) (spelled second) (spelled rest)) closes in
      passes_as c i (instr.If t) opcodes (spelled first
      ++ (instr.Else ∷ (spelled second ++ (instr.End ∷ r.0)))) (l ∷ levels) (r.1
      ∙ sym (parted (instr.If t) (spelled first) (spelled second) r.0))
      (if_else_passes t first second typed.0 r.0 (subst (λ z. FitsLevel l z) typed.1 f) nested.0
      nested.1 typed.2 typed.3 (record {
        rest = rest;
        nested = nested.2;
        typed = typed.4;
        closes = r.2;
      }))

nothing_left : (c : Context) (l : Level) (levels : List Level) (types : List ValueType)
    → Ends c (labels_of (l ∷ levels)) l.is_first l.gives (λ next.
    Remains c (results_of l.gives) levels next) types [] → ⊥
nothing_left c l levels types h = by_closes h.closes
  where
    by_closes : Closes c (labels_of (l ∷ levels)) l.is_first l.gives (λ next.
        Remains c (results_of l.gives) levels next) h.rest [] → ⊥
    by_closes (inl k) = no_end (spelled h.rest) instr.End k.next k.is
    by_closes (inr k) =
        no_end (spelled h.rest) instr.Else (spelled k.second ++ (instr.End ∷ k.next)) k.is

-- Where opcodes close all that is open, typed, the check passes and leaves nothing open.
pub complete : (c : Context) (opcodes : List Instruction) (levels : List Level)
    → Remains c [] levels opcodes → checked c opcodes levels ≡ Some []
complete c [] [] h = refl
complete c [] (l ∷ levels) h = absurd (nothing_left c l levels h.0 h.2)
complete c (i ∷ opcodes) [] h = absurd (cc)
complete c (i ∷ opcodes) (l ∷ levels) h =
    let p = step_passes c l levels i opcodes h.0 h.1 h.2.rest h.2.nested h.2.typed h.2.closes in
    ap (λ z. z >>= λ levels'. checked c opcodes levels') p.1 ∙ complete c opcodes p.0 p.2
