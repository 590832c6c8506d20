-- What passes the check is typed.
use Rattle.std.proofs.Common.{◌≡◌, inl, inr, Bool, true, false, List, [], ◌∷◌, ◌++◌, Option, Some}
use Rattle.std.proofs.Common.{None, refl, sym, ap, ◌∙◌, subst, append_assoc}
use Rattle.std.proofs.lemmas.List.{append-nil}
use Rattle.wasm_syntax.specs.declared.types.ValueType.{ValueType}
use Rattle.wasm_syntax.specs.declared.types.ValueType.TheVariants.{I32}
use Rattle.wasm_syntax.specs.declared.instruction.Instruction.{Instruction}
use Rattle.wasm_syntax.specs.declared.instruction.Instruction.TheVariants as instr
use Rattle.wasm_syntax.specs.rules.Sequence.{Sequence, Stop, Plain, InBlock, InLoop, InIf, InIfElse}
use Rattle.wasm_syntax.specs.rules.Sequence.{spelled, IsPlain, IsNested}
use Rattle.wasm_syntax.specs.laws.ReadingItems.{◌>>=◌, check}
use Rattle.wasm_syntax.proofs.Grammar.Exact.{bind_some}
use Rattle.wasm_rules.specs.Types.{results_of}
use Rattle.wasm_rules.specs.Typing.{Context, HasInstructionType, HasType}
use Rattle.wasm_validate.specs.laws.Checking.{Known, Level, operand_taken, all_operands_taken}
use Rattle.wasm_validate.specs.laws.Checking.{arrow_of, applied, labels_of, new_level}
use Rattle.wasm_validate.specs.laws.Checking.{has_no_operands, level_closed, may_end}
use Rattle.wasm_validate.specs.laws.Checking.{result_returned, levels_after, checked}
use Rattle.wasm_validate.specs.laws.Remaining.{FitsOperands, Closes, Ends, Remains}
use Rattle.wasm_validate.proofs.Algorithm.Arrows.{type_of_arrow}
use Rattle.wasm_validate.proofs.Algorithm.Fitting.{FitsLevel, Keeps, check_true, fits_pushed}
use Rattle.wasm_validate.proofs.Algorithm.Fitting.{taken_back, all_taken_back, applied_back}

-- ---- what is in front

-- an opening opcode, a body and what closes it, and what follows
pub in_front : (i close : Instruction) (body rest : List Instruction)
    → i ∷ (body ++ (close ∷ rest)) ≡ (i ∷ (body ++ (close ∷ []))) ++ rest
in_front i close body rest = ap (λ z. i ∷ z) (sym (append_assoc body (close ∷ []) rest))

-- both parts of an `if`, and what follows
pub parted : (i : Instruction) (first second rest : List Instruction)
    → i ∷ (first ++ (instr.Else ∷ (second ++ (instr.End ∷ rest))))
    ≡ (i ∷ (first ++ (instr.Else ∷ (second ++ (instr.End ∷ []))))) ++ rest
parted i first second rest =
    ap (λ z. i ∷ z) (ap (λ z. first
    ++ (instr.Else ∷ z)) (sym (append_assoc second (instr.End ∷ []) rest))
    ∙ sym (append_assoc first (instr.Else ∷ (second ++ (instr.End ∷ []))) rest))

module _ (c : Context) (labels : List (List ValueType)) (is_first : Bool) (gives : Option ValueType)
    (then : List Instruction → Type 0) where
  -- a sequence after opcodes that belong to it
  pub closes_behind : (front : List Instruction) (rest new : Sequence) (opcodes : List Instruction)
      → spelled new ≡ front ++ spelled rest → Closes c labels is_first gives then rest opcodes
      → Closes c labels is_first gives then new (front ++ opcodes)
  closes_behind front rest new opcodes e (inl h) =
      inl (record {
        next = h.next;
        is = ap (λ z. front ++ z) h.is
            ∙ sym (append_assoc front (spelled rest) (instr.End ∷ h.next))
            ∙ ap (λ z. z ++ (instr.End ∷ h.next)) (sym e);
        may = h.may;
        follows = h.follows;
      })
  closes_behind front rest new opcodes e (inr h) =
      let tail : List Instruction = instr.Else ∷ (spelled h.second ++ (instr.End ∷ h.next)) in
      inr (record {
        second = h.second;
        next = h.next;
        is = ap (λ z. front ++ z) h.is ∙ sym (append_assoc front (spelled rest) tail)
            ∙ ap (λ z. z ++ tail) (sym e);
        first = h.first;
        nested = h.nested;
        typed = h.typed;
        follows = h.follows;
      })

  ends_plain : (i : Instruction) (p q below : List ValueType) (opcodes : List Instruction)
      → IsPlain i → HasInstructionType c labels i p q → Ends c labels is_first gives then (q
      ++ below) opcodes → Ends c labels is_first gives then (p ++ below) (i ∷ opcodes)
  ends_plain i p q below opcodes plain rule h = record {
    rest = Plain i h.rest;
    nested = (plain, h.nested);
    typed = (p, q, below, refl, rule, h.typed);
    closes = closes_behind (i ∷ []) h.rest (Plain i h.rest) opcodes refl h.closes;
  }

-- ---- levels

-- what is pushed is on top
pub remains_pushed : (c : Context) (t : Option ValueType) (levels : List Level)
    (opcodes : List Instruction) → Remains c [] (result_returned t levels) opcodes
    → Remains c (results_of t) levels opcodes
remains_pushed c t [] opcodes h = h
remains_pushed c t (l ∷ levels) opcodes h =
    let r = fits_pushed (results_of t) l h.0 h.1 in (
      r.0,
      r.2,
      subst (λ z. Ends c (labels_of (l ∷ levels)) l.is_first l.gives (λ next.
          Remains c (results_of l.gives) levels next) z opcodes) r.1 h.2,
    )

-- the same ending for a level that differs in its operands
abbrev pub EndsOf : Context → List Level → List ValueType → List Instruction → Option ValueType
    → Option ValueType → Bool → Type 0
EndsOf c levels types opcodes takes gives is_first =
    Ends c (results_of takes ∷ labels_of levels) is_first gives (λ next.
    Remains c (results_of gives) levels next) types opcodes

pub ends_kept : (c : Context) (levels : List Level) (types : List ValueType)
    (opcodes : List Instruction) (l l' : Level) → Keeps l l'
    → EndsOf c levels types opcodes l'.takes l'.gives l'.is_first
    → EndsOf c levels types opcodes l.takes l.gives l.is_first
ends_kept c levels types opcodes l l' k h =
    subst (λ z. EndsOf c levels types opcodes z l.gives l.is_first) k.takes
    (subst (λ z. EndsOf c levels types opcodes l'.takes z l.is_first) k.gives
    (subst (λ z. EndsOf c levels types opcodes l'.takes l'.gives z) k.is_first h))

none_given : (gives : Option ValueType) → may_end true gives ≡ true → gives ≡ None
none_given None e = refl
none_given (Some t) e = absurd (cc)

empty_fits : (reached : Bool) (ks : List Known) → has_no_operands ks ≡ true
    → FitsOperands reached ks []
empty_fits reached [] e = tt
empty_fits reached (k ∷ ks) e = absurd (cc)

-- a sequence that was closed has what it gives, and that alone
pub closed_back : (l l' : Level) → level_closed l ≡ Some l' → FitsLevel l (results_of l.gives)
closed_back l l' h =
    let a = bind_some (all_operands_taken (results_of l.gives) l) (λ l'.
    check (has_no_operands l'.operands) >>= λ _. Some l') l' h in
    let b = bind_some (check (has_no_operands a.0.operands)) (λ _. Some a.0) l' a.2 in
    let r = all_taken_back (results_of l.gives) l a.0 a.1 [] (empty_fits a.0.is_reached a.0.operands
    (check_true (has_no_operands a.0.operands) b.0 b.1)) in
    subst (λ z. FitsLevel l z) (append-nil (results_of l.gives)) r.0

pub opened_fits : (types : List ValueType) → FitsOperands true [] types → types ≡ []
opened_fits [] f = refl
opened_fits (t ∷ types) f = absurd f

-- ---- each opcode

module _ (c : Context) (opcodes : List Instruction) (l : Level) (levels levels' : List Level) where
  plain_sound : (i : Instruction) → IsPlain i → (applied (arrow_of c (labels_of (l ∷ levels)) i) l
      >>= λ l'. Some (l' ∷ levels)) ≡ Some levels' → Remains c [] levels' opcodes
      → Remains c [] (l ∷ levels) (i ∷ opcodes)
  plain_sound i plain h r =
      let o = bind_some (applied (arrow_of c (labels_of (l ∷ levels)) i) l) (λ l'.
      Some (l' ∷ levels)) levels' h in
      let same : o.0 ∷ levels ≡ levels' = let s = o.2 in cc in
      let r' : Remains c [] (o.0 ∷ levels) opcodes =
      subst (λ z. Remains c [] z opcodes) (sym same) r in
      let a = applied_back (arrow_of c (labels_of (l ∷ levels)) i) l o.0 o.1 r'.0 r'.1 in
      let ends = ends_kept c levels r'.0 opcodes l o.0 a.6 r'.2 in
      let ends' = subst (λ z. EndsOf c levels z opcodes l.takes l.gives l.is_first) a.3 ends in (
        a.0 ++ a.2,
        a.5,
        ends_plain c (labels_of (l ∷ levels)) l.is_first l.gives (λ next.
            Remains c (results_of l.gives) levels next) i a.0 a.1 a.2 opcodes plain
            (type_of_arrow c (labels_of (l ∷ levels)) a.0 a.1 i a.4) ends',
      )

  -- what closes an inner sequence that is no first part
  inner : (takes gives : Option ValueType)
      → Remains c [] (new_level takes gives false ∷ l ∷ levels) opcodes
      → (body : Sequence) × (next : List Instruction) × IsNested body
      × HasType c (results_of takes ∷ labels_of (l ∷ levels)) body [] (results_of gives)
      × (opcodes ≡ spelled body ++ (instr.End ∷ next))
      × Remains c (results_of gives) (l ∷ levels) next
  inner takes gives (types, f, ends) = by_closes ends.closes
    where
      typed : HasType c (results_of takes ∷ labels_of (l ∷ levels)) ends.rest [] (results_of gives)
      typed = subst (λ z. HasType c (results_of takes ∷ labels_of (l ∷ levels)) ends.rest z
          (results_of gives)) (opened_fits types f) ends.typed

      by_closes : Closes c (results_of takes ∷ labels_of (l ∷ levels)) false gives (λ next.
          Remains c (results_of gives) (l ∷ levels) next) ends.rest opcodes
          → (body : Sequence) × (next : List Instruction) × IsNested body
          × HasType c (results_of takes ∷ labels_of (l ∷ levels)) body [] (results_of gives)
          × (opcodes ≡ spelled body ++ (instr.End ∷ next))
          × Remains c (results_of gives) (l ∷ levels) next
      by_closes (inl h) = (ends.rest, h.next, ends.nested, typed, h.is, h.follows)
      by_closes (inr h) = let no = h.first in absurd (cc)

-- the same of a sequence after an inner one
closes_inner : (c : Context) (labels : List (List ValueType)) (is_first : Bool)
    (gives : Option ValueType) (then : List Instruction
    → Type 0) (i : Instruction) (body rest new : Sequence) (opcodes next : List Instruction)
    → spelled new ≡ i ∷ (spelled body ++ (instr.End ∷ spelled rest))
    → opcodes ≡ spelled body ++ (instr.End ∷ next) → Closes c labels is_first gives
    then rest next → Closes c labels is_first gives then new (i ∷ opcodes)
closes_inner c labels is_first gives then i body rest new opcodes next e is h =
    let front : List Instruction = i ∷ (spelled body ++ (instr.End ∷ [])) in
    subst (λ z. Closes c labels is_first gives then new z) (sym (ap (λ z. i ∷ z) is
    ∙ in_front i instr.End (spelled body) next))
    (closes_behind c labels is_first gives
    then front rest new next (e ∙ in_front i instr.End (spelled body) (spelled rest)) h)

module _ (c : Context) (opcodes : List Instruction) (l : Level) (levels : List Level) where
  block_sound : (t : Option ValueType) → Remains c [] (new_level t t false ∷ l ∷ levels) opcodes
      → Remains c [] (l ∷ levels) (instr.Block t ∷ opcodes)
  block_sound t r =
      let n = inner c opcodes l levels levels t t r in
      let after = n.5 in (
        after.0,
        after.1,
        record {
          rest = InBlock t n.0 after.2.rest;
          nested = (n.2, after.2.nested);
          typed = (n.3, after.2.typed);
          closes = closes_inner c (labels_of (l ∷ levels)) l.is_first l.gives (λ next.
              Remains c (results_of l.gives) levels next) (instr.Block t) n.0 after.2.rest
              (InBlock t n.0 after.2.rest) opcodes n.1 refl n.4 after.2.closes;
        },
      )

  loop_sound : (t : Option ValueType) → Remains c [] (new_level None t false ∷ l ∷ levels) opcodes
      → Remains c [] (l ∷ levels) (instr.Loop t ∷ opcodes)
  loop_sound t r =
      let n = inner c opcodes l levels levels None t r in
      let after = n.5 in (
        after.0,
        after.1,
        record {
          rest = InLoop t n.0 after.2.rest;
          nested = (n.2, after.2.nested);
          typed = (n.3, after.2.typed);
          closes = closes_inner c (labels_of (l ∷ levels)) l.is_first l.gives (λ next.
              Remains c (results_of l.gives) levels next) (instr.Loop t) n.0 after.2.rest
              (InLoop t n.0 after.2.rest) opcodes n.1 refl n.4 after.2.closes;
        },
      )

  end_sound : (levels' : List Level) → levels_after c instr.End (l ∷ levels) ≡ Some levels'
      → Remains c [] levels' opcodes → Remains c [] (l ∷ levels) (instr.End ∷ opcodes)
  end_sound levels' h r =
      let m = bind_some (check (may_end l.is_first l.gives)) (λ _. level_closed l
      >>= λ _. Some (result_returned l.gives levels)) levels' h in
      let d = bind_some (level_closed l) (λ _. Some (result_returned l.gives levels)) levels' m.2 in
      let same : result_returned l.gives levels ≡ levels' = let s = d.2 in cc in (
        results_of l.gives,
        closed_back l d.0 d.1,
        record {
          rest = Stop;
          nested = tt;
          typed = refl;
          closes = inl (record {
            next = opcodes;
            is = refl;
            may = check_true (may_end l.is_first l.gives) m.0 m.1;
            follows = remains_pushed c l.gives levels opcodes (subst (λ z. Remains c [] z opcodes)
                (sym same) r);
          });
        },
      )

  else_parted : l.is_first ≡ true → FitsLevel l (results_of l.gives)
      → Remains c [] (new_level l.takes l.gives false ∷ levels) opcodes
      → Remains c [] (l ∷ levels) (instr.Else ∷ opcodes)
  else_parted first fits (types, f, ends) = by_closes ends.closes
    where
      by_closes : Closes c (labels_of (l ∷ levels)) false l.gives (λ next.
          Remains c (results_of l.gives) levels next) ends.rest opcodes
          → Remains c [] (l ∷ levels) (instr.Else ∷ opcodes)
      by_closes (inr h) = let no = h.first in absurd (cc)
      by_closes (inl h) = (
        results_of l.gives,
        fits,
        record {
          rest = Stop;
          nested = tt;
          typed = refl;
          closes = inr (record {
            second = ends.rest;
            next = h.next;
            is = ap (λ z. instr.Else ∷ z) h.is;
            first = first;
            nested = ends.nested;
            typed = subst (λ z. HasType c (labels_of (l ∷ levels)) ends.rest z (results_of l.gives))
                (opened_fits types f) ends.typed;
            follows = h.follows;
          });
        },
      )

  else_sound : (levels' : List Level) → levels_after c instr.Else (l ∷ levels) ≡ Some levels'
      → Remains c [] levels' opcodes → Remains c [] (l ∷ levels) (instr.Else ∷ opcodes)
  else_sound levels' h r =
      let m = bind_some (check l.is_first) (λ _. level_closed l
      >>= λ _. Some (new_level l.takes l.gives false ∷ levels)) levels' h in
      let d = bind_some (level_closed l) (λ _. Some (new_level l.takes l.gives false
      ∷ levels)) levels' m.2 in
      let same : new_level l.takes l.gives false ∷ levels ≡ levels' = let s = d.2 in cc in
      else_parted (check_true l.is_first m.0 m.1) (closed_back l d.0 d.1)
      (subst (λ z. Remains c [] z opcodes) (sym same) r)

  -- an `if` whose parts are above l', which is l without the condition
  if_typed : (t : Option ValueType) (l' : Level) → operand_taken I32 l ≡ Some l'
      → Remains c [] (new_level t t true ∷ l' ∷ levels) opcodes
      → Remains c [] (l ∷ levels) (instr.If t ∷ opcodes)
  if_typed t l' h (types, f, ends) = by_closes ends.closes
    where
      labels : List (List ValueType)
      labels = labels_of (l ∷ levels)

      same_labels : Keeps l l' → labels_of (l' ∷ levels) ≡ labels
      same_labels k = ap (λ z. results_of z ∷ labels_of levels) k.takes

      first_typed : Keeps l l' → HasType c (results_of t ∷ labels) ends.rest [] (results_of t)
      first_typed k =
          subst (λ z. HasType c (results_of t ∷ z) ends.rest [] (results_of t)) (same_labels k)
          (subst (λ z. HasType c (results_of t ∷ labels_of (l' ∷ levels)) ends.rest z
          (results_of t)) (opened_fits types f) ends.typed)

      by_closes : Closes c (results_of t ∷ labels_of (l' ∷ levels)) true t (λ next.
          Remains c (results_of t) (l' ∷ levels) next) ends.rest opcodes
          → Remains c [] (l ∷ levels) (instr.If t ∷ opcodes)
      by_closes (inl e) =
          let after = e.follows in
          let back = taken_back I32 l l' h after.0 after.1 in
          let rest = ends_kept c levels (results_of t ++ after.0) e.next l l' back.1 after.2 in
          let none = none_given t e.may in (
            I32 ∷ after.0,
            back.0,
            record {
              rest = InIf t ends.rest rest.rest;
              nested = (ends.nested, rest.nested);
              typed = (
                after.0,
                refl,
                none,
                subst (λ z. HasType c (results_of z ∷ labels) ends.rest [] (results_of z)) none
                    (first_typed back.1),
                subst (λ z. HasType c labels rest.rest (results_of z
                    ++ after.0) (results_of l.gives)) none rest.typed,
              );
              closes = closes_inner c labels l.is_first l.gives (λ next.
                  Remains c (results_of l.gives) levels next) (instr.If t) ends.rest rest.rest
                  (InIf t ends.rest rest.rest) opcodes e.next refl e.is rest.closes;
            },
          )
      by_closes (inr e) =
          let after = e.follows in
          let back = taken_back I32 l l' h after.0 after.1 in
          let rest = ends_kept c levels (results_of t ++ after.0) e.next l l' back.1 after.2 in
          let second =
          subst (λ z. HasType c (results_of t ∷ z) e.second [] (results_of t))
          (same_labels back.1) e.typed in
          let parts : List Instruction = spelled e.second ++ (instr.End ∷ []) in
          let front : List Instruction = instr.If t ∷ (spelled ends.rest ++ (instr.Else ∷ parts)) in
          let new : Sequence = InIfElse t ends.rest e.second rest.rest in (
            I32 ∷ after.0,
            back.0,
            record {
              rest = new;
              nested = (ends.nested, e.nested, rest.nested);
              typed = (after.0, refl, first_typed back.1, second, rest.typed);
              closes = subst (λ z. Closes c labels l.is_first l.gives (λ next.
                  Remains c (results_of l.gives) levels next) new z)
                  (sym (ap (λ z. instr.If t ∷ z) e.is
                  ∙ parted (instr.If t) (spelled ends.rest) (spelled e.second) e.next))
                  (closes_behind c labels l.is_first l.gives (λ next.
                  Remains c (results_of l.gives) levels next) front rest.rest new e.next
                  (parted (instr.If t) (spelled ends.rest) (spelled e.second)
                  (spelled rest.rest)) rest.closes);
            },
          )

  if_sound : (t : Option ValueType) (levels' : List Level)
      → levels_after c (instr.If t) (l ∷ levels) ≡ Some levels' → Remains c [] levels' opcodes
      → Remains c [] (l ∷ levels) (instr.If t ∷ opcodes)
  if_sound t levels' h r =
      let o = bind_some (operand_taken I32 l) (λ l'. Some (new_level t t true ∷ l'
      ∷ levels)) levels' h in
      let same : new_level t t true ∷ o.0 ∷ levels ≡ levels' = let s = o.2 in cc in
      if_typed t o.0 o.1 (subst (λ z. Remains c [] z opcodes) (sym same) r)

-- ---- all of them

sound_step : (c : Context) (i : Instruction) (opcodes : List Instruction)
    (levels levels' : List Level) → levels_after c i levels ≡ Some levels'
    → Remains c [] levels' opcodes → Remains c [] levels (i ∷ opcodes)
sound_step c i opcodes [] levels' h r = absurd (cc)
sound_step c (instr.Block t) opcodes (l ∷ levels) levels' h r =
    let same : new_level t t false ∷ l ∷ levels ≡ levels' = cc in
    block_sound c opcodes l levels t (subst (λ z. Remains c [] z opcodes) (sym same) r)
sound_step c (instr.Loop t) opcodes (l ∷ levels) levels' h r =
    let same : new_level None t false ∷ l ∷ levels ≡ levels' = cc in
    loop_sound c opcodes l levels t (subst (λ z. Remains c [] z opcodes) (sym same) r)
sound_step c (instr.If t) opcodes (l ∷ levels) levels' h r =
    if_sound c opcodes l levels t levels' h r
sound_step c instr.Else opcodes (l ∷ levels) levels' h r = else_sound c opcodes l levels levels' h r
sound_step c instr.End opcodes (l ∷ levels) levels' h r = end_sound c opcodes l levels levels' h r
sound_step c i opcodes (l ∷ levels) levels' h r = plain_sound c opcodes l levels levels' i tt h r

-- Where a check passes and leaves nothing open, what was read closes all that was open, typed.
pub sound : (c : Context) (opcodes : List Instruction) (levels : List Level)
    → checked c opcodes levels ≡ Some [] → Remains c [] levels opcodes
sound c [] levels h = let none : levels ≡ [] = cc in subst (λ z. Remains c [] z []) (sym none) refl
sound c (i ∷ opcodes) levels h =
    let o = bind_some (levels_after c i levels) (λ levels'. checked c opcodes levels') [] h in
    sound_step c i opcodes levels o.0 o.1 (sound c opcodes o.0 o.2)
