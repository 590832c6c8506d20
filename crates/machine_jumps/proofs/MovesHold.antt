-- The laws of how one position leads to the next.
use Rattle.std.proofs.Common.{◌≡◌, inl, inr, ⊎_elim, ℕ, zero, suc, ◌+◌, List, [], ◌∷◌, ◌++◌, length}
use Rattle.std.proofs.Common.{drop, Option, Some, refl, sym, ap, ◌∙◌, subst, arith, length-append}
use Rattle.std.specs.Prelude.{slice_get}
use Rattle.wasm_syntax.specs.declared.types.ValueType.{ValueType}
use Rattle.wasm_syntax.specs.declared.instruction.Instruction.{Instruction}
use Rattle.wasm_syntax.specs.declared.instruction.Instruction.TheVariants as instr
use Rattle.wasm_syntax.specs.rules.Sequence.{Sequence, Stop, Plain, InBlock, InLoop, InIf, InIfElse}
use Rattle.wasm_syntax.specs.rules.Sequence.{spelled, IsPlain}
use Rattle.wasm_rules.specs.Typing.{Context, HasInstructionType}
use Rattle.wasm_rules.specs.Shapes.{Shape, LabelShape, ShapeOf}
use Rattle.machine_jumps.specs.Jumps.{HasShape}
use Rattle.machine_jumps.specs.Moves.{opcodes_of, HasOpcode, IsTypedBody, IsFirst, OpcodesAreFirst}
use Rattle.machine_jumps.specs.Moves.{NoOpcodeIsBehind, PlainLeadsOn, BlockLeadsIn, LoopLeadsIn}
use Rattle.machine_jumps.specs.Moves.{IfLeadsIn, IfElseLeadsIn, EndLeadsOut}
use Rattle.machine_jumps.proofs.Runs.{branches_of, runs_here}
use Rattle.machine_jumps.proofs.Places.{Place, IsEnded, where_shape, place_plain, place_block_in}
use Rattle.machine_jumps.proofs.Places.{place_loop_in, place_if_in, place_choice_first}

pub get_dropped : (p : ℕ) (xs ys : List Instruction) (y : Instruction) → drop p xs ≡ y ∷ ys
    → slice_get xs p ≡ Some y
get_dropped zero [] ys y e = absurd (cc)
get_dropped (suc p) [] ys y e = absurd (cc)
get_dropped zero (x ∷ xs) ys y e = cc
get_dropped (suc p) (x ∷ xs) ys y e = get_dropped p xs ys y e

pub typed_plain : (c : Context) (labels : List (List ValueType)) (i : Instruction)
    (p q : List ValueType) → HasInstructionType c labels i p q → IsPlain i
typed_plain c labels (instr.Block t) p q h = absurd h
typed_plain c labels (instr.Loop t) p q h = absurd h
typed_plain c labels (instr.If t) p q h = absurd h
typed_plain c labels instr.Else p q h = absurd h
typed_plain c labels instr.End p q h = absurd h
typed_plain c labels _ p q h = tt

-- the place at a position inside of labels, or after the last end
at_label : (c : Context) (body : Sequence) (p : ℕ) (label : LabelShape) (labels : List LabelShape)
    (ts : List ValueType) (rest : Sequence) → IsTypedBody c body
    → HasShape c body p (label ∷ labels) ts rest → Place c body p (label ∷ labels) ts rest
at_label c body p label labels ts rest typed e =
    ⊎_elim
    (λ (a : Place c body p (label ∷ labels) ts rest). a)
    (λ (h : (p ≡ length (spelled body) + 1) × (record {
      labels = [];
      operands = c.returns;
      rest = Stop;
    } ≡ the_shape)). absurd (let no : [] ≡ label ∷ labels = ap (λ s. s.labels) h.1 in not_both no))
    (where_shape c body p typed e)
  where
    the_shape : Shape
    the_shape = record { labels = label ∷ labels; operands = ts; rest = rest }

    not_both : [] ≡ label ∷ labels → ⊥
    not_both e = cc

-- the place at a position where more than an end remains
at_more : (c : Context) (body : Sequence) (p : ℕ) (labels : List LabelShape) (ts : List ValueType)
    (rest : Sequence) → (Stop ≡ rest → ⊥) → IsTypedBody c body → HasShape c body p labels ts rest
    → Place c body p labels ts rest
at_more c body p labels ts rest more typed e =
    ⊎_elim
    (λ (a : Place c body p labels ts rest). a)
    (λ (h : (p ≡ length (spelled body) + 1) × (record {
      labels = [];
      operands = c.returns;
      rest = Stop;
    } ≡ the_shape)). absurd (more (ap (λ s. s.rest) h.1))) (where_shape c body p typed e)
  where
    the_shape : Shape
    the_shape = record { labels = labels; operands = ts; rest = rest }

not_plain : (i : Instruction) (rest : Sequence) → Stop ≡ Plain i rest → ⊥
not_plain i rest e = cc

not_block : (t : Option ValueType) (inner rest : Sequence) → Stop ≡ InBlock t inner rest → ⊥
not_block t inner rest e = cc

not_loop : (t : Option ValueType) (inner rest : Sequence) → Stop ≡ InLoop t inner rest → ⊥
not_loop t inner rest e = cc

not_if : (t : Option ValueType) (inner rest : Sequence) → Stop ≡ InIf t inner rest → ⊥
not_if t inner rest e = cc

not_choice : (t : Option ValueType) (first second rest : Sequence)
    → Stop ≡ InIfElse t first second rest → ⊥
not_choice t first second rest e = cc

pub opcodes_first : OpcodesAreFirst
opcodes_first c body p (ShapeOf takes target below after which) labels ts rest typed e =
    first rest (at_label c body p _ labels ts rest typed e)
  where
    get_first : (p : ℕ) (i : Instruction) (more tail : List Instruction)
        → drop p (opcodes_of body) ≡ (i ∷ more) ++ tail → HasOpcode body p i
    get_first p i more tail e = get_dropped p (opcodes_of body) (more ++ tail) i e

    first : (rest : Sequence)
        → Place c body p (ShapeOf takes target below after which ∷ labels) ts rest
        → (i : Instruction) × HasOpcode body p i × IsFirst rest i
    first Stop a =
        ⊎_elim
        (λ (h : IsEnded c body labels (a.gives ++ below) after (p + 0) a.tail). (
          instr.End,
          get_dropped p (opcodes_of body) h.next instr.End (a.code ∙ h.is),
          inl refl,
        ))
        (λ (h : (next : List Instruction) × (a.tail ≡ instr.Else ∷ next)). (
          instr.Else,
          get_dropped p (opcodes_of body) h.0 instr.Else (a.code ∙ h.1),
          inr refl,
        ))
        a.closes
    first (Plain i rest) a = (
      i,
      get_dropped p (opcodes_of body) (spelled rest ++ a.tail) i a.code,
      (
        refl,
        typed_plain c (takes
            ∷ branches_of labels) i a.runs.typed.0 a.runs.typed.1 a.runs.typed.4,
      ),
    )
    first (InBlock t inner rest) a = (
      instr.Block t,
      get_first p (instr.Block t) (spelled inner ++ (instr.End ∷ spelled rest)) a.tail a.code,
      refl,
    )
    first (InLoop t inner rest) a = (
      instr.Loop t,
      get_first p (instr.Loop t) (spelled inner ++ (instr.End ∷ spelled rest)) a.tail a.code,
      refl,
    )
    first (InIf t inner rest) a = (
      instr.If t,
      get_first p (instr.If t) (spelled inner ++ (instr.End ∷ spelled rest)) a.tail a.code,
      refl,
    )
    first (InIfElse t inner second rest) a = (
      instr.If t,
      get_first p (instr.If t) (spelled inner
          ++ (instr.Else ∷ (spelled second ++ (instr.End ∷ spelled rest)))) a.tail a.code,
      refl,
    )

pub no_opcode_behind : NoOpcodeIsBehind
no_opcode_behind c body p ts rest typed e =
    ⊎_elim
    (λ (a : Place c body p [] ts rest). absurd a.closes)
    (λ (h : (p ≡ length (spelled body) + 1) × (record {
      labels = [];
      operands = c.returns;
      rest = Stop;
    } ≡ the_shape)).
    let len : length (spelled body ++ (instr.End ∷ [])) ≡ length (spelled body) + 1 =
    simp length-append in
    (h.0 ∙ sym len, sym (ap (λ s. s.rest) h.1), sym (ap (λ s. s.operands) h.1))) (where_shape c body
    p typed e)
  where
    the_shape : Shape
    the_shape = record { labels = []; operands = ts; rest = rest }

pub plain_leads_on : PlainLeadsOn
plain_leads_on c body p labels ts us i rest typed e b =
    let a = place_plain c body p labels ts i rest (at_more c body p labels ts (Plain i rest)
    (not_plain i rest) typed e) b in
    runs_here a.runs

pub block_leads_in : BlockLeadsIn
block_leads_in c body p labels ts t inner rest typed e =
    let a = place_block_in c body p labels ts t inner rest
    (at_more c body p labels ts (InBlock t inner rest) (not_block t inner rest) typed e) in
    runs_here a.runs

pub loop_leads_in : LoopLeadsIn
loop_leads_in c body p labels ts t inner rest typed e =
    let a = place_loop_in c body p labels ts t inner rest
    (at_more c body p labels ts (InLoop t inner rest) (not_loop t inner rest) typed e) in
    runs_here a.runs

pub if_leads_in : IfLeadsIn
if_leads_in c body p labels ts t first rest typed e =
    let here = at_more c body p labels ts (InIf t first rest) (not_if t first rest) typed e in
    let a = place_if_in c body p labels ts t first rest here in
    (here.runs.typed.2, runs_here a.runs)

pub choice_leads_in : IfElseLeadsIn
choice_leads_in c body p labels ts t first second rest typed e =
    let a = place_choice_first c body p labels ts t first second rest
    (at_more c body p labels ts (InIfElse t first second rest)
    (not_choice t first second rest) typed e) in
    runs_here a.runs

pub end_leads_out : EndLeadsOut
end_leads_out c body p takes below target after which outer ts typed e o =
    by_closes (at_label c body p _ outer ts Stop typed e)
  where
    else_or_end : instr.Else ≡ instr.End → ⊥
    else_or_end e = cc

    some_same : (i j : Instruction) → Some i ≡ Some j → i ≡ j
    some_same i j e = cc

    by_closes : Place c body p (ShapeOf takes target below after which ∷ outer) ts Stop
        → HasShape c body (suc p) outer (ts ++ below) after
    by_closes a =
        ⊎_elim
        (λ (h : IsEnded c body outer (a.gives ++ below) after (p + 0) a.tail).
        let same : p + 0 ≡ p = omega arith in
        subst (λ z. HasShape c body (suc z) outer (ts ++ below) after) same
        (subst (λ z. HasShape c body (suc (p + 0)) outer (z ++ below) after)
        (sym a.runs.typed) h.reached))
        (λ (h : (next : List Instruction) × (a.tail ≡ instr.Else ∷ next)).
        absurd (else_or_end
        (some_same _ _ (sym (get_dropped p (opcodes_of body) h.0 instr.Else (a.code ∙ h.1))
        ∙ o))))
        a.closes
