-- A body that has its type has defined indices, and its accesses are aligned. It has its type
-- however they are.
use Rattle.std.proofs.Common.{◌≡◌, ℕ, suc, ◌<◌, ◌≤◌, ◌^◌, List, [], ◌∷◌, ◌++◌, length, map, refl}
use Rattle.std.proofs.Common.{sym, ap, ◌∙◌, subst, arith, append_assoc}
use Rattle.std.specs.List.{AllByRecursion}
use Rattle.std.proofs.lemmas.List.{append-nil, map-append}
use Rattle.std.proofs.lemmas.Nat.{pow_pos}
use Rattle.std.proofs.lemmas.Option.{slice_get_within}
use Rattle.wasm_syntax.specs.declared.types.ValueType.{ValueType}
use Rattle.wasm_syntax.specs.declared.types.FunctionType.{FunctionType}
use Rattle.wasm_syntax.specs.declared.module.Code.{Code}
use Rattle.wasm_syntax.specs.declared.instruction.Instruction.{Instruction}
use Rattle.wasm_syntax.specs.declared.instruction.Instruction.TheVariants as instr
use Rattle.wasm_syntax.specs.rules.Sequence.{Sequence, Stop, Plain, InBlock, InLoop, InIf, InIfElse}
use Rattle.wasm_syntax.specs.rules.Sequence.{spelled, IsPlain, IsNested, Spells}
use Rattle.wasm_rules.specs.Types.{gives_of, results_of}
use Rattle.wasm_rules.specs.Typing.{Context, HasInstructionType, HasType, IsLabel, body_context}
use Rattle.wasm_rules.specs.laws.Examples.{bare_context}
use Rattle.wasm_validate.specs.rules.Faults.{HasDefinedIndices, HaveDefinedIndices, IsAligned}
use Rattle.wasm_validate.specs.rules.Faults.{WouldHaveBody, extended, labels_behind, unaligned}

-- ---- indices

label_within : (labels : List (List ValueType)) (ts : List ValueType) (l : ℕ) → IsLabel labels ts l
    → l < length labels
label_within labels ts l e = slice_get_within labels l ts e

labels_within : (labels : List (List ValueType)) (ts : List ValueType) (ls : List ℕ)
    → AllByRecursion (IsLabel labels ts) ls → AllByRecursion (λ x. x < length labels) ls
labels_within labels ts [] h = tt
labels_within labels ts (l ∷ ls) h = (label_within labels ts l h.0, labels_within labels ts ls h.1)

typed_defined : (c : Context) (labels : List (List ValueType)) (i : Instruction)
    (p q : List ValueType)
    → HasInstructionType c labels i p q → HasDefinedIndices c (length labels) i
typed_defined c labels (instr.Br l) p q h = label_within labels h.0 l h.2
typed_defined c labels (instr.BrIf l) p q h = label_within labels h.0 l h.1
typed_defined c labels (instr.BrTable ls l) p q h =
    (label_within labels h.0 l h.3, labels_within labels h.0 ls h.2)
typed_defined c labels (instr.Call x) p q h = slice_get_within c.functions x h.0 h.1
typed_defined c labels (instr.CallIndirect x) p q h =
    (slice_get_within c.types x h.0 h.1, slice_get_within c.tables 0 h.2.0 h.2.1)
typed_defined c labels (instr.LocalGet x) p q h = slice_get_within c.locals x h.0 h.1
typed_defined c labels (instr.LocalSet x) p q h = slice_get_within c.locals x h.0 h.1
typed_defined c labels (instr.LocalTee x) p q h = slice_get_within c.locals x h.0 h.1
typed_defined c labels (instr.GlobalGet x) p q h = slice_get_within c.globals x h.0 h.1
typed_defined c labels (instr.GlobalSet x) p q h = slice_get_within c.globals x h.0 h.1
typed_defined c labels (instr.Load o a) p q h = slice_get_within c.memories 0 h.0.0 h.0.1
typed_defined c labels (instr.Store o a) p q h = slice_get_within c.memories 0 h.0.0 h.0.1
typed_defined c labels instr.MemorySize p q h = slice_get_within c.memories 0 h.0.0 h.0.1
typed_defined c labels instr.MemoryGrow p q h = slice_get_within c.memories 0 h.0.0 h.0.1
typed_defined c labels instr.MemoryCopy p q h = slice_get_within c.memories 0 h.0.0 h.0.1
typed_defined c labels instr.MemoryFill p q h = slice_get_within c.memories 0 h.0.0 h.0.1
typed_defined c labels i p q h = tt

plain_behind : (i : Instruction) (n : ℕ) → IsPlain i → labels_behind i n ≡ n
plain_behind (instr.Block t) n h = absurd h
plain_behind (instr.Loop t) n h = absurd h
plain_behind (instr.If t) n h = absurd h
plain_behind instr.Else n h = absurd h
plain_behind instr.End n h = absurd h
plain_behind i n h = refl

module _ (c : Context) where
  abbrev Defined : ℕ → List Instruction → Type 0
  Defined n opcodes = HaveDefinedIndices c n opcodes

  -- an inner sequence, a closing opcode and what follows
  spread : (n : ℕ) (inner behind rest : List Instruction) (i : Instruction)
      → Defined n (inner ++ (i ∷ (behind ++ rest))) → Defined n ((inner ++ (i ∷ behind)) ++ rest)
  spread n inner behind rest i h = subst (Defined n) (sym (append_assoc inner (i ∷ behind) rest)) h

  defined : (s : Sequence) (labels : List (List ValueType)) (a b : List ValueType)
      (rest : List Instruction) → IsNested s → HasType c labels s a b → Defined (length labels) rest
      → Defined (length labels) (spelled s ++ rest)
  defined Stop labels a b rest nested h k = k
  defined (Plain i s) labels a b rest nested h k = (
    typed_defined c labels i h.0 h.1 h.4,
    subst (λ n. Defined n (spelled s ++ rest)) (sym (plain_behind i (length labels) nested.0))
        (defined s labels (h.1 ++ h.2) b rest nested.1 h.5 k),
  )
  defined (InBlock t body s) labels a b rest nested h k = (
    tt,
    spread (suc (length labels)) (spelled body) (spelled s) rest instr.End
        (defined body (results_of t ∷ labels) [] (results_of t)
        (instr.End ∷ (spelled s ++ rest)) nested.0 h.0
        (tt, defined s labels (results_of t ++ a) b rest nested.1 h.1 k)),
  )
  defined (InLoop t body s) labels a b rest nested h k = (
    tt,
    spread (suc (length labels)) (spelled body) (spelled s) rest instr.End
        (defined body ([] ∷ labels) [] (results_of t)
        (instr.End ∷ (spelled s ++ rest)) nested.0 h.0
        (tt, defined s labels (results_of t ++ a) b rest nested.1 h.1 k)),
  )
  defined (InIf t first s) labels a b rest nested h k = (
    tt,
    spread (suc (length labels)) (spelled first) (spelled s) rest instr.End
        (defined first ([] ∷ labels) [] [] (instr.End ∷ (spelled s ++ rest)) nested.0 h.3
        (tt, defined s labels h.0 b rest nested.1 h.4 k)),
  )
  defined (InIfElse t first second s) labels a b rest nested h k = (
    tt,
    spread (suc (length labels)) (spelled first)
        (spelled second ++ (instr.End ∷ spelled s)) rest instr.Else
        (defined first (results_of t ∷ labels) [] (results_of t)
        (instr.Else ∷ ((spelled second ++ (instr.End ∷ spelled s)) ++ rest)) nested.0 h.2 (
          tt,
          spread (suc (length labels)) (spelled second) (spelled s) rest instr.End
              (defined second (results_of t ∷ labels) [] (results_of t)
              (instr.End ∷ (spelled s ++ rest)) nested.1 h.3
              (tt, defined s labels (results_of t ++ h.0) b rest nested.2 h.4 k)),
        )),
  )

-- ---- alignments

aligned_typed : (c : Context) (labels : List (List ValueType)) (i : Instruction)
    (p q : List ValueType)
    → HasInstructionType c labels i p q → IsAligned i
aligned_typed c labels (instr.Load o a) p q h = h.1
aligned_typed c labels (instr.Store o a) p q h = h.1
aligned_typed c labels i p q h = tt

one_is_least : (n w : ℕ) → 2 ^ n ≤ w → 2 ^ 0 ≤ w
one_is_least n w h = let one = pow_pos n in omega (arith, h, one)

unaligned_typed : (c : Context) (labels : List (List ValueType)) (i : Instruction)
    (p q : List ValueType) → HasInstructionType c labels i p q
    → HasInstructionType c labels (unaligned i) p q
unaligned_typed c labels (instr.Load o a) p q h = (h.0, one_is_least a.align _ h.1, h.2, h.3)
unaligned_typed c labels (instr.Store o a) p q h = (h.0, one_is_least a.align _ h.1, h.2, h.3)
unaligned_typed c labels i p q h = h

pub plain_still : (i : Instruction) → IsPlain i → IsPlain (unaligned i)
plain_still (instr.Load o a) h = tt
plain_still (instr.Store o a) h = tt
plain_still i h = h

-- the same sequence, its accesses aligned to one byte
abbrev all_unaligned : Sequence → Sequence
all_unaligned Stop = Stop
all_unaligned (Plain i s) = Plain (unaligned i) (all_unaligned s)
all_unaligned (InBlock t body s) = InBlock t (all_unaligned body) (all_unaligned s)
all_unaligned (InLoop t body s) = InLoop t (all_unaligned body) (all_unaligned s)
all_unaligned (InIf t first s) = InIf t (all_unaligned first) (all_unaligned s)
all_unaligned (InIfElse t first second s) =
    InIfElse t (all_unaligned first) (all_unaligned second) (all_unaligned s)

nested_unaligned : (s : Sequence) → IsNested s → IsNested (all_unaligned s)
nested_unaligned Stop h = tt
nested_unaligned (Plain i s) h = (plain_still i h.0, nested_unaligned s h.1)
nested_unaligned (InBlock t body s) h = (nested_unaligned body h.0, nested_unaligned s h.1)
nested_unaligned (InLoop t body s) h = (nested_unaligned body h.0, nested_unaligned s h.1)
nested_unaligned (InIf t first s) h = (nested_unaligned first h.0, nested_unaligned s h.1)
nested_unaligned (InIfElse t first second s) h =
    (nested_unaligned first h.0, nested_unaligned second h.1, nested_unaligned s h.2)

around : (i j : Instruction) (front behind : List Instruction) (front' behind' : List Instruction)
    → map unaligned front ≡ front' → map unaligned behind ≡ behind' → unaligned i ≡ i
    → unaligned j ≡ j
    → map unaligned (i ∷ (front ++ (j ∷ behind))) ≡ i ∷ (front' ++ (j ∷ behind'))
around i j front behind front' behind' e k a b =
    ap (λ z. z ∷ map unaligned (front ++ (j ∷ behind))) a
    ∙ ap (λ z. i ∷ z) (map-append unaligned front (j ∷ behind)
    ∙ ap (λ z. z ++ (unaligned j ∷ map unaligned behind)) e
    ∙ ap (λ z. front' ++ (z ∷ map unaligned behind)) b
    ∙ ap (λ z. front' ++ (j ∷ z)) k)

spelled_unaligned : (s : Sequence) → map unaligned (spelled s) ≡ spelled (all_unaligned s)
spelled_unaligned Stop = refl
spelled_unaligned (Plain i s) = ap (λ z. unaligned i ∷ z) (spelled_unaligned s)
spelled_unaligned (InBlock t body s) =
    around (instr.Block t) instr.End (spelled body) (spelled s) (spelled (all_unaligned body))
    (spelled (all_unaligned s)) (spelled_unaligned body) (spelled_unaligned s) refl refl
spelled_unaligned (InLoop t body s) =
    around (instr.Loop t) instr.End (spelled body) (spelled s) (spelled (all_unaligned body))
    (spelled (all_unaligned s)) (spelled_unaligned body) (spelled_unaligned s) refl refl
spelled_unaligned (InIf t first s) =
    around (instr.If t) instr.End (spelled first) (spelled s) (spelled (all_unaligned first))
    (spelled (all_unaligned s)) (spelled_unaligned first) (spelled_unaligned s) refl refl
spelled_unaligned (InIfElse t first second s) =
    around (instr.If t) instr.Else (spelled first) (spelled second ++ (instr.End ∷ spelled s))
    (spelled (all_unaligned first))
    (spelled (all_unaligned second) ++ (instr.End ∷ spelled (all_unaligned s)))
    (spelled_unaligned first)
    (map-append unaligned (spelled second) (instr.End ∷ spelled s)
    ∙ ap (λ z. z ++ (instr.End ∷ map unaligned (spelled s))) (spelled_unaligned second)
    ∙ ap (λ z. spelled (all_unaligned second) ++ (instr.End ∷ z)) (spelled_unaligned s))
    refl refl

all_append : (xs ys : List Instruction) → AllByRecursion IsAligned xs → AllByRecursion IsAligned ys
    → AllByRecursion IsAligned (xs ++ ys)
all_append [] ys h k = k
all_append (x ∷ xs) ys h k = (h.0, all_append xs ys h.1 k)

module _ (c : Context) where
  typed_unaligned : (s : Sequence) (labels : List (List ValueType)) (a b : List ValueType)
      → HasType c labels s a b → HasType c labels (all_unaligned s) a b
  typed_unaligned Stop labels a b h = h
  typed_unaligned (Plain i s) labels a b h = (
    h.0,
    h.1,
    h.2,
    h.3,
    unaligned_typed c labels i h.0 h.1 h.4,
    typed_unaligned s labels
        (h.1 ++ h.2) b h.5,
  )
  typed_unaligned (InBlock t body s) labels a b h = (
    typed_unaligned body (results_of t ∷ labels) [] (results_of t) h.0,
    typed_unaligned s labels
        (results_of t ++ a) b h.1,
  )
  typed_unaligned (InLoop t body s) labels a b h = (
    typed_unaligned body ([] ∷ labels) [] (results_of t) h.0,
    typed_unaligned s labels
        (results_of t ++ a) b h.1,
  )
  typed_unaligned (InIf t first s) labels a b h = (
    h.0,
    h.1,
    h.2,
    typed_unaligned first
        ([] ∷ labels) [] [] h.3,
    typed_unaligned s labels h.0 b h.4,
  )
  typed_unaligned (InIfElse t first second s) labels a b h = (
    h.0,
    h.1,
    typed_unaligned first (results_of t ∷ labels) []
        (results_of t) h.2,
    typed_unaligned second (results_of t ∷ labels) []
        (results_of t) h.3,
    typed_unaligned s labels (results_of t ++ h.0) b h.4,
  )

  aligned : (s : Sequence) (labels : List (List ValueType)) (a b : List ValueType)
      → HasType c labels s a b → AllByRecursion IsAligned (spelled s)
  aligned Stop labels a b h = tt
  aligned (Plain i s) labels a b h =
      (aligned_typed c labels i h.0 h.1 h.4, aligned s labels (h.1 ++ h.2) b h.5)
  aligned (InBlock t body s) labels a b h = (
    tt,
    all_append (spelled body) (instr.End ∷ spelled s)
        (aligned body (results_of t ∷ labels) [] (results_of t) h.0)
        (tt, aligned s labels (results_of t ++ a) b h.1),
  )
  aligned (InLoop t body s) labels a b h = (
    tt,
    all_append (spelled body) (instr.End ∷ spelled s)
        (aligned body ([] ∷ labels) [] (results_of t) h.0)
        (tt, aligned s labels (results_of t ++ a) b h.1),
  )
  aligned (InIf t first s) labels a b h = (
    tt,
    all_append (spelled first) (instr.End ∷ spelled s)
        (aligned first ([] ∷ labels) [] [] h.3) (tt, aligned s labels h.0 b h.4),
  )
  aligned (InIfElse t first second s) labels a b h = (
    tt,
    all_append (spelled first) (instr.Else ∷ (spelled second ++ (instr.End ∷ spelled s)))
        (aligned first (results_of t ∷ labels) [] (results_of t) h.2) (
          tt,
          all_append (spelled second) (instr.End ∷ spelled s)
              (aligned second (results_of t ∷ labels) [] (results_of t) h.3)
              (tt, aligned s labels (results_of t ++ h.0) b h.4),
        ),
  )

-- ---- bodies

same_context : (c : Context) → extended c bare_context ≡ c
same_context c =
    rw (
      append-nil c.types,
      append-nil c.functions,
      append-nil c.tables,
      append-nil c.memories,
      append-nil c.globals,
      append-nil c.locals,
    ) refl

module _ (c : Context) (signature : FunctionType) (code : Code) (s : Sequence)
    (spells : Spells code.body s) (typed : HasType (body_context c signature code.locals)
    (gives_of signature ∷ []) s [] (gives_of signature)) where
  pub would_have_body : WouldHaveBody c signature code
  would_have_body = record {
    more = bare_context;
    around = [];
    sequence = all_unaligned s;
    spells = record {
      is =
          ap (λ z. map unaligned z) spells.is ∙ map-append unaligned (spelled s) (instr.End ∷ [])
          ∙ ap (λ z. z ++ (instr.End ∷ [])) (spelled_unaligned s);
      nested = nested_unaligned s spells.nested;
    };
    typed =
        let P : Context → Type 0 = λ z. HasType z (gives_of signature ∷ []) (all_unaligned s) []
        (gives_of signature) in
        subst P (sym (same_context (body_context c signature code.locals)))
        (typed_unaligned (body_context c signature code.locals) s (gives_of signature ∷ []) []
        (gives_of signature) typed);
  }

  pub indices_defined : HaveDefinedIndices (body_context c signature code.locals) 1 code.body
  indices_defined =
      subst (HaveDefinedIndices (body_context c signature code.locals) 1) (sym spells.is)
      (defined (body_context c signature code.locals) s (gives_of signature
      ∷ []) [] (gives_of signature) (instr.End ∷ []) spells.nested typed (tt, tt))

  pub accesses_aligned : AllByRecursion IsAligned code.body
  accesses_aligned =
      subst (AllByRecursion IsAligned) (sym spells.is)
      (all_append (spelled s) (instr.End ∷ [])
      (aligned (body_context c signature code.locals) s (gives_of signature
      ∷ []) [] (gives_of signature) typed) (tt, tt))
