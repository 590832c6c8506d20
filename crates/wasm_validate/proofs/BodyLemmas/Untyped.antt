-- Where the first fault of a body is one of typing, the body has no type even if there were more to
-- name.
use Rattle.std.proofs.Common.{◌≡◌, ◌≢◌, ◌⊎◌, inl, inr, ℕ, zero, suc, ◌^◌, Bool, true, false, List}
use Rattle.std.proofs.Common.{[], ◌∷◌, ◌++◌, length, map, Option, Some, None, refl, sym, ap, ◌∙◌}
use Rattle.std.proofs.Common.{subst, arith, append_assoc}
use Rattle.std.specs.Prelude.{slice_get, nat_le, is_some, ◌&&◌}
use Rattle.std.proofs.lemmas.List.{append-nil, map-append}
use Rattle.std.proofs.lemmas.Nat.{pow_pos}
use Rattle.std.proofs.lemmas.Bool.Decides.{nat_tests}
use Rattle.wasm_syntax.specs.declared.types.ValueType.{ValueType}
use Rattle.wasm_syntax.specs.declared.types.ValueType.TheVariants.{I32}
use Rattle.wasm_syntax.specs.declared.types.FunctionType.{FunctionType}
use Rattle.wasm_syntax.specs.declared.types.GlobalType.{GlobalType}
use Rattle.wasm_syntax.specs.declared.module.Code.{Code}
use Rattle.wasm_syntax.specs.declared.instruction.Instruction.{Instruction}
use Rattle.wasm_syntax.specs.declared.instruction.Instruction.TheVariants as instr
use Rattle.wasm_syntax.specs.rules.Sequence.{Sequence, Stop, Plain, InBlock, InLoop, InIf, InIfElse}
use Rattle.wasm_syntax.specs.rules.Sequence.{spelled, IsPlain, IsNested}
use Rattle.wasm_syntax.specs.laws.ReadingItems.{◌>>=◌, check}
use Rattle.wasm_syntax.proofs.Grammar.Rising.{both as both_true}
use Rattle.wasm_rules.specs.Types.{are_same_types, bytes_in, gives_of, loaded_width}
use Rattle.wasm_rules.specs.Types.{results_of, stored_width, takes_of}
use Rattle.wasm_rules.specs.Typing.{Context, HasType, body_context}
use Rattle.wasm_validate.specs.declared.parts.fault.ValidFault.{ValidFault}
use Rattle.wasm_validate.specs.declared.parts.fault.ValidFault.TheVariants.{Typing, Index, Limits}
use Rattle.wasm_validate.specs.rules.Faults.{WouldHaveBody, extended, labels_behind, unaligned}
use Rattle.wasm_validate.specs.laws.Checking.{Arrow, Fixed, Jump, Level, applied, are_labels}
use Rattle.wasm_validate.specs.laws.Checking.{arrow_of, arrow_of_some, checked, has_memory}
use Rattle.wasm_validate.specs.laws.Checking.{has_table, is_label, is_variable, label_of, labels_of}
use Rattle.wasm_validate.specs.laws.Checking.{level_closed, levels_after, may_end, new_level, only}
use Rattle.wasm_validate.specs.laws.Checking.{operand_taken, result_returned}
use Rattle.wasm_validate.specs.laws.FirstFault.{fault_at, fault_in, fault_of, fault_unless}
use Rattle.wasm_validate.specs.laws.FirstFault.{labels_fault, opcode_fault}
use Rattle.wasm_validate.specs.laws.Remaining.{Ends, Remains}
use Rattle.wasm_validate.proofs.Algorithm.Complete.{complete}
use Rattle.wasm_validate.proofs.BodyLemmas.Steps.{after_plain, onto}
use Rattle.wasm_validate.proofs.BodyLemmas.FaultMeanings.{after_length, here_or_behind}
use Rattle.wasm_validate.proofs.BodyLemmas.FaultMeanings.{opcode_fault_is}
use Rattle.wasm_validate.proofs.BodyLemmas.NoFault.{plain_still}
use Rattle.wasm_validate.proofs.Algorithm.Arrows.{both}

-- ---- what is there is there still, where there is more

got : {X : Type 0} (xs more : List X) (i : ℕ) (x : X) → slice_get xs i ≡ Some x
    → slice_get (xs ++ more) i ≡ Some x
got [] more i x e = absurd (cc)
got (y ∷ xs) more zero x e = e
got (y ∷ xs) more (suc i) x e = got xs more i x e

at_typing : {X : Type 0} (o : Option X) (go : X → ValidFault) → fault_at o go ≡ Typing
    → (x : X) × (o ≡ Some x) × (go x ≡ Typing)
at_typing None go e = absurd (cc)
at_typing (Some x) go e = (x, refl, e)

kept_at : {X : Type 0} (xs more : List X) (i : ℕ) (go : X → ValidFault)
    → fault_at (slice_get xs i) go ≡ Typing → slice_get (xs ++ more) i ≡ slice_get xs i
kept_at xs more i go e = let a = at_typing (slice_get xs i) go e in got xs more i a.0 a.1 ∙ sym a.1

unless_typing : (b : Bool) → fault_unless b Index Typing ≡ Typing → b ≡ true
unless_typing true e = refl
unless_typing false e = absurd (cc)

access_typing : (b aligned : Bool)
    → fault_unless b Index (fault_unless aligned Limits Typing) ≡ Typing
    → (b ≡ true) × (aligned ≡ true)
access_typing true true e = (refl, refl)
access_typing true false e = absurd (cc)
access_typing false aligned e = absurd (cc)

first_kept : {X : Type 0} (xs more : List X) → is_some (slice_get xs 0) ≡ true
    → is_some (slice_get (xs ++ more) 0) ≡ true
first_kept [] more e = absurd (cc)
first_kept (x ∷ xs) more e = refl

same_label : (us ts : List ValueType) (rest : ValidFault)
    → fault_unless (are_same_types us ts) Typing rest ≡ Typing
    → (are_same_types us ts ≡ false) ⊎ ((are_same_types us ts ≡ true) × (rest ≡ Typing))
same_label us ts rest e = by_test (are_same_types us ts) refl e
  where
    by_test : (b : Bool) → are_same_types us ts ≡ b → fault_unless b Typing rest ≡ Typing
        → (are_same_types us ts ≡ false) ⊎ ((are_same_types us ts ≡ true) × (rest ≡ Typing))
    by_test true s e = inr (s, e)
    by_test false s e = inl s

module _ (labels more : List (List ValueType)) (ts : List ValueType) where
  label_by : (all : List (List ValueType)) (us : List ValueType) (l : ℕ)
      → slice_get all l ≡ Some us → is_label all ts l ≡ are_same_types us ts
  label_by all us l e = rw e refl

  labels_kept : (ls : List ℕ) → labels_fault labels ts ls ≡ Typing
      → are_labels (labels ++ more) ts ls ≡ are_labels labels ts ls
  labels_kept [] e = refl
  labels_kept (l ∷ ls) e =
      let a = at_typing (slice_get labels l)
      (λ us. fault_unless (are_same_types us ts) Typing (labels_fault labels ts ls)) e in
      let before = label_by labels a.0 l a.1 in
      let after = label_by (labels ++ more) a.0 l (got labels more l a.0 a.1) in
      rw (before, after) (by_test a.0 (are_labels (labels ++ more) ts ls) (are_labels labels ts ls)
      (same_label a.0 ts (labels_fault labels ts ls) a.2) (λ k. labels_kept ls k))
    where
      by_test : (us : List ValueType) (b d : Bool)
          → (are_same_types us ts ≡ false)
          ⊎ ((are_same_types us ts ≡ true) × (labels_fault labels ts ls ≡ Typing))
          → (labels_fault labels ts ls ≡ Typing → b ≡ d)
          → (are_same_types us ts && b) ≡ (are_same_types us ts && d)
      by_test us b d (inl other) k = rw other refl
      by_test us b d (inr same) k = ap (λ z. are_same_types us ts && z) (k same.1)

-- ---- the arrow of an instruction

aligned_to_one : (n w : ℕ) → nat_le (2 ^ n) w ≡ true → nat_le (2 ^ 0) w ≡ true
aligned_to_one n w e = let one = pow_pos n in grind (arith, nat_tests)

module _ (c more : Context) (labels around : List (List ValueType)) where
  access_kept : (n w : ℕ) (a : Arrow)
      → fault_unless (has_memory c) Index (fault_unless (nat_le (2 ^ n) w) Limits Typing) ≡ Typing
      → only (has_memory (extended c more) && nat_le (2 ^ 0) w) a
      ≡ only (has_memory c && nat_le (2 ^ n) w) a
  access_kept n w a e =
      let t = access_typing (has_memory c) (nat_le (2 ^ n) w) e in
      ap (λ z. only z a) (both (has_memory (extended c more)) (nat_le (2 ^ 0) w)
      (first_kept c.memories more.memories t.0) (aligned_to_one n w t.1)
      ∙ sym (both (has_memory c) (nat_le (2 ^ n) w) t.0 t.1))

  memory_kept : (a : Arrow) → fault_unless (has_memory c) Index Typing ≡ Typing
      → only (has_memory (extended c more)) a ≡ only (has_memory c) a
  memory_kept a e =
      let t = unless_typing (has_memory c) e in ap (λ z. only z a)
      (first_kept c.memories more.memories t ∙ sym t)

  table_kept : (ls : List ℕ) (l : ℕ)
      → fault_at (slice_get labels l) (λ ts. labels_fault labels ts ls) ≡ Typing
      → arrow_of_some (slice_get (labels ++ around) l)
      (λ ts. only (are_labels (labels ++ around) ts ls) (Jump (I32 ∷ ts)))
      ≡ arrow_of_some (slice_get labels l) (λ ts. only (are_labels labels ts ls) (Jump (I32 ∷ ts)))
  table_kept ls l e =
      let a = at_typing (slice_get labels l) (λ ts. labels_fault labels ts ls) e in
      ap (λ z. arrow_of_some z (λ ts. only (are_labels (labels ++ around) ts ls)
      (Jump (I32 ∷ ts)))) (got labels around l a.0 a.1)
      ∙ ap (λ z. only z (Jump (I32 ∷ a.0))) (labels_kept labels around a.0 ls a.2)
      ∙ ap (λ z. arrow_of_some z (λ ts. only (are_labels labels ts ls) (Jump (I32 ∷ ts)))) (sym a.1)

  call_kept : (x : ℕ) → fault_at (slice_get c.types x)
      (λ f. fault_unless (has_table c) Index Typing) ≡ Typing
      → arrow_of (extended c more) (labels ++ around) (instr.CallIndirect x)
      ≡ arrow_of c labels (instr.CallIndirect x)
  call_kept x e =
      let a = at_typing (slice_get c.types x) (λ f. fault_unless (has_table c) Index Typing) e in
      let t = unless_typing (has_table c) a.2 in
      ap (λ z. arrow_of_some z (λ f. only (has_table (extended c more))
      (Fixed (I32 ∷ takes_of f) (gives_of f))))
      (kept_at c.types more.types x (λ f. fault_unless (has_table c) Index Typing) e)
      ∙ ap (λ z. arrow_of_some (slice_get c.types x)
      (λ f. only z (Fixed (I32 ∷ takes_of f) (gives_of f))))
      (first_kept c.tables more.tables t ∙ sym t)

  arrow_kept : (i : Instruction) → fault_of c labels i ≡ Typing
      → arrow_of (extended c more) (labels ++ around) (unaligned i) ≡ arrow_of c labels i
  arrow_kept (instr.Br l) e =
      ap (λ z. arrow_of_some z (λ ts. Jump ts)) (kept_at labels around l (λ _. Typing) e)
  arrow_kept (instr.BrIf l) e =
      ap (λ z. arrow_of_some z (λ ts. Fixed (I32 ∷ ts) ts))
      (kept_at labels around l (λ _. Typing) e)
  arrow_kept (instr.BrTable ls l) e = table_kept ls l e
  arrow_kept (instr.Call x) e =
      ap (λ z. arrow_of_some z (λ f. Fixed (takes_of f) (gives_of f)))
      (kept_at c.functions more.functions x (λ _. Typing) e)
  arrow_kept (instr.CallIndirect x) e = call_kept x e
  arrow_kept (instr.LocalGet x) e =
      ap (λ z. arrow_of_some z (λ t. Fixed [] (t ∷ [])))
      (kept_at c.locals more.locals x (λ _. Typing) e)
  arrow_kept (instr.LocalSet x) e =
      ap (λ z. arrow_of_some z (λ t. Fixed (t ∷ []) []))
      (kept_at c.locals more.locals x (λ _. Typing) e)
  arrow_kept (instr.LocalTee x) e =
      ap (λ z. arrow_of_some z (λ t. Fixed (t ∷ []) (t ∷ [])))
      (kept_at c.locals more.locals x (λ _. Typing) e)
  arrow_kept (instr.GlobalGet x) e =
      ap (λ z. arrow_of_some z (λ (g : GlobalType). Fixed [] (g.value_type ∷ [])))
      (kept_at c.globals more.globals x (λ _. Typing) e)
  arrow_kept (instr.GlobalSet x) e =
      ap (λ z. arrow_of_some z (λ (g : GlobalType). only (is_variable g.mutability)
      (Fixed (g.value_type ∷ []) []))) (kept_at c.globals more.globals x (λ _. Typing) e)
  arrow_kept (instr.Load o a) e = access_kept a.align (bytes_in (loaded_width o)) _ e
  arrow_kept (instr.Store o a) e = access_kept a.align (bytes_in (stored_width o)) _ e
  arrow_kept instr.MemorySize e = memory_kept _ e
  arrow_kept instr.MemoryGrow e = memory_kept _ e
  arrow_kept instr.MemoryCopy e = memory_kept _ e
  arrow_kept instr.MemoryFill e = memory_kept _ e
  arrow_kept i e = refl

-- ---- an instruction that is performed has no other fault

performed_at : {X : Type 0} (o : Option X) (go : X → Arrow) (fault : X → ValidFault) (l l' : Level)
    → ((x : X) → applied (go x) l ≡ Some l' → fault x ≡ Typing)
    → applied (arrow_of_some o go) l ≡ Some l' → fault_at o fault ≡ Typing
performed_at None go fault l l' k e = absurd (cc)
performed_at (Some x) go fault l l' k e = k x e

performed_only : (b : Bool) (a : Arrow) (l l' : Level) → applied (only b a) l ≡ Some l' → b ≡ true
performed_only true a l l' e = refl
performed_only false a l l' e = absurd (cc)

pub labels_are_typed : (labels : List (List ValueType)) (ts : List ValueType) (ls : List ℕ)
    → are_labels labels ts ls ≡ true → labels_fault labels ts ls ≡ Typing
labels_are_typed labels ts [] e = refl
labels_are_typed labels ts (l ∷ ls) e =
    let b = both_true (is_label labels ts l) (are_labels labels ts ls) e in
    at (slice_get labels l) refl b.0 (labels_are_typed labels ts ls b.1)
  where
    at : (o : Option (List ValueType)) → slice_get labels l ≡ o → is_label labels ts l ≡ true
        → labels_fault labels ts ls ≡ Typing
        → fault_at o (λ us. fault_unless (are_same_types us ts) Typing (labels_fault labels ts ls))
        ≡ Typing
    at None s e k = let f : false ≡ true = rw s at e in absurd (cc)
    at (Some us) s e k = let f : are_same_types us ts ≡ true = rw s at e in rw (f, k) refl

unless_true : (b : Bool) → b ≡ true → fault_unless b Index Typing ≡ Typing
unless_true b e = rw e refl

access_true : (a b : Bool) → (a && b) ≡ true
    → fault_unless a Index (fault_unless b Limits Typing) ≡ Typing
access_true a b e = let t = both_true a b e in rw (t.0, t.1) refl

module _ (c : Context) (labels : List (List ValueType)) (l l' : Level) where
  performed : (i : Instruction) → applied (arrow_of c labels i) l ≡ Some l'
      → fault_of c labels i ≡ Typing
  performed (instr.Br x) e =
      performed_at (slice_get labels x) (λ ts. Jump ts) (λ _. Typing) l l' (λ _ _. refl) e
  performed (instr.BrIf x) e =
      performed_at (slice_get labels x) (λ ts. Fixed (I32 ∷ ts) ts) (λ _. Typing) l l'
      (λ _ _. refl) e
  performed (instr.BrTable ls x) e =
      performed_at (slice_get labels x) (λ ts. only (are_labels labels ts ls) (Jump (I32 ∷ ts)))
      (λ ts. labels_fault labels ts ls) l l'
      (λ ts k. labels_are_typed labels ts ls
      (performed_only (are_labels labels ts ls) (Jump (I32 ∷ ts)) l l' k)) e
  performed (instr.Call x) e =
      performed_at (slice_get c.functions x) (λ f. Fixed (takes_of f) (gives_of f))
      (λ _. Typing) l l' (λ _ _. refl) e
  performed (instr.CallIndirect x) e =
      performed_at (slice_get c.types x)
      (λ f. only (has_table c) (Fixed (I32 ∷ takes_of f) (gives_of f)))
      (λ _. fault_unless (has_table c) Index Typing) l l'
      (λ f k. unless_true (has_table c)
      (performed_only (has_table c) (Fixed (I32 ∷ takes_of f) (gives_of f)) l l' k)) e
  performed (instr.LocalGet x) e =
      performed_at (slice_get c.locals x) (λ t. Fixed [] (t ∷ [])) (λ _. Typing) l l'
      (λ _ _. refl) e
  performed (instr.LocalSet x) e =
      performed_at (slice_get c.locals x) (λ t. Fixed (t ∷ []) []) (λ _. Typing) l l'
      (λ _ _. refl) e
  performed (instr.LocalTee x) e =
      performed_at (slice_get c.locals x) (λ t. Fixed (t ∷ []) (t ∷ [])) (λ _. Typing) l l'
      (λ _ _. refl) e
  performed (instr.GlobalGet x) e =
      performed_at (slice_get c.globals x) (λ (g : GlobalType). Fixed [] (g.value_type ∷ []))
      (λ _. Typing) l l' (λ _ _. refl) e
  performed (instr.GlobalSet x) e =
      performed_at (slice_get c.globals x)
      (λ (g : GlobalType). only (is_variable g.mutability) (Fixed (g.value_type ∷ []) []))
      (λ _. Typing) l l' (λ _ _. refl) e
  performed (instr.Load o a) e =
      access_true (has_memory c) (nat_le (2 ^ a.align) (bytes_in (loaded_width o)))
      (performed_only (has_memory c && nat_le (2 ^ a.align) (bytes_in (loaded_width o))) _ l l' e)
  performed (instr.Store o a) e =
      access_true (has_memory c) (nat_le (2 ^ a.align) (bytes_in (stored_width o)))
      (performed_only (has_memory c && nat_le (2 ^ a.align) (bytes_in (stored_width o))) _ l l' e)
  performed instr.MemorySize e = unless_true (has_memory c) (performed_only (has_memory c) _ l l' e)
  performed instr.MemoryGrow e = unless_true (has_memory c) (performed_only (has_memory c) _ l l' e)
  performed instr.MemoryCopy e = unless_true (has_memory c) (performed_only (has_memory c) _ l l' e)
  performed instr.MemoryFill e = unless_true (has_memory c) (performed_only (has_memory c) _ l l' e)
  performed i e = refl

-- ---- a step where there is more

none_behind : {A B D : Type 0} (o : Option A) (f : A → B) (g : A → D)
    → (o >>= λ x. Some (f x)) ≡ None → (o >>= λ x. Some (g x)) ≡ None
none_behind None f g e = refl
none_behind (Some x) f g e = absurd (cc)

some_behind : {A B D : Type 0} (o : Option A) (f : A → B) (g : A → D) (y : B)
    → (o >>= λ x. Some (f x)) ≡ Some y
    → (x : A) × (f x ≡ y) × (o ≡ Some x) × ((o >>= λ x. Some (g x)) ≡ Some (g x))
some_behind None f g y e = absurd (cc)
some_behind (Some x) f g y e = (x, cc, refl, refl)

-- of a test and the closing of a level
none_closed : {A B D : Type 0} (test : Bool) (o : Option A) (y : B) (z : D)
    → (check test >>= λ _. o >>= λ _. Some y) ≡ None
    → (check test >>= λ _. o >>= λ _. Some z) ≡ None
none_closed true o y z e = none_behind o (λ _. y) (λ _. z) e
none_closed false o y z e = refl

some_closed : {A B D : Type 0} (test : Bool) (o : Option A) (x y : B) (z : D)
    → (check test >>= λ _. o >>= λ _. Some x) ≡ Some y
    → (x ≡ y) × ((check test >>= λ _. o >>= λ _. Some z) ≡ Some z)
some_closed true o x y z e = let s = some_behind o (λ _. x) (λ _. z) y e in (s.1, s.3)
some_closed false o x y z e = absurd (cc)

module _ (c more : Context) (outer : List Level) (l : Level) (ls : List Level) where
  labels_around : labels_of (l ∷ (ls ++ outer)) ≡ labels_of (l ∷ ls) ++ labels_of outer
  labels_around = map-append label_of (l ∷ ls) outer

  plain_after : (i : Instruction) → IsPlain i → fault_of c (labels_of (l ∷ ls)) i ≡ Typing
      → levels_after (extended c more) (unaligned i) (l ∷ (ls ++ outer))
      ≡ (applied (arrow_of c (labels_of (l ∷ ls)) i) l >>= onto (ls ++ outer))
  plain_after i plain e =
      after_plain (extended c more) (unaligned i) l (ls ++ outer) (plain_still i plain)
      ∙ ap (λ z. applied (arrow_of (extended c more) z (unaligned i)) l >>= onto
      (ls ++ outer)) labels_around
      ∙ ap (λ z. applied z l >>= onto (ls ++ outer))
      (arrow_kept c more (labels_of (l ∷ ls)) (labels_of outer) i e)

  plain_none : (i : Instruction) → IsPlain i → fault_of c (labels_of (l ∷ ls)) i ≡ Typing
      → levels_after c i (l ∷ ls) ≡ None
      → levels_after (extended c more) (unaligned i) (l ∷ (ls ++ outer)) ≡ None
  plain_none i plain e none =
      plain_after i plain e ∙ none_behind (applied (arrow_of c (labels_of (l ∷ ls)) i) l)
      (λ l'. l' ∷ ls) (λ l'. l' ∷ (ls ++ outer)) (sym (after_plain c i l ls plain) ∙ none)

  plain_some : (i : Instruction) (k : Level) (ks : List Level) → IsPlain i
      → levels_after c i (l ∷ ls) ≡ Some (k ∷ ks)
      → levels_after (extended c more) (unaligned i) (l ∷ (ls ++ outer)) ≡ Some (k ∷ (ks ++ outer))
  plain_some i k ks plain some =
      let a = applied (arrow_of c (labels_of (l ∷ ls)) i) l in
      let s = some_behind a (λ l'. l' ∷ ls) (λ l'. l' ∷ (ls ++ outer)) (k ∷ ks)
      (sym (after_plain c i l ls plain) ∙ some) in
      let same = s.1 in
      let top : s.0 ≡ k = cc in
      let others : ls ≡ ks = cc in
      plain_after i plain (performed c (labels_of (l ∷ ls)) l s.0 i s.2) ∙ s.3
      ∙ ap (λ z. Some (z ∷ (ls ++ outer))) top ∙ ap (λ z. Some (k ∷ (z ++ outer))) others

  step_none : (i : Instruction) → fault_of c (labels_of (l ∷ ls)) i ≡ Typing
      → levels_after c i (l ∷ ls) ≡ None
      → levels_after (extended c more) (unaligned i) (l ∷ (ls ++ outer)) ≡ None
  step_none (instr.Block t) e none = absurd (cc)
  step_none (instr.Loop t) e none = absurd (cc)
  step_none (instr.If t) e none =
      none_behind (operand_taken I32 l) (λ l'. new_level t t true ∷ l' ∷ ls)
      (λ l'. new_level t t true ∷ l' ∷ (ls ++ outer)) none
  step_none instr.Else e none =
      none_closed l.is_first (level_closed l) (new_level l.takes l.gives false ∷ ls)
      (new_level l.takes l.gives false ∷ (ls ++ outer)) none
  step_none instr.End e none =
      none_closed (may_end l.is_first l.gives) (level_closed l) (result_returned l.gives ls)
      (result_returned l.gives (ls ++ outer)) none
  step_none i e none = plain_none i tt e none

  end_some : (k : Level) (ks : List Level) → result_returned l.gives ls ≡ k ∷ ks
      → result_returned l.gives (ls ++ outer) ≡ k ∷ (ks ++ outer)
  end_some k ks e = by_levels ls e
    where
      by_levels : (ls : List Level) → result_returned l.gives ls ≡ k ∷ ks
          → result_returned l.gives (ls ++ outer) ≡ k ∷ (ks ++ outer)
      by_levels [] e = absurd (cc)
      by_levels (j ∷ js) e = ap (λ z. z ++ outer) e

  step_some : (i : Instruction) (k : Level) (ks : List Level)
      → levels_after c i (l ∷ ls) ≡ Some (k ∷ ks)
      → levels_after (extended c more) (unaligned i) (l ∷ (ls ++ outer)) ≡ Some (k ∷ (ks ++ outer))
  step_some (instr.Block t) k ks some =
      let same : new_level t t false ∷ l ∷ ls ≡ k ∷ ks = cc in ap (λ z. Some (z ++ outer)) same
  step_some (instr.Loop t) k ks some =
      let same : new_level None t false ∷ l ∷ ls ≡ k ∷ ks = cc in ap (λ z. Some (z ++ outer)) same
  step_some (instr.If t) k ks some =
      let s = some_behind (operand_taken I32 l) (λ l'. new_level t t true ∷ l' ∷ ls)
      (λ l'. new_level t t true ∷ l' ∷ (ls ++ outer)) (k ∷ ks) some in
      s.3 ∙ ap (λ z. Some (z ++ outer)) s.1
  step_some instr.Else k ks some =
      let s = some_closed l.is_first (level_closed l) (new_level l.takes l.gives false ∷ ls)
      (k ∷ ks) (new_level l.takes l.gives false ∷ (ls ++ outer)) some in
      s.1 ∙ ap (λ z. Some (z ++ outer)) s.0
  step_some instr.End k ks some =
      let s = some_closed (may_end l.is_first l.gives) (level_closed l)
      (result_returned l.gives ls) (k ∷ ks) (result_returned l.gives (ls ++ outer)) some in
      s.1 ∙ ap (λ z. Some z) (end_some k ks s.0)
  step_some i k ks some = plain_some i k ks tt some

-- ---- where a body ends

-- the last of these opcodes, and no earlier one, closes the outermost of so many sequences
abbrev IsClosing : ℕ → List Instruction → Type 0
IsClosing zero [] = Unit {0}
IsClosing zero (i ∷ opcodes) = ⊥
IsClosing (suc n) [] = ⊥
IsClosing (suc n) (i ∷ opcodes) = IsClosing (labels_behind i (suc n)) opcodes

plain_closing : (i : Instruction) (n : ℕ) (opcodes : List Instruction) → IsPlain i
    → IsClosing (suc n) opcodes → IsClosing (suc n) (i ∷ opcodes)
plain_closing (instr.Block t) n opcodes plain h = absurd plain
plain_closing (instr.Loop t) n opcodes plain h = absurd plain
plain_closing (instr.If t) n opcodes plain h = absurd plain
plain_closing instr.Else n opcodes plain h = absurd plain
plain_closing instr.End n opcodes plain h = absurd plain
plain_closing i n opcodes plain h = h

closing : (s : Sequence) (n : ℕ) (rest : List Instruction) → IsNested s → IsClosing (suc n) rest
    → IsClosing (suc n) (spelled s ++ rest)
closing Stop n rest nested h = h
closing (Plain i s) n rest nested h =
    plain_closing i n (spelled s ++ rest) nested.0 (closing s n rest nested.1 h)
closing (InBlock t body s) n rest nested h =
    subst (IsClosing (suc (suc n)))
    (sym (append_assoc (spelled body) (instr.End ∷ spelled s) rest))
    (closing body (suc n) (instr.End ∷ (spelled s ++ rest)) nested.0 (closing s n rest nested.1 h))
closing (InLoop t body s) n rest nested h =
    subst (IsClosing (suc (suc n)))
    (sym (append_assoc (spelled body) (instr.End ∷ spelled s) rest))
    (closing body (suc n) (instr.End ∷ (spelled s ++ rest)) nested.0 (closing s n rest nested.1 h))
closing (InIf t first s) n rest nested h =
    subst (IsClosing (suc (suc n)))
    (sym (append_assoc (spelled first) (instr.End ∷ spelled s) rest))
    (closing first (suc n) (instr.End ∷ (spelled s ++ rest)) nested.0 (closing s n rest nested.1 h))
closing (InIfElse t first second s) n rest nested h =
    let behind = subst (IsClosing (suc (suc n)))
    (sym (append_assoc (spelled second) (instr.End ∷ spelled s) rest))
    (closing second (suc n) (instr.End ∷ (spelled s ++ rest)) nested.1
    (closing s n rest nested.2 h)) in
    subst (IsClosing (suc (suc n)))
    (sym (append_assoc (spelled first)
    (instr.Else ∷ (spelled second ++ (instr.End ∷ spelled s))) rest))
    (closing first (suc n) (instr.Else ∷
    ((spelled second ++ (instr.End ∷ spelled s)) ++ rest)) nested.0 behind)

behind_unaligned : (i : Instruction) (n : ℕ) → labels_behind (unaligned i) n ≡ labels_behind i n
behind_unaligned (instr.Load o a) n = refl
behind_unaligned (instr.Store o a) n = refl
behind_unaligned i n = refl

closing_unaligned : (n : ℕ) (opcodes : List Instruction) → IsClosing n (map unaligned opcodes)
    → IsClosing n opcodes
closing_unaligned zero [] h = tt
closing_unaligned zero (i ∷ opcodes) h = h
closing_unaligned (suc n) [] h = h
closing_unaligned (suc n) (i ∷ opcodes) h =
    closing_unaligned (labels_behind i (suc n)) opcodes
    (subst (λ z. IsClosing z (map unaligned opcodes)) (behind_unaligned i (suc n)) h)

-- ---- a body within other sequences

-- sequences around a body, after jumps
abbrev around_level : Option ValueType → Level
around_level t =
    record { takes = t; gives = None; is_first = false; is_reached = false; operands = [] }

-- what closes them
abbrev closers : List (Option ValueType) → List Instruction
closers [] = []
closers (t ∷ around) = instr.Unreachable ∷ instr.End ∷ closers around

around_remains : (c : Context) (around : List (Option ValueType)) (given : List ValueType)
    → Remains c given (map around_level around) (closers around)
around_remains c [] given = refl
around_remains c (t ∷ around) given = (
  [],
  tt,
  record {
    rest = Plain instr.Unreachable Stop;
    nested = (tt, tt);
    typed = (given ++ [], [], [], sym (append-nil (given ++ [])), tt, refl);
    closes =
        inl
        (record {
          next = closers around;
          is = refl;
          may = refl;
          follows = around_remains c around [];
        });
  },
)

around_labels : (around : List (Option ValueType))
    → labels_of (map around_level around) ≡ map results_of around
around_labels [] = refl
around_labels (t ∷ around) = ap (λ z. results_of t ∷ z) (around_labels around)

module _ (c : Context) (signature : FunctionType) (code : Code) (r : Option ValueType)
    (is : results_of r ≡ gives_of signature) where
  would_pass : (h : WouldHaveBody c signature code)
      → checked (extended (body_context c signature code.locals) h.more)
      (map unaligned code.body ++ closers h.around)
      (new_level r r false ∷ map around_level h.around) ≡ Some []
  would_pass h =
      let bc = extended (body_context c signature code.locals) h.more in
      let levels = map around_level h.around in
      let typed : HasType bc (results_of r ∷ labels_of levels) h.sequence [] (results_of r) =
      subst (λ z. HasType bc (results_of r ∷ z) h.sequence [] (results_of r))
      (sym (around_labels h.around))
      (subst (λ z. HasType bc (z ∷ map results_of h.around) h.sequence [] z) (sym is) h.typed) in
      let ends : Ends bc (results_of r ∷ labels_of levels) false r
      (λ next. Remains bc (results_of r) levels next) []
      (map unaligned code.body ++ closers h.around) =
      record {
        rest = h.sequence;
        nested = h.spells.nested;
        typed = typed;
        closes = inl (record {
          next = closers h.around;
          is =
              ap (λ z. z ++ closers h.around) h.spells.is
              ∙ append_assoc (spelled h.sequence) (instr.End ∷ []) (closers h.around);
          may = refl;
          follows = around_remains bc h.around (results_of r);
        });
      } in
      complete bc (map unaligned code.body ++ closers h.around) (new_level r r false ∷ levels)
      ([], tt, ends)

-- ---- the first fault

no_more : (c : Context) (opcodes : List Instruction) → IsClosing zero opcodes
    → checked c opcodes [] ≡ Some []
no_more c [] h = refl
no_more c (i ∷ opcodes) h = absurd h

none_then : {A B : Type 0} (o : Option A) (f : A → Option B) (y : B) → o ≡ None
    → (o >>= f) ≡ Some y → ⊥
none_then o f y e h = let n : (o >>= f) ≡ None = ap (λ z. z >>= f) e in cc

some_then : {A B : Type 0} (o : Option A) (f : A → Option B) (x : A) → o ≡ Some x → (o >>= f) ≡ f x
some_then o f x e = ap (λ z. z >>= f) e

never_passes : (c more : Context) (around : List (Option ValueType)) (opcodes : List Instruction)
    (levels : List Level) → IsClosing (length levels) opcodes
    → checked (extended c more) (map unaligned opcodes ++ closers around)
    (levels ++ map around_level around) ≡ Some [] → checked c opcodes levels ≢ Some []
    → fault_in c opcodes levels ≡ Typing → ⊥
never_passes c more around [] [] closing passes fails e = fails refl
never_passes c more around [] (l ∷ ls) closing passes fails e = closing
never_passes c more around (i ∷ opcodes) [] closing passes fails e = closing
never_passes c more around (i ∷ opcodes) (l ∷ ls) closing passes fails e =
    here_or_behind (opcode_fault c i (l ∷ ls)) Typing (levels_after c i (l ∷ ls))
    (λ levels'. fault_in c opcodes levels') here
    (λ levels' some is_typing. behind levels' some
    (subst (λ z. IsClosing z opcodes) (sym (after_length c i (l ∷ ls) levels' some)) closing)
    (λ k p d. never_passes c more around opcodes levels' k p d is_typing))
    e
  where
    outer : List Level
    outer = map around_level around

    rest : List Level → Option (List Level)
    rest z = checked (extended c more) (map unaligned opcodes ++ closers around) z

    here : levels_after c i (l ∷ ls) ≡ None → opcode_fault c i (l ∷ ls) ≡ Typing → ⊥
    here none is_typing =
        none_then (levels_after (extended c more) (unaligned i) (l ∷ (ls ++ outer))) rest []
        (step_none c more outer l ls i (sym (opcode_fault_is c i l ls) ∙ is_typing) none) passes

    behind : (levels' : List Level) → levels_after c i (l ∷ ls) ≡ Some levels'
        → IsClosing (length levels') opcodes
        → (IsClosing (length levels') opcodes → rest (levels' ++ outer) ≡ Some []
        → checked c opcodes levels' ≢ Some [] → ⊥) → ⊥
    behind [] some k go =
        fails (some_then (levels_after c i (l ∷ ls)) (λ z. checked c opcodes z) [] some
        ∙ no_more c opcodes k)
    behind (j ∷ js) some k go =
        go k (sym (some_then (levels_after (extended c more) (unaligned i)
        (l ∷ (ls ++ outer))) rest (j ∷ (js ++ outer)) (step_some c more outer l ls i j js some))
        ∙ passes)
        (λ d. fails (some_then (levels_after c i (l ∷ ls)) (λ z. checked c opcodes z) (j ∷ js) some
        ∙ d))

-- A body that doesn't pass, and whose first fault is one of typing, would have no type.
pub untyped : (c : Context) (signature : FunctionType) (code : Code) (r : Option ValueType)
    → results_of r ≡ gives_of signature
    → checked (body_context c signature code.locals) code.body (new_level r r false ∷ []) ≢ Some []
    → fault_in (body_context c signature code.locals) code.body (new_level r r false ∷ []) ≡ Typing
    → WouldHaveBody c signature code → ⊥
untyped c signature code r is fails e h =
    let ending : IsClosing 1 (map unaligned code.body) = subst (IsClosing 1) (sym h.spells.is)
    (closing h.sequence 0 (instr.End ∷ []) h.spells.nested tt) in
    never_passes (body_context c signature code.locals) h.more h.around code.body
    (new_level r r false ∷ []) (closing_unaligned 1 code.body ending)
    (would_pass c signature code r is h) fails e
