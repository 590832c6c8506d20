-- What the sort of the first fault in a body says: an index names nothing, or an access is
-- misaligned.
use Rattle.std.proofs.Common.{◌≡◌, ◌≢◌, ℕ, suc, ◌<◌, ◌≤◌, ◌^◌, Bool, true, false, List, [], ◌∷◌}
use Rattle.std.proofs.Common.{length, Option, Some, None, refl, sym, ap, ◌∙◌, subst, arith}
use Rattle.std.specs.Prelude.{slice_get, nat_le, is_some}
use Rattle.std.specs.List.{AllByRecursion}
use Rattle.std.proofs.lemmas.List.{length-map}
use Rattle.std.proofs.lemmas.Bool.Decides.{nat_tests}
use Rattle.wasm_syntax.specs.declared.types.ValueType.{ValueType}
use Rattle.wasm_syntax.specs.declared.types.ValueType.TheVariants.{I32}
use Rattle.wasm_syntax.specs.declared.instruction.Instruction.{Instruction}
use Rattle.wasm_syntax.specs.declared.instruction.Instruction.TheVariants as instr
use Rattle.wasm_syntax.specs.laws.ReadingItems.{◌>>=◌, check}
use Rattle.wasm_syntax.proofs.Grammar.Exact.{bind_some}
use Rattle.wasm_rules.specs.Types.{are_same_types, bytes_in, loaded_width, stored_width}
use Rattle.wasm_rules.specs.Typing.{Context}
use Rattle.wasm_validate.specs.declared.parts.fault.ValidFault.{ValidFault}
use Rattle.wasm_validate.specs.declared.parts.fault.ValidFault.TheVariants.{Typing, Index, Limits}
use Rattle.wasm_validate.specs.rules.Faults.{IsAligned, HaveDefinedIndices, HasDefinedIndices}
use Rattle.wasm_validate.specs.rules.Faults.{labels_behind}
use Rattle.wasm_validate.specs.laws.Checking.{Level, applied, arrow_of, checked, has_memory}
use Rattle.wasm_validate.specs.laws.Checking.{has_table, label_of, labels_of, level_closed}
use Rattle.wasm_validate.specs.laws.Checking.{levels_after, may_end, new_level, operand_taken}
use Rattle.wasm_validate.specs.laws.Checking.{result_returned}
use Rattle.wasm_validate.specs.laws.FirstFault.{fault_at, fault_from, fault_in, fault_of}
use Rattle.wasm_validate.specs.laws.FirstFault.{fault_unless, labels_fault, opcode_fault}
use Rattle.wasm_validate.proofs.PartLemmas.Lookups.{none_within}

-- ---- how many sequences are open

returned_length : (t : Option ValueType) (levels : List Level)
    → length (result_returned t levels) ≡ length levels
returned_length t [] = refl
returned_length t (l ∷ levels) = refl

-- one open sequence in the place of another
after_plain_length : (o : Option Level) (levels levels' : List Level)
    → (o >>= λ l'. Some (l' ∷ levels)) ≡ Some levels' → length levels' ≡ suc (length levels)
after_plain_length o levels levels' h =
    let b = bind_some o (λ l'. Some (l' ∷ levels)) levels' h in
    let same : b.0 ∷ levels ≡ levels' = let s = b.2 in cc in
    ap length (sym same)

pub after_length : (c : Context) (i : Instruction) (levels levels' : List Level)
    → levels_after c i levels ≡ Some levels' → length levels' ≡ labels_behind i (length levels)
after_length c i [] levels' h = absurd (cc)
after_length c (instr.Block t) (l ∷ levels) levels' h =
    let same : new_level t t false ∷ l ∷ levels ≡ levels' = cc in ap length (sym same)
after_length c (instr.Loop t) (l ∷ levels) levels' h =
    let same : new_level None t false ∷ l ∷ levels ≡ levels' = cc in ap length (sym same)
after_length c (instr.If t) (l ∷ levels) levels' h =
    let o = bind_some (operand_taken I32 l)
    (λ l'. Some (new_level t t true ∷ l' ∷ levels)) levels' h in
    let same : new_level t t true ∷ o.0 ∷ levels ≡ levels' = let s = o.2 in cc in
    ap length (sym same)
after_length c instr.Else (l ∷ levels) levels' h =
    let m = bind_some (check l.is_first)
    (λ _. level_closed l >>= λ _. Some (new_level l.takes l.gives false ∷ levels)) levels' h in
    let d = bind_some (level_closed l)
    (λ _. Some (new_level l.takes l.gives false ∷ levels)) levels' m.2 in
    let same : new_level l.takes l.gives false ∷ levels ≡ levels' = let s = d.2 in cc in
    ap length (sym same)
after_length c instr.End (l ∷ levels) levels' h =
    let m = bind_some (check (may_end l.is_first l.gives))
    (λ _. level_closed l >>= λ _. Some (result_returned l.gives levels)) levels' h in
    let d = bind_some (level_closed l) (λ _. Some (result_returned l.gives levels)) levels' m.2 in
    let same : result_returned l.gives levels ≡ levels' = let s = d.2 in cc in
    ap length (sym same) ∙ returned_length l.gives levels
after_length c i (l ∷ levels) levels' h =
    after_plain_length (applied (arrow_of c (labels_of (l ∷ levels)) i) l) levels levels' h

-- ---- where an instruction is

-- where a sequence is open, each opcode's fault is by its look-ups
pub opcode_fault_is : (c : Context) (i : Instruction) (l : Level) (levels : List Level)
    → opcode_fault c i (l ∷ levels) ≡ fault_of c (labels_of (l ∷ levels)) i
opcode_fault_is c (instr.Block t) l levels = refl
opcode_fault_is c _ l levels = refl

-- the same of all open sequences
pub fault_is : (c : Context) (i : Instruction) (levels : List Level) → levels ≢ []
    → fault_of c (labels_of levels) i ≡ opcode_fault c i levels
fault_is c i [] some = absurd (some refl)
fault_is c i (l ∷ levels) some = sym (opcode_fault_is c i l levels)

opcode_fault_none : (c : Context) (i : Instruction) → opcode_fault c i [] ≡ Typing
opcode_fault_none c (instr.Block t) = refl
opcode_fault_none c _ = refl

-- ---- indices

at_index : {X : Type 0} (o : Option X) → fault_at o (λ _. Typing) ≡ Index → o ≡ None
at_index None e = refl
at_index (Some x) e = absurd (cc)

unless_index : (b : Bool) → fault_unless b Index Typing ≡ Index → b ≡ false
unless_index true e = absurd (cc)
unless_index false e = refl

access_index : (b aligned : Bool)
    → fault_unless b Index (fault_unless aligned Limits Typing) ≡ Index → b ≡ false
access_index true true e = absurd (cc)
access_index true false e = absurd (cc)
access_index false aligned e = refl

nothing : {X : Type 0} (o : Option X) → is_some o ≡ false → o ≡ None
nothing None e = refl
nothing (Some x) e = absurd (cc)

labels_step : (o : Option (List ValueType)) (test : List ValueType → Bool) (rest fault : ValidFault)
    → (o ≡ None → Index ≡ fault → ⊥) → (Typing ≡ fault → ⊥) → (rest ≡ fault → ⊥)
    → fault_at o (λ us. fault_unless (test us) Typing rest) ≡ fault → ⊥
labels_step None test rest fault none other behind e = none refl e
labels_step (Some us) test rest fault none other behind e = by_test (test us) e
  where
    by_test : (b : Bool) → fault_unless b Typing rest ≡ fault → ⊥
    by_test true e = behind e
    by_test false e = other e

labels_index : (labels : List (List ValueType)) (ts : List ValueType) (ls : List ℕ)
    → labels_fault labels ts ls ≡ Index → AllByRecursion (λ x. x < length labels) ls → ⊥
labels_index labels ts [] e h = cc
labels_index labels ts (l ∷ ls) e h =
    labels_step (slice_get labels l) (λ us. are_same_types us ts) (labels_fault labels ts ls) Index
    (λ s k. none_within labels l s h.0) (λ k. cc) (λ k. labels_index labels ts ls k h.1) e

table_index : (labels : List (List ValueType)) (ls : List ℕ) (l : ℕ) (o : Option (List ValueType))
    → slice_get labels l ≡ o → fault_at o (λ ts. labels_fault labels ts ls) ≡ Index
    → l < length labels → AllByRecursion (λ x. x < length labels) ls → ⊥
table_index labels ls l None s e h k = none_within labels l s h
table_index labels ls l (Some ts) s e h k = labels_index labels ts ls e k

-- where an instruction's fault is an index, one of its indices names nothing
index_fault : (c : Context) (labels : List (List ValueType)) (i : Instruction)
    → fault_of c labels i ≡ Index → HasDefinedIndices c (length labels) i → ⊥
index_fault c labels (instr.Br l) e h = none_within labels l (at_index (slice_get labels l) e) h
index_fault c labels (instr.BrIf l) e h = none_within labels l (at_index (slice_get labels l) e) h
index_fault c labels (instr.BrTable ls l) e h =
    table_index labels ls l (slice_get labels l) refl e h.0 h.1
index_fault c labels (instr.Call x) e h =
    none_within c.functions x (at_index (slice_get c.functions x) e) h
index_fault c labels (instr.CallIndirect x) e h = at (slice_get c.types x) refl e
  where
    at : (o : Option _) → slice_get c.types x ≡ o
        → fault_at o (λ f. fault_unless (has_table c) Index Typing) ≡ Index → ⊥
    at None s e = none_within c.types x s h.0
    at (Some f) s e =
        none_within c.tables 0 (nothing (slice_get c.tables 0) (unless_index (has_table c) e)) h.1
index_fault c labels (instr.LocalGet x) e h =
    none_within c.locals x (at_index (slice_get c.locals x) e) h
index_fault c labels (instr.LocalSet x) e h =
    none_within c.locals x (at_index (slice_get c.locals x) e) h
index_fault c labels (instr.LocalTee x) e h =
    none_within c.locals x (at_index (slice_get c.locals x) e) h
index_fault c labels (instr.GlobalGet x) e h =
    none_within c.globals x (at_index (slice_get c.globals x) e) h
index_fault c labels (instr.GlobalSet x) e h =
    none_within c.globals x (at_index (slice_get c.globals x) e) h
index_fault c labels (instr.Load o a) e h =
    none_within c.memories 0 (nothing (slice_get c.memories 0)
    (access_index (has_memory c) (nat_le (2 ^ a.align) (bytes_in (loaded_width o))) e)) h
index_fault c labels (instr.Store o a) e h =
    none_within c.memories 0 (nothing (slice_get c.memories 0)
    (access_index (has_memory c) (nat_le (2 ^ a.align) (bytes_in (stored_width o))) e)) h
index_fault c labels instr.MemorySize e h =
    none_within c.memories 0 (nothing (slice_get c.memories 0) (unless_index (has_memory c) e)) h
index_fault c labels instr.MemoryGrow e h =
    none_within c.memories 0 (nothing (slice_get c.memories 0) (unless_index (has_memory c) e)) h
index_fault c labels instr.MemoryCopy e h =
    none_within c.memories 0 (nothing (slice_get c.memories 0) (unless_index (has_memory c) e)) h
index_fault c labels instr.MemoryFill e h =
    none_within c.memories 0 (nothing (slice_get c.memories 0) (unless_index (has_memory c) e)) h
index_fault c labels i e h = cc

opcode_index : (c : Context) (i : Instruction) (levels : List Level)
    → opcode_fault c i levels ≡ Index → HasDefinedIndices c (length levels) i → ⊥
opcode_index c i [] e h = let no = opcode_fault_none c i in cc
opcode_index c i (l ∷ levels) e h =
    index_fault c (labels_of (l ∷ levels)) i (sym (opcode_fault_is c i l levels) ∙ e)
    (subst (λ n. HasDefinedIndices c n i) (sym (length-map (l ∷ levels) label_of)) h)

-- ---- alignments

at_limits : {X : Type 0} (o : Option X) → fault_at o (λ _. Typing) ≡ Limits → ⊥
at_limits None e = cc
at_limits (Some x) e = cc

unless_limits : (b : Bool) → fault_unless b Index Typing ≡ Limits → ⊥
unless_limits true e = cc
unless_limits false e = cc

access_limits : (b aligned : Bool)
    → fault_unless b Index (fault_unless aligned Limits Typing) ≡ Limits → aligned ≡ false
access_limits true true e = absurd (cc)
access_limits true false e = refl
access_limits false aligned e = absurd (cc)

labels_limits : (labels : List (List ValueType)) (ts : List ValueType) (ls : List ℕ)
    → labels_fault labels ts ls ≡ Limits → ⊥
labels_limits labels ts [] e = cc
labels_limits labels ts (l ∷ ls) e =
    labels_step (slice_get labels l) (λ us. are_same_types us ts)
    (labels_fault labels ts ls) Limits (λ s k. cc) (λ k. cc) (λ k. labels_limits labels ts ls k) e

table_limits : (labels : List (List ValueType)) (ls : List ℕ) (o : Option (List ValueType))
    → fault_at o (λ ts. labels_fault labels ts ls) ≡ Limits → ⊥
table_limits labels ls None e = cc
table_limits labels ls (Some ts) e = labels_limits labels ts ls e

call_limits : {X : Type 0} (o : Option X) (b : Bool)
    → fault_at o (λ _. fault_unless b Index Typing) ≡ Limits → ⊥
call_limits None b e = cc
call_limits (Some x) b e = unless_limits b e

above : (m n : ℕ) → nat_le m n ≡ false → m ≤ n → ⊥
above m n e h = grind (arith, nat_tests)

-- where an instruction's fault is a limit, its access is misaligned
limit_fault : (c : Context) (labels : List (List ValueType)) (i : Instruction)
    → fault_of c labels i ≡ Limits → IsAligned i → ⊥
limit_fault c labels (instr.Br l) e h = at_limits (slice_get labels l) e
limit_fault c labels (instr.BrIf l) e h = at_limits (slice_get labels l) e
limit_fault c labels (instr.BrTable ls l) e h = table_limits labels ls (slice_get labels l) e
limit_fault c labels (instr.Call x) e h = at_limits (slice_get c.functions x) e
limit_fault c labels (instr.CallIndirect x) e h = call_limits (slice_get c.types x) (has_table c) e
limit_fault c labels (instr.LocalGet x) e h = at_limits (slice_get c.locals x) e
limit_fault c labels (instr.LocalSet x) e h = at_limits (slice_get c.locals x) e
limit_fault c labels (instr.LocalTee x) e h = at_limits (slice_get c.locals x) e
limit_fault c labels (instr.GlobalGet x) e h = at_limits (slice_get c.globals x) e
limit_fault c labels (instr.GlobalSet x) e h = at_limits (slice_get c.globals x) e
limit_fault c labels (instr.Load o a) e h =
    above (2 ^ a.align) (bytes_in (loaded_width o))
    (access_limits (has_memory c) (nat_le (2 ^ a.align) (bytes_in (loaded_width o))) e) h
limit_fault c labels (instr.Store o a) e h =
    above (2 ^ a.align) (bytes_in (stored_width o))
    (access_limits (has_memory c) (nat_le (2 ^ a.align) (bytes_in (stored_width o))) e) h
limit_fault c labels instr.MemorySize e h = unless_limits (has_memory c) e
limit_fault c labels instr.MemoryGrow e h = unless_limits (has_memory c) e
limit_fault c labels instr.MemoryCopy e h = unless_limits (has_memory c) e
limit_fault c labels instr.MemoryFill e h = unless_limits (has_memory c) e
limit_fault c labels i e h = cc

opcode_limits : (c : Context) (i : Instruction) (levels : List Level)
    → opcode_fault c i levels ≡ Limits → IsAligned i → ⊥
opcode_limits c i [] e h = let no = opcode_fault_none c i in cc
opcode_limits c i (l ∷ levels) e h =
    limit_fault c (labels_of (l ∷ levels)) i (sym (opcode_fault_is c i l levels) ∙ e) h

-- ---- bodies

-- the first fault is here, or behind
pub here_or_behind : (fault wanted : ValidFault) (o : Option (List Level)) (go : List Level
    → ValidFault) → (o ≡ None → fault ≡ wanted → ⊥)
    → ((levels : List Level) → o ≡ Some levels → go levels ≡ wanted → ⊥)
    → fault_from fault o go ≡ wanted → ⊥
here_or_behind fault wanted None go here behind e = here refl e
here_or_behind fault wanted (Some levels) go here behind e = behind levels refl e

pub first_index : (c : Context) (opcodes : List Instruction) (levels : List Level)
    → fault_in c opcodes levels ≡ Index → HaveDefinedIndices c (length levels) opcodes → ⊥
first_index c [] levels e h = cc
first_index c (i ∷ opcodes) levels e h =
    here_or_behind (opcode_fault c i levels) Index (levels_after c i levels)
    (λ levels'. fault_in c opcodes levels')
    (λ none k. opcode_index c i levels k h.0)
    (λ levels' some k. first_index c opcodes levels' k
    (subst (λ n. HaveDefinedIndices c n opcodes) (sym (after_length c i levels levels' some)) h.1))
    e

pub first_limit : (c : Context) (opcodes : List Instruction) (levels : List Level)
    → fault_in c opcodes levels ≡ Limits → AllByRecursion IsAligned opcodes → ⊥
first_limit c [] levels e h = cc
first_limit c (i ∷ opcodes) levels e h =
    here_or_behind (opcode_fault c i levels) Limits (levels_after c i levels)
    (λ levels'. fault_in c opcodes levels')
    (λ none k. opcode_limits c i levels k h.0)
    (λ levels' some k. first_limit c opcodes levels' k h.1)
    e

-- what passes has no fault of another sort
passed_first : (fault : ValidFault) (o : Option (List Level)) (go : List Level → ValidFault)
    (then : List Level → Option (List Level)) (new : List Level)
    → ((levels : List Level) → then levels ≡ Some new → go levels ≡ Typing)
    → (o >>= then) ≡ Some new → fault_from fault o go ≡ Typing
passed_first fault None go then new k e = absurd (cc)
passed_first fault (Some levels) go then new k e = k levels e

pub passed_fault : (c : Context) (opcodes : List Instruction) (levels new : List Level)
    → checked c opcodes levels ≡ Some new → fault_in c opcodes levels ≡ Typing
passed_fault c [] levels new e = refl
passed_fault c (i ∷ opcodes) levels new e =
    passed_first (opcode_fault c i levels) (levels_after c i levels)
    (λ levels'. fault_in c opcodes levels') (λ levels'. checked c opcodes levels') new
    (λ levels' k. passed_fault c opcodes levels' new k) e
