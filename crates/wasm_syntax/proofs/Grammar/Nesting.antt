-- A nested sequence and the openers that a reader keeps say the same of a list of opcodes.
use Rattle.std.proofs.Common.{◌≡◌, ◌⊎◌, inl, inr, List, [], ◌∷◌, ◌++◌, Option, refl, sym, ap, ◌∙◌}
use Rattle.std.proofs.Common.{append_assoc}
use Rattle.wasm_syntax.specs.declared.types.ValueType.{ValueType}
use Rattle.wasm_syntax.specs.declared.instruction.Instruction.{Instruction}
use Rattle.wasm_syntax.specs.declared.instruction.Instruction.TheVariants as instr
use Rattle.wasm_syntax.specs.rules.Sequence.{Sequence, Stop, Plain, InBlock, InLoop, InIf, InIfElse}
use Rattle.wasm_syntax.specs.rules.Sequence.{spelled, IsPlain, IsNested, Spells}
use Rattle.wasm_syntax.specs.declared.opener.Opener.{Opener}
use Rattle.wasm_syntax.specs.declared.opener.Opener.TheVariants.{Unconditional, Conditional}
use Rattle.wasm_syntax.specs.laws.ReadingInstructions.{Nesting, Open, Closed, Misplaced}
use Rattle.wasm_syntax.specs.laws.ReadingInstructions.{nesting_after}

-- what holds at the end of an expression, or with what is open then
abbrev pub After : Nesting → Type 0 → (List Opener → Type 0) → Type 0
After Closed Ends Goes = Ends
After Misplaced Ends Goes = ⊥
After (Open openers) Ends Goes = Goes openers

-- where these blocks are open, the last opcode closes the expression, no other one does, and none
-- is misplaced
abbrev pub AreClosed : List Opener → List Instruction → Type 0
AreClosed openers [] = ⊥
AreClosed openers (i ∷ is) = After (nesting_after i openers) (is ≡ []) (λ inner. AreClosed inner is)

-- ---- the opcodes of a sequence leave open what was open

plain_stays : (i : Instruction) (openers : List Opener) → IsPlain i
    → nesting_after i openers ≡ Open openers
plain_stays (instr.Block t) openers h = absurd h
plain_stays (instr.Loop t) openers h = absurd h
plain_stays (instr.If t) openers h = absurd h
plain_stays instr.Else openers h = absurd h
plain_stays instr.End openers h = absurd h
plain_stays _ openers h = refl

passes : (s : Sequence) (openers : List Opener) (tail : List Instruction) → IsNested s
    → AreClosed openers tail → AreClosed openers (spelled s ++ tail)
passes Stop openers tail h c = c
passes (Plain i rest) openers tail h c =
    rw (plain_stays i openers h.0) (passes rest openers tail h.1 c)
passes (InBlock t body rest) openers tail h c =
    rw (append_assoc (spelled body) (instr.End ∷ spelled rest) tail) (passes body (Unconditional
    ∷ openers) (instr.End ∷ (spelled rest ++ tail)) h.0 (passes rest openers tail h.1 c))
passes (InLoop t body rest) openers tail h c =
    rw (append_assoc (spelled body) (instr.End ∷ spelled rest) tail) (passes body (Unconditional
    ∷ openers) (instr.End ∷ (spelled rest ++ tail)) h.0 (passes rest openers tail h.1 c))
passes (InIf t first rest) openers tail h c =
    rw (append_assoc (spelled first) (instr.End ∷ spelled rest) tail) (passes first (Conditional
    ∷ openers) (instr.End ∷ (spelled rest ++ tail)) h.0 (passes rest openers tail h.1 c))
passes (InIfElse t first second rest) openers tail h c =
    let inner : AreClosed (Unconditional ∷ openers) ((spelled second ++ (instr.End ∷ spelled rest))
    ++ tail) =
    rw (append_assoc (spelled second) (instr.End ∷ spelled rest) tail) (passes second (Unconditional
    ∷ openers) (instr.End ∷ (spelled rest ++ tail)) h.1 (passes rest openers tail h.2 c)) in
    rw (append_assoc (spelled first) (instr.Else ∷ (spelled second
    ++ (instr.End ∷ spelled rest))) tail) (passes first (Conditional ∷ openers) (instr.Else
    ∷ ((spelled second ++ (instr.End ∷ spelled rest)) ++ tail)) h.0 inner)

pub closed_by_sequence : (opcodes : List Instruction) (s : Sequence) → Spells opcodes s
    → AreClosed [] opcodes
closed_by_sequence opcodes s h = rw h.is (passes s [] (instr.End ∷ []) h.nested refl)

-- ---- what leaves nothing open is a sequence

-- a sequence, and what ends it
record Behind (Ends : List Instruction → Type 0) (is : List Instruction) : Type 0 where
  first : Sequence
  nested : IsNested first
  tail : List Instruction
  begun : is ≡ spelled first ++ tail
  ends : Ends tail

-- what ends a sequence where these blocks are open
abbrev EndsIn : List Opener → List Instruction → Type 0
EndsIn [] tail = tail ≡ instr.End ∷ []
EndsIn (Unconditional ∷ openers) tail = (more : List Instruction) × (tail ≡ instr.End ∷ more)
    × Behind (EndsIn openers) more
EndsIn (Conditional ∷ openers) tail =
    ((more : List Instruction) × (tail ≡ instr.End ∷ more) × Behind (EndsIn openers) more)
    ⊎ ((more : List Instruction) × (tail ≡ instr.Else ∷ more)
    × Behind (λ later. (last : List Instruction) × (later ≡ instr.End ∷ last)
    × Behind (EndsIn openers) last) more)

-- two sequences with an opcode between them
joined : (is a b t more tail : List Instruction) (x : Instruction) → is ≡ a ++ t → t ≡ x ∷ more
    → more ≡ b ++ tail → is ≡ (a ++ (x ∷ b)) ++ tail
joined is a b t more tail x e f g = rw (e, f, g) (rw (append_assoc a (x ∷ b) tail) refl)

begins : (Ends : List Instruction → Type 0) (is : List Instruction) → Ends is → Behind Ends is
begins Ends is h = record { first = Stop; nested = tt; tail = is; begun = refl; ends = h }

behind_plain : (Ends : List Instruction → Type 0) (i : Instruction) (is : List Instruction)
    → IsPlain i → Behind Ends is → Behind Ends (i ∷ is)
behind_plain Ends i is h b = record {
  first = Plain i b.first;
  nested = (h, b.nested);
  tail = b.tail;
  begun = ap (λ (x : List Instruction). i ∷ x) b.begun;
  ends = b.ends;
}

-- after an instruction that opens a block, which an `end` closes
behind_opener : (Ends : List Instruction → Type 0) (i : Instruction) (make : Sequence → Sequence
    → Sequence) → ((body rest : Sequence)
    → spelled (make body rest) ≡ i ∷ (spelled body ++ (instr.End ∷ spelled rest)))
    → ((body rest : Sequence) → IsNested body → IsNested rest → IsNested (make body rest))
    → (is : List Instruction) (body : Sequence) (t : List Instruction) → IsNested body
    → is ≡ spelled body ++ t → (more : List Instruction) → t ≡ instr.End ∷ more
    → Behind Ends more → Behind Ends (i ∷ is)
behind_opener Ends i make spells nests is body t nested e more f b = record {
  first = make body b.first;
  nested = nests body b.first nested b.nested;
  tail = b.tail;
  begun = ap (λ (x : List Instruction). i
      ∷ x) (joined is (spelled body) (spelled b.first) t more b.tail instr.End e f b.begun)
      ∙ ap (λ (x : List Instruction). x ++ b.tail) (sym (spells body b.first));
  ends = b.ends;
}

-- after an `if` whose second part is written
behind_else : (Ends : List Instruction
    → Type 0) (t : Option ValueType) (is : List Instruction) (first second : Sequence)
    (u more v last : List Instruction) → IsNested first → IsNested second
    → is ≡ spelled first ++ u → u ≡ instr.Else ∷ more → more ≡ spelled second ++ v
    → v ≡ instr.End ∷ last → Behind Ends last → Behind Ends (instr.If t ∷ is)
behind_else Ends t is first second u more v last p q e f g h b =
    let inner : more ≡ (spelled second ++ (instr.End ∷ spelled b.first)) ++ b.tail =
    joined more (spelled second) (spelled b.first) v last b.tail instr.End g h b.begun in
    record {
      first = InIfElse t first second b.first;
      nested = (p, q, b.nested);
      tail = b.tail;
      begun = ap (λ (x : List Instruction). instr.If t
          ∷ x) (joined is (spelled first) (spelled second
          ++ (instr.End ∷ spelled b.first)) u more b.tail instr.Else e f inner);
      ends = b.ends;
    }

nested_by : (is : List Instruction) (openers : List Opener) → AreClosed openers is
    → Behind (EndsIn openers) is
nested_by [] openers c = absurd c
nested_by (instr.Block t ∷ is) openers c =
    let b = nested_by is (Unconditional ∷ openers) c in
    behind_opener (EndsIn openers) (instr.Block t) (InBlock t) (λ x y. refl) (λ x y p q. (
      p,
      q,
    )) is b.first b.tail b.nested b.begun b.ends.0 b.ends.1 b.ends.2
nested_by (instr.Loop t ∷ is) openers c =
    let b = nested_by is (Unconditional ∷ openers) c in
    behind_opener (EndsIn openers) (instr.Loop t) (InLoop t) (λ x y. refl) (λ x y p q. (
      p,
      q,
    )) is b.first b.tail b.nested b.begun b.ends.0 b.ends.1 b.ends.2
nested_by (instr.If t ∷ is) openers c =
    let b = nested_by is (Conditional ∷ openers) c in
    elim b.ends [
      | inl e ↦ behind_opener (EndsIn openers) (instr.If t) (InIf t) (λ x y. refl) (λ x y p q. (
        p,
        q,
      )) is b.first b.tail b.nested b.begun e.0 e.1 e.2
      | inr e ↦ (let d = e.2 in
          behind_else (EndsIn openers) t is b.first d.first b.tail e.0 d.tail d.ends.0 b.nested
          d.nested b.begun e.1 d.begun d.ends.1 d.ends.2)
    ]
nested_by (instr.Else ∷ is) [] c = absurd c
nested_by (instr.Else ∷ is) (Unconditional ∷ openers) c = absurd c
nested_by (instr.Else ∷ is) (Conditional ∷ openers) c =
    begins (EndsIn (Conditional ∷ openers)) (instr.Else ∷ is) (inr (
      is,
      refl,
      nested_by is (Unconditional ∷ openers) c,
    ))
nested_by (instr.End ∷ is) [] c =
    begins (EndsIn []) (instr.End ∷ is) (ap (λ (x : List Instruction). instr.End ∷ x) c)
nested_by (instr.End ∷ is) (Unconditional ∷ openers) c =
    begins (EndsIn (Unconditional ∷ openers)) (instr.End ∷ is) (is, refl, nested_by is openers c)
nested_by (instr.End ∷ is) (Conditional ∷ openers) c =
    begins (EndsIn (Conditional ∷ openers)) (instr.End ∷ is) (inl (
      is,
      refl,
      nested_by is openers c,
    ))
nested_by (i ∷ is) openers c = behind_plain (EndsIn openers) i is tt (nested_by is openers c)

pub sequence_of_closed : (opcodes : List Instruction) → AreClosed [] opcodes
    → (s : Sequence) × Spells opcodes s
sequence_of_closed opcodes c =
    let b = nested_by opcodes [] c in (
      b.first,
      record {
        is = b.begun ∙ ap (λ (x : List Instruction). spelled b.first ++ x) b.ends;
        nested = b.nested;
      },
    )
