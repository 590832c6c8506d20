-- Opcodes spell one nested sequence at most.
use Rattle.std.proofs.Common.{◌≡◌, List, [], ◌∷◌, ◌++◌, Option, refl, sym, ap, ◌∙◌, append_assoc}
use Rattle.wasm_syntax.specs.declared.types.ValueType.{ValueType}
use Rattle.wasm_syntax.specs.declared.instruction.Instruction.{Instruction}
use Rattle.wasm_syntax.specs.declared.instruction.Instruction.TheVariants as instr
use Rattle.wasm_syntax.specs.rules.Sequence.{Sequence, Stop, Plain, InBlock, InLoop, InIf, InIfElse}
use Rattle.wasm_syntax.specs.rules.Sequence.{spelled, IsPlain, IsNested}
use Rattle.wasm_rules.specs.laws.Laws.{OneSequence}

-- an opcode that parts or closes a sequence
abbrev pub IsClosing : Instruction → Type 0
IsClosing instr.Else = Unit {0}
IsClosing instr.End = Unit {0}
IsClosing _ = ⊥

closing_not_plain : (i j : Instruction) → i ≡ j → IsClosing i → IsPlain j → ⊥
closing_not_plain i j e c p = both j (rw e at c) p
  where
    both : (j : Instruction) → IsClosing j → IsPlain j → ⊥
    both instr.Else c p = p
    both instr.End c p = p
    both _ c p = c

-- a sequence and one that begins with an opening opcode
plain_not_block : (i : Instruction) (t : Option ValueType) → i ≡ instr.Block t → IsPlain i → ⊥
plain_not_block i t e p = rw e at p

plain_not_loop : (i : Instruction) (t : Option ValueType) → i ≡ instr.Loop t → IsPlain i → ⊥
plain_not_loop i t e p = rw e at p

plain_not_if : (i : Instruction) (t : Option ValueType) → i ≡ instr.If t → IsPlain i → ⊥
plain_not_if i t e p = rw e at p

closing_not_block : (i : Instruction) (t : Option ValueType) → i ≡ instr.Block t → IsClosing i → ⊥
closing_not_block i t e p = rw e at p

closing_not_loop : (i : Instruction) (t : Option ValueType) → i ≡ instr.Loop t → IsClosing i → ⊥
closing_not_loop i t e p = rw e at p

closing_not_if : (i : Instruction) (t : Option ValueType) → i ≡ instr.If t → IsClosing i → ⊥
closing_not_if i t e p = rw e at p

-- what follows the opening opcode: the inner opcodes, the closing one, and the rest
abbrev pub followed : Sequence → Instruction → Sequence → Instruction → List Instruction
    → List Instruction
followed body close rest e x = spelled body ++ (close ∷ (spelled rest ++ (e ∷ x)))

follows : (body : Sequence) (close : Instruction) (rest : Sequence) (e : Instruction)
    (x : List Instruction) → (spelled body ++ (close ∷ spelled rest)) ++ (e ∷ x)
    ≡ followed body close rest e x
follows body close rest e x = append_assoc (spelled body) (close ∷ spelled rest) (e ∷ x)

follows_else : (first second rest : Sequence) (e : Instruction) (x : List Instruction)
    → (spelled first ++ (instr.Else ∷ (spelled second ++ (instr.End ∷ spelled rest)))) ++ (e ∷ x)
    ≡ spelled first ++ (instr.Else ∷ followed second instr.End rest e x)
follows_else first second rest e x =
    append_assoc (spelled first) (instr.Else ∷ (spelled second ++ (instr.End ∷ spelled rest))) (e
    ∷ x) ∙ ap (λ z. spelled first ++ (instr.Else ∷ z)) (follows second instr.End rest e x)

-- Two sequences with an opcode after each that parts or closes are equal where the whole is.
pub unique : (s t : Sequence) (e f : Instruction) (x y : List Instruction) → IsNested s → IsNested t
    → IsClosing e → IsClosing f → spelled s ++ (e ∷ x) ≡ spelled t ++ (f ∷ y) → (s ≡ t) × (e ≡ f)
    × (x ≡ y)
unique Stop Stop e f x y n m c d h = (refl, cc, cc)
unique Stop (Plain j t) e f x y n m c d h = absurd (closing_not_plain e j (cc) c m.0)
unique Stop (InBlock b body t) e f x y n m c d h = absurd (closing_not_block e b (cc) c)
unique Stop (InLoop b body t) e f x y n m c d h = absurd (closing_not_loop e b (cc) c)
unique Stop (InIf b first t) e f x y n m c d h = absurd (closing_not_if e b (cc) c)
unique Stop (InIfElse b first second t) e f x y n m c d h = absurd (closing_not_if e b (cc) c)
unique (Plain i s) Stop e f x y n m c d h = absurd (closing_not_plain f i (cc) d n.0)
unique (Plain i s) (Plain j t) e f x y n m c d h =
    let r = unique s t e f x y n.1 m.1 c d (cc) in
    let head : i ≡ j = cc in
    let same = r.0 in (cc, r.1, r.2)
unique (Plain i s) (InBlock b body t) e f x y n m c d h = absurd (plain_not_block i b (cc) n.0)
unique (Plain i s) (InLoop b body t) e f x y n m c d h = absurd (plain_not_loop i b (cc) n.0)
unique (Plain i s) (InIf b first t) e f x y n m c d h = absurd (plain_not_if i b (cc) n.0)
unique (Plain i s) (InIfElse b first second t) e f x y n m c d h =
    absurd (plain_not_if i b (cc) n.0)
unique (InBlock b body s) Stop e f x y n m c d h = absurd (closing_not_block f b (cc) d)
unique (InBlock b body s) (Plain j t) e f x y n m c d h = absurd (plain_not_block j b (cc) m.0)
unique (InBlock b body s) (InBlock b' body' t) e f x y n m c d h =
    let head : b ≡ b' = cc in
    let tails : (spelled body ++ (instr.End ∷ spelled s)) ++ (e ∷ x)
    ≡ (spelled body' ++ (instr.End ∷ spelled t)) ++ (f ∷ y) = cc in
    let inner = unique body body' instr.End instr.End _ _ n.0 m.0 tt tt
    (sym (follows body instr.End s e x) ∙ tails ∙ follows body' instr.End t f y) in
    let r = unique s t e f x y n.1 m.1 c d inner.2 in
    let one = inner.0 in let two = r.0 in (cc, r.1, r.2)
unique (InBlock b body s) (InIf b' first t) e f x y n m c d h = absurd (cc)
unique (InBlock b body s) (InIfElse b' first second t) e f x y n m c d h = absurd (cc)
unique (InLoop b body s) Stop e f x y n m c d h = absurd (closing_not_loop f b (cc) d)
unique (InLoop b body s) (Plain j t) e f x y n m c d h = absurd (plain_not_loop j b (cc) m.0)
unique (InLoop b body s) (InBlock b' body' t) e f x y n m c d h = absurd (cc)
unique (InLoop b body s) (InLoop b' body' t) e f x y n m c d h =
    let head : b ≡ b' = cc in
    let tails : (spelled body ++ (instr.End ∷ spelled s)) ++ (e ∷ x)
    ≡ (spelled body' ++ (instr.End ∷ spelled t)) ++ (f ∷ y) = cc in
    let inner = unique body body' instr.End instr.End _ _ n.0 m.0 tt tt
    (sym (follows body instr.End s e x) ∙ tails ∙ follows body' instr.End t f y) in
    let r = unique s t e f x y n.1 m.1 c d inner.2 in
    let one = inner.0 in let two = r.0 in (cc, r.1, r.2)
unique (InLoop b body s) (InIf b' first t) e f x y n m c d h = absurd (cc)
unique (InLoop b body s) (InIfElse b' first second t) e f x y n m c d h = absurd (cc)
unique (InIf b first s) Stop e f x y n m c d h = absurd (closing_not_if f b (cc) d)
unique (InIf b first s) (Plain j t) e f x y n m c d h = absurd (plain_not_if j b (cc) m.0)
unique (InIf b first s) (InBlock b' body' t) e f x y n m c d h = absurd (cc)
unique (InIf b first s) (InIf b' first' t) e f x y n m c d h =
    let head : b ≡ b' = cc in
    let tails : (spelled first ++ (instr.End ∷ spelled s)) ++ (e ∷ x)
    ≡ (spelled first' ++ (instr.End ∷ spelled t)) ++ (f ∷ y) = cc in
    let inner = unique first first' instr.End instr.End _ _ n.0 m.0 tt tt
    (sym (follows first instr.End s e x) ∙ tails ∙ follows first' instr.End t f y) in
    let r = unique s t e f x y n.1 m.1 c d inner.2 in
    let one = inner.0 in let two = r.0 in (cc, r.1, r.2)
unique (InIf b first s) (InIfElse b' first' second' t) e f x y n m c d h =
    let tails : (spelled first ++ (instr.End ∷ spelled s)) ++ (e ∷ x)
    ≡ (spelled first' ++ (instr.Else ∷ (spelled second' ++ (instr.End ∷ spelled t))))
    ++ (f ∷ y) = cc in
    let inner = unique first first' instr.End instr.Else _ _ n.0 m.0 tt tt
    (sym (follows first instr.End s e x) ∙ tails ∙ follows_else first' second' t f y) in
    let other = inner.1 in absurd (cc)
unique (InIfElse b first second s) Stop e f x y n m c d h = absurd (closing_not_if f b (cc) d)
unique (InIfElse b first second s) (Plain j t) e f x y n m c d h =
    absurd (plain_not_if j b (cc) m.0)
unique (InIfElse b first second s) (InBlock b' body' t) e f x y n m c d h = absurd (cc)
unique (InIfElse b first second s) (InIf b' first' t) e f x y n m c d h =
    let tails : (spelled first ++ (instr.Else ∷ (spelled second ++ (instr.End ∷ spelled s))))
    ++ (e ∷ x) ≡ (spelled first' ++ (instr.End ∷ spelled t)) ++ (f ∷ y) = cc in
    let inner = unique first first' instr.Else instr.End _ _ n.0 m.0 tt tt
    (sym (follows_else first second s e x) ∙ tails ∙ follows first' instr.End t f y) in
    let other = inner.1 in absurd (cc)
unique (InIfElse b first second s) (InIfElse b' first' second' t) e f x y n m c d h =
    let head : b ≡ b' = cc in
    let tails : (spelled first ++ (instr.Else ∷ (spelled second ++ (instr.End ∷ spelled s))))
    ++ (e ∷ x) ≡ (spelled first' ++ (instr.Else ∷ (spelled second' ++ (instr.End ∷ spelled t))))
    ++ (f ∷ y) = cc in
    let part = unique first first' instr.Else instr.Else _ _ n.0 m.0 tt tt
    (sym (follows_else first second s e x) ∙ tails ∙ follows_else first' second' t f y) in
    let inner = unique second second' instr.End instr.End _ _ n.1 m.1 tt tt part.2 in
    let r = unique s t e f x y n.2 m.2 c d inner.2 in
    let one = part.0 in let two = inner.0 in let three = r.0 in (cc, r.1, r.2)
unique _ (InLoop b' body' t) e f x y n m c d h = absurd (cc)

pub one_sequence : OneSequence
one_sequence opcodes s t a b =
    (unique s t instr.End instr.End [] [] a.nested b.nested tt tt (sym a.is ∙ b.is)).0
