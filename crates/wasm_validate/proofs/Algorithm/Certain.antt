-- Where no jump is before, the types of all operands are known.
use Rattle.std.proofs.Common.{◌≡◌, ◌⊎◌, inl, inr, Bool, true, false, List, [], ◌∷◌, ◌++◌}
use Rattle.std.proofs.Common.{Option, Some, None, refl, sym, ap, ◌∙◌, subst}
use Rattle.std.specs.Prelude.{map, not}
use Rattle.wasm_syntax.specs.declared.types.ValueType.{ValueType}
use Rattle.wasm_syntax.specs.declared.types.ValueType.TheVariants.{I32}
use Rattle.wasm_syntax.specs.declared.instruction.Instruction.{Instruction}
use Rattle.wasm_syntax.specs.declared.instruction.Instruction.TheVariants as instr
use Rattle.wasm_syntax.specs.laws.ReadingItems.{◌>>=◌, check}
use Rattle.wasm_syntax.proofs.Grammar.Exact.{bind_some}
use Rattle.wasm_rules.specs.Types.{takes_of, gives_of}
use Rattle.wasm_rules.specs.Typing.{Context, HasInstructionType}
use Rattle.wasm_rules.specs.Shapes.{types_behind}
use Rattle.wasm_rules.proofs.TypedShape.{value_type, drop_front}
use Rattle.wasm_validate.specs.laws.Checking.{Known, Level, popped_of, popped, agrees}
use Rattle.wasm_validate.specs.laws.Checking.{operand_taken, all_operands_taken, pushed, all_pushed}
use Rattle.wasm_validate.specs.laws.Checking.{level_unreached, Arrow, Fixed, Jump, Dropping}
use Rattle.wasm_validate.specs.laws.Checking.{Selecting, Refused, only, met, operands_selected}
use Rattle.wasm_validate.specs.laws.Checking.{applied, arrow_of}
use Rattle.wasm_validate.specs.laws.Remaining.{FitsOperands}

-- ---- known operands

abbrev pub IsKnown : Known → Type 0
IsKnown None = ⊥
IsKnown (Some t) = Unit {0}

abbrev pub AreKnown : List Known → Type 0
AreKnown [] = Unit {0}
AreKnown (k ∷ ks) = IsKnown k × AreKnown ks

-- all operands are known, if no jump is before
abbrev pub IsSure : Level → Type 0
IsSure l = l.is_reached ≡ true → AreKnown l.operands

-- known operands of these types are just these types
pub known_types : (ks : List Known) (types : List ValueType) → AreKnown ks
    → FitsOperands true ks types → ks ≡ map (λ t. Some t) types
known_types [] [] a f = refl
known_types [] (t ∷ types) a f = absurd f
known_types (None ∷ ks) types a f = absurd a.0
known_types (Some u ∷ ks) [] a f = absurd f
known_types (Some u ∷ ks) (t ∷ types) a f =
    let head : u ≡ t = f.0 in let rest = known_types ks types a.1 f.1 in cc

-- ---- steps of a level

pub record Stays (l new : Level) : Type 0 where
  pub reached : new.is_reached ≡ l.is_reached
  pub sure : IsSure l → IsSure new

stays_same : (l : Level) → Stays l l
stays_same l = record { reached = refl; sure = λ s. s }

stays_on : (a b d : Level) → Stays a b → Stays b d → Stays a d
stays_on a b d h k = record { reached = k.reached ∙ h.reached; sure = λ s. k.sure (h.sure s) }

abbrev unknown : Level → Known × Level
unknown l = (None, l)

abbrev operand : Known → Level → Known × Level
operand k l = (k, l)

-- what was popped is known, if no jump is before
abbrev IsSurely : Level → Known → Type 0
IsSurely l k = IsSure l → l.is_reached ≡ true → IsKnown k

popped_of_stays : (l : Level) (ks : List Known) → l.operands ≡ ks → (k : Known) (new : Level)
    → popped_of l ks ≡ Some (k, new) → Stays l new × IsSurely l k
popped_of_stays l [] e k new h = empty l.is_reached refl h
  where
    empty : (b : Bool) → l.is_reached ≡ b → (check (not b) >>= λ _. Some (unknown l))
        ≡ Some (k, new) → Stays l new × IsSurely l k
    empty true r h = absurd (cc)
    empty false r h =
        let pair : unknown l ≡ (k, new) = cc in
        let same : l ≡ new = ap (λ (z : Known × Level). z.1) pair in (
          subst (λ z. Stays l z) same (stays_same l),
          λ s t. absurd (let no : false ≡ true = sym r
              ∙ t in cc),
        )
popped_of_stays l (k0 ∷ ks) e k new h =
    let below : Level = record l { operands = ks } in
    let pair : operand k0 below ≡ operand k new = cc in
    let same : below ≡ new = ap (λ (z : Known × Level). z.1) pair in
    let top : k0 ≡ k = ap (λ (z : Known × Level). z.0) pair in (
      subst (λ z. Stays l z) same (record {
        reached = refl;
        sure = λ s r. let a : AreKnown
            (k0 ∷ ks) = subst AreKnown e (s r) in a.1;
      }),
      λ s r. let a : AreKnown (k0 ∷ ks) = subst AreKnown e (s r) in subst IsKnown top a.0,
    )

popped_stays : (l : Level) (k : Known) (new : Level) → popped l ≡ Some (k, new)
    → Stays l new × IsSurely l k
popped_stays l = popped_of_stays l l.operands refl

pub taken_stays : (t : ValueType) (l new : Level) → operand_taken t l ≡ Some new → Stays l new
taken_stays t l new h =
    let o = bind_some (popped l) (λ o. check (agrees t o.0) >>= λ _. Some o.1) new h in
    let d = bind_some (check (agrees t o.0.0)) (λ _. Some o.0.1) new o.2 in
    let same : o.0.1 ≡ new = let s = d.2 in cc in
    (popped_stays l o.0.0 new (o.1 ∙ ap (λ z. Some (o.0.0, z)) same)).0

all_taken_stays : (ts : List ValueType) (l new : Level) → all_operands_taken ts l ≡ Some new
    → Stays l new
all_taken_stays [] l new h = let same : l ≡ new = cc in subst (λ z. Stays l z) same (stays_same l)
all_taken_stays (t ∷ ts) l new h =
    let o = bind_some (operand_taken t l) (λ m. all_operands_taken ts m) new h in
    stays_on l o.0 new (taken_stays t l o.0 o.1) (all_taken_stays ts o.0 new o.2)

known_pushed : (ts : List ValueType) (ks : List Known) → AreKnown ks
    → AreKnown (map (λ t. Some t) ts ++ ks)
known_pushed [] ks a = a
known_pushed (t ∷ ts) ks a = (tt, known_pushed ts ks a)

pub all_pushed_stays : (ts : List ValueType) (l : Level) → Stays l (all_pushed ts l)
all_pushed_stays ts l = record { reached = refl; sure = λ s r. known_pushed ts l.operands (s r) }

met_known : (a b k : Known) → met a b ≡ Some k → IsKnown a → IsKnown k
met_known None b k e i = absurd i
met_known (Some t) b k e i =
    let d = bind_some (check (agrees t b)) (λ _. Some (Some t)) k e in
    let same : Some t ≡ k = let s = d.2 in cc in subst IsKnown same tt

selected_stays : (l new : Level) → operands_selected l ≡ Some new → Stays l new
selected_stays l new h =
    let a = bind_some (operand_taken I32 l) _ new h in
    let b = bind_some (popped a.0) _ new a.2 in
    let d = bind_some (popped b.0.1) _ new b.2 in
    let m = bind_some (met b.0.0 d.0.0) _ new d.2 in
    let same : pushed m.0 d.0.1 ≡ new = let s = m.2 in cc in
    let first = taken_stays I32 l a.0 a.1 in
    let second = popped_stays a.0 b.0.0 b.0.1 b.1 in
    let third = popped_stays b.0.1 d.0.0 d.0.1 d.1 in
    let all = stays_on l a.0 d.0.1 first (stays_on a.0 b.0.1 d.0.1 second.0 third.0) in
    subst (λ z. Stays l z) same
    (record {
      reached = all.reached;
      sure = λ s r. (
        met_known b.0.0 d.0.0 m.0 m.1
            (second.1 (first.sure s) (sym (all.reached ∙ sym first.reached) ∙ r)),
        all.sure s r,
      );
    })

-- ---- instructions

-- what an instruction that gives these operands, as far as typing goes, leads to
abbrev pub Leads : Arrow → Option (List ValueType) → List ValueType → Type 0
Leads (Fixed takes gives) o ts = o ≡ Some ts
Leads (Jump takes) o ts = o ≡ None
Leads Dropping o ts = o ≡ Some ts
Leads Selecting o ts = o ≡ Some ts
Leads Refused o ts = Unit {0}

fixed_leads : (b : Bool) (takes gives ts : List ValueType) (o : Option (List ValueType))
    → o ≡ Some ts → Leads (only b (Fixed takes gives)) o ts
fixed_leads true takes gives ts o e = e
fixed_leads false takes gives ts o e = tt

jump_leads : (b : Bool) (takes ts : List ValueType) → Leads (only b (Jump takes)) None ts
jump_leads true takes ts = refl
jump_leads false takes ts = tt

module _ (c : Context) (labels : List (List ValueType)) (p q below : List ValueType) where
  pub typed_leads : (i : Instruction) → HasInstructionType c labels i p q
      → Leads (arrow_of c labels i) (types_behind c i (p ++ below)) (q ++ below)
  typed_leads instr.Unreachable h = refl
  typed_leads (instr.Br l) h = rw h.2 refl
  typed_leads (instr.BrIf l) h = rw (h.1, h.2, h.3) refl
  typed_leads (instr.BrTable ls l) h = rw h.3 (jump_leads _ _ _)
  typed_leads instr.Return h = refl
  typed_leads (instr.Call x) h =
      rw (h.1, h.2, h.3) (ap (λ z. Some (gives_of h.0 ++ z)) (drop_front (takes_of h.0) below))
  typed_leads (instr.CallIndirect x) h =
      rw (h.1, h.3, h.4)
      (fixed_leads _ _ _ _ _
      (ap (λ z. Some (gives_of h.0 ++ z)) (drop_front (takes_of h.0) below)))
  typed_leads instr.Drop h = rw (h.1, h.2) refl
  typed_leads instr.Select h = rw (h.1, h.2) refl
  typed_leads (instr.LocalGet x) h = rw (h.1, h.2, h.3) refl
  typed_leads (instr.LocalSet x) h = rw (h.1, h.2, h.3) refl
  typed_leads (instr.LocalTee x) h = rw (h.1, h.2, h.3) refl
  typed_leads (instr.GlobalGet x) h = rw (h.1, h.2, h.3) refl
  typed_leads (instr.GlobalSet x) h = rw (h.1, h.3, h.4) (fixed_leads _ _ _ _ _ refl)
  typed_leads (instr.Load o m) h = rw (h.2, h.3) (fixed_leads _ _ _ _ _ refl)
  typed_leads (instr.Store o m) h = rw (h.2, h.3) (fixed_leads _ _ _ _ _ refl)
  typed_leads instr.MemorySize h = rw (h.1, h.2) (fixed_leads _ _ _ _ _ refl)
  typed_leads instr.MemoryGrow h = rw (h.1, h.2) (fixed_leads _ _ _ _ _ refl)
  typed_leads instr.MemoryCopy h = rw (h.1, h.2) (fixed_leads _ _ _ _ _ refl)
  typed_leads instr.MemoryFill h = rw (h.1, h.2) (fixed_leads _ _ _ _ _ refl)
  typed_leads (instr.Const v) h =
      rw (h.2, h.3)
      (fixed_leads _ _ _ _ _ (ap (λ t. Some (t ∷ below)) (value_type h.0 v h.1)))
  typed_leads (instr.Block t) h = absurd h
  typed_leads (instr.Loop t) h = absurd h
  typed_leads (instr.If t) h = absurd h
  typed_leads instr.Else h = absurd h
  typed_leads instr.End h = absurd h
  typed_leads _ h = rw (h.0, h.1) refl

-- A level after an instruction: typing goes on with these types, and the level is as reached as
-- before. Or typing goes on nowhere, and a jump is before.
abbrev pub IsBehind : Level → Level → Option (List ValueType) → List ValueType → Type 0
IsBehind l new o ts =
    ((o ≡ Some ts) × (new.is_reached ≡ l.is_reached)) ⊎ ((o ≡ None) × (new.is_reached ≡ false))

pub applied_leads : (a : Arrow) (l new : Level) (o : Option (List ValueType))
    (ts : List ValueType) → applied a l ≡ Some new → Leads a o ts
    → IsBehind l new o ts × (IsSure l → IsSure new)
applied_leads (Fixed takes gives) l new o ts h e =
    let d = bind_some (all_operands_taken takes l) (λ m. Some (all_pushed gives m)) new h in
    let same : all_pushed gives d.0 ≡ new = let s = d.2 in cc in
    let r = subst (λ z. Stays l z) same (stays_on l d.0 (all_pushed gives d.0)
    (all_taken_stays takes l d.0 d.1) (all_pushed_stays gives d.0)) in
    (inl (e, r.reached), r.sure)
applied_leads (Jump takes) l new o ts h e =
    let d = bind_some (all_operands_taken takes l) (λ m. Some (level_unreached m)) new h in
    let same : level_unreached d.0 ≡ new = let s = d.2 in cc in
    (inr (e, ap (λ (z : Level). z.is_reached) (sym same)), λ s. subst IsSure same (λ r. tt))
applied_leads Dropping l new o ts h e =
    let d = bind_some (popped l) (λ o. Some o.1) new h in
    let same : d.0.1 ≡ new = let s = d.2 in cc in
    let r = (popped_stays l d.0.0 new (d.1 ∙ ap (λ z. Some (d.0.0, z)) same)).0 in
    (inl (e, r.reached), r.sure)
applied_leads Selecting l new o ts h e =
    let r = selected_stays l new h in (inl (e, r.reached), r.sure)
applied_leads Refused l new o ts h e = absurd (cc)
