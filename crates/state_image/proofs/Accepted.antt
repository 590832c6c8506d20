-- What is asked of a process that was read from an image.
use Rattle.std.proofs.Common.{◌≡◌, ◌≢◌, ℕ, suc, ◌+◌, ◌<◌, ◌≤◌, ◌^◌, Bool, false, List, [], ◌∷◌}
use Rattle.std.proofs.Common.{◌++◌, length, reverse, Option, Some, None, refl, sym, ap, ◌∙◌, subst}
use Rattle.std.proofs.Common.{inl, inr, arith}
use Rattle.std.specs.Prelude.{◌↔◌, IsTrue, slice_get, IfSome, IfNone, codes}
use Rattle.std.specs.List.{AllByRecursion}
use Rattle.std.proofs.lemmas.Grind.{reverse_onto}
use Rattle.std.proofs.lemmas.List.{reverse-reverse, length-reverse}
use Rattle.std.proofs.lemmas.Bool.{both_ways}
use Rattle.std.proofs.lemmas.Option.{slice_get_within, same_Some}
use Rattle.wasm_syntax.specs.declared.module.Module.{Module}
use Rattle.wasm_syntax.specs.declared.module.ExportItem.TheVariants as export
use Rattle.wasm_rules.specs.Validity.{IsValid}
use Rattle.wasm_rules.specs.Linking.{HasEntry}
use Rattle.wasm_rules.specs.Typed.{IsTypedMemory}
use Rattle.wasm_rules.proofs.Soundness.Beginning.{programs_typed}
use Rattle.machine_slots.specs.rules.Places.{ShownFrame}
use Rattle.machine.specs.rules.Loading.{ShowsSome}
use Rattle.machine.specs.rules.Values.{MachineValue}
use Rattle.process_rules.proofs.OneStart.{item_number, entry_once}
use Rattle.state_image.specs.rules.WellTyped.{EntryPoints, IsCalled, IsOutermost, IsPlaceWithin}
use Rattle.state_image.specs.restoring.Processes.{MayCome}
use Rattle.state_image.proofs.Machines.{all_reversed}
use Rattle.state_image.proofs.ShownBounds.{memory_few}

-- ---- the function that the host calls

same_entry : (m : Module) → IsValid m → (a b : ℕ) → HasEntry m a → HasEntry m b → a ≡ b
same_entry m valid a b h k =
    item_number a b (entry_once m.exports (codes "_start") (export.Function a) (export.Function b)
    valid.names h.exported k.exported)

-- while `_start` is to come
pub called_first : (m : Module) → IsValid m → (later : List ℕ) (f n : ℕ) (told : Bool)
    → MayCome m later → later ≢ [] → HasEntry m n → (IsTrue told ↔ (m.start ≡ Some f))
    → IsTrue told ↔ IsCalled (record { start = m.start; entry = n }) later f
called_first m valid later f n told (inl none) some has tells = absurd (some none)
called_first m valid later f n told (inr come) some has tells =
    let P : List ℕ → Type 0 = λ xs. IsTrue told ↔ IsCalled (record {
      start = m.start;
      entry = n;
    }) xs f in
    subst P (sym come.2)
    (λ is. (same_entry m valid come.0 n come.1 has, tells.0 is), λ is. tells.1 is.1)

by_entry : (m : Module) → IsValid m → (f n : ℕ) (told : Bool) (found : Option ℕ) → HasEntry m n
    → IfSome found (HasEntry m) → IfNone found ((k : ℕ) → HasEntry m k → ⊥)
    → (IsTrue told ↔ (found ≡ Some f)) → IsTrue told ↔ (f ≡ n)
by_entry m valid f n told None has some none tells = absurd (none n has)
by_entry m valid f n told (Some k) has some none tells =
    let same : k ≡ n = same_entry m valid k n some has in (
      λ is. sym (same_Some k f (tells.0 is)) ∙ same,
      λ is. tells.1 (ap (λ (x : ℕ). Some x) (same ∙ sym is)),
    )

-- in `_start`
pub called_last : (m : Module) → IsValid m → (later : List ℕ) (f n : ℕ) (told : Bool)
    (found : Option ℕ) → later ≡ [] → HasEntry m n → IfSome found (HasEntry m)
    → IfNone found ((k : ℕ) → HasEntry m k → ⊥) → (IsTrue told ↔ (found ≡ Some f))
    → IsTrue told ↔ IsCalled (record { start = m.start; entry = n }) later f
called_last m valid later f n told found none_later has some none tells =
    let P : List ℕ → Type 0 = λ xs. IsTrue told ↔ IsCalled (record {
      start = m.start;
      entry = n;
    }) xs f in
    subst P (sym none_later) (by_entry m valid f n told found has some none tells)

-- nothing is to come where that is told
pub none_of : (later : List ℕ) (told : Bool) → (IsTrue told ↔ (later ≢ [])) → told ≡ false
    → later ≡ []
none_of [] told tells e = refl
none_of (f ∷ later) told tells e = absurd (both_ways told e (tells.1 (λ gone. absurd (cc))))

-- ---- the outermost frame

first_in_front : {X : Type 0} (xs ys : List X) → xs ≢ [] → slice_get (xs ++ ys) 0 ≡ slice_get xs 0
first_in_front [] ys some = absurd (some refl)
first_in_front (x ∷ xs) ys some = refl

some_reversed : {X : Type 0} (x : X) (xs : List X) → reverse (x ∷ xs) ≢ []
some_reversed {X} x xs e =
    let long : length (reverse (x ∷ xs)) ≡ 0 = ap (λ (ys : List X). length ys) e in
    absurd (omega (arith, long, length-reverse (x ∷ xs)))

pub outermost_at : (b : EntryPoints) (later : List ℕ) (places : List ShownFrame) (p : ShownFrame)
    → slice_get (reverse places) 0 ≡ Some p
    → IsOutermost b later places ↔ IsCalled b later p.function
outermost_at b later [] p e = absurd (cc)
outermost_at b later (place ∷ []) p e =
    let same : place ≡ p = cc in
    let P : ShownFrame → Type 0 = λ q. IsCalled b later q.function in
    (λ h. subst P same h, λ h. subst P (sym same) h)
outermost_at b later (place ∷ next ∷ places) p e =
    outermost_at b later (next ∷ places) p
    (sym (first_in_front (reverse (next ∷ places)) (place ∷ []) (some_reversed next places))
    ∙ ap (λ (xs : List ShownFrame). slice_get xs 0)
    (sym (reverse_onto (next ∷ places) place [])) ∙ e)

-- ---- frames, one by one

-- each before a place, from the outermost one on
abbrev pub IsWithinAt : List ShownFrame → ℕ → Type 0
IsWithinAt places i =
    (p : ShownFrame) → slice_get (reverse places) i ≡ Some p → IsPlaceWithin p

abbrev pub AreWithinBefore : ℕ → List ShownFrame → Type 0
AreWithinBefore n places = (i : ℕ) → i < n → IsWithinAt places i

all_of : {X : Type 0} (P : X → Type 0) (xs : List X)
    → ((i : ℕ) (x : X) → slice_get xs i ≡ Some x → P x) → AllByRecursion P xs
all_of P [] each = tt
all_of P (x ∷ xs) each = (each 0 x refl, all_of P xs (λ i y e. each (suc i) y e))

pub all_within : (n : ℕ) (places : List ShownFrame) → length places ≤ n
    → AreWithinBefore n places → AllByRecursion IsPlaceWithin places
all_within n places le before =
    let turned = reverse places in
    let each = all_of IsPlaceWithin turned (λ i p e. before i
    (omega (arith, le, slice_get_within turned i p e, length-reverse places)) p e) in
    subst (AllByRecursion IsPlaceWithin) (reverse-reverse places)
    (all_reversed ShownFrame IsPlaceWithin turned each)

-- ---- bounds

pub memory_within : (v : MachineValue) → IsValid v.guest → ShowsSome v
    → length v.state.memory ≤ 2 ^ 32
memory_within v valid some =
    let is = some.shows.is in
    let typed = programs_typed is.pages v.guest some.shows.functions some.program is.few valid
    is.types is.is_program in
    let shows = some.shows.shows in
    memory_few some.program v.state.memory
    (subst (IsTypedMemory some.program) (sym shows.memory) shows.typed.store.memory) typed.pages

-- ---- alive

-- ---- over

no_frame : {X : Type 0} (xs : List X) → length xs ≤ 0 → xs ≡ []
no_frame [] h = refl
no_frame (x ∷ xs) h = absurd (omega (arith, h))

-- no frame, nothing to come, and two tests of the lines
pub all_over : (frames : List ShownFrame) (later first second : List ℕ) (starting told : Bool)
    → length frames ≤ 0 → (IsTrue starting ↔ (later ≢ [])) → starting ≡ false → first ≡ []
    → (IsTrue told ↔ (second ≡ []))
    → IsTrue told ↔ ((frames ≡ []) × (later ≡ []) × (first ≡ []) × (second ≡ []))
all_over frames later first second starting told none starts e gone tells = (
  λ is. (no_frame frames none, none_of later starting starts e, gone, tells.0 is),
  λ is. tells.1 is.3,
)
