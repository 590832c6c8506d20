-- Branches, returns and entries, seen on words.
use Rattle.std.proofs.Common.{◌≡◌, ℕ, zero, suc, ◌+◌, List, [], ◌∷◌, ◌++◌, length, drop, replicate}
use Rattle.std.proofs.Common.{Option, Some, None, refl, sym, ap, ◌∙◌, arith, append_assoc}
use Rattle.std.proofs.Common.{length-append}
use Rattle.std.specs.Prelude.{map, reverse}
use Rattle.std.specs.Option.{option_map}
use Rattle.std.proofs.lemmas.List.{map-append, length-map, length-reverse, reverse-append}
use Rattle.std.proofs.lemmas.List.{reverse-reverse, replicate_more}
use Rattle.wasm_syntax.specs.declared.types.ValueType.{ValueType}
use Rattle.wasm_syntax.specs.declared.types.ValueType.TheVariants.{I32, I64}
use Rattle.wasm_syntax.specs.declared.value.Value.{Value}
use Rattle.wasm_syntax.specs.rules.Sequence.{Sequence}
use Rattle.wasm_rules.specs.Types.{number_in}
use Rattle.wasm_rules.specs.Configuration.{Label, LabelOf, FrameOf}
use Rattle.wasm_rules.specs.Steps.{topmost, branch, held_below, zero_of}
use Rattle.machine_slots.specs.rules.Places.{all_below}
use Rattle.machine_slots.specs.Frames.{frame_words}
use Rattle.machine_slots.specs.laws.Laws.{kept_by, BranchesFall, ReturnsFall, EntryPushesZeros}
use Rattle.machine_slots.proofs.Families.{map-reverse}

pub held_all : (labels : List Label) → held_below labels ≡ length (all_below labels)
held_all [] = refl
held_all (LabelOf keeps target below after which ∷ labels) =
    omega (arith, held_all labels, length-append below (all_below labels))

-- the topmost values are in front of the others
pub topmost_is : (n : ℕ) (vs : List Value) {kept : List Value} → topmost n vs ≡ Some kept →
    (length kept ≡ n) × (vs ≡ kept ++ drop n vs)
topmost_is zero vs {kept} e = let same : kept ≡ [] = cc in rw same (refl, refl)
topmost_is (suc n) [] e = absurd (cc)
topmost_is (suc n) (v ∷ vs) {kept} e = more (λ taken h. topmost_is n vs h) (topmost n vs) refl e
  where
    more : ((taken : List Value) → topmost n vs ≡ Some taken → (length taken ≡ n)
        × (vs ≡ taken ++ drop n vs)) → (o : Option (List Value)) → topmost n vs ≡ o
        → option_map (λ taken. v ∷ taken) o ≡ Some kept → (length kept ≡ suc n)
        × (v ∷ vs ≡ kept ++ drop n vs)
    more go None h e = absurd (cc)
    more go (Some taken) h e =
        let r = go taken h in
        let same : kept ≡ v ∷ taken = cc in
        rw same (ap suc r.0, ap (λ z. v ∷ z) r.1)

-- which values a branch keeps, and which it leaves
record Leads (l : ℕ) (labels outer : List Label) (vs values : List Value) : Type 0 where
  kept : List Value
  spare : List Value
  skipped : List Value
  below : List Value
  counts : kept_by l labels ≡ length kept
  height : held_below (drop l labels) ≡ length (below ++ all_below outer)
  operands : vs ≡ kept ++ spare
  leaves : values ≡ kept ++ below
  all : all_below labels ≡ skipped ++ (below ++ all_below outer)

leads : (l f g : ℕ) (ls ms : List Value) (labels outer : List Label) (vs values : List Value)
    (target : Sequence) → branch l f ls labels vs ≡ Some (FrameOf g ms outer values target)
    → Leads l labels outer vs values
leads zero f g ls ms [] outer vs values target e = absurd (cc)
leads (suc l) f g ls ms [] outer vs values target e = absurd (cc)
leads zero f g ls ms (LabelOf keeps target' below after which ∷ labels) outer vs values target e =
    here (topmost keeps vs) refl e
  where
    here : (o : Option (List Value)) → topmost keeps vs ≡ o
        → option_map (λ kept. FrameOf f ls labels (kept ++ below) target') o
        ≡ Some (FrameOf g ms outer values target)
        → Leads zero (LabelOf keeps target' below after which ∷ labels) outer vs values
    here None h e = absurd (cc)
    here (Some kept) h e =
        let t = topmost_is keeps vs h in
        let same : labels ≡ outer = cc in
        let parts_are : kept ++ below ≡ values = cc in
        record {
          kept = kept;
          spare = drop keeps vs;
          skipped = [];
          below = below;
          counts = sym t.0;
          height = held_all (LabelOf keeps target' below after which ∷ labels)
              ∙ ap (λ z. length (below ++ all_below z)) same;
          operands = t.1;
          leaves = sym parts_are;
          all = ap (λ z. below ++ all_below z) same;
        }
leads (suc l) f g ls ms (LabelOf keeps target' below after which
    ∷ labels) outer vs values target e =
    let r = leads l f g ls ms labels outer vs values target e in
    record {
      kept = r.kept;
      spare = r.spare;
      skipped = below ++ r.skipped;
      below = r.below;
      counts = r.counts;
      height = r.height;
      operands = r.operands;
      leaves = r.leaves;
      all = ap (λ z. below ++ z) r.all
          ∙ sym (append_assoc below r.skipped (r.below ++ all_below outer));
    }

-- a branch parts the words of a frame into those that are kept, those that go and those that stay
-- below
pub branch_splits : BranchesFall
branch_splits l f g ls ms labels outer vs values target callers e =
    let r = leads l f g ls ms labels outer vs values target e in
    let tail : List ℕ = map number_in (reverse ls) ++ callers in
    let inner : List Value = r.below ++ all_below outer in
    let under : List ℕ = map number_in inner ++ tail in
    let between : List ℕ = map number_in r.spare ++ map number_in r.skipped in
    let operands : map number_in vs ≡ map number_in r.kept ++ map number_in r.spare =
    ap (map number_in) r.operands ∙ map-append number_in r.kept r.spare in
    let all : map number_in (all_below labels) ≡ map number_in r.skipped ++ map number_in inner =
    ap (map number_in) r.all ∙ map-append number_in r.skipped inner in
    let split : frame_words ls vs (map number_in (all_below labels)) callers ≡ map number_in r.kept
    ++ (between ++ under) =
    ap (λ z. z ++ (map number_in (all_below labels) ++ tail)) operands
    ∙ ap (λ z. (map number_in r.kept ++ map number_in r.spare) ++ (z ++ tail)) all
    ∙ append_assoc (map number_in r.kept) (map number_in r.spare) ((map number_in r.skipped
    ++ map number_in inner) ++ tail)
    ∙ ap (λ z. map number_in r.kept
    ++ (map number_in r.spare ++ z)) (append_assoc (map number_in r.skipped)
    (map number_in inner) tail)
    ∙ ap (λ z. map number_in r.kept
    ++ z) (sym (append_assoc (map number_in r.spare) (map number_in r.skipped) under)) in
    let parts_are : map number_in r.kept ++ under
    ≡ frame_words ls values (map number_in (all_below outer)) callers =
    ap (λ z. map number_in r.kept ++ (z ++ tail)) (map-append number_in r.below (all_below outer))
    ∙ ap (λ z. map number_in r.kept
    ++ z) (append_assoc (map number_in r.below) (map number_in (all_below outer)) tail)
    ∙ sym (append_assoc (map number_in r.kept) (map number_in r.below)
    (map number_in (all_below outer) ++ tail))
    ∙ ap (λ z. z ++ (map number_in (all_below outer) ++ tail))
    (sym (map-append number_in r.kept r.below) ∙ ap (map number_in) (sym r.leaves)) in
    record {
      kept = map number_in r.kept;
      between = between;
      under = under;
      keeps_is = r.counts ∙ sym (length-map r.kept number_in);
      height_is = omega (
        arith,
        r.height,
        length-append (map number_in inner) tail,
        length-map inner number_in,
        length-append (map number_in (reverse ls)) callers,
        length-map (reverse ls) number_in,
        length-reverse ls,
      );
      before = split;
      after = sym parts_are;
    }

-- so does a return, which keeps the results and none of its frame
pub return_splits : ReturnsFall
return_splits n ls vs results below callers e =
    let t = topmost_is n vs e in
    let tail : List ℕ = below ++ (map number_in (reverse ls) ++ callers) in
    let between : List ℕ = map number_in (drop n vs) ++ (below ++ map number_in (reverse ls)) in
    record {
      kept = map number_in results;
      between = between;
      under = callers;
      keeps_is = sym t.0 ∙ sym (length-map results number_in);
      height_is = refl;
      before =
          ap (λ z. z ++ tail) (ap (map number_in) t.1 ∙ map-append number_in results (drop n vs))
          ∙ append_assoc (map number_in results) (map number_in (drop n vs)) tail
          ∙ ap (λ z. map number_in results
          ++ (map number_in (drop n vs)
          ++ z)) (sym (append_assoc below (map number_in (reverse ls)) callers))
          ∙ ap (λ z. map number_in results
          ++ z) (sym (append_assoc (map number_in (drop n vs)) (below
          ++ map number_in (reverse ls)) callers));
      after = refl;
    }

-- ---- entry

zero_word : (t : ValueType) → number_in (zero_of t) ≡ 0
zero_word I32 = refl
zero_word I64 = refl

zero_words : (types : List ValueType)
    → map number_in (map zero_of types) ≡ replicate (length types) 0
zero_words [] = refl
zero_words (t ∷ types) = rw (zero_word t, zero_words types) refl

pub reverse-replicate : (n x : ℕ) → reverse (replicate n x) ≡ replicate n x
reverse-replicate zero x = refl
reverse-replicate (suc n) x =
    reverse-append (x ∷ []) (replicate n x)
    ∙ ap (λ z. z ++ x ∷ []) (reverse-replicate n x)
    ∙ replicate_more n x
    ∙ (let one : n + 1 ≡ suc n = omega arith in rw one refl)

-- a function's frame is its arguments, and zeros above them
pub entry_pushes : EntryPushesZeros
entry_pushes arguments declared callers =
    let zeros : List ℕ = replicate (length declared) 0 in
    let numbers : List ℕ = map number_in arguments in
    let turned : map number_in (reverse (reverse arguments ++ map zero_of declared)) ≡ zeros
    ++ numbers =
    map-reverse number_in (reverse arguments ++ map zero_of declared)
    ∙ ap reverse (map-append number_in (reverse arguments) (map zero_of declared))
    ∙ reverse-append (map number_in (reverse arguments)) (map number_in (map zero_of declared))
    ∙ ap (λ z. z ++ reverse (map number_in (reverse arguments))) (ap reverse (zero_words declared)
    ∙ reverse-replicate (length declared) 0)
    ∙ ap (λ z. zeros ++ z) (sym (map-reverse number_in (reverse arguments))
    ∙ ap (map number_in) (reverse-reverse arguments)) in
    ap (λ z. z ++ callers) turned ∙ append_assoc zeros numbers callers
