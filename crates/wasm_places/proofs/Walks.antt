-- Items that are read one after another, up to the one in which a byte lies.
use Rattle.std.proofs.Common.{◌≡◌, ℕ, ◌<◌, ◌≤◌, List, [], ◌∷◌, ◌++◌, length, Option, Some}
use Rattle.std.proofs.Common.{None, refl, sym, ap, subst, ◌∙◌, append_assoc, arith}
use Rattle.wasm_syntax.specs.rules.Items.{AreItems}
use Rattle.wasm_syntax.proofs.Grammar.Exact.{Reads, just, parts}
use Rattle.wasm_syntax.proofs.Grammar.Shorter.{TakesBytes, items_shorter}
use Rattle.wasm_places.specs.rules.Places.{IsInItem}

pub none_some : {A : Type 0} (x : A) → None ≡ just x → ⊥
none_some x e = absurd cc

module _ {X : Type 0} (IsItem : List ℕ → X → List ℕ → Type 0) (item_at : List ℕ
    → Option (X × List ℕ)) (reads : Reads IsItem item_at) where
  -- ---- one more item

  pub one_more : (bytes : List ℕ) (xs : List X) (now : List ℕ) (x : X) (next : List ℕ)
      → AreItems IsItem bytes xs now → IsItem now x next
      → AreItems IsItem bytes (xs ++ x ∷ []) next
  one_more bytes [] now x next are is = (next, subst (λ (b : List ℕ). IsItem b x next) are is, refl)
  one_more bytes (y ∷ xs) now x next are is =
      (are.0, are.1, one_more are.0 xs now x next are.2 is)

  -- ---- where the byte lies, of what is left

  -- The byte isn't in the item that is read. So it is in a later one, if in any.
  pub passes : (now : List ℕ) (x : X) (next : List ℕ) (left : ℕ) → item_at now ≡ Some (x, next)
      → left ≤ length next → (before : List X) (y : X) (rest : List ℕ)
      → IsInItem IsItem now left before y rest
      → (behind : List X) × (before ≡ x ∷ behind) × IsInItem IsItem next left behind y rest
  passes now x next left read ahead [] y rest h =
      let is : IsItem now y rest = subst (λ (b : List ℕ). IsItem b y rest) h.earlier h.is in
      let same = parts x y next rest (sym read ∙ reads.complete now y rest is) in
      absurd (omega (arith, h.ends, ahead, ap length same.1))
  passes now x next left read ahead (z ∷ before) y rest h =
      let same = parts x z next h.earlier.0
      (sym read ∙ reads.complete now z h.earlier.0 h.earlier.1) in (
        before,
        ap (λ (w : X). w ∷ before) (sym same.0),
        record {
          from = h.from;
          earlier = subst (λ (b : List ℕ). AreItems IsItem b before h.from) (sym same.1)
              h.earlier.2;
          is = h.is;
          begins = h.begins;
          ends = h.ends;
        },
      )

  -- the byte is in the item that is read, and in no other
  pub only_here : TakesBytes IsItem
      → (now : List ℕ) (x : X) (next : List ℕ) (left : ℕ) → item_at now ≡ Some (x, next)
      → length next < left → (before : List X) (y : X) (rest : List ℕ)
      → IsInItem IsItem now left before y rest → (before ≡ []) × (y ≡ x) × (rest ≡ next)
  only_here takes now x next left read shut [] y rest h =
      let is : IsItem now y rest = subst (λ (b : List ℕ). IsItem b y rest) h.earlier h.is in
      let same = parts x y next rest (sym read ∙ reads.complete now y rest is) in
      (refl, sym same.0, sym same.1)
  only_here takes now x next left read shut (z ∷ before) y rest h =
      let same = parts x z next h.earlier.0
      (sym read ∙ reads.complete now z h.earlier.0 h.earlier.1) in
      let shorter = items_shorter IsItem takes h.earlier.0 before h.from h.earlier.2 in
      absurd (omega (arith, h.begins, shut, shorter, ap length same.1))

  -- no item is left
  pub none_left : (now : List ℕ) (left : ℕ) → item_at now ≡ None → (before : List X) (y : X)
      (rest : List ℕ) → IsInItem IsItem now left before y rest → ⊥
  none_left now left none [] y rest h =
      let is : IsItem now y rest = subst (λ (b : List ℕ). IsItem b y rest) h.earlier h.is in
      none_some (y, rest) (sym none ∙ reads.complete now y rest is)
  none_left now left none (z ∷ before) y rest h =
      none_some (z, h.earlier.0)
      (sym none ∙ reads.complete now z h.earlier.0 h.earlier.1)

  -- the byte is before all items
  pub none_before : TakesBytes IsItem → (now : List ℕ) (left : ℕ) → length now < left
      → (before : List X) (y : X) (rest : List ℕ) → IsInItem IsItem now left before y rest → ⊥
  none_before takes now left shut before y rest h =
      omega (arith, items_shorter IsItem takes now before h.from h.earlier, h.begins, shut)

  -- ---- what a loop has read

  -- These items were read, and the byte is in none of them.
  pub record SoFar (all : List ℕ) (left : ℕ) (now : List ℕ) : Type 0 where
    pub before : List X
    pub are : AreItems IsItem all before now
    pub ahead : left ≤ length now
    pub remains : (earlier : List X) (y : X) (rest : List ℕ)
        → IsInItem IsItem all left earlier y rest
        → (behind : List X) × (earlier ≡ before ++ behind) × IsInItem IsItem now left behind y rest

  abbrev pub begins : (all : List ℕ) (left : ℕ) → left ≤ length all → SoFar all left all
  begins all left ahead = record {
    before = [];
    are = refl;
    ahead = ahead;
    remains = λ earlier y rest h. (earlier, refl, h);
  }

  abbrev pub goes_on : (all : List ℕ) (left : ℕ) (now : List ℕ) (x : X) (next : List ℕ)
      → item_at now ≡ Some (x, next) → left ≤ length next → SoFar all left now
      → SoFar all left next
  goes_on all left now x next read ahead so_far = record {
    before = so_far.before ++ x ∷ [];
    are = one_more all so_far.before now x next so_far.are (reads.sound now x next read);
    ahead = ahead;
    remains = λ earlier y rest h.
        let here = so_far.remains earlier y rest h in
        let later = passes now x next left read ahead here.0 y rest here.2 in (
          later.0,
          here.1 ∙ ap (λ (xs : List X). so_far.before ++ xs) later.1
              ∙ sym (append_assoc so_far.before (x ∷ []) later.0),
          later.2,
        );
  }

  pub found_here : (all : List ℕ) (left : ℕ) (now : List ℕ) (x : X) (next : List ℕ)
      → item_at now ≡ Some (x, next) → length next < left → (so_far : SoFar all left now)
      → IsInItem IsItem all left so_far.before x next
  found_here all left now x next read shut so_far = record {
    from = now;
    earlier = so_far.are;
    is = reads.sound now x next read;
    begins = so_far.ahead;
    ends = shut;
  }
