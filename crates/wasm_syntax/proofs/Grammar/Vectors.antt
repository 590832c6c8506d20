-- Vectors, names and what a length leads are read exactly.
use Rattle.std.proofs.Common.{◌≡◌, ℕ, zero, suc, ◌≤◌, false, ltb, eqb, List, [], ◌∷◌, ◌++◌, length}
use Rattle.std.proofs.Common.{take, drop, Option, Some, refl, sym, ap, subst, arith}
use Rattle.std.specs.List.{AllByRecursion}
use Rattle.std.specs.Str.{is_utf8}
use Rattle.std.proofs.lemmas.Str.{IsUtf8-from_is_utf8, is_utf8-from_IsUtf8}
use Rattle.std.proofs.lemmas.Bool.{ltb-false, le-ltb, eqb-true}
use Rattle.std.proofs.lemmas.List.{take-append-drop, length-append, length-take-le, take_at}
use Rattle.std.proofs.lemmas.List.{drop_at, nil_from_length}
use Rattle.wasm_syntax.specs.rules.Items.{IsU32, AreItems, IsVector, IsBytes, IsName, IsSized}
use Rattle.wasm_syntax.specs.laws.ReadingItems.{whole_at, leb_u32_at, part_at, items_at, vector_at}
use Rattle.wasm_syntax.specs.laws.ReadingItems.{vector_up_to_at, bytes_at, name_at, sized_at}
use Rattle.wasm_syntax.proofs.Grammar.Exact.{Reads, bind_some, check_some, guard_some, pass_some}
use Rattle.wasm_syntax.proofs.Grammar.Exact.{found, some_is, parts, carry}
use Rattle.wasm_syntax.proofs.Grammar.Integers.{Reads-u32_at}

-- ---- items that are all of the bytes

pub whole_sound : {X : Type 0} (IsItem : List ℕ → X → List ℕ → Type 0) (item_at : List ℕ
    → Option (X × List ℕ)) → Reads IsItem item_at
    → (bytes : List ℕ) (x : X) → whole_at item_at bytes ≡ Some x → IsItem bytes x []
whole_sound {X} IsItem item_at reads bytes x e =
    let one = bind_some (item_at bytes) _ _ e in
    let g = check_some (eqb (length one.0.1) 0) _ _ one.2 in
    let ended : one.0.1 ≡ [] = nil_from_length one.0.1 (eqb-true _ _ g.0) in
    let is = reads.sound bytes one.0.0 one.0.1 one.1 in
    subst (λ (y : X). IsItem bytes y []) (some_is one.0.0 x g.1)
    (subst (λ (r : List ℕ). IsItem bytes one.0.0 r) ended is)

pub whole_complete : {X : Type 0} (IsItem : List ℕ → X → List ℕ → Type 0) (item_at : List ℕ
    → Option (X × List ℕ)) → Reads IsItem item_at
    → (bytes : List ℕ) (x : X) → IsItem bytes x [] → whole_at item_at bytes ≡ Some x
whole_complete IsItem item_at reads bytes x is = rw (reads.complete bytes x [] is) refl

-- ---- so many bytes

-- so many bytes, and the rest
abbrev pub IsPart : ℕ → List ℕ → List ℕ → List ℕ → Type 0
IsPart len bytes part rest = (bytes ≡ part ++ rest) × (length part ≡ len)

pub Reads-part_at : (len : ℕ) → Reads (IsPart len) (part_at len)
Reads-part_at len = record {
  sound = λ bytes x rest e.
      let g = guard_some (ltb (length bytes) len) (found (take len bytes) (drop len bytes)) (
        x,
        rest,
      ) e in
      let p = parts (take len bytes) x (drop len bytes) rest g.1 in
      let long : len ≤ length bytes = ltb-false _ _ g.0 in (
        rw (← p.0, ← p.1) (sym (take-append-drop len bytes)),
        rw (← p.0) (length-take-le len bytes long),
      );
  complete = λ bytes x rest h.
      let long : ltb (length (x ++ rest)) len ≡ false =
      le-ltb _ _ (omega (arith, length-append x rest, h.1)) in
      rw (h.0, long, take_at x rest len h.1, drop_at x rest len h.1) refl;
}

pub Reads-bytes_at : Reads IsBytes bytes_at
unfolding bytes_at
Reads-bytes_at = record {
  sound = λ bytes x rest e.
      let len = bind_some (leb_u32_at bytes) _ _ e in
      let is = (Reads-part_at len.0.0).sound len.0.1 x rest len.2 in (
        len.0.1,
        subst (λ (n : ℕ). IsU32 bytes n len.0.1) (sym is.1)
            (Reads-u32_at.sound bytes len.0.0 len.0.1 len.1),
        is.0,
      );
  complete = λ bytes x rest h.
      rw (Reads-u32_at.complete bytes (length x) h.0 h.1)
      ((Reads-part_at (length x)).complete h.0 x rest (h.2, refl));
}

pub Reads-name_at : Reads IsName name_at
unfolding name_at
Reads-name_at = record {
  sound = λ bytes x rest e.
      let p = bind_some (bytes_at bytes) _ _ e in
      let g = pass_some (is_utf8 p.0.0) _ _ p.2 in
      carry (IsName bytes) p.0.0 x p.0.1 rest g.1 (
        Reads-bytes_at.sound bytes p.0.0 p.0.1 p.1,
        IsUtf8-from_is_utf8 p.0.0 g.0,
      );
  complete = λ bytes x rest h. rw (
    Reads-bytes_at.complete bytes x rest h.0,
    is_utf8-from_IsUtf8 x h.1,
  ) refl;
}

pub Reads-sized_at : {X : Type 0} (IsContent : List ℕ → X → List ℕ → Type 0) (content_at : List ℕ
    → Option (X × List ℕ)) → Reads IsContent content_at
    → Reads (IsSized IsContent) (sized_at content_at)
unfolding sized_at
Reads-sized_at IsContent content_at reads = record {
  sound = λ bytes x rest e.
      let p = bind_some (bytes_at bytes) _ _ e in
      let c = bind_some (whole_at content_at p.0.0) _ _ p.2 in
      carry (IsSized IsContent bytes) c.0 x p.0.1 rest c.2 (
        p.0.0,
        Reads-bytes_at.sound bytes p.0.0 p.0.1 p.1,
        whole_sound IsContent content_at reads p.0.0 c.0 c.1,
      );
  complete = λ bytes x rest h.
      rw (
        Reads-bytes_at.complete bytes h.0 rest h.1,
        whole_complete IsContent content_at reads h.0 x h.2,
      ) refl;
}

-- ---- vectors

items_sound : {X : Type 0} (IsItem : List ℕ → X → List ℕ → Type 0) (item_at : List ℕ
    → Option (X × List ℕ)) → Reads IsItem item_at
    → (n : ℕ) (bytes : List ℕ) (xs : List X) (rest : List ℕ)
    → items_at item_at n bytes ≡ Some (xs, rest) → AreItems IsItem bytes xs rest
    × (length xs ≡ n)
unfolding items_at
items_sound IsItem item_at reads zero bytes xs rest e =
    let p = parts [] xs bytes rest e in
    rw (← p.0, ← p.1) (refl, refl)
items_sound {X} IsItem item_at reads (suc n) bytes xs rest e =
    let first = bind_some (item_at bytes) _ _ e in
    let others = bind_some (items_at item_at n first.0.1) _ _ first.2 in
    let below = items_sound IsItem item_at reads n first.0.1 others.0.0 others.0.1 others.1 in
    carry (λ (ys : List X) (r : List ℕ). AreItems IsItem bytes ys r
    × (length ys ≡ suc n)) (first.0.0 ∷ others.0.0) xs others.0.1 rest others.2
    ((first.0.1, reads.sound bytes first.0.0 first.0.1 first.1, below.0), ap suc below.1)

items_complete : {X : Type 0} (IsItem : List ℕ → X → List ℕ → Type 0) (item_at : List ℕ
    → Option (X × List ℕ)) → Reads IsItem item_at
    → (bytes : List ℕ) (xs : List X) (rest : List ℕ) → AreItems IsItem bytes xs rest
    → items_at item_at (length xs) bytes ≡ Some (xs, rest)
unfolding items_at
items_complete IsItem item_at reads bytes [] rest h = rw h refl
items_complete IsItem item_at reads bytes (x ∷ xs) rest h =
    rw (reads.complete bytes x h.0 h.1, items_complete IsItem item_at reads h.0 xs rest h.2) refl

pub Reads-vector_at : {X : Type 0} (IsItem : List ℕ → X → List ℕ → Type 0) (item_at : List ℕ
    → Option (X × List ℕ)) → Reads IsItem item_at → Reads (IsVector IsItem) (vector_at item_at)
unfolding vector_at
Reads-vector_at IsItem item_at reads = record {
  sound = λ bytes xs rest e.
      let count = bind_some (leb_u32_at bytes) _ _ e in
      let items = items_sound IsItem item_at reads count.0.0 count.0.1 xs rest count.2 in
      (count.0.1, rw items.1 (Reads-u32_at.sound bytes count.0.0 count.0.1 count.1), items.0);
  complete = λ bytes xs rest h.
      rw (
        Reads-u32_at.complete bytes (length xs) h.0 h.1,
        items_complete IsItem item_at reads h.0 xs rest h.2,
      ) refl;
}

-- a vector of at most so many items
abbrev pub IsVectorUpTo : {X : Type 0} → (List ℕ → X → List ℕ → Type 0) → ℕ → List ℕ → List X
    → List ℕ → Type 0
IsVectorUpTo IsItem most bytes xs rest = IsVector IsItem bytes xs rest × (length xs ≤ most)

pub Reads-vector_up_to_at : {X : Type 0} (IsItem : List ℕ → X → List ℕ → Type 0) (item_at : List ℕ
    → Option (X × List ℕ)) (most : ℕ) → Reads IsItem item_at
    → Reads (IsVectorUpTo IsItem most) (vector_up_to_at item_at most)
unfolding vector_up_to_at
Reads-vector_up_to_at IsItem item_at most reads = record {
  sound = λ bytes xs rest e.
      let count = bind_some (leb_u32_at bytes) _ _ e in
      let g = guard_some (ltb most count.0.0) _ _ count.2 in
      let items = items_sound IsItem item_at reads count.0.0 count.0.1 xs rest g.1 in (
        (count.0.1, rw items.1 (Reads-u32_at.sound bytes count.0.0 count.0.1 count.1), items.0),
        omega (arith, items.1, ltb-false _ _ g.0),
      );
  complete = λ bytes xs rest h.
      let small : ltb most (length xs) ≡ false = le-ltb _ _ h.1 in
      rw (
        Reads-u32_at.complete bytes (length xs) h.0.0 h.0.1,
        small,
        items_complete IsItem item_at reads h.0.0 xs rest h.0.2,
      ) refl;
}

-- items that keep to a limit each
pub items_within : {X : Type 0} (IsItem : List ℕ → X → List ℕ → Type 0) (Fits : X
    → Type 0) (bytes : List ℕ) (xs : List X) (rest : List ℕ)
    → AreItems (λ b x r. IsItem b x r × Fits x) bytes xs rest → AreItems IsItem bytes xs rest
    × AllByRecursion Fits xs
items_within IsItem Fits bytes [] rest h = (h, tt)
items_within IsItem Fits bytes (x ∷ xs) rest h =
    let below = items_within IsItem Fits h.0 xs rest h.2 in
    ((h.0, h.1.0, below.0), (h.1.1, below.1))

pub within_items : {X : Type 0} (IsItem : List ℕ → X → List ℕ → Type 0) (Fits : X
    → Type 0) (bytes : List ℕ) (xs : List X) (rest : List ℕ)
    → AreItems IsItem bytes xs rest → AllByRecursion Fits xs
    → AreItems (λ b x r. IsItem b x r × Fits x) bytes xs rest
within_items IsItem Fits bytes [] rest h fits = h
within_items IsItem Fits bytes (x ∷ xs) rest h fits =
    (h.0, (h.1, fits.0), within_items IsItem Fits h.0 xs rest h.2 fits.1)

-- a vector whose items keep to a limit each
pub Reads-vector_at-within : {X : Type 0} (IsItem : List ℕ → X → List ℕ → Type 0) (Fits : X
    → Type 0) (item_at : List ℕ → Option (X × List ℕ))
    → Reads (λ b x r. IsItem b x r × Fits x) item_at
    → Reads (λ b xs r. IsVector IsItem b xs r × AllByRecursion Fits xs) (vector_at item_at)
Reads-vector_at-within {X} IsItem Fits item_at reads =
    let all = Reads-vector_at (λ (b : List ℕ) (x : X) (r : List ℕ). IsItem b x r
    × Fits x) item_at reads in
    record {
      sound = λ bytes xs rest e.
          let h = all.sound bytes xs rest e in
          let split = items_within IsItem Fits h.0 xs rest h.2 in
          ((h.0, h.1, split.0), split.1);
      complete = λ bytes xs rest h. all.complete bytes xs rest (
        h.0.0,
        h.0.1,
        within_items IsItem Fits h.0.0 xs rest h.0.2 h.1,
      );
    }
