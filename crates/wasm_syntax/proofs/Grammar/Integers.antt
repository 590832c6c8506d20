-- Integers are read exactly.
use Rattle.std.proofs.Common.{◌≡◌, ℕ, ◌+◌, ◌-◌, ◌*◌, ◌^◌, ◌<◌, ◌≤◌, inl, inr, ltb, leb, eqb, List}
use Rattle.std.proofs.Common.{[], ◌∷◌, ◌++◌, Some, refl, sym, ap, ◌∙◌, subst, arith}
use Rattle.std.proofs.lemmas.Bool.{ltb-true, ltb-false, le-ltb, lt-ltb, eqb-true, eq-eqb, leb-true}
use Rattle.std.proofs.lemmas.Bool.{le-leb}
use Rattle.std.proofs.Math.Pow.{pow_mono}
use Rattle.wasm_syntax.specs.rules.Items.{IsThisByte, IsUnsigned, IsLastSigned, IsSigned, IsU32}
use Rattle.wasm_syntax.specs.laws.ReadingItems.{byte_at, exactly_at, fixed_at, unsigned_at}
use Rattle.wasm_syntax.specs.laws.ReadingItems.{last_signed, signed_at, leb_u32_at}
use Rattle.wasm_syntax.proofs.Grammar.Exact.{Reads, bind_some, check_some, chosen, some_is, parts}

-- ---- bytes

pub front_sound : (bytes : List ℕ) (b : ℕ) (rest : List ℕ) → byte_at bytes ≡ Some (b, rest)
    → IsThisByte b bytes rest
front_sound [] b rest e = absurd cc
front_sound (a ∷ bytes) b rest e = let p = parts a b bytes rest e in rw (p.0, p.1) refl

pub byte_sound : (wanted : ℕ) (bytes : List ℕ) (x : Unit {0}) (rest : List ℕ)
    → exactly_at wanted bytes ≡ Some (x, rest) → IsThisByte wanted bytes rest
byte_sound wanted [] x rest e = absurd cc
byte_sound wanted (b ∷ bytes) x rest e =
    let g = check_some (eqb b wanted) _ _ e in
    rw (eqb-true _ _ g.0, (parts tt x bytes rest g.1).1) refl

pub byte_complete : (wanted : ℕ) (bytes : List ℕ) (rest : List ℕ) → IsThisByte wanted bytes rest
    → exactly_at wanted bytes ≡ Some (tt, rest)
byte_complete wanted bytes rest e = rw (e, eq-eqb wanted wanted refl) refl

pub fixed_sound : (bs bytes : List ℕ) (x : Unit {0}) (rest : List ℕ)
    → fixed_at bs bytes ≡ Some (x, rest) → bytes ≡ bs ++ rest
unfolding fixed_at
fixed_sound [] bytes x rest e = (parts tt x bytes rest e).1
fixed_sound (b ∷ bs) bytes x rest e =
    let one = bind_some (exactly_at b bytes) _ _ e in
    byte_sound b bytes one.0.0 one.0.1 one.1
    ∙ ap (λ (t : List ℕ). b ∷ t) (fixed_sound bs one.0.1 x rest one.2)

pub fixed_complete : (bs rest : List ℕ) → fixed_at bs (bs ++ rest) ≡ Some (tt, rest)
unfolding fixed_at
fixed_complete [] rest = refl
fixed_complete (b ∷ bs) rest = rw (eq-eqb b b refl) (fixed_complete bs rest)

-- ---- an unsigned integer

pub unsigned_sound : (bits : ℕ) (bytes : List ℕ) (n : ℕ) (rest : List ℕ)
    → unsigned_at bits bytes ≡ Some (n, rest) → IsUnsigned bits bytes n rest
unfolding unsigned_at
unsigned_sound bits [] n rest e = absurd cc
unsigned_sound bits (b ∷ bytes) n rest e =
    elim (chosen (ltb b 128) _ _ _ e) [
      | inl small ↦
          let fits = check_some (ltb b (2 ^ bits)) _ _ small.1 in
          let p = parts b n bytes rest fits.1 in
          inl (ltb-true _ _ small.0, ltb-true _ _ fits.0, sym p.0, sym p.1)
      | inr large ↦
          let more = check_some (ltb 7 bits) _ _ large.1 in
          let high = bind_some (unsigned_at (bits - 7) bytes) _ _ more.1 in
          let p = parts (high.0.0 * 128 + (b - 128)) n high.0.1 rest high.2 in
          inr (
            ltb-false _ _ large.0,
            ltb-true _ _ more.0,
            high.0.0,
            subst (λ (r : List ℕ). IsUnsigned (bits - 7) bytes high.0.0 r) p.1
                (unsigned_sound (bits - 7) bytes high.0.0 high.0.1 high.1),
            sym p.0,
          )
    ]

pub unsigned_complete : (bits : ℕ) (bytes : List ℕ) (n : ℕ) (rest : List ℕ)
    → IsUnsigned bits bytes n rest → unsigned_at bits bytes ≡ Some (n, rest)
unfolding unsigned_at
unsigned_complete bits [] n rest h = absurd h
unsigned_complete bits (b ∷ bytes) n rest (inl h) =
    rw (lt-ltb _ _ h.0, lt-ltb _ _ h.1, h.2, h.3) refl
unsigned_complete bits (b ∷ bytes) n rest (inr h) =
    rw (le-ltb _ _ h.0, lt-ltb _ _ h.1, unsigned_complete (bits - 7) bytes h.2 rest h.3, h.4) refl

pub Reads-unsigned_at : (bits : ℕ) → Reads (IsUnsigned bits) (unsigned_at bits)
Reads-unsigned_at bits = record { sound = unsigned_sound bits; complete = unsigned_complete bits }

pub Reads-u32_at : Reads IsU32 leb_u32_at
Reads-u32_at = Reads-unsigned_at 32

-- ---- a signed integer

last_sound : (bits b n : ℕ) → b < 128 → last_signed bits b ≡ Some n → IsLastSigned bits b n
unfolding last_signed
last_sound bits b n small e =
    elim (chosen (ltb b 64) _ _ _ e) [
      | inl low ↦
          let fits = check_some (ltb b (2 ^ (bits - 1))) _ _ low.1 in
          inl (ltb-true _ _ low.0, ltb-true _ _ fits.0, sym (some_is b n fits.1))
      | inr high ↦
          let fits = check_some (leb 128 (b + 2 ^ (bits - 1))) _ _ high.1 in
          let wide : 2 ^ (bits - 1) ≤ 2 ^ bits = (let le : bits - 1 ≤ bits = omega arith in
          pow_mono le) in
          inr (
            ltb-false _ _ high.0,
            small,
            leb-true _ _ fits.0,
            omega (arith, some_is (b + 2 ^ bits - 128) n fits.1, leb-true _ _ fits.0, wide),
          )
    ]

last_complete : (bits b n : ℕ) → IsLastSigned bits b n → last_signed bits b ≡ Some n
unfolding last_signed
last_complete bits b n (inl h) = rw (lt-ltb _ _ h.0, lt-ltb _ _ h.1, h.2) refl
last_complete bits b n (inr h) =
    let wide : 2 ^ (bits - 1) ≤ 2 ^ bits = (let le : bits - 1 ≤ bits = omega arith in pow_mono le)
    in
    let n_is : b + 2 ^ bits - 128 ≡ n = omega (arith, h.3, h.2, wide) in
    rw (le-ltb _ _ h.0, le-leb _ _ h.2, n_is) refl

pub signed_sound : (bits : ℕ) (bytes : List ℕ) (n : ℕ) (rest : List ℕ)
    → signed_at bits bytes ≡ Some (n, rest) → IsSigned bits bytes n rest
unfolding signed_at
signed_sound bits [] n rest e = absurd cc
signed_sound bits (b ∷ bytes) n rest e =
    elim (chosen (ltb b 128) _ _ _ e) [
      | inl small ↦
          let last = bind_some (last_signed bits b) _ _ small.1 in
          let p = parts last.0 n bytes rest last.2 in
          inl (
            ltb-true _ _ small.0,
            subst (λ (k : ℕ). IsLastSigned bits b k) p.0
                (last_sound bits b last.0 (ltb-true _ _ small.0) last.1),
            sym p.1,
          )
      | inr large ↦
          let more = check_some (ltb 7 bits) _ _ large.1 in
          let high = bind_some (signed_at (bits - 7) bytes) _ _ more.1 in
          let p = parts (high.0.0 * 128 + (b - 128)) n high.0.1 rest high.2 in
          inr (
            ltb-false _ _ large.0,
            ltb-true _ _ more.0,
            high.0.0,
            subst (λ (r : List ℕ). IsSigned (bits - 7) bytes high.0.0 r) p.1
                (signed_sound (bits - 7) bytes high.0.0 high.0.1 high.1),
            sym p.0,
          )
    ]

pub signed_complete : (bits : ℕ) (bytes : List ℕ) (n : ℕ) (rest : List ℕ)
    → IsSigned bits bytes n rest → signed_at bits bytes ≡ Some (n, rest)
unfolding signed_at
signed_complete bits [] n rest h = absurd h
signed_complete bits (b ∷ bytes) n rest (inl h) =
    rw (lt-ltb _ _ h.0, last_complete bits b n h.1, h.2) refl
signed_complete bits (b ∷ bytes) n rest (inr h) =
    rw (le-ltb _ _ h.0, lt-ltb _ _ h.1, signed_complete (bits - 7) bytes h.2 rest h.3, h.4) refl

pub Reads-signed_at : (bits : ℕ) → Reads (IsSigned bits) (signed_at bits)
Reads-signed_at bits = record { sound = signed_sound bits; complete = signed_complete bits }
