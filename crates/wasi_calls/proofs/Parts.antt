-- Parts of a path between slashes, and the names among them.
use Rattle.std.proofs.Common.{◌≡◌, ◌≢◌, ℕ, zero, suc, ◌+◌, ◌-◌, ◌<◌, ◌≤◌, Bool, true, false, List}
use Rattle.std.proofs.Common.{[], ◌∷◌, length, take, drop, get_or, filter, refl, sym, ap, subst}
use Rattle.std.proofs.Common.{◌∙◌, eqb, arith}
use Rattle.std.specs.Prelude.{◌==◌, not, ◌&&◌, if◌then◌else◌}
use Rattle.std.proofs.lemmas.Bool.{eqb-true}
use Rattle.std.proofs.lemmas.List.{take_rest}
use Rattle.file_tree.specs.rules.Files.{Name, slash, dot}
use Rattle.wasi_calls_rules.specs.Paths.{is_dropped, is_back, parts_of, names_of}

-- ---- tests of a part by its length

both_false : (b : Bool) → (b && false) ≡ false
both_false true = refl
both_false false = refl

-- two bytes and more are kept
pub long_kept : (name : Name) → 2 ≤ length name → false ≡ is_dropped name
long_kept [] h = absurd (omega (arith, h))
long_kept (a ∷ []) h = absurd (omega (arith, h))
long_kept (a ∷ b ∷ name) h = sym (both_false (a == dot))

-- fewer than two don't lead back
pub short_on : (name : Name) → length name < 2 → false ≡ is_back name
short_on [] h = refl
short_on (a ∷ []) h = sym (both_false (a == dot))
short_on (a ∷ b ∷ name) h = absurd (omega (arith, h))

-- nor do three and more
pub long_on : (name : Name) → 3 ≤ length name → false ≡ is_back name
long_on (a ∷ b ∷ c ∷ name) h =
    sym (ap (λ (t : Bool). (a == dot) && t) (both_false (b == dot)) ∙ both_false (a == dot))
long_on _ h = absurd (omega (arith, h))

-- ---- the first part

-- none of the first so many bytes is a slash
abbrev pub HasNoSlash : ℕ → List ℕ → Type 0
HasNoSlash zero bytes = Unit {0}
HasNoSlash (suc n) [] = Unit {0}
HasNoSlash (suc n) (b ∷ bytes) = (b ≢ slash) × HasNoSlash n bytes

one_further : (n : ℕ) (bytes : List ℕ) → HasNoSlash n bytes → get_or bytes n 0 ≢ slash
    → HasNoSlash (suc n) bytes
one_further n [] h other = tt
one_further zero (b ∷ bytes) h other = (other, tt)
one_further (suc n) (b ∷ bytes) h other = (h.0, one_further n bytes h.1 other)

pub next_no_slash : (n : ℕ) (bytes : List ℕ) → HasNoSlash n bytes → get_or bytes n 0 ≢ slash
    → HasNoSlash (n + 1) bytes
next_no_slash n bytes h other =
    let next : suc n ≡ n + 1 = omega arith in
    subst (λ (k : ℕ). HasNoSlash k bytes) next (one_further n bytes h other)

no_slash : (b : ℕ) → b ≢ slash → eqb b slash ≡ false
no_slash b other = by_test (eqb b slash) refl where
  by_test : (t : Bool) → eqb b slash ≡ t → eqb b slash ≡ false
  by_test true e = absurd (other (eqb-true b slash e))
  by_test false e = e

onto_part : (b : ℕ) (part : Name) (bytes : List ℕ) (parts : List Name) → b ≢ slash
    → parts_of bytes ≡ part ∷ parts → parts_of (b ∷ bytes) ≡ (b ∷ part) ∷ parts
onto_part b part bytes parts other e = rw (no_slash b other, e) refl

-- the part before the first slash, and those after it
cut_parts : (n : ℕ) (bytes : List ℕ) → HasNoSlash n bytes → n < length bytes
    → get_or bytes n 0 ≡ slash → parts_of bytes ≡ take n bytes ∷ parts_of (drop (suc n) bytes)
cut_parts n [] h within is = absurd (omega (arith, within))
cut_parts zero (b ∷ bytes) h within is = rw is refl
cut_parts (suc n) (b ∷ bytes) h within is =
    onto_part b (take n bytes) bytes (parts_of (drop (suc n) bytes)) h.0
    (cut_parts n bytes h.1 (omega (arith, within)) is)

-- without a slash there is one part
one_part : (bytes : List ℕ) → HasNoSlash (length bytes) bytes → parts_of bytes ≡ bytes ∷ []
one_part [] h = refl
one_part (b ∷ bytes) h = onto_part b bytes bytes [] h.0 (one_part bytes h.1)

abbrev with_part_first : Name → List Name → List Name
with_part_first part names = if is_dropped part then names else part ∷ names

first_name : (part : Name) (parts : List Name)
    → filter (λ name. not (is_dropped name)) (part ∷ parts)
    ≡ with_part_first part (filter (λ name. not (is_dropped name)) parts)
first_name part parts = by_test (is_dropped part) where
  by_test : (t : Bool)
      → (if not t then part ∷ filter (λ name. not (is_dropped name)) parts
      else filter (λ name. not (is_dropped name)) parts)
      ≡ (if t then filter (λ name. not (is_dropped name)) parts
      else part ∷ filter (λ name. not (is_dropped name)) parts)
  by_test true = refl
  by_test false = refl

pub names_cut : (n : ℕ) (bytes : List ℕ) → HasNoSlash n bytes → n < length bytes
    → get_or bytes n 0 ≡ slash
    → names_of bytes ≡ with_part_first (take n bytes)
    (names_of (take (length bytes - (n + 1)) (drop (n + 1) bytes)))
names_cut n bytes h within is =
    let next : suc n ≡ n + 1 = omega arith in
    let rest : drop (suc n) bytes ≡ take (length bytes - (n + 1)) (drop (n + 1) bytes) =
    ap (λ (k : ℕ). drop k bytes) next ∙ sym (take_rest bytes (n + 1)) in
    ap (filter (λ name. not (is_dropped name))) (cut_parts n bytes h within is)
    ∙ first_name (take n bytes) (parts_of (drop (suc n) bytes))
    ∙ ap (λ (behind : List ℕ). with_part_first (take n bytes) (names_of behind)) rest

pub names_uncut : (n : ℕ) (bytes : List ℕ) → HasNoSlash n bytes → n ≡ length bytes
    → names_of bytes ≡ with_part_first bytes []
names_uncut n bytes h e =
    ap (filter (λ name. not (is_dropped name)))
    (one_part bytes (subst (λ (k : ℕ). HasNoSlash k bytes) e h))
    ∙ first_name bytes []
