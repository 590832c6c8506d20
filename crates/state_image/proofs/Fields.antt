-- Fields of bytes one after another: from their front on, one field is told from another.
use Rattle.std.proofs.Common.{◌≡◌, ℕ, ◌^◌, ◌<◌, List, [], ◌∷◌, ◌++◌, length, refl, sym, ap, ◌∙◌}
use Rattle.std.proofs.Common.{append_assoc, arith}
use Rattle.std.specs.List.{AllByRecursion, flat_map}
use Rattle.guest_memory.specs.rules.Bytes.{number_of, bytes_of}
use Rattle.guest_memory.proofs.ByteLemmas.{length-bytes_of, number_of-bytes_of}
use Rattle.wasi_abi.specs.rules.Layouts.{u32_bytes}
use Rattle.state_image.specs.rules.ProcessImage.{text_bytes, items_bytes}
use Rattle.state_image.specs.rules.Ranges.{IsIn, IsShort, AreFew}

-- ---- what is in front

-- two fronts of one length are the same, and so is what follows
pub same_front : (X : Type 0) (a b rest other : List X) → length a ≡ length b
    → a ++ rest ≡ b ++ other → (a ≡ b) × (rest ≡ other)
same_front X [] [] rest other l e = (refl, e)
same_front X [] (y ∷ b) rest other l e = absurd (omega (arith, l))
same_front X (x ∷ a) [] rest other l e = absurd (omega (arith, l))
same_front X (x ∷ a) (y ∷ b) rest other l e =
    let heads : x ≡ y = cc in
    let tails : a ++ rest ≡ b ++ other = cc in
    let later = same_front X a b rest other (omega (arith, l)) tails in
    let lists : a ≡ b = later.0 in
    (cc, later.1)

-- ---- fields

-- of values with P, the bytes of one in front of any others tell the value and the others
pub record Tells (X : Type 0) (P : X → Type 0) (bytes : X → List ℕ) : Type 0 where
  pub front : (x y : X) (rest other : List ℕ) → P x → P y → bytes x ++ rest ≡ bytes y ++ other
      → (x ≡ y) × (rest ≡ other)

-- so do they in front of further fields
pub cut : (X : Type 0) (P : X → Type 0) (bytes : X → List ℕ) → Tells X P bytes
    → (x y : X) (more others rest other : List ℕ) → P x → P y
    → (bytes x ++ more) ++ rest ≡ (bytes y ++ others) ++ other
    → (x ≡ y) × (more ++ rest ≡ others ++ other)
cut X P bytes tells x y more others rest other p q e =
    tells.front x y (more ++ rest) (others ++ other) p q
    (sym (append_assoc (bytes x) more rest) ∙ e ∙ append_assoc (bytes y) others other)

pub number_field : (n : ℕ) → Tells ℕ (IsIn n) (bytes_of n)
number_field n = record { front = told } where
  told : (x y : ℕ) (rest other : List ℕ) → x < 256 ^ n → y < 256 ^ n
      → bytes_of n x ++ rest ≡ bytes_of n y ++ other → (x ≡ y) × (rest ≡ other)
  told x y rest other p q e =
      let same = same_front ℕ (bytes_of n x) (bytes_of n y) rest other
      (length-bytes_of n x ∙ sym (length-bytes_of n y)) e in
      (sym (number_of-bytes_of n x p) ∙ ap number_of same.0 ∙ number_of-bytes_of n y q, same.1)

-- a byte
pub byte_field : Tells ℕ (IsIn 1) (λ b. b ∷ [])
byte_field = record { front = told } where
  told : (x y : ℕ) (rest other : List ℕ) → IsIn 1 x → IsIn 1 y → x ∷ rest ≡ y ∷ other
      → (x ≡ y) × (rest ≡ other)
  told x y rest other p q e = (cc, cc)

-- a text after its length in so many bytes
pub counted_field : (n : ℕ) → Tells (List ℕ) (λ text. IsIn n (length text))
    (λ text. bytes_of n (length text) ++ text)
counted_field n = record { front = told } where
  told : (x y rest other : List ℕ) → IsIn n (length x) → IsIn n (length y)
      → (bytes_of n (length x) ++ x) ++ rest ≡ (bytes_of n (length y) ++ y) ++ other
      → (x ≡ y) × (rest ≡ other)
  told x y rest other p q e =
      let lengths = cut ℕ (IsIn n) (bytes_of n) (number_field n) (length x) (length y) x y rest
      other p q e in
      same_front ℕ x y rest other lengths.0 lengths.1

pub text_field : Tells (List ℕ) IsShort text_bytes
text_field = counted_field 4

-- ---- items behind their number

same_items : (X : Type 0) (P : X → Type 0) (bytes : X → List ℕ) → Tells X P bytes
    → (xs ys : List X) (rest other : List ℕ) → length xs ≡ length ys → AllByRecursion P xs
    → AllByRecursion P ys
    → flat_map bytes xs ++ rest ≡ flat_map bytes ys ++ other → (xs ≡ ys) × (rest ≡ other)
same_items X P bytes tells [] [] rest other l p q e = (refl, e)
same_items X P bytes tells [] (y ∷ ys) rest other l p q e = absurd (omega (arith, l))
same_items X P bytes tells (x ∷ xs) [] rest other l p q e = absurd (omega (arith, l))
same_items X P bytes tells (x ∷ xs) (y ∷ ys) rest other l p q e =
    let first = cut X P bytes tells x y (flat_map bytes xs) (flat_map bytes ys) rest other p.0 q.0
    e in
    let later = same_items X P bytes tells xs ys rest other (omega (arith, l)) p.1 q.1 first.1 in
    let heads : x ≡ y = first.0 in
    let tails : xs ≡ ys = later.0 in
    (cc, later.1)

pub items_field : (X : Type 0) (P : X → Type 0) (bytes : X → List ℕ) → Tells X P bytes
    → Tells (List X) (AreFew X P) (items_bytes bytes)
items_field X P bytes tells = record { front = told } where
  told : (xs ys : List X) (rest other : List ℕ) → AreFew X P xs → AreFew X P ys
      → items_bytes bytes xs ++ rest ≡ items_bytes bytes ys ++ other → (xs ≡ ys) × (rest ≡ other)
  told xs ys rest other p q e =
      let counts = cut ℕ (IsIn 4) u32_bytes (number_field 4) (length xs) (length ys)
      (flat_map bytes xs) (flat_map bytes ys) rest other p.few q.few e in
      same_items X P bytes tells xs ys rest other counts.0 p.each q.each counts.1
