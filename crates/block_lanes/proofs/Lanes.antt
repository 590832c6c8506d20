-- Lists of lanes, and the numbers that tell them apart.
use Rattle.std.proofs.Common.{◌≡◌, ℕ, zero, suc, ◌+◌, ◌*◌, ◌/◌, ◌<◌, List, [], ◌∷◌, length, take}
use Rattle.std.proofs.Common.{drop, get_or, refl, sym, ap, ◌∙◌, arith, length-take, length-drop}
use Rattle.std.proofs.Common.{get_or-drop, take-append-drop}
use Rattle.std.proofs.lemmas.Nat.{le_bytes_8, and_le_l, and_le_r}
use Rattle.std.specs.Int.{w64, from_le_bytes}
use Rattle.std.specs.Int.Bits.{bit_or, bit_xor, or_add_and, xor_self, xor_assoc, xor_zero_l}
use Rattle.std.specs.Int.Bits.{xor_zero_r}
use Rattle.std.specs.List.{AllByRecursion}
use Rattle.std.specs.Simd.{first_chunks}

-- numbers of which neither has a bit have none together
pub or_empty : (a b : ℕ) → bit_or a b ≡ 0 → (a ≡ 0) × (b ≡ 0)
or_empty a b e = let sum = or_add_and a b in let l = and_le_l a b in let r = and_le_r a b in
    (omega arith, omega arith)

-- numbers that differ in no bit are equal
pub xor_empty : (a b : ℕ) → bit_xor a b ≡ 0 → a ≡ b
xor_empty a b e =
    let whole : bit_xor a (bit_xor b b) ≡ a = ap (λ y. bit_xor a y) (xor_self b) ∙ xor_zero_r a in
    let other : bit_xor (bit_xor a b) b ≡ b = ap (λ y. bit_xor y b) e ∙ xor_zero_l b in
    sym whole ∙ sym (xor_assoc a b b) ∙ other

-- eight bytes
pub record IsLane (x : List ℕ) : Type 0 where
  pub eight : length x ≡ 8
  pub bytes : (i : ℕ) → get_or x i 0 < 256

-- lanes that spell one number are equal
pub same_lane : (x y : List ℕ) → IsLane x → IsLane y → from_le_bytes w64 x ≡ from_le_bytes w64 y
    → x ≡ y
same_lane x y lx ly e =
    sym (le_bytes_8 x (from_le_bytes w64 x) lx.eight lx.bytes refl)
    ∙ le_bytes_8 y (from_le_bytes w64 x) ly.eight ly.bytes e

-- lists whose lanes are equal are equal
pub same_lists : (n k : ℕ) (xs ys : List ℕ) → length xs ≡ n * k → length ys ≡ n * k
    → first_chunks n k xs ≡ first_chunks n k ys → xs ≡ ys
same_lists n zero [] [] lx ly e = refl
same_lists n zero (x ∷ xs) ys lx ly e = absurd (omega (arith, lx))
same_lists n zero [] (y ∷ ys) lx ly e = absurd (omega (arith, ly))
same_lists n (suc k) xs ys lx ly e =
    let front : take n xs ≡ take n ys = cc in
    let behind : first_chunks n k (drop n xs) ≡ first_chunks n k (drop n ys) = cc in
    let count_x : length (drop n xs) ≡ n * k = omega (arith, length-drop n xs) in
    let count_y : length (drop n ys) ≡ n * k = omega (arith, length-drop n ys) in
    let rest : drop n xs ≡ drop n ys = same_lists n k (drop n xs) (drop n ys) count_x count_y behind
    in
    let x = take-append-drop n xs in
    let y = take-append-drop n ys in
    cc

bytes_in_front : (n : ℕ) (xs : List ℕ) → ((i : ℕ) → get_or xs i 0 < 256) → (i : ℕ)
    → get_or (take n xs) i 0 < 256
bytes_in_front zero xs h i = omega arith
bytes_in_front (suc n) [] h i = omega arith
bytes_in_front (suc n) (x ∷ xs) h zero = h 0
bytes_in_front (suc n) (x ∷ xs) h (suc i) = bytes_in_front n xs (λ j. h (suc j)) i

-- the lanes of bytes are lanes
pub are_lanes : (k : ℕ) (xs : List ℕ) → length xs ≡ 8 * k → ((i : ℕ) → get_or xs i 0 < 256)
    → AllByRecursion IsLane (first_chunks 8 k xs)
are_lanes zero xs l bytes = tt
are_lanes (suc k) xs l bytes =
    let count : length (drop 8 xs) ≡ 8 * k = omega (arith, length-drop 8 xs) in (
      record { eight = omega (arith, length-take 8 xs); bytes = bytes_in_front 8 xs bytes },
      are_lanes k (drop 8 xs) count (λ i. rw get_or-drop (bytes (8 + i))),
    )

length-first_chunks : (n k : ℕ) (xs : List ℕ) → length (first_chunks n k xs) ≡ k
length-first_chunks n zero xs = refl
length-first_chunks n (suc k) xs = ap suc (length-first_chunks n k (drop n xs))

-- How far two sectors are compared: the lanes of both that are left, and the bits in which the
-- lanes before them differ.
pub record Compared (a b : List ℕ) (xs ys : List (List ℕ)) (differing : ℕ) : Type 0 where
  pub xs_lanes : AllByRecursion IsLane xs
  pub ys_lanes : AllByRecursion IsLane ys
  pub as_many : length xs ≡ length ys
  pub equal : differing ≡ 0 → xs ≡ ys → a ≡ b
  pub different : a ≡ b → (differing ≡ 0) × (xs ≡ ys)

-- the bytes of a sector, and all of its lanes
pub record HasLanes (a : List ℕ) (xs : List (List ℕ)) : Type 0 where
  pub len : length a ≡ 512
  pub bytes : (i : ℕ) → get_or a i 0 < 256
  pub lanes : xs ≡ first_chunks 8 (length a / 8) a

all_lanes : {a : List ℕ} {xs : List (List ℕ)} → HasLanes a xs → xs ≡ first_chunks 8 64 a
all_lanes {a} h = h.lanes ∙ ap (λ n. first_chunks 8 (n / 8) a) h.len

pub begins : (a b : List ℕ) (xs ys : List (List ℕ)) → HasLanes a xs → HasLanes b ys
    → Compared a b xs ys 0
begins a b xs ys h k =
    let x = all_lanes h in
    let y = all_lanes k in
    let count_x = length-first_chunks 8 64 a in
    let count_y = length-first_chunks 8 64 b in
    record {
      xs_lanes = rw x (are_lanes 64 a h.len h.bytes);
      ys_lanes = rw y (are_lanes 64 b k.len k.bytes);
      as_many = ap length x ∙ (count_x ∙ (sym count_y ∙ sym (ap length y)));
      equal = λ _ e. same_lists 8 64 a b h.len k.len (sym x ∙ (e ∙ y));
      different = λ e. (refl, x ∙ (ap (λ z. first_chunks 8 64 z) e ∙ sym y));
    }

pub goes_on : (a b : List ℕ) (xs ys xs_left ys_left : List (List ℕ)) (x y : List ℕ)
    (differing number_x number_y : ℕ) → Compared a b xs ys differing
    → xs ≡ x ∷ xs_left → ys ≡ y ∷ ys_left → number_x ≡ from_le_bytes w64 x
    → number_y ≡ from_le_bytes w64 y
    → Compared a b xs_left ys_left (bit_or differing (bit_xor number_x number_y))
goes_on a b xs ys xs_left ys_left x y differing number_x number_y h ex ey nx ny =
    let lanes_x : AllByRecursion IsLane (x ∷ xs_left) = rw ex at h.xs_lanes in
    let lanes_y : AllByRecursion IsLane (y ∷ ys_left) = rw ey at h.ys_lanes in
    let long_x = ap length ex in
    let long_y = ap length ey in
    record {
      xs_lanes = lanes_x.1;
      ys_lanes = lanes_y.1;
      as_many = omega (arith, h.as_many, long_x, long_y);
      equal = λ none was_same.
          let both = or_empty differing (bit_xor number_x number_y) none in
          let numbers = xor_empty number_x number_y both.1 in
          let lane = same_lane x y lanes_x.0 lanes_y.0 (sym nx ∙ (numbers ∙ ny)) in
          h.equal both.0 cc;
      different = λ e.
          let before = h.different e in
          let zero_before = before.0 in
          let was_same = before.1 in
          let lane : x ≡ y = cc in
          let rest : xs_left ≡ ys_left = cc in
          let numbers : number_y ≡ number_x =
          ny ∙ (ap (λ z. from_le_bytes w64 z) (sym lane) ∙ sym nx) in
          let none : bit_xor number_x number_y ≡ 0 = ap (λ z. bit_xor number_x z) numbers
          ∙ xor_self number_x in (
            ap (λ z. bit_or z (bit_xor number_x number_y)) zero_before ∙ ap (λ z. bit_or 0 z) none,
            rest,
          );
    }

no_lanes : (xs ys : List (List ℕ)) → length xs ≡ length ys → length xs ≡ 0 → xs ≡ ys
no_lanes [] [] l e = refl
no_lanes (x ∷ xs) ys l e = absurd (omega arith)
no_lanes [] (y ∷ ys) l e = absurd (omega arith)

pub ends : (a b : List ℕ) (xs ys : List (List ℕ)) (differing : ℕ) → Compared a b xs ys differing
    → length xs ≡ 0
    → (differing ≡ 0 → a ≡ b) × (a ≡ b → differing ≡ 0)
ends a b xs ys differing h none =
    (λ e. h.equal e (no_lanes xs ys h.as_many none), λ e. (h.different e).0)
