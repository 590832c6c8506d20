-- The buffers that a call moves bytes of: how they are read, and what the rules' buffers have to do
-- with them.
use Rattle.std.proofs.Common.{◌≡◌, ℕ, zero, suc, ◌+◌, ◌-◌, ◌*◌, ◌<◌, ◌≤◌, min, inl, inr, List, []}
use Rattle.std.proofs.Common.{◌∷◌, ◌++◌, length, take, drop, refl, sym, ap, ◌∙◌, append_assoc}
use Rattle.std.proofs.Common.{arith, length-drop, length-append}
use Rattle.std.specs.Prelude.{Bool, true, false, ◌&&◌, sum_by, Result, Ok}
use Rattle.std.specs.List.{list_all}
use Rattle.std.proofs.lemmas.Bool.{cases_lt}
use Rattle.std.proofs.lemmas.List.Sums.{sum_by-cons}
use Rattle.std.proofs.lemmas.List.{append-nil, take-append-le, take_all, take-take, drop_all}
use Rattle.std.proofs.Math.Seq.{take-append-add}
use Rattle.guest_memory.specs.rules.Bytes.{part, with_part}
use Rattle.guest_memory.proofs.Ranges.{length-part}
use Rattle.wasi_abi.specs.declared.errno.Errno.TheVariants.{Fault}
use Rattle.wasi_abi.specs.rules.Layouts.{u32_at}
use Rattle.wasi_calls_rules.specs.Checks.{Bytes, Halt, ◌>>=◌, check_or, Buffer}
use Rattle.wasi_calls_rules.specs.Checks.{buffers_at, is_inside, gathered, scattered}
use Rattle.wasi_calls.specs.Moves.{total_len, fronts, AreInside}

-- ---- lengths

pub total_sum : (bs : List Buffer) → sum_by (λ (b : Buffer). b.len) bs ≡ total_len bs
total_sum [] = refl
total_sum (b ∷ bs) =
    sum_by-cons (λ (x : Buffer). x.len) b bs ∙ ap (λ (n : ℕ). b.len + n) (total_sum bs)

pub total_both : (xs ys : List Buffer) → total_len (xs ++ ys) ≡ total_len xs + total_len ys
total_both [] ys = omega arith
total_both (x ∷ xs) ys = let rest = total_both xs ys in omega (arith, rest)

pub total_fronts : (n : ℕ) (bs : List Buffer) → total_len (fronts n bs) ≡ min n (total_len bs)
total_fronts n [] = omega arith
total_fronts n (b ∷ bs) = let rest = total_fronts (n - b.len) bs in omega (arith, rest)

pub length_gathered : (m : Bytes) (bs : List Buffer) → AreInside m bs
    → length (gathered m bs) ≡ total_len bs
length_gathered m [] inside = refl
length_gathered m (b ∷ bs) inside =
    let rest = length_gathered m bs inside.1 in
    omega (
      arith,
      rest,
      length-part m b.from b.len inside.0,
      length-append (part m b.from b.len) (gathered m bs),
    )

-- ---- the fronts move what the rules move

pub inside_fronts : (m : Bytes) (n : ℕ) (bs : List Buffer) → AreInside m bs
    → AreInside m (fronts n bs)
inside_fronts m n [] inside = tt
inside_fronts m n (b ∷ bs) inside =
    let own = inside.0 in (
      omega (arith, own),
      inside_fronts m (n - b.len) bs inside.1,
    )

pub gathered_fronts : (m : Bytes) (n : ℕ) (bs : List Buffer) → AreInside m bs
    → gathered m (fronts n bs) ≡ take n (gathered m bs)
gathered_fronts m n [] inside = nothing n where
  nothing : (n : ℕ) → gathered m [] ≡ take n (gathered m [])
  nothing zero = refl
  nothing (suc n) = refl
gathered_fronts m n (b ∷ bs) inside =
    let p : Bytes = part m b.from b.len in
    let rest : Bytes = gathered m bs in
    let long : length p ≡ b.len = length-part m b.from b.len inside.0 in
    elim (cases_lt n b.len) [
      | inl lt ↦ (
          let own : min n b.len ≡ n = omega arith in
          let none : n - b.len ≡ 0 = omega arith in
          let later : gathered m (fronts 0 bs) ≡ [] = gathered_fronts m 0 bs inside.1 in
          rw (own, none, later)
          (append-nil (part m b.from n)
          ∙ sym (take-take n b.len (drop b.from m) (omega arith))
          ∙ sym (take-append-le n p rest (omega (arith, long)))))
      | inr ge ↦ (
          let own : min n b.len ≡ b.len = omega arith in
          let split : length p + (n - b.len) ≡ n = omega (arith, long) in
          rw own
          (ap (λ (x : Bytes). p ++ x) (gathered_fronts m (n - b.len) bs inside.1)
          ∙ sym (take-append-add p rest (n - b.len))
          ∙ ap (λ (k : ℕ). take k (p ++ rest)) split))
    ]

-- bytes of which there are few enough
take_few : (n len : ℕ) (bytes : Bytes) → length bytes ≤ n → take (min n len) bytes ≡ take len bytes
take_few n len bytes few = elim (cases_lt n len) [
  | inl lt ↦ (
      let own : min n len ≡ n = omega arith in
      rw own (take_all n bytes few ∙ sym (take_all len bytes (omega (arith, few)))))
  | inr ge ↦ (let own : min n len ≡ len = omega arith in rw own refl)
]

drop_few : (n len : ℕ) (bytes : Bytes) → length bytes ≤ n → drop (min n len) bytes ≡ drop len bytes
drop_few n len bytes few = elim (cases_lt n len) [
  | inl lt ↦ (
      let own : min n len ≡ n = omega arith in
      rw own (drop_all n bytes few ∙ sym (drop_all len bytes (omega (arith, few)))))
  | inr ge ↦ (let own : min n len ≡ len = omega arith in rw own refl)
]

pub scattered_fronts : (m : Bytes) (n : ℕ) (bs : List Buffer) (bytes : Bytes) → length bytes ≤ n
    → scattered m (fronts n bs) bytes ≡ scattered m bs bytes
scattered_fronts m n [] bytes few = refl
scattered_fronts m n (b ∷ bs) bytes few =
    ap (λ (x : Bytes). scattered (with_part m b.from x) (fronts (n - b.len) bs)
    (drop (min n b.len) bytes)) (take_few n b.len bytes few)
    ∙ ap (scattered (with_part m b.from (take b.len bytes)) (fronts (n - b.len) bs))
    (drop_few n b.len bytes few)
    ∙ scattered_fronts (with_part m b.from (take b.len bytes)) (n - b.len) bs (drop b.len bytes)
    (omega (arith, few, length-drop b.len bytes))

-- ---- how they are read

-- those so far, and then the fronts of so many more, once all of these are checked
abbrev pub named_on : Bytes → ℕ → ℕ → ℕ → List Buffer → Result (List Buffer) Halt
named_on m at count room front =
    check_or (list_all (is_inside m) (buffers_at m at count)) Fault >>= λ _.
    Ok (front ++ fronts room (buffers_at m at count))

-- the buffer that an iovec names
abbrev pub buffer_at : Bytes → ℕ → Buffer
buffer_at m at = record { from = u32_at m at; len = u32_at m (at + 4) }

next_is : (p t : Bool) (front after : List Buffer) (x : Buffer) (u : Unit {0})
    → check_or p Fault ≡ Ok u
    → (check_or (p && t) Fault >>= λ _. Ok (front ++ (x ∷ after)))
    ≡ (check_or t Fault >>= λ _. Ok ((front ++ x ∷ []) ++ after))
next_is true t front after x u e =
    ap (λ (y : List Buffer). check_or t Fault
    >>= λ _. Ok y) (sym (append_assoc front (x ∷ []) after))
next_is false t front after x u e = absurd (cc)

module _ (m : Bytes) (iovs count i : ℕ) (lt : i < count) where
  unrolled : count - i ≡ suc (count - (i + 1))
  unrolled = omega arith

  place : iovs + 8 * (i + 1) ≡ (iovs + 8 * i) + 8
  place = omega arith

  pub named_next : (room room_left : ℕ) (front : List Buffer) (total : Result (List Buffer) Halt)
      (u : Unit {0})
      → check_or (is_inside m (buffer_at m (iovs + 8 * i))) Fault ≡ Ok u
      → room_left ≡ room - (buffer_at m (iovs + 8 * i)).len
      → named_on m (iovs + 8 * i) (count - i) room front ≡ total
      → named_on m (iovs + 8 * (i + 1)) (count - (i + 1)) room_left
      (front ++ record {
        from = (buffer_at m (iovs + 8 * i)).from;
        len = min room (buffer_at m (iovs + 8 * i)).len;
      } ∷ [])
      ≡ total
  named_next room room_left front total u fine counts so_far =
      let b : Buffer = buffer_at m (iovs + 8 * i) in
      let bs : List Buffer = buffers_at m ((iovs + 8 * i) + 8) (count - (i + 1)) in
      let before : named_on m (iovs + 8 * i) (suc (count - (i + 1))) room front ≡ total =
      rw unrolled at so_far in
      rw (place, counts)
      (sym (next_is (is_inside m b) (list_all (is_inside m) bs) front (fronts (room - b.len) bs)
      (record { from = b.from; len = min room b.len }) u fine)
      ∙ before)

-- ---- bytes
