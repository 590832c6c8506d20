-- Buffers gone through one after another: what is left of their bytes, and what was put into them.
use Rattle.std.proofs.Common.{◌≡◌, ℕ, ◌+◌, ◌<◌, ◌≤◌, inl, inr, List, [], ◌∷◌, ◌++◌, length, take}
use Rattle.std.proofs.Common.{drop, get_or, refl, sym, ap, ◌∙◌, append_assoc, arith, length-take}
use Rattle.std.proofs.Common.{length-drop, length-append}
use Rattle.std.proofs.lemmas.Bool.{cases_lt}
use Rattle.std.proofs.lemmas.List.{take_all, take-take, drop_more, drop_all, drop-drop, drop-take}
use Rattle.std.proofs.lemmas.List.{drop-append-le, take-append-drop}
use Rattle.guest_memory.specs.rules.Bytes.{part, with_part}
use Rattle.guest_memory.proofs.Ranges.{length-with_part}
use Rattle.wasi_calls_rules.specs.Checks.{Bytes, Buffer, gathered, scattered}
use Rattle.wasi_calls_rules.specs.Lines.{Cut, cut_byte, cut_all}
use Rattle.wasi_calls_rules.specs.declared.output_stream.OutputStream.{OutputStream}
use Rattle.wasi_calls.specs.Moves.{total_len, AreInside}

-- ---- one buffer more

pub next_one : (bs : List Buffer) (i : ℕ) (b : Buffer) → i < length bs → b ≡ get_or bs i b
    → drop i bs ≡ b ∷ drop (i + 1) bs
next_one bs i b lt at = drop_more bs i b lt ∙ ap (λ (x : Buffer). x ∷ drop (i + 1) bs) (sym at)

module _ (m : Bytes) (bs : List Buffer) (i : ℕ) (b : Buffer)
    (split : drop i bs ≡ b ∷ drop (i + 1) bs) where
  pub next_inside : AreInside m (drop i bs)
      → (b.from + b.len ≤ length m) × AreInside m (drop (i + 1) bs)
  next_inside inside = rw split at inside

  pub next_gathered : gathered m (drop i bs)
      ≡ part m b.from b.len ++ gathered m (drop (i + 1) bs)
  next_gathered = ap (gathered m) split

  pub next_total : total_len (drop i bs) ≡ b.len + total_len (drop (i + 1) bs)
  next_total = ap total_len split

  pub next_scattered : (source : Bytes) → scattered m (drop i bs) source
      ≡ scattered (with_part m b.from (take b.len source)) (drop (i + 1) bs) (drop b.len source)
  next_scattered source = ap (λ (xs : List Buffer). scattered m xs source) split

-- ---- runs of bytes

pub cut_both : (stream : OutputStream) (c : Cut) (xs ys : Bytes)
    → cut_all stream c (xs ++ ys) ≡ cut_all stream (cut_all stream c xs) ys
cut_both stream c [] ys = refl
cut_both stream c (x ∷ xs) ys = cut_both stream (cut_byte stream c x) xs ys

-- ---- bytes put into buffers

pub scattered_total : (m : Bytes) (bs : List Buffer) (bytes : Bytes)
    → scattered m bs (take (total_len bs) bytes) ≡ scattered m bs bytes
scattered_total m [] bytes = refl
scattered_total m (b ∷ bs) bytes =
    let t : ℕ = total_len bs in
    let front : take b.len (take (b.len + t) bytes) ≡ take b.len bytes =
    take-take b.len (b.len + t) bytes (omega arith) in
    ap (λ (x : Bytes). scattered (with_part m b.from x) bs (drop b.len (take (b.len + t) bytes)))
    front
    ∙ ap (scattered (with_part m b.from (take b.len bytes)) bs) (drop-take b.len t bytes)
    ∙ scattered_total (with_part m b.from (take b.len bytes)) bs (drop b.len bytes)

-- what is left once a buffer has taken its part
pub rest_behind : (source : Bytes) (moved len : ℕ)
    → drop (moved + length (take len (drop moved source))) source
    ≡ drop len (drop moved source)
rest_behind source moved len =
    let taken = length-take len (drop moved source) in
    let rest = length-drop moved source in
    elim (cases_lt (length (drop moved source)) len) [
      | inl lt ↦ (
          drop_all (moved + length (take len (drop moved source))) source
          (omega (arith, taken, rest, lt))
          ∙ sym (drop_all len (drop moved source) (omega (arith, lt))))
      | inr ge ↦ (
          let all : length (take len (drop moved source)) ≡ len = omega (arith, taken) in
          ap (λ (n : ℕ). drop (moved + n) source) all ∙ sym (drop-drop len moved source))
    ]

-- how many bytes are moved from here on
pub counts_on : (source : Bytes) (moved len rest total : ℕ)
    → moved + length (take (len + rest) (drop moved source)) ≡ total
    → (moved + length (take len (drop moved source)))
    + length (take rest (drop (moved + length (take len (drop moved source))) source))
    ≡ total
counts_on source moved len rest total so_far =
    let now : ℕ = moved + length (take len (drop moved source)) in
    omega (
      arith,
      so_far,
      length-take (len + rest) (drop moved source),
      length-take len (drop moved source),
      length-take rest (drop now source),
      length-drop moved source,
      length-drop now source,
    )

-- so many bytes of a source are in the buffers before these
pub record IsMoved (old now : Bytes) (bs rest : List Buffer) (source : Bytes) (moved : ℕ)
    : Type 0 where
  pub size : length now ≡ length old
  pub inside : AreInside old rest
  pub puts : scattered now rest (drop moved source) ≡ scattered old bs source
  pub counts : moved + length (take (total_len rest) (drop moved source))
      ≡ length (take (total_len bs) source)

module _ (old now : Bytes) (bs items : List Buffer) (source : Bytes) (moved i : ℕ) (b : Buffer)
    (split : drop i items ≡ b ∷ drop (i + 1) items)
    (so_far : IsMoved old now bs (drop i items) source moved) where
  pub moved_inside : b.from + b.len ≤ length now
  moved_inside =
      let own = (next_inside old items i b split so_far.inside).0 in
      omega (arith, own, so_far.size)

  pub moved_next : (piece after : Bytes) (n : ℕ) → piece ≡ take b.len (drop moved source)
      → after ≡ with_part now b.from piece → n ≡ moved + length piece
      → IsMoved old after bs (drop (i + 1) items) source n
  moved_next piece after n is put count =
      let rest : List Buffer = drop (i + 1) items in
      let len = ap length is in
      let taken = length-take b.len (drop moved source) in
      let inside = moved_inside in
      let k : n ≡ moved + length (take b.len (drop moved source)) = omega (arith, count, len) in
      record {
        size = ap length put
            ∙ length-with_part now b.from piece (omega (arith, inside, len, taken))
            ∙ so_far.size;
        inside = (next_inside old items i b split so_far.inside).1;
        puts = rw (put, is, k)
            (ap (scattered (with_part now b.from (take b.len (drop moved source))) rest)
            (rest_behind source moved b.len)
            ∙ sym (next_scattered now items i b split (drop moved source)) ∙ so_far.puts);
        counts = rw k (counts_on source moved b.len (total_len rest)
            (length (take (total_len bs) source))
            (ap (λ (t : ℕ). moved + length (take t (drop moved source)))
            (sym (next_total old items i b split)) ∙ so_far.counts));
      }

pub moved_all : (old now : Bytes) (bs : List Buffer) (source : Bytes) (moved : ℕ)
    → IsMoved old now bs [] source moved
    → (now ≡ scattered old bs (take (total_len bs) source))
    × (moved ≡ length (take (total_len bs) source))
moved_all old now bs source moved all =
    let counts = all.counts in (
      all.puts ∙ sym (scattered_total old bs source),
      omega (arith, counts),
    )

pub moved_few : (n total most : ℕ) (source : Bytes) → n ≡ length (take total source) → total ≤ most
    → n ≤ most
moved_few n total most source is few = omega (arith, is, few, length-take total source)

-- ---- a piece of a range that was lent

pub lent_piece : (m : Bytes) (from len : ℕ) (piece : Bytes) → from + len ≤ length m
    → length piece ≤ len
    → take (length m) (with_part m from (piece ++ drop (length piece) (part m from len)))
    ≡ with_part m from piece
lent_piece m from len piece inside few =
    let k : ℕ = length piece in
    let ys : Bytes = drop from m in
    let back : Bytes = drop k (take len ys) in
    let rest_length = length-drop from m in
    let taken = length-take len ys in
    let size : length (piece ++ back) ≡ len =
    omega (
      arith,
      length-append piece back,
      length-drop k (take len ys),
      taken,
      rest_length,
      inside,
      few,
    ) in
    let after : back ++ drop (from + length (piece ++ back)) m ≡ drop (from + k) m =
    ap (λ (n : ℕ). back ++ drop (from + n) m) size
    ∙ ap (λ (x : Bytes). back ++ x) (sym (drop-drop len from m))
    ∙ sym (drop-append-le k (take len ys) (drop len ys) (omega
    (arith, taken, rest_length, inside, few))) ∙ ap (drop k) (take-append-drop len ys)
    ∙ drop-drop k from m in
    let is : with_part m from (piece ++ back) ≡ with_part m from piece =
    ap (λ (x : Bytes). take from m ++ x)
    (append_assoc piece back (drop (from + length (piece ++ back)) m)
    ∙ ap (λ (x : Bytes). piece ++ x) after) in
    ap (take (length m)) is
    ∙ take_all (length m) (with_part m from piece)
    (omega (arith, length-with_part m from piece (omega (arith, inside, few))))

-- no bytes change nothing
pub scattered_none : (m : Bytes) (bs : List Buffer) → scattered m bs [] ≡ m
scattered_none m [] = refl
scattered_none m (b ∷ bs) =
    let front : take {A = ℕ} b.len [] ≡ [] = take_all b.len [] (omega arith) in
    let back : drop {A = ℕ} b.len [] ≡ [] = drop_all b.len [] (omega arith) in
    let at : b.from + 0 ≡ b.from = omega arith in
    ap (λ (x : Bytes). scattered (with_part m b.from x) bs (drop b.len [])) front
    ∙ ap (scattered (with_part m b.from []) bs) back
    ∙ ap (λ (x : Bytes). scattered x bs []) (ap (λ (n : ℕ). take b.from m ++ drop n m) at
    ∙ take-append-drop b.from m)
    ∙ scattered_none m bs
