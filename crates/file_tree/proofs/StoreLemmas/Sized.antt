-- Chunks of a file of a size, and what a change makes of them.
use Rattle.std.proofs.Common.{◌≡◌, ℕ, zero, suc, ◌+◌, ◌*◌, ◌-◌, ◌<◌, ◌≤◌, min, List, [], ◌∷◌}
use Rattle.std.proofs.Common.{◌++◌, length, take, drop, refl, sym, ap, subst, ◌∙◌, get_or, arith}
use Rattle.std.proofs.Common.{length-append, length-take, length-drop}
use Rattle.std.specs.Prelude.{replicate}
use Rattle.std.specs.List.{concat}
use Rattle.std.proofs.lemmas.List.{append-nil, take_all, take-take, take_at, drop_at}
use Rattle.std.proofs.lemmas.List.{take-append-drop, replicate-append-replicate, length-replicate}
use Rattle.std.proofs.lemmas.List.{take_min}
use Rattle.std.proofs.lemmas.Nat.{div-add-mod', mod_below}
use Rattle.file_tree.specs.declared.limits.TheConstants.{CHUNK_BYTES}
use Rattle.file_tree.specs.rules.Bytes.{written, resized}
use Rattle.file_tree.specs.rules.Chunks.{chunks_for, chunk_of}
use Rattle.file_tree.specs.Store.Chunked.{overlaid, AreFull, AreChunks}
use Rattle.file_tree.proofs.StoreLemmas.Padded.{is_resized}
use Rattle.file_tree.proofs.StoreLemmas.Overs.{append_assoc, full_append, length-joined}
use Rattle.file_tree.proofs.StoreLemmas.Overs.{joined_append, joined_take, piece_joined}
use Rattle.file_tree.proofs.StoreLemmas.Overs.{take-overlaid, drop-overlaid, over_written}

-- ---- how many chunks there are

-- they have room for all bytes, and no chunk is empty
pub enough : (n : ℕ) → n ≤ chunks_for n * CHUNK_BYTES
enough n = omega (
  arith,
  div-add-mod' (n + (CHUNK_BYTES - 1)) CHUNK_BYTES,
  mod_below (n + (CHUNK_BYTES - 1)) CHUNK_BYTES (omega arith),
)

pub no_more : (n : ℕ) → chunks_for n * CHUNK_BYTES < n + CHUNK_BYTES
no_more n = omega (arith, div-add-mod' (n + (CHUNK_BYTES - 1)) CHUNK_BYTES)

pub not_fewer : (m n : ℕ) → m ≤ n → chunks_for m ≤ chunks_for n
not_fewer m n le = omega (arith, no_more m, enough n, le)

-- ---- chunks and their bytes

abbrev pub zeros_of : ℕ → List ℕ
zeros_of n = replicate n 0

-- bytes with zeros after them are chunks of that size
pub record AreMade (cs : List (List ℕ)) (size : ℕ) (bytes : List ℕ) : Type 0 where
  pub are : AreChunks cs size
  pub bytes_are : take size (concat cs) ≡ bytes

are_made : (cs : List (List ℕ)) (size : ℕ) (bytes : List ℕ) → AreFull cs
    → length cs ≡ chunks_for size → length bytes ≡ size
    → concat cs ≡ bytes ++ zeros_of (length cs * CHUNK_BYTES - size) → AreMade cs size bytes
are_made cs size bytes full count sized e =
    let zs = zeros_of (length cs * CHUNK_BYTES - size) in
    record {
      are = record {
        full = full;
        count = count;
        zeros = ap (drop size) e
            ∙ drop_at bytes zs size sized;
      };
      bytes_are = ap (take size) e ∙ take_at bytes zs size sized;
    }

-- bytes within a front are those of the front
front_of : (xs : List ℕ) (from len n : ℕ) → n ≤ len - from
    → take n (drop from (take len xs)) ≡ take n (drop from xs)
front_of xs zero len n h = take-take n len xs (omega (arith, h))
front_of [] (suc from) zero n h = refl
front_of [] (suc from) (suc len) n h = refl
front_of (x ∷ xs) (suc from) zero zero h = refl
front_of (x ∷ xs) (suc from) zero (suc n) h = absurd (omega (arith, h))
front_of (x ∷ xs) (suc from) (suc len) n h = front_of xs from len n (omega (arith, h))

module _ (cs : List (List ℕ)) (len : ℕ) (are : AreChunks cs len) where
  bytes : List ℕ
  bytes = take len (concat cs)

  fits : len ≤ length cs * CHUNK_BYTES
  fits = omega (arith, are.count, enough len)

  pub size_is : (now : List ℕ) → take len (concat cs) ≡ now → length now ≡ len
  size_is now e = omega (
    arith,
    ap (λ (xs : List ℕ). length xs) e,
    length-take len (concat cs),
    length-joined cs are.full,
    fits,
  )

  padded : concat cs ≡ take len (concat cs) ++ zeros_of (length cs * CHUNK_BYTES - len)
  padded = sym (take-append-drop len (concat cs))
      ∙ ap (λ (xs : List ℕ). take len (concat cs) ++ xs) are.zeros

  -- bytes put in the place of others
  pub is_put : (ds : List (List ℕ)) (now : List ℕ) (from : ℕ) (ys : List ℕ)
      → take len (concat cs) ≡ now → from + length ys ≤ length now
      → AreFull ds → length ds ≡ length cs → concat ds ≡ overlaid (concat cs) from ys
      → AreMade ds len (written now from ys)
  is_put ds now from ys e within full count put =
      let sized = size_is now e in
      record {
        are = record {
          full = full;
          count = count ∙ are.count;
          zeros =
              ap (drop len) put
              ∙ drop-overlaid len (concat cs) from ys (omega (arith, within, sized)) ∙ are.zeros
              ∙ ap (λ (k : ℕ). zeros_of (k * CHUNK_BYTES - len)) (sym count);
        };
        bytes_are =
            ap (take len) put ∙ take-overlaid len (concat cs) from ys
            ∙ ap (λ (xs : List ℕ). overlaid xs from ys) e
            ∙ over_written now from ys within;
      }

  -- more bytes, with chunks of zeros for them
  pub is_grown : (ds : List (List ℕ)) (now : List ℕ) (size more : ℕ) → take len (concat cs) ≡ now
      → len ≤ size → more ≡ chunks_for size - length cs
      → ds ≡ cs ++ replicate more (zeros_of CHUNK_BYTES) → AreMade ds size (resized now size)
  is_grown ds now size more e le m d =
      let sized = size_is now e in
      let fresh = replicate more (zeros_of CHUNK_BYTES) in
      let count : length ds ≡ chunks_for size =
      omega (
        arith,
        ap (λ (xs : List (List ℕ)). length xs) d,
        length-append cs fresh,
        length-replicate more (zeros_of CHUNK_BYTES),
        m,
        are.count,
        not_fewer len size le,
      ) in
      let full : AreFull ds =
      subst AreFull (sym d) (full_append cs fresh are.full (full_zeros more)) in
      let pad = length cs * CHUNK_BYTES - len in
      let bytes_left = length ds * CHUNK_BYTES - size in
      let same : pad + more * CHUNK_BYTES ≡ (size - length now) + bytes_left =
      omega (arith, sized, count, m, are.count, not_fewer len size le, fits, enough size, le) in
      let whole : take size now ≡ now = take_all size now (omega (arith, sized, le)) in
      are_made ds size (resized now size) full count
      (omega (
        arith,
        ap (λ (xs : List ℕ). length xs) (sym (is_resized now size)),
        length-append (take size now) (zeros_of (size - length now)),
        ap (λ (xs : List ℕ). length xs) whole,
        length-replicate {A = ℕ} (size - length now) 0,
        sized,
        le,
      ))
      (ap concat d ∙ joined_append cs fresh
      ∙ ap (λ (xs : List ℕ). xs ++ concat fresh) (padded
      ∙ ap (λ (xs : List ℕ). xs ++ zeros_of pad) e)
      ∙ ap (λ (xs : List ℕ). (now ++ zeros_of pad) ++ xs) (joined_zeros more)
      ∙ append_assoc now (zeros_of pad) (zeros_of (more * CHUNK_BYTES))
      ∙ ap (λ (xs : List ℕ). now ++ xs) (replicate-append-replicate pad (more * CHUNK_BYTES) 0
      ∙ ap zeros_of same ∙ sym (replicate-append-replicate (size - length now) bytes_left 0))
      ∙ sym (append_assoc now (zeros_of (size - length now)) (zeros_of bytes_left))
      ∙ ap (λ (xs : List ℕ). (xs ++ zeros_of (size - length now))
      ++ zeros_of bytes_left) (sym whole) ∙ ap (λ (xs : List ℕ). xs
      ++ zeros_of bytes_left) (is_resized now size)) where
        full_zeros : (n : ℕ) → AreFull (replicate n (zeros_of CHUNK_BYTES))
        full_zeros zero = tt
        full_zeros (suc n) = (length-replicate {A = ℕ} CHUNK_BYTES 0, full_zeros n)

        joined_zeros : (n : ℕ)
            → concat (replicate n (zeros_of CHUNK_BYTES)) ≡ zeros_of (n * CHUNK_BYTES)
        joined_zeros zero = refl
        joined_zeros (suc n) =
            let sum : CHUNK_BYTES + n * CHUNK_BYTES ≡ suc n * CHUNK_BYTES = omega arith in
            ap (λ (xs : List ℕ). zeros_of CHUNK_BYTES ++ xs) (joined_zeros n)
            ∙ replicate-append-replicate CHUNK_BYTES (n * CHUNK_BYTES) 0 ∙ ap zeros_of sum

  -- fewer bytes: the chunks after them are gone, and the last one has zeros after them
  pub is_cut : (ds : List (List ℕ)) (now : List ℕ) (size : ℕ) → take len (concat cs) ≡ now
      → size ≤ len → AreFull ds
      → length ds ≡ length (take (chunks_for size) cs)
      → concat ds ≡ take size (concat (take (chunks_for size) cs))
      ++ zeros_of (length (take (chunks_for size) cs) * CHUNK_BYTES - size)
      → AreMade ds size (resized now size)
  is_cut ds now size e le full same cut =
      let sized = size_is now e in
      let n = chunks_for size in
      let count : length (take n cs) ≡ n =
      omega (arith, length-take n cs, are.count, not_fewer size len le) in
      let none : size - length now ≡ 0 = omega (arith, sized, le) in
      let front : take size (concat (take n cs)) ≡ take size now =
      ap (take size) (joined_take n cs (n * CHUNK_BYTES) are.full refl)
      ∙ take-take size (n * CHUNK_BYTES) (concat cs) (enough size)
      ∙ sym (take-take size len (concat cs) le) ∙ ap (take size) e in
      let short : take size now ≡ resized now size =
      sym (append-nil (take size now)) ∙ ap (λ (k : ℕ). take size now ++ zeros_of k) (sym none)
      ∙ is_resized now size in
      are_made ds size (resized now size) full (same ∙ count)
      (omega (arith, ap (λ (xs : List ℕ). length xs) short, length-take size now, sized, le))
      (cut ∙ ap (λ (k : ℕ). take size (concat (take n cs))
      ++ zeros_of (k * CHUNK_BYTES - size)) (sym same)
      ∙ ap (λ (xs : List ℕ). xs ++ zeros_of (length ds * CHUNK_BYTES - size)) (front ∙ short))

  -- bytes that are read
  pub is_read : (now : List ℕ) (from most n : ℕ) → take len (concat cs) ≡ now
      → n ≡ min most (len - from)
      → take n (drop from (concat cs)) ≡ take most (drop from now)
  is_read now from most n e count =
      let same : n ≡ min most (length (drop from now)) =
      omega (arith, count, length-drop from now, size_is now e) in
      sym (front_of (concat cs) from len n (omega (arith, count)))
      ∙ ap (λ (xs : List ℕ). take n (drop from xs)) e
      ∙ ap (λ (k : ℕ). take k (drop from now)) same
      ∙ take_min most (drop from now)

  -- the bytes in the chunk at a place
  pub is_piece : (now : List ℕ) (i n : ℕ) (c : List ℕ) → take len (concat cs) ≡ now
      → i < length cs → c ≡ get_or cs i c → n ≡ min CHUNK_BYTES (len - i * CHUNK_BYTES)
      → take n c ≡ chunk_of now i
  is_piece now i n c e within is count =
      let at = i * CHUNK_BYTES in
      ap (take n) is
      ∙ piece_joined cs i 0 n c at are.full within (omega (arith, count)) (omega arith)
      ∙ is_read now at CHUNK_BYTES n e count
