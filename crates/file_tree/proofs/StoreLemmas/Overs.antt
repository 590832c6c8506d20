-- Bytes in the place of others, in one list and in chunks.
use Rattle.std.proofs.Common.{◌≡◌, ℕ, zero, suc, ◌+◌, ◌*◌, ◌-◌, ◌/◌, ◌%◌, ◌<◌, ◌≤◌, List, [], ◌∷◌}
use Rattle.std.proofs.Common.{◌++◌, length, take, drop, get_or, refl, sym, ap, ◌∙◌, arith}
use Rattle.std.proofs.Common.{length-append, length-take, length-drop}
use Rattle.std.specs.Prelude.{replicate, set}
use Rattle.std.specs.List.{concat}
use Rattle.std.proofs.lemmas.List.{append-nil, drop_all, take_all, take_at, drop-drop}
use Rattle.std.proofs.lemmas.List.{take-append-le, drop-append-le, length-replicate}
use Rattle.std.proofs.lemmas.Nat.{div-add-mod', div_below, mod_below}
use Rattle.file_tree.specs.declared.limits.TheConstants.{CHUNK_BYTES}
use Rattle.file_tree.specs.rules.Bytes.{written}
use Rattle.file_tree.specs.Store.Chunked.{overlaid, AreFull}
use Rattle.file_tree.proofs.StoreLemmas.Padded.{is_written}

pub over_at : (xs : List ℕ) (i : ℕ) (ys : List ℕ) (n : ℕ) → n ≡ i + length ys → n ≤ length xs
    → take i xs ++ (ys ++ drop n xs) ≡ overlaid xs i ys
over_at [] zero [] zero e h = refl
over_at [] zero [] (suc n) e h = absurd (omega (arith, e))
over_at [] zero (y ∷ ys) n e h = absurd (omega (arith, e, h))
over_at [] (suc i) ys n e h = absurd (omega (arith, e, h))
over_at (x ∷ xs) zero [] zero e h = refl
over_at (x ∷ xs) zero [] (suc n) e h = absurd (omega (arith, e))
over_at (x ∷ xs) zero (y ∷ ys) zero e h = absurd (omega (arith, e))
over_at (x ∷ xs) zero (y ∷ ys) (suc n) e h =
    ap (λ (zs : List ℕ). y ∷ zs) (over_at xs zero ys n (omega (arith, e)) (omega (arith, h)))
over_at (x ∷ xs) (suc i) ys zero e h = absurd (omega (arith, e))
over_at (x ∷ xs) (suc i) ys (suc n) e h =
    ap (λ (zs : List ℕ). x ∷ zs) (over_at xs i ys n (omega (arith, e)) (omega (arith, h)))

-- the last bytes of a list, zeros from now on
pub over_end : (xs : List ℕ) (i : ℕ) (ys : List ℕ) → i + length ys ≡ length xs
    → take i xs ++ ys ≡ overlaid xs i ys
over_end xs i ys e =
    ap (λ (zs : List ℕ). take i xs ++ zs) (sym (append-nil ys))
    ∙ ap (λ (zs : List ℕ). take i xs
    ++ (ys ++ zs)) (sym (drop_all (i + length ys) xs (omega (arith, e))))
    ∙ over_at xs i ys (i + length ys) refl (omega (arith, e))

pub length-overlaid : (xs : List ℕ) (i : ℕ) (ys : List ℕ) → length (overlaid xs i ys) ≡ length xs
length-overlaid [] i ys = refl
length-overlaid (x ∷ xs) zero [] = refl
length-overlaid (x ∷ xs) zero (y ∷ ys) = ap suc (length-overlaid xs zero ys)
length-overlaid (x ∷ xs) (suc i) ys = ap suc (length-overlaid xs i ys)

pub over_none : (xs : List ℕ) (i : ℕ) → overlaid xs i [] ≡ xs
over_none [] i = refl
over_none (x ∷ xs) zero = refl
over_none (x ∷ xs) (suc i) = ap (λ (zs : List ℕ). x ∷ zs) (over_none xs i)

-- one piece, and another one after it
pub over_more : (xs : List ℕ) (i : ℕ) (ys zs : List ℕ) (n : ℕ) → n ≡ i + length ys
    → overlaid (overlaid xs i ys) n zs ≡ overlaid xs i (ys ++ zs)
over_more [] i ys zs n e = refl
over_more (x ∷ xs) zero [] zs zero e = refl
over_more (x ∷ xs) zero [] zs (suc n) e = absurd (omega (arith, e))
over_more (x ∷ xs) zero (y ∷ ys) zs zero e = absurd (omega (arith, e))
over_more (x ∷ xs) zero (y ∷ ys) zs (suc n) e =
    ap (λ (ws : List ℕ). y ∷ ws) (over_more xs zero ys zs n (omega (arith, e)))
over_more (x ∷ xs) (suc i) ys zs zero e = absurd (omega (arith, e))
over_more (x ∷ xs) (suc i) ys zs (suc n) e =
    ap (λ (ws : List ℕ). x ∷ ws) (over_more xs i ys zs n (omega (arith, e)))

pub take-overlaid : (n : ℕ) (xs : List ℕ) (i : ℕ) (ys : List ℕ)
    → take n (overlaid xs i ys) ≡ overlaid (take n xs) i ys
take-overlaid zero xs i ys = refl
take-overlaid (suc n) [] i ys = refl
take-overlaid (suc n) (x ∷ xs) zero [] = refl
take-overlaid (suc n) (x ∷ xs) zero (y ∷ ys) =
    ap (λ (ws : List ℕ). y ∷ ws) (take-overlaid n xs zero ys)
take-overlaid (suc n) (x ∷ xs) (suc i) ys = ap (λ (ws : List ℕ). x ∷ ws) (take-overlaid n xs i ys)

pub drop-overlaid : (n : ℕ) (xs : List ℕ) (i : ℕ) (ys : List ℕ) → i + length ys ≤ n
    → drop n (overlaid xs i ys) ≡ drop n xs
drop-overlaid zero xs zero [] h = over_none xs zero
drop-overlaid zero xs zero (y ∷ ys) h = absurd (omega (arith, h))
drop-overlaid zero xs (suc i) ys h = absurd (omega (arith, h))
drop-overlaid (suc n) [] i ys h = refl
drop-overlaid (suc n) (x ∷ xs) zero [] h = refl
drop-overlaid (suc n) (x ∷ xs) zero (y ∷ ys) h = drop-overlaid n xs zero ys (omega (arith, h))
drop-overlaid (suc n) (x ∷ xs) (suc i) ys h = drop-overlaid n xs i ys (omega (arith, h))

over_left : (xs zs : List ℕ) (i : ℕ) (ys : List ℕ) → i + length ys ≤ length xs
    → overlaid (xs ++ zs) i ys ≡ overlaid xs i ys ++ zs
over_left [] zs zero [] h = over_none zs zero
over_left [] zs zero (y ∷ ys) h = absurd (omega (arith, h))
over_left [] zs (suc i) ys h = absurd (omega (arith, h))
over_left (x ∷ xs) zs zero [] h = refl
over_left (x ∷ xs) zs zero (y ∷ ys) h =
    ap (λ (ws : List ℕ). y ∷ ws) (over_left xs zs zero ys (omega (arith, h)))
over_left (x ∷ xs) zs (suc i) ys h =
    ap (λ (ws : List ℕ). x ∷ ws) (over_left xs zs i ys (omega (arith, h)))

over_right : (xs zs : List ℕ) (i : ℕ) (ys : List ℕ) (n : ℕ) → n ≡ length xs + i
    → overlaid (xs ++ zs) n ys ≡ xs ++ overlaid zs i ys
over_right [] zs i ys n e = (let same : n ≡ i = omega (arith, e) in
    ap (λ (k : ℕ). overlaid zs k ys) same)
over_right (x ∷ xs) zs i ys zero e = absurd (omega (arith, e))
over_right (x ∷ xs) zs i ys (suc n) e =
    ap (λ (ws : List ℕ). x ∷ ws) (over_right xs zs i ys n (omega (arith, e)))

drop_right : (xs zs : List ℕ) (i n : ℕ) → n ≡ length xs + i → drop n (xs ++ zs) ≡ drop i zs
drop_right [] zs i n e = (let same : n ≡ i = omega (arith, e) in ap (λ (k : ℕ). drop k zs) same)
drop_right (x ∷ xs) zs i zero e = absurd (omega (arith, e))
drop_right (x ∷ xs) zs i (suc n) e = drop_right xs zs i n (omega (arith, e))

take_right : (xs zs : List ℕ) (i n : ℕ) → n ≡ length xs + i → take n (xs ++ zs) ≡ xs ++ take i zs
take_right [] zs i n e = (let same : n ≡ i = omega (arith, e) in ap (λ (k : ℕ). take k zs) same)
take_right (x ∷ xs) zs i zero e = absurd (omega (arith, e))
take_right (x ∷ xs) zs i (suc n) e =
    ap (λ (ws : List ℕ). x ∷ ws) (take_right xs zs i n (omega (arith, e)))

pub append_assoc : (xs ys zs : List ℕ) → (xs ++ ys) ++ zs ≡ xs ++ (ys ++ zs)
append_assoc [] ys zs = refl
append_assoc (x ∷ xs) ys zs = ap (λ (ws : List ℕ). x ∷ ws) (append_assoc xs ys zs)

-- ---- chunks

pub full_set : (cs : List (List ℕ)) (j : ℕ) (c : List ℕ) → AreFull cs → length c ≡ CHUNK_BYTES
    → AreFull (set cs j c)
full_set [] j c h e = tt
full_set (x ∷ cs) zero c h e = (e, h.1)
full_set (x ∷ cs) (suc j) c h e = (h.0, full_set cs j c h.1 e)

pub full_at : (cs : List (List ℕ)) (j : ℕ) (d : List ℕ) → AreFull cs → j < length cs
    → length (get_or cs j d) ≡ CHUNK_BYTES
full_at [] j d h lt = absurd (omega (arith, lt))
full_at (c ∷ cs) zero d h lt = h.0
full_at (c ∷ cs) (suc j) d h lt = full_at cs j d h.1 (omega (arith, lt))

pub full_append : (cs ds : List (List ℕ)) → AreFull cs → AreFull ds → AreFull (cs ++ ds)
full_append [] ds h k = k
full_append (c ∷ cs) ds h k = (h.0, full_append cs ds h.1 k)

pub full_take : (n : ℕ) (cs : List (List ℕ)) → AreFull cs → AreFull (take n cs)
full_take zero cs h = tt
full_take (suc n) [] h = tt
full_take (suc n) (c ∷ cs) h = (h.0, full_take n cs h.1)

pub length-joined : (cs : List (List ℕ)) → AreFull cs → length (concat cs) ≡ length cs * CHUNK_BYTES
length-joined [] h = refl
length-joined (c ∷ cs) h = omega (arith, length-append c (concat cs), h.0, length-joined cs h.1)

pub joined_append : (cs ds : List (List ℕ)) → concat (cs ++ ds) ≡ concat cs ++ concat ds
joined_append [] ds = refl
joined_append (c ∷ cs) ds = ap (λ (xs : List ℕ). c ++ xs) (joined_append cs ds)
    ∙ sym (append_assoc c (concat cs) (concat ds))

pub joined_take : (n : ℕ) (cs : List (List ℕ)) (k : ℕ) → AreFull cs → k ≡ n * CHUNK_BYTES
    → concat (take n cs) ≡ take k (concat cs)
joined_take zero cs k h e = (let none : 0 ≡ k = omega (arith, e) in
    ap (λ (m : ℕ). take m (concat cs)) none)
joined_take (suc n) [] zero h e = refl
joined_take (suc n) [] (suc k) h e = refl
joined_take (suc n) (c ∷ cs) k h e =
    ap (λ (xs : List ℕ). c ++ xs) (joined_take n cs (n * CHUNK_BYTES) h.1 refl)
    ∙ sym (take_right c (concat cs) (n * CHUNK_BYTES) k (omega (arith, e, h.0)))

-- bytes put into one chunk are put among those of all
pub over_joined : (cs : List (List ℕ)) (j o : ℕ) (ys d : List ℕ) (at : ℕ) → AreFull cs
    → j < length cs → o + length ys ≤ CHUNK_BYTES → at ≡ j * CHUNK_BYTES + o
    → concat (set cs j (overlaid (get_or cs j d) o ys)) ≡ overlaid (concat cs) at ys
over_joined [] j o ys d at h lt fits e = absurd (omega (arith, lt))
over_joined (c ∷ cs) zero o ys d at h lt fits e =
    let here : at ≡ o = omega (arith, e) in
    sym (over_left c (concat cs) o ys (omega (arith, fits, h.0)))
    ∙ ap (λ (k : ℕ). overlaid (c ++ concat cs) k ys) (sym here)
over_joined (c ∷ cs) (suc j) o ys d at h lt fits e =
    let rest = j * CHUNK_BYTES + o in
    ap (λ (xs : List ℕ). c ++ xs) (over_joined cs j o ys d rest h.1 (omega (arith, lt)) fits refl)
    ∙ sym (over_right c (concat cs) rest ys at (omega (arith, e, h.0)))

-- bytes of one chunk are among those of all
pub piece_joined : (cs : List (List ℕ)) (j o r : ℕ) (d : List ℕ) (at : ℕ) → AreFull cs
    → j < length cs → o + r ≤ CHUNK_BYTES → at ≡ j * CHUNK_BYTES + o
    → take r (drop o (get_or cs j d)) ≡ take r (drop at (concat cs))
piece_joined [] j o r d at h lt fits e = absurd (omega (arith, lt))
piece_joined (c ∷ cs) zero o r d at h lt fits e =
    let here : o ≡ at = omega (arith, e) in
    sym (take-append-le r (drop o c) (concat cs) (omega (arith, length-drop o c, h.0, fits)))
    ∙ ap (take r) (sym (drop-append-le o c (concat cs) (omega (arith, h.0, fits))))
    ∙ ap (λ (k : ℕ). take r (drop k (c ++ concat cs))) here
piece_joined (c ∷ cs) (suc j) o r d at h lt fits e =
    let rest = j * CHUNK_BYTES + o in
    piece_joined cs j o r d rest h.1 (omega (arith, lt)) fits refl
    ∙ ap (take r) (sym (drop_right c (concat cs) rest at (omega (arith, e, h.0))))

-- the chunk in which a byte lies
module _ (cs : List (List ℕ)) (at : ℕ) (full : AreFull cs) (within : at
    < length cs * CHUNK_BYTES) where
  place : at ≡ at / CHUNK_BYTES * CHUNK_BYTES + at % CHUNK_BYTES
  place = sym (div-add-mod' at CHUNK_BYTES)

  below : at / CHUNK_BYTES < length cs
  below = div_below at CHUNK_BYTES (length cs) (omega arith) within

  pub piece_full : (c x ys : List ℕ) → c ≡ get_or cs (at / CHUNK_BYTES) c
      → x ≡ overlaid c (at % CHUNK_BYTES) ys → AreFull (set cs (at / CHUNK_BYTES) x)
  piece_full c x ys e w = full_set cs (at / CHUNK_BYTES) x full (ap length w
      ∙ length-overlaid c (at % CHUNK_BYTES) ys ∙ ap length e
      ∙ full_at cs (at / CHUNK_BYTES) c full below)

  pub piece_written : (c x ys : List ℕ) → c ≡ get_or cs (at / CHUNK_BYTES) c
      → x ≡ overlaid c (at % CHUNK_BYTES) ys → at % CHUNK_BYTES + length ys ≤ CHUNK_BYTES
      → concat (set cs (at / CHUNK_BYTES) x) ≡ overlaid (concat cs) at ys
  piece_written c x ys e w fits =
      ap (λ (y : List ℕ). concat (set cs (at / CHUNK_BYTES) y)) (w
      ∙ ap (λ (y : List ℕ). overlaid y (at % CHUNK_BYTES) ys) e)
      ∙ over_joined cs (at / CHUNK_BYTES) (at % CHUNK_BYTES) ys c at full below fits place

  pub piece_read : (c : List ℕ) (r : ℕ) → c ≡ get_or cs (at / CHUNK_BYTES) c
      → at % CHUNK_BYTES + r ≤ CHUNK_BYTES
      → take r (drop (at % CHUNK_BYTES) c) ≡ take r (drop at (concat cs))
  piece_read c r e fits =
      ap (λ (y : List ℕ). take r (drop (at % CHUNK_BYTES) y)) e
      ∙ piece_joined cs (at / CHUNK_BYTES) (at % CHUNK_BYTES) r c at full below fits place

  -- the last chunk, with zeros from a byte on
  pub piece_cleared : (c x : List ℕ) → c ≡ get_or cs (at / CHUNK_BYTES) c
      → x ≡ overlaid c (at % CHUNK_BYTES) (replicate (CHUNK_BYTES - at % CHUNK_BYTES) 0)
      → length cs * CHUNK_BYTES < at + CHUNK_BYTES
      → concat (set cs (at / CHUNK_BYTES) x) ≡ take at (concat cs)
      ++ replicate (length cs * CHUNK_BYTES - at) 0
  piece_cleared c x e w last =
      let o = at % CHUNK_BYTES in
      let short : o < CHUNK_BYTES = mod_below at CHUNK_BYTES (omega arith) in
      let zeros = replicate {A = ℕ} (CHUNK_BYTES - o) 0 in
      let many : length zeros ≡ CHUNK_BYTES - o = length-replicate {A = ℕ} (CHUNK_BYTES - o) 0 in
      let same : CHUNK_BYTES - o ≡ length cs * CHUNK_BYTES - at =
      omega (arith, place, below, last, short) in
      piece_written c x zeros e w (omega (arith, many, short))
      ∙ sym (over_end (concat cs) at zeros (omega (
        arith,
        many,
        same,
        length-joined cs full,
        within,
      )))
      ∙ ap (λ (k : ℕ). take at (concat cs) ++ replicate {A = ℕ} k 0) same

-- chunks that end at a byte, with no bytes from it on
pub none_cleared : (cs : List (List ℕ)) (at : ℕ) → AreFull cs → at % CHUNK_BYTES ≡ 0
    → at ≤ length cs * CHUNK_BYTES → length cs * CHUNK_BYTES < at + CHUNK_BYTES
    → concat cs ≡ take at (concat cs) ++ replicate (length cs * CHUNK_BYTES - at) 0
none_cleared cs at full start within last =
    let all : at ≡ length cs * CHUNK_BYTES =
    omega (arith, div-add-mod' at CHUNK_BYTES, start, within, last) in
    let none : length cs * CHUNK_BYTES - at ≡ 0 = omega (arith, all) in
    sym (append-nil (concat cs))
    ∙ ap (λ (k : ℕ). concat cs ++ replicate {A = ℕ} k 0) (sym none)
    ∙ ap (λ (xs : List ℕ). xs ++ replicate {A = ℕ} (length cs * CHUNK_BYTES - at) 0)
    (sym (take_all at (concat cs) (omega (arith, length-joined cs full, all))))

-- two pieces, one after the other
pub take_two : (xs : List ℕ) (i r n : ℕ) → n ≡ i + r → take i xs ++ take r (drop i xs) ≡ take n xs
take_two xs zero r n e = (let same : r ≡ n = omega (arith, e) in ap (λ (k : ℕ). take k xs) same)
take_two [] (suc i) zero n e = sym (take_all n [] (omega arith))
take_two [] (suc i) (suc r) n e = sym (take_all n [] (omega arith))
take_two (x ∷ xs) (suc i) r zero e = absurd (omega (arith, e))
take_two (x ∷ xs) (suc i) r (suc n) e =
    ap (λ (ys : List ℕ). x ∷ ys) (take_two xs i r n (omega (arith, e)))

pub over_two : (xs : List ℕ) (from : ℕ) (ys : List ℕ) (i r n at : ℕ) → n ≡ i + r → at ≡ from + i
    → i ≤ length ys
    → overlaid (overlaid xs from (take i ys)) at (take r (drop i ys)) ≡ overlaid xs from (take n ys)
over_two xs from ys i r n at e f within =
    over_more xs from (take i ys) (take r (drop i ys)) at (omega (
      arith,
      f,
      within,
      length-take i ys,
    ))
    ∙ ap (overlaid xs from) (take_two ys i r n e)

-- bytes in the place of others, where all of them are there
pub over_written : (xs : List ℕ) (from : ℕ) (ys : List ℕ) → from + length ys ≤ length xs
    → overlaid xs from ys ≡ written xs from ys
over_written xs from ys h = sym (over_at xs from ys (from + length ys) refl h)
    ∙ is_written xs from ys h

-- a piece that is read after what was read before
pub read_two : (into xs ys rest back : List ℕ) (i r n from at : ℕ) → n ≡ i + r → at ≡ from + i
    → i ≤ length into → length (take r (drop at xs)) ≡ r
    → take i into ≡ take i (drop from xs) → ys ≡ take r (drop at xs) ++ rest
    → take n (take i into ++ (ys ++ back)) ≡ take n (drop from xs)
read_two into xs ys rest back i r n from at e f within many before now =
    let piece = take r (drop at xs) in
    take_right (take i into) (ys ++ back) r n (omega (arith, e, length-take i into, within))
    ∙ ap (λ (zs : List ℕ). take i into ++ take r zs) (ap (λ (zs : List ℕ). zs ++ back) now
    ∙ append_assoc piece rest back)
    ∙ ap (λ (zs : List ℕ). take i into ++ zs) (take_at piece (rest ++ back) r many)
    ∙ ap (λ (zs : List ℕ). zs ++ piece) before
    ∙ ap (λ (k : ℕ). take i (drop from xs) ++ take r (drop k xs)) f
    ∙ ap (λ (zs : List ℕ). take i (drop from xs) ++ take r zs) (sym (drop-drop i from xs))
    ∙ take_two (drop from xs) i r n e
