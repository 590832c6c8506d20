-- A file whose chunks are there, and what a change of it leaves.
use Rattle.std.proofs.Common.{◌≡◌, ℕ, ◌+◌, ◌*◌, ◌-◌, ◌<◌, ◌≤◌, min, List, [], ◌++◌, length, take}
use Rattle.std.proofs.Common.{drop, get_or, Some, sym, ap, subst, ◌∙◌, arith}
use Rattle.std.specs.Prelude.{replicate}
use Rattle.std.specs.List.{concat}
use Rattle.std.proofs.lemmas.List.{drop_all}
use Rattle.slab.specs.Slab.{get}
use Rattle.file_tree.specs.declared.limits.TheConstants.{CHUNK_BYTES}
use Rattle.file_tree.specs.rules.Bytes.{written, resized}
use Rattle.file_tree.specs.rules.Chunks.{chunks_for, chunk_of}
use Rattle.file_tree.specs.Store.Bodies.{Chunks, FileBody, InChunks, len_of, bytes_of_file}
use Rattle.file_tree.specs.Store.Bodies.{AreFullAt, HasChunks, Rekeys, TurnsInto}
use Rattle.file_tree.specs.Store.Chunked.{overlaid, AreChunks}
use Rattle.file_tree.specs.Store.Stored.{stored}
use Rattle.file_tree.proofs.StoreLemmas.Keys.{length-stored, stored_at, with_room, stored-with_room}
use Rattle.file_tree.proofs.StoreLemmas.Sized.{zeros_of, size_is, is_put, is_grown, is_cut, is_read}
use Rattle.file_tree.proofs.StoreLemmas.Sized.{is_piece, enough, no_more}

-- a slab with more room has the same chunks
module _ (old new : Chunks) (e : new ≡ record old { capacity = new.capacity }) (keys : List ℕ) where
  pub room_stored : stored new keys ≡ stored old keys
  room_stored = stored-with_room old new new.capacity keys e

  pub room_full : AreFullAt old keys → AreFullAt new keys
  room_full h = record {
    are = with_room old new new.capacity keys e h.are;
    full = rw room_stored h.full;
  }

module _ (chunks : Chunks) (keys : List ℕ) (len : ℕ) (now : FileBody)
    (e : InChunks keys len ≡ now) (h : HasChunks chunks now) where
  held : HasChunks chunks (InChunks keys len)
  held = subst (HasChunks chunks) (sym e) h

  abbrev cs : List (List ℕ)
  cs = stored chunks keys

  shape : AreChunks cs len
  shape = held.shape

  count : length cs ≡ length keys
  count = length-stored chunks keys held.are.present

  pub keys_full : AreFullAt chunks keys
  keys_full = record { are = held.are; full = shape.full }

  pub len_is : len_of now ≡ len
  len_is = ap len_of (sym e)

  bytes_are : take len (concat cs) ≡ bytes_of_file chunks now
  bytes_are = ap (bytes_of_file chunks) e

  pub count_keys : length keys ≡ chunks_for len
  count_keys = sym count ∙ shape.count

  pub len_fits : len ≤ length keys * CHUNK_BYTES
  len_fits = omega (arith, count_keys, enough len)

  pub file_written : (new : Chunks) (from : ℕ) (ys : List ℕ) → from + length ys ≤ len_of now
      → AreFullAt new keys → concat (stored new keys) ≡ overlaid (concat cs) from ys
      → Rekeys chunks new keys keys
      → TurnsInto chunks new now now (written (bytes_of_file chunks now) from ys)
  file_written new from ys within full put rekeyed =
      let sized = size_is cs len shape (bytes_of_file chunks now) bytes_are in
      let same : length (stored new keys) ≡ length cs =
      length-stored new keys full.are.present ∙ sym count in
      let made = is_put cs len shape (stored new keys) (bytes_of_file chunks now) from ys bytes_are
      (omega (arith, within, len_is, sized)) full.full same put in
      subst (λ (b : FileBody). TurnsInto chunks new b b (written
      (bytes_of_file chunks now) from ys)) e
      (record {
        held = record { are = full.are; shape = made.are };
        bytes_are = made.bytes_are;
        rekeyed = rekeyed;
      })

  pub file_grown : (new : Chunks) (after : List ℕ) (size more : ℕ) → len ≤ size
      → more ≡ chunks_for size - length keys → AreFullAt new after
      → stored new after ≡ cs ++ replicate more (zeros_of CHUNK_BYTES)
      → Rekeys chunks new keys after
      → TurnsInto chunks new now (InChunks after size) (resized (bytes_of_file chunks now) size)
  file_grown new after size more le m full put rekeyed =
      let made = is_grown cs len shape (stored new after)
      (bytes_of_file chunks now) size more bytes_are
      le (m ∙ ap (λ (n : ℕ). chunks_for size - n) (sym count)) put in
      subst (λ (b : FileBody). TurnsInto chunks new b (InChunks after size)
      (resized (bytes_of_file chunks now) size)) e
      (record {
        held = record { are = full.are; shape = made.are };
        bytes_are = made.bytes_are;
        rekeyed = rekeyed;
      })

  pub file_cut : (between new : Chunks) (after : List ℕ) (size : ℕ) → size ≤ len
      → AreFullAt between after → AreFullAt new after
      → stored between after ≡ take (chunks_for size) cs
      → concat (stored new after) ≡ take size (concat (stored between after))
      ++ replicate (length after * CHUNK_BYTES - size) 0
      → Rekeys chunks new keys after
      → TurnsInto chunks new now (InChunks after size) (resized (bytes_of_file chunks now) size)
  file_cut between new after size le was full kept cleared rekeyed =
      let front = take (chunks_for size) cs in
      let before : length after ≡ length front =
      sym (length-stored between after was.are.present)
      ∙ ap (λ (xs : List (List ℕ)). length xs) kept
      in
      let made = is_cut cs len shape (stored new after) (bytes_of_file chunks now) size bytes_are le
      full.full (length-stored new after full.are.present ∙ before)
      (cleared
      ∙ ap (λ (xs : List (List ℕ)). take size (concat xs)
      ++ zeros_of (length after * CHUNK_BYTES - size)) kept
      ∙ ap (λ (n : ℕ). take size (concat front) ++ zeros_of (n * CHUNK_BYTES - size)) before) in
      subst (λ (b : FileBody). TurnsInto chunks new b (InChunks after size)
      (resized (bytes_of_file chunks now) size)) e
      (record {
        held = record { are = full.are; shape = made.are };
        bytes_are = made.bytes_are;
        rekeyed = rekeyed;
      })

  pub file_read : (from most n : ℕ) → n ≡ min most (len - from)
      → take n (drop from (concat cs)) ≡ take most (drop from (bytes_of_file chunks now))
  file_read from most n c = is_read cs len shape (bytes_of_file chunks now) from most n bytes_are c

  pub file_size : length (bytes_of_file chunks now) ≡ len
  file_size = size_is cs len shape (bytes_of_file chunks now) bytes_are

  -- a chunk at a place ends after the bytes before it
  pub chunk_begins : (i : ℕ) → i < length keys → i * CHUNK_BYTES < len
  chunk_begins i lt = omega (arith, count_keys, no_more len, lt)

  pub file_no_chunk : (i : ℕ) → length keys ≤ i → [] ≡ chunk_of (bytes_of_file chunks now) i
  file_no_chunk i le =
      sym (ap (take CHUNK_BYTES) (drop_all (i * CHUNK_BYTES) (bytes_of_file chunks now)
      (omega (arith, file_size, len_fits, le))))

  pub file_chunk : (i n : ℕ) (c : List ℕ) → i < length keys → get chunks (get_or keys i 0) ≡ Some c
      → n ≡ min CHUNK_BYTES (len - i * CHUNK_BYTES)
      → take n c ≡ chunk_of (bytes_of_file chunks now) i
  file_chunk i n c within got m =
      is_piece cs len shape (bytes_of_file chunks now) i n c bytes_are (omega
      (arith, within, count))
      (sym (stored_at chunks keys i 0 c c held.are.present within got)) m
