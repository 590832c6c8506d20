-- What a generator fills is what its stream has.
use Rattle.std.proofs.Common.{◌≡◌, ℕ, zero, suc, ◌+◌, ◌*◌, ◌^◌, ◌<◌, List, [], ◌++◌, length}
use Rattle.std.proofs.Common.{ap, refl, ◌∙◌, arith, take, length-append, length-take-le}
use Rattle.std.specs.Int.{w32, to_le_bytes}
use Rattle.guest_memory.specs.rules.Bytes.{IsByte}
use Rattle.guest_memory.proofs.Lists.{all_both, all_take}
use Rattle.wasi_abi.specs.rules.Answers.{AreBytes}
use Rattle.rand_core.specs.Steps.{fill_via_u32, word_bytes}
use Rattle.rand_chacha.specs.ChaCha.{ChaCha, key_of, next_word, word_at}
use Rattle.command_words.specs.rules.Seeds.{bytes_of_words, seeded_bytes, words_for}

abbrev at_place : List ℕ → ℕ → ℕ → ChaCha
at_place key stream place = record { key = key; stream = stream; word_pos = place }

next_place : (key : List ℕ) (stream place : ℕ) → place + 1 < 2 ^ 68
    → next_word 10 (at_place key stream place)
    ≡ (word_at 10 key stream place, at_place key stream (place + 1))
next_place key stream place small =
    ap (λ p. (word_at 10 key stream place, at_place key stream p)) (omega arith)

-- the bytes of so many words, and the place after them
words_from : (key : List ℕ) (stream place count : ℕ) → place + count < 2 ^ 68
    → word_bytes (to_le_bytes w32) (next_word 10) count (at_place key stream place)
    ≡ (bytes_of_words key stream place count, at_place key stream (place + count))
unfolding word_bytes bytes_of_words
words_from key stream place zero small = ap (λ p. ([], at_place key stream p)) (omega arith)
words_from key stream place (suc count) small =
    let before = words_from key stream place count (omega arith) in
    ap (λ p. (p.0 ++ to_le_bytes w32 (next_word 10 p.1).0, (next_word 10 p.1).1)) before
    ∙ ap (λ p. (bytes_of_words key stream place count ++ to_le_bytes w32 p.0, p.1))
    (next_place key stream (place + count) (omega arith))
    ∙ ap (λ p. (
      bytes_of_words key stream place count
          ++ to_le_bytes w32 (word_at 10 key stream (place + count)),
      at_place key stream p,
    )) (omega arith)

pub fills_seeded : (seed : List ℕ) (stream place n : ℕ) → place < 2 ^ 64 → n < 2 ^ 64
    → (fill_via_u32 (next_word 10) n (at_place (key_of seed) stream place)).0
    ≡ seeded_bytes seed stream place n
fills_seeded seed stream place n place_fits n_fits =
    let small : place + words_for n < 2 ^ 68 = omega (arith, place_fits, n_fits) in
    ap (λ p. take n p.0) (words_from (key_of seed) stream place (words_for n) small)

-- ---- what seeded bytes are

bytes_of_word : (n : ℕ) → AreBytes (to_le_bytes w32 n)
bytes_of_word n = (omega arith, (omega arith, (omega arith, (omega arith, tt))))

words_are_bytes : (key : List ℕ) (stream place count : ℕ)
    → AreBytes (bytes_of_words key stream place count)
unfolding bytes_of_words
words_are_bytes key stream place zero = tt
words_are_bytes key stream place (suc count) =
    all_both IsByte (bytes_of_words key stream place count)
    (to_le_bytes w32 (word_at 10 key stream (place + count)))
    (words_are_bytes key stream place count)
    (bytes_of_word (word_at 10 key stream (place + count)))

words_have_four : (key : List ℕ) (stream place count : ℕ)
    → length (bytes_of_words key stream place count) ≡ 4 * count
unfolding bytes_of_words
words_have_four key stream place zero = refl
words_have_four key stream place (suc count) =
    let word = to_le_bytes w32 (word_at 10 key stream (place + count)) in
    let long = length-append (bytes_of_words key stream place count) word in
    let before = words_have_four key stream place count in
    let four : length word ≡ 4 = refl in
    omega (arith, long, before, four)

pub seeded_length : (seed : List ℕ) (stream place n : ℕ)
    → length (seeded_bytes seed stream place n) ≡ n
seeded_length seed stream place n =
    let words = bytes_of_words (key_of seed) stream place (words_for n) in
    let long = words_have_four (key_of seed) stream place (words_for n) in
    length-take-le n words (omega (arith, long))

pub seeded_are_bytes : (seed : List ℕ) (stream place n : ℕ)
    → AreBytes (seeded_bytes seed stream place n)
seeded_are_bytes seed stream place n =
    all_take IsByte n (bytes_of_words (key_of seed) stream place (words_for n))
    (words_are_bytes (key_of seed) stream place (words_for n))
