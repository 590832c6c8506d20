-- Random bytes of a seed (this project's own).
use Rattle.std.specs.Prelude.{ℕ, zero, suc, ◌+◌, ◌/◌, List, [], ◌++◌, take}
use Rattle.std.specs.Int.{w32, to_le_bytes}
use Rattle.rand_chacha.specs.ChaCha.{key_of, word_at}

-- so many ChaCha20 words of a stream, from this one on, each with its low byte first
unfoldable pub bytes_of_words : List ℕ → ℕ → ℕ → ℕ → List ℕ
bytes_of_words key stream place zero = []
bytes_of_words key stream place (suc count) =
    bytes_of_words key stream place count
    ++ to_le_bytes w32 (word_at 10 key stream (place + count))

-- how many words so many bytes take
abbrev pub words_for : ℕ → ℕ
words_for n = (n + 3) / 4

-- So many bytes of a seed's stream, from this word on. What the last word has over is dropped.
abbrev pub seeded_bytes : List ℕ → ℕ → ℕ → ℕ → List ℕ
seeded_bytes seed stream place n =
    take n (bytes_of_words (key_of seed) stream place (words_for n))
