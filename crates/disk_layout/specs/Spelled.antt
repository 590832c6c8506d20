-- Bytes that begin with no text.
use Rattle.std.specs.Prelude.{ℕ, List}
use Rattle.disk_layout.specs.rules.Spelled.{TextFirst, TextsFirst}

-- no text's bytes are at the front
abbrev pub NoTextFirst : List ℕ → Type 0
NoTextFirst bytes = (text rest : List ℕ) → TextFirst bytes text rest → ⊥

-- the bytes of no texts are at the front
abbrev pub NoTextsFirst : List ℕ → Type 0
NoTextsFirst bytes = (texts : List (List ℕ)) (rest : List ℕ) → TextsFirst bytes texts rest → ⊥
