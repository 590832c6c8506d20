-- Bytes cut at a separator.
use Rattle.std.specs.Prelude.{ℕ, ◌==◌, if◌then◌else◌, List, [], ◌∷◌, Option, Some, None}

-- the bytes before the first separator, and those after it if there is one
unfoldable pub split_once : ℕ → List ℕ → List ℕ × Option (List ℕ)
split_once separator [] = ([], None)
split_once separator (byte ∷ bytes) =
    let later = split_once separator bytes in
    if byte == separator then ([], Some bytes) else (byte ∷ later.0, later.1)

-- one more byte in front of the first piece, or a first piece of it alone
abbrev pub onto_first_piece : ℕ → List (List ℕ) → List (List ℕ)
onto_first_piece byte [] = (byte ∷ []) ∷ []
onto_first_piece byte (piece ∷ pieces) = (byte ∷ piece) ∷ pieces

-- The pieces between the separators. A separator at the end has an empty piece after it.
unfoldable pub pieces_of : ℕ → List ℕ → List (List ℕ)
pieces_of separator [] = [] ∷ []
pieces_of separator (byte ∷ bytes) =
    if byte == separator then [] ∷ pieces_of separator bytes
    else onto_first_piece byte (pieces_of separator bytes)

-- The lines of a text, without their newlines. The last one may lack its newline.
unfoldable pub lines_of : List ℕ → List (List ℕ)
lines_of [] = []
lines_of (byte ∷ bytes) =
    if byte == 10 then [] ∷ lines_of bytes else onto_first_piece byte (lines_of bytes)
