-- Whole lines of a text that comes in pieces (this project's own).
use Rattle.std.specs.Prelude.{◌≡◌, ◌≢◌, ◌⊎◌, ℕ, ◌<◌, ◌≤◌, ◌-◌, Bool, true, false, List, [], ◌∷◌}
use Rattle.std.specs.Prelude.{◌++◌, Option, length, All}
use Rattle.std.specs.Io.KnownBytes.{Consumes}
use Rattle.wasi_abi.specs.rules.Answers.{IsNoNewline, newline}
use Rattle.command_words.specs.declared.lines.whole.TheConstants.{MOST_LEFT}

-- The whole lines of a text are its front through the last newline. Where there is none, there are
-- no whole lines.
pub record IsWholeFront (text front : List ℕ) : Type 0 where
  pub rest : List ℕ
  pub is : text ≡ front ++ rest
  pub ends : (front ≡ []) ⊎ ((before : List ℕ) × (front ≡ before ++ newline ∷ []))
  pub unended : All IsNoNewline rest

-- So much of a text may be given: its whole lines, or all of it where the rest behind them is too
-- long to be left.
pub record IsGivable (text given : List ℕ) : Type 0 where
  pub front : List ℕ
  pub whole : IsWholeFront text front
  pub is : ((length text - length front ≤ MOST_LEFT) × (given ≡ front))
      ⊎ ((MOST_LEFT < length text - length front) × (given ≡ text))

-- These lines are what may be given of them and of the rest behind them. Nothing may be given of
-- the rest.
pub record GivesWhole (lines rest : List ℕ) : Type 0 where
  pub given : IsGivable (lines ++ rest) lines
  pub left : IsGivable rest []

-- Bytes of a reader were read, which come behind a rest. Both together are these.
pub record ReadsBehind (reader reader' : Option (List ℕ)) (rest both : List ℕ) : Type 0 where
  pub bytes : List ℕ
  pub read : Consumes reader reader' bytes
  pub is : rest ++ bytes ≡ both

-- Bytes come behind a rest. What may be given of both is moved behind the lines that may be given.
-- The answer says whether that is something.
pub record TakesIn (bytes lines rest : List ℕ) (result : Bool) (lines' rest' : List ℕ)
    : Type 0 where
  pub given : List ℕ
  pub givable : IsGivable (rest ++ bytes) given
  pub lines_are : lines' ≡ lines ++ given
  pub rest_is : rest ++ bytes ≡ given ++ rest'
  pub some : result ≡ true → given ≢ []
  pub none : result ≡ false → given ≡ []
