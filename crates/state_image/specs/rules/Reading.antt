-- What readers of an image's fields give (this project's own): the field whose bytes are in front.
use Rattle.std.specs.Prelude.{◌≡◌, ◌≢◌, ℕ, List, ◌++◌, Option, Some, None}
use Rattle.state_image.specs.rules.ProcessImage.{Saved}

-- This field is in range, its bytes are in front, and those after it are left.
pub record HasField {X : Type 0} (bytes : X → List ℕ) (InRange : X → Type 0) (x : X)
    (old new : List ℕ) : Type 0 where
  pub in_range : InRange x
  pub is : old ≡ bytes x ++ new

-- No field in range has its bytes in front. What is left is an end of the bytes.
pub record LacksField {X : Type 0} (bytes : X → List ℕ) (InRange : X → Type 0)
    (old new : List ℕ) : Type 0 where
  pub none : (x : X) (rest : List ℕ) → InRange x → old ≢ bytes x ++ rest
  pub passed : List ℕ
  pub is : old ≡ passed ++ new

-- A reader gives the field in range whose bytes are in front; or nothing, where there is none.
abbrev pub ReadsField : {X : Type 0} → (X → List ℕ) → (X → Type 0) → Option X → List ℕ → List ℕ
    → Type 0
ReadsField bytes InRange (Some x) old new = HasField bytes InRange x old new
ReadsField bytes InRange None old new = LacksField bytes InRange old new

-- The same where the image spells a part of a process. It gives the part, and each process with
-- this part has its bytes in front.
abbrev pub ReadsPart : {V : Type 0} → (Saved → V) → (Saved → List ℕ) → (Saved → Type 0)
    → Option V → List ℕ → List ℕ → Type 0
ReadsPart part bytes InRange (Some v) old new =
    (s : Saved) → part s ≡ v → HasField bytes InRange s old new
ReadsPart part bytes InRange None old new = LacksField bytes InRange old new
