-- Descriptors that are made again by rising numbers (this project's own).
use Rattle.std.specs.Prelude.{◌≡◌, ℕ, ◌+◌, ◌-◌, ◌<◌, ◌≤◌, List, [], ◌∷◌, ◌++◌, length, replicate}
use Rattle.std.specs.Prelude.{Option, Some, None, IfSome}
use Rattle.std.specs.List.{AllByRecursion, flat_map}
use Rattle.file_tree.specs.rules.Files.{Files}
use Rattle.wasi_calls_rules.specs.WasiStates.{Target, Stream, Node, Descriptor}
use Rattle.wasi_calls_rules.specs.declared.limits.TheConstants.{DESCRIPTORS}
use Rattle.wasi_calls.specs.rules.Restored.{IsBoundedDescriptor}
use Rattle.state_image.specs.rules.ProcessImage.{Numbered, open_from, descriptor_bytes}
use Rattle.state_image.specs.rules.Ranges.{IsIn}

-- a stream is one of three, and a node's number has 64 bits
abbrev pub IsTargetIn : Target → Type 0
IsTargetIn (Stream s) = s ≤ 2
IsTargetIn (Node k) = IsIn 8 k

-- what it names and its numbers are within their bounds
pub record IsRestorable (d : Descriptor) : Type 0 where
  pub target : IsTargetIn d.target
  pub bounded : IsBoundedDescriptor d

-- each that is open is within its bounds
abbrev pub AreAllRestorable : List (Option Descriptor) → Type 0
AreAllRestorable ds = AllByRecursion (λ (o : Option Descriptor). IfSome o IsRestorable) ds

-- so are those of all places that there are
pub record AreRestorable (ds : List (Option Descriptor)) : Type 0 where
  pub places : length ds ≡ DESCRIPTORS
  pub each : AreAllRestorable ds

-- the number after the last one
abbrev pub behind_last : ℕ → List Numbered → ℕ
behind_last n [] = n
behind_last n (x ∷ xs) = behind_last (x.number + 1) xs

-- nothing is open under the numbers from the end of a list up to this one
abbrev pub closed_up_to : ℕ → List (Option Descriptor) → List (Option Descriptor)
closed_up_to n ds = ds ++ replicate (n - length ds) None

-- So many descriptors were read into a list: they stood in these bytes, and under the last of their
-- numbers the list ends.
pub record AreOpened (fs : Files) (count : ℕ) (ds : List (Option Descriptor)) (old new : List ℕ)
    : Type 0 where
  pub is : old ≡ flat_map (descriptor_bytes fs) (open_from 0 ds) ++ new
  pub many : length (open_from 0 ds) ≡ count
  pub within : length ds ≤ DESCRIPTORS
  pub each : AreAllRestorable ds
  pub last : length ds ≡ behind_last 0 (open_from 0 ds)

-- This descriptor can be after those of a list.
pub record CanComeBehind (ds : List (Option Descriptor)) (d : Numbered) : Type 0 where
  pub behind : length ds ≤ d.number
  pub within : d.number < DESCRIPTORS
  pub restorable : IsRestorable d.descriptor

-- One descriptor was read, and is after those of a list under its number.
pub record IsReadBehind (fs : Files) (ds es : List (Option Descriptor)) (old new : List ℕ) : Type 0
  where
    pub opened : Numbered
    pub can : CanComeBehind ds opened
    pub is : old ≡ descriptor_bytes fs opened ++ new
    pub list : es ≡ closed_up_to opened.number ds ++ Some opened.descriptor ∷ []
