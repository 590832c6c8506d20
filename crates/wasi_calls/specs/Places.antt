-- Names that a walk goes along, and where it ends.
use Rattle.std.specs.Prelude.{◌≡◌, false, true, List, [], ◌∷◌, Option, Some, None}
use Rattle.std.specs.List.{AllByRecursion}
use Rattle.file_tree.specs.rules.Files.{Name, Files, IsNodeName, is_directory}
use Rattle.wasi_calls_rules.specs.Paths.{WalkEnd, Self, Leaf, is_back}
use Rattle.wasi_calls.specs.declared.paths.walk.PathEnd.{PathEnd}
use Rattle.wasi_calls.specs.declared.paths.walk.PathEnd.TheVariants as place

-- where the code's walk ends
abbrev pub walk_end_of : PathEnd → WalkEnd
walk_end_of (place.Directory k) = Self k
walk_end_of (place.Leaf d name) = Leaf d name.now

-- `..`, or names that a node may have
abbrev pub AreWalked : List Name → Type 0
AreWalked names = AllByRecursion (λ (name : Name). is_back name ≡ false → IsNodeName name) names

-- a directory, or a name that a node may have in one
abbrev pub IsWellPlaced : Files → WalkEnd → Type 0
IsWellPlaced fs (Self k) = is_directory fs k ≡ true
IsWellPlaced fs (Leaf d name) = (is_directory fs d ≡ true) × IsNodeName name

-- the next name of those that are left, if there is one
abbrev pub TakesName : Option Name → List Name → List Name → Type 0
TakesName None names after = names ≡ []
TakesName (Some name) names after = names ≡ name ∷ after
