-- What a sector of a head holds.
use Rattle.std.specs.Prelude.{◌≡◌, ℕ, List, Option, Some, None}
use Rattle.disk_layout.specs.declared.head.Head.{Head}
use Rattle.disk_layout.specs.rules.Sectors.{head_of, IsComplete}

-- the head that an area's sector is, if it is a complete one
abbrev pub HeadIn : ℕ → List ℕ → Option Head → Type 0
HeadIn area sector None = IsComplete area sector → ⊥
HeadIn area sector (Some h) = IsComplete area sector × (h ≡ head_of sector)
