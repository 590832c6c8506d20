-- A text around its place.
use Rattle.std.specs.Prelude.{◌≡◌, ℕ, List, ◌++◌, codes}

-- The text is these two with a tip between them: to write after `--` what begins with a hyphen.
abbrev pub IsAroundTip : List ℕ → List ℕ → List ℕ → Type 0
IsAroundTip text before behind = (tip : List ℕ) × (text
    ≡ before ++ (codes "\n\n  tip: to pass '-" ++ (tip ++ (codes "\n\n" ++ behind))))
