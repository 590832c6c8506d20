-- Where the words of each frame lie, and how many slots frames have.
use Rattle.std.specs.Prelude.{◌≡◌, ℕ, ◌+◌, List, [], ◌∷◌, ◌++◌, length}
use Rattle.machine_slots.specs.rules.Places.{ShownFrame}
use Rattle.machine_frame.specs.declared.rules.frame.StackFrame.{StackFrame}

-- Each frame's words lie above those of the frames that wait, and its base is how many those are.
abbrev pub AreStacked : List StackFrame → List ℕ → Type 0
AreStacked [] words = words ≡ []
AreStacked (frame ∷ frames) words =
    (own : List ℕ) × (callers : List ℕ) × (words ≡ own ++ callers)
    × (frame.base ≡ length callers) × AreStacked frames callers

-- how many slots these frames have
abbrev pub slots_held : List ShownFrame → ℕ
slots_held [] = 0
slots_held (place ∷ places) = length place.slots + slots_held places
