-- Requests that were read ahead, and that nobody took (this project's own).
use Rattle.std.specs.Prelude.{◌≡◌, ◌⊎◌, ℕ, suc, ◌<◌, ◌≤◌, List, [], ◌∷◌}
use Rattle.command_words.specs.declared.lines.request.Request.{Request}
use Rattle.command_words.specs.rules.Numbers.{IsNumberedRequest, request_number}
use Rattle.command_words.specs.rules.Texts.{IsShortRequest, IsRequestLine, request_line}

-- the line of a request beyond those that were taken, with a text of so many bytes at most
abbrev pub IsLaterLine : ℕ → ℕ → List ℕ → Type 0
IsLaterLine limit taken line = (r : Request) × IsNumberedRequest r × IsShortRequest limit r
    × (line ≡ request_line r) × (taken < request_number r)

-- no request line, or that of a request that was taken
abbrev pub IsOtherLine : ℕ → ℕ → List ℕ → Type 0
IsOtherLine limit taken line = (IsRequestLine limit line → ⊥)
    ⊎ ((r : Request) × (line ≡ request_line r) × (request_number r ≤ taken))

-- so many of these lines are of requests beyond those that were taken
abbrev pub CountsLater : ℕ → ℕ → List (List ℕ) → ℕ → Type 0
CountsLater limit taken [] n = n ≡ 0
CountsLater limit taken (line ∷ lines) n =
    ((m : ℕ) × (n ≡ suc m) × IsLaterLine limit taken line × CountsLater limit taken lines m)
    ⊎ (IsOtherLine limit taken line × CountsLater limit taken lines n)
