-- What is put into a state.
use Rattle.std.specs.Prelude.{◌≡◌, ℕ, ◌∷◌, length}
use Rattle.machine.specs.declared.execution.state.State.{State}

-- one more frame, above all words
abbrev pub IsFramePushed : ℕ → ℕ → State → State → Type 0
IsFramePushed function position old new =
    new ≡ record old {
      frames = record {
        function = function;
        position = position;
        base = length old.slots;
      } ∷ old.frames;
    }
