-- The phase of a number and a code, and the trap of a number (this project's own).
use Rattle.std.specs.Prelude.{◌≡◌, ◌≢◌, ℕ, List, Option, Some, None}
use Rattle.wasm_syntax.specs.declared.value.Trap.{Trap}
use Rattle.process_rules.specs.Processes.{Ending}
use Rattle.state_image.specs.declared.reading.progress.ReadPhase.{ReadPhase}
use Rattle.state_image.specs.rules.ProcessImage.{trap_number, phase_of, ending_code}
use Rattle.state_image.specs.rules.Parts.{read_phase}

-- the trap with this number, or nothing where there is none
abbrev pub IsTrapFrom : ℕ → Option Trap → Type 0
IsTrapFrom number (Some why) = trap_number why ≡ number
IsTrapFrom number None = (why : Trap) → trap_number why ≢ number

-- the phase of which the image has this number and this code, or nothing where there is none
abbrev pub IsPhaseFrom : ℕ → ℕ → Option ReadPhase → Type 0
IsPhaseFrom number code (Some phase) =
    (ended : Option Ending) (later : List ℕ) → read_phase ended later ≡ phase
    → (phase_of ended later ≡ number) × (ending_code ended ≡ code)
IsPhaseFrom number code None =
    (ended : Option Ending) (later : List ℕ) → phase_of ended later ≡ number
    → ending_code ended ≢ code
