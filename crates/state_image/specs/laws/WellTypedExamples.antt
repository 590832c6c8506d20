-- Processes that are well typed.
use Rattle.std.specs.Prelude.{ℕ, ◌≤◌, ◌^◌, List, ◌∷◌, length, replicate}
use Rattle.std.specs.List.{AllByRecursion}
use Rattle.wasm_syntax.specs.laws.Examples.{hello}
use Rattle.guest_memory.specs.rules.Bytes.{IsByte}
use Rattle.wasi_abi.specs.declared.version.Version.TheVariants.{Two}
use Rattle.wasi_abi.specs.rules.Configs.{Settings}
use Rattle.state_image.specs.rules.ProcessImage.{Saved}
use Rattle.state_image.specs.rules.WellTyped.{IsWellTyped}
use Rattle.state_image.specs.laws.Examples.{fresh_process}

-- the memory that `hello` begins with: its one segment, and zeros to the end of the page
abbrev pub hello_first_memory : List ℕ
hello_first_memory =
    8 ∷ 0 ∷ 0 ∷ 0 ∷ 3 ∷ 0 ∷ 0 ∷ 0 ∷ 104 ∷ 105 ∷ 10 ∷ replicate 65525 0

-- The process that `hello` begins as is well typed, under any configuration with a page. (The
-- grammar's examples say which bytes spell `hello`.)
abbrev pub HelloBeginsWellTyped : Type 0
HelloBeginsWellTyped =
    (config : Settings) → 1 ≤ config.pages → config.pages ≤ 2 ^ 16
    → IsWellTyped hello config (fresh_process hello_first_memory)

-- a process that was widened before its first step, with these unread bytes
abbrev pub widened_process : List ℕ → List ℕ → Saved
widened_process memory unread = record (fresh_process memory)
    { version = Two; unread = unread; answers = 1 }

-- In version 2 it is well typed too, with as many unread bytes as a request has there.
abbrev pub HelloIsWellTypedInTwo : Type 0
HelloIsWellTypedInTwo =
    (config : Settings) (unread : List ℕ) → 1 ≤ config.pages → config.pages ≤ 2 ^ 16
    → AllByRecursion IsByte unread → length unread ≤ 65537
    → IsWellTyped hello config (widened_process hello_first_memory unread)
