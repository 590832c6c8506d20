-- Entries of a section, read from the front.
use Rattle.std.specs.Prelude.{ℕ, List, ◌++◌, Option, Some}
use Rattle.wasm_syntax.specs.laws.ReadingItems.{◌>>=◌, exactly_at, bytes_at}
use Rattle.wasm_places.specs.declared.entries.Entries.{Entries}
use Rattle.wasm_places.specs.declared.entries.Entries.TheVariants.{Types, Codes}

-- a type
unfoldable pub type_at : List ℕ → Option (List ℕ × List ℕ)
type_at bytes =
    exactly_at 0x60 bytes >>= λ mark. bytes_at mark.1 >>= λ parameters. bytes_at parameters.1
    >>= λ results. Some (parameters.0 ++ results.0, results.1)

-- an entry of these
abbrev pub section_entry_at : Entries → List ℕ → Option (List ℕ × List ℕ)
section_entry_at Types bytes = type_at bytes
section_entry_at Codes bytes = bytes_at bytes
