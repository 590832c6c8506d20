-- A module's sections by their ids.
use Rattle.std.specs.Prelude.{◌≡◌, ℕ, ◌<◌, ◌==◌, ◌||◌, ◌&&◌, nat_lt, if◌then◌else◌, Bool, true}
use Rattle.std.specs.Prelude.{is_some, List, Option, Some, None, slice_index_or}
use Rattle.wasm_decode.specs.declared.items.span.Span.{Span}
use Rattle.wasm_syntax.specs.rules.Modules.{Section, AreSections, body_of}
use Rattle.wasm_syntax.specs.laws.ReadingItems.{◌>>=◌, check, byte_at, bytes_at, name_at}

-- ---- one section, in the order in which it is judged

-- whether a section with this id may come after one of id `last`
abbrev pub may_come_behind : ℕ → ℕ → Bool
may_come_behind last id = nat_lt id 12 && (id == 0 || nat_lt last id)

-- whether these are the bytes of a section with this id, as far as the order of sections is
-- concerned
abbrev pub is_body : ℕ → List ℕ → Bool
is_body id body = if id == 0 then is_some (name_at body) else true

unfoldable pub next_at : ℕ → List ℕ → Option (Section × List ℕ)
next_at last bytes =
    byte_at bytes >>= λ id. check (may_come_behind last id.0) >>= λ _. bytes_at id.1
    >>= λ body. check (is_body id.0 body.0) >>= λ _.
    Some (record { id = id.0; body = body.0 }, body.1)

-- ---- all sections

abbrev pub section_of : ℕ → Span → Section
section_of id body = record { id = id; body = body.bytes.now }

-- the bytes of a section
abbrev pub span_bytes : Option Span → Option (List ℕ)
span_bytes None = None
span_bytes (Some body) = Some body.bytes.now

-- the bytes of the section with this id
abbrev pub held : List (Option Span) → ℕ → Option (List ℕ)
held bodies id = span_bytes (slice_index_or bodies id None)

-- no sections are these bytes, with ids above the last one
abbrev pub NoSections : ℕ → List ℕ → Type 0
NoSections last bytes = (ss : List Section) → AreSections last bytes ss → ⊥

-- these are all of the bytes' sections
pub record Splits (bytes : List ℕ) (bodies : List (Option Span)) (ss : List Section) : Type 0 where
  pub in_order : AreSections 0 bytes ss
  pub bodies_of : (id : ℕ) → 0 < id → id < 12 → held bodies id ≡ body_of id ss
