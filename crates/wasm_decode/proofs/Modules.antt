-- Whole modules, by their header, their sections and what these hold.
use Rattle.std.proofs.Common.{◌≡◌, ◌≢◌, ℕ, ◌<◌, ◌≤◌, leb, List, length, Option, Some, None, refl}
use Rattle.std.proofs.Common.{sym, ◌∙◌}
use Rattle.std.specs.Prelude.{MatchOption}
use Rattle.std.proofs.lemmas.Bool.{le-leb, lt-leb}
use Rattle.wasm_syntax.specs.declared.module.Module.{Module}
use Rattle.wasm_syntax.specs.declared.limits.TheConstants.{MODULE_BYTES}
use Rattle.wasm_syntax.specs.rules.Modules.{Section, body_of, preamble}
use Rattle.wasm_syntax.specs.rules.Limits.{HasNoModule}
use Rattle.wasm_syntax.specs.laws.ReadingItems.{◌>>=◌, check, fixed_at}
use Rattle.wasm_syntax.specs.laws.ReadingModules.{sections_at}
use Rattle.wasm_syntax.specs.laws.ReadingWithin.{contents_within_at, module_within_at}
use Rattle.wasm_syntax.proofs.Grammar.Rising.{sections_sound, sections_complete}
use Rattle.wasm_syntax.proofs.Grammar.WholeWithin.{no_module_within}
use Rattle.wasm_decode.specs.declared.items.span.Span.{Span}
use Rattle.wasm_decode.specs.declared.items.fault.ItemFault.{ItemFault}
use Rattle.wasm_decode.specs.declared.items.fault.ItemFault.TheVariants as read
use Rattle.wasm_decode.specs.Items.Answers.{FailsToRead}
use Rattle.wasm_decode.proofs.ItemLemmas.Binds.{bind_none}
use Rattle.wasm_decode.specs.declared.fault.DecodeFault.TheVariants.{Memory}
use Rattle.wasm_decode.specs.rules.Faults.{decode_fault}
use Rattle.wasm_decode.specs.Sections.{held, NoSections, Splits}
use Rattle.wasm_decode.specs.Contents.{contents_read}
use Rattle.wasm_decode.proofs.InOrder.{contents_are, contents_same}

pub too_long : (bytes : List ℕ) → MODULE_BYTES < length bytes → module_within_at bytes ≡ None
unfolding module_within_at
too_long bytes h = rw (lt-leb _ _ h) refl

pub no_header : (bytes : List ℕ) → fixed_at preamble bytes ≡ None → module_within_at bytes ≡ None
unfolding module_within_at
no_header bytes e = bind_none (check (leb (length bytes) MODULE_BYTES)) _ (λ _. rw e refl)

abbrev held_by : List Section → Option Module
held_by sections = contents_within_at (λ id. body_of id sections)

behind_header : (bytes after : List ℕ) (x : Unit {0}) → length bytes ≤ MODULE_BYTES
    → fixed_at preamble bytes ≡ Some (x, after)
    → module_within_at bytes ≡ (sections_at after >>= held_by)
unfolding module_within_at
behind_header bytes after x h e = rw (le-leb _ _ h, e) refl

no_sections : (after : List ℕ) → NoSections 0 after → (sections_at after >>= held_by) ≡ None
no_sections after none = by_sections (sections_at after) refl where
  by_sections : (o : Option (List Section)) → sections_at after ≡ o → (o >>= held_by) ≡ None
  by_sections None e = refl
  by_sections (Some ss) e = absurd (none ss (sections_sound after ss e))

split_sections : (after : List ℕ) (bodies : List (Option Span)) (ss : List Section)
    → Splits after bodies ss → (sections_at after >>= held_by) ≡ contents_read (held bodies)
split_sections after bodies ss split =
    rw (sections_complete after ss split.in_order) (contents_same (λ id. body_of id ss)
    (held bodies) (λ id low high. sym (split.bodies_of id low high))
    ∙ contents_are (held bodies))

-- ---- what was split, and the first fault between sections

module _ {R : Type 0} (bytes after : List ℕ) (x : Unit {0}) (bodies : List (Option Span)) where
  pub not_made : (fault : Option R) → length bytes ≤ MODULE_BYTES
      → fixed_at preamble bytes ≡ Some (x, after)
      → MatchOption fault ((ss : List Section) × Splits after bodies ss) (λ _. NoSections 0 after)
      → contents_read (held bodies) ≡ None → module_within_at bytes ≡ None
  not_made None h e split none = behind_header bytes after x h e
      ∙ split_sections after bodies split.0 split.1 ∙ none
  not_made (Some r) h e split none = behind_header bytes after x h e ∙ no_sections after split

  pub made : (fault : Option R) (m : Module) → length bytes ≤ MODULE_BYTES
      → fixed_at preamble bytes ≡ Some (x, after) → fault ≡ None
      → MatchOption fault ((ss : List Section) × Splits after bodies ss) (λ _. NoSections 0 after)
      → contents_read (held bodies) ≡ Some m → module_within_at bytes ≡ Some m
  made None m h e is split all = behind_header bytes after x h e
      ∙ split_sections after bodies split.0 split.1 ∙ all
  made (Some r) m h e is split all = absurd cc

  pub at_fault : (fault : Option R) (r : R) → length bytes ≤ MODULE_BYTES
      → fixed_at preamble bytes ≡ Some (x, after) → fault ≡ Some r
      → MatchOption fault ((ss : List Section) × Splits after bodies ss) (λ _. NoSections 0 after)
      → module_within_at bytes ≡ None
  at_fault None r h e is split = absurd cc
  at_fault (Some q) r h e is split = behind_header bytes after x h e ∙ no_sections after split

-- ---- the fault that callers see

pub refused : (bytes : List ℕ) (e : ItemFault) → FailsToRead e (module_within_at bytes)
    → decode_fault e ≢ Memory → HasNoModule bytes
refused bytes read.Memory fails other = absurd (other refl)
refused bytes (read.Refused r) fails other = no_module_within bytes fails
