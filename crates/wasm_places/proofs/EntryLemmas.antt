-- Entries of the sections of types and of code, one after another.
use Rattle.std.proofs.Common.{◌≡◌, ℕ, ◌+◌, ◌<◌, ◌≤◌, List, [], ◌∷◌, ◌++◌, length, Some}
use Rattle.std.proofs.Common.{None, refl, sym, ap, subst, ◌∙◌, arith}
use Rattle.std.proofs.lemmas.List.{length-append}
use Rattle.wasm_syntax.specs.laws.ReadingItems.{exactly_at, leb_u32_at, bytes_at}
use Rattle.wasm_syntax.proofs.Grammar.Exact.{Reads, bind_some, carry, parts}
use Rattle.wasm_syntax.proofs.Grammar.Integers.{Reads-u32_at, byte_sound, byte_complete}
use Rattle.wasm_syntax.proofs.Grammar.Vectors.{Reads-bytes_at}
use Rattle.wasm_syntax.proofs.Grammar.Shorter.{TakesBytes, byte_shorter, bytes_shorter}
use Rattle.wasm_places.specs.declared.entries.Entries.{Entries}
use Rattle.wasm_places.specs.declared.entries.Entries.TheVariants.{Types, Codes}
use Rattle.wasm_places.specs.Entries.{section_entry_at, type_at}
use Rattle.wasm_places.specs.rules.Places.{IsSectionEntry, IsInEntry, IsInItem, IsTypeEntry}
use Rattle.wasm_places.proofs.Walks.{SoFar, begins, found_here, goes_on, none_before, none_left}
use Rattle.wasm_places.proofs.Walks.{none_some}

-- ---- one entry

Reads-type_at : Reads IsTypeEntry type_at
unfolding type_at
Reads-type_at = record {
  sound = λ bytes types rest e.
      let mark = bind_some (exactly_at 0x60 bytes) _ _ e in
      let parameters = bind_some (bytes_at mark.0.1) _ _ mark.2 in
      let results = bind_some (bytes_at parameters.0.1) _ _ parameters.2 in
      carry (IsTypeEntry bytes) (parameters.0.0 ++ results.0.0) types results.0.1 rest results.2 (
        mark.0.1,
        parameters.0.1,
        parameters.0.0,
        results.0.0,
        byte_sound 0x60 bytes mark.0.0 mark.0.1 mark.1,
        Reads-bytes_at.sound mark.0.1 parameters.0.0 parameters.0.1 parameters.1,
        Reads-bytes_at.sound parameters.0.1 results.0.0 results.0.1 results.1,
        refl,
      );
  complete = λ bytes types rest h.
      rw (
        byte_complete 0x60 bytes h.0 h.4,
        Reads-bytes_at.complete h.0 h.2 h.1 h.5,
        Reads-bytes_at.complete h.1 h.3 rest h.6,
        h.7,
      ) refl;
}

type_shorter : TakesBytes IsTypeEntry
type_shorter bytes types rest h =
    omega (
      arith,
      byte_shorter 0x60 bytes h.0 h.4,
      bytes_shorter h.0 h.2 h.1 h.5,
      bytes_shorter h.1 h.3 rest h.6,
    )

pub Reads-section_entry_at : (entries : Entries) → Reads (IsSectionEntry entries)
    (section_entry_at entries)
Reads-section_entry_at Types = Reads-type_at
Reads-section_entry_at Codes = Reads-bytes_at

entry_shorter : (entries : Entries) → TakesBytes (IsSectionEntry entries)
entry_shorter Types bytes entry rest h = type_shorter bytes entry rest h
entry_shorter Codes bytes entry rest h = bytes_shorter bytes entry rest h

-- ---- what the loop has

-- so many entries were read of those that the section counts, and the byte is in none of them
pub record EntriesSoFar (entries : Entries) (body : List ℕ) (left count number : ℕ) (now : List ℕ)
    : Type 0 where
  pub items : List ℕ
  pub counted : leb_u32_at body ≡ Some (count, items)
  pub so_far : SoFar (IsSectionEntry entries)
      (section_entry_at entries) (Reads-section_entry_at entries) items left now
  pub number_is : length so_far.before ≡ number

module _ (entries : Entries) (body : List ℕ) (left : ℕ) where
  -- what a claim says of the items that are counted
  claimed : (count : ℕ) (items : List ℕ) (number : ℕ) → leb_u32_at body ≡ Some (count, items)
      → IsInEntry entries body left number
      → (before : List (List ℕ)) × (entry : List ℕ) × (rest : List ℕ)
      × IsInItem (IsSectionEntry entries) items left before entry rest
      × (number ≡ length before) × (number < count)
  claimed count items number counted h =
      let same = parts h.count count h.items items
      (sym (Reads-u32_at.complete body h.count h.items h.counted) ∙ counted) in (
        h.before,
        h.entry,
        h.rest,
        subst (λ (b : List ℕ). IsInItem (IsSectionEntry entries) b left h.before h.entry h.rest)
            same.1 h.inside,
        h.number_is,
        subst (λ (n : ℕ). number < n) same.0 h.is_counted,
      )

  pub no_count : leb_u32_at body ≡ None → (number : ℕ) → IsInEntry entries body left number → ⊥
  no_count none number h =
      none_some (h.count, h.items)
      (sym none ∙ Reads-u32_at.complete body h.count h.items h.counted)

  pub before_entries : (count : ℕ) (items : List ℕ) → leb_u32_at body ≡ Some (count, items)
      → length items < left → (number : ℕ) → IsInEntry entries body left number → ⊥
  before_entries count items counted shut number h =
      let c = claimed count items number counted h in
      none_before (IsSectionEntry entries)
      (section_entry_at entries) (Reads-section_entry_at entries)
      (entry_shorter entries) items left shut c.0 c.1 c.2 c.3

  pub entries_begin : (count : ℕ) (items : List ℕ) → leb_u32_at body ≡ Some (count, items)
      → left ≤ length items → EntriesSoFar entries body left count 0 items
  entries_begin count items counted ahead = record {
    items = items;
    counted = counted;
    so_far = begins (IsSectionEntry entries)
        (section_entry_at entries) (Reads-section_entry_at entries) items left ahead;
    number_is = refl;
  }

  -- ---- one more entry

  module _ (count number : ℕ) (now : List ℕ) (s : EntriesSoFar entries body left count number now)
    where
      pub entries_go_on : (next : List ℕ)
          → ((x : List ℕ) × (section_entry_at entries now ≡ Some (x, next))) → left ≤ length next
          → EntriesSoFar entries body left count (number + 1) next
      entries_go_on next read ahead = record {
        items = s.items;
        counted = s.counted;
        so_far = goes_on (IsSectionEntry entries)
            (section_entry_at entries) (Reads-section_entry_at entries) s.items left
            now read.0 next read.1 ahead s.so_far;
        number_is = omega (
          arith,
          length-append s.so_far.before (read.0 ∷ []),
          s.number_is,
        );
      }

      pub entry_found : (next : List ℕ)
          → ((x : List ℕ) × (section_entry_at entries now ≡ Some (x, next))) → length next < left
          → number < count → IsInEntry entries body left number
      entry_found next read shut below = record {
        count = count;
        items = s.items;
        counted = Reads-u32_at.sound body count s.items s.counted;
        before = s.so_far.before;
        entry = read.0;
        rest = next;
        inside = found_here (IsSectionEntry entries)
            (section_entry_at entries) (Reads-section_entry_at entries) s.items
            left now read.0 next read.1 shut s.so_far;
        number_is = sym s.number_is;
        is_counted = below;
      }

      pub no_entry_left : section_entry_at entries now ≡ None → (k : ℕ)
          → IsInEntry entries body left k → ⊥
      no_entry_left none k h =
          let c = claimed count s.items k s.counted h in
          let here = s.so_far.remains c.0 c.1 c.2 c.3 in
          none_left (IsSectionEntry entries)
          (section_entry_at entries) (Reads-section_entry_at entries) now left none
          here.0 c.1 c.2 here.2

      pub no_entry_counted : count ≤ number → (k : ℕ) → IsInEntry entries body left k → ⊥
      no_entry_counted all k h =
          let c = claimed count s.items k s.counted h in
          let here = s.so_far.remains c.0 c.1 c.2 c.3 in
          omega (
            arith,
            c.4,
            c.5,
            all,
            s.number_is,
            ap length here.1,
            length-append s.so_far.before here.0,
          )
