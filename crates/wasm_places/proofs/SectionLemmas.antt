-- Sections, one after another, up to the one in which a byte lies.
use Rattle.std.proofs.Common.{◌≡◌, ℕ, ◌+◌, ◌<◌, ◌≤◌, Bool, true, false, cond, eqb, List, [], ◌∷◌}
use Rattle.std.proofs.Common.{◌++◌, length, Option, Some, None, refl, sym, ap, subst, ◌∙◌, arith}
use Rattle.std.proofs.lemmas.List.{append-nil}
use Rattle.wasm_syntax.specs.rules.Modules.{Section, IsSection, body_of, preamble}
use Rattle.wasm_syntax.specs.laws.ReadingItems.{fixed_at}
use Rattle.wasm_syntax.specs.laws.ReadingModules.{section_at}
use Rattle.wasm_syntax.proofs.Grammar.Exact.{parts}
use Rattle.wasm_syntax.proofs.Grammar.Integers.{fixed_sound, fixed_complete}
use Rattle.wasm_syntax.proofs.Grammar.Rising.{Reads-section_at, section_shorter}
use Rattle.wasm_places.specs.declared.reader.Part.{Part}
use Rattle.wasm_places.specs.Around.{IsAround, LiesInNone, first_part, section_with}
use Rattle.wasm_places.specs.Parts.{part_bytes}
use Rattle.wasm_places.specs.rules.Places.{IsInItem, IsInSection}
use Rattle.wasm_places.proofs.Walks.{SoFar, begins, found_here, goes_on, none_before, none_left}
use Rattle.wasm_places.proofs.Walks.{none_some, only_here}

-- ---- the first section with an id

pub part_push : (wanted : ℕ) (before : List Section) (part : Option Part) (id : ℕ) (body : Part)
    → body_of wanted before ≡ part_bytes part
    → body_of wanted (before ++ section_with id body ∷ [])
    ≡ part_bytes (first_part wanted part id body)
part_push wanted [] (Some p) id body e = absurd cc
part_push wanted [] None id body e = by_test (eqb id wanted) where
  by_test : (b : Bool)
      → cond b (Some body.bytes.now) None ≡ part_bytes (cond b (Some body) None)
  by_test true = refl
  by_test false = refl
part_push wanted (s ∷ before) part id body e =
    by_test (eqb s.id wanted) refl (part_push wanted before part id body)
  where
    by_test : (b : Bool) → eqb s.id wanted ≡ b
        → (body_of wanted before ≡ part_bytes part
        → body_of wanted (before ++ section_with id body ∷ [])
        ≡ part_bytes (first_part wanted part id body))
        → body_of wanted ((s ∷ before) ++ section_with id body ∷ [])
        ≡ part_bytes (first_part wanted part id body)
    by_test true is later = known part (rw is at e) where
      known : (p : Option Part) → Some s.body ≡ part_bytes p
          → body_of wanted ((s ∷ before) ++ section_with id body ∷ [])
          ≡ part_bytes (first_part wanted p id body)
      known (Some q) same = rw is same
      known None same = absurd cc
    by_test false is later = rw is (later (rw is at e))

-- ---- what the loop has

-- these sections were read, and the byte is in none of them
pub record SectionsSoFar (bytes : List ℕ) (at left : ℕ) (imports : Option Part) (now : List ℕ)
    : Type 0 where
  pub after : List ℕ
  pub header : fixed_at preamble bytes ≡ Some (tt, after)
  pub offset : at + left ≡ length bytes
  pub so_far : SoFar IsSection section_at Reads-section_at after left now
  pub imports_are : body_of 2 so_far.before ≡ part_bytes imports

module _ (bytes : List ℕ) (at : ℕ) where
  -- what a claim says of the sections that are behind the header
  claimed : (after : List ℕ) (left : ℕ) → fixed_at preamble bytes ≡ Some (tt, after)
      → at + left ≡ length bytes → (before : List Section) (s : Section) (inner : ℕ)
      → IsInSection bytes at before s inner
      → (rest : List ℕ) × (inner + length rest ≡ left)
      × IsInItem IsSection after left before s rest
  claimed after left header offset before s inner h =
      let again : fixed_at preamble bytes ≡ Some (tt, h.after) =
      subst (λ (b : List ℕ). fixed_at preamble b ≡ Some (tt, h.after)) (sym h.header)
      (fixed_complete preamble h.after) in
      let same = parts tt tt h.after after (sym again ∙ header) in
      let far : inner + length h.rest ≡ left = omega (arith, h.offset, offset) in (
        h.rest,
        far,
        subst (λ (n : ℕ). IsInItem IsSection after n before s h.rest) far
            (subst (λ (b : List ℕ). IsInItem IsSection b (inner + length h.rest) before s h.rest)
            same.1 h.inside),
      )

  pub no_header : fixed_at preamble bytes ≡ None → LiesInNone bytes at
  no_header none before s inner h =
      none_some (tt, h.after)
      (sym none ∙ subst (λ (b : List ℕ). fixed_at preamble b ≡ Some (tt, h.after)) (sym h.header)
      (fixed_complete preamble h.after))

  pub in_header : (after : List ℕ) (left : ℕ) → fixed_at preamble bytes ≡ Some (tt, after)
      → at + left ≡ length bytes → length after < left → LiesInNone bytes at
  in_header after left header offset shut before s inner h =
      let c = claimed after left header offset before s inner h in
      none_before IsSection section_at Reads-section_at section_shorter after left shut before s c.0
      c.2

  pub sections_begin : (after : List ℕ) (left : ℕ) → fixed_at preamble bytes ≡ Some (tt, after)
      → at + left ≡ length bytes → left ≤ length after → SectionsSoFar bytes at left None after
  sections_begin after left header offset ahead = record {
    after = after;
    header = header;
    offset = offset;
    so_far = begins IsSection section_at Reads-section_at after left ahead;
    imports_are = refl;
  }

  -- ---- one more section

  module _ (left : ℕ) (imports : Option Part) (now : List ℕ) (h : SectionsSoFar bytes at left
      imports now) where
    pub sections_go_on : (id : ℕ) (body : Part) (next : List ℕ)
        → section_at now ≡ Some (section_with id body, next) → left ≤ length next
        → SectionsSoFar bytes at left (first_part 2 imports id body) next
    sections_go_on id body next read ahead = record {
      after = h.after;
      header = h.header;
      offset = h.offset;
      so_far = goes_on IsSection section_at Reads-section_at h.after left now (section_with id body)
          next read ahead h.so_far;
      imports_are = part_push 2 h.so_far.before imports id body h.imports_are;
    }

    pub no_section_left : section_at now ≡ None → LiesInNone bytes at
    no_section_left none before s inner claim =
        let c = claimed h.after left h.header h.offset before s inner claim in
        let here = h.so_far.remains before s c.0 c.2 in
        none_left IsSection section_at Reads-section_at now left none here.0 s c.0 here.2

    pub section_found : (id : ℕ) (body : Part) (next : List ℕ) (inner : ℕ)
        → section_at now ≡ Some (section_with id body, next) → length next < left
        → inner + length next ≡ left
        → IsAround bytes at (record { id = id; body = body; left = inner; imports = imports })
    section_found id body next inner read shut far = record {
      before = h.so_far.before;
      is = record {
        after = h.after;
        rest = next;
        header = fixed_sound preamble bytes tt h.after h.header;
        inside = subst (λ (n : ℕ). IsInItem IsSection h.after n h.so_far.before
            (section_with id body) next) (sym far)
            (found_here IsSection section_at Reads-section_at h.after left now
            (section_with id body) next read shut h.so_far);
        offset = omega (arith, h.offset, far);
      };
      imports_are = h.imports_are;
      only = λ before s claim_left claim.
          let c = claimed h.after left h.header h.offset before s claim_left claim in
          let here = h.so_far.remains before s c.0 c.2 in
          let same = only_here IsSection section_at Reads-section_at section_shorter now
          (section_with id body) next left read shut here.0 s c.0 here.2 in (
            here.1 ∙ ap (λ (xs : List Section). h.so_far.before ++ xs) same.0
                ∙ append-nil h.so_far.before,
            same.1,
            omega (arith, far, c.1, ap length same.2),
          );
    }
