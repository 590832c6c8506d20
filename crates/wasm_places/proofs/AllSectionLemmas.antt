-- All sections of a module, one after another up to the end of the bytes.
use Rattle.std.proofs.Common.{◌≡◌, ℕ, List, [], ◌∷◌, ◌++◌, length, Option, Some, None, refl, sym}
use Rattle.std.proofs.Common.{ap, subst, ◌∙◌, arith, append_assoc}
use Rattle.std.proofs.lemmas.List.{append-nil}
use Rattle.wasm_syntax.specs.rules.Items.{AreItems}
use Rattle.wasm_syntax.specs.rules.Modules.{Section, IsSection, body_of, preamble}
use Rattle.wasm_syntax.specs.laws.ReadingItems.{fixed_at}
use Rattle.wasm_syntax.specs.laws.ReadingModules.{section_at}
use Rattle.wasm_syntax.proofs.Grammar.Exact.{parts}
use Rattle.wasm_syntax.proofs.Grammar.Integers.{fixed_sound, fixed_complete}
use Rattle.wasm_syntax.proofs.Grammar.Rising.{Reads-section_at, section_shorter}
use Rattle.wasm_places.specs.declared.reader.Part.{Part}
use Rattle.wasm_places.specs.Around.{first_part, section_with}
use Rattle.wasm_places.specs.Parts.{part_bytes}
use Rattle.wasm_places.specs.Uses.{HoldsFunctionSections, LacksSections}
use Rattle.wasm_places.specs.rules.Uses.{AreAllSections}
use Rattle.wasm_places.proofs.SectionLemmas.{part_push}
use Rattle.wasm_places.proofs.Walks.{none_some, one_more}

-- what is left is the section that is read, and others
next_is : (now : List ℕ) (s : Section) (next : List ℕ) → section_at now ≡ Some (s, next)
    → (left : List Section) → AreItems IsSection now left []
    → (others : List Section) × (left ≡ s ∷ others) × AreItems IsSection next others []
next_is now s next read [] h =
    let shorter = section_shorter now s next (Reads-section_at.sound now s next read) in
    absurd (omega (arith, shorter, ap length h))
next_is now s next read (z ∷ others) h =
    let same = parts s z next h.0 (sym read ∙ Reads-section_at.complete now z h.0 h.1) in (
      others,
      ap (λ (w : Section). w ∷ others) (sym same.0),
      subst (λ (b : List ℕ). AreItems IsSection b others []) (sym same.1) h.2,
    )

-- no section is left at the end
none_at_end : (left : List Section) → AreItems IsSection [] left [] → left ≡ []
none_at_end [] h = refl
none_at_end (z ∷ others) h =
    let shorter = section_shorter [] z h.0 h.1 in
    absurd (omega (arith, shorter))

-- what is left is no section
none_left : (now : List ℕ) → section_at now ≡ None → (now ≡ [] → ⊥) → (left : List Section)
    → AreItems IsSection now left [] → ⊥
none_left now none more [] h = more (sym h)
none_left now none more (z ∷ others) h =
    none_some (z, h.0) (sym none ∙ Reads-section_at.complete now z h.0 h.1)

-- these sections were read, and those of functions among them
pub record AllSoFar (bytes : List ℕ) (imports function_types : Option Part) (now : List ℕ)
    : Type 0 where
  pub after : List ℕ
  pub header : fixed_at preamble bytes ≡ Some (tt, after)
  pub front : List Section
  pub are : AreItems IsSection after front now
  pub imports_are : body_of 2 front ≡ part_bytes imports
  pub function_types_are : body_of 3 front ≡ part_bytes function_types
  pub remains : (all : List Section) → AreItems IsSection after all []
      → (left : List Section) × (all ≡ front ++ left) × AreItems IsSection now left []

module _ (bytes : List ℕ) where
  -- what a claim says of the bytes behind the header
  behind_header : (after : List ℕ) → fixed_at preamble bytes ≡ Some (tt, after)
      → (all : List Section) → AreAllSections bytes all → AreItems IsSection after all []
  behind_header after header all h =
      let again : fixed_at preamble bytes ≡ Some (tt, h.0) =
      subst (λ (b : List ℕ). fixed_at preamble b ≡ Some (tt, h.0)) (sym h.1)
      (fixed_complete preamble h.0) in
      let same = parts tt tt h.0 after (sym again ∙ header) in
      subst (λ (b : List ℕ). AreItems IsSection b all []) same.1 h.2

  pub lacks_header : fixed_at preamble bytes ≡ None → LacksSections bytes
  lacks_header none all h =
      none_some (tt, h.0)
      (sym none ∙ subst (λ (b : List ℕ). fixed_at preamble b ≡ Some (tt, h.0)) (sym h.1)
      (fixed_complete preamble h.0))

  pub all_begin : (after : List ℕ) → fixed_at preamble bytes ≡ Some (tt, after)
      → AllSoFar bytes None None after
  all_begin after header = record {
    after = after;
    header = header;
    front = [];
    are = refl;
    imports_are = refl;
    function_types_are = refl;
    remains = λ all h. (all, refl, h);
  }

  module _ (imports function_types : Option Part) (now : List ℕ)
      (s : AllSoFar bytes imports function_types now) where
    pub all_go_on : (id : ℕ) (body : Part) (next : List ℕ)
        → section_at now ≡ Some (section_with id body, next)
        → AllSoFar bytes (first_part 2 imports id body) (first_part 3 function_types id body) next
    all_go_on id body next read = record {
      after = s.after;
      header = s.header;
      front = s.front ++ section_with id body ∷ [];
      are = one_more IsSection section_at Reads-section_at s.after s.front now
          (section_with id body) next s.are
          (Reads-section_at.sound now (section_with id body) next read);
      imports_are = part_push 2 s.front imports id body s.imports_are;
      function_types_are = part_push 3 s.front function_types id body s.function_types_are;
      remains = λ all h.
          let here = s.remains all h in
          let more = next_is now (section_with id body) next read here.0 here.2 in (
            more.0,
            here.1 ∙ ap (λ (ss : List Section). s.front ++ ss) more.1
                ∙ sym (append_assoc s.front (section_with id body ∷ []) more.0),
            more.2,
          );
    }

    pub all_read : now ≡ [] → HoldsFunctionSections bytes
        (record { imports = imports; function_types = function_types })
    all_read ended = record {
      sections = s.front;
      are = (
        s.after,
        fixed_sound preamble bytes tt s.after s.header,
        subst (λ (b : List ℕ). AreItems IsSection s.after s.front b) ended s.are,
      );
      imports_are = s.imports_are;
      function_types_are = s.function_types_are;
      only = λ all h.
          let here = s.remains all (behind_header s.after s.header all h) in
          let none = none_at_end here.0
          (subst (λ (b : List ℕ). AreItems IsSection b here.0 []) ended here.2) in
          here.1 ∙ ap (λ (ss : List Section). s.front ++ ss) none ∙ append-nil s.front;
    }

    pub bytes_left : section_at now ≡ None → (now ≡ [] → ⊥) → LacksSections bytes
    bytes_left none more all h =
        let here = s.remains all (behind_header s.after s.header all h) in
        none_left now none more here.0 here.2
