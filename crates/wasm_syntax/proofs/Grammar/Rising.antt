-- Sections are read exactly.
use Rattle.std.proofs.Common.{◌≡◌, ℕ, zero, suc, ◌≤◌, ◌≢◌, inl, inr, Bool, true, false, ltb, eqb}
use Rattle.std.proofs.Common.{◌&&◌, List, [], ◌∷◌, length, max, Option, Some, None, is_some, refl}
use Rattle.std.proofs.Common.{sym, subst, ◌∙◌, arith}
use Rattle.std.proofs.lemmas.Bool.{ltb-true, lt-ltb, eqb-true, eq-eqb, ne_eqb}
use Rattle.wasm_syntax.specs.rules.Modules.{Section, IsSection, MayFollow, AreSections}
use Rattle.wasm_syntax.specs.laws.ReadingItems.{byte_at, bytes_at, name_at}
use Rattle.wasm_syntax.specs.laws.ReadingModules.{section_at, may_follow, next_section_at}
use Rattle.wasm_syntax.specs.laws.ReadingModules.{sections_up_to, sections_at}
use Rattle.wasm_syntax.proofs.Grammar.Exact.{Reads, bind_some, pass_some, pick, some_is, carry}
use Rattle.wasm_syntax.proofs.Grammar.Integers.{front_sound}
use Rattle.wasm_syntax.proofs.Grammar.Vectors.{Reads-bytes_at, Reads-name_at}
use Rattle.wasm_syntax.proofs.Grammar.Shorter.{TakesBytes, byte_shorter, bytes_shorter}

pub Reads-section_at : Reads IsSection section_at
unfolding section_at
Reads-section_at = record {
  sound = λ bytes s rest e.
      let id = bind_some (byte_at bytes) _ _ e in
      let body = bind_some (bytes_at id.0.1) _ _ id.2 in
      carry (IsSection bytes) (record { id = id.0.0; body = body.0.0 }) s body.0.1 rest body.2 (
        id.0.1,
        front_sound bytes id.0.0 id.0.1 id.1,
        Reads-bytes_at.sound id.0.1 body.0.0 body.0.1 body.1,
      );
  complete = λ bytes s rest h. rw (h.1, Reads-bytes_at.complete h.0 s.body rest h.2) refl;
}

pub section_shorter : TakesBytes IsSection
section_shorter bytes s rest h =
    omega (arith, byte_shorter s.id bytes h.0 h.1, bytes_shorter h.0 s.body rest h.2)

-- ---- a section that may come next

-- what is there
pub there : {A : Type 0} (o : Option A) → is_some o ≡ true → (x : A) × (o ≡ Some x)
there (Some x) e = (x, refl)
there None e = absurd cc

pub both : (p q : Bool) → (p && q) ≡ true → (p ≡ true) × (q ≡ true)
both true q e = (refl, e)
both false q e = absurd cc

pub follow_sound : (last : ℕ) (s : Section) → may_follow last s ≡ true → MayFollow last s
follow_sound last s e =
    pick (eqb s.id 0) _ _ _ e
    (λ t h. (let n = there (name_at s.body) h in
    inl (eqb-true _ _ t, n.0.0, n.0.1, Reads-name_at.sound s.body n.0.0 n.0.1 n.1)))
    (λ f h. (let p = both (ltb last s.id) (ltb s.id 12) h in
    inr (ltb-true _ _ p.0, ltb-true _ _ p.1)))

pub follow_complete : (last : ℕ) (s : Section) → MayFollow last s → may_follow last s ≡ true
follow_complete last s (inl custom) =
    rw (eq-eqb s.id 0 custom.0, Reads-name_at.complete s.body custom.1 custom.2 custom.3) refl
follow_complete last s (inr other) =
    let apart : s.id ≢ 0 = λ e. absurd (omega (arith, other.0, e)) in
    rw (ne_eqb s.id 0 apart, lt-ltb _ _ other.0, lt-ltb _ _ other.1) refl

-- a section at the front that may come after one of id `last`
abbrev pub IsNextSection : ℕ → List ℕ → Section → List ℕ → Type 0
IsNextSection last bytes s rest = IsSection bytes s rest × MayFollow last s

pub Reads-next_section_at : (last : ℕ) → Reads (IsNextSection last) (next_section_at last)
unfolding next_section_at
Reads-next_section_at last = record {
  sound = λ bytes s rest e.
      let one = bind_some (section_at bytes) _ _ e in
      let fits = pass_some (may_follow last one.0.0) _ _ one.2 in
      carry (IsNextSection last bytes) one.0.0 s one.0.1 rest fits.1
      (Reads-section_at.sound bytes one.0.0 one.0.1 one.1, follow_sound last one.0.0 fits.0);
  complete = λ bytes s rest h. rw (
    Reads-section_at.complete bytes s rest h.0,
    follow_complete last s h.1,
  ) refl;
}

-- ---- all sections

nothing : (s : Section) (rest : List ℕ) → IsSection [] s rest → ⊥
nothing s rest h = absurd (let t : [] ≡ s.id ∷ h.0 = h.1 in cc)

pub rising_sound : (most last : ℕ) (bytes : List ℕ) (ss : List Section)
    → sections_up_to most last bytes ≡ Some ss → AreSections last bytes ss
unfolding sections_up_to
rising_sound most last [] ss e =
    subst (λ (xs : List Section). AreSections last [] xs) (some_is [] ss e) refl
rising_sound zero last (b ∷ bytes) ss e = absurd cc
rising_sound (suc most) last (b ∷ bytes) ss e =
    let s = bind_some (next_section_at last (b ∷ bytes)) _ _ e in
    let others = bind_some (sections_up_to most (max last s.0.0.id) s.0.1) _ _ s.2 in
    let is = (Reads-next_section_at last).sound (b ∷ bytes) s.0.0 s.0.1 s.1 in
    subst (λ (xs : List Section). AreSections last (b ∷ bytes) xs) (some_is (s.0.0
    ∷ others.0) ss others.2)
    (s.0.1, is.0, is.1, rising_sound most (max last s.0.0.id) s.0.1 others.0 others.1)

pub rising_complete : (most last : ℕ) (bytes : List ℕ) (ss : List Section)
    → AreSections last bytes ss → length bytes ≤ most → sections_up_to most last bytes ≡ Some ss
unfolding sections_up_to
rising_complete most last bytes [] h few = rw h refl
rising_complete most last [] (s ∷ ss) h few = absurd (nothing s h.0 h.1)
rising_complete zero last (b ∷ bytes) (s ∷ ss) h few = absurd (omega arith)
rising_complete (suc most) last (b ∷ bytes) (s ∷ ss) h few =
    let shorter : length h.0 ≤ most = omega (arith, section_shorter (b ∷ bytes) s h.0 h.1) in
    rw (
      (Reads-next_section_at last).complete (b ∷ bytes) s h.0 (h.1, h.2),
      rising_complete most (max last s.id) h.0 ss h.3 shorter,
    ) refl

pub sections_sound : (bytes : List ℕ) (ss : List Section) → sections_at bytes ≡ Some ss
    → AreSections 0 bytes ss
sections_sound bytes ss e = rising_sound (length bytes) 0 bytes ss e

pub sections_complete : (bytes : List ℕ) (ss : List Section) → AreSections 0 bytes ss
    → sections_at bytes ≡ Some ss
sections_complete bytes ss h = rising_complete (length bytes) 0 bytes ss h (omega arith)

-- there is one list of sections
pub same_sections : (last : ℕ) (bytes : List ℕ) (ss ts : List Section) → AreSections last bytes ss
    → AreSections last bytes ts → ss ≡ ts
same_sections last bytes ss ts g h =
    let le : length bytes ≤ length bytes = omega arith in
    some_is ss ts (sym (rising_complete (length bytes) last bytes ss g le)
    ∙ rising_complete (length bytes) last bytes ts h le)
