-- A module's sections, read one after another.
use Rattle.std.proofs.Common.{◌≡◌, ℕ, zero, suc, ◌<◌, ◌≢◌, ◌⊎◌, inl, inr, Bool, true, false, cond}
use Rattle.std.proofs.Common.{ltb, eqb, ◌&&◌, List, [], ◌∷◌, ◌++◌, length, set, max, Option, Some}
use Rattle.std.proofs.Common.{None, refl, sym, ap, subst, ◌∙◌, append_assoc, arith}
use Rattle.std.proofs.Common.{get_or-set_other, get_or-set_same, IsTrue, ◌↔◌}
use Rattle.std.specs.List.{AllByRecursion}
use Rattle.std.proofs.lemmas.Bool.{eqb-true, eq-eqb, ne_eqb, lt-ltb}
use Rattle.std.proofs.lemmas.List.{append-nil}
use Rattle.wasm_syntax.specs.rules.Modules.{Section, AreSections, body_of}
use Rattle.wasm_syntax.specs.laws.ReadingItems.{◌>>=◌, check, byte_at, bytes_at}
use Rattle.wasm_syntax.specs.laws.ReadingModules.{section_at, may_follow, next_section_at}
use Rattle.wasm_syntax.proofs.Grammar.Exact.{Reads, chosen, found, parts}
use Rattle.wasm_syntax.proofs.Grammar.Rising.{IsNextSection, Reads-next_section_at, section_shorter}
use Rattle.wasm_decode.specs.declared.items.span.Span.{Span}
use Rattle.wasm_decode.specs.Sections.{may_come_behind, is_body, next_at, span_bytes, held}
use Rattle.wasm_decode.specs.Sections.{NoSections, Splits}

-- ---- one section: judged in another order, it is the same

judged : (last id : ℕ) (body : List ℕ)
    → (may_come_behind last id && is_body id body) ≡ may_follow last
    (record { id = id; body = body })
judged last id body = by_custom (eqb id 0) refl where
  by_tests : (low above : Bool) → ((low && above) && true) ≡ (above && low)
  by_tests true true = refl
  by_tests true false = refl
  by_tests false true = refl
  by_tests false false = refl

  by_custom : (custom : Bool) → eqb id 0 ≡ custom
      → (may_come_behind last id && is_body id body) ≡ may_follow last
      (record { id = id; body = body })
  by_custom true is = (let low : ltb id 12 ≡ true = lt-ltb _ _ (omega (arith, eqb-true _ _ is)) in
      rw (is, low) refl)
  by_custom false is = rw is (by_tests (ltb id 12) (ltb last id))

abbrev made : ℕ → List ℕ × List ℕ → Option (Section × List ℕ)
made id body = Some (record { id = id; body = body.0 }, body.1)

pub next_is : (last : ℕ) (bytes : List ℕ) → next_at last bytes ≡ next_section_at last bytes
unfolding next_at next_section_at section_at
next_is last bytes = by_id (byte_at bytes) where
  by_tests : (may is : Bool) (id : ℕ) (body : List ℕ × List ℕ)
      → (check may >>= λ _. check is >>= λ _. made id body) ≡ cond (may && is) (made id body) None
  by_tests true true id body = refl
  by_tests true false id body = refl
  by_tests false is id body = refl

  by_body : (o : Option (List ℕ × List ℕ)) (id : ℕ)
      → (check (may_come_behind last id) >>= λ _. o >>= λ body. check (is_body id body.0)
      >>= λ _. made id body) ≡ ((o >>= made id) >>= λ s. cond (may_follow last s.0) (Some s) None)
  by_body None id = by_may (may_come_behind last id) where
    by_may : (may : Bool)
        → (check may >>= λ _. (None >>= λ body. check (is_body id body.0) >>= λ _. made id body))
        ≡ None
    by_may true = refl
    by_may false = refl
  by_body (Some body) id = by_tests (may_come_behind last id) (is_body id body.0) id body
      ∙ ap (λ (b : Bool). cond b (made id body) None) (judged last id body.0)

  by_id : (o : Option (ℕ × List ℕ))
      → (o >>= λ id. check (may_come_behind last id.0) >>= λ _. bytes_at id.1
      >>= λ body. check (is_body id.0 body.0) >>= λ _. made id.0 body) ≡ ((o >>= λ id. bytes_at id.1
      >>= made id.0) >>= λ s. cond (may_follow last s.0) (Some s) None)
  by_id None = refl
  by_id (Some id) = by_body (bytes_at id.1) id.0

Reads-next_at : (last : ℕ) → Reads (IsNextSection last) (next_at last)
Reads-next_at last = record {
  sound = λ bytes s rest e. (Reads-next_section_at last).sound bytes s rest
      (sym (next_is last bytes) ∙ e);
  complete = λ bytes s rest h. next_is last bytes
      ∙ (Reads-next_section_at last).complete bytes s rest h;
}

-- ---- all sections

-- what the loop has: the sections so far, before what is still read
pub record SoFar (all : List ℕ) (last : ℕ) (rest : List ℕ) (bodies : List (Option Span)) :
    Type 0 where
  pub front : List Section
  pub ahead : (ss : List Section) → AreSections last rest ss → AreSections 0 all (front ++ ss)
  pub only : (ss : List Section) → AreSections 0 all ss → (tail : List Section)
      × (ss ≡ front ++ tail) × AreSections last rest tail
  pub filed : (id : ℕ) → 0 < id → id < 12 → held bodies id ≡ body_of id front
  pub above : (id : ℕ) → last < id → body_of id front ≡ None

pub begins : (all : List ℕ) (bodies : List (Option Span)) → ((id : ℕ) → held bodies id ≡ None)
    → SoFar all 0 all bodies
begins all bodies empty = record {
  front = [];
  ahead = λ ss h. h;
  only = λ ss h. (ss, refl, h);
  filed = λ id low high. empty id;
  above = λ id h. refl;
}

body_of-push_other : (id : ℕ) (front : List Section) (s : Section) → s.id ≢ id
    → body_of id (front ++ s ∷ []) ≡ body_of id front
body_of-push_other id [] s ne = rw (ne_eqb s.id id ne) refl
body_of-push_other id (t ∷ front) s ne =
    ap (λ (o : Option (List ℕ)). cond (eqb t.id id) (Some t.body) o)
    (body_of-push_other id front s ne)

body_of-push_same : (id : ℕ) (front : List Section) (s : Section) → s.id ≡ id
    → body_of id front ≡ None → body_of id (front ++ s ∷ []) ≡ Some s.body
body_of-push_same id [] s e none = rw (eq-eqb s.id id e) refl
body_of-push_same id (t ∷ front) s e none =
    elim (chosen (eqb t.id id) _ _ _ none) [
      | inl h ↦ absurd cc (h.1)
      | inr h ↦ rw h.0 (body_of-push_same id front s e h.1)
    ]

-- two numbers are one, or apart
same_or_apart : (m n : ℕ) → (m ≡ n) ⊎ (m ≢ n)
same_or_apart m n = by_test (eqb m n) refl where
  by_test : (b : Bool) → eqb m n ≡ b → (m ≡ n) ⊎ (m ≢ n)
  by_test true e = inl (eqb-true m n e)
  by_test false e = inr (λ same. absurd (let t : true ≡ false = sym (eq-eqb m n same) ∙ e in cc))

-- the section at the front is the one that was read
only_one : (last : ℕ) (rest : List ℕ) (s t : Section) (bytes_left r : List ℕ)
    → next_at last rest ≡ Some (s, bytes_left) → IsNextSection last rest t r → (s ≡ t)
    × (bytes_left ≡ r)
only_one last rest s t bytes_left r e is =
    parts s t bytes_left r (sym e ∙ (Reads-next_at last).complete rest t r is)

only_step : (all : List ℕ) (last : ℕ) (rest : List ℕ) (front : List Section) (s : Section)
    (bytes_left : List ℕ) → next_at last rest ≡ Some (s, bytes_left) → rest ≢ []
    → (ss : List Section) → (tail : List Section) × (ss ≡ front ++ tail)
    × AreSections last rest tail
    → (tail : List Section) × (ss ≡ (front ++ s ∷ []) ++ tail)
    × AreSections (max last s.id) bytes_left tail
only_step all last rest front s bytes_left e some ss ([], is, h) = absurd (some h)
only_step all last rest front s bytes_left e some ss (t ∷ tail, is, h) =
    let p = only_one last rest s t bytes_left h.0 e (h.1, h.2) in (
      tail,
      is ∙ ap (λ (x : Section). front ++ x ∷ tail) (sym p.0)
          ∙ sym (append_assoc front (s ∷ []) tail),
      rw (p.0, p.1) h.3,
    )

filed_custom : (front : List Section) (bodies after : List (Option Span)) (s : Section) (b : Span)
    → s.id ≡ 0 → after ≡ cond (eqb s.id 0) bodies (set bodies s.id (Some b))
    → ((id : ℕ) → 0 < id → id < 12 → held bodies id ≡ body_of id front) → (id : ℕ) → 0 < id
    → id < 12 → held after id ≡ body_of id (front ++ s ∷ [])
filed_custom front bodies after s b zero_id after_is so_far id low high =
    let kept : after ≡ bodies = after_is ∙ rw (eq-eqb s.id 0 zero_id) refl in
    let apart : s.id ≢ id = λ e. absurd (omega (arith, low, e, zero_id)) in
    ap (λ (bs : List (Option Span)). held bs id) kept ∙ so_far id low high
    ∙ sym (body_of-push_other id front s apart)

filed_other : (last : ℕ) (front : List Section) (bodies after : List (Option Span)) (s : Section)
    (b : Span) → last < s.id → s.id < 12 → length bodies ≡ 12 → b.bytes.now ≡ s.body
    → after ≡ cond (eqb s.id 0) bodies (set bodies s.id (Some b))
    → ((id : ℕ) → last < id → body_of id front ≡ None)
    → ((id : ℕ) → 0 < id → id < 12 → held bodies id ≡ body_of id front) → (id : ℕ) → 0 < id
    → id < 12 → held after id ≡ body_of id (front ++ s ∷ [])
filed_other last front bodies after s b above below len body_is after_is none so_far id low high =
    let nonzero : s.id ≢ 0 = λ e. absurd (omega (arith, above, e)) in
    let kept : after ≡ set bodies s.id (Some b) = after_is ∙ rw (ne_eqb s.id 0 nonzero) refl in
    elim (same_or_apart s.id id) [
      | inl same ↦
          let room : s.id < length bodies = omega (arith, len, below) in
          let here : held (set bodies s.id (Some b)) s.id ≡ Some s.body =
          rw get_or-set_same (ap (λ (t : List ℕ). Some t) body_is) in
          ap (λ (bs : List (Option Span)). held bs id) kept
          ∙ ap (λ (k : ℕ). held (set bodies s.id (Some b)) k) (sym same) ∙ here
          ∙ sym (body_of-push_same id front s same (none id (omega (arith, above, same))))
      | inr apart ↦
          let others : id ≢ s.id = λ e. apart (sym e) in
          let there : held (set bodies s.id (Some b)) id ≡ held bodies id = rw get_or-set_other refl
          in
          ap (λ (bs : List (Option Span)). held bs id) kept ∙ there ∙ so_far id low high
          ∙ sym (body_of-push_other id front s apart)
    ]

-- reading goes on after the section that was read
pub goes_on : (all : List ℕ) (last : ℕ) (rest : List ℕ) (bodies after : List (Option Span))
    (s : Section) (bytes_left : List ℕ) (b : Span)
    → SoFar all last rest bodies → next_at last rest ≡ Some (s, bytes_left) → rest ≢ []
    → length bodies ≡ 12 → b.bytes.now ≡ s.body
    → after ≡ cond (eqb s.id 0) bodies (set bodies s.id (Some b))
    → SoFar all (max last s.id) bytes_left after
goes_on all last rest bodies after s bytes_left b so_far e some len body_is after_is =
    let is : IsNextSection last rest s bytes_left = (Reads-next_at last).sound rest s
    bytes_left e in
    record {
      front = so_far.front ++ s ∷ [];
      ahead = λ ss h. rw append_assoc (so_far.ahead (s ∷ ss) (bytes_left, is.0, is.1, h));
      only = λ ss h. only_step all last rest so_far.front s bytes_left e some ss (so_far.only ss h);
      filed = elim is.1 [
        | inl custom ↦ filed_custom so_far.front bodies after s b custom.0 after_is so_far.filed
        | inr other ↦ filed_other last so_far.front bodies after s b other.0 other.1 len body_is
            after_is so_far.above so_far.filed
      ];
      above = λ id h. (let apart : s.id ≢ id = λ e. absurd (omega (arith, h, e)) in
          body_of-push_other id so_far.front s apart ∙ so_far.above id (omega (arith, h)));
    }

-- where nothing is left these are the sections
pub is_done : (all : List ℕ) (last : ℕ) (rest : List ℕ) (bodies : List (Option Span))
    → SoFar all last rest bodies → rest ≡ [] → (ss : List Section) × Splits all bodies ss
is_done all last rest bodies so_far e = (
  so_far.front,
  record {
    in_order = subst (λ (ss : List Section). AreSections 0 all ss)
        (append-nil so_far.front) (so_far.ahead [] e);
    bodies_of = so_far.filed;
  },
)

-- where no section is at the front there are none
pub ends : (all : List ℕ) (last : ℕ) (rest : List ℕ) (bodies : List (Option Span))
    → SoFar all last rest bodies → rest ≢ [] → next_at last rest ≡ None → NoSections 0 all
ends all last rest bodies so_far some e ss h = no_tail (so_far.only ss h) where
  no_tail : (tail : List Section) × (ss ≡ so_far.front ++ tail) × AreSections last rest tail → ⊥
  no_tail ([], is, h) = some h
  no_tail (t ∷ tail, is, h) =
      absurd (let t : None ≡ found t h.0 = sym e ∙ (Reads-next_at last).complete rest t h.0 (
        h.1,
        h.2,
      ) in cc)

pub empty_of : (P : Type 0) (r : Bool) → (IsTrue r ↔ P) → r ≡ true → P
empty_of P r h e = h.0 e

pub some_of : (P : Type 0) (r : Bool) → (IsTrue r ↔ P) → r ≡ false → P → ⊥
some_of P r h e p = absurd (let t : true ≡ false = sym (h.1 p) ∙ e in cc)

pub all_none : (bodies : List (Option Span)) → AllByRecursion (λ (o : Option Span). o ≡ None) bodies
    → (id : ℕ) → held bodies id ≡ None
all_none [] h id = refl
all_none (o ∷ bodies) h zero = ap span_bytes h.0
all_none (o ∷ bodies) h (suc id) = all_none bodies h.1 id

-- a section takes bytes, and has an id below 12
pub next_shorter : (last : ℕ) (bytes : List ℕ) (s : Section) (rest : List ℕ)
    → next_at last bytes ≡ Some (s, rest) → length rest < length bytes
next_shorter last bytes s rest e =
    section_shorter bytes s rest ((Reads-next_at last).sound bytes s rest e).0

pub next_below : (last : ℕ) (bytes : List ℕ) (s : Section) (rest : List ℕ)
    → next_at last bytes ≡ Some (s, rest) → s.id < 12
next_below last bytes s rest e =
    elim ((Reads-next_at last).sound bytes s rest e).1 [
      | inl custom ↦ omega (
        arith,
        custom.0,
      )
      | inr other ↦ other.1
    ]
