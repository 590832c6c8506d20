-- What is at a position that typing reaches, and what closes it.
use Rattle.std.proofs.Common.{◌≡◌, ◌⊎◌, inl, inr, ⊎_elim, ℕ, zero, suc, ◌+◌, ◌-◌, ◌<◌, ◌≤◌, List}
use Rattle.std.proofs.Common.{[], ◌∷◌, ◌++◌, length, drop, Bool, true, false, Option, Some, None}
use Rattle.std.proofs.Common.{refl, sym, ap, ◌∙◌, subst, arith, append_assoc, length-append}
use Rattle.std.specs.Prelude.{nat_le, ◌==◌, if◌then◌else◌}
use Rattle.std.specs.Option.{option_and_then}
use Rattle.std.proofs.lemmas.Bool.Decides.{nat_tests}
use Rattle.std.proofs.lemmas.List.{drop-drop, append-nil}
use Rattle.std.proofs.Math.Seq.{drop-append-add}
use Rattle.wasm_syntax.specs.declared.types.ValueType.{ValueType}
use Rattle.wasm_syntax.specs.declared.instruction.Instruction.{Instruction}
use Rattle.wasm_syntax.specs.declared.instruction.Instruction.TheVariants as instr
use Rattle.wasm_syntax.specs.rules.Sequence.{Sequence, Stop, Plain, InBlock, InLoop, InIf, InIfElse}
use Rattle.wasm_syntax.specs.rules.Sequence.{spelled}
use Rattle.wasm_rules.specs.Configuration.{Main, Second}
use Rattle.wasm_rules.specs.Types.{results_of}
use Rattle.wasm_rules.specs.Typing.{Context}
use Rattle.wasm_rules.specs.Shapes.{Shape, LabelShape, ShapeOf, types_behind, shape_at, body_shape}
use Rattle.machine_jumps.specs.Jumps.{HasShape}
use Rattle.machine_jumps.specs.Moves.{opcodes_of, IsTypedBody}
use Rattle.machine_jumps.proofs.Runs.{RunsFrom, runs_here, run_plain, run_block_in}
use Rattle.machine_jumps.proofs.Runs.{run_block_behind, run_loop_in, run_loop_behind, run_if_in}
use Rattle.machine_jumps.proofs.Runs.{run_if_behind, run_choice_first, run_choice_second}
use Rattle.machine_jumps.proofs.Runs.{run_choice_behind}

-- The opcodes after a sequence that ends at position e begin with its end, after which its values
-- have joined those below its label; or with the `else` that ends a first part.
pub record IsEnded (c : Context) (body : Sequence) (labels : List LabelShape)
    (operands : List ValueType) (after : Sequence) (e : ℕ) (tail : List Instruction) : Type 0 where
  pub next : List Instruction
  pub is : tail ≡ instr.End ∷ next
  pub reached : HasShape c body (suc e) labels operands after

abbrev pub Closes : Context → Sequence → List LabelShape → List ValueType → ℕ → List Instruction
    → Type 0
Closes c body [] gives e tail = ⊥
Closes c body (ShapeOf takes target below after which ∷ outer) gives e tail =
    IsEnded c body outer (gives ++ below) after e tail
    ⊎ ((next : List Instruction) × (tail ≡ instr.Else ∷ next))

pub record Place (c : Context) (body : Sequence) (p : ℕ) (labels : List LabelShape)
    (ts : List ValueType) (rest : Sequence) : Type 0 where
  pub gives : List ValueType
  pub tail : List Instruction
  pub runs : RunsFrom c body p labels rest ts gives
  pub code : drop p (opcodes_of body) ≡ spelled rest ++ tail
  pub closes : Closes c body labels gives (p + length (spelled rest)) tail

-- ---- the opcodes

drop_more : (p n : ℕ) (xs : List Instruction) {ys : List Instruction} → drop p xs ≡ ys → drop
    (p + n) xs ≡ drop n ys
drop_more p n xs e = sym (drop-drop n p xs) ∙ ap (drop n) e

drop_one : (p : ℕ) (y : Instruction) (xs ys : List Instruction) → drop p xs ≡ y ∷ ys
    → drop (suc p) xs ≡ ys
drop_one p y xs ys e = let same : suc p ≡ p + 1 = omega arith in ap (λ z. drop z xs) same ∙
    drop_more p 1 xs e

-- after what closes a sequence
drop_closed : (p : ℕ) (y : Instruction) (xs front ys : List Instruction)
    → drop p xs ≡ front ++ (y ∷ ys) → drop (suc (p + length front)) xs ≡ ys
drop_closed p y xs front ys e =
    let same : suc (p + length front) ≡ p + (length front + 1) = omega arith in
    ap (λ z. drop z xs) same ∙ drop_more p (length front + 1) xs e ∙ drop-append-add front (y ∷ ys)
    1

-- the opcodes of an inner sequence, with what closes it
code_in : (p : ℕ) (i y : Instruction) (xs inner rest tail : List Instruction)
    → drop p xs ≡ (i ∷ (inner ++ (y ∷ rest))) ++ tail
    → drop (suc p) xs ≡ inner ++ (y ∷ (rest ++ tail))
code_in p i y xs inner rest tail e = drop_one p i xs ((inner ++ (y ∷ rest)) ++ tail) e
    ∙ append_assoc inner (y ∷ rest) tail

-- ---- places inside of a place, and behind its first instruction

module _ (c : Context) (body : Sequence) (p : ℕ) (labels : List LabelShape)
    (ts : List ValueType) where
  ends_at : (gives : List ValueType) (tail : List Instruction) (e e' : ℕ) → e ≡ e'
      → Closes c body labels gives e tail → Closes c body labels gives e' tail
  ends_at gives tail e e' same h = subst (λ z. Closes c body labels gives z tail) same h

  pub place_plain : (i : Instruction) (rest : Sequence) {us : List ValueType}
      → Place c body p labels ts (Plain i rest) → types_behind c i ts ≡ Some us
      → Place c body (suc p) labels us rest
  place_plain i rest a e = record {
    gives = a.gives;
    tail = a.tail;
    runs = run_plain c body p labels ts a.gives i rest a.runs e;
    code = drop_one p i (opcodes_of body) (spelled rest ++ a.tail) a.code;
    closes = ends_at a.gives a.tail _ _ (omega arith) a.closes;
  }

  module _ (t : Option ValueType) (inner rest : Sequence) where
    -- where what follows an inner sequence ends
    far_end : (y : Instruction) → p + suc (length (spelled inner ++ (y ∷ spelled rest)))
        ≡ suc (suc p + length (spelled inner)) + length (spelled rest)
    far_end y = simp length-append (omega arith)

    pub place_block_behind : Place c body p labels ts (InBlock t inner rest)
        → Place c body (suc (suc p + length (spelled inner))) labels (results_of t ++ ts) rest
    place_block_behind a = record {
      gives = a.gives;
      tail = a.tail;
      runs = run_block_behind c body p labels ts a.gives t inner rest a.runs;
      code = drop_closed (suc p) instr.End (opcodes_of body) (spelled inner) (spelled rest
          ++ a.tail) (code_in p (instr.Block t) instr.End (opcodes_of body) (spelled inner)
          (spelled rest) a.tail a.code);
      closes = ends_at a.gives a.tail _ _ (far_end instr.End) a.closes;
    }

    pub place_block_in : Place c body p labels ts (InBlock t inner rest)
        → Place c body (suc p) (ShapeOf (results_of t) rest ts rest Main ∷ labels) [] inner
    place_block_in a =
        let after = place_block_behind a in
        record {
          gives = results_of t;
          tail = instr.End ∷ (spelled rest ++ a.tail);
          runs = run_block_in c body p labels ts a.gives t inner rest a.runs;
          code = code_in p (instr.Block t) instr.End (opcodes_of body) (spelled inner)
              (spelled rest) a.tail a.code;
          closes = inl (record {
            next = spelled rest ++ a.tail;
            is = refl;
            reached = runs_here after.runs;
          });
        }

    pub place_loop_behind : Place c body p labels ts (InLoop t inner rest)
        → Place c body (suc (suc p + length (spelled inner))) labels (results_of t ++ ts) rest
    place_loop_behind a = record {
      gives = a.gives;
      tail = a.tail;
      runs = run_loop_behind c body p labels ts a.gives t inner rest a.runs;
      code = drop_closed (suc p) instr.End (opcodes_of body) (spelled inner) (spelled rest
          ++ a.tail) (code_in p (instr.Loop t) instr.End (opcodes_of body) (spelled inner)
          (spelled rest) a.tail a.code);
      closes = ends_at a.gives a.tail _ _ (far_end instr.End) a.closes;
    }

    pub place_loop_in : Place c body p labels ts (InLoop t inner rest)
        → Place c body (suc p) (ShapeOf [] (InLoop t inner rest) ts rest Main ∷ labels) [] inner
    place_loop_in a =
        let after = place_loop_behind a in
        record {
          gives = results_of t;
          tail = instr.End ∷ (spelled rest ++ a.tail);
          runs = run_loop_in c body p labels ts a.gives t inner rest a.runs;
          code = code_in p (instr.Loop t) instr.End (opcodes_of body) (spelled inner)
              (spelled rest) a.tail a.code;
          closes = inl (record {
            next = spelled rest ++ a.tail;
            is = refl;
            reached = runs_here after.runs;
          });
        }

    pub place_if_behind : Place c body p labels ts (InIf t inner rest)
        → Place c body (suc (suc p + length (spelled inner))) labels (results_of t
        ++ drop 1 ts) rest
    place_if_behind a = record {
      gives = a.gives;
      tail = a.tail;
      runs = run_if_behind c body p labels ts a.gives t inner rest a.runs;
      code = drop_closed (suc p) instr.End (opcodes_of body) (spelled inner) (spelled rest
          ++ a.tail) (code_in p (instr.If t) instr.End (opcodes_of body) (spelled inner)
          (spelled rest) a.tail a.code);
      closes = ends_at a.gives a.tail _ _ (far_end instr.End) a.closes;
    }

    pub place_if_in : Place c body p labels ts (InIf t inner rest)
        → Place c body (suc p) (ShapeOf (results_of t) rest (drop 1 ts) rest Main ∷ labels) [] inner
    place_if_in a =
        let after = place_if_behind a in
        record {
          gives = results_of t;
          tail = instr.End ∷ (spelled rest ++ a.tail);
          runs = run_if_in c body p labels ts a.gives t inner rest a.runs;
          code = code_in p (instr.If t) instr.End (opcodes_of body) (spelled inner)
              (spelled rest) a.tail a.code;
          closes = inl (record {
            next = spelled rest ++ a.tail;
            is = refl;
            reached = runs_here after.runs;
          });
        }

  module _ (t : Option ValueType) (first second rest : Sequence) where
    first_code : Place c body p labels ts (InIfElse t first second rest) → (tail : List Instruction)
        → drop p (opcodes_of body) ≡ spelled (InIfElse t first second rest) ++ tail
        → drop (suc p) (opcodes_of body) ≡ spelled first
        ++ (instr.Else ∷ (spelled second ++ (instr.End ∷ (spelled rest ++ tail))))
    first_code a tail e =
        code_in p (instr.If t) instr.Else (opcodes_of body) (spelled first) (spelled second
        ++ (instr.End ∷ spelled rest)) tail e
        ∙ ap (λ z. spelled first ++ (instr.Else ∷ z)) (append_assoc (spelled second) (instr.End
        ∷ spelled rest) tail)

    second_code : (a : Place c body p labels ts (InIfElse t first second rest))
        → drop (suc (suc p + length (spelled first))) (opcodes_of body) ≡ spelled second
        ++ (instr.End ∷ (spelled rest ++ a.tail))
    second_code a =
        drop_closed (suc p) instr.Else (opcodes_of body) (spelled first) (spelled second
        ++ (instr.End ∷ (spelled rest ++ a.tail))) (first_code a a.tail a.code)

    far_end_of_two : p + suc (length (spelled first
        ++ (instr.Else ∷ (spelled second ++ (instr.End ∷ spelled rest)))))
        ≡ suc (suc (suc p + length (spelled first)) + length (spelled second))
        + length (spelled rest)
    far_end_of_two = simp length-append (omega arith)

    pub place_choice_behind : Place c body p labels ts (InIfElse t first second rest)
        → Place c body (suc (suc (suc p + length (spelled first)) + length (spelled second))) labels
        (results_of t ++ drop 1 ts) rest
    place_choice_behind a = record {
      gives = a.gives;
      tail = a.tail;
      runs = run_choice_behind c body p labels ts a.gives t first second rest a.runs;
      code = drop_closed (suc (suc p + length (spelled first))) instr.End (opcodes_of body)
          (spelled second) (spelled rest ++ a.tail) (second_code a);
      closes = ends_at a.gives a.tail _ _ far_end_of_two a.closes;
    }

    pub place_choice_first : Place c body p labels ts (InIfElse t first second rest)
        → Place c body (suc p) (ShapeOf (results_of t) rest (drop 1 ts) rest Main ∷ labels) [] first
    place_choice_first a = record {
      gives = results_of t;
      tail = instr.Else ∷ (spelled second ++ (instr.End ∷ (spelled rest ++ a.tail)));
      runs = run_choice_first c body p labels ts a.gives t first second rest a.runs;
      code = first_code a a.tail a.code;
      closes = inr (spelled second ++ (instr.End ∷ (spelled rest ++ a.tail)), refl);
    }

    pub place_choice_second : Place c body p labels ts (InIfElse t first second rest)
        → Place c body (suc (suc p + length (spelled first)))
        (ShapeOf (results_of t) rest (drop 1 ts) rest Second ∷ labels) [] second
    place_choice_second a =
        let after = place_choice_behind a in
        record {
          gives = results_of t;
          tail = instr.End ∷ (spelled rest ++ a.tail);
          runs = run_choice_second c body p labels ts a.gives t first second rest a.runs;
          code = second_code a;
          closes = inl (record {
            next = spelled rest ++ a.tail;
            is = refl;
            reached = runs_here after.runs;
          });
        }

-- ---- every position that typing reaches is such a place

abbrev PlaceOf : Context → Sequence → ℕ → Shape → Type 0
PlaceOf c body p s = Place c body p s.labels s.operands s.rest

bind_some : (f : List ValueType → Option Shape) (o : Option (List ValueType)) {s : Shape}
    → option_and_then f o ≡ Some s → (us : List ValueType) × (o ≡ Some us) × (f us ≡ Some s)
bind_some f None e = absurd (cc)
bind_some f (Some us) e = (us, refl, e)

-- a choice by a test
chosen : (n m : ℕ) (x y : Option Shape) {s : Shape} → (if nat_le n m then x else y) ≡ Some s
    → ((n ≤ m) × (x ≡ Some s)) ⊎ ((m < n) × (y ≡ Some s))
chosen n m x y {s} e = by_test (nat_le n m) refl e
  where
    by_test : (b : Bool) → nat_le n m ≡ b → (if b then x else y) ≡ Some s → ((n ≤ m) × (x ≡ Some s))
        ⊎ ((m < n) × (y ≡ Some s))
    by_test true t e = inl (grind (arith, nat_tests), e)
    by_test false t e = inr (grind (arith, nat_tests), e)

module _ (c : Context) (body : Sequence) where
  placed_at : (p q : ℕ) (s : Shape) → p ≡ q → PlaceOf c body p s → PlaceOf c body q s
  placed_at p q s e a = subst (λ z. PlaceOf c body z s) e a

  pub reach : (rest : Sequence) {p : ℕ} (n : ℕ) {labels : List LabelShape} {ts : List ValueType}
      {s : Shape} → Place c body p labels ts rest → shape_at c labels rest ts n ≡ Some s
      → PlaceOf c body (p + n) s
  reach rest {p} zero {labels} {ts} {s} a e =
      let same : record { labels = labels; operands = ts; rest = rest } ≡ s = cc in
      placed_at p (p + 0) s (omega arith) (subst (λ z. PlaceOf c body p z) same a)
  reach Stop (suc n) a e = absurd (cc)
  reach (Plain i rest) {p} (suc n) {labels} {ts} {s} a e =
      let b = bind_some (λ us. shape_at c labels rest us n) (types_behind c i ts) e in
      placed_at (suc p + n) (p + suc n) s (omega arith) (reach rest n
      (place_plain c body p labels ts i rest a b.1) b.2)
  reach (InBlock t inner rest) {p} (suc n) {labels} {ts} {s} a e =
      let L = length (spelled inner) in
      ⊎_elim
      (λ (h : (n ≤ L) × (shape_at c (ShapeOf (results_of t) rest ts rest Main ∷ labels) inner [] n
      ≡ Some s)).
      placed_at (suc p + n) (p + suc n) s (omega arith) (reach inner n
      (place_block_in c body p labels ts t inner rest a) h.1)) (λ (h : (L < n) × (shape_at c labels
      rest (results_of t ++ ts) (n - (L + 1)) ≡ Some s)).
      placed_at (suc (suc p + L) + (n - (L + 1))) (p + suc n) s (omega (
        arith,
        h.0,
      )) (reach rest (n - (L + 1)) (place_block_behind c body p labels ts t inner rest
      a) h.1)) (chosen n L _ _ e)
  reach (InLoop t inner rest) {p} (suc n) {labels} {ts} {s} a e =
      let L = length (spelled inner) in
      ⊎_elim
      (λ (h : (n ≤ L) × (shape_at c (ShapeOf [] (InLoop t inner rest) ts rest Main
      ∷ labels) inner [] n ≡ Some s)).
      placed_at (suc p + n) (p + suc n) s (omega arith) (reach inner n
      (place_loop_in c body p labels ts t inner rest a) h.1)) (λ (h : (L < n) × (shape_at c labels
      rest (results_of t ++ ts) (n - (L + 1)) ≡ Some s)).
      placed_at (suc (suc p + L) + (n - (L + 1))) (p + suc n) s (omega (
        arith,
        h.0,
      )) (reach rest (n - (L + 1)) (place_loop_behind c body p labels ts t inner rest
      a) h.1)) (chosen n L _ _ e)
  reach (InIf t inner rest) {p} (suc n) {labels} {ts} {s} a e =
      let L = length (spelled inner) in
      ⊎_elim
      (λ (h : (n ≤ L) × (shape_at c (ShapeOf (results_of t) rest (drop 1 ts) rest Main
      ∷ labels) inner [] n ≡ Some s)).
      placed_at (suc p + n) (p + suc n) s (omega arith) (reach inner n
      (place_if_in c body p labels ts t inner rest a) h.1)) (λ (h : (L < n) × (shape_at c labels
      rest (results_of t ++ drop 1 ts) (n - (L + 1)) ≡ Some s)).
      placed_at (suc (suc p + L) + (n - (L + 1))) (p + suc n) s (omega (
        arith,
        h.0,
      )) (reach rest (n - (L + 1)) (place_if_behind c body p labels ts t inner rest
      a) h.1)) (chosen n L _ _ e)
  reach (InIfElse t first second rest) {p} (suc n) {labels} {ts} {s} a e =
      let L = length (spelled first) in let M = length (spelled second) in
      ⊎_elim
      (λ (h : (n ≤ L) × (shape_at c (ShapeOf (results_of t) rest (drop 1 ts) rest Main
      ∷ labels) first [] n ≡ Some s)).
      placed_at (suc p + n) (p + suc n) s (omega arith) (reach first n
      (place_choice_first c body p labels ts t first second rest a) h.1)) (λ (h : (L < n) × ((if
      nat_le (n - (L + 1)) M then shape_at c
      (ShapeOf (results_of t) rest (drop 1 ts) rest Second ∷ labels) second [] (n - (L + 1)) else
      shape_at c labels rest (results_of t ++ drop 1 ts) (n - (L + 1) - (M + 1))) ≡ Some s)).
      ⊎_elim
      (λ (k : (n - (L + 1) ≤ M) × (shape_at c (ShapeOf (results_of t) rest (drop 1 ts) rest Second
      ∷ labels) second [] (n - (L + 1)) ≡ Some s)).
      placed_at (suc (suc p + L) + (n - (L + 1))) (p + suc n) s (omega (
        arith,
        h.0,
      )) (reach second (n - (L + 1)) (place_choice_second c body p labels ts t first second rest
      a) k.1)) (λ (k : (M < n - (L + 1)) × (shape_at c labels rest (results_of t ++ drop 1 ts)
      (n - (L + 1) - (M + 1)) ≡ Some s)).
      placed_at (suc (suc (suc p + L) + M) + (n - (L + 1) - (M + 1))) (p + suc n) s (omega (
        arith,
        h.0,
        k.0,
      )) (reach rest (n - (L + 1) - (M + 1)) (place_choice_behind c body p labels ts t first second
      rest a) k.1)) (chosen (n - (L + 1)) M _ _ h.1)) (chosen n L _ _ e)

  -- after the last end
  abbrev end_shape : Shape
  end_shape = record { labels = []; operands = c.returns; rest = Stop }

  past_all : (n : ℕ) (x : Option Shape) (b : Bool) → nat_le (n + 1) n ≡ b
      → (if b then x else if n + 1 == n + 1 then Some (end_shape) else None) ≡ Some (end_shape)
  past_all n x true t = absurd (let no : n + 1 ≤ n = grind (arith, nat_tests) in omega arith)
  past_all n x false t = equal (n + 1 == n + 1) refl
    where
      equal : (b : Bool) → (n + 1 == n + 1) ≡ b
          → (if b then Some (end_shape) else None) ≡ Some (end_shape)
      equal true t = refl
      equal false t = absurd (let no : n + 1 ≡ n + 1 → ⊥ = grind (arith, nat_tests) in no refl)

  pub behind_body : HasShape c body (suc (length (spelled body))) [] (c.returns ++ []) Stop
  behind_body =
      let same : suc (length (spelled body)) ≡ length (spelled body) + 1 = omega arith in
      ap (λ z. body_shape c body z) same
      ∙ past_all (length (spelled body)) _ (nat_le (length (spelled body) + 1)
      (length (spelled body))) refl
      ∙ ap (λ z. Some (record {
        labels = [];
        operands = z;
        rest = Stop;
      })) (sym (append-nil c.returns))

  in_body : (n m : ℕ) (x y : Option Shape) → n ≤ m → (b : Bool) → nat_le n m ≡ b
      → (if b then x else y) ≡ x
  in_body n m x y h true t = refl
  in_body n m x y h false t = absurd (let no : m < n = grind (arith, nat_tests) in omega arith)

  pub root_runs : IsTypedBody c body
      → RunsFrom c body 0 (ShapeOf c.returns Stop [] Stop Main ∷ []) body [] c.returns
  root_runs typed = record {
    typed = typed;
    covers = record {
      at = λ n h. let same : 0 + n ≡ n = omega arith in
          ap (λ z. body_shape c body z) same
          ∙ in_body n (length (spelled body)) _ _ h (nat_le n (length (spelled body))) refl;
    };
  }

  pub root_place : IsTypedBody c body
      → Place c body 0 (ShapeOf c.returns Stop [] Stop Main ∷ []) [] body
  root_place typed = record {
    gives = c.returns;
    tail = instr.End ∷ [];
    runs = root_runs typed;
    code = refl;
    closes = inl (record {
      next = [];
      is = refl;
      reached = let same : suc (0 + length (spelled body))
          ≡ suc (length (spelled body)) = omega arith in ap (λ z. body_shape c body z) same
          ∙ behind_body;
    });
  }

  -- a position is inside of the body or after its last end
  pub where_position : (p : ℕ) {s : Shape} → body_shape c body p ≡ Some s
      → ((p ≤ length (spelled body))
      × (shape_at c (ShapeOf c.returns Stop [] Stop Main ∷ []) body [] p ≡ Some s))
      ⊎ ((p ≡ length (spelled body) + 1) × (end_shape ≡ s))
  where_position p {s} e =
      ⊎_elim (λ (h : (p ≤ length (spelled body)) × (shape_at c
      (ShapeOf c.returns Stop [] Stop Main ∷ []) body [] p ≡ Some s)). inl h) (λ (h :
      (length (spelled body) < p) × ((if p == length (spelled body) + 1 then Some end_shape else
      None) ≡ Some s)). inr (at_end (p == length (spelled body) + 1) refl h.1))
      (chosen p (length (spelled body)) _ _ e)
    where
      at_end : (b : Bool) → (p == length (spelled body) + 1) ≡ b
          → (if b then Some end_shape else None) ≡ Some s → (p ≡ length (spelled body) + 1)
          × (end_shape ≡ s)
      at_end true t h = (grind (arith, nat_tests), cc)
      at_end false t h = absurd (cc)

  pub where_shape : (p : ℕ) {s : Shape} → IsTypedBody c body → body_shape c body p ≡ Some s
      → PlaceOf c body p s ⊎ ((p ≡ length (spelled body) + 1) × (end_shape ≡ s))
  where_shape p {s} typed e =
      ⊎_elim (λ (h : (p ≤ length (spelled body)) × (shape_at c
      (ShapeOf c.returns Stop [] Stop Main ∷ []) body [] p ≡ Some s)). inl (placed_at (0 + p) p s
      (omega arith) (reach body p (root_place typed) h.1))) (λ
      (h : (p ≡ length (spelled body) + 1) × (end_shape ≡ s)). inr h) (where_position p e)
