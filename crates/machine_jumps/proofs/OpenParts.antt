-- Where the making of a table is: what is open, what remains of each open sequence, and which
-- of it typing reaches.
use Rattle.std.proofs.Common.{◌≡◌, ◌⊎◌, inl, inr, ⊎_elim, ℕ, suc, ◌+◌, ◌-◌, List, [], ◌∷◌, ◌++◌}
use Rattle.std.proofs.Common.{length, drop, Bool, true, false, Option, None, refl, sym, ap, ◌∙◌}
use Rattle.std.proofs.Common.{subst, arith, length-append, length-drop}
use Rattle.std.specs.Prelude.{nat_le, if◌then◌else◌}
use Rattle.wasm_syntax.specs.declared.types.ValueType.{ValueType}
use Rattle.wasm_syntax.specs.declared.instruction.Instruction.{Instruction}
use Rattle.wasm_syntax.specs.declared.instruction.Instruction.TheVariants as instr
use Rattle.wasm_syntax.specs.rules.Sequence.{Sequence, InBlock, InLoop, InIf, InIfElse, spelled}
use Rattle.wasm_syntax.specs.rules.Sequence.{IsNested}
use Rattle.wasm_rules.specs.Configuration.{Part, Main, Second}
use Rattle.wasm_rules.specs.Types.{results_of}
use Rattle.wasm_rules.specs.Typing.{Context}
use Rattle.wasm_rules.specs.Shapes.{Shape, LabelShape, ShapeOf, body_shape}
use Rattle.wasm_rules.specs.laws.Laws.{labels_height}
use Rattle.wasm_rules.proofs.TypedShape.{closed_length}
use Rattle.machine_jumps.specs.declared.open.Open.{Open}
use Rattle.machine_jumps.specs.Jumps.{HasShape, JumpsTo}
use Rattle.machine_jumps.specs.Making.{base_of, open_sequence}
use Rattle.machine_jumps.proofs.Runs.{Agrees, agrees_behind, agrees_first, agrees_second, RunsFrom}
use Rattle.machine_jumps.proofs.Runs.{runs_here, run_block_in, run_block_behind, run_loop_in}
use Rattle.machine_jumps.proofs.Runs.{run_loop_behind, run_if_in, run_if_behind, run_choice_first}
use Rattle.machine_jumps.proofs.Runs.{run_choice_second, run_choice_behind}

-- ---- what holds of the open sequences

-- the jumps of the open sequences are those of the labels
abbrev pub AreTargets : Context → Sequence → List LabelShape → List Open → Type 0
AreTargets c body [] [] = Unit {0}
AreTargets c body (ShapeOf takes target below after which ∷ outer) (o ∷ opens) =
    JumpsTo c body takes below outer target o.jump × AreTargets c body outer opens
AreTargets c body [] (o ∷ opens) = ⊥
AreTargets c body (label ∷ outer) [] = ⊥

pub base_is : (c : Context) (body : Sequence) (labels : List LabelShape) (opens : List Open)
    → AreTargets c body labels opens → base_of opens ≡ labels_height labels
base_is c body [] [] h = refl
base_is c body [] (o ∷ opens) h = absurd h
base_is c body (label ∷ outer) [] h = absurd h
base_is c body (ShapeOf takes target below after which ∷ outer) (o ∷ opens) h = h.0.height

-- a branch to the label of a first part leads where its end leads
abbrev pub IsPart : Bool → List ValueType → List LabelShape → Type 0
IsPart false gives labels = Unit {0}
IsPart true gives [] = ⊥
IsPart true gives (ShapeOf takes target below after which ∷ outer) =
    (takes ≡ gives) × (target ≡ after)

-- typing reaches this position, with n operands
pub record Live (c : Context) (body : Sequence) (p : ℕ) (opens : List Open) (n : ℕ)
    (rest : Sequence) (parted : Bool) : Type 0 where
  pub labels : List LabelShape
  pub ts : List ValueType
  pub gives : List ValueType
  pub runs : RunsFrom c body p labels rest ts gives
  pub count : n ≡ length ts
  pub targets : AreTargets c body labels opens
  pub part : IsPart parted gives labels

abbrev pub nothing : ℕ → Option Shape
nothing n = None

-- it reaches this position, or no position up to the end of this sequence
abbrev pub Lives : Context → Sequence → ℕ → List Open → ℕ → Sequence → Bool → Type 0
Lives c body p opens n rest parted = Live c body p opens n rest parted
    ⊎ Agrees c body p (length (spelled rest)) nothing

-- what closes the innermost sequence, whose last opcode is before position e
pub record EndTail (later : ℕ → List Instruction
    → Type 0) (e : ℕ) (tail : List Instruction) : Type 0 where
  pub next : List Instruction
  pub is : tail ≡ instr.End ∷ next
  pub follows : later (suc e) next

pub record ElseTail (c : Context) (body : Sequence) (opens : List Open) (later : ℕ
    → List Instruction → Type 0) (e : ℕ) (tail : List Instruction) : Type 0 where
  pub second : Sequence
  pub next : List Instruction
  pub is : tail ≡ instr.Else ∷ (spelled second ++ (instr.End ∷ next))
  pub nested : IsNested second
  pub lives : Lives c body (suc e) opens 0 second false
  pub follows : later (suc (suc e + length (spelled second))) next

abbrev pub TailOf : Context → Sequence → List Open → (ℕ → List Instruction → Type 0) → Bool → ℕ
    → List Instruction → Type 0
TailOf c body opens later false e tail = EndTail later e tail
TailOf c body opens later true e tail = ElseTail c body opens later e tail

pub record Within (c : Context) (body : Sequence) (p : ℕ) (opens : List Open) (n : ℕ) (later : ℕ
    → List Instruction → Type 0) (opcodes : List Instruction) : Type 0 where
  pub rest : Sequence
  pub tail : List Instruction
  pub parted : Bool
  pub nested : IsNested rest
  pub code : opcodes ≡ spelled rest ++ tail
  pub lives : Lives c body p opens n rest parted
  pub closes : TailOf c body opens later parted (p + length (spelled rest)) tail

-- the opcodes from position p on close all that is open
abbrev pub CloseAll : Context → Sequence → ℕ → List Open → ℕ → List Instruction → Type 0
CloseAll c body p [] n opcodes = opcodes ≡ []
CloseAll c body p (o ∷ opens) n opcodes =
    Within c body p (o ∷ opens) n (λ q next. CloseAll c body q opens (o.below + o.gives) next)
    opcodes

-- ---- how a sequence falls into parts

none_both : (b : Bool) (x y : Option Shape) → x ≡ None → y ≡ None → None ≡ (if b then x else y)
none_both true x y e f = sym e
none_both false x y e f = sym f

module _ (c : Context) (body : Sequence) where
  dead_first : {q len : ℕ} (L R : ℕ) → Agrees c body q len nothing → len ≡ L + suc R
      → Agrees c body q L nothing
  dead_first L R a e =
      agrees_first L R nothing nothing a e (λ n.
      none_both (nat_le n L) None None refl refl)

  dead_second : {q len : ℕ} (L R : ℕ) → Agrees c body q len nothing → len ≡ L + suc R
      → Agrees c body (suc (q + L)) R nothing
  dead_second L R a e =
      agrees_second L R nothing nothing a e (λ n.
      none_both (nat_le n L) None None refl refl)

  module _ (p : ℕ) (opens : List Open) (n : ℕ) (t : Option ValueType) (inner rest : Sequence)
      (parted : Bool) where
    dead_behind : (i : Instruction)
        → Agrees c body p (suc (length (spelled inner ++ (i ∷ spelled rest)))) nothing
        → Agrees c body (suc p) (length (spelled inner) + suc (length (spelled rest))) nothing
    dead_behind i a =
        agrees_behind (length (spelled inner) + suc (length (spelled rest))) a
        (ap suc (closed_length (spelled inner) (spelled rest) i))

    dead_in : Agrees c body p (suc (length (spelled inner ++ (instr.End ∷ spelled rest)))) nothing
        → Agrees c body (suc p) (length (spelled inner)) nothing
    dead_in a = dead_first (length (spelled inner)) (length (spelled rest))
        (dead_behind instr.End a) refl

    dead_after : Agrees c body p (suc (length (spelled inner ++ (instr.End ∷ spelled rest))))
        nothing → Agrees c body (suc (suc p + length (spelled inner)))
        (length (spelled rest)) nothing
    dead_after a =
        dead_second (length (spelled inner)) (length (spelled rest)) (dead_behind instr.End a) refl

    far_is : suc p + length (spelled inner) + 1 ≡ suc (suc p + length (spelled inner))
    far_is = omega arith

    pub block_after : Lives c body p opens n (InBlock t inner rest) parted
        → Lives c body (suc (suc p + length (spelled inner))) opens (n
        + length (results_of t)) rest parted
    block_after =
        ⊎_elim
        (λ (l : Live c body p opens n (InBlock t inner rest) parted). inl (record {
          labels = l.labels;
          ts = results_of t ++ l.ts;
          gives = l.gives;
          runs = run_block_behind c body p l.labels l.ts l.gives t inner rest l.runs;
          count = let e = l.count in simp length-append (omega arith);
          targets = l.targets;
          part = l.part;
        }))
        (λ (a : Agrees c body p (suc (length (spelled inner ++ (instr.End ∷ spelled rest))))
        nothing). inr (dead_after a))

    pub block_in : Lives c body p opens n (InBlock t inner rest) parted
        → Lives c body (suc p) (open_sequence (suc p + length (spelled inner) + 1)
        (length (results_of t)) (length (results_of t)) n opens ∷ opens) 0 inner false
    block_in =
        ⊎_elim
        (λ (l : Live c body p opens n (InBlock t inner rest) parted). inl (record {
          labels = ShapeOf (results_of t) rest l.ts rest Main ∷ l.labels;
          ts = [];
          gives = results_of t;
          runs = run_block_in c body p l.labels l.ts l.gives t inner rest l.runs;
          count = refl;
          targets = (
            record {
              keeps = refl;
              height = let e = l.count in let b = base_is c body l.labels opens l.targets in
                  omega arith;
              reached = ap (λ z. body_shape c body z) far_is ∙ runs_here (run_block_behind c body p
                  l.labels l.ts l.gives t inner rest l.runs);
            },
            l.targets,
          );
          part = tt;
        }))
        (λ (a : Agrees c body p (suc (length (spelled inner ++ (instr.End ∷ spelled rest))))
        nothing). inr (dead_in a))

    pub loop_after : Lives c body p opens n (InLoop t inner rest) parted
        → Lives c body (suc (suc p + length (spelled inner))) opens (n
        + length (results_of t)) rest parted
    loop_after =
        ⊎_elim
        (λ (l : Live c body p opens n (InLoop t inner rest) parted). inl (record {
          labels = l.labels;
          ts = results_of t ++ l.ts;
          gives = l.gives;
          runs = run_loop_behind c body p l.labels l.ts l.gives t inner rest l.runs;
          count = let e = l.count in simp length-append (omega arith);
          targets = l.targets;
          part = l.part;
        }))
        (λ (a : Agrees c body p (suc (length (spelled inner ++ (instr.End ∷ spelled rest))))
        nothing). inr (dead_after a))

    pub loop_in : Lives c body p opens n (InLoop t inner rest) parted
        → Lives c body (suc p) (open_sequence p 0 (length (results_of t)) n opens
        ∷ opens) 0 inner false
    loop_in =
        ⊎_elim
        (λ (l : Live c body p opens n (InLoop t inner rest) parted). inl (record {
          labels = ShapeOf [] (InLoop t inner rest) l.ts rest Main ∷ l.labels;
          ts = [];
          gives = results_of t;
          runs = run_loop_in c body p l.labels l.ts l.gives t inner rest l.runs;
          count = refl;
          targets = (
            record {
              keeps = refl;
              height = let e = l.count in let b = base_is c body l.labels opens l.targets in
                  omega arith;
              reached = runs_here l.runs;
            },
            l.targets,
          );
          part = tt;
        }))
        (λ (a : Agrees c body p (suc (length (spelled inner ++ (instr.End ∷ spelled rest))))
        nothing). inr (dead_in a))

    pub if_after : Lives c body p opens n (InIf t inner rest) parted
        → Lives c body (suc (suc p + length (spelled inner))) opens (n - 1
        + length (results_of t)) rest parted
    if_after =
        ⊎_elim
        (λ (l : Live c body p opens n (InIf t inner rest) parted). inl (record {
          labels = l.labels;
          ts = results_of t ++ drop 1 l.ts;
          gives = l.gives;
          runs = run_if_behind c body p l.labels l.ts l.gives t inner rest l.runs;
          count = let e = l.count in simp (length-append, length-drop) (omega arith);
          targets = l.targets;
          part = l.part;
        }))
        (λ (a : Agrees c body p (suc (length (spelled inner ++ (instr.End ∷ spelled rest))))
        nothing). inr (dead_after a))

    pub if_in : Lives c body p opens n (InIf t inner rest) parted
        → Lives c body (suc p) (open_sequence (suc p + length (spelled inner) + 1)
        (length (results_of t)) (length (results_of t)) (n - 1) opens ∷ opens) 0 inner false
    if_in =
        ⊎_elim
        (λ (l : Live c body p opens n (InIf t inner rest) parted). inl (record {
          labels = ShapeOf (results_of t) rest (drop 1 l.ts) rest Main ∷ l.labels;
          ts = [];
          gives = results_of t;
          runs = run_if_in c body p l.labels l.ts l.gives t inner rest l.runs;
          count = refl;
          targets = (
            record {
              keeps = refl;
              height = let e = l.count in let b = base_is c body l.labels opens l.targets in
                  simp length-drop (omega arith);
              reached = ap (λ z. body_shape c body z) far_is ∙ runs_here (run_if_behind c body p
                  l.labels l.ts l.gives t inner rest l.runs);
            },
            l.targets,
          );
          part = tt;
        }))
        (λ (a : Agrees c body p (suc (length (spelled inner ++ (instr.End ∷ spelled rest))))
        nothing). inr (dead_in a))

    -- where an `if` without a second part goes
    pub if_jump : (l : Live c body p opens n (InIf t inner rest) parted)
        → JumpsTo c body [] (drop 1 l.ts) l.labels rest
        (record {
          to = suc p + length (spelled inner) + 1;
          keeps = 0;
          height = base_of opens + (n - 1);
        })
    if_jump l = record {
      keeps = refl;
      height = let e = l.count in let b = base_is c body l.labels opens l.targets in
          simp length-drop (omega arith);
      reached =
          let here = runs_here (run_if_behind c body p l.labels l.ts l.gives t inner rest l.runs) in
          ap (λ z. body_shape c body z) far_is
          ∙ subst (λ z. HasShape c body (suc (suc p + length (spelled inner))) l.labels
          (results_of z ++ drop 1 l.ts) rest) l.runs.typed.2 here;
    }

  module _ (p : ℕ) (opens : List Open) (n : ℕ) (t : Option ValueType) (first second rest : Sequence)
      (parted : Bool) where
    L : ℕ
    L = length (spelled first)

    dead_if : Agrees c body p (suc (length (spelled first
        ++ (instr.Else ∷ (spelled second ++ (instr.End ∷ spelled rest)))))) nothing
        → Agrees c body (suc p) (length (spelled first)
        + suc (length (spelled second) + suc (length (spelled rest)))) nothing
    dead_if a =
        let len = closed_length (spelled second) (spelled rest) instr.End in
        agrees_behind _ a (ap suc (closed_length (spelled first)
        (spelled second ++ (instr.End ∷ spelled rest)) instr.Else ∙ ap
        (λ z. length (spelled first) + suc z) len))

    dead_else : Agrees c body p (suc (length (spelled first
        ++ (instr.Else ∷ (spelled second ++ (instr.End ∷ spelled rest)))))) nothing
        → Agrees c body (suc (suc p + length (spelled first))) (length (spelled second)
        + suc (length (spelled rest))) nothing
    dead_else a =
        dead_second (length (spelled first)) (length (spelled second) + suc (length (spelled rest)))
        (dead_if a) refl

    abbrev label : Part → List ValueType → LabelShape
    label which ts = ShapeOf (results_of t) rest (drop 1 ts) rest which

    -- the last end, and the position after it
    last_is : suc (suc p + length (spelled first)) + length (spelled second) + 1
        ≡ suc (suc (suc p + length (spelled first)) + length (spelled second))
    last_is = omega arith

    pub choice_after : Lives c body p opens n (InIfElse t first second rest) parted
        → Lives c body (suc (suc (suc p + length (spelled first)) + length (spelled second))) opens
        (n - 1 + length (results_of t)) rest parted
    choice_after =
        ⊎_elim
        (λ (l : Live c body p opens n (InIfElse t first second rest) parted). inl (record {
          labels = l.labels;
          ts = results_of t ++ drop 1 l.ts;
          gives = l.gives;
          runs = run_choice_behind c body p l.labels l.ts l.gives t first second rest l.runs;
          count = let e = l.count in simp (length-append, length-drop) (omega arith);
          targets = l.targets;
          part = l.part;
        })) (λ (a : Agrees c body p (suc (length (spelled first ++
        (instr.Else ∷ (spelled second ++ (instr.End ∷ spelled rest)))))) nothing).
        inr (dead_second (length (spelled second)) (length (spelled rest)) (dead_else a) refl))

    abbrev of_choice : Open
    of_choice = open_sequence (suc (suc p + length (spelled first)) + length (spelled second) + 1)
        (length (results_of t)) (length (results_of t)) (n - 1) opens

    choice_targets : (which : Part)
        (l : Live c body p opens n (InIfElse t first second rest) parted)
        → AreTargets c body (label which l.ts ∷ l.labels) (of_choice ∷ opens)
    choice_targets which l = (
      record {
        keeps = refl;
        height = let e = l.count in let b = base_is c body l.labels opens l.targets in
            simp length-drop (omega arith);
        reached = ap (λ z. body_shape c body z) last_is ∙ runs_here (run_choice_behind c body p
            l.labels l.ts l.gives t first second rest l.runs);
      },
      l.targets,
    )

    pub choice_first : Lives c body p opens n (InIfElse t first second rest) parted
        → Lives c body (suc p) (of_choice ∷ opens) 0 first true
    choice_first =
        ⊎_elim
        (λ (l : Live c body p opens n (InIfElse t first second rest) parted). inl (record {
          labels = label Main l.ts ∷ l.labels;
          ts = [];
          gives = results_of t;
          runs = run_choice_first c body p l.labels l.ts l.gives t first second rest l.runs;
          count = refl;
          targets = choice_targets Main l;
          part = (refl, refl);
        })) (λ (a : Agrees c body p (suc (length (spelled first ++
        (instr.Else ∷ (spelled second ++ (instr.End ∷ spelled rest)))))) nothing).
        inr (dead_first (length (spelled first))
        (length (spelled second) + suc (length (spelled rest))) (dead_if a) refl))

    pub choice_second : Lives c body p opens n (InIfElse t first second rest) parted
        → Lives c body (suc (suc p + length (spelled first))) (of_choice ∷ opens) 0 second false
    choice_second =
        ⊎_elim
        (λ (l : Live c body p opens n (InIfElse t first second rest) parted). inl (record {
          labels = label Second l.ts ∷ l.labels;
          ts = [];
          gives = results_of t;
          runs = run_choice_second c body p l.labels l.ts l.gives t first second rest l.runs;
          count = refl;
          targets = choice_targets Second l;
          part = tt;
        })) (λ (a : Agrees c body p (suc (length (spelled first ++
        (instr.Else ∷ (spelled second ++ (instr.End ∷ spelled rest)))))) nothing).
        inr (dead_first (length (spelled second)) (length (spelled rest)) (dead_else a) refl))

    -- where an `if` with a second part goes
    pub choice_jump : (l : Live c body p opens n (InIfElse t first second rest) parted)
        → JumpsTo c body [] [] (label Second l.ts
        ∷ l.labels) second (record {
          to = suc p + length (spelled first) + 1;
          keeps = 0;
          height = base_of opens + (n - 1);
        })
    choice_jump l =
        let same : suc p + length (spelled first) + 1 ≡ suc (suc p + length (spelled first)) =
        omega arith in
        record {
          keeps = refl;
          height = let e = l.count in let b = base_is c body l.labels opens l.targets in
              simp length-drop (omega arith);
          reached = ap (λ z. body_shape c body z) same ∙ runs_here (run_choice_second c body p
              l.labels l.ts l.gives t first second rest l.runs);
        }
