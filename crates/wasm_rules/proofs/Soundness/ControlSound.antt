-- Branches, calls, returns and ends keep a typed thread so.
use Rattle.std.proofs.Common.{◌≡◌, ℕ, zero, suc, Bool, true, false, if◌then◌else◌, ◌&&◌, List, []}
use Rattle.std.proofs.Common.{◌∷◌, ◌++◌, length, drop, Some, refl, sym, ap}
use Rattle.std.specs.Prelude.{slice_get, reverse, map, unwrap_or}
use Rattle.std.specs.List.{AllByRecursion}
use Rattle.std.proofs.lemmas.List.{append-nil, reverse-reverse}
use Rattle.wasm_syntax.specs.declared.types.ValueType.{ValueType}
use Rattle.wasm_syntax.specs.declared.types.ValueType.TheVariants.{I32, I64}
use Rattle.wasm_syntax.specs.declared.types.FunctionType.{FunctionType}
use Rattle.wasm_syntax.specs.declared.value.Value.{Value}
use Rattle.wasm_syntax.specs.declared.value.Trap.TheVariants as trap
use Rattle.wasm_syntax.specs.rules.Sequence.{Sequence, Stop}
use Rattle.wasm_rules.specs.Types.{AreOf, takes_of, gives_of, is_same_type, are_same_types}
use Rattle.wasm_rules.specs.Types.{is_same_function_type}
use Rattle.wasm_rules.specs.Typing.{Context, body_context, IsLabel}
use Rattle.wasm_rules.specs.Configuration.{Callee, Imported, Own, Program, Part, Main, Label}
use Rattle.wasm_rules.specs.Configuration.{LabelOf, Frame, FrameOf, Thread, Configuration}
use Rattle.wasm_rules.specs.Configuration.{Goes, Traps}
use Rattle.wasm_rules.specs.Steps.{branch, returned, called, signature_of, zero_of}
use Rattle.wasm_rules.specs.Typed.{IsTypedCallee, IsTypedProgram, AreTypedLabels, IsTypedFrame}
use Rattle.wasm_rules.specs.Typed.{IsTypedThread, IsTyped}
use Rattle.wasm_rules.specs.laws.Soundness.{IsSound}
use Rattle.wasm_rules.proofs.Soundness.Values.{are_both, topmost_are, zeros_are, reverse_are}

-- ---- branches

branch_zero : (c : Context) (f : ℕ) (ls vs : List Value) (ts rest out : List ValueType)
    (tss : List (List ValueType)) (keeps : ℕ) (target after : Sequence) (which : Part)
    (below : List Value) (labels : List Label) → AreOf (ts ++ rest) vs → AreOf c.locals ls
    → AreTypedLabels c (ts ∷ tss) (LabelOf keeps target below after which ∷ labels) out
    → (labels' : List Label) × (vs' : List Value) × (rest' : Sequence)
    × (branch zero f ls (LabelOf keeps target below after which ∷ labels) vs
    ≡ Some (FrameOf f ls labels' vs' rest')) × IsTypedFrame c [] ls labels' vs' rest'
branch_zero c f ls vs ts rest out tss keeps target after which below labels o l h =
    let r = topmost_are ts rest vs o in (
      labels,
      r.0 ++ below,
      target,
      rw (h.2, r.1) refl,
      record {
        branches = tss;
        types = ts ++ h.0;
        out = h.1;
        locals = l;
        values = are_both ts h.0 r.0 below r.2 h.3;
        typed_rest = h.5;
        typed_labels = h.6;
      },
    )

-- a branch to a label finds what the label takes
pub branch_has : (c : Context) (d f : ℕ) (ls vs : List Value) (ts rest out : List ValueType)
    (branches : List (List ValueType)) (labels : List Label) → IsLabel branches ts d
    → AreOf (ts ++ rest) vs → AreOf c.locals ls → AreTypedLabels c branches labels out
    → (labels' : List Label) × (vs' : List Value) × (rest' : Sequence)
    × (branch d f ls labels vs ≡ Some (FrameOf f ls labels' vs' rest'))
    × IsTypedFrame c [] ls labels' vs' rest'
branch_has c d f ls vs ts rest out [] [] is o l h = absurd (cc)
branch_has c d f ls vs ts rest out [] (b ∷ labels) is o l h = absurd h
branch_has c d f ls vs ts rest out (us ∷ tss) [] is o l h = absurd h
branch_has c zero f ls vs ts rest out (us ∷ tss) (LabelOf keeps target below after which
    ∷ labels) is o l h =
    let same : ts ≡ us = cc in
    branch_zero c f ls vs us rest out tss keeps target after which below labels (rw same at o) l h
branch_has c (suc d) f ls vs ts rest out (us ∷ tss) (LabelOf keeps target below after which
    ∷ labels) is o l h =
    branch_has c d f ls vs ts rest h.1 tss labels is o l h.6

-- the label that a table of labels chooses
pub chosen_label : (branches : List (List ValueType)) (ts : List ValueType) (table : List ℕ)
    (last n : ℕ) → AllByRecursion (IsLabel branches ts) table → IsLabel branches ts last
    → IsLabel branches ts (unwrap_or (slice_get table n) last)
chosen_label branches ts [] last n h k = k
chosen_label branches ts (l ∷ table) last zero h k = h.0
chosen_label branches ts (l ∷ table) last (suc n) h k = chosen_label branches ts table last n h.1 k

-- ---- returns

-- a thread whose first frame is given values of the types that it waits for
pub returned_typed : (base : Context) (program : Program) (ts : List ValueType)
    (results : List Value) (frames : Thread) → AreOf ts results
    → IsTypedThread base program ts frames → IsTypedThread base program [] (returned results frames)
returned_typed base program ts results [] o h = tt
returned_typed base program ts results (FrameOf f ls labels vs rest ∷ frames) o h = (
  h.0,
  h.1,
  h.2,
  h.3,
  record {
    branches = h.4.branches;
    types = ts ++ h.4.types;
    out = h.4.out;
    locals = h.4.locals;
    values = are_both ts h.4.types results vs o h.4.values;
    typed_rest = h.4.typed_rest;
    typed_labels = h.4.typed_labels;
  },
  h.5,
)

-- ---- calls

-- the frame of a function that is entered
pub entered_typed : (base : Context) (f : ℕ) (signature : FunctionType) (declared : List ValueType)
    (body : Sequence) (arguments : List Value) → AreOf (takes_of signature) arguments
    → IsTypedCallee base (Own signature declared body)
    → IsTypedFrame (body_context base signature declared) [] (reverse arguments
    ++ map zero_of declared) (LabelOf (length (gives_of signature)) Stop [] Stop Main ∷ []) [] body
entered_typed base f signature declared body arguments o h =
    let taken : AreOf signature.parameters (reverse arguments) =
    (rw reverse-reverse at (reverse_are (takes_of signature) arguments o)) in
    record {
      branches = gives_of signature ∷ [];
      types = [];
      out = gives_of signature;
      locals = are_both signature.parameters declared (reverse arguments)
          (map zero_of declared) taken (zeros_are declared);
      values = tt;
      typed_rest = h;
      typed_labels = (
        [],
        gives_of signature,
        refl,
        tt,
        append-nil (gives_of signature),
        append-nil (gives_of signature),
        refl,
      );
    }

module _ (base : Context) (program : Program) (typed : IsTypedProgram base program)
    (c : Configuration) (now : IsTyped base program c) where
  -- a configuration with another thread
  pub with_thread : (thread : Thread) → IsTypedThread base program [] thread
      → IsTyped base program (record c { thread = thread })
  with_thread thread h = record { store = now.store; thread = h; later = now.later }

  exhausted_sound : (b : Bool) (thread : Thread) → IsTypedThread base program [] thread
      → IsSound base program (if b then Traps trap.StackExhausted
      else Goes (record c { thread = thread }))
  exhausted_sound true thread h = tt
  exhausted_sound false thread h = with_thread thread h

  -- the call of a function whose arguments are on top
  pub called_sound : (f : ℕ) (callee : Callee) (caller : List Value
      → Frame) (below : List ValueType) (vs : List Value) (frames : Thread)
      → slice_get program.functions f ≡ Some callee → AreOf
      (takes_of (signature_of callee) ++ below) vs → ((others : List Value) → AreOf below others
      → IsTypedThread base program (gives_of (signature_of callee)) (caller others ∷ frames))
      → IsSound base program (called f callee c caller vs frames)
  called_sound f (Imported signature) caller below vs frames is o back =
      let r = topmost_are (takes_of signature) below vs o in
      rw r.1 (signature, is, r.2, back (drop (length (takes_of signature)) vs) r.3)
  called_sound f (Own signature declared body) caller below vs frames is o back =
      let r = topmost_are (takes_of signature) below vs o in
      let frame = entered_typed base f signature declared body r.0 r.2
      (typed.bodies f (Own signature declared body) is) in
      rw r.1 (exhausted_sound _ _ (
        signature,
        declared,
        body,
        is,
        frame,
        back (drop (length (takes_of signature)) vs) r.3,
      ))

-- ---- equal types

pub same_type : (t u : ValueType) → is_same_type t u ≡ true → t ≡ u
same_type I32 I32 e = refl
same_type I64 I64 e = refl
same_type I32 I64 e = absurd (cc)
same_type I64 I32 e = absurd (cc)

both_true : (a b : Bool) → a && b ≡ true → (a ≡ true) × (b ≡ true)
both_true true true e = (refl, refl)
both_true true false e = absurd (cc)
both_true false b e = absurd (cc)

pub same_types : (ts us : List ValueType) → are_same_types ts us ≡ true → ts ≡ us
same_types [] [] e = refl
same_types [] (u ∷ us) e = absurd (cc)
same_types (t ∷ ts) [] e = absurd (cc)
same_types (t ∷ ts) (u ∷ us) e =
    let b = both_true (is_same_type t u) (are_same_types ts us) e in
    let first = same_type t u b.0 in let others = same_types ts us b.1 in cc

pub is_same : (t : ValueType) → is_same_type t t ≡ true
is_same I32 = refl
is_same I64 = refl

pub are_same : (ts : List ValueType) → are_same_types ts ts ≡ true
are_same [] = refl
are_same (t ∷ ts) = rw (is_same t) (are_same ts)

-- the test of two function types tells that they are one
pub same_function_type : (f g : FunctionType) → is_same_function_type f g ≡ true
    → (takes_of g ≡ takes_of f) × (gives_of g ≡ gives_of f)
same_function_type f g e =
    let b = both_true (are_same_types f.parameters g.parameters)
    (are_same_types f.results g.results) e in (
      sym (ap reverse (same_types f.parameters g.parameters b.0)),
      sym (ap reverse (same_types f.results g.results b.1)),
    )
