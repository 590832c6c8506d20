-- Runs of locals, added one after another.
use Rattle.std.proofs.Common.{◌≡◌, ℕ, zero, suc, ◌+◌, ◌-◌, ◌≤◌, ◌<◌, Bool, true, false, leb, List}
use Rattle.std.proofs.Common.{[], ◌∷◌, ◌++◌, length, replicate, Option, Some, None, refl, sym, ◌∙◌}
use Rattle.std.proofs.Common.{append_assoc, length-append, zero-add, arith}
use Rattle.std.proofs.lemmas.Bool.{leb-true, le-leb, leb-false, lt-leb}
use Rattle.std.proofs.lemmas.List.{append-nil, length-replicate}
use Rattle.wasm_syntax.specs.declared.types.ValueType.{ValueType}
use Rattle.wasm_syntax.specs.declared.module.Code.{Code}
use Rattle.wasm_syntax.specs.declared.limits.TheConstants.{LOCALS}
use Rattle.wasm_syntax.specs.rules.Modules.{LocalRun, locals_of}
use Rattle.wasm_syntax.specs.laws.ReadingItems.{◌>>=◌, check, leb_u32_at, items_at, vector_at}
use Rattle.wasm_syntax.specs.laws.ReadingItems.{value_type_at}
use Rattle.wasm_syntax.specs.laws.ReadingModules.{run_at, locals_count}
use Rattle.wasm_syntax.specs.laws.ReadingWithin.{expression_within_at, code_within_at}
use Rattle.wasm_syntax.proofs.Grammar.Exact.{bind_bind}
use Rattle.wasm_decode.specs.Items.Entries.{run_onto_at, runs_onto_at, locals_within_at}
use Rattle.wasm_decode.proofs.ItemLemmas.Binds.{bind_same, bind_none}

-- ---- so many runs: `i` of `count` were read

module _ (locals : List ValueType) (count i : ℕ) (bytes : List ℕ) (total : Option (List ValueType
    × List ℕ)) where
  pub runs_go_on : (more : List ValueType) (after : List ℕ) → i < count
      → run_onto_at locals bytes ≡ Some (more, after)
      → runs_onto_at (count - i) locals bytes ≡ total
      → runs_onto_at (count - (i + 1)) more after ≡ total
  unfolding runs_onto_at
  runs_go_on more after lt h so_far =
      let k : count - i ≡ suc (count - (i + 1)) = omega arith in
      let one : runs_onto_at (count - i) locals bytes ≡ runs_onto_at (count - (i + 1)) more after =
      rw (k, h) refl in
      sym one ∙ so_far

  pub runs_fail : i < count → run_onto_at locals bytes ≡ None
      → runs_onto_at (count - i) locals bytes ≡ total → total ≡ None
  unfolding runs_onto_at
  runs_fail lt h so_far =
      let k : count - i ≡ suc (count - (i + 1)) = omega arith in
      let one : runs_onto_at (count - i) locals bytes ≡ None = rw (k, h) refl in
      sym so_far ∙ one

  pub runs_are_done : count ≤ i → runs_onto_at (count - i) locals bytes ≡ total
      → total ≡ Some (locals, bytes)
  unfolding runs_onto_at
  runs_are_done le so_far =
      let k : count - i ≡ 0 = omega arith in
      let one : runs_onto_at (count - i) locals bytes ≡ Some (locals, bytes) = rw k refl in
      sym so_far ∙ one

-- ---- the same as a vector of runs

-- the locals of runs, after those that were declared before
abbrev all_of : List ValueType → List LocalRun × List ℕ → Option (List ValueType × List ℕ)
all_of locals runs = check (leb (length locals + locals_count runs.0) LOCALS)
    >>= λ _. Some (locals ++ locals_of runs.0, runs.1)

-- one run of them is added first
adds : (locals : List ValueType) (r : LocalRun) (runs : List LocalRun × List ℕ)
    → all_of (locals ++ replicate r.count r.value_type) runs ≡ all_of locals (r ∷ runs.0, runs.1)
adds locals r runs =
    let count : length (locals ++ replicate r.count r.value_type) + locals_count runs.0
    ≡ length locals + (r.count + locals_count runs.0) = omega (
      arith,
      length-append locals (replicate r.count r.value_type),
      length-replicate r.count r.value_type,
    ) in
    rw (count, append_assoc locals (replicate r.count r.value_type) (locals_of runs.0)) refl

-- one run alone is too much
exceeds : (locals : List ValueType) (r : LocalRun) (runs : List LocalRun × List ℕ)
    → LOCALS < length locals + r.count → all_of locals (r ∷ runs.0, runs.1) ≡ None
exceeds locals r runs h =
    let past : LOCALS < length locals + (r.count + locals_count runs.0) = omega arith in
    rw (lt-leb _ _ past) refl

abbrev run_of : ℕ → ValueType × List ℕ → Option (LocalRun × List ℕ)
run_of count t = Some (record { count = count; value_type = t.0 }, t.1)

abbrev declared : List ValueType → ℕ → ValueType × List ℕ → Option (List ValueType × List ℕ)
declared locals count t = Some (locals ++ replicate count t.0, t.1)

abbrev behind : ℕ → LocalRun × List ℕ → Option (List LocalRun × List ℕ)
behind n first = items_at run_at n first.1 >>= λ others. Some (first.0 ∷ others.0, others.1)

module _ (n : ℕ) (rest_are : (locals : List ValueType) (bytes : List ℕ) → length locals ≤ LOCALS
    → runs_onto_at n locals bytes ≡ (items_at run_at n bytes
    >>= all_of locals)) (locals : List ValueType) where
  by_test : (b : Bool) (count : ℕ) (t : ValueType × List ℕ) → leb (length locals + count) LOCALS ≡ b
      → ((check b >>= λ _. declared locals count t) >>= λ more. runs_onto_at n more.0 more.1)
      ≡ ((run_of count t >>= behind n) >>= all_of locals)
  by_test true count t e =
      let r : LocalRun = record { count = count; value_type = t.0 } in
      let few : length (locals ++ replicate count t.0) ≤ LOCALS =
      omega (
        arith,
        leb-true _ _ e,
        length-append locals (replicate count t.0),
        length-replicate count t.0,
      ) in
      rest_are (locals ++ replicate count t.0) t.1 few
      ∙ bind_same (items_at run_at n t.1) (all_of (locals ++ replicate count t.0)) (λ others.
      all_of locals (r ∷ others.0, others.1)) (λ others. adds locals r others)
      ∙ sym (bind_bind (items_at run_at n t.1) (λ others. Some (
        r ∷ others.0,
        others.1,
      )) (all_of locals))
  by_test false count t e =
      let r : LocalRun = record { count = count; value_type = t.0 } in
      sym (bind_bind (items_at run_at n t.1) (λ others. Some (
        r ∷ others.0,
        others.1,
      )) (all_of locals)
      ∙ bind_none (items_at run_at n t.1) (λ others. all_of locals (
        r ∷ others.0,
        others.1,
      )) (λ others. exceeds locals r others (leb-false _ _ e)))

  by_type : (o : Option (ValueType × List ℕ)) (count : ℕ)
      → ((check (leb (length locals + count) LOCALS) >>= λ _. o >>= declared locals count)
      >>= λ more. runs_onto_at n more.0 more.1) ≡ ((o >>= run_of count >>= behind n)
      >>= all_of locals)
  by_type None count = fails (leb (length locals + count) LOCALS) where
    fails : (b : Bool) → ((check b >>= λ _. (None >>= declared locals count))
        >>= λ more. runs_onto_at n more.0 more.1) ≡ None
    fails true = refl
    fails false = refl
  by_type (Some t) count = by_test (leb (length locals + count) LOCALS) count t refl

  by_count : (o : Option (ℕ × List ℕ))
      → ((o >>= λ count. check (leb (length locals + count.0) LOCALS) >>= λ _. value_type_at count.1
      >>= declared locals count.0) >>= λ more. runs_onto_at n more.0 more.1)
      ≡ (((o >>= λ count. value_type_at count.1 >>= run_of count.0) >>= behind n) >>= all_of locals)
  by_count None = refl
  by_count (Some count) = by_type (value_type_at count.1) count.0

runs_are : (n : ℕ) (locals : List ValueType) (bytes : List ℕ) → length locals ≤ LOCALS
    → runs_onto_at n locals bytes ≡ (items_at run_at n bytes >>= all_of locals)
unfolding runs_onto_at run_onto_at items_at run_at
runs_are zero locals bytes h =
    let few : length locals + 0 ≤ LOCALS = omega arith in
    rw (le-leb _ _ few, append-nil locals) refl
runs_are (suc n) locals bytes h = by_count n (runs_are n) locals (leb_u32_at bytes)

-- ---- code entries

abbrev alone : List LocalRun × List ℕ → Option (List ValueType × List ℕ)
alone runs = check (leb (locals_count runs.0) LOCALS) >>= λ _. Some (locals_of runs.0, runs.1)

behind_none : (runs : List LocalRun × List ℕ) → alone runs ≡ all_of [] runs
behind_none runs = rw (zero-add (locals_count runs.0)) refl

pub locals_by_runs : (bytes : List ℕ)
    → locals_within_at bytes ≡ (leb_u32_at bytes >>= λ count. runs_onto_at count.0 [] count.1)
unfolding locals_within_at vector_at
locals_by_runs bytes =
    bind_same (leb_u32_at bytes
    >>= λ count. items_at run_at count.0 count.1) alone (all_of []) behind_none
    ∙ bind_bind (leb_u32_at bytes) (λ count. items_at run_at count.0 count.1) (all_of [])
    ∙ bind_same (leb_u32_at bytes) (λ count. items_at run_at count.0 count.1
    >>= all_of []) (λ count. runs_onto_at count.0 [] count.1) (λ count.
    sym (runs_are count.0 [] count.1 (omega arith)))

abbrev pub code_of : List ValueType × List ℕ → Option (Code × List ℕ)
code_of locals = expression_within_at locals.1 >>= λ body. Some (
  record {
    locals = locals.0;
    body = body.0;
  },
  body.1,
)

pub code_by_locals : (bytes : List ℕ) → code_within_at bytes ≡ (locals_within_at bytes >>= code_of)
unfolding code_within_at locals_within_at
code_by_locals bytes = by_runs (vector_at run_at bytes) where
  by_test : (b : Bool) (runs : List LocalRun × List ℕ)
      → (check b >>= λ _. code_of (locals_of runs.0, runs.1))
      ≡ ((check b >>= λ _. Some (locals_of runs.0, runs.1)) >>= code_of)
  by_test true runs = refl
  by_test false runs = refl

  by_runs : (o : Option (List LocalRun × List ℕ))
      → (o >>= λ runs. check (leb (locals_count runs.0) LOCALS)
      >>= λ _. code_of (locals_of runs.0, runs.1))
      ≡ ((o >>= λ runs. check (leb (locals_count runs.0) LOCALS)
      >>= λ _. Some (locals_of runs.0, runs.1)) >>= code_of)
  by_runs None = refl
  by_runs (Some runs) = by_test (leb (locals_count runs.0) LOCALS) runs
