-- Functions, whose code is read beside their types.
use Rattle.std.proofs.Common.{◌≡◌, ℕ, zero, suc, Bool, true, false, eqb, List, [], ◌∷◌, ◌++◌}
use Rattle.std.proofs.Common.{length, Option, Some, None, refl, sym, ap, ◌∙◌, append_assoc, drop}
use Rattle.std.proofs.Common.{get_or, add-one, drop-cons, ◌+◌, ◌<◌, ◌≤◌, arith}
use Rattle.std.proofs.Math.ListN.{drop_of_length-le}
use Rattle.std.proofs.lemmas.Bool.{eqb-true, eq-eqb, eqb-false, ne_eqb}
use Rattle.std.proofs.lemmas.List.{append-nil, length-map}
use Rattle.wasm_syntax.specs.declared.module.Function.{Function}
use Rattle.wasm_syntax.specs.declared.module.Code.{Code}
use Rattle.wasm_syntax.specs.rules.Modules.{function_type_of, code_of}
use Rattle.wasm_syntax.specs.laws.ReadingItems.{◌>>=◌, check, leb_u32_at, items_at, vector_at}
use Rattle.wasm_syntax.specs.laws.ReadingItems.{sized_at}
use Rattle.wasm_syntax.specs.laws.ReadingModules.{field_at, functions_of}
use Rattle.wasm_syntax.specs.laws.ReadingWithin.{code_within_at}
use Rattle.wasm_syntax.proofs.Grammar.Exact.{bind_some, some_is, bind_bind}
use Rattle.wasm_syntax.proofs.Grammar.Whole.{functions_sound}
use Rattle.wasm_decode.proofs.ItemLemmas.Binds.{bind_same, bind_none, bind_swap}
use Rattle.wasm_decode.specs.Contents.{functions_onto_at, functions_at}

-- ---- one more entry

pub first_left : (types : List ℕ) (i : ℕ) → i < length types
    → drop i types ≡ get_or types i 0 ∷ drop (i + 1) types
first_left types i h = rw (add-one, drop-cons types i 0) refl

pub none_left : (types : List ℕ) (i : ℕ) → length types ≤ i → drop i types ≡ []
none_left types i h = drop_of_length-le types h

pub functions_go_on : (t : ℕ) (ts : List ℕ) (functions : List Function) (bytes : List ℕ)
    (code : Code) (after : List ℕ) (total : Option (List Function × List ℕ))
    → sized_at code_within_at bytes ≡ Some (code, after)
    → functions_onto_at (t ∷ ts) functions bytes ≡ total
    → functions_onto_at ts (functions ++ record { function_type = t; code = code } ∷ []) after
    ≡ total
unfolding functions_onto_at
functions_go_on t ts functions bytes code after total e so_far =
    (let one : functions_onto_at (t ∷ ts) functions bytes ≡ functions_onto_at ts (functions
    ++ record { function_type = t; code = code } ∷ []) after = rw e refl in sym one ∙ so_far)

pub functions_fail : (t : ℕ) (ts : List ℕ) (functions : List Function) (bytes : List ℕ)
    (total : Option (List Function × List ℕ)) → sized_at code_within_at bytes ≡ None
    → functions_onto_at (t ∷ ts) functions bytes ≡ total → total ≡ None
unfolding functions_onto_at
functions_fail t ts functions bytes total e so_far =
    (let one : functions_onto_at (t ∷ ts) functions bytes ≡ None = rw e refl in sym so_far ∙ one)

pub functions_are_done : (functions : List Function) (bytes : List ℕ) (total : Option (List Function
    × List ℕ)) → functions_onto_at [] functions bytes ≡ total → total ≡ Some (functions, bytes)
unfolding functions_onto_at
functions_are_done functions bytes total so_far = sym so_far

-- ---- the same as a vector of code entries, joined to the types

abbrev appended : List Function → List ℕ → List Function → Option (List Function × List ℕ)
appended front after functions = Some (front ++ functions, after)

abbrev joined : List ℕ → List Function → List Code × List ℕ → Option (List Function × List ℕ)
joined ts functions codes = functions_of ts codes.0 >>= appended functions codes.1

join_one : (t : ℕ) (ts : List ℕ) (functions : List Function) (code : Code) (codes : List Code
    × List ℕ)
    → joined ts (functions ++ record { function_type = t; code = code } ∷ []) codes
    ≡ joined (t ∷ ts) functions (code ∷ codes.0, codes.1)
join_one t ts functions code codes = by_functions (functions_of ts codes.0) where
  by_functions : (o : Option (List Function))
      → (o >>= appended (functions ++ record { function_type = t; code = code } ∷ []) codes.1)
      ≡ ((o >>= λ fs. Some (record { function_type = t; code = code } ∷ fs))
      >>= appended functions codes.1)
  by_functions None = refl
  by_functions (Some fs) =
      ap (λ (xs : List Function). Some (
        xs,
        codes.1,
      )) (append_assoc functions (record { function_type = t; code = code } ∷ []) fs)

abbrev behind : ℕ → Code × List ℕ → Option (List Code × List ℕ)
behind n first = items_at (sized_at code_within_at) n first.1
    >>= λ others. Some (first.0 ∷ others.0, others.1)

functions_are : (ts : List ℕ) (functions : List Function) (bytes : List ℕ)
    → functions_onto_at ts functions bytes ≡ (items_at (sized_at code_within_at) (length ts) bytes
    >>= joined ts functions)
unfolding functions_onto_at items_at
functions_are [] functions bytes = rw (append-nil functions) refl
functions_are (t ∷ ts) functions bytes =
    step (functions_are ts) (sized_at code_within_at bytes) where
      step : ((fs : List Function) (bs : List ℕ)
          → functions_onto_at ts fs bs ≡ (items_at (sized_at code_within_at) (length ts) bs
          >>= joined ts fs)) → (o : Option (Code × List ℕ))
          → (o >>= λ code. functions_onto_at ts (functions ++ record {
            function_type = t;
            code = code.0;
          } ∷ []) code.1) ≡ ((o >>= behind (length ts)) >>= joined (t ∷ ts) functions)
      step below None = refl
      step below (Some code) =
          let items_left = items_at (sized_at code_within_at) (length ts) code.1 in
          let more : List Function = functions ++ record { function_type = t; code = code.0 } ∷ []
          in
          below more code.1
          ∙ bind_same items_left (joined ts more) (λ codes. joined (t ∷ ts) functions (
            code.0 ∷ codes.0,
            codes.1,
          )) (λ codes. join_one t ts functions code.0 codes)
          ∙ sym (bind_bind items_left (λ others. Some (
            code.0 ∷ others.0,
            others.1,
          )) (joined (t ∷ ts) functions))

-- ---- how many there are

items_count : {X : Type 0} (item_at : List ℕ
    → Option (X × List ℕ)) (n : ℕ) (bytes : List ℕ) (xs : List X × List ℕ)
    → items_at item_at n bytes ≡ Some xs → length xs.0 ≡ n
unfolding items_at
items_count {X} item_at zero bytes xs e =
    ap (λ (x : List X × List ℕ). length x.0) (sym (some_is ([], bytes) xs e))
items_count {X} item_at (suc n) bytes xs e =
    let first = bind_some (item_at bytes) _ _ e in
    let others = bind_some (items_at item_at n first.0.1) _ _ first.2 in
    ap (λ (x : List X × List ℕ). length x.0) (sym (some_is (
      first.0.0 ∷ others.0.0,
      others.0.1,
    ) xs others.2)) ∙ ap suc (items_count item_at n first.0.1 others.0 others.1)

functions_count : (ts : List ℕ) (cs : List Code) (fs : List Function) → functions_of ts cs ≡ Some fs
    → (length fs ≡ length ts) × (length cs ≡ length ts)
functions_count ts cs fs e =
    let both = functions_sound ts cs fs e in
    let types : length fs ≡ length ts = sym (length-map fs function_type_of) ∙ ap length both.0 in
    (types, sym (ap length both.1) ∙ length-map fs code_of ∙ types)

apart : (ts : List ℕ) (cs : List Code) (o : Option (List Function)) → functions_of ts cs ≡ o
    → (length cs ≡ length ts → ⊥) → functions_of ts cs ≡ None
apart ts cs None e ne = e
apart ts cs (Some fs) e ne = absurd (ne (functions_count ts cs fs e).1)

-- a step whose value is known
bind_same_at : {A B : Type 0} (o : Option A) (f g : A → Option B)
    → ((x : A) → o ≡ Some x → f x ≡ g x) → (o >>= f) ≡ (o >>= g)
bind_same_at (Some x) f g h = h x refl
bind_same_at None f g h = refl

-- ---- the code section

-- an item that is all of the bytes
abbrev ends : {X : Type 0} → X × List ℕ → Option X
ends x = check (eqb (length x.1) 0) >>= λ _. Some x.0

ends_joined : (ts : List ℕ) (codes : List Code × List ℕ)
    → (joined ts [] codes >>= ends) ≡ (ends codes >>= functions_of ts)
ends_joined ts codes = by_both (functions_of ts codes.0) (eqb (length codes.1) 0) refl refl where
  by_both : (o : Option (List Function)) (all : Bool) → functions_of ts codes.0 ≡ o
      → eqb (length codes.1) 0 ≡ all
      → (joined ts [] codes >>= ends) ≡ (ends codes >>= functions_of ts)
  by_both (Some fs) true is_o is_all = rw (is_o, is_all) (sym is_o)
  by_both (Some fs) false is_o is_all = rw (is_o, is_all) refl
  by_both None true is_o is_all = rw (is_o, is_all) (sym is_o)
  by_both None false is_o is_all = rw (is_o, is_all) refl

whole_codes : (ts : List ℕ) (b : List ℕ)
    → (functions_at ts b >>= ends) ≡ ((vector_at (sized_at code_within_at) b >>= ends)
    >>= functions_of ts)
unfolding functions_at vector_at
whole_codes ts b = by_count (leb_u32_at b) where
  by_test : (count : ℕ × List ℕ) (same : Bool) → eqb count.0 (length ts) ≡ same
      → ((check same >>= λ _. functions_onto_at ts [] count.1) >>= ends)
      ≡ ((items_at (sized_at code_within_at) count.0 count.1 >>= ends) >>= functions_of ts)
  by_test count true is_same =
      let n : count.0 ≡ length ts = eqb-true _ _ is_same in
      let read = items_at (sized_at code_within_at) (length ts) count.1 in
      rw n (ap (λ (o : Option (List Function × List ℕ)). o >>= ends) (functions_are ts [] count.1)
      ∙ bind_bind read (joined ts []) ends
      ∙ bind_same read (λ codes. joined ts [] codes >>= ends) (λ codes. ends codes
      >>= functions_of ts) (λ codes. ends_joined ts codes)
      ∙ sym (bind_bind read ends (functions_of ts)))
  by_test count false is_same =
      let read = items_at (sized_at code_within_at) count.0 count.1 in
      sym (bind_bind read ends (functions_of ts)
      ∙ bind_same_at read (λ codes. ends codes
      >>= functions_of ts) (λ codes. None) (λ codes is.
      ends_apart codes (λ e.
      eqb-false _ _ is_same
      (sym (items_count (sized_at code_within_at) count.0 count.1 codes is) ∙ e)))
      ∙ bind_none read (λ codes. None) (λ codes. refl))
    where
      ends_apart : (codes : List Code × List ℕ) → (length codes.0 ≡ length ts → ⊥)
          → (ends codes >>= functions_of ts) ≡ None
      ends_apart codes ne = by_all (eqb (length codes.1) 0) where
        by_all : (all : Bool) → ((check all >>= λ _. Some codes.0) >>= functions_of ts) ≡ None
        by_all true = apart ts codes.0 (functions_of ts codes.0) refl ne
        by_all false = refl

  by_count : (o : Option (ℕ × List ℕ))
      → ((o >>= λ count. check (eqb count.0 (length ts)) >>= λ _. functions_onto_at ts [] count.1)
      >>= ends) ≡ (((o >>= λ count. items_at (sized_at code_within_at) count.0 count.1) >>= ends)
      >>= functions_of ts)
  by_count None = refl
  by_count (Some count) = by_test count (eqb count.0 (length ts)) refl

-- functions are joined after the data, and judged there
pub codes_step : {C D : Type 0} (ts : List ℕ) (body : Option (List ℕ)) (data_read : Option D)
    (go : D → List Function → Option C)
    → (field_at (vector_at (sized_at code_within_at)) [] body >>= λ codes. data_read
    >>= λ d. functions_of ts codes >>= λ fs. go d fs)
    ≡ (field_at (functions_at ts) [] body >>= λ fs. data_read
    >>= λ d. check (eqb (length fs) (length ts)) >>= λ _. go d fs)
codes_step ts None data_read go =
    bind_same data_read (λ d. functions_of ts [] >>= λ fs. go d fs) (λ d. check (eqb 0 (length ts))
    >>= λ _. go d []) (λ d. by_types ts (go d)) where
      by_types : {E : Type 0} (us : List ℕ) (to : List Function → Option E)
          → (functions_of us [] >>= to) ≡ (check (eqb 0 (length us)) >>= λ _. to [])
      by_types [] to = refl
      by_types (u ∷ us) to =
          (let no : eqb 0 (suc (length us)) ≡ false = ne_eqb _ _ (λ e. absurd (omega (arith, e))) in
          rw no refl)
codes_step ts (Some b) data_read go =
    bind_same (vector_at (sized_at code_within_at) b >>= ends) (λ codes. data_read
    >>= λ d. functions_of ts codes >>= λ fs. go d fs) (λ codes. functions_of ts codes
    >>= λ fs. data_read >>= λ d. check (eqb (length fs) (length ts))
    >>= λ _. go d fs) (λ codes. swapped codes)
    ∙ sym (bind_bind (vector_at (sized_at code_within_at) b
    >>= ends) (functions_of ts) (λ fs. data_read >>= λ d. check (eqb (length fs) (length ts))
    >>= λ _. go d fs))
    ∙ ap (λ (o : Option (List Function)). o >>= λ fs. data_read
    >>= λ d. check (eqb (length fs) (length ts)) >>= λ _. go d fs) (sym (whole_codes ts b))
  where
    swapped : (codes : List Code) → (data_read >>= λ d. functions_of ts codes >>= λ fs. go d fs)
        ≡ (functions_of ts codes >>= λ fs. data_read >>= λ d. check (eqb (length fs) (length ts))
        >>= λ _. go d fs)
    swapped codes =
        bind_swap data_read (functions_of ts codes) go
        ∙ bind_same_at (functions_of ts codes) (λ fs. data_read >>= λ d. go d fs) (λ fs. data_read
        >>= λ d. check (eqb (length fs) (length ts)) >>= λ _. go d fs)
        (λ fs is. bind_same data_read (λ d. go d fs) (λ d. check (eqb (length fs) (length ts))
        >>= λ _. go d fs) (λ d. (let yes : eqb (length fs) (length ts)
        ≡ true = eq-eqb _ _ (functions_count ts codes fs is).0 in rw yes refl)))
