-- What the limits of an accepted module leave of a machine that shows a typed configuration.
use Rattle.std.proofs.Common.{◌≡◌, ◌≢◌, ℕ, ◌+◌, ◌*◌, ◌^◌, ◌<◌, ◌≤◌, Bool, true, false, List, []}
use Rattle.std.proofs.Common.{◌∷◌, ◌++◌, length, Some, None, refl, sym, ap, ◌∙◌, subst}
use Rattle.std.proofs.Common.{cond, arith, length-append}
use Rattle.std.specs.Prelude.{count_by, map, reverse, slice_get, nat_le, ◌==◌, if◌then◌else◌}
use Rattle.std.specs.List.{AllByRecursion}
use Rattle.std.proofs.lemmas.Bool.{leb-true}
use Rattle.std.proofs.lemmas.List.{length-map, length-reverse}
use Rattle.std.proofs.lemmas.List.Recursion.{is_count_by}
use Rattle.std.proofs.lemmas.List.Sums.{sum_by-cons}
use Rattle.std.proofs.lemmas.Option.{slice_get_within}
use Rattle.wasm_syntax.specs.declared.types.ValueType.{ValueType}
use Rattle.wasm_syntax.specs.declared.types.FunctionType.{FunctionType}
use Rattle.wasm_syntax.specs.declared.value.Value.{Value}
use Rattle.wasm_syntax.specs.declared.instruction.Instruction.TheVariants as instr
use Rattle.wasm_syntax.specs.declared.module.Module.{Module}
use Rattle.wasm_syntax.specs.declared.module.Import.{Import}
use Rattle.wasm_syntax.specs.declared.module.ImportItem.{ImportItem}
use Rattle.wasm_syntax.specs.declared.module.ImportItem.TheVariants as import
use Rattle.wasm_syntax.specs.declared.limits.TheConstants.{FUNCTIONS, INSTRUCTIONS, GLOBALS}
use Rattle.wasm_syntax.specs.rules.Limits.{is_function, IsSmallFunction, IsWithinLimits}
use Rattle.wasm_syntax.specs.rules.Modules.{function_type_of}
use Rattle.wasm_syntax.specs.rules.Sequence.{Sequence, Stop, spelled}
use Rattle.wasm_rules.specs.Types.{AreOf, gives_of, imported_functions, imported_globals}
use Rattle.wasm_rules.specs.Types.{with_function_index, value_type_of, global_type_of, number_in}
use Rattle.wasm_rules.specs.Typing.{Context, body_context}
use Rattle.wasm_rules.specs.Validity.{AreFunctionTypes, module_context, globals_of}
use Rattle.wasm_rules.specs.Validity.{IsFunctionTypeValid, IsValid}
use Rattle.wasm_rules.specs.Configuration.{Main, Callee, Own, Program, Label, LabelOf, FrameOf}
use Rattle.wasm_rules.specs.Configuration.{Thread}
use Rattle.wasm_rules.specs.Instantiation.{IsProgram}
use Rattle.wasm_rules.specs.Linking.{IsOffered}
use Rattle.wasm_rules.specs.Shapes.{Shape, LabelShape, ShapeOf, shape_at, body_shape}
use Rattle.wasm_rules.specs.Typed.{IsTypedMemory}
use Rattle.wasm_rules.specs.laws.Laws.{labels_height, GivesOneAtMost}
use Rattle.wasm_rules.proofs.Heights.{heights_small}
use Rattle.machine_slots.specs.declared.slots.TheConstants.{SLOTS}
use Rattle.machine_slots.specs.rules.Places.{ShownFrame, HaveShape, all_below, slots_of, IsCallOf}
use Rattle.machine_slots.specs.rules.Places.{ShowsRunning, IsFrameOf, ShowsCallers, ShowsThread}
use Rattle.machine_frame.specs.rules.Stacked.{slots_held}
use Rattle.machine_frame.specs.laws.Fitting.{FewHeld}
use Rattle.machine_frame.proofs.Threads.Words.{values_count}
use Rattle.machine.specs.rules.Offers.{offer}
use Rattle.machine.proofs.InstanceLemmas.Offered.{no_globals}
use Rattle.machine.proofs.RoutineLemmas.Made.{all_at, types_at}
use Rattle.machine.proofs.RoutineLemmas.Numbers.{functions_numbered, functions_counted}
use Rattle.state_image.specs.rules.WellTyped.{IsPlaceWithin, slots_in}

-- ---- functions

-- each imported function has an index
imported_are : (imports : List Import) → length (imported_functions imports)
    ≡ count_by is_function imports
imported_are =
    is_count_by (λ imports. length (imported_functions imports)) is_function refl
    (λ i imports. one_more i.item (imported_functions imports)) where
      one_more : (item : ImportItem) (others : List ℕ)
          → length (with_function_index item others)
          ≡ cond (is_function (record { module_name = []; name = []; item = item }))
          (1 + length others) (length others)
      one_more (import.Function t) others = omega arith
      one_more (import.Table t) others = refl
      one_more (import.Memory t) others = refl
      one_more (import.Global t) others = refl

-- ---- positions

-- a position at which something is left to execute is none after the last end
before_end : (c : Context) (body : Sequence) (p : ℕ) (shape : Shape)
    → body_shape c body p ≡ Some shape → shape.rest ≢ Stop → p ≤ length (spelled body)
before_end c body p shape e more = within (nat_le p (length (spelled body))) refl e where
  at_end : (b : Bool) → (if b then Some (record {
    labels = [];
    operands = c.returns;
    rest = Stop;
  }) else None) ≡ Some shape → ⊥
  at_end true e =
      let same : record { labels = []; operands = c.returns; rest = Stop } ≡ shape = cc in
      more (ap (λ (s : Shape). s.rest) (sym same))
  at_end false e = cc

  within : (b : Bool) → nat_le p (length (spelled body)) ≡ b
      → (if b then shape_at c (ShapeOf c.returns Stop [] Stop Main ∷ []) body [] p
      else if p == length (spelled body) + 1 then Some (record {
        labels = [];
        operands = c.returns;
        rest = Stop;
      })
      else None) ≡ Some shape → p ≤ length (spelled body)
  within true t e = leb-true p (length (spelled body)) t
  within false t e = absurd (at_end (p == length (spelled body) + 1) e)

-- a call is something to execute
call_more : (c : Context) (call : Sequence) (signature : FunctionType) (takes : List ValueType)
    (rest : Sequence) → IsCallOf c call signature takes rest → call ≢ Stop
call_more c call signature takes rest h e = subst (λ s. IsCallOf c s signature takes rest) e h

-- ---- frames

module _ (pages : ℕ) (m : Module) (functions : List FunctionType) (program : Program)
    (limits : (bytes : List ℕ) × IsWithinLimits bytes m) (valid : IsValid m)
    (types : AreFunctionTypes m functions) (is : IsProgram m pages program) where
  abbrev pub c : Context
  c = module_context m functions

  function_below : (f : ℕ) (callee : Callee) → slice_get program.functions f ≡ Some callee
      → f < FUNCTIONS
  function_below f callee at =
      let below = slice_get_within program.functions f callee at in
      let all = functions_counted pages m program is in
      let imported = imported_are m.imports in
      let few = limits.1.functions in
      omega (arith, below, all, imported, few)

  position_below : (f : ℕ) (signature : FunctionType) (declared : List ValueType) (body : Sequence)
      (p : ℕ) → slice_get program.functions f ≡ Some (Own signature declared body)
      → p ≤ length (spelled body) → p < INSTRUCTIONS
  position_below f signature declared body p at within =
      let n = functions_numbered pages m program f (Own signature declared body) is at in
      let short : length n.1.code.body ≤ INSTRUCTIONS =
      (all_at IsSmallFunction m.functions n.0 n.1 limits.1.bodies n.3).1 in
      let count : length n.1.code.body ≡ length (spelled body) + 1 =
      ap length n.6.is ∙ length-append (spelled body) (instr.End ∷ []) in
      omega (arith, within, short, count)

  place_within : (place : ShownFrame) (f : ℕ) (own : IsFrameOf c program place f) (shape : Shape)
      (inner : Context) → body_shape inner own.body place.position ≡ Some shape
      → shape.rest ≢ Stop → IsPlaceWithin place
  place_within place f own shape inner reached more = record {
    function = subst (λ (k : ℕ). k < FUNCTIONS) (sym own.same)
        (function_below f (Own own.signature own.declared own.body) own.is);
    position = position_below f own.signature own.declared own.body place.position own.is
        (before_end inner own.body place.position shape reached more);
  }

  callers_within : (above : FunctionType) (places : List ShownFrame) (frames : Thread)
      → ShowsCallers c program above places frames → AllByRecursion IsPlaceWithin places
  callers_within above [] [] h = tt
  callers_within above [] (frame ∷ frames) h = absurd h
  callers_within above (place ∷ places) [] h = absurd h
  callers_within above (place ∷ places) (FrameOf f ls labels vs rest ∷ frames) h =
      let inner : Context = body_context c h.0.signature h.0.declared in (
        place_within place f h.0 h.1.shape inner h.1.reached
            (call_more inner h.1.shape.rest above h.1.takes rest h.1.calls),
        callers_within h.0.signature places frames h.2,
      )

  pub places_within : (places : List ShownFrame) (thread : Thread)
      → ShowsThread c program places thread → AllByRecursion IsPlaceWithin places
  places_within [] [] h = tt
  places_within [] (frame ∷ frames) h = absurd h
  places_within (place ∷ places) [] h = absurd h
  places_within (place ∷ places) (FrameOf f ls labels vs rest ∷ frames) h = (
    place_within place f h.0 h.1.shape (body_context c h.0.signature h.0.declared) h.1.reached
        (λ e. h.1.more (h.1.remains ∙ e)),
    callers_within h.0.signature places frames h.2,
  )

  -- ---- slots

  below_are : (shapes : List LabelShape) (labels : List Label) → HaveShape shapes labels
      → length (all_below labels) ≡ labels_height shapes
  below_are [] [] h = refl
  below_are [] (label ∷ labels) h = absurd h
  below_are (shape ∷ shapes) [] h = absurd h
  below_are (ShapeOf takes target ts after which ∷ shapes)
      (LabelOf keeps target' below after' which' ∷ labels) h =
      let all = length-append below (all_below labels) in
      let first = values_count ts below h.2 in
      let others = below_are shapes labels h.5 in
      omega (arith, all, first, others)

  slots_counted : (place : ShownFrame) (ls : List Value) (labels : List Label) (vs : List Value)
      → place.slots ≡ slots_of ls labels vs
      → length place.slots ≡ length ls + (length vs + length (all_below labels))
  slots_counted place ls labels vs e =
      omega (
        arith,
        ap length e,
        length-map (ls ++ reverse (vs ++ all_below labels)) number_in,
        length-append ls (reverse (vs ++ all_below labels)),
        length-reverse (vs ++ all_below labels),
        length-append vs (all_below labels),
      )

  held_are : (places : List ShownFrame) → slots_in places ≡ slots_held places
  held_are [] = refl
  held_are (place ∷ places) =
      let all = sum_by-cons (λ (f : ShownFrame). length f.slots) place places in
      let others = held_are places in
      omega (arith, all, others)

  -- a function gives one value at most
  one_given : (f : ℕ) (signature : FunctionType) (declared : List ValueType) (body : Sequence)
      → slice_get program.functions f ≡ Some (Own signature declared body)
      → length (gives_of signature) ≤ 1
  one_given f signature declared body at =
      let n = functions_numbered pages m program f (Own signature declared body) is at in
      let one : length signature.results ≤ 1 =
      all_at IsFunctionTypeValid m.types n.1.function_type signature valid.types n.4 in
      let same = length-reverse signature.results in
      omega (arith, one, same)

  running_few : (place : ShownFrame) (f : ℕ) (own : IsFrameOf c program place f) (ls : List Value)
      (labels : List Label) (vs : List Value) (rest : Sequence)
      → ShowsRunning (body_context c own.signature own.declared) own.body place ls labels vs rest
      → length place.slots
      ≤ length own.signature.parameters + length own.declared + place.position
  running_few place f own ls labels vs rest h =
      let inner : Context = body_context c own.signature own.declared in
      let low = heights_small inner own.body place.position h.shape valid.types
      (types_at GivesOneAtMost m.types (imported_functions m.imports
      ++ map function_type_of m.functions) functions valid.types types)
      (one_given f own.signature own.declared own.body own.is) h.reached in
      let slots = slots_counted place ls labels vs h.slots in
      let operands = values_count h.shape.operands vs h.operands in
      let below = below_are h.shape.labels labels h.labels_are in
      let locals = values_count (own.signature.parameters ++ own.declared) ls h.locals in
      let both = length-append own.signature.parameters own.declared in
      omega (arith, low, slots, operands, below, locals, both)

  pub slots_few : (places : List ShownFrame) (thread : Thread)
      → ShowsThread c program places thread → FewHeld program places → slots_in places ≤ SLOTS
  slots_few [] [] h few = omega arith
  slots_few [] (frame ∷ frames) h few = absurd h
  slots_few (place ∷ places) [] h few = absurd h
  slots_few (place ∷ places) (FrameOf f ls labels vs rest ∷ frames) h few =
      let own : IsFrameOf c program place f = h.0 in
      let at : slice_get program.functions place.function
      ≡ Some (Own own.signature own.declared own.body) =
      subst (λ (k : ℕ). slice_get program.functions k
      ≡ Some (Own own.signature own.declared own.body)) (sym own.same) own.is in
      let held = few own.signature own.declared own.body at in
      let all = sum_by-cons (λ (f : ShownFrame). length f.slots) place places in
      let others = held_are places in
      let running = running_few place f own ls labels vs rest h.1 in
      let position = (place_within place f own h.1.shape
      (body_context c own.signature own.declared) h.1.reached
      (λ e. h.1.more (h.1.remains ∙ e))).position in
      omega (arith, held, all, others, running, position)

-- ---- memory and globals

pub memory_few : (program : Program) (memory : List ℕ) → IsTypedMemory program memory
    → program.most_pages ≤ 2 ^ 16 → length memory ≤ 2 ^ 32
memory_few program memory h few =
    let whole : length memory ≡ h.pages * 65536 = h.whole in
    let within = h.within in
    omega (arith, whole, within, few)

pub globals_few : (m : Module) (values : List Value) (words : List ℕ)
    → AllByRecursion (IsOffered offer m.types) m.imports → length m.globals ≤ GLOBALS
    → AreOf (map value_type_of (globals_of m)) values → length words ≡ length values
    → length words ≤ GLOBALS
globals_few m values words offered few typed e =
    let alone : length (imported_globals m.imports) ≡ 0 =
    ap length (no_globals m.types m.imports offered) in
    let count = values_count (map value_type_of (globals_of m)) values typed in
    omega (
      arith,
      few,
      e,
      count,
      alone,
      length-map (globals_of m) value_type_of,
      length-append (imported_globals m.imports) (map global_type_of m.globals),
      length-map m.globals global_type_of,
    )
