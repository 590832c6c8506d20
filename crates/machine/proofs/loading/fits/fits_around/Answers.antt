use Rattle.std.proofs.Common.{List, ℕ, map, sym, subst}
use Rattle.std.specs.List.{AllByRecursion}
use Rattle.wasm_syntax.specs.declared.types.GlobalType.{GlobalType}
use Rattle.wasm_rules.specs.Types.{value_type_of}
use Rattle.wasm_rules.specs.Typed.{IsEntry}
use Rattle.wasm_rules.specs.Validity.{module_context}
use Rattle.wasm_validate.proofs.PartLemmas.Lookups.{is_false}
use Rattle.machine_frame.specs.laws.Fitting.{AreWordsOf}
use Rattle.machine.proofs.loading.fits.fits_around.Goals as goal

pub returns-then-not-are_globals : goal.returns-then-not-are_globals
returns-then-not-are_globals c = λ functions program looks. (
  λ t. absurd (is_false t),
  λ fits.
      let ctx = module_context c.args.code.now.«module» functions in
      let G : List GlobalType → Type 0 =
      λ z. AreWordsOf (map value_type_of z) c.args.state.now.globals.items in
      let W : List ℕ → Type 0 = AreWordsOf (map value_type_of c.globals.result.now) in
      let yes = c.are_globals.ensures.1 (subst W (sym c.as_slice.ensures.value)
      (subst G (sym (c.globals.ensures ctx looks.looked_up)) fits.globals)) in
      let none = c.if-not-are_globals.true in
      cc,
)

pub returns-then-not-are_entries : goal.returns-then-not-are_entries
returns-then-not-are_entries c = λ functions program looks. (
  λ t. absurd (is_false t),
  λ fits.
      let L : List ℕ → Type 0 = AllByRecursion (IsEntry program) in
      let yes = (c.are_entries.ensures functions program looks).1
      (subst L (sym c.as_slice-2.ensures.value) fits.later) in
      let none = c.if-not-are_entries.true in
      cc,
)

pub returns : goal.returns
returns c = λ functions program looks.
    let ctx = module_context c.args.code.now.«module» functions in
    let G : List GlobalType → Type 0 =
    λ z. AreWordsOf (map value_type_of z) c.args.state.now.globals.items in
    let W : List ℕ → Type 0 = AreWordsOf (map value_type_of c.globals.result.now) in
    let L : List ℕ → Type 0 = AllByRecursion (IsEntry program) in
    let held = c.hold_few.ensures functions program looks in (
      λ t. record {
        globals = subst G (c.globals.ensures ctx looks.looked_up)
            (subst W c.as_slice.ensures.value
            (c.are_globals.ensures.0 c.if-not-are_globals.false));
        later = subst L c.as_slice-2.ensures.value
            ((c.are_entries.ensures functions program looks).0 c.if-not-are_entries.false);
        over = c.is_called.ensures.0 c.if-not-is_called.false;
        few_values = held.0 t;
      },
      λ fits. held.1 fits.few_values,
    )
