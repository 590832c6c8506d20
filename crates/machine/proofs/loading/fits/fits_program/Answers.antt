use Rattle.std.proofs.Common.{◌≤◌, length, subst, arith}
use Rattle.wasm_syntax.specs.declared.module.Module.{Module}
use Rattle.wasm_rules.specs.Validity.{module_context}
use Rattle.wasm_validate.specs.Parts.Contexts.{IsContextOfModule}
use Rattle.wasm_validate.proofs.PartLemmas.Lookups.{is_false}
use Rattle.machine.specs.Loading.Checks.{LooksUpCode}
use Rattle.machine.proofs.LoadingLemmas.Parts.{if_ok}
use Rattle.machine.proofs.LoadingLemmas.Fits.{fits_program, fits_around}
use Rattle.machine.proofs.loading.fits.fits_program.Goals as goal

pub returns-then-not-around : goal.returns-then-not-around
returns-then-not-around c = λ functions program is limit least. (
  λ t. absurd (is_false t),
  λ fits.
      let code = c.args.code.now in
      let ctx = module_context code.«module» functions in
      let M : Module → Type 0 = λ m. IsContextOfModule m c.in_ok-context.context in
      let looks : LooksUpCode code c.in_ok-context.context functions program = record {
        is_code = is;
        looked_up = (subst M c.module.ensures.same c.in_ok-context.ensures) functions is.types;
      } in
      let yes = (c.fits_around-around.ensures functions program looks).1
      (fits_around ctx program c.args.state.now fits) in
      let none = c.if-not-around.true in
      cc,
)

pub returns : goal.returns
returns c = λ functions program is limit least.
    let code = c.args.code.now in
    let s = c.args.state.now in
    let ctx = module_context code.«module» functions in
    let M : Module → Type 0 = λ m. IsContextOfModule m c.in_ok-context.context in
    let looks : LooksUpCode code c.in_ok-context.context functions program = record {
      is_code = is;
      looked_up = (subst M c.module.ensures.same c.in_ok-context.ensures) functions is.types;
    } in
    let around = (c.fits_around-around.ensures functions program looks).0 c.if-not-around.false in
    let len = c.len.ensures.len in
    let bound = c.len.ensures.bound in
    let few : length s.frames ≤ 512 = omega (arith, len, bound) in
    let memory = c.memories_are_of_bytes.ensures in
    if_ok _ _ c.fit_frames.result
    (λ told h. let frames = h functions program looks in (
      λ t. fits_program ctx program s memory.shape memory.bytes limit least few around
          (frames.0 t),
      λ fits. frames.1 fits.frames,
    )) c.fit_frames.ensures
