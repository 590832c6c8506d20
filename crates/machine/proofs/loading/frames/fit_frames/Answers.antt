use Rattle.std.proofs.Common.{◌≡◌, suc, ◌+◌, ◌-◌, length, refl, subst, arith}
use Rattle.std.proofs.lemmas.Bool.Decides.{nat_tests}
use Rattle.wasm_rules.specs.Validity.{module_context}
use Rattle.wasm_validate.proofs.PartLemmas.Lookups.{is_false}
use Rattle.machine_frame.specs.rules.Threads.{places_of}
use Rattle.machine_frame.proofs.Threads.Showing.{places_count}
use Rattle.machine.specs.rules.LentFrames.{lent_frame}
use Rattle.machine.specs.Loading.Checks.{FitsBelow}
use Rattle.machine.proofs.LoadingLemmas.Bodies.{own_signature}
use Rattle.machine.proofs.LoadingLemmas.Frames.{from_end, begins, no_begin, goes_on, stops, all_fit}
use Rattle.machine.proofs.loading.frames.fit_frames.Goals as goal

pub returns-then-not-runs : goal.returns-then-not-runs
returns-then-not-runs c = λ functions program looks. (
  λ t. absurd (is_false t),
  λ fits.
      let ctx = module_context c.args.code.now.«module» functions in
      let places = places_of c.args.frames.now c.args.slots.now in
      let top = lent_frame c.lent_frame_at-top.result in
      let count = places_count c.args.frames.now c.args.slots.now in
      let len = c.len-count.ensures.len in
      let some = c.if-count-eq0.false in
      let size : (c.len-count.result - 1) + 1 ≡ length places = grind (arith, nat_tests) in
      let there = from_end places (c.len-count.result - 1) 0 c.lent_frame_at-top.ensures size in
      let yes = (c.in_ok-runs.ensures functions program looks).1
      (no_begin ctx program places there fits) in
      let none = c.if-not-runs.true in
      cc,
)

pub loop-number-init : goal.loop-number-init
loop-number-init c = λ functions program looks.
    let ctx = module_context c.args.code.now.«module» functions in
    let places = places_of c.args.frames.now c.args.slots.now in
    let top = lent_frame c.lent_frame_at-top.result in
    let count = places_count c.args.frames.now c.args.slots.now in
    let len = c.len-count.ensures.len in
    let some = c.if-count-eq0.false in
    let size : (c.len-count.result - 1) + 1 ≡ length places = grind (arith, nat_tests) in
    let there = from_end places (c.len-count.result - 1) 0 c.lent_frame_at-top.ensures size in
    begins ctx program places there ((c.in_ok-runs.ensures functions program looks).0
    c.if-not-runs.false)

pub returns-in_default : goal.returns-in_default
returns-in_default c = λ functions program looks. (
  λ t. absurd (is_false t),
  λ fits.
      let ctx = module_context c.args.code.now.«module» functions in
      let so_far = c.loop-number.invariant functions program looks in
      let none = c.in_default.ensures ctx looks.looked_up in
      let own = so_far.own in
      let some = own_signature looks.is_code so_far.place.function
      (record {
        signature = own.signature;
        declared = own.declared;
        body = own.body;
        is
            = own.is;
      }) in
      let at = so_far.is_above in
      absurd (cc),
)

pub returns-then-not-waits : goal.returns-then-not-waits
returns-then-not-waits c = λ functions program looks. (
  λ t. absurd (is_false t),
  λ fits.
      let ctx = module_context c.args.code.now.«module» functions in
      let places = places_of c.args.frames.now c.args.slots.now in
      let place = lent_frame c.lent_frame_at-place.result in
      let n = c.loop-number.number in
      let count = places_count c.args.frames.now c.args.slots.now in
      let len = c.len-count.ensures.len in
      let within = c.loop-number-test.true in
      let size : (c.len-count.result - 1 - n) + suc n ≡ length places =
      omega (arith, count, len, within) in
      let there = from_end places (c.len-count.result - 1 - n) n c.lent_frame_at-place.ensures size
      in
      let so_far = c.loop-number.invariant functions program looks in
      let own = so_far.own in
      let known = c.in-Some.ensures ctx looks.looked_up in
      let some = own_signature looks.is_code so_far.place.function
      (record {
        signature = own.signature;
        declared = own.declared;
        body = own.body;
        is
            = own.is;
      }) in
      let at = so_far.is_above in
      let signature : own.signature ≡ c.in-Some.called.now = cc in
      let yes = (c.in_ok-waits.ensures functions program looks).1 (subst
      (λ k. FitsBelow ctx program k place) signature (stops ctx program places so_far there fits))
      in
      let none = c.if-not-waits.true in
      cc,
)

pub loop-number-preserved : goal.loop-number-preserved
loop-number-preserved c = λ functions program looks.
    let ctx = module_context c.args.code.now.«module» functions in
    let places = places_of c.args.frames.now c.args.slots.now in
    let place = lent_frame c.lent_frame_at-place.result in
    let n = c.loop-number.number in
    let count = places_count c.args.frames.now c.args.slots.now in
    let len = c.len-count.ensures.len in
    let within = c.loop-number-test.true in
    let size : (c.len-count.result - 1 - n) + suc n ≡ length places =
    omega (arith, count, len, within) in
    let there = from_end places (c.len-count.result - 1 - n) n c.lent_frame_at-place.ensures size in
    let so_far = c.loop-number.invariant functions program looks in
    let own = so_far.own in
    let known = c.in-Some.ensures ctx looks.looked_up in
    let some = own_signature looks.is_code so_far.place.function
    (record { signature = own.signature; declared = own.declared; body = own.body; is = own.is }) in
    let at = so_far.is_above in
    let signature : c.in-Some.called.now ≡ own.signature = cc in
    goes_on ctx program places so_far there (subst (λ k. FitsBelow ctx program k place) signature
    ((c.in_ok-waits.ensures functions program looks).0 c.if-not-waits.false))

pub returns : goal.returns
returns c = λ functions program looks.
    let ctx = module_context c.args.code.now.«module» functions in
    let places = places_of c.args.frames.now c.args.slots.now in
    let count = places_count c.args.frames.now c.args.slots.now in
    let len = c.len-count.ensures.len in
    let past = c.loop-number-test.false in
    let all = all_fit ctx program places (c.loop-number.invariant functions program looks)
    (omega (arith, count, len, past)) in
    (λ _. all, λ _. refl)
