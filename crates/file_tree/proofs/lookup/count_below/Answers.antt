use Rattle.std.proofs.Common.{◌≡◌, ◌+◌, ◌-◌, ◌/◌, sym, subst, get_or, arith}
use Rattle.file_tree.specs.Store.Cuts.{IsCut}
use Rattle.file_tree.specs.Store.Kept.{IsLower, HasLower, HasNoLower}
use Rattle.file_tree.proofs.StoreLemmas.Cuts.{Whatever, no_front, no_back, whole_cut, front_up_to}
use Rattle.file_tree.proofs.StoreLemmas.Cuts.{back_from}
use Rattle.file_tree.proofs.StoreLemmas.Numbers.{lower_down, not_lower_up}
use Rattle.file_tree.proofs.lookup.count_below.Goals as goal

pub loop-low-init : goal.loop-low-init
loop-low-init c =
    let k = c.args.number in
    let ns = c.args.nodes.now in (
      omega arith,
      omega (arith, c.len-high.ensures.count),
      no_front (HasLower k) ns,
      subst (IsCut Whatever (HasNoLower k) ns) (sym c.len-high.ensures.count)
          (no_back (HasNoLower k) ns),
    )

pub get-requires : goal.get-requires
get-requires c = omega (arith, c.loop-low-test.true, c.loop-low.invariant.1)

pub loop-low-preserved-then-get-number : goal.loop-low-preserved-then-get-number
loop-low-preserved-then-get-number c =
    let k = c.args.number in
    let ns = c.args.nodes.now in
    let n = c.get.result.now in
    let lower : HasLower k (get_or ns (c.loop-low.low + (c.loop-low.high - c.loop-low.low) / 2) n) =
    omega (arith, c.get.ensures.number, c.if-get-number.true) in (
      omega (arith, c.loop-low-test.true),
      c.loop-low.invariant.1,
      front_up_to IsLower (HasLower k) (lower_down k) ns (c.loop-low.low
          + (c.loop-low.high - c.loop-low.low) / 2) n c.len-high.ensures.rising (omega (
            arith,
            c.loop-low-test.true,
            c.loop-low.invariant.1,
          )) lower,
      c.loop-low.invariant.3,
    )

pub loop-low-preserved : goal.loop-low-preserved
loop-low-preserved c =
    let k = c.args.number in
    let ns = c.args.nodes.now in
    let n = c.get.result.now in
    let higher : HasNoLower k (get_or ns (c.loop-low.low + (c.loop-low.high - c.loop-low.low) / 2)
    n) = omega (arith, c.get.ensures.number, c.if-get-number.false) in (
      omega (arith, c.loop-low-test.true),
      omega (arith, c.loop-low-test.true, c.loop-low.invariant.1),
      c.loop-low.invariant.2,
      back_from IsLower (HasNoLower k) (not_lower_up k) ns (c.loop-low.low
          + (c.loop-low.high - c.loop-low.low) / 2) n c.len-high.ensures.rising (omega (
            arith,
            c.loop-low-test.true,
            c.loop-low.invariant.1,
          )) higher,
    )

pub returns-clause-cut : goal.returns-clause-cut
returns-clause-cut c =
    let k = c.args.number in
    let ns = c.args.nodes.now in
    let met : c.loop-low.high ≡ c.loop-low.low =
    omega (arith, c.loop-low-test.false, c.loop-low.invariant.0) in
    whole_cut (HasLower k) (HasNoLower k) ns c.loop-low.low c.loop-low.invariant.2
    (subst (IsCut Whatever (HasNoLower k) ns) met c.loop-low.invariant.3)

pub returns-clause-within : goal.returns-clause-within
returns-clause-within c = omega (arith, c.loop-low.invariant.0, c.loop-low.invariant.1)

pub returns-clause-rising : goal.returns-clause-rising
returns-clause-rising c = c.len-high.ensures.rising
