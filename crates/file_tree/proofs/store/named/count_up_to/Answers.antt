use Rattle.std.proofs.Common.{◌≡◌, ◌+◌, ◌-◌, ◌/◌, ◌∷◌, true, false, sym, subst, ◌∙◌, get_or, arith}
use Rattle.slab.specs.Slab.{ContainsKey}
use Rattle.file_tree.specs.Store.Cuts.{IsCut}
use Rattle.file_tree.specs.Store.Named.{IsBehind, address_at, KeyUpTo, KeyBehind}
use Rattle.file_tree.proofs.StoreLemmas.Cuts.{Whatever, behind_all, no_front, no_back, whole_cut}
use Rattle.file_tree.proofs.StoreLemmas.Cuts.{front_up_to, back_from}
use Rattle.file_tree.proofs.StoreLemmas.NamedSearch.{seen_at_key, up_to_down, behind_up}
use Rattle.file_tree.proofs.store.named.count_up_to.Goals as goal

pub loop-low-init : goal.loop-low-init
loop-low-init c =
    let from = c.args.directory ∷ c.args.name.now in (
      omega arith,
      omega arith,
      no_front (KeyUpTo from c.args.slab.now) c.args.keys.now,
      no_back (KeyBehind from c.args.slab.now) c.args.keys.now,
    )

pub bounds-keys-middle : goal.bounds-keys-middle
bounds-keys-middle c = omega (arith, c.loop-low-test.true, c.loop-low.invariant.1)

pub index-requires : goal.index-requires
index-requires c =
    behind_all (ContainsKey c.args.slab.now) c.args.keys.now (c.loop-low.low
    + (c.loop-low.high - c.loop-low.low) / 2) 0 c.requires.present
    (omega (arith, c.loop-low-test.true, c.loop-low.invariant.1))

pub loop-low-preserved-then-hangs_behind : goal.loop-low-preserved-then-hangs_behind
loop-low-preserved-then-hangs_behind c =
    let slab = c.args.slab.now in
    let from = c.args.directory ∷ c.args.name.now in
    let middle = c.loop-low.low + (c.loop-low.high - c.loop-low.low) / 2 in
    let key = get_or c.args.keys.now middle 0 in
    let behind : KeyBehind from slab key =
    seen_at_key from slab key c.index.result.now true c.index.ensures
    (sym c.hangs_behind.ensures ∙ c.if-hangs_behind.true) in (
      omega (arith, c.loop-low-test.true),
      omega (arith, c.loop-low-test.true, c.loop-low.invariant.1),
      c.loop-low.invariant.2,
      back_from (λ j k. IsBehind (address_at slab j) (address_at slab k)) (KeyBehind from slab)
          (behind_up from slab) c.args.keys.now middle 0 c.requires.ordered
          (omega (arith, c.loop-low-test.true, c.loop-low.invariant.1)) behind,
    )

pub loop-low-preserved : goal.loop-low-preserved
loop-low-preserved c =
    let slab = c.args.slab.now in
    let from = c.args.directory ∷ c.args.name.now in
    let middle = c.loop-low.low + (c.loop-low.high - c.loop-low.low) / 2 in
    let key = get_or c.args.keys.now middle 0 in
    let up : KeyUpTo from slab key =
    seen_at_key from slab key c.index.result.now false c.index.ensures
    (sym c.hangs_behind.ensures ∙ c.if-hangs_behind.false) in (
      omega (arith, c.loop-low-test.true),
      c.loop-low.invariant.1,
      front_up_to (λ j k. IsBehind (address_at slab j) (address_at slab k)) (KeyUpTo from slab)
          (up_to_down from slab) c.args.keys.now middle 0 c.requires.ordered
          (omega (arith, c.loop-low-test.true, c.loop-low.invariant.1)) up,
      c.loop-low.invariant.3,
    )

pub returns-clause-cut : goal.returns-clause-cut
returns-clause-cut c =
    let slab = c.args.slab.now in
    let from = c.args.directory ∷ c.args.name.now in
    let met : c.loop-low.high ≡ c.loop-low.low =
    omega (arith, c.loop-low-test.false, c.loop-low.invariant.0) in
    whole_cut (KeyUpTo from slab) (KeyBehind from slab) c.args.keys.now c.loop-low.low
    c.loop-low.invariant.2
    (subst (IsCut Whatever (KeyBehind from slab) c.args.keys.now) met c.loop-low.invariant.3)

pub returns-clause-within : goal.returns-clause-within
returns-clause-within c = omega (arith, c.loop-low.invariant.0, c.loop-low.invariant.1)
