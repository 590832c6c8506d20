use Rattle.std.proofs.Common.{◌≡◌, map, ap, ◌∙◌, arith}
use Rattle.file_tree.specs.rules.Files.{Files}
use Rattle.state_image.specs.restoring.SavedNodes.{lent_whole}
use Rattle.state_image.proofs.RestoreLemmas.Hung.{false_true}
use Rattle.state_image.proofs.RestoreLemmas.Made.{next_told, nothing_hangs}
use Rattle.state_image.proofs.RestoreLemmas.Ended.{named_again, all_stay}
use Rattle.state_image.proofs.restoring.tree.restore_nodes.Goals as goal

pub returns-then-next-clause-refused : goal.returns-then-next-clause-refused
returns-then-next-clause-refused c refused gs told =
    let le = next_told (map lent_whole c.args.nodes.now) c.create_nodes.new.tree gs c.args.next
    c.in_ok-create_nodes.ensures.made told in
    absurd (omega (arith, le, c.if-next.true, c.next.ensures))

pub hang_all-requires : goal.hang_all-requires
hang_all-requires c =
    nothing_hangs (map lent_whole c.args.nodes.now) c.create_nodes.new.tree c.raise_next.new.self
    c.args.next c.in_ok-create_nodes.ensures.made (omega (arith, c.if-next.false, c.next.ensures))
    c.raise_next.ensures

pub returns-then-not-may_all_stay-clause-refused :
    goal.returns-then-not-may_all_stay-clause-refused
returns-then-not-may_all_stay-clause-refused c refused gs told =
    false_true c.may_all_stay.result c.if-not-may_all_stay.true
    (c.may_all_stay.ensures.1
    (all_stay c.hang_all.new.tree gs c.args.next c.args.nodes.now c.in_ok-hang_all.ensures.hung
    (c.in_ok-hang_all.ensures.next ∙ ap (λ (x : Files). x.next) c.raise_next.ensures) told))

pub returns-clause-made : goal.returns-clause-made
returns-clause-made c =
    let fs = c.hang_all.new.tree in
    let hung = c.in_ok-hang_all.ensures.hung in
    let same : fs.next ≡ c.args.next =
    c.in_ok-hang_all.ensures.next ∙ ap (λ (x : Files). x.next) c.raise_next.ensures in
    record {
      are = hung.are;
      within = omega (arith, same, c.ranges.next.fits);
      told = named_again fs c.args.next c.args.nodes.now hung same
          (c.may_all_stay.ensures.0 c.if-not-may_all_stay.false);
    }
