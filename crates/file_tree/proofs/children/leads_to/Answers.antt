use Rattle.std.proofs.Common.{sym, ◌∙◌, arith}
use Rattle.std.proofs.lemmas.Bool.{eq-eqb, ne_eqb}
use Rattle.file_tree.specs.Links.{hook_of, comes_to}
use Rattle.file_tree.proofs.WayUp.{begins, ends_nowhere, ends_on_top, ends_there, goes_on, is_over}
use Rattle.file_tree.proofs.children.leads_to.Goals as goal

pub loop-init : goal.loop-init
loop-init c = begins c.args.most (hook_of c.args.nodes.now) c.args.number c.args.directory

pub returns-in-Nowhere : goal.returns-in-Nowhere
returns-in-Nowhere c =
    ends_nowhere c.args.most c.loop.counter (hook_of c.args.nodes.now) c.args.number c.loop.at
    (comes_to c.args.most (hook_of c.args.nodes.now) c.args.number c.args.directory)
    (omega arith) c.loop.invariant (sym c.in-Nowhere.is ∙ c.step_up.ensures)

pub returns-in-Top : goal.returns-in-Top
returns-in-Top c =
    ends_on_top c.args.most c.loop.counter (hook_of c.args.nodes.now) c.args.number c.loop.at
    (comes_to c.args.most (hook_of c.args.nodes.now) c.args.number c.args.directory)
    (omega arith) c.loop.invariant (sym c.in-Top.is ∙ c.step_up.ensures)

pub returns-then-at-number : goal.returns-then-at-number
returns-then-at-number c =
    ends_there c.args.most c.loop.counter (hook_of c.args.nodes.now) c.args.number c.loop.at
    c.in-Up.parent
    (comes_to c.args.most (hook_of c.args.nodes.now) c.args.number c.args.directory)
    (omega arith) c.loop.invariant (sym c.in-Up.is
    ∙ c.step_up.ensures) (eq-eqb c.loop.at c.args.number c.if-at-number.true)

pub loop-preserved : goal.loop-preserved
loop-preserved c =
    goes_on c.args.most c.loop.counter (hook_of c.args.nodes.now) c.args.number c.loop.at
    c.in-Up.parent
    (comes_to c.args.most (hook_of c.args.nodes.now) c.args.number c.args.directory)
    (omega arith) c.loop.invariant (sym c.in-Up.is
    ∙ c.step_up.ensures) (ne_eqb c.loop.at c.args.number c.if-at-number.false)

pub returns : goal.returns
returns c =
    is_over c.args.most c.loop.counter (hook_of c.args.nodes.now) c.args.number c.loop.at
    (comes_to c.args.most (hook_of c.args.nodes.now) c.args.number c.args.directory)
    (omega (arith, c.loop-test.false, c.loop.auto.counter-end)) c.loop.invariant
