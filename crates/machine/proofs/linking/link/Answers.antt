use Rattle.std.proofs.Common.{ℕ, sym, subst}
use Rattle.machine.specs.Insides.{seen, IsMachine}
use Rattle.machine.specs.rules.Runs.{HasBegun}
use Rattle.machine.proofs.Linked.{begin_stands, begin_valid, linked_machine, linked_begun}
use Rattle.machine.proofs.linking.link.Goals as goal

pub go_on-requires : goal.go_on-requires
go_on-requires c =
    begin_stands c.requires.pages c.in_ok-code.ensures.begun

pub invariant_of-result : goal.invariant_of-result
invariant_of-result c =
    let P : ℕ → Type 0 = λ z. IsMachine c.in_ok-code.field-0.code c.go_on.new.state z in
    subst P (sym c.limit-most_pages.ensures) (linked_machine c.requires.pages
    c.in_ok-code.ensures.begun c.go_on.new.state c.go_on.result c.go_on.ensures)

pub returns-clause-begun : goal.returns-clause-begun
returns-clause-begun c =
    let P : ℕ → Type 0 =
    λ z. HasBegun c.args.pages c.args.«module»
    (seen c.in_ok-code.field-0.code c.go_on.new.state z) in
    subst P (sym c.limit-most_pages.ensures) (linked_begun c.requires.pages
    c.in_ok-code.ensures.begun c.go_on.new.state c.go_on.result c.go_on.ensures)

pub returns-clause-valid : goal.returns-clause-valid
returns-clause-valid c =
    begin_valid c.requires.pages c.in_ok-code.ensures.begun
