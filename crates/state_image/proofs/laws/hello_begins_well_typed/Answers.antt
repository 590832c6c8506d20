use Rattle.state_image.proofs.HelloWellTyped.{hello_begins_well_typed, hello_in_two}
use Rattle.state_image.proofs.laws.hello_begins_well_typed.Goals as goal

pub returns-clause-first : goal.returns-clause-first
returns-clause-first c = hello_begins_well_typed

pub returns-clause-widened : goal.returns-clause-widened
returns-clause-widened c = hello_in_two
