use Rattle.wasi_abi.specs.rules.Numbers.{rights_number, descriptor_flags_number}
use Rattle.std.specs.Prelude.{true, false}
use Rattle.wasi_calls_rules.proofs.KeepsWasiStates.{opened_is}
use Rattle.wasi_calls.proofs.opening.new_descriptor.Goals as goal

pub returns-then-is_directory-clause-is : goal.returns-then-is_directory-clause-is
returns-then-is_directory-clause-is c = λ fs there few.
    rw (
      c.with_flags.ensures,
      c.directory.ensures,
      c.intersection-base.ensures,
      c.intersection-inheriting.ensures,
    )
    (opened_is fs true c.args.node (descriptor_flags_number c.args.mode.descriptor_flags)
    (rights_number c.args.mode.base) (rights_number c.args.mode.inheriting) there few)

pub returns-else-is_directory-clause-is : goal.returns-else-is_directory-clause-is
returns-else-is_directory-clause-is c = λ fs there few.
    rw (
      c.with_flags-else-is_directory.ensures,
      c.file.ensures,
      c.intersection-base-else-is_directory.ensures,
    )
    (opened_is fs false c.args.node (descriptor_flags_number c.args.mode.descriptor_flags)
    (rights_number c.args.mode.base) (rights_number c.args.mode.inheriting) there few)
