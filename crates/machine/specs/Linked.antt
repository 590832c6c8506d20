-- Instances, put together of their modules and what these begin with.
use Rattle.wasm_syntax.specs.declared.module.Module.{Module}
use Rattle.machine.specs.declared.instance.instance.Beginning.{Beginning}
use Rattle.machine.specs.declared.instance.instance.Instance.{Instance}

-- the instance of a module that begins with this
abbrev pub instance_of : Module → Beginning → Instance
instance_of m b = record {
  «module» = m;
  entry = b.entry;
  calls = b.calls;
  memory = b.memory;
  globals = b.globals;
  table = b.table;
}
