use Rattle.std.proofs.Common.{arith}
use Rattle.wasm_validate.proofs.PartLemmas.Lookups.{length-types}
use Rattle.wasm_validate.proofs.parts.context.ModuleContext.function_count.Goals as goal

pub returns : goal.returns
returns c = λ t is.
    let indices = c.args.self.now.function_types in
    omega (
      arith,
      length-types t.types indices.items t.functions is.functions,
      indices.ok.0,
      c.len.ensures,
    )
