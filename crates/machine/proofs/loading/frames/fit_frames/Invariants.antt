use Rattle.std.proofs.Common.{List}
use Rattle.wasm_syntax.specs.declared.types.FunctionType.{FunctionType}
use Rattle.wasm_rules.specs.Validity.{module_context}
use Rattle.wasm_rules.specs.Configuration.{Program}
use Rattle.machine_frame.specs.rules.Threads.{places_of}
use Rattle.machine.specs.Loading.Checks.{LooksUpCode}
use Rattle.machine.proofs.LoadingLemmas.Frames.{SoFar}
use Rattle.machine.proofs.loading.frames.fit_frames.Given as goal

abbrev pub invariant-loop-number : goal.invariant-loop-number
invariant-loop-number l = (functions : List FunctionType) (program : Program)
    → LooksUpCode l.code l.context functions program
    → SoFar (module_context l.code.«module» functions) program (places_of l.frames l.slots)
    l.number l.above
