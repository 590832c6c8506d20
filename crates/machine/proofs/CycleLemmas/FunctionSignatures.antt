-- The types of functions: those that the code looks up are those that the program has.
use Rattle.std.proofs.Common.{◌≡◌, ℕ, zero, suc, ◌+◌, List, [], ◌∷◌, ◌++◌, length, Some, ap}
use Rattle.std.proofs.Common.{◌∙◌, arith}
use Rattle.std.specs.Prelude.{slice_get, map}
use Rattle.std.specs.Option.{option_map}
use Rattle.std.proofs.lemmas.Option.{slice_get-map}
use Rattle.wasm_syntax.specs.declared.types.FunctionType.{FunctionType}
use Rattle.wasm_rules.specs.Types.{imported_functions}
use Rattle.wasm_syntax.specs.rules.Modules.{function_type_of}
use Rattle.wasm_rules.specs.Configuration.{Callee, Imported, Own, Program}
use Rattle.wasm_rules.specs.Steps.{signature_of}
use Rattle.machine.specs.laws.Routines.{IsNumberedCallee}
use Rattle.machine.proofs.RoutineLemmas.Numbers.{functions_numbered}
use Rattle.machine.specs.declared.execution.code.Executable.{Executable}
use Rattle.machine.specs.Execution.Codes.{IsExecutable, HasSignature}
use Rattle.machine.proofs.InstanceLemmas.Offered.{same_parts}

-- ---- types by their parts

pub same_type : (a b : FunctionType) → a.parameters ≡ b.parameters → a.results ≡ b.results → a ≡ b
same_type a b p r = same_parts p r

-- ---- places in two lists, one behind the other

in_first : (xs ys : List ℕ) (k : ℕ) {x : ℕ} → slice_get xs k ≡ Some x → slice_get (xs ++ ys) k ≡
    Some x
in_first [] ys k e = absurd (cc)
in_first (z ∷ xs) ys zero e = e
in_first (z ∷ xs) ys (suc k) e = in_first xs ys k e

in_second : (xs ys : List ℕ) (k place : ℕ) → k ≡ length xs + place
    → slice_get (xs ++ ys) k ≡ slice_get ys place
in_second [] ys k place e = ap (slice_get ys) (omega (arith, e))
in_second (z ∷ xs) ys zero place e = absurd (omega (arith, e))
in_second (z ∷ xs) ys (suc k) place e = in_second xs ys k place (omega (arith, e))

-- ---- the type of a function of the program

numbered_signature : (code : Executable) (f : ℕ) (callee : Callee)
    → code.type_indices.items ≡ imported_functions code.«module».imports
    ++ map function_type_of code.«module».functions → IsNumberedCallee code.«module» f callee
    → HasSignature code f (signature_of callee)
numbered_signature code f (Imported signature) indices n =
    let imported = imported_functions code.«module».imports in
    let own = map function_type_of code.«module».functions in
    (n.1, ap (λ z. slice_get z f) indices ∙ in_first imported own f n.2, n.3)
numbered_signature code f (Own signature declared body) indices n =
    let imported = imported_functions code.«module».imports in
    let own = map function_type_of code.«module».functions in (
      n.1.function_type,
      ap (λ z. slice_get z f) indices ∙ (in_second imported own f n.0 n.2
          ∙ (slice_get-map function_type_of code.«module».functions n.0
          ∙ ap (option_map function_type_of) n.3)),
      n.4,
    )

pub signature_there : {code : Executable} {functions : List FunctionType} {program : Program}
    → IsExecutable code functions program → (f : ℕ) {callee : Callee}
    → slice_get program.functions f ≡ Some callee → HasSignature code f (signature_of callee)
signature_there {code} {program} is f {callee} e =
    numbered_signature code f callee is.type_indices
    (functions_numbered is.pages code.«module» program f callee is.is_program e)
