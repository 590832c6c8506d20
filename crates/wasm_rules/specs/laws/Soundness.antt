-- Type soundness: typed configurations are never stuck, and what follows from them is typed (Core
-- Specification 1.0, appendix A.5). The programs of valid modules begin typed.
use Rattle.std.specs.Prelude.{◌≡◌, ◌⊎◌, ℕ, ◌≤◌, ◌^◌, List, [], Some, slice_get}
use Rattle.wasm_syntax.specs.declared.types.FunctionType.{FunctionType}
use Rattle.wasm_syntax.specs.declared.value.Value.{Value}
use Rattle.wasm_syntax.specs.declared.module.Module.{Module}
use Rattle.wasm_rules.specs.Types.{AreOf, takes_of, gives_of}
use Rattle.wasm_rules.specs.Typing.{Context}
use Rattle.wasm_rules.specs.Validity.{AreFunctionTypes, module_context, IsValid}
use Rattle.wasm_rules.specs.Configuration.{Imported, Program, Thread, Configuration, Outcome}
use Rattle.wasm_rules.specs.Configuration.{Goes, Traps, Asks, Stuck}
use Rattle.wasm_rules.specs.Steps.{IsReduced, IsEnded, Steps, counted_step}
use Rattle.wasm_rules.specs.Steps.{administrative_step, answered}
use Rattle.wasm_rules.specs.Instantiation.{IsProgram, Begins}
use Rattle.wasm_rules.specs.Linking.{Offer, IsLinkable}
use Rattle.wasm_rules.specs.Typed.{IsTypedProgram, IsTypedMemory, IsTypedThread, IsTyped}

-- ---- steps and answers

-- What a counted step leads to is typed. It is a configuration, or a call of the host's function
-- with arguments of its parameters' types, for which a typed thread waits.
abbrev pub IsSound : Context → Program → Outcome → Type 0
IsSound c program (Goes next) = IsTyped c program next
IsSound c program (Traps why) = Unit {0}
IsSound c program (Asks f arguments waits) =
    (signature : FunctionType) × (slice_get program.functions f ≡ Some (Imported signature))
    × AreOf (takes_of signature) arguments × IsTypedThread c program (gives_of signature) waits
IsSound c program Stuck = ⊥

-- A reduced configuration that is typed has ended, or a counted step applies, and what it leads to
-- is typed.
abbrev pub NeverStuck : Type 0
NeverStuck =
    (c : Context) (program : Program) (d : Configuration) → IsTypedProgram c program
    → IsTyped c program d → IsReduced program d
    → IsEnded d ⊎ IsSound c program (counted_step program d)

-- An administrative step leads from a typed configuration to a typed one.
abbrev pub AdministrativeTyped : Type 0
AdministrativeTyped =
    (c : Context) (program : Program) (d e : Configuration) → IsTypedProgram c program
    → IsTyped c program d → administrative_step program d ≡ Some e
    → IsTyped c program e

-- Nor does the host's answer change that, which gives what the call's type says and leaves whole
-- pages of bytes.
abbrev pub AnswersTyped : Type 0
AnswersTyped =
    (c : Context) (program : Program) (d : Configuration) (f : ℕ) (arguments : List Value)
    (waits : Thread) (memory : List ℕ) (results : List Value) (signature : FunctionType)
    → IsTypedProgram c program → IsTyped c program d → counted_step program d
    ≡ Asks f arguments waits → IsReduced program d
    → slice_get program.functions f ≡ Some (Imported signature) → AreOf (gives_of signature) results
    → IsTypedMemory program memory
    → IsTyped c program (answered d memory results waits)

-- So all that counted steps lead to is typed, and reduced where the beginning was.
abbrev pub StepsTyped : Type 0
StepsTyped =
    (c : Context) (program : Program) (n : ℕ) (d e : Configuration) → IsTypedProgram c program
    → IsTyped c program d → IsReduced program d → Steps program n d e
    → IsTyped c program e × IsReduced program e

-- ---- the beginning

-- the host offers no function without parameters and results, so that none can be the start
-- function or `_start`
abbrev pub OffersNoEntry : Offer → Type 0
OffersNoEntry offer = (from name : List ℕ) (signature : FunctionType) → offer from name
    ≡ Some signature → signature.parameters ≡ [] → signature.results ≡ [] → ⊥

-- The program of a valid module under at most 65,536 pages is typed in the module's context.
abbrev pub ProgramsTyped : Type 0
ProgramsTyped =
    (pages : ℕ) (m : Module) (functions : List FunctionType) (program : Program) → pages ≤ 2 ^ 16
    → IsValid m → AreFunctionTypes m functions → IsProgram m pages program
    → IsTypedProgram (module_context m functions) program

-- A valid module that is linked under at most 65,536 pages begins reduced and typed, in the
-- module's context.
abbrev pub BeginsTyped : Type 0
BeginsTyped =
    (offer : Offer) (pages : ℕ) (m : Module) (functions : List FunctionType) (program : Program)
    (d : Configuration) → OffersNoEntry offer → pages ≤ 2 ^ 16
    → IsValid m → AreFunctionTypes m functions → (link : IsLinkable offer pages m)
    → Begins m pages link.entry program d
    → IsTypedProgram (module_context m functions) program
    × IsTyped (module_context m functions) program d × IsReduced program d
