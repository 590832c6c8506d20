-- A valid module has a program.
use Rattle.std.proofs.Common.{ℕ, List, [], ◌∷◌, ◌++◌, refl}
use Rattle.std.specs.Prelude.{map}
use Rattle.std.specs.List.{AllByRecursion}
use Rattle.wasm_syntax.specs.declared.types.FunctionType.{FunctionType}
use Rattle.wasm_syntax.specs.declared.module.Module.{Module}
use Rattle.wasm_syntax.specs.declared.module.Function.{Function}
use Rattle.wasm_rules.specs.Types.{imported_functions}
use Rattle.wasm_syntax.specs.rules.Modules.{function_type_of}
use Rattle.wasm_rules.specs.Validity.{AreTypesAt, IsFunctionValid, IsValid, memories_of}
use Rattle.wasm_rules.specs.Configuration.{Callee, Imported, Own, Program}
use Rattle.wasm_rules.specs.Instantiation.{AreCallees, IsProgram, least_pages_of, most_pages_of}

-- of its own functions
own_callees : (m : Module) (functions : List FunctionType) (own : List Function)
    → AllByRecursion (IsFunctionValid m functions) own → (callees : List Callee)
    × AreCallees m [] own callees
own_callees m functions [] v = ([], tt)
own_callees m functions (f ∷ own) v =
    let others = own_callees m functions own v.1 in
    let here = v.0 in
    (Own here.0 f.code.locals here.1 ∷ others.0, (here.2, refl, here.3, others.1))

-- and of the imported ones before them
all_callees : (m : Module) (functions : List FunctionType) (imported : List ℕ) (own : List Function)
    (fs : List FunctionType) → AreTypesAt m.types (imported ++ map function_type_of own) fs
    → AllByRecursion (IsFunctionValid m functions) own → (callees : List Callee)
    × AreCallees m imported own callees
all_callees m functions [] own fs t v = own_callees m functions own v
all_callees m functions (x ∷ imported) own [] t v = absurd t
all_callees m functions (x ∷ imported) own (f ∷ fs) t v =
    let others = all_callees m functions imported own fs t.1 v in
    (Imported f ∷ others.0, (t.0, others.1))

pub has_program : {m : Module} (pages : ℕ) → IsValid m → (program : Program) × IsProgram m pages
    program
has_program {m} pages v =
    let callees =
    all_callees m v.functions (imported_functions m.imports) m.functions v.functions
    v.function_types v.bodies in (
      record {
        types = m.types;
        functions = callees.0;
        least_pages = least_pages_of (memories_of m);
        most_pages = most_pages_of (memories_of m) pages;
      },
      record {
        types = refl;
        functions = callees.1;
        least_pages = refl;
        most_pages = refl;
      },
    )
