-- A module has one list of function types, and one program under a limit of pages.
use Rattle.std.proofs.Common.{◌≡◌, ℕ, List, [], ◌∷◌, refl, sym, ◌∙◌}
use Rattle.wasm_syntax.specs.declared.types.FunctionType.{FunctionType}
use Rattle.wasm_syntax.specs.declared.module.Module.{Module}
use Rattle.wasm_syntax.specs.declared.module.Function.{Function}
use Rattle.wasm_rules.specs.Types.{imported_functions}
use Rattle.wasm_rules.specs.Validity.{AreTypesAt}
use Rattle.wasm_rules.specs.Configuration.{Callee, Imported, Own, Program}
use Rattle.wasm_rules.specs.Instantiation.{AreCallees, IsProgram}
use Rattle.wasm_rules.proofs.OneSequence.{one_sequence}

-- the types at these indices are one list at most
pub one_list : (types : List FunctionType) (indices : List ℕ) (fs gs : List FunctionType)
    → AreTypesAt types indices fs → AreTypesAt types indices gs → fs ≡ gs
one_list types [] [] [] h k = refl
one_list types [] (f ∷ fs) gs h k = absurd h
one_list types [] [] (g ∷ gs) h k = absurd k
one_list types (x ∷ indices) [] gs h k = absurd h
one_list types (x ∷ indices) (f ∷ fs) [] h k = absurd k
one_list types (x ∷ indices) (f ∷ fs) (g ∷ gs) h k =
    let p = h.0 in let q = k.0 in let same : f ≡ g = cc in
    let others = one_list types indices fs gs h.1 k.1 in cc

callees_once : (m : Module) (imported : List ℕ) (own : List Function) (a b : List Callee)
    → AreCallees m imported own a → AreCallees m imported own b → a ≡ b
callees_once m (x ∷ imported) own [] b h k = absurd h
callees_once m (x ∷ imported) own (Own signature declared body ∷ a) b h k = absurd h
callees_once m (x ∷ imported) own (Imported signature ∷ a) [] h k = absurd k
callees_once m (x ∷ imported) own (Imported signature ∷ a) (Own signature' declared body
    ∷ b) h k = absurd k
callees_once m (x ∷ imported) own (Imported signature ∷ a) (Imported signature' ∷ b) h k =
    let p = h.0 in let q = k.0 in let same : signature ≡ signature' = cc in
    let others = callees_once m imported own a b h.1 k.1 in cc
callees_once m [] [] [] [] h k = refl
callees_once m [] [] [] (Imported signature ∷ b) h k = absurd k
callees_once m [] [] [] (Own signature declared body ∷ b) h k = absurd k
callees_once m [] [] (Imported signature ∷ a) b h k = absurd h
callees_once m [] [] (Own signature declared body ∷ a) b h k = absurd h
callees_once m [] (f ∷ own) [] b h k = absurd h
callees_once m [] (f ∷ own) (Imported signature ∷ a) b h k = absurd h
callees_once m [] (f ∷ own) (Own signature declared body ∷ a) [] h k = absurd k
callees_once m [] (f ∷ own) (Own signature declared body ∷ a) (Imported signature'
    ∷ b) h k = absurd k
callees_once m [] (f ∷ own) (Own signature declared body ∷ a)
    (Own signature' declared' body' ∷ b) h k =
    let p = h.0 in let q = k.0 in let d = h.1 in let e = k.1 in
    let same_signature : signature ≡ signature' = cc in
    let same_declared : declared ≡ declared' = cc in
    let same_body : body ≡ body' = one_sequence f.code.body body body' h.2 k.2 in
    let others = callees_once m [] own a b h.3 k.3 in
    cc

abbrev pub program_of : List FunctionType → List Callee → ℕ → ℕ → Program
program_of types functions least most = record {
  types = types;
  functions = functions;
  least_pages = least;
  most_pages = most;
}

program_is : (p q : Program) → p.types ≡ q.types → p.functions ≡ q.functions
    → p.least_pages ≡ q.least_pages → p.most_pages ≡ q.most_pages → p ≡ q
program_is p q a b c d = let whole : program_of p.types p.functions p.least_pages p.most_pages
    ≡ program_of q.types q.functions q.least_pages q.most_pages = rw (a, b, c, d) refl in whole

-- its programs differ in nothing but how many pages memory may have
pub one_program : (m : Module) (pages pages' : ℕ) (p q : Program) → IsProgram m pages p
    → IsProgram m pages' q → p.most_pages ≡ q.most_pages → p ≡ q
one_program m pages pages' p q a b most =
    program_is p q (a.types
    ∙ sym b.types) (callees_once m (imported_functions m.imports) m.functions p.functions
    q.functions a.functions b.functions) (a.least_pages ∙ sym b.least_pages) most
