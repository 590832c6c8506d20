-- The calls that a module's imports name.
use Rattle.std.proofs.Common.{◌≡◌, ℕ, Bool, true, false, cond, List, [], ◌∷◌, Option, Some, None}
use Rattle.std.proofs.Common.{refl, sym, ap, ◌∙◌, subst}
use Rattle.std.specs.Prelude.{map, reverse, IsSome}
use Rattle.std.specs.List.{AllByRecursion, find}
use Rattle.std.specs.Option.{option_map}
use Rattle.std.specs.Str.{bytes_eq}
use Rattle.std.proofs.lemmas.Slice.Eq.{bytes_eq-Decides}
use Rattle.std.proofs.lemmas.List.{reverse-reverse}
use Rattle.wasm_syntax.specs.declared.types.ValueType.{ValueType}
use Rattle.wasm_syntax.specs.declared.types.ValueType.TheVariants.{I32, I64}
use Rattle.wasm_syntax.specs.declared.types.FunctionType.{FunctionType}
use Rattle.wasm_syntax.specs.declared.value.Value.{Value}
use Rattle.wasm_syntax.specs.declared.value.Value.TheVariants as value
use Rattle.wasm_syntax.specs.declared.module.Import.{Import}
use Rattle.wasm_rules.specs.Types.{AreOf, number_in, takes_of}
use Rattle.wasm_rules.specs.Linking.{IsOffered}
use Rattle.wasm_rules.proofs.Soundness.Values.{reverse_are}
use Rattle.machine_slots.proofs.Families.{map-reverse}
use Rattle.wasi_abi.specs.declared.call.Call.{Call}
use Rattle.wasi_abi.specs.rules.Calls.{module_name, all_calls, name_of, parameters_of, call_type_of}
use Rattle.wasi_abi.proofs.CallLemmas.{name_of-injective as one_name}
use Rattle.wasi_calls.specs.rules.Calls.{AreArguments}
use Rattle.machine.specs.rules.Offers.{offered_call, offer, imported_call}
use Rattle.machine.specs.rules.Offers.{AreImportedCalls as AreOffered}
use Rattle.machine.proofs.InstanceLemmas.Offered.{has_call}
use Rattle.process_rules.specs.Processes.{AreCalls}
use Rattle.process_rules.specs.laws.Laws.{OffersCalls}
use Rattle.process_rules.proofs.OneStart.{calls_once}

-- ---- what is offered

found_named : (name : List ℕ) (cs : List Call) (c : Call)
    → find (λ d. bytes_eq (name_of d) name) cs ≡ Some c → name ≡ name_of c
found_named name [] c e = absurd (cc)
found_named name (d ∷ cs) c e =
    of_test (found_named name cs c) (bytes_eq (name_of d) name) refl e
  where
    of_test : (find (λ d. bytes_eq (name_of d) name) cs ≡ Some c → name ≡ name_of c) → (b : Bool)
        → bytes_eq (name_of d) name ≡ b
        → cond b (Some d) (find (λ d. bytes_eq (name_of d) name) cs) ≡ Some c → name ≡ name_of c
    of_test others true t e =
        let same : d ≡ c = cc in
        sym ((bytes_eq-Decides (name_of d) name).0 t) ∙ ap (λ (x : Call). name_of x) same
    of_test others false t e = others e

record IsOfferedAs (from name : List ℕ) (c : Call) : Type 0 where
  pub from_is : from ≡ module_name
  pub named : name ≡ name_of c

of_module : (from name : List ℕ) (c : Call) (b : Bool) → bytes_eq from module_name ≡ b
    → cond b (find (λ d. bytes_eq (name_of d) name) all_calls) None ≡ Some c
    → IsOfferedAs from name c
of_module from name c true t e =
    record {
      from_is = (bytes_eq-Decides from module_name).0 t;
      named = found_named name all_calls c e;
    }
of_module from name c false t e = absurd (cc)

offered_as : (from name : List ℕ) (c : Call) → offered_call from name ≡ Some c
    → IsOfferedAs from name c
unfolding offered_call
offered_as from name c e = of_module from name c (bytes_eq from module_name) refl e

-- what is offered under the name of a call is that call, and has its type
pub offers_calls : OffersCalls offer
unfolding offer
offers_calls c signature e = by_call (offered_call module_name (name_of c)) refl e where
  by_call : (o : Option Call) → offered_call module_name (name_of c) ≡ o
      → option_map call_type_of o ≡ Some signature → signature ≡ call_type_of c
  by_call None t e = absurd (cc)
  by_call (Some d) t e =
      let same : c ≡ d = one_name c d (offered_as module_name (name_of c) d t).named in
      let there : call_type_of d ≡ signature = cc in
      sym there ∙ ap call_type_of (sym same)

-- ---- the calls of a module

-- what is offered to imports are their calls of the rules
are_calls : (imports : List Import) (calls : List Call) → AreOffered imports calls
    → AreCalls imports calls
are_calls [] [] e = tt
are_calls [] (c ∷ calls) e = absurd (cc)
are_calls (i ∷ imports) [] e = absurd (cc)
are_calls (i ∷ imports) (c ∷ calls) e =
    let head : imported_call i ≡ Some c = cc in
    let tail : map imported_call imports ≡ map Some calls = cc in
    let first = offered_as i.module_name i.name c head in
    (first.from_is, first.named, are_calls imports calls tail)

pub same_calls : (imports : List Import) (offered calls : List Call) → AreOffered imports offered
    → AreCalls imports calls → offered ≡ calls
same_calls imports offered calls h k =
    calls_once imports offered calls (are_calls imports offered h) k

-- a module whose imports are offered has calls
pub some_calls : (types : List FunctionType) (imports : List Import)
    → AllByRecursion (IsOffered offer types) imports → (calls : List Call) × AreCalls imports calls
some_calls types [] h = ([], tt)
some_calls types (i ∷ imports) h =
    let others = some_calls types imports h.1 in
    with_call (imported_call i) refl (has_call types i h.0) others
  where
    with_call : (o : Option Call) → imported_call i ≡ o → IsSome o
        → (calls : List Call) × AreCalls imports calls
        → (calls : List Call) × AreCalls (i ∷ imports) calls
    with_call None e some others = absurd (cc)
    with_call (Some c) e some others =
        let first = offered_as i.module_name i.name c e in
        (c ∷ others.0, (first.from_is, first.named, others.1))

-- ---- arguments

are_arguments : (types : List ValueType) (values : List Value) → AreOf types values
    → AreArguments types (map number_in values)
are_arguments [] [] h = tt
are_arguments [] (v ∷ values) h = absurd h
are_arguments (I32 ∷ types) [] h = absurd h
are_arguments (I64 ∷ types) [] h = absurd h
are_arguments (I32 ∷ types) (value.I32 n ∷ values) h = (h.0, are_arguments types values h.1)
are_arguments (I32 ∷ types) (value.I64 n ∷ values) h = absurd h.0
are_arguments (I64 ∷ types) (value.I32 n ∷ values) h = absurd h.0
are_arguments (I64 ∷ types) (value.I64 n ∷ values) h = (h.0, are_arguments types values h.1)

pub arguments_typed : (c : Call) (operands : List Value)
    → AreOf (takes_of (call_type_of c)) operands
    → AreArguments (parameters_of c) (reverse (map number_in operands))
arguments_typed c operands h =
    let there : AreOf (reverse (reverse (parameters_of c))) (reverse operands) =
    reverse_are (takes_of (call_type_of c)) operands h in
    let P : List ValueType → Type 0 = λ types. AreOf types (reverse operands) in
    let forwards =
    are_arguments (parameters_of c) (reverse operands)
    (subst P (reverse-reverse (parameters_of c)) there) in
    let Q : List ℕ → Type 0 = λ numbers. AreArguments (parameters_of c) numbers in
    subst Q (map-reverse number_in operands) forwards
