-- A valid module begins as one process at most.
use Rattle.std.proofs.Common.{◌≡◌, ◌≢◌, inl, inr, ℕ, List, [], ◌∷◌, Option, Some, None, refl, sym}
use Rattle.std.proofs.Common.{ap, ◌∙◌, subst, if◌then◌else◌}
use Rattle.std.specs.Prelude.{codes}
use Rattle.std.specs.List.{AllByRecursion}
use Rattle.wasm_syntax.specs.declared.module.Module.{Module}
use Rattle.wasm_syntax.specs.declared.module.Import.{Import}
use Rattle.wasm_syntax.specs.declared.module.Export.{Export}
use Rattle.wasm_syntax.specs.declared.module.ExportItem.{ExportItem}
use Rattle.wasm_syntax.specs.declared.module.ExportItem.TheVariants as export
use Rattle.wasm_rules.specs.Validity.{HaveDistinctNames, IsValid}
use Rattle.wasm_rules.specs.Configuration.{Program, Store, Configuration}
use Rattle.wasm_rules.specs.Instantiation.{IsProgram, calls_of, Begins}
use Rattle.wasm_rules.specs.Steps.{ReducesTo}
use Rattle.wasm_rules.specs.Linking.{Exports}
use Rattle.wasm_rules.proofs.OneProgram.{one_program}
use Rattle.wasm_rules.proofs.OneRun.{reduces_once}
use Rattle.wasm_rules.proofs.OneStore.{store_once}
use Rattle.wasi_abi.specs.declared.call.Call.{Call}
use Rattle.wasi_abi.specs.rules.Configs.{Settings}
use Rattle.wasi_abi.specs.rules.Calls.{name_of}
use Rattle.file_tree.specs.rules.Files.{is_same_name}
use Rattle.process_rules.specs.Processes.{ProcessState, Guest, AreCalls, IsStart, closed, host_of}
use Rattle.wasi_abi.proofs.CallLemmas.{name_of-injective as one_name}

-- ---- the program

program_once : (m : Module) (pages : ℕ) (p q : Program) → IsProgram m pages p → IsProgram m pages q
    → p ≡ q
program_once m pages p q a b = one_program m pages pages p q a b (a.most_pages ∙ sym b.most_pages)

-- ---- the calls

abbrev pub named : List Call → List ℕ → Option Call
named [] name = None
named (c ∷ calls) name = if is_same_name (name_of c) name then Some c else named calls name

pub calls_once : (imports : List Import) (a b : List Call) → AreCalls imports a → AreCalls imports b
    → a ≡ b
calls_once [] [] [] h k = refl
calls_once [] [] (d ∷ b) h k = absurd k
calls_once [] (c ∷ a) b h k = absurd h
calls_once (i ∷ imports) [] b h k = absurd h
calls_once (i ∷ imports) (c ∷ a) [] h k = absurd k
calls_once (i ∷ imports) (c ∷ a) (d ∷ b) h k =
    let same : c ≡ d = one_name c d (sym h.1 ∙ k.1) in
    let others = calls_once imports a b h.2 k.2 in
    cc

-- ---- the entry

-- a name that is exported is not among the other ones
not_again : (e : Export) (exports : List Export) (name : List ℕ) (item : ExportItem) → e.name ≡ name
    → AllByRecursion (λ (other : Export). e.name ≢ other.name) exports → Exports exports name item
    → ⊥
not_again e [] name item same h k = k
not_again e (f ∷ exports) name item same h (inl k) = h.0 (same ∙ sym k.0)
not_again e (f ∷ exports) name item same h (inr k) = not_again e exports name item same h.1 k

pub entry_once : (exports : List Export) (name : List ℕ) (a b : ExportItem)
    → HaveDistinctNames exports → Exports exports name a → Exports exports name b → a ≡ b
entry_once [] name a b d h k = absurd h
entry_once (e ∷ exports) name a b d (inl h) (inl k) = sym h.1 ∙ k.1
entry_once (e ∷ exports) name a b d (inl h) (inr k) = absurd (not_again e exports name b h.0 d.0 k)
entry_once (e ∷ exports) name a b d (inr h) (inl k) = absurd (not_again e exports name a k.0 d.0 h)
entry_once (e ∷ exports) name a b d (inr h) (inr k) = entry_once exports name a b d.1 h k

-- ---- the beginning

abbrev pub guest_of : Program → List Call → Guest
guest_of program calls = record { program = program; calls = calls }

guest_is : (a b : Guest) → a.program ≡ b.program → a.calls ≡ b.calls → a ≡ b
guest_is a b p q = let whole : guest_of a.program a.calls ≡ guest_of b.program b.calls = rw (
  p,
  q,
) refl in whole

abbrev pub begun : Store → List ℕ → Configuration
begun store later = record { store = store; thread = []; later = later }

first_once : (m : Module) (pages x y : ℕ) (p : Program) (c d : Configuration) → x ≡ y
    → Begins m pages x p c → Begins m pages y p d → c ≡ d
first_once m pages x y p c d e a b =
    let same : a.store ≡ b.store = store_once m a.store b.store a.is_store b.is_store in
    let begin : begun a.store (calls_of m.start x) ≡ begun b.store (calls_of m.start y) =
    rw (same, e) refl in
    reduces_once p (begun a.store (calls_of m.start x)) c d a.reduces
    (subst (λ z. ReducesTo p z d) (sym begin) b.reduces)

pub item_number : (x y : ℕ) → export.Function x ≡ export.Function y → x ≡ y
item_number x y e = cc

pub start_once : (m : Module) (config : Settings) (g h : Guest) (p q : ProcessState) → IsValid m
    → IsStart m config g p → IsStart m config h q → (g ≡ h) × (p ≡ q)
start_once m config g h p q v a b =
    let programs : g.program ≡ h.program =
    program_once m config.pages g.program h.program a.begins.is_program b.begins.is_program in
    let calls : g.calls ≡ h.calls = calls_once m.imports g.calls h.calls a.calls b.calls in
    let entries : a.entry ≡ b.entry =
    item_number a.entry b.entry (entry_once m.exports (codes "_start") (export.Function a.entry)
    (export.Function b.entry) v.names a.exported b.exported) in
    let begins : Begins m config.pages b.entry g.program b.first =
    subst (λ z. Begins m config.pages b.entry z b.first) (sym programs) b.begins in
    let firsts : a.first ≡ b.first =
    first_once m config.pages a.entry b.entry g.program a.first b.first entries a.begins begins
    in (
      guest_is g h programs calls,
      a.is
          ∙ ap (λ c. closed (record {
            configuration = c;
            host = host_of config;
            steps = 0;
            answers = 0;
            requests = 0;
            ended = None;
          })) firsts ∙ sym b.is,
    )
