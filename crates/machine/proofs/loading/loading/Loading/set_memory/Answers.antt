use Rattle.std.proofs.Common.{◌≡◌, ℕ, IfErr, sym, ap, ◌∙◌, subst}
use Rattle.wasm_syntax.specs.declared.module.Module.{Module}
use Rattle.wasm_rules.specs.Instantiation.{least_pages_of}
use Rattle.machine.specs.rules.Values.{MachineValue, least_of}
use Rattle.machine.specs.rules.Loading.{BytesDenied}
use Rattle.machine.proofs.LoadingLemmas.Parts.{memory_loading}
use Rattle.machine.proofs.loading.loading.Loading.set_memory.Goals as goal

-- the first of the module's own memories is the only one
least_is : (c : goal.After-set_bytes)
    → c.first_pages-least.result ≡ least_of c.self.inside.code.«module»
least_is c =
    c.first_pages-least.ensures.least
    ∙ ap least_pages_of (c.as_slice.ensures
    ∙ ap (λ (m : Module). m.memories) c.module.ensures.same ∙ sym c.self.invariant.own)

pub returns-clause-refused : goal.returns-clause-refused
returns-clause-refused c =
    let P : ℕ → ℕ → Type 0 =
    λ least most. IfErr c.set_bytes.result (BytesDenied c.args.bytes.now least most) in
    let least = least_is c ∙ ap (λ (v : MachineValue). least_of v.guest) c.self.view_is in
    let most = c.self.invariant.limit ∙ ap (λ (v : MachineValue). v.most_pages) c.self.view_is in
    subst (λ n. P n c.args.self.now.most_pages) least
    (subst (λ n. P c.first_pages-least.result n) most c.set_bytes.ensures.refused)

pub invariant_of-self : goal.invariant_of-self
invariant_of-self c =
    memory_loading c.set_bytes.new.memory c.args.bytes.now c.set_bytes.result c.self.invariant
    (least_is c) c.set_bytes.ensures.bytes c.set_bytes.ensures.limit c.set_bytes.ensures.enough
    c.set_bytes.ensures.kept
