use Rattle.std.proofs.Common.{◌++◌, take, sym, subst, append_assoc}
use Rattle.wasm_validate.proofs.PartLemmas.Lookups.{is_false}
use Rattle.machine_frame.specs.laws.Fitting.{AreWordsOf}
use Rattle.machine.proofs.loading.typed_words.are_slots.Goals as goal

pub returns-in_default : goal.returns-in_default
returns-in_default c =
    let a = c.args.parameters.now in
    let b = c.args.declared.now in
    let types = take c.args.count c.args.operands.now in (
      λ t. absurd (is_false t),
      λ h. absurd (c.in_default.ensures (b ++ types)
          (subst (λ z. AreWordsOf z c.args.slots.now) (append_assoc a b types) h)),
    )

pub returns-in_default-words_behind : goal.returns-in_default-words_behind
returns-in_default-words_behind c =
    let a = c.args.parameters.now in
    let b = c.args.declared.now in
    let types = take c.args.count c.args.operands.now in
    let first = c.in-Some.ensures (b ++ types) in (
      λ t. absurd (is_false t),
      λ h. absurd (c.in_default-words_behind.ensures types
          (first.0 (subst (λ z. AreWordsOf z c.args.slots.now) (append_assoc a b types) h))),
    )

pub returns : goal.returns
returns c =
    let a = c.args.parameters.now in
    let b = c.args.declared.now in
    let types = take c.args.count c.args.operands.now in
    let first = c.in-Some.ensures (b ++ types) in
    let second = c.in-Some-words_behind.ensures types in
    let third = c.are_operands.ensures in (
      λ t. subst (λ z. AreWordsOf z c.args.slots.now) (sym (append_assoc a b types))
          (first.1 (second.1 (third.0 t))),
      λ h. third.1 (second.0
          (first.0 (subst (λ z. AreWordsOf z c.args.slots.now) (append_assoc a b types) h))),
    )
