use Rattle.std.proofs.Common.{◌≡◌, ℕ, List, [], ◌∷◌, ◌++◌, sym, ap, ◌∙◌, subst, arith}
use Rattle.wasi_abi.proofs.ByteLemmas.{all_bytes}
use Rattle.disk_layout.specs.rules.Spelled.{TextFirst, TextsFirst}
use Rattle.disk_layout.proofs.ReadingLemmas.SpellingLemmas.{none_read, one_more_read}
use Rattle.disk_layout.proofs.ReadingLemmas.SpellingLemmas.{nothing_to_read, all_read}
use Rattle.disk_layout.proofs.reading.texts.texts_from.Goals as goal

pub loop-init : goal.loop-init
loop-init c =
    let bytes = c.args.bytes.now in
    none_read bytes c.u32_from-count.result c.new-texts.result.items
    (all_bytes bytes (λ k. omega (arith, c.type_inv.bytes k))) c.if-bytes-lt4.false
    c.u32_from-count.ensures c.new-texts.ensures.items

pub returns-in_default : goal.returns-in_default
returns-in_default c =
    nothing_to_read c.args.bytes.now c.u32_from-count.result c.loop.counter c.loop.texts.items
    c.loop.rest.now c.loop-test.true c.loop.invariant c.in_default.ensures

pub loop-preserved : goal.loop-preserved
loop-preserved c =
    let text : c.from_vec-text.result ≡ c.in-Some.text.now = c.from_vec-text.ensures
    ∙ c.in_ok-from_slice.ensures.items in
    let items = c.in_ok-push.ensures.items ∙ ap (λ (t : List ℕ). c.loop.texts.items ++ t ∷ []) text
    in
    let first : TextFirst c.loop.rest.now c.in-Some.text.now c.in-Some.behind.now =
    c.in-Some.ensures in
    one_more_read c.args.bytes.now c.u32_from-count.result c.loop.counter c.loop.texts.items
    c.loop.rest.now c.in-Some.text.now c.in-Some.behind.now c.push.new.self.items
    c.loop-test.true c.loop.invariant first items

pub returns : goal.returns
returns c =
    let bytes = c.args.bytes.now in
    let first = all_read bytes c.u32_from-count.result c.loop.counter c.loop.texts.items
    c.loop.rest.now c.if-count-gt-MOST_TEXTS.false (let t = c.loop-test.false in
    let e = c.loop.auto.counter-end in omega arith) c.loop.invariant in
    subst (λ (l : List (List ℕ)). TextsFirst bytes l c.loop.rest.now) (sym c.from_vec.ensures) first
