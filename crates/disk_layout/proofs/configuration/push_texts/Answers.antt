use Rattle.std.proofs.Common.{◌++◌, length, ap, ◌∙◌, arith}
use Rattle.wasi_abi.specs.rules.Layouts.{u16_bytes, u32_bytes}
use Rattle.disk_layout.proofs.TextLemmas.{texts_pushed}
use Rattle.disk_layout.proofs.configuration.push_texts.Goals as goal

pub loop-text-preserved : goal.loop-text-preserved
loop-text-preserved c =
    let texts = c.args.texts.now in
    let text = c.text-item.result in
    let before = c.loop-text.bytes.items in
    let mid = c.push_u16.new.bytes.items in
    let mid-is = c.in_ok-push_u16.ensures ∙ ap (λ n. before ++ u16_bytes n) c.len.ensures
    ∙ ap (λ l. before ++ u16_bytes (length l)) c.text-item.is in
    let new-is = c.in_ok-extend_from_slice.ensures.items ∙ ap (λ l. mid ++ l) (c.as_slice.ensures
    ∙ c.text-item.is) in
    record {
      so_far = texts_pushed texts c.loop-text.text-index text c.args.bytes.now.items
          (u32_bytes (length texts)) before mid c.extend_from_slice.new.self.items
          (omega (arith, c.loop-text-test.true)) c.loop-text.invariant.so_far mid-is new-is;
    }
