use Rattle.std.proofs.Common.{◌∙◌}
use Rattle.wasm_places.proofs.Texts.{decides}
use Rattle.wasm_places.proofs.reader.is_text.Goals as goal

pub returns : goal.returns
returns c = c.is_ok.ensures.value ∙ decides _ c.args.bytes.now _ _ c.from_utf8.ensures.cases
