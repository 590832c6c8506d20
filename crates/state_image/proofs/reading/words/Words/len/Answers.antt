use Rattle.std.proofs.Common.{length, sym, ap, ◌∙◌}
use Rattle.state_image.proofs.WordLemmas.{length_numbers}
use Rattle.state_image.proofs.reading.words.Words.len.Goals as goal

pub returns : goal.returns
returns c =
    sym (length_numbers c.self.inside.count c.self.inside.bytes.now) ∙ ap length c.self.view_is
